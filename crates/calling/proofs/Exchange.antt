-- What a call reads of the input, and what it prints.
use Rattle.std.proofs.Common.{◌≡◌, ℕ, ◌<◌, ◌≤◌, Bool, true, false, cond, leb, List, ◌++◌, length, drop, Some, None, Bor, refl, ap}
use Rattle.std.proofs.lemmas.Bool.{leb-true, leb-false}
use Rattle.basis.specs.Printing.{fitting, over}
use Rattle.cells.specs.Meaning.{Cells}
use Rattle.machine.specs.Mirrors.{Under}
use Rattle.machine.specs.declared.machine.Machine.{Machine}
use Rattle.program.specs.Programs.{Program}
use Rattle.rules.specs.States.{Environment, Frame, Account, leaves}
use Rattle.rules.specs.Steps.{Sizes}

-- bytes that fit
pub record Fits (bytes room : List ℕ) (n : ℕ) : Type 0 where
  pub size : n ≡ length bytes
  pub within : length bytes ≤ length room
  pub after : over bytes room ≡ bytes ++ drop (length bytes) room

fits_by : (b : Bool) (bytes room : List ℕ) (n : ℕ) → leb (length bytes) (length room) ≡ b → Some n ≡ cond b (Some (length bytes)) None → Fits bytes room n
fits_by true bytes room n e h = record { size = cc; within = leb-true _ _ e; after = ap (λ b. cond b (bytes ++ drop (length bytes) room) room) e }
fits_by false bytes room n e h = absurd (cc)

pub fits : (bytes room : List ℕ) (n : ℕ) → Some n ≡ fitting bytes room → Fits bytes room n
fits bytes room n h = fits_by (leb (length bytes) (length room)) bytes room n refl h

fails_by : (b : Bool) (bytes room : List ℕ) → leb (length bytes) (length room) ≡ b → ◌≡◌ {A = _} None (cond b (Some (length bytes)) None) → (length room < length bytes) × (over bytes room ≡ room)
fails_by true bytes room e h = absurd (cc)
fails_by false bytes room e h = (leb-false _ _ e, ap (λ b. cond b (bytes ++ drop (length bytes) room) room) e)

-- bytes that do not fit
pub fits_not : (bytes room : List ℕ) → ◌≡◌ {A = _} None (fitting bytes room) → (length room < length bytes) × (over bytes room ≡ room)
fits_not bytes room h = fails_by (leb (length bytes) (length room)) bytes room refl h

-- the input moves on
pub under_read : {P : Program} {Z : Sizes} {m₀ m : Cells} {n : ℕ} {K : List Frame} {env : Environment} {a : Account} {r : Machine} → Under P Z m₀ n K env a r m → (input : Bor (List ℕ)) (left : List ℕ)
    → input.now ≡ left → Under P Z m₀ n K env (leaves left a) (record { script = r.script; text = r.text; input = input; frames = r.frames; slots = r.slots; control = r.control; taken = r.taken; given = r.given }) m
under_read U input left e = record {
  ready = U.ready;
  frames_room = U.frames_room;
  slots_room = U.slots_room;
  frames = U.frames;
  full = U.full;
  data_held = U.data_held;
  cells = U.cells;
  input = e;
  taken = U.taken;
  given = U.given;
}
