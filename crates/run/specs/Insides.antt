-- How a run in memory stands for a run of the rules, step by step.
use Rattle.std.specs.Prelude.{◌≡◌, ℕ, ◌+◌, ◌*◌, ◌-◌, ◌≤◌, List, ◌++◌, length, take, drop, Some, None, Err, Option, ◌<◌, ◌≢◌, Bool, IsTrue, ◌⊎◌}
use borrow.Rule.Slice.PartMut.{put_mid}
use Rattle.basis.specs.declared.function.Basis.{Basis}
use Rattle.cells.specs.Meaning.{Cells}
use Rattle.machine.specs.Mirrors.{Mirrors, Printed}
use Rattle.machine.specs.declared.control.Control.TheVariants.{Over}
use Rattle.machine.specs.declared.halt.Halt.{Halt}
use Rattle.machine.specs.declared.halt.Halt.TheVariants.{OutputFull as OutputFullHalt, Failed as FailedHalt}
use Rattle.machine.specs.declared.machine.Machine.{Machine}
use Rattle.program.specs.Programs.{Program, program}
use Rattle.rules.specs.declared.answers.End.{End}
use Rattle.rules.specs.declared.answers.End.TheVariants.{Ended, Faulted, Paused, OutputFull}
use Rattle.rules.specs.declared.fault.Fault.{Fault}
use Rattle.rules.specs.declared.fault.FaultKind.{FaultKind}
use Rattle.rules.specs.declared.fault.FaultKind.TheVariants.{AllowanceSpent}
use Rattle.rules.specs.Runs as rules
use Rattle.rules.specs.Runs.{main_of, fault_there, ends, moves, allowed, account_of}
use Rattle.rules.specs.States.{State}
use Rattle.rules.specs.Steps.{Sizes, step, step_place}
use Rattle.rules.proofs.Checked.{types}
use Rattle.rules.proofs.Soundness.{Sound}
use Rattle.run.specs.Openings.{Opening, sizes_of}
use Rattle.run.specs.declared.runs.Run.{Run}
use Rattle.run.specs.declared.stretches.Stop.{Stop}
use Rattle.run.specs.declared.stretches.Stop.TheVariants.{Rested, Halted}
use Rattle.run.specs.declared.stretches.Stretch.{Stretch}
use Rattle.stepping.specs.Speaking.{Spoken}
use Rattle.typing.specs.Scripts.{Allowed}

-- so many steps, which wrote these bytes, before the rest of an advance
abbrev pub before : ℕ → List ℕ → rules.Answer → rules.Answer
before steps bytes o = record { end = o.end; steps = steps + o.steps; bytes = bytes ++ o.bytes; run = o.run }

-- What a turn of an advance comes to: the advance ends so, or a step is taken, which prints so many bytes.
pub data Turn : Type 0 where
  Ends : End → Turn
  Moves : ℕ → Turn

-- past the bytes printed a lent slice is as it was
pub record Spares (n : ℕ) (old new : List ℕ) : Type 0 where
  pub within : n ≤ length old
  pub past : drop n new ≡ drop n old
  pub long : length new ≡ length old

-- the counts do not fall, whatever the store is
pub record Steady (old new : Run) : Type 0 where
  pub steps : old.steps ≤ new.steps
  pub taken : old.machine.taken ≤ new.machine.taken
  pub given : old.machine.given ≤ new.machine.given

-- the run has this fault, at the place of its next step, and is as it was beside
pub record Failed (old : Run) (kind : FaultKind) (function : Option Basis) (e : End) (new : Run) : Type 0 where
  pub fault : Fault
  pub is : (P : Program) (Z : Sizes) (m₀ m : Cells) (s : State) → Mirrors P Z m₀ s old.machine m → fault ≡ fault_there P (step_place (main_of P) s) kind function
  pub answer : e ≡ Faulted fault
  pub now : new ≡ record { machine = old.machine; allowance = old.allowance; steps = old.steps; fault = Some fault }

-- How an advance ends by why no further step is taken, and whether as many are taken as were asked for.
pub data Settled (old : Run) : Stop → Bool → End → Run → Type 0 where
  settled_full : {counted : Bool} → Settled old (Halted OutputFullHalt) counted OutputFull old
  settled_failed : {counted : Bool} {kind : FaultKind} {function : Option Basis} {e : End} {new : Run} → Failed old kind function e new → Settled old (Halted (FailedHalt kind function)) counted e new
  settled_over : {counted : Bool} → old.machine.control ≡ Over → Settled old Rested counted Ended old
  settled_paused : {counted : Bool} → old.machine.control ≢ Over → IsTrue counted → Settled old Rested counted Paused old
  settled_spent : {counted : Bool} {e : End} {new : Run} → old.machine.control ≢ Over → (IsTrue counted → ⊥) → Failed old AllowanceSpent None e new → Settled old Rested counted e new

module _ (o : Opening) where
  -- Of a run opened so: its machine and its store mirror the state, its numbers are those of the rules' run.
  pub record Inside (r : rules.Run) (run : Run) (m : Cells) : Type 0 where
    pub lawful : Allowed o.script
    pub mirrored : Mirrors (program o.script) (sizes_of o) o.cells r.state run.machine m
    pub spoken : Spoken (program o.script) r.state
    pub small : length o.cells ≤ 65535
    -- the state is well typed
    pub sound : Sound (program o.script) (types o.script lawful) r.state
    pub allowance : run.allowance ≡ allowed o.allowance
    pub steps : run.steps ≡ r.steps
    pub fault : run.fault ≡ r.fault
    pub within : r.steps ≤ allowed o.allowance
    -- no step takes more cells than a store has
    pub few : (account_of r.state).taken ≤ r.steps * 65535

  -- What a turn comes to, by what the rules say of it: the slice lent for the output held these bytes, and holds those.
  pub data Turned (old : List ℕ) : rules.Turn → Turn → List ℕ → Run → Cells → Type 0 where
    turned_ends : {e : End} {r : rules.Run} {new : List ℕ} {run : Run} {m : Cells} → new ≡ old → Inside r run m → Turned old (ends e r) (Ends e) new run m
    turned_moves : {bytes new : List ℕ} {n : ℕ} {r : rules.Run} {run : Run} {m : Cells} → n ≡ length bytes → length bytes ≤ length old → new ≡ bytes ++ drop (length bytes) old
        → Inside r run m → Turned old (moves bytes r) (Moves n) new run m

  -- a run while steps are taken: its machine, with the numbers of the rules' run
  abbrev pub run_of : rules.Run → Machine → Run
  run_of r M = record { machine = M; allowance = allowed o.allowance; steps = r.steps; fault = None }

  -- After some turns of an advance of at most so many steps, with room for so many bytes, from the run r: so many steps are taken, these
  -- bytes written, and what is left completes what there is to the whole.
  pub record Underway (r : rules.Run) (count room steps bytes : ℕ) (out : List ℕ) (M : Machine) (m : Cells) : Type 0 where
    pub here : rules.Run
    pub said : List ℕ
    pub same : rules.advance (program o.script) (sizes_of o) (allowed o.allowance) count room r ≡ before steps said (rules.advance (program o.script) (sizes_of o) (allowed o.allowance) (count - steps) (room - bytes) here)
    pub long : length said ≡ bytes
    pub wrote : take bytes out ≡ said
    pub counted : here.steps ≡ r.steps + steps
    pub inside : Inside here (run_of here M) m

  -- Steps that were taken, at most so many: and then the run has ended or that many are taken, or the next step is not taken.
  pub data Stretched (r : rules.Run) (count most : ℕ) (old : List ℕ) : Stretch → List ℕ → Machine → Cells → Type 0 where
    rested : {steps bytes : ℕ} {out : List ℕ} {M : Machine} {m : Cells} → Underway r count (length old) steps bytes out M m → length out ≡ length old → bytes ≤ length out → (M.control ≡ Over) ⊎ (steps ≡ most)
        → Stretched r count most old (record { stop = Rested; steps = steps; bytes = bytes }) out M m
    halted : {steps bytes : ℕ} {out part new : List ℕ} {M M' : Machine} {m m' : Cells} {h : Halt} (U : Underway r count (length old) steps bytes out M m) → length out ≡ length old → bytes ≤ length out
        → steps < most → M.control ≢ Over
        → Printed (program o.script) (sizes_of o) o.cells U.here.state (drop bytes out) (step (program o.script) (sizes_of o) (main_of (program o.script)) U.here.state) (Err h) M' m' part
        → new ≡ put_mid bytes (length out - bytes) out part → Stretched r count most old (record { stop = Halted h; steps = steps; bytes = bytes }) new M' m'
