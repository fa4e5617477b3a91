-- The tested value of a case is opened.
use Rattle.std.proofs.Common.{◌≡◌, ℕ, ◌+◌, List, [], ◌∷◌, ◌++◌, drop, min, Some, None, sym, refl, ap, ◌∙◌, subst, arith}
use Rattle.cells.specs.Meaning as store
use Rattle.cells.specs.Meaning.{Cells}
use Rattle.cells.specs.declared.records.CellRecord.{CellRecord}
use Rattle.cells.specs.declared.values.Value.{Value}
use Rattle.cells.specs.declared.values.Value.TheVariants.{Cell}
use Rattle.data.proofs.Moves.{unbuild, built_live}
use Rattle.data.proofs.Outs.{not_plain}
use Rattle.data.specs.Standing.{Plain}
use Rattle.data.specs.Taking.{Out, out_plain, out_cell}
use Rattle.data.specs.Trees.{Tree, int, bool, symbol, unit, function, built, Trees, none, more}
use Rattle.grammar.specs.Trees.{PatternPart, Branches}
use Rattle.handing.proofs.Patterns.{bound_names, scope_below}
use Rattle.handing.proofs.Views.{in_hand, waiting_for, on_tested}
use Rattle.handing.specs.Binding.{BindsFields}
use Rattle.machine.proofs.Resting.{changed}
use Rattle.machine.specs.Holding.{names, kept, capped}
use Rattle.machine.specs.Mirrors.{Rests, Hands}
use Rattle.machine.specs.Waiting.{PlacedAt, Waits, waits_leaving, waits_tested}
use Rattle.machine.specs.declared.frame.Frame.{Frame as Waiting}
use Rattle.machine.specs.declared.frame.Frame.TheVariants.{Tested, Leaving}
use Rattle.machine.specs.declared.machine.Machine.{Machine}
use Rattle.machine.specs.Holding.{Slot}
use Rattle.program.specs.Programs.{Program}
use Rattle.program.specs.Scopes.{Scope, names_inside}
use Rattle.program.specs.Standing.{past, StandsBranches}
use Rattle.program.specs.declared.code.Code.{Code}
use Rattle.rules.specs.States.{Environment, Frame, Account, case_test, scope_end, gives}
use Rattle.rules.specs.Steps.{stuck, Sizes, binds, bind_parts, tested_handed}
use Rattle.stack.specs.Items.{tops, room_of}
use Rattle.stack.specs.declared.Stack.{Stack}

not_plain_cell : {v : Value} {n : ℕ} {t : Tree} → v ≡ Cell n → Plain v t → ⊥
not_plain_cell {t = t} e p = not_plain (subst (λ v. Plain v t) e p)

-- a cell stands for data
pub tree_of_cell : {m m₀ : Cells} {v : Value} {n : ℕ} {vs : List Value} {t : Tree} {ts : Trees} (Q : Tree → Type 0) → v ≡ Cell n → Out m (v ∷ vs) (more t ts) m₀ → ((c : ℕ) (fields : Trees) → Q (built c fields)) → Q t
tree_of_cell Q e (out_plain p o) g = absurd (not_plain_cell e p)
tree_of_cell Q e (out_cell r i k o) g = g _ _

-- a dead cell stands for nothing
pub dead_cell : {m m₀ : Cells} {v : Value} {n : ℕ} {vs : List Value} {t : Tree} {ts : Trees} → v ≡ Cell n → store.at m n ≡ None → Out m (v ∷ vs) (more t ts) m₀ → ⊥
dead_cell e d (out_plain p o) = absurd (not_plain_cell e p)
dead_cell {m} {n = n} e d (out_cell {n = k} r i l o) =
    let same : k ≡ n = cc in
    let here : store.at m k ≡ None = ap (store.at m) same ∙ d in
    absurd (cc)

module _ (P : Program) (Z : Sizes) (p : ℕ) (bs : Branches) (K : List Frame) (env : Environment) (a : Account) where
  -- what is no cell is not data
  pub no_tested : (t : Tree) {m m₀ : Cells} {v : Value} {vs : List Value} {ts : Trees} → ((n : ℕ) → v ≡ Cell n → ⊥) → Out m (v ∷ vs) (more t ts) m₀ → tested_handed P Z p bs K env a t ≡ stuck
  unfolding tested_handed
  no_tested (int z) n o = refl
  no_tested (bool b) n o = refl
  no_tested (symbol k) n o = refl
  no_tested unit n o = refl
  no_tested (function k) n o = refl
  no_tested (built c fields) {m} {m₀} {v} {vs} {ts} n o = let b = built_live m m₀ v vs c fields ts o in absurd (n b.0 b.2)

-- what waits below a case
pub record Below (P : Program) (cs : List Code) (G : Scope) (p : ℕ) (bs : Branches) (K : List Frame) (i : ℕ) (fs : List Waiting) : Type 0 where
  pub placed : PlacedAt P cs i p
  pub branches : StandsBranches P cs G bs (past P cs (i + 1)) (past P cs i)
  pub waits : Waits P cs G K fs

pub below_case : {P : Program} {cs : List Code} {G : Scope} {p : ℕ} {bs : Branches} {K : List Frame} {i : ℕ} {fs : List Waiting} → Waits P cs G (case_test p bs ∷ K) (Tested i ∷ fs) → Below P cs G p bs K i fs
below_case (waits_tested p b w) = record { placed = p; branches = b; waits = w }

given_more : (given a n : ℕ) → given ≡ capped a → min (min (given + 1) 18446744073709551615 + capped n) 18446744073709551615 ≡ capped (a + (1 + n))
given_more given a n e = omega arith

module _ {P : Program} {Z : Sizes} {m₀ m : Cells} {p : ℕ} {bs : Branches} {K : List Frame} {env : Environment} {a : Account} {vs : List Value} {ts : Trees} {r : Machine} (R : Rests P Z m₀ (case_test p bs ∷ K) env a vs ts r m) where
  -- the fields are bound, and the branch is next
  pub bound_rests : {after : Environment} {n i : ℕ} {others : List Waiting} {answer : _} {m' : Cells} (xs : List PatternPart) (fields : Trees) (fs : Stack Waiting) (ss : Stack Slot) (given : ℕ)
      → bind_parts xs fields env ≡ binds after n → BindsFields (after ++ kept K) n answer (tops ss) m' m₀ → room_of ss ≡ room_of r.slots → room_of fs ≡ room_of r.frames
      → tops fs ≡ Leaving i (names_inside xs) ∷ others → Below P r.script.now.code (names env) p bs K i others → given ≡ min (min (r.given + 1) 18446744073709551615 + capped n) 18446744073709551615
      → Rests P Z m₀ (scope_end p (names_inside xs) ∷ K) after (gives (1 + n) a) [] none (changed r fs ss r.control r.taken given) m'
  bound_rests {after} {n} {i} {others} xs fields fs ss given b B sroom froom ftops w g =
      let cs = r.script.now.code in
      let below : drop (names_inside xs) (names after) ≡ names env = ap (drop (names_inside xs)) (bound_names xs fields env b) ∙ scope_below xs (names env) in
      record {
        ready = R.ready;
        frames_room = froom ∙ R.frames_room;
        slots_room = sroom ∙ R.slots_room;
        frames = subst (Waits P cs (names after) (scope_end p (names_inside xs) ∷ K)) (sym ftops) (waits_leaving w.placed (subst (λ G. Waits P cs G K others) (sym below) w.waits));
        full = B.full;
        data_held = B.data_held;
        cells = R.cells;
        input = R.input;
        taken = R.taken;
        given = g ∙ given_more r.given a.given n R.given;
      }

-- a case waits, and the value is data
pub on_opened : {P : Program} {Z : Sizes} {m₀ m : Cells} {f : Frame} {K : List Frame} {env : Environment} {a : Account} {t : Tree} {i n : ℕ} {v : Value} {r : Machine} (Q : Frame → Tree → Type 0) → v ≡ Cell n
    → ((p : ℕ) (bs : Branches) (c : ℕ) (vs : Trees) → Hands P Z m₀ (case_test p bs) K env a (built c vs) (Tested i) v r m → Q (case_test p bs) (built c vs)) → Hands P Z m₀ f K env a t (Tested i) v r m → Q f t
on_opened {P} {Z} {m₀} {m} {f} {K} {env} {a} {t} {i} {n} {v} {r} Q e g H =
    on_tested (λ f. Hands P Z m₀ f K env a t (Tested i) v r m → Q f t) (waiting_for H)
    (λ p bs here B w H. tree_of_cell (λ t. Hands P Z m₀ (case_test p bs) K env a t (Tested i) v r m → Q (case_test p bs) t) e (in_hand H.value H.mirrored).data_held (λ c vs H. g p bs c vs H) H) H

-- the branches stand where they are looked for
pub branches_at : {P : Program} {cs : List Code} {G : Scope} {bs : Branches} {first end : ℕ} (i : ℕ) → first ≡ past P cs (i + 1) → end ≡ past P cs i → StandsBranches P cs G bs (past P cs (i + 1)) (past P cs i) → StandsBranches P cs G bs first end
branches_at {P} {cs} {G} {bs} {first} i e f S = subst (StandsBranches P cs G bs first) (sym f) (subst (λ k. StandsBranches P cs G bs k (past P cs i)) (sym e) S)

-- its constructor is that of the record that was read
pub constructor_read : {m m₀ : Cells} {v : Value} {n c : ℕ} {q : CellRecord} {vs : List Value} {fields ts : Trees} → v ≡ Cell n → store.at m n ≡ Some q → Out m (v ∷ vs) (more (built c fields) ts) m₀ → q.constructor ≡ c
constructor_read {m} {m₀} {n = n} {c = c} {q = q} {vs = vs} {fields = fields} {ts = ts} e h o =
    sym (unbuild m m₀ n q vs c fields ts h (subst (λ v. Out m (v ∷ vs) (more (built c fields) ts) m₀) e o)).0
