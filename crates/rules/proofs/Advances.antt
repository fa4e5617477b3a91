-- What every step keeps, every list of advances keeps.
use Rattle.std.proofs.Common.{◌≡◌, ℕ, zero, suc, ◌-◌, Bool, true, false, cond, eqb, leb, List, [], ◌∷◌, length, Some, None, Option, sym, refl, subst}
use Rattle.basis.specs.declared.function.Basis.{Basis}
use Rattle.data.specs.Trees.{Tree}
use Rattle.grammar.specs.Trees.{Expr}
use Rattle.program.specs.Programs.{Program}
use Rattle.rules.specs.declared.answers.End.{End}
use Rattle.rules.specs.declared.answers.End.TheVariants.{Ended, Faulted, Paused, OutputFull}
use Rattle.rules.specs.declared.fault.Fault.{Fault}
use Rattle.rules.specs.declared.fault.FaultKind.{FaultKind}
use Rattle.rules.specs.declared.fault.FaultKind.TheVariants.{Stuck, AllowanceSpent}
use Rattle.rules.specs.Histories.{Call, answer, answers, reached}
use Rattle.rules.specs.Runs.{Run, main_of, stepped, Turn, ends, moves, turn, faulted, on_step, on_count, on_end, on_fault, is_over, Answer, stopped, after, advance}
use Rattle.rules.specs.States.{Environment, Frame, Account, State, st, opened, enter, finished, over}
use Rattle.rules.specs.Steps.{Outcome, goes, fails, stuck, Sizes, step}

-- A property of states that every step keeps, and one of the kinds of faults that steps meet.
abbrev pub OutcomeHas : (State → Type 0) → (FaultKind → Type 0) → Outcome → Type 0
OutcomeHas S Q (goes bytes s) = S s
OutcomeHas S Q (fails kind f) = Q kind
OutcomeHas S Q stuck = Q Stuck

-- a state that is not over
pub data Going : State → Type 0 where
  going_opened : {K : List Frame} {env : Environment} {a : Account} → Going (st K env opened a)
  going_enter : {K : List Frame} {env : Environment} {e : Expr} {a : Account} → Going (st K env (enter e) a)
  going_finished : {K : List Frame} {env : Environment} {v : Tree} {a : Account} → Going (st K env (finished v) a)

abbrev pub FaultHas : (FaultKind → Type 0) → Option Fault → Type 0
FaultHas Q None = Unit {0}
FaultHas Q (Some f) = Q f.kind

abbrev pub EndHas : (FaultKind → Type 0) → End → Type 0
EndHas Q Ended = Unit {0}
EndHas Q (Faulted f) = Q f.kind
EndHas Q Paused = Unit {0}
EndHas Q OutputFull = Unit {0}

pub record RunHas (S : State → Type 0) (Q : FaultKind → Type 0) (r : Run) : Type 0 where
  pub state : S r.state
  pub fault : FaultHas Q r.fault

pub record AnswerHas (S : State → Type 0) (Q : FaultKind → Type 0) (o : Answer) : Type 0 where
  pub end : EndHas Q o.end
  pub run : RunHas S Q o.run

pub data EndsHave (Q : FaultKind → Type 0) : List Answer → Type 0 where
  no_ends : EndsHave Q []
  and_end : {o : Answer} {os : List Answer} → EndHas Q o.end → EndsHave Q os → EndsHave Q (o ∷ os)

module _ (P : Program) (Z : Sizes) (allowance : ℕ) (S : State → Type 0) (Q : FaultKind → Type 0) (spent : Q AllowanceSpent)
    (keeps : (s : State) → Going s → S s → OutcomeHas S Q (step P Z (main_of P) s)) where
  data TurnHas : Turn → Type 0 where
    ends_has : {e : End} {n : Run} → EndHas Q e → RunHas S Q n → TurnHas (ends e n)
    moves_has : {bytes : List ℕ} {n : Run} → RunHas S Q n → TurnHas (moves bytes n)

  faulted_has : (kind : FaultKind) (f : Option Basis) (r : Run) → S r.state → Q kind → TurnHas (faulted P Z allowance kind f r)
  faulted_has kind f r s q = ends_has q (record { state = s; fault = q })

  fits_has : (b : Bool) (bytes : List ℕ) (s : State) (r : Run) → RunHas S Q r → S s → TurnHas (cond b (moves bytes (stepped s r)) (ends OutputFull r))
  fits_has true bytes s r h k = moves_has (record { state = k; fault = tt })
  fits_has false bytes s r h k = ends_has tt h

  step_has : (room : ℕ) (r : Run) (o : Outcome) → RunHas S Q r → OutcomeHas S Q o → TurnHas (on_step P Z allowance room r o)
  step_has room r (goes bytes s) h k = fits_has (leb (length bytes) room) bytes s r h k
  step_has room r (fails kind f) h k = faulted_has kind f r h.state k
  step_has room r stuck h k = faulted_has Stuck None r h.state k

  spent_has : (c : Bool) (r : Run) (t : Turn) → RunHas S Q r → TurnHas t → TurnHas (cond c (faulted P Z allowance AllowanceSpent None r) t)
  spent_has true r t h k = faulted_has AllowanceSpent None r h.state spent
  spent_has false r t h k = k

  paused_has : (b : Bool) (r : Run) (t : Turn) → RunHas S Q r → TurnHas t → TurnHas (cond b (ends Paused r) t)
  paused_has true r t h k = ends_has tt h
  paused_has false r t h k = k

  count_has : (left room : ℕ) (r : Run) → Going r.state → RunHas S Q r → TurnHas (on_count P Z allowance left room r)
  count_has left room r g h =
      paused_has (eqb left 0) r _ h
      (spent_has (leb allowance r.steps) r (on_step P Z allowance room r (step P Z (main_of P) r.state)) h
      (step_has room r (step P Z (main_of P) r.state) h (keeps r.state g h.state)))

  over_has : (left room : ℕ) (r : Run) (s : State) → r.state ≡ s → RunHas S Q r → TurnHas (on_end P Z allowance left room r (is_over P Z allowance s))
  over_has left room r (st K env opened a) e h = count_has left room r (subst Going (sym e) going_opened) h
  over_has left room r (st K env (enter x) a) e h = count_has left room r (subst Going (sym e) going_enter) h
  over_has left room r (st K env (finished v) a) e h = count_has left room r (subst Going (sym e) going_finished) h
  over_has left room r (st K env over a) e h = ends_has tt h

  fault_has : (left room : ℕ) (r : Run) (f : Option Fault) → FaultHas Q f → RunHas S Q r → TurnHas (on_fault P Z allowance left room r f)
  fault_has left room r None k h = over_has left room r r.state refl h
  fault_has left room r (Some f) k h = ends_has k h

  turn_has : (left room : ℕ) (r : Run) → RunHas S Q r → TurnHas (turn P Z allowance left room r)
  turn_has left room r h = fault_has left room r r.fault h.fault h

  none_left : (r : Run) (t : Turn) → RunHas S Q r → TurnHas t → AnswerHas S Q (elim t [ ends e n ↦ stopped e n | moves bytes n ↦ stopped Paused r ])
  none_left r (ends e n) h (ends_has q i) = record { end = q; run = i }
  none_left r (moves bytes n) h (moves_has i) = record { end = tt; run = h }

  more_left : (k room : ℕ) (t : Turn) → TurnHas t → ((room : ℕ) (r : Run) → RunHas S Q r → AnswerHas S Q (advance P Z allowance k room r))
      → AnswerHas S Q (elim t [ ends e n ↦ stopped e n | moves bytes n ↦ after bytes (advance P Z allowance k (room - length bytes) n) ])
  more_left k room (ends e n) (ends_has q i) next = record { end = q; run = i }
  more_left k room (moves bytes n) (moves_has i) next = let h = next (room - length bytes) n i in record { end = h.end; run = h.run }

  pub advance_has : (k room : ℕ) (r : Run) → RunHas S Q r → AnswerHas S Q (advance P Z allowance k room r)
  unfolding advance
  advance_has zero room r h = none_left r (turn P Z allowance 0 room r) h (turn_has 0 room r h)
  advance_has (suc k) room r h = more_left k room (turn P Z allowance (suc k) room r) (turn_has (suc k) room r h) (advance_has k)

  pub reached_has : (r : Run) (cs : List Call) → RunHas S Q r → RunHas S Q (reached P Z allowance r cs)
  reached_has r [] h = h
  reached_has r (c ∷ cs) h = reached_has (answer P Z allowance r c).run cs (advance_has c.count c.room r h).run

  pub answers_have : (r : Run) (cs : List Call) → RunHas S Q r → EndsHave Q (answers P Z allowance r cs)
  answers_have r [] h = no_ends
  answers_have r (c ∷ cs) h = let k = advance_has c.count c.room r h in and_end k.end (answers_have (answer P Z allowance r c).run cs k.run)
