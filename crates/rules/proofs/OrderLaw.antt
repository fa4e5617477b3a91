-- An advance ends for a reason, and there is one reason at most.
use Rattle.std.proofs.Common.{◌≡◌, ℕ, zero, suc, ◌+◌, ◌-◌, ◌++◌, length, Some, None, Option, sym, refl, ap, ◌∙◌, subst, arith, length-append}
use Rattle.basis.specs.declared.function.Basis.{Basis}
use Rattle.program.specs.Programs.{Program}
use Rattle.rules.specs.declared.answers.End.{End}
use Rattle.rules.specs.declared.answers.End.TheVariants.{Ended, Faulted, Paused}
use Rattle.rules.specs.declared.fault.Fault.{Fault}
use Rattle.rules.specs.declared.fault.FaultKind.{FaultKind}
use Rattle.rules.specs.Laws.{TestsInOrder}
use Rattle.rules.specs.Reasons.{fault_here, Due, Reason, run_ended, steps_taken, allowance_spent, step_faults, step_stuck, output_full}
use Rattle.rules.specs.Runs.{Run, stepped, Turn, ends, moves, turn, Answer, stopped, after, advance}
use Rattle.rules.specs.States.{State}
use Rattle.rules.specs.Steps.{Outcome, Sizes}
use Rattle.rules.proofs.CellsLaw.{over_none}
use Rattle.rules.proofs.Turns.{Ready, Seen, seen_fault, seen_over, seen_paused, seen_spent, seen_fails, seen_stuck, seen_full, seen_step, seen}

module _ (P : Program) (Z : Sizes) (allowance : ℕ) where
  due : {left : ℕ} {r : Run} → Ready P Z allowance left r → Due P Z allowance left r.state r.steps
  due h = record { counted = record { going = over_none P Z allowance h.live.going; some = omega (arith, h.some) }; allowed = h.allowed }

  reason_ends : (left room : ℕ) (r : Run) {e : End} {n : Run} → r.fault ≡ None → Seen P Z allowance left room r (ends e n) → Reason P Z allowance left room n.state n.steps e
  reason_ends left room r w (seen_fault e) = let z : ◌≡◌ {A = ℕ} 0 1 = cc in absurd (omega arith)
  reason_ends left room r w (seen_over e h) = run_ended h
  reason_ends left room r w (seen_paused h e) = steps_taken (over_none P Z allowance h.going) e
  reason_ends left room r w (seen_spent h l a) = allowance_spent (record { going = over_none P Z allowance h.going; some = omega arith }) a
  reason_ends left room r w (seen_fails h e) = step_faults (due h) e
  reason_ends left room r w (seen_stuck h e) = step_stuck (due h) e
  reason_ends left room r w (seen_full h e l) = output_full (due h) e l

  abbrev Reasoned : ℕ → ℕ → Answer → Type 0
  Reasoned k room o = Reason P Z allowance (k - o.steps) (room - length o.bytes) o.run.state o.run.steps o.end

  -- the numbers that are left
  reason_at : {left left' room room' : ℕ} {s : State} {n : ℕ} {e : End} → left ≡ left' → room ≡ room' → Reason P Z allowance left room s n e → Reason P Z allowance left' room' s n e
  reason_at {left} {left'} {room} {room'} {s} {n} {e} p q h = subst (λ (left : ℕ). Reason P Z allowance left room' s n e) p (subst (λ (room : ℕ). Reason P Z allowance left room s n e) q h)

  reason_none : (room : ℕ) (r : Run) (t : Turn) → r.fault ≡ None → Seen P Z allowance 0 room r t → Reasoned 0 room (elim t [ ends e n ↦ stopped e n | moves bytes n ↦ stopped Paused r ])
  reason_none room r (ends e n) w h = reason_at (omega arith) (omega arith) (reason_ends 0 room r w h)
  reason_none room r _ w (seen_step i e l) = absurd (i.some refl)

  reason_more : (k room : ℕ) (r : Run) (t : Turn) → r.fault ≡ None → Seen P Z allowance (suc k) room r t → ((room : ℕ) (r : Run) → r.fault ≡ None → Reasoned k room (advance P Z allowance k room r))
      → Reasoned (suc k) room (elim t [ ends e n ↦ stopped e n | moves bytes n ↦ after bytes (advance P Z allowance k (room - length bytes) n) ])
  reason_more k room r (ends e n) w h next = reason_at (omega arith) (omega arith) (reason_ends (suc k) room r w h)
  reason_more k room r _ w (seen_step {bytes = bytes} {s = s} i e l) next =
      let o = advance P Z allowance k (room - length bytes) (stepped s r) in
      let total : length (bytes ++ o.bytes) ≡ length bytes + length o.bytes = length-append bytes o.bytes in
      reason_at (omega arith) (omega arith) (next (room - length bytes) (stepped s r) refl)

  reasoned : (k room : ℕ) (r : Run) → r.fault ≡ None → Reasoned k room (advance P Z allowance k room r)
  unfolding advance
  reasoned zero room r w = reason_none room r (turn P Z allowance 0 room r) w (seen P Z allowance 0 room r)
  reasoned (suc k) room r w = reason_more k room r (turn P Z allowance (suc k) room r) w (seen P Z allowance (suc k) room r) (reasoned k)

  -- one reason at most
  split : {X : Type 0} {o : Option End} → o ≡ Some Ended → o ≡ None → X
  split e f = let z : ◌≡◌ {A = ℕ} 0 1 = cc in absurd (omega arith)

  apart : {X : Type 0} {o x y : Outcome} → o ≡ x → o ≡ y → (x ≡ y → ⊥) → X
  apart e f n = absurd (n (sym e ∙ f))

  reason_one : (left room : ℕ) (s : State) (n : ℕ) (e e' : End) → Reason P Z allowance left room s n e → Reason P Z allowance left room s n e' → e ≡ e'
  reason_one left room s n _ _ (run_ended h) (run_ended k) = refl
  reason_one left room s n _ _ (run_ended h) (steps_taken k z) = split h k
  reason_one left room s n _ _ (run_ended h) (allowance_spent k z) = split h k.going
  reason_one left room s n _ _ (run_ended h) (step_faults k z) = split h k.counted.going
  reason_one left room s n _ _ (run_ended h) (step_stuck k z) = split h k.counted.going
  reason_one left room s n _ _ (run_ended h) (output_full k z l) = split h k.counted.going
  reason_one left room s n _ _ (steps_taken h y) (run_ended k) = split k h
  reason_one left room s n _ _ (steps_taken h y) (steps_taken k z) = refl
  reason_one left room s n _ _ (steps_taken h y) (allowance_spent k z) = absurd (omega arith)
  reason_one left room s n _ _ (steps_taken h y) (step_faults k z) = absurd (omega arith)
  reason_one left room s n _ _ (steps_taken h y) (step_stuck k z) = absurd (omega arith)
  reason_one left room s n _ _ (steps_taken h y) (output_full k z l) = absurd (omega arith)
  reason_one left room s n _ _ (allowance_spent h y) (run_ended k) = split k h.going
  reason_one left room s n _ _ (allowance_spent h y) (steps_taken k z) = absurd (omega arith)
  reason_one left room s n _ _ (allowance_spent h y) (allowance_spent k z) = refl
  reason_one left room s n _ _ (allowance_spent h y) (step_faults k z) = absurd (omega arith)
  reason_one left room s n _ _ (allowance_spent h y) (step_stuck k z) = absurd (omega arith)
  reason_one left room s n _ _ (allowance_spent h y) (output_full k z l) = absurd (omega arith)
  reason_one left room s n _ _ (step_faults h y) (run_ended k) = split k h.counted.going
  reason_one left room s n _ _ (step_faults h y) (steps_taken k z) = absurd (omega arith)
  reason_one left room s n _ _ (step_faults h y) (allowance_spent k z) = absurd (omega arith)
  reason_one left room s n _ _ (step_faults {kind = a} {f = f} h y) (step_faults {kind = b} {f = g} k z) =
      let same : a ≡ b = cc in
      let also : f ≡ g = cc in
      ap (λ (a : FaultKind). Faulted (fault_here P Z allowance s a f)) same ∙ ap (λ (f : Option Basis). Faulted (fault_here P Z allowance s b f)) also
  reason_one left room s n _ _ (step_faults h y) (step_stuck k z) = let z' : ◌≡◌ {A = ℕ} 0 1 = cc in absurd (omega arith)
  reason_one left room s n _ _ (step_faults h y) (output_full k z l) = let z' : ◌≡◌ {A = ℕ} 0 1 = cc in absurd (omega arith)
  reason_one left room s n _ _ (step_stuck h y) (run_ended k) = split k h.counted.going
  reason_one left room s n _ _ (step_stuck h y) (steps_taken k z) = absurd (omega arith)
  reason_one left room s n _ _ (step_stuck h y) (allowance_spent k z) = absurd (omega arith)
  reason_one left room s n _ _ (step_stuck h y) (step_faults k z) = let z' : ◌≡◌ {A = ℕ} 0 1 = cc in absurd (omega arith)
  reason_one left room s n _ _ (step_stuck h y) (step_stuck k z) = refl
  reason_one left room s n _ _ (step_stuck h y) (output_full k z l) = let z' : ◌≡◌ {A = ℕ} 0 1 = cc in absurd (omega arith)
  reason_one left room s n _ _ (output_full h y i) (run_ended k) = split k h.counted.going
  reason_one left room s n _ _ (output_full h y i) (steps_taken k z) = absurd (omega arith)
  reason_one left room s n _ _ (output_full h y i) (allowance_spent k z) = absurd (omega arith)
  reason_one left room s n _ _ (output_full h y i) (step_faults k z) = let z' : ◌≡◌ {A = ℕ} 0 1 = cc in absurd (omega arith)
  reason_one left room s n _ _ (output_full h y i) (step_stuck k z) = let z' : ◌≡◌ {A = ℕ} 0 1 = cc in absurd (omega arith)
  reason_one left room s n _ _ (output_full h y i) (output_full k z l) = refl

  -- the fault that is answered is the run's
  abbrev Faults : Answer → Type 0
  Faults o = (f : Fault) → o.end ≡ Faulted f → o.run.fault ≡ Some f

  faults_ends : (left room : ℕ) (r : Run) {e : End} {n : Run} → Seen P Z allowance left room r (ends e n) → Faults (stopped e n)
  faults_ends left room r (seen_fault e) f q = cc
  faults_ends left room r (seen_over e h) f q = let z : ◌≡◌ {A = ℕ} 0 1 = cc in absurd (omega arith)
  faults_ends left room r (seen_paused h e) f q = let z : ◌≡◌ {A = ℕ} 0 1 = cc in absurd (omega arith)
  faults_ends left room r (seen_spent h l a) f q = cc
  faults_ends left room r (seen_fails h e) f q = cc
  faults_ends left room r (seen_stuck h e) f q = cc
  faults_ends left room r (seen_full h e l) f q = let z : ◌≡◌ {A = ℕ} 0 1 = cc in absurd (omega arith)

  faults_none : (room : ℕ) (r : Run) (t : Turn) → Seen P Z allowance 0 room r t → Faults (elim t [ ends e n ↦ stopped e n | moves bytes n ↦ stopped Paused r ])
  faults_none room r (ends e n) h f q = faults_ends 0 room r h f q
  faults_none room r _ (seen_step i e l) f q = absurd (i.some refl)

  faults_more : (k room : ℕ) (r : Run) (t : Turn) → Seen P Z allowance (suc k) room r t → ((room : ℕ) (r : Run) → Faults (advance P Z allowance k room r))
      → Faults (elim t [ ends e n ↦ stopped e n | moves bytes n ↦ after bytes (advance P Z allowance k (room - length bytes) n) ])
  faults_more k room r (ends e n) h next f q = faults_ends (suc k) room r h f q
  faults_more k room r (moves bytes n) h next f q = next (room - length bytes) n f q

  faults : (k room : ℕ) (r : Run) → Faults (advance P Z allowance k room r)
  unfolding advance
  faults zero room r = faults_none room r (turn P Z allowance 0 room r) (seen P Z allowance 0 room r)
  faults (suc k) room r = faults_more k room r (turn P Z allowance (suc k) room r) (seen P Z allowance (suc k) room r) (faults k)

pub tests_in_order : TestsInOrder
tests_in_order P Z allowance r c = record { reason = reasoned P Z allowance c.count c.room r; one = reason_one P Z allowance; fault = faults P Z allowance c.count c.room r }
