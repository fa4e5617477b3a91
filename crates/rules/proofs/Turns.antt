-- What is tested before a step, case by case: each answer of a turn with what it says, and the other way round.
use Rattle.std.proofs.Common.{◌≡◌, ℕ, ◌<◌, ◌≤◌, ◌≢◌, Bool, true, false, cond, eqb, leb, List, length, Some, None, Option, sym, refl, ap, ◌∙◌, subst}
use Rattle.std.proofs.lemmas.Bool.{le-leb, lt-leb, leb-true, leb-false, eq-eqb, eqb-true, eqb-false}
use Rattle.basis.specs.declared.function.Basis.{Basis}
use Rattle.program.specs.Programs.{Program}
use Rattle.rules.specs.declared.answers.End.TheVariants.{Ended, Faulted, Paused, OutputFull}
use Rattle.rules.specs.declared.fault.Fault.{Fault}
use Rattle.rules.specs.declared.fault.FaultKind.{FaultKind}
use Rattle.rules.specs.declared.fault.FaultKind.TheVariants.{Stuck, AllowanceSpent}
use Rattle.rules.specs.Runs.{Run, main_of, stepped, Turn, ends, moves, turn, faulted, on_step, on_count, on_end, on_fault, is_over}
use Rattle.rules.specs.States.{State, st, opened, enter, finished, over}
use Rattle.rules.specs.Steps.{Outcome, goes, fails, stuck, Sizes, step}
use Rattle.rules.proofs.Advances.{Going, going_opened, going_enter, going_finished}

module _ (P : Program) (Z : Sizes) (allowance : ℕ) where
  -- the run has neither faulted nor ended
  pub record Live (r : Run) : Type 0 where
    pub whole : r.fault ≡ None
    pub going : Going r.state

  -- and may take a step: steps are left of the count and of the allowance
  pub record Ready (left : ℕ) (r : Run) : Type 0 where
    pub live : Live r
    pub some : left ≢ 0
    pub allowed : r.steps < allowance

  -- what each turn says
  pub data Seen (left room : ℕ) (r : Run) : Turn → Type 0 where
    seen_fault : {f : Fault} → r.fault ≡ Some f → Seen left room r (ends (Faulted f) r)
    seen_over : r.fault ≡ None → is_over P Z allowance r.state ≡ Some Ended → Seen left room r (ends Ended r)
    seen_paused : Live r → left ≡ 0 → Seen left room r (ends Paused r)
    seen_spent : Live r → left ≢ 0 → allowance ≤ r.steps → Seen left room r (faulted P Z allowance AllowanceSpent None r)
    seen_fails : {kind : FaultKind} {f : Option Basis} → Ready left r → step P Z (main_of P) r.state ≡ fails kind f → Seen left room r (faulted P Z allowance kind f r)
    seen_stuck : Ready left r → step P Z (main_of P) r.state ≡ stuck → Seen left room r (faulted P Z allowance Stuck None r)
    seen_full : {bytes : List ℕ} {s : State} → Ready left r → step P Z (main_of P) r.state ≡ goes bytes s → room < length bytes → Seen left room r (ends OutputFull r)
    seen_step : {bytes : List ℕ} {s : State} → Ready left r → step P Z (main_of P) r.state ≡ goes bytes s → length bytes ≤ room → Seen left room r (moves bytes (stepped s r))

  module _ (left room : ℕ) (r : Run) where
    fits_seen : (bytes : List ℕ) (s : State) → Ready left r → step P Z (main_of P) r.state ≡ goes bytes s → (b : Bool) → leb (length bytes) room ≡ b → Seen left room r (cond b (moves bytes (stepped s r)) (ends OutputFull r))
    fits_seen bytes s h e true k = seen_step h e (leb-true (length bytes) room k)
    fits_seen bytes s h e false k = seen_full h e (leb-false (length bytes) room k)

    step_seen : Ready left r → (o : Outcome) → step P Z (main_of P) r.state ≡ o → Seen left room r (on_step P Z allowance room r o)
    step_seen h (goes bytes s) e = fits_seen bytes s h e (leb (length bytes) room) refl
    step_seen h (fails kind f) e = seen_fails h e
    step_seen h stuck e = seen_stuck h e

    spent_seen : Live r → left ≢ 0 → (b : Bool) → leb allowance r.steps ≡ b → Seen left room r (cond b (faulted P Z allowance AllowanceSpent None r) (on_step P Z allowance room r (step P Z (main_of P) r.state)))
    spent_seen h l true k = seen_spent h l (leb-true allowance r.steps k)
    spent_seen h l false k = step_seen (record { live = h; some = l; allowed = leb-false allowance r.steps k }) (step P Z (main_of P) r.state) refl

    count_seen : Live r → (b : Bool) → eqb left 0 ≡ b
        → Seen left room r (cond b (ends Paused r) (cond (leb allowance r.steps) (faulted P Z allowance AllowanceSpent None r) (on_step P Z allowance room r (step P Z (main_of P) r.state))))
    count_seen h true k = seen_paused h (eqb-true left 0 k)
    count_seen h false k = spent_seen h (eqb-false left 0 k) (leb allowance r.steps) refl

    end_seen : r.fault ≡ None → (s : State) → r.state ≡ s → Seen left room r (on_end P Z allowance left room r (is_over P Z allowance s))
    end_seen h (st K env opened a) e = count_seen (record { whole = h; going = subst Going (sym e) going_opened }) (eqb left 0) refl
    end_seen h (st K env (enter x) a) e = count_seen (record { whole = h; going = subst Going (sym e) going_enter }) (eqb left 0) refl
    end_seen h (st K env (finished v) a) e = count_seen (record { whole = h; going = subst Going (sym e) going_finished }) (eqb left 0) refl
    end_seen h (st K env over a) e = seen_over h (ap (is_over P Z allowance) e)

    fault_seen : (f : Option Fault) → r.fault ≡ f → Seen left room r (on_fault P Z allowance left room r f)
    fault_seen (Some f) e = seen_fault e
    fault_seen None e = end_seen e r.state refl

    pub seen : Seen left room r (turn P Z allowance left room r)
    seen = fault_seen r.fault refl

  -- The other way round: what holds of a run tells its turn.
  not_over : {s : State} → Going s → is_over P Z allowance s ≡ None
  not_over going_opened = refl
  not_over going_enter = refl
  not_over going_finished = refl

  module _ (left room : ℕ) (r : Run) where
    pub turn_faulted : {f : Fault} → r.fault ≡ Some f → turn P Z allowance left room r ≡ ends (Faulted f) r
    turn_faulted e = ap (on_fault P Z allowance left room r) e

    pub turn_over : r.fault ≡ None → is_over P Z allowance r.state ≡ Some Ended → turn P Z allowance left room r ≡ ends Ended r
    turn_over e h = ap (on_fault P Z allowance left room r) e ∙ ap (on_end P Z allowance left room r) h

    turn_live : Live r → turn P Z allowance left room r ≡ on_count P Z allowance left room r
    turn_live h = ap (on_fault P Z allowance left room r) h.whole ∙ ap (on_end P Z allowance left room r) (not_over h.going)

    pub turn_paused : Live r → left ≡ 0 → turn P Z allowance left room r ≡ ends Paused r
    turn_paused h e = turn_live h ∙ rw (eq-eqb left 0 e) refl

    turn_left : Live r → left ≢ 0 → turn P Z allowance left room r ≡ cond (leb allowance r.steps) (faulted P Z allowance AllowanceSpent None r) (on_step P Z allowance room r (step P Z (main_of P) r.state))
    turn_left h l = turn_live h ∙ go (eqb left 0) refl
      where
        go : (b : Bool) → eqb left 0 ≡ b → cond b (ends Paused r) (cond (leb allowance r.steps) (faulted P Z allowance AllowanceSpent None r) (on_step P Z allowance room r (step P Z (main_of P) r.state)))
            ≡ cond (leb allowance r.steps) (faulted P Z allowance AllowanceSpent None r) (on_step P Z allowance room r (step P Z (main_of P) r.state))
        go true k = absurd (l (eqb-true left 0 k))
        go false k = refl

    pub turn_spent : Live r → left ≢ 0 → allowance ≤ r.steps → turn P Z allowance left room r ≡ faulted P Z allowance AllowanceSpent None r
    turn_spent h l k = turn_left h l ∙ rw (le-leb allowance r.steps k) refl

    turn_ready : Ready left r → turn P Z allowance left room r ≡ on_step P Z allowance room r (step P Z (main_of P) r.state)
    turn_ready h = turn_left h.live h.some ∙ rw (lt-leb allowance r.steps h.allowed) refl

    pub turn_fails : {kind : FaultKind} {f : Option Basis} → Ready left r → step P Z (main_of P) r.state ≡ fails kind f → turn P Z allowance left room r ≡ faulted P Z allowance kind f r
    turn_fails h e = turn_ready h ∙ ap (on_step P Z allowance room r) e

    pub turn_stuck : Ready left r → step P Z (main_of P) r.state ≡ stuck → turn P Z allowance left room r ≡ faulted P Z allowance Stuck None r
    turn_stuck h e = turn_ready h ∙ ap (on_step P Z allowance room r) e

    pub turn_full : {bytes : List ℕ} {s : State} → Ready left r → step P Z (main_of P) r.state ≡ goes bytes s → room < length bytes → turn P Z allowance left room r ≡ ends OutputFull r
    turn_full {bytes} h e k = turn_ready h ∙ (ap (on_step P Z allowance room r) e ∙ rw (lt-leb (length bytes) room k) refl)

    pub turn_steps : {bytes : List ℕ} {s : State} → Ready left r → step P Z (main_of P) r.state ≡ goes bytes s → length bytes ≤ room → turn P Z allowance left room r ≡ moves bytes (stepped s r)
    turn_steps {bytes} h e k = turn_ready h ∙ (ap (on_step P Z allowance room r) e ∙ rw (le-leb (length bytes) room k) refl)
