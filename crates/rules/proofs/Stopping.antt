-- Where a run stops for good, and why: two lists of advances of one run stop in one place.
use Rattle.std.proofs.Common.{◌≡◌, ℕ, zero, suc, ◌+◌, ◌-◌, ◌<◌, ◌≤◌, List, [], ◌∷◌, length, Some, None, Option, sym, refl, ap, ◌∙◌, subst, arith}
use Rattle.basis.specs.declared.function.Basis.{Basis}
use Rattle.program.specs.Programs.{Program}
use Rattle.rules.specs.declared.answers.End.{End}
use Rattle.rules.specs.declared.answers.End.TheVariants.{Ended, Faulted, Paused}
use Rattle.rules.specs.declared.fault.Fault.{Fault}
use Rattle.rules.specs.declared.fault.FaultKind.{FaultKind}
use Rattle.rules.specs.declared.fault.FaultKind.TheVariants.{Stuck, AllowanceSpent}
use Rattle.rules.specs.Histories.{Call, answer, reached}
use Rattle.rules.specs.Pausing.{end_by, end_of}
use Rattle.rules.specs.Runs.{Run, main_of, opened_run, stepped, with_fault, fault_there, Turn, ends, moves, turn, is_over, Answer, stopped, after, advance}
use Rattle.rules.specs.States.{State, st, opened, enter, finished, over}
use Rattle.rules.specs.Steps.{Outcome, goes, fails, stuck, Sizes, rules, step, step_place}
use Rattle.rules.proofs.Advances.{Going, going_opened, going_enter, going_finished}
use Rattle.rules.proofs.Cuts.{over_ended}
use Rattle.rules.proofs.Turns.{Seen, seen_fault, seen_over, seen_paused, seen_spent, seen_fails, seen_stuck, seen_full, seen_step, seen}
use Rattle.rules.proofs.Walking.{Walk, stop, go, Ahead, ahead}

module _ (P : Program) (Z : Sizes) (allowance : ℕ) where
  abbrev pub fault_here_rule : State → FaultKind → Option Basis → Fault
  fault_here_rule s kind f = fault_there P (step_place (main_of P) s) kind f

  -- a run stops for good in this state, after so many steps
  pub data Stops (s : State) (n : ℕ) : End → Type 0 where
    stops_over : is_over P Z allowance s ≡ Some Ended → Stops s n Ended
    stops_spent : Going s → allowance ≤ n → Stops s n (Faulted (fault_here_rule s AllowanceSpent None))
    stops_fails : {kind : FaultKind} {f : Option Basis} → Going s → n < allowance → step P Z (main_of P) s ≡ fails kind f → Stops s n (Faulted (fault_here_rule s kind f))
    stops_stuck : Going s → n < allowance → step P Z (main_of P) s ≡ stuck → Stops s n (Faulted (fault_here_rule s Stuck None))

  -- what holds of every run: no step past the allowance, and a fault only where the run stops with it
  pub record Kept (r : Run) : Type 0 where
    pub within : r.steps ≤ allowance
    pub fault : (f : Fault) → r.fault ≡ Some f → Stops r.state r.steps (Faulted f)

  kept_fault : (r : Run) (g : Fault) → Kept r → Stops r.state r.steps (Faulted g) → Kept (with_fault g r)
  kept_fault r g h k = record { within = h.within; fault = λ f e. let same : g ≡ f = cc in subst (λ (f : Fault). Stops r.state r.steps (Faulted f)) same k }

  kept_ends : (left room : ℕ) (r : Run) {e : End} {n : Run} → Kept r → Seen P Z allowance left room r (ends e n) → Kept n
  kept_ends left room r h (seen_fault e) = h
  kept_ends left room r h (seen_over e k) = h
  kept_ends left room r h (seen_paused k e) = h
  kept_ends left room r h (seen_spent k l a) = kept_fault r _ h (stops_spent k.going a)
  kept_ends left room r h (seen_fails k e) = kept_fault r _ h (stops_fails k.live.going k.allowed e)
  kept_ends left room r h (seen_stuck k e) = kept_fault r _ h (stops_stuck k.live.going k.allowed e)
  kept_ends left room r h (seen_full k e l) = h

  kept_step : (r : Run) (s : State) → r.steps < allowance → Kept (stepped s r)
  kept_step r s h = record { within = omega arith; fault = λ f e. let z : ◌≡◌ {A = ℕ} 0 1 = cc in absurd (omega arith) }

  abbrev KeptBy : Answer → Type 0
  KeptBy o = Kept o.run

  kept_none : (room : ℕ) (r : Run) (t : Turn) → Kept r → Seen P Z allowance 0 room r t → KeptBy (elim t [ ends e n ↦ stopped e n | moves bytes n ↦ stopped Paused r ])
  kept_none room r (ends e n) h k = kept_ends 0 room r h k
  kept_none room r (moves bytes n) h k = h

  kept_more : (k room : ℕ) (r : Run) (t : Turn) → Kept r → Seen P Z allowance (suc k) room r t → ((room : ℕ) (r : Run) → Kept r → Kept (advance P Z allowance k room r).run)
      → KeptBy (elim t [ ends e n ↦ stopped e n | moves bytes n ↦ after bytes (advance P Z allowance k (room - length bytes) n) ])
  kept_more k room r (ends e n) h i next = kept_ends (suc k) room r h i
  kept_more k room r _ h (seen_step {bytes = bytes} {s = s} i e l) next = next (room - length bytes) (stepped s r) (kept_step r s i.allowed)

  pub kept : (k room : ℕ) (r : Run) → Kept r → Kept (advance P Z allowance k room r).run
  unfolding advance
  kept zero room r h = kept_none room r (turn P Z allowance 0 room r) h (seen P Z allowance 0 room r)
  kept (suc k) room r h = kept_more k room r (turn P Z allowance (suc k) room r) h (seen P Z allowance (suc k) room r) (kept k)

  pub kept_all : (r : Run) (cs : List Call) → Kept r → Kept (reached P Z allowance r cs)
  kept_all r [] h = h
  kept_all r (c ∷ cs) h = kept_all (answer P Z allowance r c).run cs (kept c.count c.room r h)

  pub kept_opened : (input : List ℕ) → Kept (opened_run input)
  kept_opened input = record { within = omega arith; fault = λ f e. let z : ◌≡◌ {A = ℕ} 0 1 = cc in absurd (omega arith) }

  -- the end of a run is where it stops
  pub stops : (r : Run) (e : End) → Kept r → end_of P Z allowance r ≡ Some e → Stops r.state r.steps e
  stops r e h k = by r.fault refl k
    where
      by : (f : Option Fault) → r.fault ≡ f → end_by f (is_over P Z allowance r.state) ≡ Some e → Stops r.state r.steps e
      by (Some f) q k = let same : Faulted f ≡ e = cc in subst (λ (e : End). Stops r.state r.steps e) same (h.fault f q)
      by None q k =
          let same = over_ended P Z allowance r.state e k in
          subst (λ (e : End). Stops r.state r.steps e) same (stops_over (k ∙ ap (λ (e : End). Some e) (sym same)))

  pub none_ended : {X : Type 0} → ◌≡◌ {A = Option End} None (Some Ended) → X
  none_ended e = let z : ◌≡◌ {A = ℕ} 0 1 = cc in absurd (omega arith)

  pub never : {X : Type 0} {s : State} → Going s → is_over P Z allowance s ≡ Some Ended → X
  never going_opened e = none_ended e
  never going_enter e = none_ended e
  never going_finished e = none_ended e

  -- in one way
  pub stops_one : {s : State} {n : ℕ} {e e' : End} → Stops s n e → Stops s n e' → e ≡ e'
  stops_one (stops_over h) (stops_over k) = refl
  stops_one (stops_over h) (stops_spent g a) = never g h
  stops_one (stops_over h) (stops_fails g a k) = never g h
  stops_one (stops_over h) (stops_stuck g a k) = never g h
  stops_one (stops_spent g a) (stops_over k) = never g k
  stops_one (stops_spent g a) (stops_spent h b) = refl
  stops_one (stops_spent g a) (stops_fails h b k) = absurd (omega arith)
  stops_one (stops_spent g a) (stops_stuck h b k) = absurd (omega arith)
  stops_one (stops_fails g a k) (stops_over h) = never g h
  stops_one (stops_fails g a k) (stops_spent h b) = absurd (omega arith)
  stops_one {s} (stops_fails {kind = kind} {f = f} g a k) (stops_fails {kind = kind'} {f = f'} h b l) =
      let same : kind ≡ kind' = cc in
      let also : f ≡ f' = cc in
      ap (λ (kind : FaultKind). Faulted (fault_here_rule s kind f)) same ∙ ap (λ (f : Option Basis). Faulted (fault_here_rule s kind' f)) also
  stops_one (stops_fails g a k) (stops_stuck h b l) = let z : ◌≡◌ {A = ℕ} 0 1 = cc in absurd (omega arith)
  stops_one (stops_stuck g a k) (stops_over h) = never g h
  stops_one (stops_stuck g a k) (stops_spent h b) = absurd (omega arith)
  stops_one (stops_stuck g a k) (stops_fails h b l) = let z : ◌≡◌ {A = ℕ} 0 1 = cc in absurd (omega arith)
  stops_one (stops_stuck g a k) (stops_stuck h b l) = refl

  over_stuck : (s : State) → is_over P Z allowance s ≡ Some Ended → step P Z (main_of P) s ≡ stuck
  unfolding rules
  over_stuck (st K env opened a) e = none_ended e
  over_stuck (st K env (enter x) a) e = none_ended e
  over_stuck (st K env (finished v) a) e = none_ended e
  over_stuck (st K env over a) e = refl

  abbrev HasNext : Outcome → Type 0
  HasNext (goes bytes s) = Unit {0}
  HasNext (fails kind f) = ⊥
  HasNext stuck = ⊥

  has_next : {k : ℕ} {x : Outcome} {o o' : List ℕ} {t : State} → Ahead P Z k x o t o' → HasNext x
  has_next (ahead p w) = tt

  -- no step follows
  pub stops_here : {s t : State} {n k j : ℕ} {e : End} {o o' : List ℕ} → Stops s n e → n + j ≤ allowance → j ≡ suc k → Walk P Z j s o t o' → ⊥
  stops_here h l e stop = absurd (omega arith)
  stops_here {s} (stops_over h) l e (go a) = subst HasNext (over_stuck s h) (has_next a)
  stops_here (stops_spent g h) l e (go a) = absurd (omega arith)
  stops_here (stops_fails g h k) l e (go a) = subst HasNext k (has_next a)
  stops_here (stops_stuck g h k) l e (go a) = subst HasNext k (has_next a)
