-- An advance may be cut in two, and more room changes nothing where the room sufficed.
use Rattle.std.proofs.Common.{◌≡◌, ℕ, zero, suc, ◌+◌, ◌-◌, ◌≤◌, ◌≢◌, List, ◌++◌, length, Some, None, Option, sym, refl, ap, ◌∙◌, subst, arith, append_assoc, length-append}
use Rattle.basis.specs.declared.function.Basis.{Basis}
use Rattle.program.specs.Programs.{Program}
use Rattle.rules.specs.declared.answers.End.{End}
use Rattle.rules.specs.declared.answers.End.TheVariants.{Ended, Faulted, Paused, OutputFull}
use Rattle.rules.specs.declared.fault.Fault.{Fault}
use Rattle.rules.specs.declared.fault.FaultKind.{FaultKind}
use Rattle.rules.specs.declared.fault.FaultKind.TheVariants.{Stuck, AllowanceSpent}
use Rattle.rules.specs.Pausing.{joined, end_by, end_of}
use Rattle.rules.specs.Runs.{Run, main_of, stepped, with_fault, fault_there, next_place, Turn, ends, moves, turn, is_over, Answer, stopped, after, advance}
use Rattle.rules.specs.States.{State, st, opened, enter, finished, over}
use Rattle.rules.specs.Steps.{goes, Sizes, step}
use Rattle.rules.proofs.Turns.{Ready, Seen, seen_fault, seen_over, seen_paused, seen_spent, seen_fails, seen_stuck, seen_full, seen_step, seen, turn_faulted, turn_over, turn_paused, turn_spent, turn_fails, turn_stuck, turn_steps}

module _ (P : Program) (Z : Sizes) (allowance : ℕ) where
  abbrev adv : ℕ → ℕ → Run → Answer
  adv n room r = advance P Z allowance n room r

  -- an advance by what is tested before its first step
  pub advance_ends : (n room : ℕ) (r : Run) {e : End} {m : Run} → turn P Z allowance n room r ≡ ends e m → advance P Z allowance n room r ≡ stopped e m
  unfolding advance
  advance_ends zero room r h = ap (λ (t : Turn). elim t [ ends e n ↦ stopped e n | moves bytes n ↦ stopped Paused r ]) h
  advance_ends (suc k) room r h = ap (λ (t : Turn). elim t [ ends e n ↦ stopped e n | moves bytes n ↦ after bytes (advance P Z allowance k (room - length bytes) n) ]) h

  pub advance_moves : (n k room : ℕ) (r : Run) {bytes : List ℕ} {m : Run} → n ≡ suc k → turn P Z allowance n room r ≡ moves bytes m
      → advance P Z allowance n room r ≡ after bytes (advance P Z allowance k (room - length bytes) m)
  unfolding advance
  advance_moves zero k room r e h = absurd (omega arith)
  advance_moves (suc n) k room r {bytes} {m} e h =
      let same : n ≡ k = omega arith in
      ap (λ (t : Turn). elim t [ ends e n ↦ stopped e n | moves bytes n' ↦ after bytes (advance P Z allowance n (room - length bytes) n') ]) h
      ∙ ap (λ (n : ℕ). after bytes (advance P Z allowance n (room - length bytes) m)) same

  pub over_ended : (s : State) (e : End) → is_over P Z allowance s ≡ Some e → Ended ≡ e
  over_ended (st K env opened a) e h = cc
  over_ended (st K env (enter x) a) e h = cc
  over_ended (st K env (finished v) a) e h = cc
  over_ended (st K env over a) e h = cc

  -- a run that has ended or faulted answers so from then on
  pub settled : (n room : ℕ) (r : Run) {e : End} → end_of P Z allowance r ≡ Some e → advance P Z allowance n room r ≡ stopped e r
  settled n room r {e} h = go r.fault refl h
    where
      go : (f : Option Fault) → r.fault ≡ f → end_by f (is_over P Z allowance r.state) ≡ Some e → advance P Z allowance n room r ≡ stopped e r
      go (Some f) k q = let same : Faulted f ≡ e = cc in advance_ends n room r (turn_faulted P Z allowance n room r k) ∙ ap (λ (e : End). stopped e r) same
      go None k q =
          let same = over_ended r.state e q in
          advance_ends n room r (turn_over P Z allowance n room r k (q ∙ ap (λ (e : End). Some e) (sym same))) ∙ ap (λ (e : End). stopped e r) same

  nothing_joined : (e : End) (r : Run) (p : Answer) → joined (stopped e r) p ≡ p
  nothing_joined e r p = let z : 0 + p.steps ≡ p.steps = omega arith in ap (λ (n : ℕ). record p { steps = n }) z

  -- a run that stops where it stands, and the next advance
  stands : (n more : ℕ) (e : End) (r : Run) → advance P Z allowance (0 + n) (0 + more) r ≡ joined (stopped e r) (advance P Z allowance n more r)
  stands n more e r =
      let z : 0 + n ≡ n = omega arith in
      let z' : 0 + more ≡ more = omega arith in
      ap (λ (n : ℕ). advance P Z allowance n (0 + more) r) z ∙ (ap (λ (room : ℕ). advance P Z allowance n room r) z' ∙ sym (nothing_joined e r (advance P Z allowance n more r)))

  -- a run that is stopped for good, and the next advance
  halts : (n m more room : ℕ) (e : End) (r s : Run) → end_of P Z allowance s ≡ Some e → advance P Z allowance m room r ≡ stopped e s → advance P Z allowance m room r ≡ joined (stopped e s) (advance P Z allowance n more s)
  halts n m more room e r s h k = k ∙ (sym (settled n more s h) ∙ sym (nothing_joined e s (advance P Z allowance n more s)))

  -- the steps before both
  after_joined : (bytes : List ℕ) (o p : Answer) → after bytes (joined o p) ≡ joined (after bytes o) p
  after_joined bytes o p =
      let z : 1 + (o.steps + p.steps) ≡ 1 + o.steps + p.steps = omega arith in
      ap (λ (n : ℕ). record { end = p.end; steps = n; bytes = bytes ++ (o.bytes ++ p.bytes); run = p.run }) z
      ∙ ap (λ (w : List ℕ). record { end = p.end; steps = 1 + o.steps + p.steps; bytes = w; run = p.run }) (sym (append_assoc bytes o.bytes p.bytes))

  module _ (n more : ℕ) where
    -- the answer of an advance with m steps, and then one more
    abbrev Cut : ℕ → Run → Answer → Type 0
    Cut m r o = advance P Z allowance (m + n) (length o.bytes + more) r ≡ joined o (advance P Z allowance n more o.run)

    abbrev CutUnlessFull : ℕ → Run → Answer → Type 0
    CutUnlessFull m r o = o.end ≢ OutputFull → Cut m r o

    ready_more : {left : ℕ} {r : Run} → Ready P Z allowance left r → Ready P Z allowance (left + n) r
    ready_more h = record { live = h.live; some = λ e. h.some (omega arith); allowed = h.allowed }

    cut_step : (k room : ℕ) (r : Run) (bytes : List ℕ) (s : State) (o : Answer) → Ready P Z allowance (suc k) r → step P Z (main_of P) r.state ≡ goes bytes s → Cut k (stepped s r) o → Cut (suc k) r (after bytes o)
    cut_step k room r bytes s o h e c =
        let m : suc k + n ≡ suc (k + n) = omega arith in
        let room' = length (bytes ++ o.bytes) + more in
        let l : length bytes + length o.bytes ≡ length (bytes ++ o.bytes) = sym (length-append bytes o.bytes) in
        let fits : length bytes ≤ room' = omega arith in
        let rest : room' - length bytes ≡ length o.bytes + more = omega arith in
        advance_moves (suc k + n) (k + n) room' r m (turn_steps P Z allowance (suc k + n) room' r (ready_more h) e fits)
        ∙ (ap (λ (room : ℕ). after bytes (advance P Z allowance (k + n) room (stepped s r))) rest
        ∙ (ap (after bytes) c ∙ after_joined bytes o (advance P Z allowance n more o.run)))

    cut_none : (room : ℕ) (r : Run) (t : Turn) → Seen P Z allowance 0 room r t → CutUnlessFull 0 r (elim t [ ends e n ↦ stopped e n | moves bytes n ↦ stopped Paused r ])
    cut_none room r _ (seen_fault {f = f} e) x = stands n more (Faulted f) r
    cut_none room r _ (seen_over e h) x = stands n more Ended r
    cut_none room r _ (seen_paused h e) x = stands n more Paused r
    cut_none room r _ (seen_spent h l a) x = absurd (l refl)
    cut_none room r _ (seen_fails h e) x = absurd (h.some refl)
    cut_none room r _ (seen_stuck h e) x = absurd (h.some refl)
    cut_none room r _ (seen_full h e l) x = absurd (h.some refl)
    cut_none room r _ (seen_step h e l) x = absurd (h.some refl)

    -- where the run stops for good, more steps change nothing
    cut_fault : (k : ℕ) (r : Run) (kind : FaultKind) (f : Option Basis)
        → turn P Z allowance (suc k + n) (0 + more) r ≡ ends (Faulted (fault_there P (next_place P Z allowance r) kind f)) (with_fault (fault_there P (next_place P Z allowance r) kind f) r)
        → Cut (suc k) r (stopped (Faulted (fault_there P (next_place P Z allowance r) kind f)) (with_fault (fault_there P (next_place P Z allowance r) kind f) r))
    cut_fault k r kind f e = halts n (suc k + n) more (0 + more) (Faulted (fault_there P (next_place P Z allowance r) kind f)) r (with_fault (fault_there P (next_place P Z allowance r) kind f) r) refl (advance_ends (suc k + n) (0 + more) r e)

    cut_more : (k room : ℕ) (r : Run) (t : Turn) → Seen P Z allowance (suc k) room r t → ((room : ℕ) (r : Run) → CutUnlessFull k r (advance P Z allowance k room r))
        → CutUnlessFull (suc k) r (elim t [ ends e n ↦ stopped e n | moves bytes n ↦ after bytes (advance P Z allowance k (room - length bytes) n) ])
    cut_more k room r _ (seen_fault {f = f} e) next x =
        let d : end_of P Z allowance r ≡ Some (Faulted f) = ap (λ (f : Option Fault). end_by f (is_over P Z allowance r.state)) e in
        halts n (suc k + n) more (0 + more) (Faulted f) r r d (settled (suc k + n) (0 + more) r d)
    cut_more k room r _ (seen_over e h) next x =
        let d : end_of P Z allowance r ≡ Some Ended = ap (λ (f : Option Fault). end_by f (is_over P Z allowance r.state)) e ∙ h in
        halts n (suc k + n) more (0 + more) Ended r r d (settled (suc k + n) (0 + more) r d)
    cut_more k room r _ (seen_paused h e) next x = absurd (omega arith)
    cut_more k room r _ (seen_spent h l a) next x = cut_fault k r AllowanceSpent None (turn_spent P Z allowance (suc k + n) (0 + more) r h (λ e. l (omega arith)) a)
    cut_more k room r _ (seen_fails {kind = kind} {f = f} h e) next x = cut_fault k r kind f (turn_fails P Z allowance (suc k + n) (0 + more) r (ready_more h) e)
    cut_more k room r _ (seen_stuck h e) next x = cut_fault k r Stuck None (turn_stuck P Z allowance (suc k + n) (0 + more) r (ready_more h) e)
    cut_more k room r _ (seen_full h e l) next x = absurd (x refl)
    cut_more k room r _ (seen_step {bytes = bytes} {s = s} h e l) next x =
        cut_step k room r bytes s (advance P Z allowance k (room - length bytes) (stepped s r)) h e (next (room - length bytes) (stepped s r) x)

    pub cut : (m room : ℕ) (r : Run) → CutUnlessFull m r (advance P Z allowance m room r)
    unfolding advance
    cut zero room r = cut_none room r (turn P Z allowance 0 room r) (seen P Z allowance 0 room r)
    cut (suc k) room r = cut_more k room r (turn P Z allowance (suc k) room r) (seen P Z allowance (suc k) room r) (cut k)

    -- An advance that finds the output full, and another one with a slice of its own.
    abbrev CutIfFull : Run → Answer → Type 0
    CutIfFull r o = o.end ≡ OutputFull → Cut o.steps r o

    cut_there : (m m' : ℕ) (r : Run) (o : Answer) → m ≡ m' → Cut m r o → Cut m' r o
    cut_there m m' r o e c = subst (λ (m : ℕ). Cut m r o) e c

    full_none : (room : ℕ) (r : Run) (t : Turn) → Seen P Z allowance 0 room r t → CutIfFull r (elim t [ ends e n ↦ stopped e n | moves bytes n ↦ stopped Paused r ])
    full_none room r _ (seen_fault {f = f} e) x = stands n more (Faulted f) r
    full_none room r _ (seen_over e h) x = stands n more Ended r
    full_none room r _ (seen_paused h e) x = stands n more Paused r
    full_none room r _ (seen_spent h l a) x = absurd (l refl)
    full_none room r _ (seen_fails h e) x = absurd (h.some refl)
    full_none room r _ (seen_stuck h e) x = absurd (h.some refl)
    full_none room r _ (seen_full h e l) x = absurd (h.some refl)
    full_none room r _ (seen_step h e l) x = absurd (h.some refl)

    no_room : {X : Type 0} (f : Fault) → Faulted f ≡ OutputFull → X
    no_room f e = let z : ◌≡◌ {A = ℕ} 0 1 = cc in absurd (omega arith)

    full_more : (k room : ℕ) (r : Run) (t : Turn) → Seen P Z allowance (suc k) room r t → ((room : ℕ) (r : Run) → CutIfFull r (advance P Z allowance k room r))
        → CutIfFull r (elim t [ ends e n ↦ stopped e n | moves bytes n ↦ after bytes (advance P Z allowance k (room - length bytes) n) ])
    full_more k room r _ (seen_fault {f = f} e) next x = no_room f x
    full_more k room r _ (seen_over e h) next x = stands n more Ended r
    full_more k room r _ (seen_paused h e) next x = stands n more Paused r
    full_more k room r _ (seen_spent h l a) next x = no_room (fault_there P (next_place P Z allowance r) AllowanceSpent None) x
    full_more k room r _ (seen_fails {kind = kind} {f = f} h e) next x = no_room (fault_there P (next_place P Z allowance r) kind f) x
    full_more k room r _ (seen_stuck h e) next x = no_room (fault_there P (next_place P Z allowance r) Stuck None) x
    full_more k room r _ (seen_full h e l) next x = stands n more OutputFull r
    full_more k room r _ (seen_step {bytes = bytes} {s = s} h e l) next x =
        let o = advance P Z allowance k (room - length bytes) (stepped s r) in
        let h' : Ready P Z allowance (suc o.steps) r = record { live = h.live; some = λ e. absurd (omega arith); allowed = h.allowed } in
        cut_there (suc o.steps) (1 + o.steps) r (after bytes o) (omega arith) (cut_step o.steps room r bytes s o h' e (next (room - length bytes) (stepped s r) x))

    pub cut_full : (m room : ℕ) (r : Run) → CutIfFull r (advance P Z allowance m room r)
    unfolding advance
    cut_full zero room r = full_none room r (turn P Z allowance 0 room r) (seen P Z allowance 0 room r)
    cut_full (suc k) room r = full_more k room r (turn P Z allowance (suc k) room r) (seen P Z allowance (suc k) room r) (cut_full k)

  -- More room changes nothing where the room sufficed.
  module _ (more : ℕ) where
    abbrev Roomy : ℕ → ℕ → Run → Answer → Type 0
    Roomy m room r o = o.end ≢ OutputFull → advance P Z allowance m (room + more) r ≡ o

    abbrev NotFull : Turn → Type 0
    NotFull (ends e n) = e ≢ OutputFull
    NotFull (moves bytes n) = Unit {0}

    roomy_turn : (m room : ℕ) (r : Run) (t : Turn) → Seen P Z allowance m room r t → NotFull t → turn P Z allowance m (room + more) r ≡ t
    roomy_turn m room r _ (seen_fault {f = f} e) x = turn_faulted P Z allowance m (room + more) r e
    roomy_turn m room r _ (seen_over e h) x = turn_over P Z allowance m (room + more) r e h
    roomy_turn m room r _ (seen_paused h e) x = turn_paused P Z allowance m (room + more) r h e
    roomy_turn m room r _ (seen_spent h l a) x = turn_spent P Z allowance m (room + more) r h l a
    roomy_turn m room r _ (seen_fails h e) x = turn_fails P Z allowance m (room + more) r h e
    roomy_turn m room r _ (seen_stuck h e) x = turn_stuck P Z allowance m (room + more) r h e
    roomy_turn m room r _ (seen_full h e l) x = absurd (x refl)
    roomy_turn m room r _ (seen_step h e l) x = turn_steps P Z allowance m (room + more) r h e (omega arith)

    roomy_none : (room : ℕ) (r : Run) (t : Turn) → Seen P Z allowance 0 room r t → Roomy 0 room r (elim t [ ends e n ↦ stopped e n | moves bytes n ↦ stopped Paused r ])
    roomy_none room r (ends e n) s x = advance_ends 0 (room + more) r (roomy_turn 0 room r (ends e n) s x)
    roomy_none room r _ (seen_step h e l) x = absurd (h.some refl)

    roomy_more : (k room : ℕ) (r : Run) (t : Turn) → Seen P Z allowance (suc k) room r t → ((room : ℕ) (r : Run) → Roomy k room r (advance P Z allowance k room r))
        → Roomy (suc k) room r (elim t [ ends e n ↦ stopped e n | moves bytes n ↦ after bytes (advance P Z allowance k (room - length bytes) n) ])
    roomy_more k room r (ends e n) s next x = advance_ends (suc k) (room + more) r (roomy_turn (suc k) room r (ends e n) s x)
    roomy_more k room r _ (seen_step {bytes = bytes} {s = s} h e l) next x =
        let rest : room + more - length bytes ≡ room - length bytes + more = omega arith in
        advance_moves (suc k) k (room + more) r refl (roomy_turn (suc k) room r (moves bytes (stepped s r)) (seen_step h e l) tt)
        ∙ (ap (λ (room : ℕ). after bytes (advance P Z allowance k room (stepped s r))) rest ∙ ap (after bytes) (next (room - length bytes) (stepped s r) x))

    pub roomy : (m room : ℕ) (r : Run) → Roomy m room r (advance P Z allowance m room r)
    unfolding advance
    roomy zero room r = roomy_none room r (turn P Z allowance 0 room r) (seen P Z allowance 0 room r)
    roomy (suc k) room r = roomy_more k room r (turn P Z allowance (suc k) room r) (seen P Z allowance (suc k) room r) (roomy k)
