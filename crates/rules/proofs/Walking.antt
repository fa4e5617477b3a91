-- So many steps, one after another, with what they print; and what the advances of a run come to in these terms.
use Rattle.std.proofs.Common.{◌≡◌, ℕ, zero, suc, ◌+◌, ◌-◌, List, [], ◌∷◌, ◌++◌, length, sym, refl, ap, ◌∙◌, subst, arith, append_assoc, append-nil}
use Rattle.program.specs.Programs.{Program}
use Rattle.rules.specs.declared.answers.End.{End}
use Rattle.rules.specs.declared.answers.End.TheVariants.{Paused}
use Rattle.rules.specs.Histories.{Call, answer, reached}
use Rattle.rules.specs.Pausing.{written, counted}
use Rattle.rules.specs.Runs.{Run, main_of, stepped, Turn, ends, moves, turn, Answer, stopped, after, advance}
use Rattle.rules.specs.States.{State}
use Rattle.rules.specs.Steps.{Outcome, goes, Sizes, step}
use Rattle.rules.proofs.Turns.{Seen, seen_fault, seen_over, seen_paused, seen_spent, seen_fails, seen_stuck, seen_full, seen_step, seen}

module _ (P : Program) (Z : Sizes) where
  mutual
    -- so many steps lead from one state to another, and from the bytes printed so far to those printed then
    pub data Walk : ℕ → State → List ℕ → State → List ℕ → Type 0 where
      stop : {s : State} {o : List ℕ} → Walk zero s o s o
      go : {k : ℕ} {s t : State} {o o' : List ℕ} → Ahead k (step P Z (main_of P) s) o t o' → Walk (suc k) s o t o'

    -- a step comes to this, and so many steps follow
    pub data Ahead : ℕ → Outcome → List ℕ → State → List ℕ → Type 0 where
      ahead : {k : ℕ} {bytes : List ℕ} {s t : State} {o o₁ o' : List ℕ} → o₁ ≡ o ++ bytes → Walk k s o₁ t o' → Ahead k (goes bytes s) o t o'

  -- steps are determined
  abbrev One : ℕ → Type 0
  One k = (s t u : State) (o o₁ o' o₂ : List ℕ) → o ≡ o₁ → Walk k s o t o' → Walk k s o₁ u o₂ → (t ≡ u) × (o' ≡ o₂)

  ahead_one : (k : ℕ) → One k → (x : Outcome) (t u : State) (o o₁ o' o₂ : List ℕ) → o ≡ o₁ → Ahead k x o t o' → Ahead k x o₁ u o₂ → (t ≡ u) × (o' ≡ o₂)
  ahead_one k one _ t u o o₁ o' o₂ e (ahead {bytes = bytes} {s = s} {o₁ = w} p a) (ahead {o₁ = w'} q b) = one s t u w w' o' o₂ (p ∙ (ap (λ (o : List ℕ). o ++ bytes) e ∙ sym q)) a b

  pub walk_one : (k : ℕ) → One k
  walk_one zero s t u o o₁ o' o₂ e stop stop = (refl, e)
  walk_one (suc k) s t u o o₁ o' o₂ e (go a) (go b) = ahead_one k (walk_one k) (step P Z (main_of P) s) t u o o₁ o' o₂ e a b

  -- the steps that are left after the first ones
  abbrev Rest : ℕ → Type 0
  Rest k = (n j : ℕ) (s t u : State) (o o₁ o' o₂ : List ℕ) → n ≡ k + j → o ≡ o₁ → Walk k s o t o' → Walk n s o₁ u o₂ → Walk j t o' u o₂

  ahead_rest : (k : ℕ) → Rest k → (n j : ℕ) (x : Outcome) (t u : State) (o o₁ o' o₂ : List ℕ) → n ≡ k + j → o ≡ o₁ → Ahead k x o t o' → Ahead n x o₁ u o₂ → Walk j t o' u o₂
  ahead_rest k rest n j _ t u o o₁ o' o₂ l e (ahead {bytes = bytes} {s = s} {o₁ = w} p a) (ahead {o₁ = w'} q b) = rest n j s t u w w' o' o₂ l (p ∙ (ap (λ (o : List ℕ). o ++ bytes) e ∙ sym q)) a b

  pub walk_rest : (k : ℕ) → Rest k
  walk_rest zero n j s t u o o₁ o' o₂ l e stop b = let same : n ≡ j = omega arith in subst (λ (n : ℕ). Walk n s o u o₂) same (subst (λ (o : List ℕ). Walk n s o u o₂) (sym e) b)
  walk_rest (suc k) zero j s t u o o₁ o' o₂ l e (go a) b = absurd (omega arith)
  walk_rest (suc k) (suc n) j s t u o o₁ o' o₂ l e (go a) (go b) = ahead_rest k (walk_rest k) n j (step P Z (main_of P) s) t u o o₁ o' o₂ (omega arith) e a b

  -- one walk, and then another
  abbrev Then : ℕ → Type 0
  Then k = (j n : ℕ) (s t u : State) (o o' o₂ : List ℕ) → n ≡ k + j → Walk k s o t o' → Walk j t o' u o₂ → Walk n s o u o₂

  ahead_next : (k : ℕ) → Then k → (j n : ℕ) (x : Outcome) (t u : State) (o o' o₂ : List ℕ) → n ≡ k + j → Ahead k x o t o' → Walk j t o' u o₂ → Ahead n x o u o₂
  ahead_next k next j n _ t u o o' o₂ l (ahead {s = s} {o₁ = w} p a) b = ahead p (next j n s t u w o' o₂ l a b)

  pub walk_then : (k : ℕ) → Then k
  walk_then zero j n s t u o o' o₂ l stop b = let same : j ≡ n = omega arith in subst (λ (n : ℕ). Walk n s o u o₂) same b
  walk_then (suc k) j n s t u o o' o₂ l (go a) b =
      let same : suc (k + j) ≡ n = omega arith in
      subst (λ (n : ℕ). Walk n s o u o₂) same (go (ahead_next k (walk_then k) j (k + j) (step P Z (main_of P) s) t u o o' o₂ refl a b))

  pub ahead_then : (k j n : ℕ) (x : Outcome) (t u : State) (o o' o₂ : List ℕ) → n ≡ k + j → Ahead k x o t o' → Walk j t o' u o₂ → Ahead n x o u o₂
  ahead_then k = ahead_next k (walk_then k)

  module _ (allowance : ℕ) where
    -- an advance is a walk
    pub record Walked (r : Run) (out : List ℕ) (o : Answer) : Type 0 where
      pub walk : Walk o.steps r.state out o.run.state (out ++ o.bytes)
      pub steps : o.run.steps ≡ r.steps + o.steps

    walked_ends : (left room : ℕ) (r : Run) (out : List ℕ) (e : End) (n : Run) → Seen P Z allowance left room r (ends e n) → Walked r out (stopped e n)
    walked_ends left room r out e n h =
        let same = ended_state h in
        record {
          walk = subst (λ (o : List ℕ). Walk 0 r.state out n.state o) (sym (append-nil out)) (subst (λ (s : State). Walk 0 r.state out s out) same.0 stop);
          steps = omega (arith, same.1);
        }
      where
        ended_state : {e : End} {n : Run} → Seen P Z allowance left room r (ends e n) → (r.state ≡ n.state) × (n.steps ≡ r.steps)
        ended_state (seen_fault e) = (refl, refl)
        ended_state (seen_over e h) = (refl, refl)
        ended_state (seen_paused h e) = (refl, refl)
        ended_state (seen_spent h l a) = (refl, refl)
        ended_state (seen_fails h e) = (refl, refl)
        ended_state (seen_stuck h e) = (refl, refl)
        ended_state (seen_full h e l) = (refl, refl)

    walked_none : (room : ℕ) (r : Run) (out : List ℕ) (t : Turn) → Seen P Z allowance 0 room r t → Walked r out (elim t [ ends e n ↦ stopped e n | moves bytes n ↦ stopped Paused r ])
    walked_none room r out (ends e n) h = walked_ends 0 room r out e n h
    walked_none room r out _ (seen_step h e l) = absurd (h.some refl)

    walked_more : (k room : ℕ) (r : Run) (out : List ℕ) (t : Turn) → Seen P Z allowance (suc k) room r t → ((room : ℕ) (r : Run) (out : List ℕ) → Walked r out (advance P Z allowance k room r))
        → Walked r out (elim t [ ends e n ↦ stopped e n | moves bytes n ↦ after bytes (advance P Z allowance k (room - length bytes) n) ])
    walked_more k room r out (ends e n) h next = walked_ends (suc k) room r out e n h
    walked_more k room r out _ (seen_step {bytes = bytes} {s = s} h e l) next =
        let o = advance P Z allowance k (room - length bytes) (stepped s r) in
        let w = next (room - length bytes) (stepped s r) (out ++ bytes) in
        let count : suc o.steps ≡ 1 + o.steps = omega arith in
        let u = o.run.state in
        let a : Ahead o.steps (step P Z (main_of P) r.state) out u (out ++ (bytes ++ o.bytes)) =
        subst (λ (x : Outcome). Ahead o.steps x out u (out ++ (bytes ++ o.bytes))) (sym e)
        (ahead refl (subst (λ (p : List ℕ). Walk o.steps s (out ++ bytes) u p) (append_assoc out bytes o.bytes) w.walk)) in
        record { walk = subst (λ (n : ℕ). Walk n r.state out u (out ++ (bytes ++ o.bytes))) count (go a); steps = omega (arith, w.steps) }

    pub walked : (k room : ℕ) (r : Run) (out : List ℕ) → Walked r out (advance P Z allowance k room r)
    unfolding advance
    walked zero room r out = walked_none room r out (turn P Z allowance 0 room r) (seen P Z allowance 0 room r)
    walked (suc k) room r out = walked_more k room r out (turn P Z allowance (suc k) room r) (seen P Z allowance (suc k) room r) (walked k)

    -- and so is a list of advances
    pub record WalkedAll (r : Run) (out : List ℕ) (cs : List Call) : Type 0 where
      pub walk : Walk (counted P Z allowance r cs) r.state out (reached P Z allowance r cs).state (out ++ written P Z allowance r cs)
      pub steps : (reached P Z allowance r cs).steps ≡ r.steps + counted P Z allowance r cs

    pub walked_all : (r : Run) (out : List ℕ) (cs : List Call) → WalkedAll r out cs
    walked_all r out [] = record { walk = subst (λ (o : List ℕ). Walk 0 r.state out r.state o) (sym (append-nil out)) stop; steps = omega arith }
    walked_all r out (c ∷ cs) =
        let o = answer P Z allowance r c in
        let w = walked c.count c.room r out in
        let next = walked_all o.run (out ++ o.bytes) cs in
        let u = (reached P Z allowance o.run cs).state in
        let p = written P Z allowance o.run cs in
        let n = counted P Z allowance o.run cs in
        record {
          walk = subst (λ (w : List ℕ). Walk (o.steps + n) r.state out u w) (append_assoc out o.bytes p) (walk_then o.steps n (o.steps + n) r.state o.run.state u out (out ++ o.bytes) ((out ++ o.bytes) ++ p) refl w.walk next.walk);
          steps = omega (arith, w.steps, next.steps);
        }
