-- What comes next in a state, by what comes next in a machine that mirrors it.
use Rattle.std.proofs.Common.{◌≡◌, ℕ, List, [], ◌∷◌, length, Some, None, refl, ap, subst, arith}
use Rattle.std.specs.List.{slice_get}
use Rattle.cells.specs.Meaning.{Cells}
use Rattle.cells.specs.declared.values.Value.{Value}
use Rattle.data.specs.Trees.{Tree, none}
use Rattle.grammar.specs.Trees.{Expr}
use Rattle.machine.proofs.Resting.{waiting_count}
use Rattle.machine.specs.Holding.{names}
use Rattle.machine.specs.Mirrors.{Rests, Mirrors, mirrors, Hands}
use Rattle.machine.specs.Waiting.{Next, next_opened, next_enter, next_finished, next_over, value_in_hand}
use Rattle.machine.specs.declared.control.Control.{Control as Ahead}
use Rattle.machine.specs.declared.control.Control.TheVariants as ahead
use Rattle.machine.specs.declared.frame.Frame.{Frame as Waiting}
use Rattle.machine.specs.declared.machine.Machine.{Machine}
use Rattle.program.specs.Programs.{Program}
use Rattle.program.specs.Scopes.{Scope}
use Rattle.program.specs.declared.code.Code.{Code}
use Rattle.rules.specs.States.{Environment, Frame, Control, opened, enter, finished, over, Account, State, st}
use Rattle.rules.specs.Steps.{Sizes}
use Rattle.stack.specs.Items.{tops}

module _ {P : Program} {cs : List Code} where
  by_opened : {G : Scope} {c : Control} {k : Ahead} (Q : Control → Type 0) → Next P cs G c k → k ≡ ahead.Opened → Q opened → Q c
  by_opened Q next_opened e q = q
  by_opened Q (next_enter S) e q = absurd (cc)
  by_opened Q next_finished e q = absurd (cc)
  by_opened Q next_over e q = absurd (cc)

  by_enter : {G : Scope} {c : Control} {k : Ahead} {i : ℕ} (Q : Control → Type 0) → Next P cs G c k → k ≡ ahead.Enter i → ((e : Expr) → Q (enter e)) → Q c
  by_enter Q next_opened e g = absurd (cc)
  by_enter Q (next_enter S) e g = g _
  by_enter Q next_finished e g = absurd (cc)
  by_enter Q next_over e g = absurd (cc)

  by_finished : {G : Scope} {c : Control} {k : Ahead} {v : Value} (Q : Control → Type 0) → Next P cs G c k → k ≡ ahead.Finished v → ((t : Tree) → Q (finished t)) → Q c
  by_finished Q next_opened e g = absurd (cc)
  by_finished Q (next_enter S) e g = absurd (cc)
  by_finished Q next_finished e g = g _
  by_finished Q next_over e g = absurd (cc)

  by_over : {G : Scope} {c : Control} {k : Ahead} (Q : Control → Type 0) → Next P cs G c k → k ≡ ahead.Over → Q over → Q c
  by_over Q next_opened e q = absurd (cc)
  by_over Q (next_enter S) e q = absurd (cc)
  by_over Q next_finished e q = absurd (cc)
  by_over Q next_over e q = q

  nothing_in_hand : {G : Scope} {k : Ahead} → Next P cs G opened k → value_in_hand k ≡ []
  nothing_in_hand next_opened = refl

  opened_scope : {G : Scope} {k : Ahead} → Next P cs G opened k → G ≡ []
  opened_scope next_opened = refl

module _ {P : Program} {Z : Sizes} {m₀ m : Cells} {r : Machine} (Q : State → Type 0) where
  comes : {K : List Frame} {env : Environment} {c : Control} {a : Account} → Mirrors P Z m₀ (st K env c a) r m → Next P r.script.now.code (names env) c r.control
  comes (mirrors R N) = N

  pub on_opened : (s : State) → Mirrors P Z m₀ s r m → r.control ≡ ahead.Opened → ((K : List Frame) (env : Environment) (a : Account) → Mirrors P Z m₀ (st K env opened a) r m → Q (st K env opened a)) → Q s
  on_opened (st K env c a) M e g = by_opened (λ c. Mirrors P Z m₀ (st K env c a) r m → Q (st K env c a)) (comes M) e (g K env a) M

  pub on_enter : (s : State) {i : ℕ} → Mirrors P Z m₀ s r m → r.control ≡ ahead.Enter i
      → ((K : List Frame) (env : Environment) (a : Account) (e : Expr) → Mirrors P Z m₀ (st K env (enter e) a) r m → Q (st K env (enter e) a)) → Q s
  on_enter (st K env c a) M e g = by_enter (λ c. Mirrors P Z m₀ (st K env c a) r m → Q (st K env c a)) (comes M) e (λ x. g K env a x) M

  pub on_finished : (s : State) {v : Value} → Mirrors P Z m₀ s r m → r.control ≡ ahead.Finished v
      → ((K : List Frame) (env : Environment) (a : Account) (t : Tree) → Mirrors P Z m₀ (st K env (finished t) a) r m → Q (st K env (finished t) a)) → Q s
  on_finished (st K env c a) M e g = by_finished (λ c. Mirrors P Z m₀ (st K env c a) r m → Q (st K env c a)) (comes M) e (λ t. g K env a t) M

  pub on_over : (s : State) → Mirrors P Z m₀ s r m → r.control ≡ ahead.Over → ((K : List Frame) (env : Environment) (a : Account) → Q (st K env over a)) → Q s
  on_over (st K env c a) M e g = by_over (λ c. Q (st K env c a)) (comes M) e (g K env a)

-- main is called in no one's entries
pub no_entries : {P : Program} {Z : Sizes} {m₀ m : Cells} {r : Machine} {K : List Frame} {env : Environment} {a : Account} → Mirrors P Z m₀ (st K env opened a) r m → names env ≡ []
no_entries (mirrors R N) = opened_scope N

pub rests : {P : Program} {Z : Sizes} {m₀ m : Cells} {r : Machine} {K : List Frame} {env : Environment} {a : Account} → Mirrors P Z m₀ (st K env opened a) r m → Rests P Z m₀ K env a [] none r m
rests {P} {Z} {m₀} {m} {r} {K} {env} {a} (mirrors R N) = subst (λ vs. Rests P Z m₀ K env a vs none r m) (nothing_in_hand N) R

top_of : {T : Type 0} (xs : List T) (x : T) → slice_get xs 0 ≡ Some x → (others : List T) × (xs ≡ x ∷ others)
top_of [] x e = absurd (cc)
top_of (y ∷ xs) x e = (xs, ap (λ y. y ∷ xs) (cc))

empty_top : {T : Type 0} (xs : List T) → slice_get xs 0 ≡ None → length xs ≡ 0
empty_top [] e = refl
empty_top (x ∷ xs) e = absurd (cc)

module _ {P : Program} {Z : Sizes} {m₀ m : Cells} {r : Machine} {env : Environment} {a : Account} {t : Tree} where
  counted : {K : List Frame} → Mirrors P Z m₀ (st K env (finished t) a) r m → length (tops r.frames) ≡ length K
  counted (mirrors R N) = waiting_count R

  -- the newest frame, and what it stands for
  pub on_waiting : (K : List Frame) {frame : Waiting} {v : Value} (Q : List Frame → Type 0) → Mirrors P Z m₀ (st K env (finished t) a) r m → r.control ≡ ahead.Finished v → slice_get (tops r.frames) 0 ≡ Some frame
      → ((f : Frame) (K : List Frame) → Hands P Z m₀ f K env a t frame v r m → Q (f ∷ K)) → Q K
  on_waiting [] {frame} Q M c e g = let top = top_of (tops r.frames) frame e in absurd (omega (arith, counted M, ap length top.1))
  on_waiting (f ∷ K) {frame} Q M c e g = let top = top_of (tops r.frames) frame e in g f K (record { mirrored = M; value = c; others = top.0; stacked = top.1 })

  -- where there is no frame nothing waits
  pub on_none : (K : List Frame) (Q : List Frame → Type 0) → Mirrors P Z m₀ (st K env (finished t) a) r m → slice_get (tops r.frames) 0 ≡ None → Q [] → Q K
  on_none [] Q M e q = q
  on_none (f ∷ K) Q M e q = absurd (omega (arith, counted M, empty_top (tops r.frames) e))
