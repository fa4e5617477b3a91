-- What holds of a judgement's outcome, whatever it is: nothing of a refusal.
use Rattle.std.proofs.Common.{◌≡◌, ℕ, Bool, true, false, Some, None, Option, refl, subst₂, arith}
use Rattle.script_refusals.specs.declared.refusal.Refused.{Refused}
use Rattle.typing.specs.Contexts.{Context}
use Rattle.typing.specs.Judging.{Judged, refused, judged, and_then, need, tested}
use Rattle.typing.specs.Types.{Ty, int, bool, sym, unit, datum, function}

pub data Holds {X : Type 0} (Q : X → Context → Type 0) : Judged X → Type 0 where
  on_refusal : {r : Refused} → Holds Q (refused r)
  on_judged : {x : X} {Γ : Context} → Q x Γ → Holds Q (judged x Γ)

pub then_holds : {X Y : Type 0} {Q : X → Context → Type 0} {R : Y → Context → Type 0} {j : Judged X} {next : X → Context → Judged Y}
    → Holds Q j → ((x : X) (Γ : Context) → Q x Γ → Holds R (next x Γ)) → Holds R (and_then j next)
then_holds on_refusal k = on_refusal
then_holds (on_judged q) k = k _ _ q

pub follows : {X : Type 0} {Q R : X → Context → Type 0} {j : Judged X} → ((x : X) (Γ : Context) → Q x Γ → R x Γ) → Holds Q j → Holds R j
follows k on_refusal = on_refusal
follows k (on_judged q) = on_judged (k _ _ q)

pub need_holds : {X : Type 0} {R : X → Context → Type 0} (b : Bool) (p : ℕ) {j : Judged X} → (b ≡ true → Holds R j) → Holds R (need b p j)
need_holds true p k = k refl
need_holds false p k = on_refusal

pub tested_holds : {X : Type 0} {R : X → Context → Type 0} (p : ℕ) (τ : Ty) {next : ℕ → Judged X} → ((d : ℕ) → τ ≡ datum d → Holds R (next d)) → Holds R (tested p τ next)
tested_holds p int k = on_refusal
tested_holds p bool k = on_refusal
tested_holds p sym k = on_refusal
tested_holds p unit k = on_refusal
tested_holds p (datum d) k = k d refl
tested_holds p (function ts t) k = on_refusal

pub by_option : {X Y : Type 0} {R : X → Context → Type 0} (o : Option Y) {some : Y → Judged X} {none : Judged X}
    → ((y : Y) → o ≡ Some y → Holds R (some y)) → (o ≡ None → Holds R none) → Holds R (elim o [ Some y ↦ some y | None ↦ none ])
by_option (Some y) k l = k y refl
by_option None k l = l refl

pub held : {X : Type 0} {Q : X → Context → Type 0} {j : Judged X} {x : X} {Γ : Context} → Holds Q j → j ≡ judged x Γ → Q x Γ
held on_refusal e = let z : ◌≡◌ {A = ℕ} 0 1 = cc in absurd (omega arith)
held {Q = Q} {x = x} {Γ = Γ} (on_judged {x = y} {Γ = Δ} q) e =
    let a : y ≡ x = cc in
    let b : Δ ≡ Γ = cc in
    subst₂ Q a b q
