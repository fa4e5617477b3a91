-- A list whose entries are all one node.
use Rattle.std.proofs.Common.{◌≡◌, ℕ, suc, ◌<◌, Bool, true, false, List, [], ◌∷◌, length, get_or, replicate, IsTrue, MatchBool, refl, ap, ◌∙◌, arith}
use Rattle.std.proofs.lemmas.List.{get_or-replicate}
use Rattle.std.specs.List.{AllWithin, HoldsAt}

all_same : {X : Type 0} (x : X) (xs : List X) → AllWithin (λ y. y ≡ x) xs 0 (length xs) → xs ≡ replicate (length xs) x
all_same x [] h = refl
all_same x (y ∷ ys) h =
    ap (λ z. z ∷ ys) (h 0 x (omega arith) (omega arith))
    ∙ ap (λ zs. x ∷ zs) (all_same x ys (λ k d low high. h (suc k) d (omega arith) (omega arith)))

pub all_or_another : {X : Type 0} (x : X) (xs : List X) (r : Bool) → MatchBool r (AllWithin (λ y. y ≡ x) xs 0 (length xs)) ((k : ℕ) × (k < length xs) × HoldsAt (λ y. y ≡ x → ⊥) xs k)
    → (IsTrue r → xs ≡ replicate (length xs) x) × (xs ≡ replicate (length xs) x → IsTrue r)
all_or_another x xs true h = (λ _. all_same x xs h, λ _. refl)
all_or_another x xs false h = (
  λ t. absurd (cc),
  λ e. absurd (h.2 x (ap (λ ys. get_or ys h.0 x) e ∙ get_or-replicate (length xs) h.0 x x h.1)),
)
