-- One number more: the chain of its bucket begins with it, and the other chains are as they were. `b` has the buckets before, `c` those after.
use Rattle.std.proofs.Common.{◌≡◌, ℕ, ◌+◌, ◌<◌, ◌⊎◌, List, length, get_or, set, Some, None, Option, inl, inr, sym, ap, ◌∙◌, arith}
use Rattle.std.proofs.lemmas.Bool.{cases_eq}
use Rattle.std.proofs.lemmas.List.{get_or-set_same, get_or-set_other}
use Rattle.names.specs.Indexing.{last_in}
use Rattle.names.proofs.Chains.{same_last, last_here, last_elsewhere}

module _ (b c : ℕ → ℕ) (n h : ℕ) (heads links : List (Option ℕ)) (same : (j : ℕ) → j < n → b j ≡ c j) (here : c n ≡ h) (low : h < length heads) (is : (g : ℕ) → g < length heads → get_or heads g None ≡ last_in b g n) where
  pub heads_more : (g : ℕ) → g < length heads → get_or (set heads h (Some n)) g None ≡ last_in c g (n + 1)
  heads_more g k = go (cases_eq g h)
    where
      go : (g ≡ h) ⊎ (g ≡ h → ⊥) → get_or (set heads h (Some n)) g None ≡ last_in c g (n + 1)
      go (inl e) = ap (λ i. get_or (set heads h (Some n)) i None) e ∙ get_or-set_same heads h (Some n) None low ∙ sym (last_here c h n here) ∙ ap (λ i. last_in c i (n + 1)) (sym e)
      go (inr other) = get_or-set_other heads h g (Some n) None other ∙ is g k ∙ same_last b c g n same ∙ sym (last_elsewhere c g n (λ e. other (sym e ∙ here)))

  pub links_more : ((k : ℕ) → k < n → get_or links k None ≡ last_in b (b k) k) → n < length links → (k : ℕ) → k < n + 1 → get_or (set links n (get_or heads h None)) k None ≡ last_in c (c k) k
  links_more chained room k below = go (cases_eq k n)
    where
      go : (k ≡ n) ⊎ (k ≡ n → ⊥) → get_or (set links n (get_or heads h None)) k None ≡ last_in c (c k) k
      go (inl e) =
          ap (λ i. get_or (set links n (get_or heads h None)) i None) e ∙ get_or-set_same links n (get_or heads h None) None room ∙ is h low ∙ same_last b c h n same
          ∙ ap (λ i. last_in c i n) (sym here) ∙ ap (λ i. last_in c (c i) i) (sym e)
      go (inr other) =
          let under : k < n = omega arith in
          get_or-set_other links n k (get_or heads h None) None other ∙ chained k under ∙ same_last b c (b k) k (λ j b. same j (omega arith)) ∙ ap (λ i. last_in c i k) (same k under)
