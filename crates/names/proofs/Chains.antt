-- The last of the first numbers that lies in a bucket.
use Rattle.std.proofs.Common.{◌≡◌, ℕ, zero, suc, ◌+◌, ◌<◌, Bool, true, false, cond, eqb, ◌⊎◌, Some, None, Option, inl, inr, sym, refl, ap, ◌∙◌, add-one, arith}
use Rattle.std.proofs.lemmas.Bool.{eqb-true, eqb-false, eq-eqb, ne_eqb, cases_eq}
use Rattle.names.specs.Indexing.{last_in}

-- it is below the bound, in the bucket, and no later one is
pub record IsLast (b : ℕ → ℕ) (h n k : ℕ) : Type 0 where
  pub below : k < n
  pub here : b k ≡ h
  pub latest : (j : ℕ) → k < j → j < n → b j ≡ h → ⊥

module _ (b : ℕ → ℕ) (h : ℕ) where
  same_number : (k n : ℕ) → ◌≡◌ {A = Option ℕ} (Some n) (Some k) → n ≡ k
  same_number k n e = cc

  -- a number below the next one is the last or below it
  last_or_below : (n j : ℕ) → j < suc n → eqb (b n) h ≡ false → b j ≡ h → j < n
  last_or_below n j low q i = go (cases_eq j n)
    where
      go : (j ≡ n) ⊎ (j ≡ n → ⊥) → j < n
      go (inl e) = absurd (eqb-false (b n) h q (ap b (sym e) ∙ i))
      go (inr e) = omega arith

  pub is_last : (n k : ℕ) → last_in b h n ≡ Some k → IsLast b h n k
  is_last zero k e = absurd (let z : ◌≡◌ {A = ℕ} 0 1 = cc in omega arith)
  is_last (suc n) k e = go (eqb (b n) h) refl e (is_last n k)
    where
      go : (t : Bool) → eqb (b n) h ≡ t → cond t (Some n) (last_in b h n) ≡ Some k → (last_in b h n ≡ Some k → IsLast b h n k) → IsLast b h (suc n) k
      go true q e more = let s = same_number k n e in record { below = omega arith; here = ap b (sym s) ∙ eqb-true (b n) h q; latest = λ j low high i. absurd (omega arith) }
      go false q e more =
          let l : IsLast b h n k = more e in
          let low : k < n = l.below in
          record { below = omega arith; here = l.here; latest = λ j k high i. l.latest j k (last_or_below n j high q i) i }

  pub none_last : (n : ℕ) → last_in b h n ≡ None → (j : ℕ) → j < n → b j ≡ h → ⊥
  none_last zero e j low i = absurd (omega arith)
  none_last (suc n) e j low i = go (eqb (b n) h) refl e (λ e low. none_last n e j low i)
    where
      go : (t : Bool) → eqb (b n) h ≡ t → cond t (Some n) (last_in b h n) ≡ None → (last_in b h n ≡ None → j < n → ⊥) → ⊥
      go true q e more = let z : ◌≡◌ {A = ℕ} 0 1 = cc in omega arith
      go false q e more = more e (last_or_below n j low q i)

-- only the buckets of the numbers below count
pub same_last : (b c : ℕ → ℕ) (h n : ℕ) → ((j : ℕ) → j < n → b j ≡ c j) → last_in b h n ≡ last_in c h n
same_last b c h zero e = refl
same_last b c h (suc n) e = ap (λ m. cond (eqb m h) (Some n) (last_in b h n)) (e n (omega arith)) ∙ ap (λ o. cond (eqb (c n) h) (Some n) o) (same_last b c h n (λ j low. e j (omega arith)))

-- one number more, in the bucket and in another
pub last_here : (b : ℕ → ℕ) (h n : ℕ) → b n ≡ h → last_in b h (n + 1) ≡ Some n
last_here b h n e = ap (last_in b h) (add-one n) ∙ ap (λ t. cond t (Some n) (last_in b h n)) (eq-eqb (b n) h e)

pub last_elsewhere : (b : ℕ → ℕ) (h n : ℕ) → (b n ≡ h → ⊥) → last_in b h (n + 1) ≡ last_in b h n
last_elsewhere b h n e = ap (last_in b h) (add-one n) ∙ ap (λ t. cond t (Some n) (last_in b h n)) (ne_eqb (b n) h e)
