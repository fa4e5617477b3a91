-- What one digit does to the number that a word writes.
use Rattle.std.proofs.Common.{◌≡◌, ℕ, ◌+◌, ◌-◌, ◌*◌, ◌<◌, ◌≤◌, List, [], ◌∷◌, length, get_or, drop, Some, None, sym, ◌∙◌, add-one, arith, drop-cons}
use Rattle.std.proofs.lemmas.Bool.Decides.{nat_tests}
use Rattle.text.specs.Integers.{decimal, capped}

grows : (n : ℕ) (s : List ℕ) → n ≤ decimal n s
grows n [] = omega arith
grows n (d ∷ s) = let h = grows (n * 10 + (d - 48)) s in omega arith

module _ (s : List ℕ) (i : ℕ) (lt : i < length s) where
  pub digit_step : (n : ℕ) → decimal n (drop i s) ≡ decimal (n * 10 + (get_or s i 0 - 48)) (drop (i + 1) s)
  digit_step n = rw (add-one, drop-cons s i 0 lt)

  pub next_value : (n : ℕ) {d v : ℕ} → decimal n (drop i s) ≡ v → d ≡ get_or s i 0 - 48 → decimal (n * 10 + d) (drop (i + 1) s) ≡ v
  next_value n h e = rw e (sym (digit_step n) ∙ h)

pub over : (n : ℕ) (s : List ℕ) → 4294967295 < n → None ≡ capped (decimal n s)
over n s h = let g = grows n s in let k : 4294967295 < decimal n s = omega arith in grind (arith, nat_tests, k)

pub under : (n : ℕ) → n ≤ 4294967295 → Some n ≡ capped n
under n h = grind (arith, nat_tests, h)
