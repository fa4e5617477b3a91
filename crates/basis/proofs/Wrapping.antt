-- What wrapping to 32 bits answers.
use Rattle.std.proofs.Common.{◌≡◌, ℕ, zero, suc, ◌+◌, ◌-◌, ◌*◌, ◌/◌, ◌%◌, ◌^◌, ◌<◌, ◌≤◌, ltb, ℤ, pos, negsuc, ◌+ℤ◌, ◌*ℤ◌, neg_ℤ, sym, ap, ◌∙◌, ⊎_elim, mod-lt, mod-eq_of_lt, div-le_self, arith, lit<, w32, SFits, to_z, of_z}
use lib.Signed.{mag, quot_z}
use mir.ValLaws.{of_z_fits}
use Rattle.std.proofs.lemmas.Nat.{pow_below}
use Rattle.std.proofs.lemmas.Bool.{cases_lt, cond-false, le-ltb}
use Rattle.std.proofs.lemmas.Int.{ints, to_z-of_z, SFits-int_wrap, wrapping_mul-bits, int_wrap-mul_right}
use Rattle.std.specs.Int.{int_wrap}
use Rattle.basis.specs.ArithmeticLaws.{Wraps}

-- the int with the bits n is n, or lies 2 ^ 32 below it
read : (n : ℕ) → n < 4294967296 → (j : ℕ) × (to_z w32 n +ℤ pos (j * 4294967296) ≡ pos n)
read n h = ⊎_elim (λ p. (0, omega (arith, ints))) (λ p. (1, let e = cond-false (ltb n 2147483648) (pos n) (negsuc (4294967296 - suc n)) (le-ltb n 2147483648 p) in omega (arith, ints, e))) (cases_lt n 2147483648)

congruent : (z : ℤ) → (j : ℕ) × (k : ℕ) × (int_wrap w32 z +ℤ pos (j * 4294967296) ≡ z +ℤ pos (k * 4294967296))
unfolding int_wrap
congruent (pos n) =
    let r = read (n % 4294967296) (mod-lt n {m = 4294967296} (lit< tt)) in
    (r.0 + n / 4294967296, 0, omega (arith, ints, r.1))
congruent (negsuc n) =
    let small = mod-lt n {m = 4294967296} (lit< tt) in
    let r = read (4294967295 - n % 4294967296) (omega arith) in
    (r.0, n / 4294967296 + 1, omega (arith, ints, r.1))

pub wraps_law : (z r : ℤ) → r ≡ int_wrap w32 z → Wraps z r
wraps_law z r e = let f = SFits-int_wrap w32 z in rw e (record { least = omega (arith, ints); greatest = omega (arith, ints); congruent = congruent z })

-- a number that is not far outside 32 bits is wrapped by reading its bits
pub wrapped_near : (z : ℤ) → mag z < 4294967296 → to_z w32 (of_z w32 z) ≡ int_wrap w32 z
unfolding int_wrap
wrapped_near (pos n) h = ap (to_z w32) (sym (mod-eq_of_lt h))
wrapped_near (negsuc n) h = ap (to_z w32) (omega (arith, mod-eq_of_lt h))

negated : (n : ℕ) → mag (neg_ℤ (pos n)) ≤ n
negated zero = omega arith
negated (suc n) = omega arith

pub quotient_near : (a b : ℤ) → SFits w32 a → mag (quot_z a b) < 4294967296
quotient_near (pos a) (pos b) f = omega (arith, f.sfits, div-le_self a b)
quotient_near (pos a) (negsuc b) f = omega (arith, f.sfits, div-le_self a (suc b), negated (a / suc b))
quotient_near (negsuc a) (pos b) f = omega (arith, f.sfits, div-le_self (suc a) b, negated (suc a / b))
quotient_near (negsuc a) (negsuc b) f = omega (arith, f.sfits, div-le_self (suc a) (suc b))

-- the bits of a shifted to the left are those of a product
pub shifted_left : (a : ℤ) (k : ℕ) → SFits w32 a → k < 32 → to_z w32 ((of_z w32 a * 2 ^ k) % 4294967296) ≡ int_wrap w32 (a *ℤ pos (2 ^ k))
shifted_left a k f h =
    let small : 2 ^ k < 4294967296 = pow_below k 32 h in
    let factor : to_z w32 (2 ^ k) ≡ int_wrap w32 (pos (2 ^ k)) = wrapped_near (pos (2 ^ k)) small in
    wrapping_mul-bits w32 (of_z w32 a) (2 ^ k) (of_z_fits w32 a f).fits small
    ∙ ap (λ y. int_wrap w32 (y *ℤ to_z w32 (2 ^ k))) (to_z-of_z w32 a f)
    ∙ ap (λ y. int_wrap w32 (a *ℤ y)) factor
    ∙ int_wrap-mul_right w32 a (pos (2 ^ k))
