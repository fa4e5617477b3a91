-- The laws of the quotients and the remainders.
use Rattle.std.proofs.Common.{◌≡◌, ℕ, zero, suc, ◌+◌, ◌-◌, ◌*◌, ◌/◌, ◌%◌, ◌<◌, Bool, true, false, cond, eqb, ℤ, pos, negsuc, ◌+ℤ◌, ◌*ℤ◌, neg_ℤ, nat_abs, ◌≤ℤ◌, Ok, Err, Result, sym, refl, ap, subst, ◌∙◌, zero-mul, div-le_self, div-one, arith, w32, SFits, to_z, of_z}
use native.Mathlib.Nat.{div-lt_self, mod-le}
use lib.IntN.{neg_ℤ-+ℤ}
use lib.Signed.{mag, quot_z, rem_z}
use mir.ValLaws.{of_z_fits}
use Rattle.std.proofs.lemmas.Bool.{eqb-true, eqb-false}
use Rattle.std.proofs.lemmas.Nat.{div-add-mod', mod_below}
use Rattle.std.proofs.lemmas.Int.{ints, of_z-to_z, to_z-of_z, int_wrap_fits}
use Rattle.std.specs.Int.{int_wrap}
use Rattle.basis.specs.Arithmetic.{divided, unsigned_quotient, unsigned_remainder_of}
use Rattle.basis.specs.ArithmeticLaws.{Divides, Overflows, Refuses, QuotientLaw, RemainderLaw, UnsignedQuotientLaw, UnsignedRemainderLaw}
use Rattle.basis.specs.declared.fault.ArithmeticFault.{ArithmeticFault}
use Rattle.basis.specs.declared.fault.ArithmeticFault.TheVariants.{ZeroDivisor}

-- negative products and remainders
minus_times : (n d : ℕ) → neg_ℤ (pos n) *ℤ pos d ≡ neg_ℤ (pos (n * d))
minus_times zero d = simp zero-mul
minus_times (suc n) d = refl

minus_times_minus : (n d : ℕ) → neg_ℤ (pos n) *ℤ negsuc d ≡ pos (n * suc d)
minus_times_minus zero d = simp zero-mul
minus_times_minus (suc n) d = refl

abs_minus : (n : ℕ) → nat_abs (neg_ℤ (pos n)) ≡ n
abs_minus zero = refl
abs_minus (suc n) = refl

minus_below : (n : ℕ) → neg_ℤ (pos n) ≤ℤ pos 0
minus_below n = omega (arith, ints)

mag_minus : (n : ℕ) → mag (neg_ℤ (pos n)) ≡ n - 1
mag_minus zero = refl
mag_minus (suc n) = omega arith

-- a negative number is the sum of the negative parts of its magnitude
parts : (a q d : ℕ) → q * d + suc a % d ≡ suc a → negsuc a ≡ neg_ℤ (pos (q * d)) +ℤ neg_ℤ (pos (suc a % d))
parts a q d e = ap (λ n. neg_ℤ (pos n)) (sym e) ∙ neg_ℤ-+ℤ (pos (q * d)) (pos (suc a % d))

pub divides : (a b : ℤ) → (b ≡ pos 0 → ⊥) → Divides a b (quot_z a b) (rem_z a b)
divides (pos a) (pos zero) h = absurd (h refl)
divides (pos a) (pos (suc b)) h = record {
  whole = ap pos (sym (div-add-mod' a (suc b)));
  small = mod_below a (suc b) (omega arith);
  above = λ _. omega (arith, ints);
  below = λ p. omega (arith, ints, mod-le a (suc b));
}
divides (pos a) (negsuc b) h = record {
  whole = ap pos (sym (div-add-mod' a (suc b))) ∙ ap (λ x. x +ℤ pos (a % suc b)) (sym (minus_times_minus (a / suc b) b));
  small = mod_below a (suc b) (omega arith);
  above = λ _. omega (arith, ints);
  below = λ p. omega (arith, ints, mod-le a (suc b));
}
divides (negsuc a) (pos zero) h = absurd (h refl)
divides (negsuc a) (pos (suc b)) h = record {
  whole = parts a (suc a / suc b) (suc b) (div-add-mod' (suc a) (suc b)) ∙ ap (λ x. x +ℤ neg_ℤ (pos (suc a % suc b))) (sym (minus_times (suc a / suc b) (suc b)));
  small = omega (arith, abs_minus (suc a % suc b), mod_below (suc a) (suc b) (omega arith));
  above = λ p. absurd p.le;
  below = λ _. minus_below (suc a % suc b);
}
divides (negsuc a) (negsuc b) h = record {
  whole = parts a (suc a / suc b) (suc b) (div-add-mod' (suc a) (suc b));
  small = omega (arith, abs_minus (suc a % suc b), mod_below (suc a) (suc b) (omega arith));
  above = λ p. absurd p.le;
  below = λ _. minus_below (suc a % suc b);
}

quotient_fits : (a b : ℤ) → SFits w32 a → (Overflows a b → ⊥) → SFits w32 (quot_z a b)
quotient_fits (pos a) (pos b) f h = record { sfits = omega (arith, f.sfits, div-le_self a b) }
quotient_fits (pos a) (negsuc b) f h = record { sfits = omega (arith, f.sfits, div-le_self a (suc b), mag_minus (a / suc b)) }
quotient_fits (negsuc a) (pos b) f h = record { sfits = omega (arith, f.sfits, div-le_self (suc a) b, mag_minus (suc a / b)) }
quotient_fits (negsuc a) (negsuc zero) f h =
    let k : a ≡ 2147483647 → ⊥ = λ e. h record { least = ap negsuc e; minus_one = refl } in
    record { sfits = omega (arith, f.sfits, div-one (suc a), k) }
quotient_fits (negsuc a) (negsuc (suc b)) f h = record { sfits = omega (arith, f.sfits, div-lt_self {n = suc a} {k = suc (suc b)} (omega arith) (omega arith)) }

-- the one quotient that is no int
over : (a b : ℤ) → Overflows a b → int_wrap w32 (quot_z a b) ≡ a
unfolding int_wrap
over a b o = rw (o.least, o.minus_one) refl

module _ (a b : ℤ) (f : SFits w32 a) (g : SFits w32 b) (h : of_z w32 b ≡ 0 → ⊥) where
  nonzero : b ≡ pos 0 → ⊥
  nonzero e = h (ap (of_z w32) e)

  pub quotient_law : (q : ℤ) → q ≡ int_wrap w32 (quot_z a b) → QuotientLaw a b (Ok q)
  quotient_law q e = (
    nonzero,
    λ n. (rem_z a b, let same = e ∙ int_wrap_fits w32 (quot_z a b) (quotient_fits a b f n) in rw same (divides a b nonzero)),
    λ o. e ∙ over a b o,
  )

  pub remainder_law : (r : ℤ) → r ≡ rem_z a b → RemainderLaw a b (Ok r)
  remainder_law r e = (nonzero, (quot_z a b, rw e (divides a b nonzero)))

-- what holds where the divisor is 0 and where it is not
by_divisor : (b answer : ℤ) (Law : Result ℤ ArithmeticFault → Type 0) → SFits w32 b → (Refuses b ZeroDivisor → Law (Err ZeroDivisor)) → ((of_z w32 b ≡ 0 → ⊥) → Law (Ok answer)) → Law (divided b answer)
by_divisor b answer Law g refused answered = go (eqb (of_z w32 b) 0) refl
  where
    go : (t : Bool) → eqb (of_z w32 b) 0 ≡ t → Law (cond t (Err ZeroDivisor) (Ok answer))
    go true e = refused (sym (to_z-of_z w32 b g) ∙ ap (to_z w32) (eqb-true (of_z w32 b) 0 e), refl)
    go false e = answered (eqb-false (of_z w32 b) 0 e)

module _ (a b : ℤ) (r : Result ℤ ArithmeticFault) (f : SFits w32 a) (g : SFits w32 b) where
  pub unsigned_quotient_law : r ≡ unsigned_quotient a b → UnsignedQuotientLaw a b r
  unsigned_quotient_law e = rw e (by_divisor b _ (UnsignedQuotientLaw a b) g (λ z. z) (λ h.
      let m = of_z w32 a in
      let n = of_z w32 b in
      let small : m / n < 4294967296 = omega (arith, div-le_self m n, (of_z_fits w32 a f).fits) in
      let same : of_z w32 (to_z w32 (m / n)) ≡ m / n = of_z-to_z w32 (m / n) small in
      (m % n, mod_below m n (omega (arith, h)), sym (div-add-mod' m n) ∙ ap (λ q. q * n + m % n) (sym same))))

  pub unsigned_remainder_law : r ≡ unsigned_remainder_of a b → UnsignedRemainderLaw a b r
  unsigned_remainder_law e = rw e (by_divisor b _ (UnsignedRemainderLaw a b) g (λ z. z) (λ h.
      let m = of_z w32 a in
      let n = of_z w32 b in
      let small : m % n < 4294967296 = omega (arith, mod-le m n, (of_z_fits w32 a f).fits) in
      let same : of_z w32 (to_z w32 (m % n)) ≡ m % n = of_z-to_z w32 (m % n) small in
      (m / n, subst (λ k. k < n) (sym same) (mod_below m n (omega (arith, h))), sym (div-add-mod' m n) ∙ ap (λ k. m / n * n + k) (sym same))))
