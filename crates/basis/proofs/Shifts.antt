-- The laws of the shifts.
use Rattle.std.proofs.Common.{◌≡◌, ℕ, ◌-◌, ◌%◌, ◌^◌, ◌<◌, Bool, true, false, cond, ltb, ℤ, pos, negsuc, ◌+ℤ◌, ◌*ℤ◌, Ok, Err, Result, sym, refl, ap, arith, w32, SFits, of_z}
use lib.Signed.{shr_z}
use Rattle.std.proofs.lemmas.Nat.{div-add-mod', mod_below, pow_pos}
use Rattle.std.proofs.lemmas.Bool.{ltb-true, ltb-false}
use Rattle.std.proofs.lemmas.Int.{ints}
use Rattle.basis.specs.Arithmetic.{shifted, left_shift, right_shift}
use Rattle.basis.specs.ArithmeticLaws.{Amount, RefusesAmount, LeftShiftLaw, RightShiftLaw}
use Rattle.basis.specs.declared.fault.ArithmeticFault.{ArithmeticFault}
use Rattle.basis.specs.declared.fault.ArithmeticFault.TheVariants.{BadShift}
use Rattle.basis.proofs.Wrapping.{wraps_law}

amount_of_it : (z : ℤ) → SFits w32 z → of_z w32 z < 32 → Amount z (of_z w32 z)
amount_of_it (pos n) f h = record { is = refl; small = h }
amount_of_it (negsuc n) f h = absurd (omega (arith, f.sfits))

-- rounded down
floored : (a : ℤ) (m : ℕ) → 0 < m → (r : ℕ) × (r < m) × (a ≡ (shr_z a m *ℤ pos m) +ℤ pos r)
floored (pos a) m h = (a % m, mod_below a m h, ap pos (sym (div-add-mod' a m)))
floored (negsuc a) m h = (m - 1 - a % m, omega arith, let e = div-add-mod' a m in let l = mod_below a m h in omega (arith, ints))

-- what holds where the amount is refused and where it is not
by_amount : (z answer : ℤ) (Law : Result ℤ ArithmeticFault → Type 0) → SFits w32 z → (RefusesAmount z BadShift → Law (Err BadShift)) → (of_z w32 z < 32 → Law (Ok answer)) → Law (shifted z answer)
by_amount z answer Law f refused answered = go (ltb (of_z w32 z) 32) refl
  where
    go : (t : Bool) → ltb (of_z w32 z) 32 ≡ t → Law (cond t (Ok answer) (Err BadShift))
    go true e = answered (ltb-true (of_z w32 z) 32 e)
    go false e = refused ((λ k m. absurd (let same : of_z w32 z ≡ k = ap (of_z w32) m.is in let low = m.small in omega (arith, ltb-false (of_z w32 z) 32 e))), refl)

module _ (a z : ℤ) (r : Result ℤ ArithmeticFault) (f : SFits w32 z) where
  pub left_shift_law : r ≡ left_shift a z → LeftShiftLaw a z r
  left_shift_law e = rw e (by_amount z _ (LeftShiftLaw a z) f (λ n. n) (λ h. (of_z w32 z, amount_of_it z f h, wraps_law (a *ℤ pos (2 ^ of_z w32 z)) _ refl)))

  pub right_shift_law : r ≡ right_shift a z → RightShiftLaw a z r
  right_shift_law e = rw e (by_amount z _ (RightShiftLaw a z) f (λ n. n) (λ h. (of_z w32 z, amount_of_it z f h, floored a (2 ^ of_z w32 z) (pow_pos (of_z w32 z)))))
