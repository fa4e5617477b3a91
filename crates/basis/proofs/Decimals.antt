-- Ints in decimal read as the numbers that they are.
use Rattle.std.proofs.Common.{◌≡◌, ℕ, suc, ◌^◌, ◌<◌, true, length, get_or, ℤ, pos, negsuc, decimal, refl, ap, ⊎_elim, arith, w32, SFits, rules}
use Rattle.std.proofs.lemmas.Fmt.{decimal_digit, decimal_nonempty, first_decimal, digits_decimal, digits_value-decimal}
use Rattle.std.proofs.lemmas.Str.Parse.{IsNumeralModel, numerals_by_fold}
use Rattle.std.proofs.lemmas.Bool.{cases_lt}
use Rattle.std.specs.Fmt.{signed_decimal}
use Rattle.std.specs.Str.{all_ascii_digits}
use Rattle.basis.specs.PrintingLaws.{read_on, Digits, Spells}

own : IsNumeralModel (λ ds. all_ascii_digits ds ≡ true) (read_on 0)
own = numerals_by_fold _ (search rules) read_on (search rules)

one_zero : (n : ℕ) → n < 2 ^ 64 → get_or (decimal n) 0 0 ≡ 48 → length (decimal n) ≡ 1
one_zero n h e = ⊎_elim
    (λ z. let d = ap length (decimal_digit n (omega arith)) in d)
    (λ p. absurd (omega (arith, first_decimal n (omega arith) h, e)))
    (cases_lt n 1)

digits : (n : ℕ) → n < 2 ^ 64 → Digits n (decimal n)
digits n h = record { some = decimal_nonempty n h; digits = digits_decimal own n h; short = one_zero n h; reads = digits_value-decimal own n h }

pub spells : (z : ℤ) → SFits w32 z → Spells z (signed_decimal z)
spells (pos n) f = digits n (omega (arith, f.sfits))
spells (negsuc n) f = (decimal (suc n), refl, digits (suc n) (omega (arith, f.sfits)))
