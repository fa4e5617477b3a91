-- The integer that a word writes: digits, with or without one sign before them.
use Rattle.std.specs.Prelude.{ℕ, ℤ, ◌+◌, ◌-◌, ◌*◌, Bool, true, false, not, cond, ◌&&◌, ◌||◌, List, [], ◌∷◌, length, pos, neg_ℤ, Some, None, Ok, Err, Option, Result, ◌==◌, nat_le}
use Rattle.std.specs.List.{list_all}
use Rattle.text.specs.declared.refusal.Refusal.{Refusal}
use Rattle.text.specs.declared.refusal.Refusal.TheVariants as refusal

abbrev pub is_minus : List ℕ → Bool
is_minus [] = false
is_minus (b ∷ s) = b == 45

-- a word less its sign
abbrev pub unsigned : List ℕ → List ℕ
unsigned [] = []
unsigned (b ∷ s) = cond (b == 43 || b == 45) s (b ∷ s)

abbrev pub digit_byte : ℕ → Bool
digit_byte b = nat_le 48 b && nat_le b 57

-- at least one byte, and each a digit
abbrev pub only_digits : List ℕ → Bool
only_digits s = not (length s == 0) && list_all digit_byte s

-- the number that digits write after the digits of n
abbrev pub decimal : ℕ → List ℕ → ℕ
decimal n [] = n
decimal n (d ∷ s) = decimal (n * 10 + (d - 48)) s

-- a magnitude of at most 32 bits: every integer of 32 bits has one
abbrev pub capped : ℕ → Option ℕ
capped n = cond (nat_le n 4294967295) (Some n) None

-- the integer with this sign, minus or not, and this magnitude: from -2147483648 to 2147483647
abbrev pub signed : Bool → ℕ → Result ℤ Refusal
signed true n = cond (nat_le n 2147483648) (Ok (neg_ℤ (pos n))) (Err refusal.Integer)
signed false n = cond (nat_le n 2147483647) (Ok (pos n)) (Err refusal.Integer)

-- a word of digits writes an integer or is refused
abbrev pub written : Result ℤ Refusal → Result (Option ℤ) Refusal
written (Ok z) = Ok (Some z)
written (Err e) = Err e

-- the integer that a word writes: none where it is no digits, and a refusal where it does not fit
abbrev pub integer_value : List ℕ → Result (Option ℤ) Refusal
integer_value w = cond (only_digits (unsigned w)) (written (signed (is_minus w) (decimal 0 (unsigned w)))) (Ok None)
