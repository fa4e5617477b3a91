-- The arithmetic of the basis. An int is a number from -2147483648 to 2147483647, in 32 bits of two's complement.
use Rattle.std.specs.Prelude.{ℕ, ◌-◌, ◌/◌, ◌%◌, ◌^◌, cond, ℤ, pos, ◌+ℤ◌, ◌-ℤ◌, ◌*ℤ◌, neg_ℤ, Ok, Err, Result, ◌==◌, bit_and, bit_or, bit_xor, int_div, int_rem, nat_lt}
use Rattle.std.specs.Int.Signed.{shr_z}
use Rattle.std.proofs.Common.{of_z, to_z}
use Rattle.std.specs.Int.{int_wrap, w32}
use Rattle.basis.specs.declared.fault.ArithmeticFault.{ArithmeticFault}
use Rattle.basis.specs.declared.fault.ArithmeticFault.TheVariants.{ZeroDivisor, BadShift}

-- the 32 bits of an int, read as a number from 0 to 4294967295
abbrev pub bits_of : ℤ → ℕ
bits_of a = of_z w32 a

-- the int that has these 32 bits
abbrev pub int_of : ℕ → ℤ
int_of n = to_z w32 n

-- what becomes of an exact result of + - * neg and /: the int that differs from it by a multiple of 2 ^ 32
abbrev pub settled : ℤ → ℤ
settled z = int_wrap w32 z

abbrev pub sum : ℤ → ℤ → ℤ
sum a b = settled (a +ℤ b)

abbrev pub difference : ℤ → ℤ → ℤ
difference a b = settled (a -ℤ b)

abbrev pub product : ℤ → ℤ → ℤ
product a b = settled (a *ℤ b)

abbrev pub negation : ℤ → ℤ
negation a = settled (neg_ℤ a)

-- an answer, unless the divisor is 0
abbrev pub divided : ℤ → ℤ → Result ℤ ArithmeticFault
divided b answer = cond (bits_of b == 0) (Err ZeroDivisor) (Ok answer)

-- the quotient is cut off towards 0
abbrev pub quotient : ℤ → ℤ → Result ℤ ArithmeticFault
quotient a b = divided b (settled (int_div a b))

-- the remainder has the sign of the first argument
abbrev pub remainder_of : ℤ → ℤ → Result ℤ ArithmeticFault
remainder_of a b = divided b (int_rem a b)

abbrev pub unsigned_quotient : ℤ → ℤ → Result ℤ ArithmeticFault
unsigned_quotient a b = divided b (int_of (bits_of a / bits_of b))

abbrev pub unsigned_remainder_of : ℤ → ℤ → Result ℤ ArithmeticFault
unsigned_remainder_of a b = divided b (int_of (bits_of a % bits_of b))

-- bit by bit
abbrev pub conjunction : ℤ → ℤ → ℤ
conjunction a b = int_of (bit_and (bits_of a) (bits_of b))

abbrev pub disjunction : ℤ → ℤ → ℤ
disjunction a b = int_of (bit_or (bits_of a) (bits_of b))

abbrev pub exclusion : ℤ → ℤ → ℤ
exclusion a b = int_of (bit_xor (bits_of a) (bits_of b))

abbrev pub complement_of : ℤ → ℤ
complement_of a = int_of (4294967295 - bits_of a)

-- an answer, if the amount is from 0 to 31: a negative one has bits above that
abbrev pub shifted : ℤ → ℤ → Result ℤ ArithmeticFault
shifted amount answer = cond (nat_lt (bits_of amount) 32) (Ok answer) (Err BadShift)

-- what leaves the 32 bits is dropped
abbrev pub left_shift : ℤ → ℤ → Result ℤ ArithmeticFault
left_shift a amount = shifted amount (int_wrap w32 (a *ℤ pos (2 ^ bits_of amount)))

-- rounded down, so that copies of the sign come in
abbrev pub right_shift : ℤ → ℤ → Result ℤ ArithmeticFault
right_shift a amount = shifted amount (shr_z a (2 ^ bits_of amount))
