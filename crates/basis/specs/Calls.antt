-- What a call of each function of the basis comes to.
use Rattle.std.specs.Prelude.{ℕ, ◌%◌, true, false, not, ◌&&◌, ◌||◌, List, [], ◌∷◌, ℤ, Ok, Err, Result, ◌==◌, int_le, int_lt}
use Rattle.std.proofs.Math.Bool as bool
use Rattle.basis.specs.Arithmetic.{bits_of, sum, difference, product, negation, quotient, remainder_of, unsigned_quotient, unsigned_remainder_of, conjunction, disjunction, exclusion, complement_of, left_shift, right_shift}
use Rattle.basis.specs.declared.applied.Applied.{Applied}
use Rattle.basis.specs.declared.applied.Applied.TheVariants.{Int, Bool, Prints, Reads, Faults, Mismatch}
use Rattle.basis.specs.declared.fault.ArithmeticFault.{ArithmeticFault}
use Rattle.basis.specs.declared.function.Basis.{Basis}
use Rattle.basis.specs.declared.function.Basis.TheVariants.{EqualInt, EqualBool, EqualSym, EqualUnit, Add, Subtract, Multiply, Divide, Remainder, UnsignedDivide, UnsignedRemainder, Negate, Greater, Less, GreaterOrEqual, LessOrEqual, Not, And, Or, Xor, BitAnd, BitOr, BitXor, ShiftLeft, ShiftRight, Complement, PrintInt, PrintBool, PrintSym, PrintUnit, PrintNewline, PrintAscii, Input}
use Rattle.basis.specs.declared.plain.Plain.{Plain}
use Rattle.basis.specs.declared.plain.Plain.TheVariants as plain
use Rattle.basis.specs.declared.print.Print.TheVariants as print

abbrev pub equal_ints : ℤ → ℤ → bool.Bool
equal_ints a b = bits_of a == bits_of b

abbrev pub equal_bools : bool.Bool → bool.Bool → bool.Bool
equal_bools true b = b
equal_bools false b = not b

-- the low eight bits
abbrev pub low_byte : ℤ → ℕ
low_byte a = bits_of a % 256

-- the result of the arithmetic, or its fault
abbrev pub answer : Result ℤ ArithmeticFault → Applied
answer (Ok n) = Int n
answer (Err fault) = Faults fault

-- go on with the value's content if it has the type, else there is a mismatch
abbrev pub as_int : Plain → (ℤ → Applied) → Applied
as_int (plain.Int n) f = f n
as_int (plain.Bool b) f = Mismatch
as_int (plain.Sym n) f = Mismatch
as_int plain.Unit f = Mismatch

abbrev pub as_bool : Plain → (bool.Bool → Applied) → Applied
as_bool (plain.Int n) f = Mismatch
as_bool (plain.Bool b) f = f b
as_bool (plain.Sym n) f = Mismatch
as_bool plain.Unit f = Mismatch

abbrev pub as_sym : Plain → (ℕ → Applied) → Applied
as_sym (plain.Int n) f = Mismatch
as_sym (plain.Bool b) f = Mismatch
as_sym (plain.Sym n) f = f n
as_sym plain.Unit f = Mismatch

abbrev pub as_unit : Plain → Applied → Applied
as_unit (plain.Int n) r = Mismatch
as_unit (plain.Bool b) r = Mismatch
as_unit (plain.Sym n) r = Mismatch
as_unit plain.Unit r = r

-- go on with the arguments if there are none, one or two of them
abbrev pub none : List Plain → Applied → Applied
none [] r = r
none (v ∷ s) r = Mismatch

abbrev pub one : List Plain → (Plain → Applied) → Applied
one [] f = Mismatch
one (v ∷ []) f = f v
one (v ∷ w ∷ s) f = Mismatch

abbrev pub two : List Plain → (Plain → Plain → Applied) → Applied
two [] f = Mismatch
two (v ∷ []) f = Mismatch
two (v ∷ w ∷ []) f = f v w
two (v ∷ w ∷ x ∷ s) f = Mismatch

abbrev pub int1 : List Plain → (ℤ → Applied) → Applied
int1 s f = one s (λ v. as_int v f)

abbrev pub bool1 : List Plain → (bool.Bool → Applied) → Applied
bool1 s f = one s (λ v. as_bool v f)

abbrev pub sym1 : List Plain → (ℕ → Applied) → Applied
sym1 s f = one s (λ v. as_sym v f)

abbrev pub unit1 : List Plain → Applied → Applied
unit1 s r = one s (λ v. as_unit v r)

abbrev pub ints2 : List Plain → (ℤ → ℤ → Applied) → Applied
ints2 s f = two s (λ v w. as_int v (λ a. as_int w (λ b. f a b)))

abbrev pub bools2 : List Plain → (bool.Bool → bool.Bool → Applied) → Applied
bools2 s f = two s (λ v w. as_bool v (λ a. as_bool w (λ b. f a b)))

abbrev pub syms2 : List Plain → (ℕ → ℕ → Applied) → Applied
syms2 s f = two s (λ v w. as_sym v (λ a. as_sym w (λ b. f a b)))

abbrev pub units2 : List Plain → Applied → Applied
units2 s r = two s (λ v w. as_unit v (as_unit w r))

-- each function on its arguments in order
abbrev pub applied : Basis → List Plain → Applied
applied EqualInt s = ints2 s (λ a b. Bool (equal_ints a b))
applied EqualBool s = bools2 s (λ a b. Bool (equal_bools a b))
applied EqualSym s = syms2 s (λ a b. Bool (a == b))
applied EqualUnit s = units2 s (Bool true)
applied Add s = ints2 s (λ a b. Int (sum a b))
applied Subtract s = ints2 s (λ a b. Int (difference a b))
applied Multiply s = ints2 s (λ a b. Int (product a b))
applied Divide s = ints2 s (λ a b. answer (quotient a b))
applied Remainder s = ints2 s (λ a b. answer (remainder_of a b))
applied UnsignedDivide s = ints2 s (λ a b. answer (unsigned_quotient a b))
applied UnsignedRemainder s = ints2 s (λ a b. answer (unsigned_remainder_of a b))
applied Negate s = int1 s (λ a. Int (negation a))
applied Greater s = ints2 s (λ a b. Bool (int_lt b a))
applied Less s = ints2 s (λ a b. Bool (int_lt a b))
applied GreaterOrEqual s = ints2 s (λ a b. Bool (int_le b a))
applied LessOrEqual s = ints2 s (λ a b. Bool (int_le a b))
applied Not s = bool1 s (λ a. Bool (not a))
applied And s = bools2 s (λ a b. Bool (a && b))
applied Or s = bools2 s (λ a b. Bool (a || b))
applied Xor s = bools2 s (λ a b. Bool (not (equal_bools a b)))
applied BitAnd s = ints2 s (λ a b. Int (conjunction a b))
applied BitOr s = ints2 s (λ a b. Int (disjunction a b))
applied BitXor s = ints2 s (λ a b. Int (exclusion a b))
applied ShiftLeft s = ints2 s (λ a b. answer (left_shift a b))
applied ShiftRight s = ints2 s (λ a b. answer (right_shift a b))
applied Complement s = int1 s (λ a. Int (complement_of a))
applied PrintInt s = int1 s (λ a. Prints (print.Int a))
applied PrintBool s = bool1 s (λ a. Prints (print.Bool a))
applied PrintSym s = sym1 s (λ a. Prints (print.Sym a))
applied PrintUnit s = unit1 s (Prints print.Unit)
applied PrintNewline s = none s (Prints print.Newline)
applied PrintAscii s = int1 s (λ a. Prints (print.Byte (low_byte a)))
applied Input s = none s Reads
