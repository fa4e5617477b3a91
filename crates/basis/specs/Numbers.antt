-- The number of each function of the basis, and the function with a number.
use Rattle.std.specs.Prelude.{◌≡◌, ℕ, ◌≤◌, List, [], ◌∷◌, ◌++◌, Some, None, Option, Result, MatchResult}
use Rattle.std.specs.List.{slice_get}
use Rattle.basis.specs.declared.function.Basis.{Basis}
use Rattle.basis.specs.declared.function.UnknownFunction.{UnknownFunction}
use Rattle.basis.specs.declared.function.Basis.TheVariants.{EqualInt, EqualBool, EqualSym, EqualUnit, Add, Subtract, Multiply, Divide, Remainder, UnsignedDivide, UnsignedRemainder, Negate, Greater, Less, GreaterOrEqual, LessOrEqual, Not, And, Or, Xor, BitAnd, BitOr, BitXor, ShiftLeft, ShiftRight, Complement, PrintInt, PrintBool, PrintSym, PrintUnit, PrintNewline, PrintAscii, Input}

abbrev pub number_of : Basis → ℕ
number_of EqualInt = 0
number_of EqualBool = 1
number_of EqualSym = 2
number_of EqualUnit = 3
number_of Add = 4
number_of Subtract = 5
number_of Multiply = 6
number_of Divide = 7
number_of Remainder = 8
number_of UnsignedDivide = 9
number_of UnsignedRemainder = 10
number_of Negate = 11
number_of Greater = 12
number_of Less = 13
number_of GreaterOrEqual = 14
number_of LessOrEqual = 15
number_of Not = 16
number_of And = 17
number_of Or = 18
number_of Xor = 19
number_of BitAnd = 20
number_of BitOr = 21
number_of BitXor = 22
number_of ShiftLeft = 23
number_of ShiftRight = 24
number_of Complement = 25
number_of PrintInt = 26
number_of PrintBool = 27
number_of PrintSym = 28
number_of PrintUnit = 29
number_of PrintNewline = 30
number_of PrintAscii = 31
number_of Input = 32

-- the functions that tell whether two values are equal
abbrev pub equalities : List Basis
equalities = EqualInt ∷ EqualBool ∷ EqualSym ∷ EqualUnit ∷ []

-- the functions that compute with ints
abbrev pub arithmetic : List Basis
arithmetic = Add ∷ Subtract ∷ Multiply ∷ Divide ∷ Remainder ∷ UnsignedDivide ∷ UnsignedRemainder ∷ Negate ∷ []

-- the functions that compare ints
abbrev pub comparisons : List Basis
comparisons = Greater ∷ Less ∷ GreaterOrEqual ∷ LessOrEqual ∷ []

-- the functions on bools
abbrev pub logic : List Basis
logic = Not ∷ And ∷ Or ∷ Xor ∷ []

-- the functions on the bits of ints
abbrev pub bitwise : List Basis
bitwise = BitAnd ∷ BitOr ∷ BitXor ∷ ShiftLeft ∷ ShiftRight ∷ Complement ∷ []

-- the functions that print and read
abbrev pub exchange : List Basis
exchange = PrintInt ∷ PrintBool ∷ PrintSym ∷ PrintUnit ∷ PrintNewline ∷ PrintAscii ∷ Input ∷ []

-- all functions in order
abbrev pub every_function : List Basis
every_function = equalities ++ (arithmetic ++ (comparisons ++ (logic ++ (bitwise ++ (exchange)))))

-- the function with this number, none from 33 on
abbrev pub numbered : ℕ → Option Basis
numbered n = slice_get every_function n

-- the function with this number, which has it; an error with the number exactly from 33 on
abbrev pub FromNumber : ℕ → Result Basis UnknownFunction → Type 0
FromNumber n r = MatchResult r (λ b. (numbered n ≡ Some b) × (number_of b ≡ n)) (λ e. (numbered n ≡ None) × (e.0 ≡ n) × (33 ≤ n))
