-- The name of each function of the basis, and where it stands in the list of all names.
use Rattle.std.specs.Prelude.{ℕ, ◌-◌, cond, List, [], ◌∷◌, length, take, drop, Some, None, codes, Option, nat_le}
use Rattle.std.specs.Str.{bytes_eq}
use Rattle.basis.specs.Numbers.{every_function}
use Rattle.basis.specs.declared.function.Basis.{Basis}
use Rattle.basis.specs.declared.function.Basis.TheVariants.{EqualInt, EqualBool, EqualSym, EqualUnit, Add, Subtract, Multiply, Divide, Remainder, UnsignedDivide, UnsignedRemainder, Negate, Greater, Less, GreaterOrEqual, LessOrEqual, Not, And, Or, Xor, BitAnd, BitOr, BitXor, ShiftLeft, ShiftRight, Complement, PrintInt, PrintBool, PrintSym, PrintUnit, PrintNewline, PrintAscii, Input}
use Rattle.basis.specs.declared.span.Span.{Span}

abbrev pub name_of : Basis → List ℕ
name_of EqualInt = codes "=i"
name_of EqualBool = codes "=b"
name_of EqualSym = codes "=s"
name_of EqualUnit = codes "=u"
name_of Add = codes "+"
name_of Subtract = codes "-"
name_of Multiply = codes "*"
name_of Divide = codes "/"
name_of Remainder = codes "%"
name_of UnsignedDivide = codes "udiv"
name_of UnsignedRemainder = codes "umod"
name_of Negate = codes "neg"
name_of Greater = codes ">"
name_of Less = codes "<"
name_of GreaterOrEqual = codes ">="
name_of LessOrEqual = codes "<="
name_of Not = codes "not"
name_of And = codes "and"
name_of Or = codes "or"
name_of Xor = codes "xor"
name_of BitAnd = codes "&"
name_of BitOr = codes "|"
name_of BitXor = codes "^"
name_of ShiftLeft = codes "<<"
name_of ShiftRight = codes ">>"
name_of Complement = codes "~"
name_of PrintInt = codes "print-int"
name_of PrintBool = codes "print-bool"
name_of PrintSym = codes "print-sym"
name_of PrintUnit = codes "print-unit"
name_of PrintNewline = codes "print-newline"
name_of PrintAscii = codes "print-ascii"
name_of Input = codes "in"

-- all names in order, a space between two
abbrev pub basis_names : List ℕ
basis_names = codes "=i =b =s =u + - * / % udiv umod neg > < >= <= not and or xor & | ^ << >> ~ print-int print-bool print-sym print-unit print-newline print-ascii in"

abbrev pub span : ℕ → ℕ → Span
span from to = record { from = from; to = to }

-- where each name stands in that list
abbrev pub span_of : Basis → Span
span_of EqualInt = span 0 2
span_of EqualBool = span 3 5
span_of EqualSym = span 6 8
span_of EqualUnit = span 9 11
span_of Add = span 12 13
span_of Subtract = span 14 15
span_of Multiply = span 16 17
span_of Divide = span 18 19
span_of Remainder = span 20 21
span_of UnsignedDivide = span 22 26
span_of UnsignedRemainder = span 27 31
span_of Negate = span 32 35
span_of Greater = span 36 37
span_of Less = span 38 39
span_of GreaterOrEqual = span 40 42
span_of LessOrEqual = span 43 45
span_of Not = span 46 49
span_of And = span 50 53
span_of Or = span 54 56
span_of Xor = span 57 60
span_of BitAnd = span 61 62
span_of BitOr = span 63 64
span_of BitXor = span 65 66
span_of ShiftLeft = span 67 69
span_of ShiftRight = span 70 72
span_of Complement = span 73 74
span_of PrintInt = span 75 84
span_of PrintBool = span 85 95
span_of PrintSym = span 96 105
span_of PrintUnit = span 106 116
span_of PrintNewline = span 117 130
span_of PrintAscii = span 131 142
span_of Input = span 143 145

-- the part of a list of names from one place to another, nothing where the list is too short
abbrev pub part_of : Span → List ℕ → List ℕ
part_of p names = cond (nat_le p.to (length names)) (take (p.to - p.from) (drop p.from names)) []

abbrev pub first_named : List ℕ → List Basis → Option Basis
first_named word [] = None
first_named word (b ∷ bs) = cond (bytes_eq word (name_of b)) (Some b) (first_named word bs)

-- the function with this name
abbrev pub named : List ℕ → Option Basis
named word = first_named word every_function
