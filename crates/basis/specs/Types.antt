-- The type of each function of the basis.
use Rattle.std.specs.Prelude.{List, [], ◌∷◌}
use Rattle.basis.specs.declared.basis_type.BasisType.{BasisType}
use Rattle.basis.specs.declared.basis_type.BasisType.TheVariants.{Int, Bool, Sym, Unit}
use Rattle.basis.specs.declared.parameters.Parameters.{Parameters}
use Rattle.basis.specs.declared.parameters.Parameters.TheVariants.{Zero, One, Two}
use Rattle.basis.specs.declared.function.Basis.{Basis}
use Rattle.basis.specs.declared.function.Basis.TheVariants.{EqualInt, EqualBool, EqualSym, EqualUnit, Add, Subtract, Multiply, Divide, Remainder, UnsignedDivide, UnsignedRemainder, Negate, Greater, Less, GreaterOrEqual, LessOrEqual, Not, And, Or, Xor, BitAnd, BitOr, BitXor, ShiftLeft, ShiftRight, Complement, PrintInt, PrintBool, PrintSym, PrintUnit, PrintNewline, PrintAscii, Input}

abbrev pub parameter_types : Basis → Parameters
parameter_types EqualInt = Two Int Int
parameter_types EqualBool = Two Bool Bool
parameter_types EqualSym = Two Sym Sym
parameter_types EqualUnit = Two Unit Unit
parameter_types Add = Two Int Int
parameter_types Subtract = Two Int Int
parameter_types Multiply = Two Int Int
parameter_types Divide = Two Int Int
parameter_types Remainder = Two Int Int
parameter_types UnsignedDivide = Two Int Int
parameter_types UnsignedRemainder = Two Int Int
parameter_types Negate = One Int
parameter_types Greater = Two Int Int
parameter_types Less = Two Int Int
parameter_types GreaterOrEqual = Two Int Int
parameter_types LessOrEqual = Two Int Int
parameter_types Not = One Bool
parameter_types And = Two Bool Bool
parameter_types Or = Two Bool Bool
parameter_types Xor = Two Bool Bool
parameter_types BitAnd = Two Int Int
parameter_types BitOr = Two Int Int
parameter_types BitXor = Two Int Int
parameter_types ShiftLeft = Two Int Int
parameter_types ShiftRight = Two Int Int
parameter_types Complement = One Int
parameter_types PrintInt = One Int
parameter_types PrintBool = One Bool
parameter_types PrintSym = One Sym
parameter_types PrintUnit = One Unit
parameter_types PrintNewline = Zero
parameter_types PrintAscii = One Int
parameter_types Input = Zero

abbrev pub result_of : Basis → BasisType
result_of EqualInt = Bool
result_of EqualBool = Bool
result_of EqualSym = Bool
result_of EqualUnit = Bool
result_of Add = Int
result_of Subtract = Int
result_of Multiply = Int
result_of Divide = Int
result_of Remainder = Int
result_of UnsignedDivide = Int
result_of UnsignedRemainder = Int
result_of Negate = Int
result_of Greater = Bool
result_of Less = Bool
result_of GreaterOrEqual = Bool
result_of LessOrEqual = Bool
result_of Not = Bool
result_of And = Bool
result_of Or = Bool
result_of Xor = Bool
result_of BitAnd = Int
result_of BitOr = Int
result_of BitXor = Int
result_of ShiftLeft = Int
result_of ShiftRight = Int
result_of Complement = Int
result_of PrintInt = Unit
result_of PrintBool = Unit
result_of PrintSym = Unit
result_of PrintUnit = Unit
result_of PrintNewline = Unit
result_of PrintAscii = Unit
result_of Input = Int

-- the parameters' types in order
abbrev pub listed : Parameters → List BasisType
listed Zero = []
listed (One t) = t ∷ []
listed (Two t u) = t ∷ u ∷ []
