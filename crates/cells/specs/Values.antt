-- Values: the kind and the 32-bit number of each, and the value that a kind and a number stand for.
use Rattle.std.specs.Prelude.{ℕ, Bool, true, false, cond, ◌&&◌, List, [], ◌∷◌, Some, None, Option, ◌==◌}
use Rattle.std.specs.Int.{w32}
use Rattle.std.proofs.Common.{to_z, of_z}
use Rattle.cells.specs.declared.kinds.Kind.{Kind}
use Rattle.cells.specs.declared.kinds.Kind.TheVariants.{Int as KInt, Bool as KBool, Sym as KSym, Unit as KUnit, Function as KFunction, Cell as KCell}
use Rattle.cells.specs.declared.values.Value.{Value}
use Rattle.cells.specs.declared.values.Value.TheVariants.{Int, Bool as Truth, Sym, Unit as Nothing, Function, Cell}

-- the kind of a value
abbrev pub kind_of : Value → Kind
kind_of (Int i) = KInt
kind_of (Truth b) = KBool
kind_of (Sym n) = KSym
kind_of Nothing = KUnit
kind_of (Function n) = KFunction
kind_of (Cell n) = KCell

-- the number of a value; an int's is its 32 bits in two's complement
abbrev pub number_of : Value → ℕ
number_of (Int i) = of_z w32 i
number_of (Truth b) = cond b 1 0
number_of (Sym n) = n
number_of Nothing = 0
number_of (Function n) = n
number_of (Cell n) = n

-- the greatest number that a value of a kind has
abbrev pub most : Kind → ℕ
most KInt = 4294967295
most KBool = 1
most KSym = 4294967295
most KUnit = 0
most KFunction = 4294967295
most KCell = 4294967295

-- the value of a kind with a 32-bit number, if there is one
abbrev pub value_of : Kind → ℕ → Option Value
value_of KInt n = Some (Int (to_z w32 n))
value_of KBool n = cond (n == 0) (Some (Truth false)) (cond (n == 1) (Some (Truth true)) None)
value_of KSym n = Some (Sym n)
value_of KUnit n = cond (n == 0) (Some Nothing) None
value_of KFunction n = Some (Function n)
value_of KCell n = Some (Cell n)

-- whether a value is unit
abbrev pub is_unit : Value → Bool
is_unit (Int i) = false
is_unit (Truth b) = false
is_unit (Sym n) = false
is_unit Nothing = true
is_unit (Function n) = false
is_unit (Cell n) = false

-- whether a value is data: it names a cell
abbrev pub is_cell : Value → Bool
is_cell (Int i) = false
is_cell (Truth b) = false
is_cell (Sym n) = false
is_cell Nothing = false
is_cell (Function n) = false
is_cell (Cell n) = true

-- whether each of the values is unit
abbrev pub all_unit : List Value → Bool
all_unit [] = true
all_unit (v ∷ vs) = is_unit v && all_unit vs
