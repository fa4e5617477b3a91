-- The type expressions of a script in text order, one row for each.
use Rattle.std.specs.Prelude.{◌≡◌, ℕ, ◌+◌, ◌-◌, ◌<◌, ◌/◌, cond, List, [], ◌∷◌, ◌++◌, length, Some, None, Option, nat_lt, slice_index_or}
use Rattle.basis.specs.Numbers.{numbered}
use Rattle.basis.specs.declared.function.Basis.{Basis}
use Rattle.grammar.specs.Limits.{type_count, types_count, types_length}
use Rattle.grammar.specs.Trees as tree
use Rattle.grammar.specs.Trees.{TypeExpr, TypeExprs, Constructor, datatype_definition, type_annotation, function_definition, val_binding, Script}
use Rattle.program.specs.Programs.{Program}
use Rattle.type_rows.specs.Rows.{row_at}
use Rattle.type_rows.specs.declared.row.Row.{Row}
use Rattle.type_rows.specs.declared.shape.Shape.{Shape}
use Rattle.type_rows.specs.declared.shape.Shape.TheVariants as shape
use Rattle.typing.specs.Types.{Ty, unit, number_in, type_of, signature}

-- a type expression and all that it holds, in text order
abbrev mutual
  pub inner : TypeExpr → List TypeExpr
  inner (tree.int_type p) = tree.int_type p ∷ []
  inner (tree.bool_type p) = tree.bool_type p ∷ []
  inner (tree.sym_type p) = tree.sym_type p ∷ []
  inner (tree.unit_type p) = tree.unit_type p ∷ []
  inner (tree.datatype x) = tree.datatype x ∷ []
  inner (tree.function_type_rule p ts t) = tree.function_type_rule p ts t ∷ (inners ts ++ inner t)

  pub inners : TypeExprs → List TypeExpr
  inners tree.no_types = []
  inners (tree.and_type t ts) = inner t ++ inners ts

abbrev pub field_types : List Constructor → List TypeExpr
field_types [] = []
field_types (c ∷ cs) = inners c.fields ++ field_types cs

abbrev pub types_listed : Script → List TypeExpr
types_listed [] = []
types_listed (datatype_definition p x cs ∷ ds) = field_types cs ++ types_listed ds
types_listed (type_annotation p x t ∷ ds) = inner t ++ types_listed ds
types_listed (function_definition p x ps e ∷ ds) = types_listed ds
types_listed (val_binding p x e ∷ ds) = types_listed ds

-- the shape of a type expression, and its row with the number k
abbrev pub head_shape : Program → TypeExpr → Shape
head_shape P (tree.int_type p) = shape.Int
head_shape P (tree.bool_type p) = shape.Bool
head_shape P (tree.sym_type p) = shape.Sym
head_shape P (tree.unit_type p) = shape.Unit
head_shape P (tree.datatype x) = shape.Datatype (number_in x.bytes P.datatypes)
head_shape P (tree.function_type_rule p ts t) = shape.Function (types_length ts)

-- the row of the result type, for a function type
abbrev pub row_of_result : ℕ → TypeExpr → ℕ
row_of_result k (tree.int_type p) = 0
row_of_result k (tree.bool_type p) = 0
row_of_result k (tree.sym_type p) = 0
row_of_result k (tree.unit_type p) = 0
row_of_result k (tree.datatype x) = 0
row_of_result k (tree.function_type_rule p ts t) = k + 1 + types_count ts

abbrev pub row_of : Program → ℕ → TypeExpr → Row
row_of P k t = record { shape = head_shape P t; past = k + type_count t; result = row_of_result k t }

abbrev pub no_type : TypeExpr
no_type = tree.int_type 0

abbrev pub expr_at : List TypeExpr → ℕ → TypeExpr
expr_at ts k = slice_index_or ts k no_type

-- each type expression of a list has its row
abbrev pub HasRows : Program → List TypeExpr → List Row → Type 0
HasRows P ts rows = (k : ℕ) → k < length ts → row_at rows k ≡ row_of P k (expr_at ts k)

abbrev pub basis_meaning : Option Basis → Ty
basis_meaning (Some f) = signature f
basis_meaning None = unit

-- the type that a row stands for: of a type expression of the script, and behind them of a function of the basis
abbrev pub meaning : Program → List TypeExpr → ℕ → Ty
meaning P ts k = cond (nat_lt k 512) (type_of P (expr_at ts k)) (basis_meaning (numbered ((k - 512) / 4)))
