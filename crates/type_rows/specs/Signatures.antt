-- The rows of the functions of the basis: four for each, behind those of the script.
use Rattle.std.specs.Prelude.{◌≡◌, ℕ, ◌+◌, ◌*◌, ◌≤◌, List, [], ◌∷◌, slice_set}
use Rattle.basis.specs.Numbers.{number_of}
use Rattle.basis.specs.Types.{parameter_types, result_of}
use Rattle.basis.specs.declared.basis_type.BasisType.{BasisType}
use Rattle.basis.specs.declared.basis_type.BasisType.TheVariants as basis
use Rattle.basis.specs.declared.function.Basis.{Basis}
use Rattle.basis.specs.declared.parameters.Parameters.{Parameters}
use Rattle.basis.specs.declared.parameters.Parameters.TheVariants.{Zero, One, Two}
use Rattle.type_rows.specs.Rows.{row_at, shape_at}
use Rattle.type_rows.specs.declared.row.Row.{Row}
use Rattle.type_rows.specs.declared.shape.Shape.{Shape}
use Rattle.type_rows.specs.declared.shape.Shape.TheVariants as shape

abbrev pub basis_shape : BasisType → Shape
basis_shape basis.Int = shape.Int
basis_shape basis.Bool = shape.Bool
basis_shape basis.Sym = shape.Sym
basis_shape basis.Unit = shape.Unit

-- a row without parts, whose number is one below
abbrev pub plain_row : ℕ → BasisType → Row
plain_row past t = record { shape = basis_shape t; past = past; result = 0 }

abbrev pub function_row : ℕ → ℕ → ℕ → Row
function_row n result past = record { shape = shape.Function n; past = past; result = result }

-- the rows of a function type from row k on
abbrev pub signed : ℕ → Parameters → BasisType → List Row
signed k Zero r = function_row 0 (k + 1) (k + 2) ∷ plain_row (k + 2) r ∷ []
signed k (One t) r = function_row 1 (k + 2) (k + 3) ∷ plain_row (k + 2) t ∷ plain_row (k + 3) r ∷ []
signed k (Two t u) r = function_row 2 (k + 3) (k + 4) ∷ plain_row (k + 2) t ∷ plain_row (k + 3) u ∷ plain_row (k + 4) r ∷ []

-- where the rows of a function of the basis begin
abbrev pub root_of : Basis → ℕ
root_of f = 512 + 4 * number_of f

abbrev pub signature_rows : Basis → List Row
signature_rows f = signed (root_of f) (parameter_types f) (result_of f)

-- a table with these rows written from row k on
abbrev pub stored : List Row → ℕ → List Row → List Row
stored rows k [] = rows
stored rows k (r ∷ rs) = stored (slice_set rows k r) (k + 1) rs

-- from row k on stand these
abbrev pub StandRows : List Row → ℕ → List Row → Type 0
StandRows rows k [] = Unit {0}
StandRows rows k (r ∷ rs) = (row_at rows k ≡ r) × StandRows rows (k + 1) rs

-- Each function of the basis has its rows, and from a row on no other one is a function type's.
pub record HasBasis (rows : List Row) (from : ℕ) : Type 0 where
  pub signed : (f : Basis) → StandRows rows (root_of f) (signature_rows f)
  pub only : (k n : ℕ) → from ≤ k → shape_at rows k ≡ shape.Function n → (f : Basis) × (k ≡ root_of f)
