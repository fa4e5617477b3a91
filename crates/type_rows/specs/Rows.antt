-- What the table of types means: which type each function type's row is.
use Rattle.std.specs.Prelude.{◌≡◌, ℕ, ◌+◌, ◌-◌, ◌<◌, List, length, get_or, slice_index_or}
use Rattle.type_rows.specs.Shapes.{shapes, kind_of, ty}
use Rattle.type_rows.specs.declared.row.Row.{Row}
use Rattle.type_rows.specs.declared.shape.Shape.{Shape}
use Rattle.type_rows.specs.declared.shape.Shape.TheVariants as shape
use Rattle.type_rows.specs.declared.value_type.ValueType.{ValueType}
use Rattle.type_rows.specs.declared.value_type.ValueType.TheVariants as value
use Rattle.typing.specs.Types.{Ty, function, Tys, no_types, and_type, count}

-- what is read where there is no row
abbrev pub no_row : Row
no_row = record { shape = shape.Unit; past = 0; result = 0 }

abbrev pub row_at : List Row → ℕ → Row
row_at rows k = slice_index_or rows k no_row

abbrev pub shape_at : List Row → ℕ → Shape
shape_at rows k = (row_at rows k).shape

-- the type of a value of the type in a row
abbrev pub kind_at : List Row → ℕ → ValueType
kind_at rows k = kind_of k (shape_at rows k)

module _ (rows : List Row) (m : ℕ → Ty) where
  -- from row i up to row j lie these types
  pub data TypesLie : ℕ → ℕ → Tys → Type 0 where
    no_rows : {i j : ℕ} → i ≡ j → TypesLie i j no_types
    and_row : {i j : ℕ} {t : Ty} {ts : Tys} → i < j → ty m (kind_at rows i) ≡ t → TypesLie (row_at rows i).past j ts → TypesLie i j (and_type t ts)

  -- row k is a function type, with its parts behind it
  pub record FunctionLies (k : ℕ) : Type 0 where
    pub parameters : Tys
    pub value : Ty
    pub meant : m k ≡ function parameters value
    pub arity : shape_at rows k ≡ shape.Function (count parameters)
    pub lie : TypesLie (k + 1) (row_at rows k).result parameters
    pub last : ty m (kind_at rows (row_at rows k).result) ≡ value
    pub size : (row_at rows k).past ≡ k + length (shapes (function parameters value))
    pub spelt : (d : ℕ) → d < length (shapes (function parameters value)) → shape_at rows (k + d) ≡ get_or (shapes (function parameters value)) d shape.Unit

  -- each row with the shape of a function type is one
  abbrev pub RowsMean : Type 0
  RowsMean = (k n : ℕ) → shape_at rows k ≡ shape.Function n → FunctionLies k

-- the number that a function type goes by is that of a function type's row
abbrev pub IsKind : List Row → ValueType → Type 0
IsKind rows value.Int = Unit {0}
IsKind rows value.Bool = Unit {0}
IsKind rows value.Sym = Unit {0}
IsKind rows value.Unit = Unit {0}
IsKind rows (value.Datatype d) = Unit {0}
IsKind rows (value.Function k) = (n : ℕ) × (shape_at rows k ≡ shape.Function n)

-- two rows and their parts look the same
pub record LookSame (rows : List Row) (x y : ℕ) : Type 0 where
  pub sizes : (row_at rows x).past - x ≡ (row_at rows y).past - y
  pub alike : (d : ℕ) → d < (row_at rows x).past - x → shape_at rows (x + d) ≡ shape_at rows (y + d)
