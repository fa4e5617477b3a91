-- A type as the row of its shapes: its own, then those of its parts.
use Rattle.std.specs.Prelude.{ℕ, List, [], ◌∷◌, ◌++◌}
use Rattle.type_rows.specs.declared.shape.Shape.{Shape}
use Rattle.type_rows.specs.declared.shape.Shape.TheVariants as shape
use Rattle.type_rows.specs.declared.value_type.ValueType.{ValueType}
use Rattle.type_rows.specs.declared.value_type.ValueType.TheVariants as value
use Rattle.typing.specs.Types.{Ty, int, bool, sym, unit, datum, function, Tys, no_types, and_type, count}

abbrev mutual
  pub shapes : Ty → List Shape
  shapes int = shape.Int ∷ []
  shapes bool = shape.Bool ∷ []
  shapes sym = shape.Sym ∷ []
  shapes unit = shape.Unit ∷ []
  shapes (datum d) = shape.Datatype d ∷ []
  shapes (function ts t) = shape.Function (count ts) ∷ (shapes_all ts ++ shapes t)

  pub shapes_all : Tys → List Shape
  shapes_all no_types = []
  shapes_all (and_type t ts) = shapes t ++ shapes_all ts

-- The type of a value whose row has this shape and this number.
abbrev pub kind_of : ℕ → Shape → ValueType
kind_of k shape.Int = value.Int
kind_of k shape.Bool = value.Bool
kind_of k shape.Sym = value.Sym
kind_of k shape.Unit = value.Unit
kind_of k (shape.Datatype d) = value.Datatype d
kind_of k (shape.Function n) = value.Function k

-- The type that it is, where `m` gives the function types by their rows.
abbrev pub ty : (ℕ → Ty) → ValueType → Ty
ty m value.Int = int
ty m value.Bool = bool
ty m value.Sym = sym
ty m value.Unit = unit
ty m (value.Datatype d) = datum d
ty m (value.Function k) = m k
