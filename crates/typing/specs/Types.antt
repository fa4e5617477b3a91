-- Types, and the types that a script gives to its functions and constructors.
use Rattle.std.specs.Prelude.{ℕ, ◌+◌, ◌-◌, Bool, false, cond, List, [], ◌∷◌, ◌++◌, Some, None, Option, ◌==◌}
use Rattle.std.specs.List.{slice_get}
use Rattle.std.specs.Str.{bytes_eq}
use Rattle.basis.specs.Numbers.{numbered}
use Rattle.basis.specs.Types.{parameter_types, result_of, listed}
use Rattle.basis.specs.declared.basis_type.BasisType.{BasisType}
use Rattle.basis.specs.declared.basis_type.BasisType.TheVariants as basis
use Rattle.basis.specs.declared.function.Basis.{Basis}
use Rattle.grammar.specs.Trees as tree
use Rattle.grammar.specs.Trees.{Ident, TypeExpr, TypeExprs}
use Rattle.program.specs.Programs.{Name, Program, Annotation, Define, first_of, basis_count}

-- A datatype goes by its number in text order.
mutual
  pub data Ty : Type 0 where
    int bool sym unit : Ty
    datum : ℕ → Ty
    function : Tys → Ty → Ty

  pub data Tys : Type 0 where
    no_types : Tys
    and_type : Ty → Tys → Tys

abbrev pub count : Tys → ℕ
count no_types = 0
count (and_type t ts) = 1 + count ts

-- A type as a row of numbers, one row for each type: two types are the same exactly if their rows are.
abbrev mutual
  pub spelt : Ty → List ℕ
  spelt int = 0 ∷ []
  spelt bool = 1 ∷ []
  spelt sym = 2 ∷ []
  spelt unit = 3 ∷ []
  spelt (datum d) = 4 ∷ d ∷ []
  spelt (function ts t) = 5 ∷ count ts ∷ (spelts ts ++ spelt t)

  pub spelts : Tys → List ℕ
  spelts no_types = []
  spelts (and_type t ts) = spelt t ++ spelts ts

abbrev pub same_type : Ty → Ty → Bool
same_type a b = bytes_eq (spelt a) (spelt b)

-- lists of types are the same if they are as long and as spelt
abbrev pub same_types : Tys → Tys → Bool
same_types ts us = cond (count ts == count us) (bytes_eq (spelts ts) (spelts us)) false

-- the number of the datatype with a name; one that no datatype has where there is none
abbrev pub number_in : Name → List Ident → ℕ
number_in w [] = 0
number_in w (x ∷ xs) = cond (bytes_eq w x.bytes) 0 (1 + number_in w xs)

-- the type that a type expression stands for
abbrev mutual
  pub type_of : Program → TypeExpr → Ty
  type_of P (tree.int_type p) = int
  type_of P (tree.bool_type p) = bool
  type_of P (tree.sym_type p) = sym
  type_of P (tree.unit_type p) = unit
  type_of P (tree.datatype x) = datum (number_in x.bytes P.datatypes)
  type_of P (tree.function_type_rule p ts t) = function (types_of P ts) (type_of P t)

  pub types_of : Program → TypeExprs → Tys
  types_of P tree.no_types = no_types
  types_of P (tree.and_type t ts) = and_type (type_of P t) (types_of P ts)

abbrev pub type_of_basis : BasisType → Ty
type_of_basis basis.Int = int
type_of_basis basis.Bool = bool
type_of_basis basis.Sym = sym
type_of_basis basis.Unit = unit

abbrev pub basis_types : List BasisType → Tys
basis_types [] = no_types
basis_types (t ∷ ts) = and_type (type_of_basis t) (basis_types ts)

-- the type of a function of the basis
abbrev pub signature : Basis → Ty
signature f = function (basis_types (listed (parameter_types f))) (type_of_basis (result_of f))

abbrev pub annotated : Program → Option Annotation → Option Ty
annotated P None = None
annotated P (Some a) = Some (type_of P a.type)

-- the type that a name is annotated with
abbrev pub annotation_of : Program → Name → Option Ty
annotation_of P w = annotated P (first_of (λ a. a.name) w P.annotations)

abbrev pub declared : Program → Option Define → Option Ty
declared P None = None
declared P (Some d) = annotation_of P d.name.bytes

abbrev pub basis_or_define : Program → ℕ → Option Basis → Option Ty
basis_or_define P n (Some f) = Some (signature f)
basis_or_define P n None = declared P (slice_get P.defines (n - basis_count))

-- the type of the function with a number
abbrev pub function_type : Program → ℕ → Option Ty
function_type P n = basis_or_define P n (numbered n)
