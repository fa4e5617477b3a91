-- What the declarations of a script say of its names.
use Rattle.std.specs.Prelude.{◌≡◌, ℕ, ◌+◌, List, map, length, take, drop, Some, slice_index, slice_index_or}
use Rattle.std.specs.List.{slice_get}
use Rattle.globals.specs.Tallies.{bound_names, annotated_names, meaning_of}
use Rattle.globals.specs.Types.{HasDatatypes}
use Rattle.globals.specs.declared.declarations.Declarations.{Declarations}
use Rattle.globals.specs.declared.variant.Variant.{Variant as VariantCode}
use Rattle.grammar.specs.Limits.{types_count, types_length}
use Rattle.grammar.specs.Trees as tree
use Rattle.grammar.specs.Trees.{Script}
use Rattle.names.specs.Indexing.{IsIndex, names_in}
use Rattle.program.specs.Programs.{Variant, Annotation, program}
use Rattle.type_rows.specs.TypeExprs.{inner, inners, types_listed}
use Rattle.typing.specs.Scripts.{Distinct, basis_names}

-- from a place of a list on stand these
abbrev pub StandsAt : List tree.TypeExpr → ℕ → List tree.TypeExpr → Type 0
StandsAt all i ts = take (length ts) (drop i all) ≡ ts

-- a constructor of the script, by the table of types
pub record IsVariant (all : List tree.TypeExpr) (w : VariantCode) (v : Variant) : Type 0 where
  pub datatype : w.datatype ≡ v.datatype
  pub fields : w.fields ≡ types_length v.fields
  pub past : w.past ≡ w.first + types_count v.fields
  pub types : StandsAt all w.first (inners v.fields)

abbrev pub no_variant : VariantCode
no_variant = record { datatype = 0; first = 0; past = 0; fields = 0 }

-- The declarations name what a script names.
pub record Named (text : List ℕ) (d : Declarations) (script : Script) : Type 0 where
  pub bound : IsIndex text d.bound
  pub bound_are : names_in text d.bound ≡ bound_names (program script).bound
  pub bound_once : Distinct basis_names (bound_names (program script).bound)
  pub meanings : map meaning_of (take (length (program script).bound) d.meanings) ≡ map (λ b. b.meaning) (program script).bound
  pub annotations : IsIndex text d.annotations
  pub annotations_are : names_in text d.annotations ≡ annotated_names (program script).annotations
  pub annotations_once : Distinct basis_names (annotated_names (program script).annotations)
  pub roots : (k : ℕ) (a : Annotation) → slice_get (program script).annotations k ≡ Some a → StandsAt (types_listed script) (slice_index d.roots k) (inner a.type)
  pub datatypes : HasDatatypes text d (program script)
  pub variants : (k : ℕ) (v : Variant) → slice_get (program script).variants k ≡ Some v → IsVariant (types_listed script) (slice_index_or d.variants k no_variant) v
