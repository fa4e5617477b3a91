-- Defines and annotations by pairs.
use Rattle.std.specs.Prelude.{◌≡◌, ℕ, ◌+◌, List, Some, None, Ok, Err, Option, Result, slice_set, slice_index_or}
use Rattle.std.specs.List.{slice_get}
use Rattle.globals.specs.Names.{StandsAt}
use Rattle.globals.specs.declared.define_types.DefineTypes.{DefineTypes}
use Rattle.grammar.specs.Trees as tree
use Rattle.grammar.specs.Trees.{Ident, Script}
use Rattle.program.specs.Programs.{Name, Program, Annotation, Define, first_of}
use Rattle.script_refusals.specs.declared.refusal.Refusal.TheVariants as refusal
use Rattle.script_refusals.specs.declared.refusal.Refused.{Refused}
use Rattle.type_rows.specs.Rows.{IsKind}
use Rattle.type_rows.specs.Shapes.{ty}
use Rattle.type_rows.specs.TypeExprs.{inner, types_listed}
use Rattle.type_rows.specs.declared.row.Row.{Row}
use Rattle.type_rows.specs.declared.rows.Rows.{Rows}
use Rattle.type_rows.specs.declared.value_type.ValueType.{ValueType}
use Rattle.type_rows.specs.declared.value_type.ValueType.TheVariants as value
use Rattle.typing.specs.Types.{Ty, annotation_of}
use Rattle.typing.specs.Verdict.{accepted, refused, found, each, paired}

-- the type node of the type that a name is annotated with
abbrev pub IsRoot : Program → Script → Name → Option ℕ → Type 0
IsRoot P script w (Some r) = (a : Annotation) × (first_of (λ a. a.name) w P.annotations ≡ Some a) × StandsAt (types_listed script) r (inner a.type)
IsRoot P script w None = first_of (λ a. a.name) w P.annotations ≡ None

-- a define's name is annotated with this type, or with none
abbrev pub HasType : Program → (ℕ → Ty) → List Row → Ident → Result ValueType Refused → Type 0
HasType P m rows x (Ok τ) = (found refusal.Unpaired x.place (first_of (λ a. a.name) x.bytes P.annotations) ≡ accepted) × (annotation_of P x.bytes ≡ Some (ty m τ)) × IsKind rows τ
HasType P m rows x (Err r) = found refusal.Unpaired x.place (first_of (λ a. a.name) x.bytes P.annotations) ≡ refused r

-- what one definition adds to the types of so many defines
abbrev pub AddsType : Program → (ℕ → Ty) → List Row → ℕ → tree.Definition → List ValueType → ℕ → List ValueType → Type 0
AddsType P m rows n (tree.datatype_definition p x cs) old k new = (k ≡ n) × (new ≡ old)
AddsType P m rows n (tree.type_annotation p x t) old k new = (k ≡ n) × (new ≡ old)
AddsType P m rows n (tree.function_definition p x ps e) old k new = (k ≡ n + 1) × (τ : ValueType) × (new ≡ slice_set old n τ) × (annotation_of P x.bytes ≡ Some (ty m τ)) × IsKind rows τ
AddsType P m rows n (tree.val_binding p x e) old k new = (k ≡ n) × (new ≡ old)

abbrev pub PairsOne : Program → (ℕ → Ty) → List Row → ℕ → tree.Definition → List ValueType → Result ℕ Refused → List ValueType → Type 0
PairsOne P m rows n d old (Ok k) new = (paired P d ≡ accepted) × AddsType P m rows n d old k new
PairsOne P m rows n d old (Err r) new = paired P d ≡ refused r

-- the define with a number has this type
abbrev pub DefineHas : Program → (ℕ → Ty) → Rows → DefineTypes → ℕ → Type 0
DefineHas P m rows types j =
    (d : Define) → slice_get P.defines j ≡ Some d → (annotation_of P d.name.bytes ≡ Some (ty m (slice_index_or types.types j value.Unit))) × IsKind rows.rows (slice_index_or types.types j value.Unit)

-- each define and each annotation has the other, or the first that has not
abbrev pub ArePaired : Program → Script → (ℕ → Ty) → Rows → Result DefineTypes Refused → Type 0
ArePaired P script m rows (Ok types) = (each (paired P) script ≡ accepted) × ((j : ℕ) → DefineHas P m rows types j)
ArePaired P script m rows (Err r) = each (paired P) script ≡ refused r
