-- What the check knows of a whole script before it judges bodies.
use Rattle.std.specs.Prelude.{◌≡◌, ℕ, ◌≤◌, Bool, true, false, List, [], length, Ok, Err, Some, codes, Result}
use Rattle.std.specs.List.{slice_get}
use Rattle.globals.specs.Names.{Named}
use Rattle.globals.specs.Pairs.{DefineHas}
use Rattle.globals.specs.declared.variant.Variant.{Variant as VariantCode}
use Rattle.globals.specs.declared.whole.Globals.{Globals}
use Rattle.grammar.specs.Trees.{Script}
use Rattle.program.specs.Programs.{Program, Variant, program, first_of}
use Rattle.script_refusals.specs.Refusals.{refused_at}
use Rattle.script_refusals.specs.declared.refusal.Refusal.TheVariants as refusal
use Rattle.script_refusals.specs.declared.refusal.Refused.{Refused}
use Rattle.type_rows.specs.Rows.{TypesLie, RowsMean, IsKind}
use Rattle.type_rows.specs.Shapes.{ty}
use Rattle.type_rows.specs.Signatures.{HasBasis}
use Rattle.type_rows.specs.TypeExprs.{types_listed, meaning, HasRows}
use Rattle.type_rows.specs.declared.row.Row.{Row}
use Rattle.type_rows.specs.declared.value_type.ValueType.{ValueType}
use Rattle.typing.specs.Scripts.{basis_names}
use Rattle.typing.specs.Types.{Ty, types_of, count, function_type}
use Rattle.typing.specs.Verdict.{Verdict, accepted, refused, before, each, stated, paired, main_stands, once_all}

-- the type that a row stands for
abbrev pub meaning_in : Script → ℕ → Ty
meaning_in script = meaning (program script) (types_listed script)

pub record Known (text : List ℕ) (g : Globals) (script : Script) : Type 0 where
  pub named : Named text g.declared script
  pub has : HasRows (program script) (types_listed script) g.rows.rows
  pub mean : RowsMean g.rows.rows (meaning_in script)
  pub basis : HasBasis g.rows.rows (length (types_listed script))
  pub few : length (types_listed script) ≤ 512
  pub types : (j : ℕ) → DefineHas (program script) (meaning_in script) g.rows g.types j

-- a function's type is this one
pub record FunctionIs (script : Script) (rows : List Row) (n : ℕ) (kind : ValueType) : Type 0 where
  pub type : function_type (program script) n ≡ Some (ty (meaning_in script) kind)
  pub valid : IsKind rows kind

-- a constructor of the script is this one
pub record VariantIs (script : Script) (rows : List Row) (k : ℕ) (w : VariantCode) : Type 0 where
  pub entry : Variant
  pub at : slice_get (program script).variants k ≡ Some entry
  pub datatype : w.datatype ≡ entry.datatype
  pub fields : w.fields ≡ count (types_of (program script) entry.fields)
  pub lie : TypesLie rows (meaning_in script) w.first w.past (types_of (program script) entry.fields)

-- What is judged of the whole script before any body.
abbrev pub whole_verdict : Program → Script → Verdict
whole_verdict P script =
    before (once_all basis_names basis_names [] script)
    (before (each (stated P) script)
    (before (each (paired P) script)
    (main_stands P (first_of (λ d. d.name) (codes "main") P.defines))))

-- what the judgement of `main` says, by whether it fits
abbrev pub told_main : Verdict → Bool → Type 0
told_main v true = v ≡ accepted
told_main v false = v ≡ refused (refused_at refusal.NoMain 0)

-- all is known, or the first refusal
abbrev pub IsWhole : List ℕ → Script → Result Globals Refused → Type 0
IsWhole text script (Ok g) = (whole_verdict (program script) script ≡ accepted) × Known text g script
IsWhole text script (Err r) = whole_verdict (program script) script ≡ refused r
