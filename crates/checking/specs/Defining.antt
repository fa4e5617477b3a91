-- What judging the body of a define and the expression of a val leaves.
use Rattle.std.specs.Prelude.{◌≡◌, ◌+◌, List, [], map, length, Some, Ok, Err, Result}
use Rattle.forms.specs.Progress.{puts}
use Rattle.globals.specs.Lying.{ParametersLie}
use Rattle.grammar.specs.Trees.{Ident, bound, Expr, Script}
use Rattle.layout.specs.Decoding.{node_found}
use Rattle.layout.specs.declared.definition.Define.{Define}
use Rattle.layout.specs.declared.definition.Val.{Val}
use Rattle.layout.specs.declared.tables.Tables.{Tables}
use Rattle.naming.specs.Judges.{Setting, Coded, meant, vals_of, rows_of, text_of}
use Rattle.naming.specs.declared.world.World.{World}
use Rattle.program.specs.Compiling.{compile}
use Rattle.program.specs.Programs.{program}
use Rattle.program.specs.Scopes.{bind_scope}
use Rattle.program.specs.declared.code.Code.{Code}
use Rattle.script_refusals.specs.declared.refusal.Refused.{Refused}
use Rattle.type_rows.specs.Rows.{IsKind}
use Rattle.type_rows.specs.declared.value_type.ValueType.{ValueType}
use Rattle.typing.specs.Contexts.{Context}
use Rattle.typing.specs.Judging.{refused as refuses, judged, judge}
use Rattle.typing.specs.Verdict.{accepted, refused, concluded, judge_define}

module _ (world : World) (script : Script) where
  abbrev pub DefineAnswers : Define → List Ident → Expr → ValueType → List Code → Result (Unit {0}) Refused → List Code → Type 0
  DefineAnswers d ps e kind codes (Ok u) after =
      (concluded (judge_define (program script) (vals_of world script) d.place ps e (Some (meant world script kind))) ≡ accepted) × (after ≡ puts codes d.body (compile (program script) (bind_scope (map bound ps) []) d.body e))
  DefineAnswers d ps e kind codes (Err r) after = concluded (judge_define (program script) (vals_of world script) d.place ps e (Some (meant world script kind))) ≡ refused r

  -- the expression of a val has this type
  pub record ValJudged (v : Val) (e : Expr) (codes : List Code) (kind : ValueType) (after : List Code) : Type 0 where
    pub names : Context
    pub type : judge (program script) (vals_of world script) e [] ≡ judged (meant world script kind) names
    pub valid : IsKind (rows_of world script) kind
    pub noted : after ≡ puts codes v.body (compile (program script) [] v.body e)

  abbrev pub ValAnswers : Val → Expr → List Code → Result ValueType Refused → List Code → Type 0
  ValAnswers v e codes (Ok kind) after = ValJudged v e codes kind after
  ValAnswers v e codes (Err r) after = judge (program script) (vals_of world script) e [] ≡ refuses r

abbrev pub OnDefine : World → Tables → Define → ValueType → List Code → Result (Unit {0}) Refused → List Code → Type 0
OnDefine world tables d kind codes result after =
    (script : Script) (ps : List Ident) (e : Expr) → Setting world script → IsKind (rows_of world script) kind → ParametersLie (text_of world script) tables d.first ps → d.past ≡ d.first + length ps
    → Coded world script (node_found world.nodes.now d.body).form e d.body → DefineAnswers world script d ps e kind codes result after

abbrev pub OnVal : World → Val → List Code → Result ValueType Refused → List Code → Type 0
OnVal world v codes result after = (script : Script) (e : Expr) → Setting world script → Coded world script (node_found world.nodes.now v.body).form e v.body → ValAnswers world script v e codes result after
