-- The judgement of a define, by those of its parts.
use Rattle.std.proofs.Common.{◌≡◌, ℕ, ◌+◌, ◌≤◌, ◌-◌, Bool, true, false, List, [], length, Some, Ok, Err, Result, sym, ap, ◌∙◌, subst, arith}
use Rattle.std.specs.Prelude.{map, ◌==◌}
use Rattle.std.proofs.lemmas.Bool.{eq-eqb, ne_eqb}
use Rattle.bodies.proofs.NodeLaws.{coded_low}
use Rattle.bodies.specs.Parts.{OnExpr}
use Rattle.forms.specs.Progress.{puts}
use Rattle.globals.proofs.PairLaws.{kind_valid}
use Rattle.globals.specs.Known.{meaning_in}
use Rattle.globals.specs.Lying.{ParametersLie}
use Rattle.grammar.specs.Trees.{Ident, bound, Expr, Script}
use Rattle.layout.specs.Decoding.{node_found}
use Rattle.layout.specs.declared.definition.Define.{Define}
use Rattle.layout.specs.declared.tables.Tables.{Tables}
use Rattle.naming.specs.Binding.{OnParameters, ParametersAnswers, PartsBound}
use Rattle.naming.specs.Judges.{Desk, Setting, Ready, Lying, Coded, ExprAnswers, names, meant, vals_of, rows_of, text_of}
use Rattle.naming.specs.declared.world.World.{World}
use Rattle.program.specs.Compiling.{compile}
use Rattle.program.specs.Programs.{program}
use Rattle.program.specs.Scopes.{bind_scope}
use Rattle.program.specs.declared.code.Code.{Code}
use Rattle.scopes.specs.Locals.{context}
use Rattle.script_refusals.specs.Refusals.{refused_at}
use Rattle.script_refusals.specs.declared.refusal.Refusal.TheVariants.{Mismatch}
use Rattle.script_refusals.specs.declared.refusal.Refused.{Refused}
use Rattle.type_rows.specs.Rows.{row_at, kind_at, TypesLie, no_rows, and_row, IsKind, FunctionLies}
use Rattle.type_rows.specs.declared.row.Row.{Row}
use Rattle.type_rows.specs.declared.shape.Shape.TheVariants as shape
use Rattle.type_rows.specs.declared.value_type.ValueType.{ValueType}
use Rattle.type_rows.specs.declared.value_type.ValueType.TheVariants as value
use Rattle.typing.specs.Contexts.{Context}
use Rattle.typing.specs.Judging.{Judged, refused, judged, need, and_then, with_all_bound, judge}
use Rattle.typing.specs.Types.{Ty, Tys, count, same_type}
use Rattle.typing.specs.Verdict as verdict
use Rattle.typing.specs.Verdict.{Verdict, accepted, concluded, judge_define}

-- No name is in scope.
module _ (world : World) (script : Script) (d : Desk) (none : d.depth ≡ 0) where
  pub blank_ready : length d.locals ≡ 64 → length d.marks ≡ 64 → Ready world script d
  blank_ready room long = record { few = omega (arith, none); room = room; long = long; kinds = λ j low. absurd (omega (arith, none)) }

  pub blank_names : names world script d ≡ []
  blank_names = ap (context (text_of world script) (meaning_in script) d.locals d.marks) none

  pub blank_lying : (i : ℕ) → i ≤ 65536 → Lying world script d [] d.depth i
  blank_lying i low = record { among = none; size = sym none; few = omega arith; low = low }

-- A define whose type is the one in row k.
module _ (world : World) (script : Script) (d : Define) (ps : List Ident) (e : Expr) (k : ℕ) (lies : FunctionLies (rows_of world script) (meaning_in script) k) where
  abbrev Judgement : Judged Ty
  Judgement = judge_define (program script) (vals_of world script) d.place ps e (Some (meaning_in script k))

  abbrev after_names : Unit {0} → Context → Judged Ty
  after_names u Γ = and_then (judge (program script) (vals_of world script) e Γ) (λ σ Γ'. need (same_type σ lies.value) d.place (judged σ Γ'))

  by_type : Judgement ≡ need (length ps == count lies.parameters) d.place (and_then (with_all_bound (program script) (map bound ps) lies.parameters []) after_names)
  by_type = ap (λ τ. judge_define (program script) (vals_of world script) d.place ps e (Some τ)) lies.meant

  -- not as many parameters as types
  pub define_unlike : (length ps ≡ count lies.parameters → ⊥) → concluded Judgement ≡ verdict.refused (refused_at Mismatch d.place)
  define_unlike other = ap concluded (by_type ∙ ap (λ b. need b d.place (and_then (with_all_bound (program script) (map bound ps) lies.parameters []) after_names)) (ne_eqb (length ps) (count lies.parameters) other))

  module _ (many : length ps ≡ count lies.parameters) where
    by_names : Judgement ≡ and_then (with_all_bound (program script) (map bound ps) lies.parameters []) after_names
    by_names = by_type ∙ ap (λ b. need b d.place (and_then (with_all_bound (program script) (map bound ps) lies.parameters []) after_names)) (eq-eqb (length ps) (count lies.parameters) many)

    pub names_refused : (r : Refused) → with_all_bound (program script) (map bound ps) lies.parameters [] ≡ refused r → concluded Judgement ≡ verdict.refused r
    names_refused r h = ap concluded (by_names ∙ ap (λ j. and_then j after_names) h)

    module _ (Γ : Context) (names_are : with_all_bound (program script) (map bound ps) lies.parameters [] ≡ judged tt Γ) where
      by_body : Judgement ≡ after_names tt Γ
      by_body = by_names ∙ ap (λ j. and_then j after_names) names_are

      pub body_refused : (r : Refused) → judge (program script) (vals_of world script) e Γ ≡ refused r → concluded Judgement ≡ verdict.refused r
      body_refused r h = ap concluded (by_body ∙ ap (λ j. and_then j (λ σ Γ'. need (same_type σ lies.value) d.place (judged σ Γ'))) h)

      module _ (σ : Ty) (Γ' : Context) (body : judge (program script) (vals_of world script) e Γ ≡ judged σ Γ') where
        by_value : (b : Bool) → same_type σ lies.value ≡ b → Judgement ≡ need b d.place (judged σ Γ')
        by_value b same = by_body ∙ ap (λ j. and_then j (λ σ Γ'. need (same_type σ lies.value) d.place (judged σ Γ'))) body ∙ ap (λ b. need b d.place (judged σ Γ')) same

        pub body_other : same_type σ lies.value ≡ false → concluded Judgement ≡ verdict.refused (refused_at Mismatch d.place)
        body_other same = ap concluded (by_value false same)

        pub body_fits : same_type σ lies.value ≡ true → concluded Judgement ≡ accepted
        body_fits same = ap concluded (by_value true same)

-- The define as it stands in the tables.
module _ (world : World) (script : Script) (set : Setting world script) (tables : Tables) (d : Define) (ps : List Ident) (e : Expr) (k : ℕ) (valid : IsKind (rows_of world script) (value.Function k))
    (stands : ParametersLie (text_of world script) tables d.first ps) (size : d.past ≡ d.first + length ps) where
  abbrev lies : FunctionLies (rows_of world script) (meaning_in script) k
  lies = set.known.mean k valid.0 valid.1

  abbrev Says : Verdict → Type 0
  Says v = concluded (judge_define (program script) (vals_of world script) d.place ps e (Some (meaning_in script k))) ≡ v

  module _ (row : Row) (is : row ≡ row_at (rows_of world script) k) (n : ℕ) (many : n ≡ d.past - d.first) where
    pub arity_other : (r : Refused) → r ≡ refused_at Mismatch d.place → (row.shape ≡ shape.Function n → ⊥) → Says (verdict.refused r)
    arity_other r er other =
        define_unlike world script d ps e k lies (λ same. let h : count lies.parameters ≡ n = omega (arith, same, size, many) in other (ap (λ (row : Row). row.shape) is ∙ lies.arity ∙ ap shape.Function h)) ∙ ap verdict.refused (sym er)

    pub arity_same : row.shape ≡ shape.Function n → length ps ≡ count lies.parameters
    arity_same same =
        let h : shape.Function n ≡ shape.Function (count lies.parameters) = sym same ∙ ap (λ (row : Row). row.shape) is ∙ lies.arity in
        let m : n ≡ count lies.parameters = cc in
        omega (arith, m, size, many)

  -- As many parameters as types, and no name in scope before.
  module _ (many : length ps ≡ count lies.parameters) (first : ℕ) (last : (row_at (rows_of world script) k).result ≤ 65535) (first_is : k + 1 ≤ 65535 → first ≡ k + 1) (d0 : Desk) (none : d0.depth ≡ 0) (room : length d0.locals ≡ 64) (long : length d0.marks ≡ 64) where
    abbrev Binds : Result (Unit {0}) Refused → Desk → Type 0
    Binds result d1 = OnParameters world tables d.first d.past first d0 result d1

    bound_as : (result : Result (Unit {0}) Refused) (d1 : Desk) → Binds result d1 → ParametersAnswers world script (map bound ps) lies.parameters d0 result d1
    bound_as result d1 binds =
        let up = lie_up (k + 1) (row_at (rows_of world script) k).result lies.parameters lies.lie in
        let e = first_is (omega (arith, up, last)) in
        binds script ps lies.parameters (row_at (rows_of world script) k).result set (blank_ready world script d0 none room long) stands size (subst (λ n. TypesLie (rows_of world script) (meaning_in script) n (row_at (rows_of world script) k).result lies.parameters) (sym e) lies.lie) many
      where
        lie_up : (i j : ℕ) (ts : Tys) → TypesLie (rows_of world script) (meaning_in script) i j ts → i ≤ j
        lie_up i j _ (no_rows e) = omega arith
        lie_up i j _ (and_row on here more) = omega arith

    pub names_stopped : (r : Refused) (d1 : Desk) → Binds (Err r) d1 → Says (verdict.refused r)
    names_stopped r d1 binds = names_refused world script d ps e k lies many r (ap (with_all_bound (program script) (map bound ps) lies.parameters) (sym (blank_names world script d0 none)) ∙ bound_as (Err r) d1 binds)

    -- The body, at the names that were bound.
    module _ (d1 : Desk) (u : Unit {0}) (binds : Binds (Ok u) d1) (codes after : List Code) (d2 : Desk) (coded : Coded world script (node_found world.nodes.now d.body).form e d.body) where
      abbrev inside : PartsBound world script (map bound ps) lies.parameters d0.depth d0 d1
      inside = bound_as (Ok u) d1 binds

      names_are : with_all_bound (program script) (map bound ps) lies.parameters [] ≡ judged tt (names world script d1)
      names_are = ap (with_all_bound (program script) (map bound ps) lies.parameters) (sym (blank_names world script d0 none)) ∙ inside.type

      pub body_stopped : (r : Refused) → OnExpr world d.body d1.depth d1 codes (Err r) d2 after → Says (verdict.refused r)
      body_stopped r part = body_refused world script d ps e k lies many (names world script d1) names_are r (part script e set inside.ready coded)

      module _ (found value_kind : ValueType) (is : value_kind ≡ kind_at (rows_of world script) (row_at (rows_of world script) k).result) (part : OnExpr world d.body d1.depth d1 codes (Ok found) d2 after) where
        abbrev Same : Bool → Type 0
        Same b = IsKind (rows_of world script) found → IsKind (rows_of world script) value_kind → b ≡ same_type (meant world script found) (meant world script value_kind)

        abbrev yields : ExprAnswers world script e d.body d1.depth d1 codes (Ok found) d2 after
        yields = part script e set inside.ready coded

        compared : (b : Bool) → Same b → same_type (meant world script found) lies.value ≡ b
        compared b same =
            ap (same_type (meant world script found)) (sym (ap (meant world script) is ∙ lies.last)) ∙ sym (same yields.valid (subst (IsKind (rows_of world script)) (sym is) (kind_valid (rows_of world script) (row_at (rows_of world script) k).result)))

        pub value_other : (r : Refused) → r ≡ refused_at Mismatch d.place → Same false → Says (verdict.refused r)
        value_other r er same = body_other world script d ps e k lies many (names world script d1) names_are (meant world script found) (names world script d2) yields.type (compared false same) ∙ ap verdict.refused (sym er)

        pub value_fits : Same true → Says accepted × (after ≡ puts codes d.body (compile (program script) (bind_scope (map bound ps) []) d.body e))
        value_fits same =
            let here = coded_low world script e d.body coded in
            let few = set.few in
            let low : d.body ≤ 65536 = omega (arith, here, few) in
            let lying = inside.lying [] d.body d.body (omega arith) low (blank_lying world script d0 none d.body low) in (
              body_fits world script d ps e k lies many (names world script d1) names_are (meant world script found) (names world script d2) yields.type (compared true same),
              yields.noted (bind_scope (map bound ps) []) (subst (λ n. Lying world script d1 (bind_scope (map bound ps) []) n d.body) (sym inside.depth) lying),
            )
