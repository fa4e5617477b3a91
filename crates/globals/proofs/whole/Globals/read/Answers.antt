use Rattle.std.proofs.Common.{◌≡◌, Err, sym, ap, ◌∙◌, subst, rules}
use Rattle.globals.specs.Known.{IsWhole, Known}
use Rattle.globals.specs.declared.whole.Globals.{Globals}
use Rattle.program.specs.Programs.{program}
use Rattle.type_rows.specs.TypeExprs.{types_listed}
use Rattle.typing.specs.Verdict.{refused}
use Rattle.type_rows.proofs.ScriptRows.{order_script, rows_mean}
use Rattle.globals.proofs.Tallied.{named_by}
use Rattle.globals.proofs.WholeVerdicts.{types_refused, pairs_refused, main_left}
use Rattle.globals.proofs.whole.Globals.read.Goals as goal

pub returns-in_err-rows : goal.returns-in_err-rows
returns-in_err-rows c = λ script laid.
    let P = program script in
    let r = c.in_err-rows.field-0.0 in
    let is : c.from_residual-in_err-rows.result ≡ Err r = search rules in
    let once = c.in_ok-declared.ensures.names script laid in
    let named = named_by c.args.text.now c.in_ok-declared.declared script (c.in_ok-declared.ensures.holds script laid) once in
    subst (IsWhole c.args.text.now script) (sym is) (types_refused script r once (c.in_err-rows.ensures P script laid.types named.datatypes))

pub returns-in_err-types : goal.returns-in_err-types
returns-in_err-types c = λ script laid.
    let P = program script in
    let r = c.in_err-types.field-0.0 in
    let is : c.from_residual-in_err-types.result ≡ Err r = search rules in
    let once = c.in_ok-declared.ensures.names script laid in
    let named = named_by c.args.text.now c.in_ok-declared.declared script (c.in_ok-declared.ensures.holds script laid) once in
    let resolved = c.in_ok-rows.ensures P script laid.types named.datatypes in
    subst (IsWhole c.args.text.now script) (sym is) (pairs_refused script r once resolved.0 (c.in_err-types.ensures script laid named resolved.1))

pub returns-then-has_main : goal.returns-then-has_main
returns-then-has_main c = λ script laid.
    let P = program script in
    let globals : Globals = record { declared = c.in_ok-declared.declared; rows = c.in_ok-rows.rows; types = c.in_ok-types.types } in
    let once = c.in_ok-declared.ensures.names script laid in
    let named = named_by c.args.text.now c.in_ok-declared.declared script (c.in_ok-declared.ensures.holds script laid) once in
    let resolved = c.in_ok-rows.ensures P script laid.types named.datatypes in
    let paired = c.in_ok-types.ensures script laid named resolved.1 in
    let known : Known c.args.text.now globals script = record {
      named = named;
      has = resolved.1;
      mean = rows_mean P (types_listed script) c.in_ok-rows.rows.rows laid.types.few (order_script script) resolved.1 resolved.2;
      basis = resolved.2;
      few = laid.types.few;
      types = paired.1;
    } in
    (main_left script once resolved.0 paired.0 ∙ c.if-has_main.ensures script known, known)

pub returns : goal.returns
returns c = λ script laid.
    let P = program script in
    let globals : Globals = record { declared = c.in_ok-declared.declared; rows = c.in_ok-rows.rows; types = c.in_ok-types.types } in
    let once = c.in_ok-declared.ensures.names script laid in
    let named = named_by c.args.text.now c.in_ok-declared.declared script (c.in_ok-declared.ensures.holds script laid) once in
    let resolved = c.in_ok-rows.ensures P script laid.types named.datatypes in
    let paired = c.in_ok-types.ensures script laid named resolved.1 in
    let known : Known c.args.text.now globals script = record {
      named = named;
      has = resolved.1;
      mean = rows_mean P (types_listed script) c.in_ok-rows.rows.rows laid.types.few (order_script script) resolved.1 resolved.2;
      basis = resolved.2;
      few = laid.types.few;
      types = paired.1;
    } in
    main_left script once resolved.0 paired.0 ∙ c.if-has_main.ensures script known ∙ ap refused (sym c.refused.ensures)
