use Rattle.std.proofs.Common.{◌≡◌, Err, refl, sym, ap, ◌∙◌, subst, rules}
use Rattle.std.specs.Prelude.{map, slice_index_or}
use Rattle.grammar.specs.Trees.{bound}
use Rattle.layout.specs.Tabling.{unused_word}
use Rattle.naming.specs.Binding.{ParametersAnswers}
use Rattle.naming.specs.Judges.{desk}
use Rattle.naming.proofs.ParameterLaws.{parameters_end, parameters_refused, parameters_next}
use Rattle.type_rows.specs.Rows.{row_at, kind_at}
use Rattle.naming.proofs.binding.bind_parameters.Goals as goal

pub loop-k-preserved : goal.loop-k-preserved
loop-k-preserved c script xs τs last set ready at size lie many =
    let is = c.rows-rows.ensures in
    let left = c.loop-k.invariant script xs τs last set ready at size lie many in
    let word : c.word_at-word.result ≡ slice_index_or c.args.tables.now.parameters c.loop-k.k unused_word = search rules in
    parameters_next c.args.world.now script c.args.tables.now c.args.past xs τs (desk c.args.scope.now c.args.locals.now) set c.loop-k.k c.loop-k.row c.row-row.result.past (desk c.loop-k.scope c.loop-k.locals) left c.loop-k-test.true
    c.word_at-word.result c.kind.result word (c.kind.ensures ∙ ap (λ rows. kind_at rows.rows c.loop-k.row) is) (ap (λ row. row.past) c.row-row.ensures ∙ ap (λ rows. (row_at rows.rows c.loop-k.row).past) is)
    (desk c.bind.new.scope c.bind.new.locals) c.in_ok-bind.ensures.bound

pub returns-in_err-bind : goal.returns-in_err-bind
returns-in_err-bind c script xs τs last set ready at size lie many =
    let is = c.rows-rows.ensures in
    let left = c.loop-k.invariant script xs τs last set ready at size lie many in
    let word : c.word_at-word.result ≡ slice_index_or c.args.tables.now.parameters c.loop-k.k unused_word = search rules in
    let r = c.in_err-bind.field-0.0 in
    let refused : c.from_residual.result ≡ Err r = search rules in
    let old = desk c.args.scope.now c.args.locals.now in
    let new = desk c.bind.new.scope c.bind.new.locals in
    subst (λ x. ParametersAnswers c.args.world.now script (map bound xs) τs old x new) (sym refused)
    (parameters_refused c.args.world.now script c.args.tables.now c.args.past xs τs old set c.loop-k.k c.loop-k.row (row_at c.args.world.now.globals.now.rows.rows c.loop-k.row).past (desk c.loop-k.scope c.loop-k.locals) left c.loop-k-test.true
    c.word_at-word.result c.kind.result word (c.kind.ensures ∙ ap (λ rows. kind_at rows.rows c.loop-k.row) is) refl r new new c.in_err-bind.ensures.bound)

pub returns : goal.returns
returns c script xs τs last set ready at size lie many =
    parameters_end c.args.world.now script c.args.tables.now c.args.past xs τs (desk c.args.scope.now c.args.locals.now) c.loop-k.k c.loop-k.row (desk c.loop-k.scope c.loop-k.locals)
    (c.loop-k.invariant script xs τs last set ready at size lie many) c.loop-k-test.false
