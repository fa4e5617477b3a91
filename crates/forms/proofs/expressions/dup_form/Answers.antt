use Rattle.std.proofs.Common.{length, sym, arith}
use Rattle.std.proofs.lemmas.Result.{err_from_is_err_and}
use Rattle.grammar.specs.Reading.{read_expr}
use Rattle.forms.proofs.ReaderLaws.{dup_made, dup_open, dup_unnamed}
use Rattle.forms.proofs.expressions.dup_form.Goals as goal

pub returns-in_err-name-clause-told : goal.returns-in_err-name-clause-told
returns-in_err-name-clause-told c =
    let e = err_from_is_err_and c.from_residual-in_err-name.result c.from_residual-in_err-name.ensures.1 in
    rw (e.1, e.2) (λ depth. dup_unnamed c.args.source.now.text.now c.args.spot c.args.nodes.now (length c.args.nodes.now) c.args.place c.in_ok-past.past (read_expr (length c.args.nodes.now) depth) (sym c.in_ok-past.ensures) c.in_err-name.field-0.0 c.args.nodes.now c.in_err-name.ensures.told)

pub returns-in_err-after-clause-told : goal.returns-in_err-after-clause-told
returns-in_err-after-clause-told c =
    let no = c.in_err-after.ensures in
    let e = err_from_is_err_and c.from_residual-in_err-after.result c.from_residual-in_err-after.ensures.1 in
    rw (e.1, e.2, no.1) (λ depth. dup_open c.args.source.now.text.now c.args.spot c.args.nodes.now (length c.args.nodes.now) c.args.place c.in_ok-past.past (read_expr (length c.args.nodes.now) depth) (sym c.in_ok-past.ensures) c.in_ok-name.name _ c.args.nodes.now c.in_ok-name.ensures.told no.0)

pub returns-clause-told : goal.returns-clause-told
returns-clause-told c =
    let name = c.in_ok-name.ensures in
    let within = name.goes.1 in
    let short = c.args.source.now.short in
    rw (c.close.ensures, c.word.ensures name.goes.2 name.goes.3 (omega arith)) (λ depth. dup_made c.args.source.now.text.now c.args.spot c.args.nodes.now (length c.args.nodes.now) c.args.place c.in_ok-past.past (read_expr (length c.args.nodes.now) depth) (sym c.in_ok-past.ensures) c.in_ok-name.name c.in_ok-after.after name.told c.in_ok-after.ensures)
