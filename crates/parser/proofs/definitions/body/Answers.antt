use Rattle.std.proofs.Common.{length}
use Rattle.std.proofs.lemmas.Result.{err_from_is_err_and}
use Rattle.parser.proofs.DefinitionLaws.{body_made, body_open, body_refused}
use Rattle.parser.proofs.definitions.body.Goals as goal

pub returns-in_err-end-clause-told : goal.returns-in_err-end-clause-told
returns-in_err-end-clause-told c =
    let e = err_from_is_err_and c.from_residual.result c.from_residual.ensures.1 in
    rw (e.1, e.2) (body_refused c.args.source.now.text.now c.args.spot c.args.nodes.now (length c.args.nodes.now) c.in_err-end.field-0.0 c.expression.new.nodes c.expression.new.nodes c.in_err-end.ensures.told)

pub returns-in_err-after-clause-told : goal.returns-in_err-after-clause-told
returns-in_err-after-clause-told c =
    let e = err_from_is_err_and c.from_residual-in_err-after.result c.from_residual-in_err-after.ensures.1 in
    rw (e.1, e.2) (body_open c.args.source.now.text.now c.args.spot c.args.nodes.now (length c.args.nodes.now) c.in_ok-end.end _ c.expression.new.nodes c.expression.new.nodes c.in_ok-end.ensures.told c.in_err-after.ensures.0)

pub returns-clause-told : goal.returns-clause-told
returns-clause-told c =
    body_made c.args.source.now.text.now c.args.spot c.args.nodes.now (length c.args.nodes.now) c.in_ok-end.end c.in_ok-after.after c.expression.new.nodes c.in_ok-end.ensures.told c.in_ok-after.ensures
