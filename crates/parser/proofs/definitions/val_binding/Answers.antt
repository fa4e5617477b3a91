use Rattle.std.proofs.Common.{length, arith}
use Rattle.std.proofs.lemmas.Result.{err_from_is_err_and}
use Rattle.parser.proofs.DefinitionLaws.{val_unnamed, val_refused, val_made}
use Rattle.parser.proofs.definitions.val_binding.Goals as goal

pub returns-in_err-name-clause-told : goal.returns-in_err-name-clause-told
returns-in_err-name-clause-told c =
    let e = err_from_is_err_and c.from_residual.result c.from_residual.ensures.1 in
    rw (e.1, e.2) (val_unnamed c.args.source.now.text.now c.args.inside c.args.place (length c.args.nodes.now) c.args.tables.now c.args.nodes.now (search c.if-counts-ge-BINDINGS.false) c.in_err-name.field-0.0 c.args.tables.now c.args.nodes.now c.in_err-name.ensures.told)

pub returns-in_err-end-clause-told : goal.returns-in_err-end-clause-told
returns-in_err-end-clause-told c =
    let e = err_from_is_err_and c.from_residual-in_err-end.result c.from_residual-in_err-end.ensures.1 in
    rw (e.1, e.2) (val_refused c.args.source.now.text.now c.args.inside c.args.place (length c.args.nodes.now) c.args.tables.now c.args.nodes.now (search c.if-counts-ge-BINDINGS.false) c.in_ok-name.name c.in_ok-name.ensures.told c.in_err-end.field-0.0 c.body.new.nodes c.body.new.nodes c.args.tables.now c.in_err-end.ensures.told)

pub returns-clause-told : goal.returns-clause-told
returns-clause-told c =
    let name = c.in_ok-name.ensures.goes in
    let within = name.1 in
    let short = c.args.source.now.short in
    val_made c.args.source.now.text.now c.args.inside c.args.place (length c.args.nodes.now) c.args.tables.now c.args.nodes.now (search c.if-counts-ge-BINDINGS.false) c.in_ok-name.name c.in_ok-name.ensures.told c.in_ok-end.end c.word.result c.add.new.tables c.body.new.nodes c.in_ok-end.ensures.told (c.word.ensures name.2 name.3 (omega arith)) c.add.ensures
