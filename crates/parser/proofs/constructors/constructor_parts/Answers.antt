use Rattle.std.proofs.Common.{arith}
use Rattle.std.proofs.lemmas.Result.{err_from_is_err_and}
use Rattle.parser.proofs.ConstructorLaws.{constructor_unnamed, constructor_stopped, constructor_open, constructor_made}
use Rattle.parser.proofs.constructors.constructor_parts.Goals as goal

pub returns-in_err-name-clause-told : goal.returns-in_err-name-clause-told
returns-in_err-name-clause-told c =
    let e = err_from_is_err_and c.from_residual.result c.from_residual.ensures.1 in
    rw (e.1, e.2) (λ entries. constructor_unnamed c.args.source.now.text.now c.args.mark c.args.types.now c.args.table.now c.args.datatype c.args.place entries c.if-mark-ge-CONSTRUCTORS.false c.in_err-name.field-0.0 c.args.types.now c.args.table.now c.in_err-name.ensures.told)

pub returns-in_err-end-clause-told : goal.returns-in_err-end-clause-told
returns-in_err-end-clause-told c =
    let e = err_from_is_err_and c.from_residual-in_err-end.result c.from_residual-in_err-end.ensures.1 in
    rw (e.1, e.2) (λ entries. constructor_stopped c.args.source.now.text.now c.args.mark c.args.types.now c.args.table.now c.args.datatype c.args.place entries c.if-mark-ge-CONSTRUCTORS.false c.in_ok-name.name c.in_ok-name.ensures.told c.in_err-end.field-0.0 c.type_list.new.types c.type_list.new.types c.args.table.now c.in_err-end.ensures.told)

pub returns-in_err-after-clause-told : goal.returns-in_err-after-clause-told
returns-in_err-after-clause-told c =
    let e = err_from_is_err_and c.from_residual-in_err-after.result c.from_residual-in_err-after.ensures.1 in
    rw (e.1, e.2) (λ entries. constructor_open c.args.source.now.text.now c.args.mark c.args.types.now c.args.table.now c.args.datatype c.args.place entries c.if-mark-ge-CONSTRUCTORS.false c.in_ok-name.name c.in_ok-name.ensures.told c.in_ok-end.end c.type_list.new.types c.in_ok-end.ensures.told _ c.type_list.new.types c.args.table.now c.in_err-after.ensures.0)

pub returns-clause-told : goal.returns-clause-told
returns-clause-told c =
    let name = c.in_ok-name.ensures.goes in
    let within = name.1 in
    let short = c.args.source.now.short in
    λ entries. constructor_made c.args.source.now.text.now c.args.mark c.args.types.now c.args.table.now c.args.datatype c.args.place entries c.if-mark-ge-CONSTRUCTORS.false c.in_ok-name.name c.in_ok-name.ensures.told c.in_ok-end.end c.type_list.new.types c.in_ok-end.ensures.told c.in_ok-after.after c.word.result c.list_size-fields.result c.in_ok-after.ensures (c.word.ensures name.2 name.3 (omega arith)) c.list_size-fields.ensures
