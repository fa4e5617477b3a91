use Rattle.std.proofs.Common.{◌+◌, ◌≤◌, length, subst, sym, arith}
use Rattle.std.proofs.lemmas.Result.{err_from_is_err_and}
use Rattle.layout.specs.declared.function.Half.TheVariants.{Define}
use Rattle.parser.specs.Defining.{Bounded}
use Rattle.parser.proofs.FunctionLaws.{noted_count}
use Rattle.parser.proofs.DefinitionLaws.{define_unnamed, define_unlisted, define_refused, define_made}
use Rattle.parser.proofs.definitions.function_definition.Goals as goal

pub returns-in_err-name-clause-told : goal.returns-in_err-name-clause-told
returns-in_err-name-clause-told c =
    let e = err_from_is_err_and c.from_residual.result c.from_residual.ensures.1 in
    rw (e.1, e.2) (define_unnamed c.args.source.now.text.now c.args.inside c.args.place (length c.args.nodes.now) c.args.tables.now c.args.nodes.now (search c.if-counts-ge-BINDINGS.false) c.in_err-name.field-0.0 c.args.tables.now c.args.nodes.now c.in_err-name.ensures.told)

pub returns-in_err-middle-clause-told : goal.returns-in_err-middle-clause-told
returns-in_err-middle-clause-told c =
    let e = err_from_is_err_and c.from_residual-in_err-middle.result c.from_residual-in_err-middle.ensures.1 in
    rw (e.1, e.2) (define_unlisted c.args.source.now.text.now c.args.inside c.args.place (length c.args.nodes.now) c.args.tables.now c.args.nodes.now (search c.if-counts-ge-BINDINGS.false) c.in_ok-name.name c.in_ok-name.ensures.told c.in_err-middle.field-0.0 c.parameter_list.new.words c.args.nodes.now _ c.in_err-middle.ensures.told)

pub returns-in_err-end-clause-told : goal.returns-in_err-end-clause-told
returns-in_err-end-clause-told c =
    let e = err_from_is_err_and c.from_residual-in_err-end.result c.from_residual-in_err-end.ensures.1 in
    rw (e.1, e.2) (define_refused c.args.source.now.text.now c.args.inside c.args.place (length c.args.nodes.now) c.args.tables.now c.args.nodes.now (search c.if-counts-ge-BINDINGS.false) c.in_ok-name.name c.in_ok-name.ensures.told c.in_ok-middle.middle c.parameter_list.new.words c.in_ok-middle.ensures.told c.in_err-end.field-0.0 c.body.new.nodes c.body.new.nodes _ c.in_err-end.ensures.told)

pub returns-clause-told : goal.returns-clause-told
returns-clause-told c =
    let name = c.in_ok-name.ensures.goes in
    let within = name.1 in
    let short = c.args.source.now.short in
    define_made c.args.source.now.text.now c.args.inside c.args.place (length c.args.nodes.now) c.args.tables.now c.args.nodes.now (search c.if-counts-ge-BINDINGS.false) c.in_ok-name.name c.in_ok-name.ensures.told c.in_ok-middle.middle c.parameter_list.new.words c.in_ok-middle.ensures.told c.in_ok-end.end c.word-word.result c.note.new.functions c.add.new.tables c.body.new.nodes c.in_ok-end.ensures.told (c.word-word.ensures name.2 name.3 (omega arith)) c.note.ensures c.add.ensures

pub returns-clause-goes : goal.returns-clause-goes
returns-clause-goes c =
    let t = c.args.tables.now in
    let functions : c.note.new.functions.count ≤ t.functions.count + 1 = subst (λ f. f.count ≤ t.functions.count + 1) (sym c.note.ensures) (noted_count c.args.source.now.text.now Define c.word-word.result t.counts.definitions t.functions) in
    let bounds = c.requires in
    let name = c.in_ok-name.ensures.goes in
    let list = c.in_ok-middle.ensures.goes in
    let body = c.in_ok-end.ensures.goes in
    let name0 = name.0 in
    let list0 = list.0 in
    let list3 = list.3 in
    let body0 = body.0 in (
      omega arith,
      body.1,
      subst Bounded (sym c.add.ensures) (record {
        nodes = body.2;
        types = bounds.types;
        bindings = omega arith;
        datatypes = bounds.datatypes;
        constructors = bounds.constructors;
        definitions = omega arith;
        parameters = omega arith;
        functions = omega arith;
      }),
    )
