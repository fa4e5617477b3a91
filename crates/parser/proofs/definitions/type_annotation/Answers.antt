use Rattle.std.proofs.Common.{◌+◌, ◌≤◌, subst, sym, arith}
use Rattle.std.proofs.lemmas.Result.{err_from_is_err_and}
use Rattle.layout.specs.declared.function.Half.TheVariants.{Annotation}
use Rattle.parser.specs.Defining.{Bounded}
use Rattle.parser.proofs.FunctionLaws.{noted_count}
use Rattle.parser.proofs.DefinitionLaws.{annotation_unnamed, annotation_refused, annotation_open, annotation_made}
use Rattle.parser.proofs.definitions.type_annotation.Goals as goal

pub returns-in_err-name-clause-told : goal.returns-in_err-name-clause-told
returns-in_err-name-clause-told c =
    let e = err_from_is_err_and c.from_residual.result c.from_residual.ensures.1 in
    rw (e.1, e.2) (λ entries ns. annotation_unnamed c.args.source.now.text.now c.args.inside c.args.place entries c.args.tables.now ns c.in_err-name.field-0.0 c.args.tables.now c.in_err-name.ensures.told)

pub returns-in_err-end-clause-told : goal.returns-in_err-end-clause-told
returns-in_err-end-clause-told c =
    let e = err_from_is_err_and c.from_residual-in_err-end.result c.from_residual-in_err-end.ensures.1 in
    rw (e.1, e.2) (λ entries ns. annotation_refused c.args.source.now.text.now c.args.inside c.args.place entries c.args.tables.now ns c.in_ok-name.name c.in_ok-name.ensures.told c.in_err-end.field-0.0 c.type_at.new.types _ c.in_err-end.ensures.told)

pub returns-in_err-after-clause-told : goal.returns-in_err-after-clause-told
returns-in_err-after-clause-told c =
    let e = err_from_is_err_and c.from_residual-in_err-after.result c.from_residual-in_err-after.ensures.1 in
    rw (e.1, e.2) (λ entries ns. annotation_open c.args.source.now.text.now c.args.inside c.args.place entries c.args.tables.now ns c.in_ok-name.name c.in_ok-name.ensures.told c.in_ok-end.end c.type_at.new.types c.in_ok-end.ensures.told _ _ c.in_err-after.ensures.0)

pub returns-clause-told : goal.returns-clause-told
returns-clause-told c =
    let name = c.in_ok-name.ensures.goes in
    let within = name.1 in
    let short = c.args.source.now.short in
    λ entries ns. annotation_made c.args.source.now.text.now c.args.inside c.args.place entries c.args.tables.now ns c.in_ok-name.name c.in_ok-name.ensures.told c.in_ok-end.end c.type_at.new.types c.in_ok-end.ensures.told c.in_ok-after.after c.word-word.result c.note.new.functions c.add.new.tables c.in_ok-after.ensures (c.word-word.ensures name.2 name.3 (omega arith)) c.note.ensures c.add.ensures

pub returns-clause-goes : goal.returns-clause-goes
returns-clause-goes c =
    let t = c.args.tables.now in
    let functions : c.note.new.functions.count ≤ t.functions.count + 1 = subst (λ f. f.count ≤ t.functions.count + 1) (sym c.note.ensures) (noted_count c.args.source.now.text.now Annotation c.word-word.result t.counts.definitions t.functions) in
    let bounds = c.requires in
    let name = c.in_ok-name.ensures.goes in
    let type = c.in_ok-end.ensures.goes in
    let closes = c.in_ok-after.ensures in
    let name0 = name.0 in
    let type0 = type.0 in
    let more = type.2 in
    let last = closes.1.1.1.forward in (
      omega arith,
      closes.1.1.1.within,
      subst Bounded (sym c.add.ensures) (record {
        nodes = bounds.nodes;
        types = type.3;
        bindings = bounds.bindings;
        datatypes = bounds.datatypes;
        constructors = bounds.constructors;
        definitions = omega arith;
        parameters = bounds.parameters;
        functions = omega arith;
      }),
    )
