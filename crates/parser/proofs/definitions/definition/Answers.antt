use Rattle.std.proofs.Common.{◌≡◌, length, Some, Err, sym, ap, ◌∙◌, rules}
use Rattle.text.specs.Scans.{refused_at}
use Rattle.text.specs.declared.refusal.Refusal.TheVariants as refusal
use Rattle.parser.proofs.KindLaws.{on_datatype, on_annotation, on_define, on_val, on_wrong}
use Rattle.parser.proofs.definitions.definition.Goals as goal

pub returns-in-Datatype-clause-told : goal.returns-in-Datatype-clause-told
returns-in-Datatype-clause-told c =
    let sees = c.in_ok-opened.ensures in
    let kind = sym (c.in_ok-ok_or.ensures.ok_part ∙ ap Some c.in-Datatype.is) ∙ c.definition_of.ensures in
    on_datatype c.args.source.now.text.now c.args.place (length c.args.nodes.now) c.args.tables.now c.args.nodes.now sees.0 sees.1.0 c.in_ok-opened.opened.place c.in_ok-opened.opened.inside sees.1.1 c.survey.result c.survey.ensures c.behind-first.result c.behind-first.ensures c.datatype_definition.result c.datatype_definition.new.tables c.args.nodes.now kind (c.datatype_definition.ensures.told (length c.args.nodes.now) c.args.nodes.now)

pub returns-in-Annotation-clause-told : goal.returns-in-Annotation-clause-told
returns-in-Annotation-clause-told c =
    let sees = c.in_ok-opened.ensures in
    let kind = sym (c.in_ok-ok_or.ensures.ok_part ∙ ap Some c.in-Annotation.is) ∙ c.definition_of.ensures in
    on_annotation c.args.source.now.text.now c.args.place (length c.args.nodes.now) c.args.tables.now c.args.nodes.now sees.0 sees.1.0 c.in_ok-opened.opened.place c.in_ok-opened.opened.inside sees.1.1 c.survey.result c.survey.ensures c.behind-first.result c.behind-first.ensures c.type_annotation.result c.type_annotation.new.tables c.args.nodes.now kind (c.type_annotation.ensures.told (length c.args.nodes.now) c.args.nodes.now)

pub returns-in-Define-clause-told : goal.returns-in-Define-clause-told
returns-in-Define-clause-told c =
    let sees = c.in_ok-opened.ensures in
    let kind = sym (c.in_ok-ok_or.ensures.ok_part ∙ ap Some c.in-Define.is) ∙ c.definition_of.ensures in
    on_define c.args.source.now.text.now c.args.place (length c.args.nodes.now) c.args.tables.now c.args.nodes.now sees.0 sees.1.0 c.in_ok-opened.opened.place c.in_ok-opened.opened.inside sees.1.1 c.survey.result c.survey.ensures c.behind-first.result c.behind-first.ensures c.function_definition.result c.function_definition.new.tables c.function_definition.new.nodes kind c.function_definition.ensures.told

pub returns-in-Val-clause-told : goal.returns-in-Val-clause-told
returns-in-Val-clause-told c =
    let sees = c.in_ok-opened.ensures in
    let kind = sym (c.in_ok-ok_or.ensures.ok_part ∙ ap Some c.in-Val.is) ∙ c.definition_of.ensures in
    on_val c.args.source.now.text.now c.args.place (length c.args.nodes.now) c.args.tables.now c.args.nodes.now sees.0 sees.1.0 c.in_ok-opened.opened.place c.in_ok-opened.opened.inside sees.1.1 c.survey.result c.survey.ensures c.behind-first.result c.behind-first.ensures c.val_binding.result c.val_binding.new.tables c.val_binding.new.nodes kind c.val_binding.ensures.told

pub returns-in_err-ok_or-clause-told : goal.returns-in_err-ok_or-clause-told
returns-in_err-ok_or-clause-told c =
    let sees = c.in_ok-opened.ensures in
    let is : c.from_residual-in_err-ok_or.result ≡ Err (refused_at refusal.Form c.in_ok-opened.opened.place) = search rules in
    on_wrong c.args.source.now.text.now c.args.place (length c.args.nodes.now) c.args.tables.now c.args.nodes.now sees.0 sees.1.0 c.in_ok-opened.opened.place c.in_ok-opened.opened.inside sees.1.1 c.survey.result c.survey.ensures c.behind-first.result c.behind-first.ensures c.from_residual-in_err-ok_or.result c.args.tables.now c.args.nodes.now (sym c.in_err-ok_or.ensures.ok_part ∙ c.definition_of.ensures) is
