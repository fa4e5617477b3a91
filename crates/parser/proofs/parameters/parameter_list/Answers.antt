use Rattle.parser.proofs.NameLaws.{names_list}
use Rattle.parser.proofs.parameters.parameter_list.Goals as goal

pub returns-clause-told : goal.returns-clause-told
returns-clause-told c =
    let sees = c.in_ok-opened.ensures in
    λ entries. names_list c.args.source.now.text.now c.args.spot c.args.words.now entries sees.0 sees.1.0 _ c.in_ok-opened.opened.inside c.parameters.result c.parameters.new.words sees.1.1 (c.parameters.ensures.told entries)
