use Rattle.parser.proofs.ConstructorLaws.{constructors_list}
use Rattle.parser.proofs.constructors.constructor_list.Goals as goal

pub returns-clause-told : goal.returns-clause-told
returns-clause-told c =
    let sees = c.in_ok-opened.ensures in
    λ entries. constructors_list c.args.source.now.text.now c.args.mark c.args.types.now c.args.table.now c.args.datatype entries sees.0 sees.1.0 _ c.in_ok-opened.opened.inside sees.1.1 c.constructors_at.result c.constructors_at.new.types c.constructors_at.new.table (c.constructors_at.ensures.told entries)
