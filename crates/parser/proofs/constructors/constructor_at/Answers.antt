use Rattle.parser.proofs.ConstructorLaws.{constructor_read}
use Rattle.parser.proofs.constructors.constructor_at.Goals as goal

pub returns-clause-told : goal.returns-clause-told
returns-clause-told c =
    λ entries. constructor_read c.args.source.now.text.now c.args.mark c.args.types.now c.args.table.now c.args.datatype entries c.in_ok-opened.opened c.constructor_parts.result c.constructor_parts.new.types c.constructor_parts.new.table c.in_ok-opened.ensures.told (c.constructor_parts.ensures.told entries)
