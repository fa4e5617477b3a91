use Rattle.std.proofs.Common.{List, rules}
use Rattle.grammar.specs.Trees.{Ident, PatternPart, constructor}
use Rattle.patterns.proofs.PartLaws.{bracketed, bare}
use Rattle.patterns.specs.Parts.{HeadAt, IsHead}
use Rattle.patterns.proofs.reading.head_at.Goals as goal

pub returns-in-Open : goal.returns-in-Open
returns-in-Open c x short shows =
    let seen = c.in-Open.ensures in
    let head : (name : Ident) (xs : List PatternPart) → HeadAt c.args.text.now c.in-Open.inside name xs → IsHead c.args.text.now (constructor c.in-Open.at name xs) c.constructor_at.result = λ name xs at. search rules in
    bracketed c.args.text.now c.args.place c.in-Open.at c.in-Open.inside seen.0 seen.1.0 x shows seen.1.1 c.constructor_at.result head

pub returns-in_default : goal.returns-in_default
returns-in_default c x short shows = bare c.args.text.now c.args.place x shows c.look_at.result c.look_at.ensures c.in_default.not-Open
