use Rattle.std.proofs.Common.{take, refl, ◌∙◌, rules}
use Rattle.std.proofs.lemmas.Iterator.Search.{position_from_yields_List}
use Rattle.std.proofs.lemmas.Iterator.{YieldsList-from_slice}
use Rattle.parser.specs.Noting.{fits_word}
use Rattle.parser.proofs.FunctionLaws.{position_or}
use Rattle.parser.proofs.functions.Given.find.Goals as goal

pub returns : goal.returns
returns c =
    let f = c.args.functions.now in
    let fits = fits_word c.args.self.now.text.now c.args.self.now.half c.args.self.now.name in
    let found = position_from_yields_List fits _ _ c.position.result c.position.ensures.ran (YieldsList-from_slice (take f.count f.entries) c.iter.ensures.rest) (λ x b q k. search rules) in
    c.unwrap_or.ensures ∙ position_or fits (take f.count f.entries) _ refl c.position.result found
