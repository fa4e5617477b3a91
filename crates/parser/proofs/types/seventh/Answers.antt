use Rattle.parser.proofs.TypeLaws.{seventh_list}
use Rattle.parser.proofs.types.seventh.Goals as goal

pub returns-in-Open : goal.returns-in-Open
returns-in-Open c =
    let sees = c.in-Open.ensures in
    seventh_list c.args.source.now.text.now c.args.place sees.0 sees.1.0 c.in-Open.at c.in-Open.inside c.survey.result c.is_arrow.result c.too_many-in-Open.result sees.1.1 c.survey.ensures c.is_arrow.ensures c.too_many-in-Open.ensures
