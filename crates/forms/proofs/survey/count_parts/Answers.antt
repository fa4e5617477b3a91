use Rattle.std.proofs.Common.{◌≡◌, arith}
use Rattle.forms.specs.Surveys.{counted}
use Rattle.text.specs.Tokens.{lexed_from}
use Rattle.forms.proofs.SurveyLaws.{counted_end}
use Rattle.forms.proofs.survey.count_parts.Goals as goal

pub returns-in-End : goal.returns-in-End
returns-in-End c =
    let none : counted c.tokens.depth (lexed_from c.args.text.now c.tokens.at) ≡ 0 = counted_end c.tokens.depth _ c.in-End.ensures in
    let inv = c.tokens.invariant in
    omega arith
