use Rattle.std.proofs.Common.{◌≡◌, sym, ap, ◌∙◌, subst}
use Rattle.forms.specs.Surveys.{surveyed}
use Rattle.forms.proofs.LookLaws.{is_list}
use Rattle.forms.proofs.SurveyLaws.{survey_list}
use Rattle.parser.specs.Listing.{listed}
use Rattle.text.specs.Tokens.{lexed_from}
use Rattle.parser.proofs.constructors.list_size.Goals as goal

pub returns-in-Open : goal.returns-in-Open
returns-in-Open c =
    let sees = c.in-Open.ensures in
    λ s rest e a.
    let l = is_list sees.0 _ sees.1.0 (lexed_from c.args.source.now.text.now c.in-Open.inside) s rest a (sym sees.1.1.follows ∙ e) in
    subst (λ s. c.survey.result.parts ≡ listed s) (sym l.is) (ap (λ x. x.parts) (c.survey.ensures ∙ ap surveyed l.inside ∙ survey_list l.parts l.shape l.end rest l.atoms))
