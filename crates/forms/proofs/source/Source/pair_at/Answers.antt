use Rattle.std.proofs.Common.{◌≡◌, ap, rules}
use Rattle.text.specs.Scans.{refused_at}
use Rattle.text.specs.declared.refusal.Refusal.TheVariants as refusal
use Rattle.forms.proofs.PairLaws.{two_parts, other_parts}
use Rattle.forms.proofs.source.Source.pair_at.Goals as goal

pub returns-then-survey-ne2-clause-told : goal.returns-then-survey-ne2-clause-told
returns-then-survey-ne2-clause-told c =
    let sees = c.in_ok-opened.ensures in
    let is : c.wrong.result ≡ refused_at refusal.Form c.in_ok-opened.opened.place = search rules in
    λ s rest follows atoms. other_parts c.args.self.now.text.now c.args.place sees.0 sees.1.0 c.in_ok-opened.opened sees.1.1 c.survey.result.parts (ap (λ s. s.parts) c.survey.ensures) s rest follows atoms c.if-survey-ne2.true c.wrong.result is

pub returns-clause-told : goal.returns-clause-told
returns-clause-told c =
    let sees = c.in_ok-opened.ensures in
    λ s rest follows atoms. two_parts c.args.self.now.text.now c.args.place sees.0 sees.1.0 c.in_ok-opened.opened sees.1.1 c.survey.result.parts (ap (λ s. s.parts) c.survey.ensures) s rest follows atoms c.if-survey-ne2.false
