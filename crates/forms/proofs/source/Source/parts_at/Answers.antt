use Rattle.std.proofs.Common.{unwrap_or, ap, sym, ◌∙◌, arith}
use Rattle.forms.specs.Surveys.{told}
use Rattle.forms.proofs.CountingLaws.{unknown, told_at}
use Rattle.forms.proofs.source.Source.parts_at.Goals as goal

pub returns-in-Some : goal.returns-in-Some
returns-in-Some c =
    let found = c.unwrap_or-count.ensures ∙ ap (λ o. unwrap_or o unknown) c.copied.ensures in
    let counts = c.args.self.now.counts in
    c.args.self.now.right c.args.place c.in-Some.parts (told_at counts c.args.place ∙ ap told (sym (c.get.ensures.lookup.4 (omega arith) unknown) ∙ sym found) ∙ sym c.parts.ensures ∙ c.in-Some.is)
