use Rattle.std.proofs.Common.{◌≡◌, length, take, ap, ◌∙◌, arith}
use Rattle.std.proofs.lemmas.Grind.{common_steps}
use Rattle.explain.specs.Lines.{lead_of, around_line}
use Rattle.explain.proofs.LeadLaws.{begins}
use Rattle.explain.proofs.lines.line_around.Goals as goal

pub returns-clause-begins : goal.returns-clause-begins
returns-clause-begins c =
    let text = c.args.text.now in
    let place = c.args.place in
    let is : c.first_line.result.now ≡ around_line text place = grind (arith, common_steps) in
    ap (take (length (lead_of text place))) is ∙ begins text place
