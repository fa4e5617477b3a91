use Rattle.std.proofs.Common.{◌≡◌, rules, tests}
use Rattle.std.proofs.lemmas.Iterator.{YieldsList-from_slice, cases_from_all}
use Rattle.layout.specs.Encoding.{unused}
use Rattle.parser.proofs.ScriptLaws.{all_or_another}
use Rattle.parser.proofs.script.is_unused.Goals as goal

pub returns : goal.returns
returns c =
    let nodes = c.args.nodes.now in
    all_or_another unused nodes c.all.result (cases_from_all _ _ _ (λ n. n ≡ unused) (λ n. n ≡ unused → ⊥) c.all.ensures.ran (YieldsList-from_slice nodes cc) (λ x q k. search (rules, tests)) (λ x q k. search (rules, tests)))
