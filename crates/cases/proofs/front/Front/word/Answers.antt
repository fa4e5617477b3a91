use Rattle.std.proofs.Common.{◌≡◌, Some, rules}
use Rattle.cases.proofs.FrontLaws.{word_front}
use Rattle.cases.proofs.front.Front.word.Goals as goal

pub returns-clause-takes : goal.returns-clause-takes
returns-clause-takes c =
    let found : c.strip_prefix.result ≡ Some c.in_ok-self.field-0 = search rules in
    let cases = rw found at c.strip_prefix.ensures.cases in
    let front = word_front c.args.word.now c.args.self.now.left.now cases.0 in
    let rest = cases.1 in
    cc
