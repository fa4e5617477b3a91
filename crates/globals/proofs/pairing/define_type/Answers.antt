use Rattle.std.proofs.Common.{◌≡◌, Some, ◌∙◌, subst, rules}
use Rattle.globals.specs.Pairs.{IsRoot}
use Rattle.program.specs.Programs.{program}
use Rattle.globals.proofs.PairLaws.{root_type}
use Rattle.globals.proofs.pairing.define_type.Goals as goal

pub returns : goal.returns
returns c = λ script x n has few spelt.
    let root = c.in_ok-root.root in
    let there : c.annotation.result ≡ Some root = search rules in
    let is : IsRoot (program script) script c.part.result.now (Some root) = subst (IsRoot (program script) script c.part.result.now) there (c.annotation.ensures script n) in
    root_type script c.args.rows.now.rows has few x root c.kind.result (subst (λ w. IsRoot (program script) script w (Some root)) (c.part.ensures ∙ spelt.bytes_are) is) c.kind.ensures
