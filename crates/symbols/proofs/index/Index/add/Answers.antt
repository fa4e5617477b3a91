use Rattle.std.proofs.Common.{◌≡◌, ◌<◌, ◌%◌, length, refl, ap, ◌∙◌, arith, rules}
use Rattle.names.specs.Parts.{sum_of}
use Rattle.symbols.proofs.Adding.{added}
use Rattle.symbols.proofs.index.Index.add.Goals as goal

pub returns-clause-index : goal.returns-clause-index
returns-clause-index c =
    let s = c.args.self.now in
    let long : length s.literals ≡ 4096 = search rules in
    let wide : length s.heads ≡ 4096 = search rules in
    let far : length s.links ≡ 4096 = search rules in
    let sums : length s.sums ≡ 4096 = search rules in
    let small : c.sum-sum.result % 4096 < 4096 = omega arith in
    added c.args.text.now s _ c.args.literal c.sum-sum.result (c.sum-sum.result % 4096) (c.sum-sum.ensures.value ∙ ap sum_of c.between.ensures) refl refl (omega arith) refl c.requires.0 small wide far sums (search rules) (search rules) (search rules) c.requires.1
