use Rattle.std.proofs.Common.{length, ap, arith}
use Rattle.std.proofs.lemmas.List.{drop_all}
use Rattle.basis.specs.Printing.{unescaped_after}
use Rattle.basis.proofs.Symbols.{gone, stays}
use Rattle.basis.proofs.symbol.symbol_len.Goals as goal
use Rattle.basis.proofs.symbol.symbol_len.Goals.{then-not-escaped, else-not-escaped}

pub loop-b-preserved : goal.loop-b-preserved
loop-b-preserved c =
    let body = c.args.body.now in
    let i = c.loop-b.b-index in
    let lt = c.loop-b-test.true in
    let g = c.goes-escaped.ensures in
    elim c.if-not-escaped.branch [
      | then-not-escaped w ↦ (let e = ap length (stays body i lt c.loop-b.escaped _ g w.if-not-escaped.true) in (omega (arith, w.count-is), omega (arith, w.count-is)))
      | else-not-escaped w ↦ (let e = ap length (gone body i lt c.loop-b.escaped _ g w.if-not-escaped.false) in (omega (arith, w.count-is), omega (arith, w.count-is)))
    ]

pub returns : goal.returns
returns c =
    let e = ap (λ s. length (unescaped_after c.loop-b.escaped s)) (drop_all c.loop-b.b-index c.args.body.now c.loop-b-test.false) in
    omega arith
