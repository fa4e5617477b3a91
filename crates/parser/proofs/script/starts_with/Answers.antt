use Rattle.std.proofs.Common.{take, length, arith, rules, tests}
use Rattle.std.proofs.lemmas.List.{length-take}
use Rattle.std.proofs.lemmas.Iterator.{YieldsList-from_slice, YieldsList-from_zip, same_from_all}
use Rattle.parser.proofs.script.starts_with.Goals as goal

pub returns : goal.returns
returns c =
    let first = c.args.first.now in
    let front = take (length first) c.args.nodes.now in
    same_from_all c.all.new.self _ c.all.result front first c.all.ensures.ran (YieldsList-from_zip (YieldsList-from_slice front cc) (YieldsList-from_slice first cc)) (omega (arith, length-take (length first) c.args.nodes.now)) (λ x q k. search (rules, tests)) (λ x q k. search (rules, tests))
