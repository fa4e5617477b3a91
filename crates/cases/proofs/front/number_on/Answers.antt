use Rattle.std.proofs.Common.{◌≤◌, get_or, arith}
use Rattle.std.proofs.lemmas.Bool.Decides.{nat_tests}
use Rattle.std.proofs.lemmas.Fmt.{decimal_digit}
use Rattle.cases.proofs.FrontLaws.{number_step}
use Rattle.cases.proofs.front.number_on.Goals as goal

pub loop-d-init : goal.loop-d-init
loop-d-init c = record { positive = c.requires.positive; writes = decimal_digit c.args.first c.requires.digit }

pub loop-d-preserved : goal.loop-d-preserved
loop-d-preserved c =
    let h = c.loop-d.invariant in
    let product = c.in_ok-checked_mul.ensures in
    let sum = c.in_ok-n.ensures in
    let low : 48 ≤ get_or c.args.more.now c.loop-d.d-index 0 = grind (arith, nat_tests, c.is_ascii_digit.ensures.bound, c.if-not-is_ascii_digit.false) in
    let high : get_or c.args.more.now c.loop-d.d-index 0 ≤ 57 = grind (arith, nat_tests, c.is_ascii_digit.ensures.bound, c.if-not-is_ascii_digit.false) in
    record {
      positive = omega (arith, product, sum);
      writes = number_step c.args.more.now c.loop-d.d-index c.args.first c.loop-d.n c.in_ok-n.n c.loop-d-test.true h.positive low high (omega (arith, product, sum, c.from.ensures)) (omega (arith, sum)) h.writes;
    }
