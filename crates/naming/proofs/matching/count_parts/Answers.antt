use Rattle.std.proofs.Common.{◌≡◌, ◌+◌, arith, subst}
use Rattle.naming.proofs.CountLaws.{Counting, counting_part, counting_end}
use Rattle.naming.proofs.matching.count_parts.Goals as goal

pub parts-preserved : goal.parts-preserved
parts-preserved c = record {
  few = let f = c.in-Some.ensures.forward in let i = c.parts.invariant.few in omega (arith, c.saturating_add-count.ensures);
  counting = λ xs short at.
      let k = c.parts.invariant.counting xs short at in
      let f = c.in-Some.ensures.forward in
      let i = c.parts.invariant.few in
      let e : c.parts.count + 1 ≡ c.saturating_add-count.result = omega (arith, c.saturating_add-count.ensures) in
      subst (λ n. Counting c.args.text.now c.in-Some.part.after n xs) e (counting_part c.args.text.now c.parts.count xs k.left c.in-Some.part k.all (c.in-Some.ensures.part k.left short k.stand));
}

pub returns : goal.returns
returns c xs short at =
    let k = c.parts.invariant.counting xs short at in
    counting_end c.args.text.now c.parts.count xs k.left k.all (c.in_default.ensures.part k.left short k.stand)
