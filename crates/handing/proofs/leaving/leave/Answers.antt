use Rattle.std.proofs.Common.{◌≡◌, ◌+◌, ◌∷◌, ◌++◌, drop, ap, ◌∙◌, subst, arith}
use Rattle.data.proofs.Outs.{join}
use Rattle.data.specs.Taking.{Out}
use Rattle.handing.proofs.Left.{first_left, fronted, popped, capped_more, not_empty}
use Rattle.machine.specs.Holding.{values_in, tree_in, trees_in, capped}
use Rattle.data.specs.Trees.{size}
use Rattle.stack.specs.Items.{tops}
use Rattle.handing.proofs.leaving.leave.Goals as goal

pub returns-in_err-slot-clause-law : goal.returns-in_err-slot-clause-law
returns-in_err-slot-clause-law g c = λ m₀ vs ts env n t o.
    let i = c.loop-i.invariant.1 m₀ vs ts env n t o in
    let ss = tops c.loop-i.slots in
    let f = first_left env c.loop-i._i (omega (arith, c.loop-i-test.true)) in
    absurd (not_empty vs ts ss f.entry (drop (c.loop-i._i + 1) env) t c.in_err-slot.ensures.tops.0 (subst (λ q. Out (g.S.CellStore.cells c.loop-i.store) (vs ++ values_in ss) (join ts (trees_in q)) m₀) f.is i.2))

pub returns-in_err-number-clause-law : goal.returns-in_err-number-clause-law
returns-in_err-number-clause-law g c = λ m₀ vs ts env n t o.
    let i = c.loop-i.invariant.1 m₀ vs ts env n t o in
    let m = g.S.CellStore.cells c.loop-i.store in
    let f = first_left env c.loop-i._i (omega (arith, c.loop-i-test.true)) in
    let rest = tops c.pop.new.self in
    let row = subst (λ q. Out m (vs ++ values_in q) (join ts (trees_in (f.entry ∷ drop (c.loop-i._i + 1) env))) m₀) c.in_ok-slot.ensures.tops
    (subst (λ q. Out m (vs ++ values_in (tops c.loop-i.slots)) (join ts (trees_in q)) m₀) f.is i.2) in
    let d = c.in_err-number.ensures m₀ _ (tree_in f.entry) _ (fronted vs ts c.in_ok-slot.slot rest f.entry (drop (c.loop-i._i + 1) env) t row) in
    let is = d.0 in
    absurd (cc)

pub loop-i-preserved : goal.loop-i-preserved
loop-i-preserved g c = (
  c.pop.ensures.room ∙ c.loop-i.invariant.0,
  λ m₀ vs ts env n t o.
      let i = c.loop-i.invariant.1 m₀ vs ts env n t o in
      let m = g.S.CellStore.cells c.loop-i.store in
      let f = first_left env c.loop-i._i (omega (arith, c.loop-i-test.true)) in
      let rest = tops c.pop.new.self in
      let top = c.in_ok-slot.ensures.tops in
      let row = subst (λ q. Out m (vs ++ values_in q) (join ts (trees_in (f.entry ∷ drop (c.loop-i._i + 1) env))) m₀) top
      (subst (λ q. Out m (vs ++ values_in (tops c.loop-i.slots)) (join ts (trees_in q)) m₀) f.is i.2) in
      let d = c.in_ok-number.ensures m₀ _ (tree_in f.entry) _ (fronted vs ts c.in_ok-slot.slot rest f.entry (drop (c.loop-i._i + 1) env) t row) in
      let is = d.0 in
      let number : c.in_ok-number.number ≡ size (tree_in f.entry) = cc in (
        c.saturating_add-total.ensures ∙ (capped_more c.loop-i.total _ c.in_ok-number.number i.0 ∙ ap capped (omega (arith, f.grown, number))),
        popped c.loop-i._i (tops c.args.slots.now) (tops c.loop-i.slots) c.in_ok-slot.slot rest i.1 top,
        d.1,
      ),
)
