use Rattle.std.proofs.Common.{sym, refl, arith, rules}
use Rattle.cells.proofs.CellLaws.{count_le}
use Rattle.data.proofs.Outs.{out_count}
use Rattle.data.proofs.Walking.{open_some, never_lost}
use Rattle.data.proofs.Sizing.{sizing_start, sizing_turn, sizing_refused, sizing_halted, sizing_end}
use Rattle.data.proofs.sizes.size_of.Goals as goal

pub walk-init : goal.walk-init
walk-init g c = sizing_start (g.S.CellStore.cells c.args.store.now) c.args.value

pub returns-then-count-limit : goal.returns-then-count-limit
returns-then-count-limit g c =
    sizing_refused _ refl c.walk.invariant
    (λ t m₀ o w. omega (arith, open_some _ c.walk.todo w.left m₀ (sym c.walk-test.ensures) w.ahead, w.counts, out_count o, count_le (g.S.CellStore.cells c.args.store.now), c.capacity-limit.ensures, c.if-count-limit.true))

pub returns-in_err-contents : goal.returns-in_err-contents
returns-in_err-contents g c =
    sizing_refused _ (search rules) c.walk.invariant
    (λ t m₀ o w. never_lost _ w.done c.walk.todo w.left m₀ (sym c.walk-test.ensures) (rw c.next_cell.ensures at c.in_err-contents.ensures.1) w.ahead)

pub returns-in_err-todo : goal.returns-in_err-todo
returns-in_err-todo g c =
    sizing_halted _ (search rules) (g.S.CellStore.small c.walk.store) record { goes = sym c.walk-test.ensures; next = cc; here = c.in_ok-contents.ensures.0; behind = cc } c.in_err-todo.ensures.steps.1 c.walk.invariant

pub walk-preserved : goal.walk-preserved
walk-preserved g c =
    sizing_turn (omega arith) (g.S.CellStore.small c.walk.store) record { goes = sym c.walk-test.ensures; next = cc; here = c.in_ok-contents.ensures.0; behind = cc } c.in_ok-todo.ensures.steps c.walk.invariant

pub returns : goal.returns
returns g c = sizing_end c.walk.todo c.walk.count (sym c.walk-test.ensures) c.walk.invariant
