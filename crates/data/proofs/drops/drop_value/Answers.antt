use Rattle.std.proofs.Common.{◌≤◌, [], sym, arith, rules}
use Rattle.cells.proofs.CellLaws.{count_le}
use Rattle.cells.proofs.Calls.{given_count}
use Rattle.data.proofs.Spares.{respared_count}
use Rattle.data.proofs.Roaming.{added_same}
use Rattle.data.proofs.Walking.{never_lost}
use Rattle.data.proofs.Dropping.{dropping_start, dropping_turn, dropping_refused, dropping_halted, dropping_end}
use Rattle.data.proofs.drops.drop_value.Goals as goal

pub walk-init : goal.walk-init
walk-init g c = dropping_start (g.S.CellStore.cells c.args.store.now) c.args.value

pub returns-in_err-contents : goal.returns-in_err-contents
returns-in_err-contents g c =
    dropping_refused _ (search rules) c.walk.invariant
    (λ k m₀ a. never_lost _ [] c.walk.todo k m₀ (sym c.walk-test.ensures) (rw c.next_cell-cell.ensures at c.in_err-contents.ensures.1) a)

pub returns-in_err-todo : goal.returns-in_err-todo
returns-in_err-todo g c =
    dropping_halted _ (search rules) (g.S.CellStore.small c.walk.store) record { goes = sym c.walk-test.ensures; next = cc; here = c.in_ok-contents.ensures.0; behind = cc } (cc) c.in_ok-give_back.ensures c.in_err-todo.ensures.steps.1 c.walk.invariant

pub overflow_add-count : goal.overflow_add-count
overflow_add-count g c =
    let few : c.walk.count ≤ 65535 = omega (arith, c.walk.invariant.live, count_le (g.S.CellStore.cells c.args.store.now), g.S.CellStore.small c.args.store.now) in
    search rules

pub walk-smaller : goal.walk-smaller
walk-smaller g c =
    let a = added_same c.in_ok-todo.ensures.steps in
    omega (arith, respared_count _ _ a.0 a.1, given_count c.in_ok-give_back.ensures)

pub walk-preserved : goal.walk-preserved
walk-preserved g c =
    dropping_turn (omega arith) (g.S.CellStore.small c.walk.store) record { goes = sym c.walk-test.ensures; next = cc; here = c.in_ok-contents.ensures.0; behind = cc } (cc) c.in_ok-give_back.ensures c.in_ok-todo.ensures.steps c.walk.invariant

pub returns : goal.returns
returns g c = dropping_end c.walk.todo c.walk.count (sym c.walk-test.ensures) c.walk.invariant
