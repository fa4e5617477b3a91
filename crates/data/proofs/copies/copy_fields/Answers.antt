use borrow.Author.Tests.{tests}
use Rattle.std.proofs.Common.{◌≡◌, Ok, Err, MatchResult, arith, rules}
use Rattle.data.proofs.Copying.{cell_copied, cell_refused, fielding_start, fielding_plain, fielding_data, fielding_end, fielding_stopped, not_cell}
use Rattle.data.proofs.copies.copy_fields.Goals as goal

pub loop-i-init : goal.loop-i-init
loop-i-init g c = fielding_start (g.S.CellStore.cells c.args.store.now) c.args.contents.now c.args.head

pub loop-i-preserved-in-Cell : goal.loop-i-preserved-in-Cell
loop-i-preserved-in-Cell g c =
    let told : MatchResult c.copy_cell.result (λ k. c.map_err.result ≡ Ok k) (λ _. c.map_err.result ≡ Err c.loop-i.top) = search (rules, tests) in
    fielding_data _ _ c.loop-i-test.true c.loop-i.auto.i c.in-Cell.is (cell_copied _ c.loop-i.top c.loop-i.top _ _ told c.in_ok-cell.was c.copy_cell.ensures) (c.set_field.ensures.put (omega (arith, c.loop-i.invariant.used_is, c.loop-i.auto.i, c.loop-i-test.true))) (cc) c.loop-i.invariant

pub loop-i-preserved : goal.loop-i-preserved
loop-i-preserved g c = fielding_plain _ c.loop-i-test.true c.loop-i.auto.i (not_cell _ c.in_default.not-Cell) c.loop-i.invariant

pub returns-in_err-cell : goal.returns-in_err-cell
returns-in_err-cell g c =
    let told : MatchResult c.copy_cell.result (λ k. c.map_err.result ≡ Ok k) (λ _. c.map_err.result ≡ Err c.loop-i.top) = search (rules, tests) in
    let refused = cell_refused _ c.loop-i.top c.loop-i.top _ _ told c.in_err-cell.was c.copy_cell.ensures in
    let answer : c.from_residual.result ≡ Err c.in_err-cell.field-0.0 = search rules in
    rw (answer, refused.0) (fielding_stopped _ c.loop-i-test.true c.loop-i.auto.i c.in-Cell.is refused.1 refused.2 c.loop-i.invariant)

pub returns : goal.returns
returns g c = fielding_end c.loop-i-test.false c.loop-i.invariant
