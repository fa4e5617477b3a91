use Rattle.std.proofs.Common.{◌-◌}
use Rattle.data.proofs.Copying.{Copying}
use Rattle.data.proofs.copies.copy_data.Given as goal

abbrev pub invariant-walk : goal.invariant-walk
invariant-walk g l =
    let cells = g.S.CellStore.cells in
    Copying (cells l.fn.store) l.fn.number l.first (cells l.store) l.waiting l.finished l.count

abbrev pub decreases-walk : goal.decreases-walk
decreases-walk g l = l.limit - l.count
