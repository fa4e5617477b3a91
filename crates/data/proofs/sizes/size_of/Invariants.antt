use Rattle.std.proofs.Common.{◌-◌}
use Rattle.data.proofs.Sizing.{Sizing}
use Rattle.data.proofs.sizes.size_of.Given as goal

abbrev pub invariant-walk : goal.invariant-walk
invariant-walk g l =
    let cells = g.S.CellStore.cells in
    Sizing (cells l.fn.store) l.fn.value (cells l.store) l.todo.value l.todo.rest l.count

abbrev pub decreases-walk : goal.decreases-walk
decreases-walk g l = l.limit - l.count
