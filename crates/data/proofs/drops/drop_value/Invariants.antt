use Rattle.cells.specs.Meaning.{count_live}
use Rattle.data.proofs.Dropping.{Dropping}
use Rattle.data.proofs.drops.drop_value.Given as goal

abbrev pub invariant-walk : goal.invariant-walk
invariant-walk g l =
    let cells = g.S.CellStore.cells in
    Dropping (cells l.fn.store) l.fn.value (cells l.store) l.todo.value l.todo.rest l.count

abbrev pub decreases-walk : goal.decreases-walk
decreases-walk g l = count_live (g.S.CellStore.cells l.store)
