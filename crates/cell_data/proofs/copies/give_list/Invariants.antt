use Rattle.cells.specs.Meaning.{count_live}
use Rattle.cell_data.proofs.Giving.{Giving}
use Rattle.cell_data.proofs.copies.give_list.Given as goal

abbrev pub invariant-walk : goal.invariant-walk
invariant-walk g l =
    let cells = g.S.CellStore.cells in
    Giving (cells l.fn.store) (cells l.store) l.fn.head l.next

abbrev pub decreases-walk : goal.decreases-walk
decreases-walk g l = count_live (g.S.CellStore.cells l.store)
