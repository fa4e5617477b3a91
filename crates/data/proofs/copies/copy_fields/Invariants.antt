use Rattle.data.proofs.Copying.{Fielding}
use Rattle.data.proofs.copies.copy_fields.Given as goal

abbrev pub invariant-loop-i : goal.invariant-loop-i
invariant-loop-i g l =
    let cells = g.S.CellStore.cells in
    Fielding (cells l.fn.store) l.fn.contents l.fn.head l.contents (cells l.store) l.top l.i
