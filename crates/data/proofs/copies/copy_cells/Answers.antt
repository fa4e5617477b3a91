use Rattle.data.proofs.Copying.{copies_plain, not_cell}
use Rattle.data.proofs.copies.copy_cells.Goals as goal

pub returns-in_default : goal.returns-in_default
returns-in_default g c = search (copies_plain {entry = g.S.CellStore.cells c.args.store.now} (not_cell c.args.value c.in_default.not-Cell))
