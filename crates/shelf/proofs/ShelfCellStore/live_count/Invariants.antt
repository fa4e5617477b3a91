use Rattle.std.proofs.Common.{◌≡◌, take}
use Rattle.cells.specs.Meaning.{count_live}
use Rattle.shelf.specs.Shelves.{less}
use Rattle.shelf.proofs.ShelfCellStore.live_count.Given as goal

abbrev pub invariant-loop-cell : goal.invariant-loop-cell
invariant-loop-cell g l = l.live ≡ count_live (less (take l.cell-index l.self.kept) (g.S.CellStore.cells l.self.below.now))
