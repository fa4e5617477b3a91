use Rattle.std.proofs.Common.{arith}
use Rattle.shelf.specs.Shelves.{less_length}
use Rattle.shelf.proofs.ShelfCellStore.capacity.Goals as goal

pub returns : goal.returns
returns g c = omega (arith, c.capacity.ensures, less_length c.args.self.now.kept (g.S.CellStore.cells c.args.self.now.below.now))
