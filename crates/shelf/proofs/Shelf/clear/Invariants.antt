use Rattle.std.proofs.Common.{◌≡◌}
use Rattle.shelf.specs.Shelves.{less}
use Rattle.shelf.proofs.Shelf.clear.Given as goal

abbrev pub invariant-loop-cell : goal.invariant-loop-cell
invariant-loop-cell g l =
    let cells = g.S.CellStore.cells in
    (less l.self.kept (cells l.self.below.now) ≡ less l.initial.self.kept (cells l.initial.self.below.now))
    × (l.self.below.ghost_name ≡ l.initial.self.below.ghost_name)

abbrev pub decreases-loop-cell : goal.decreases-loop-cell
decreases-loop-cell g l = l.self.count
