use Rattle.std.proofs.Common.{◌≡◌, ℕ, true}
use Rattle.cells.specs.Meaning.{is_live}
use Rattle.shelf.specs.Shelves.{less, among}
use Rattle.shelf.proofs.Shelf.reuse.Given as goal

-- the cells taken off so far were dead below: the store below, what the shelf means, and which live cells are on it are as they were
abbrev pub invariant-loop-top : goal.invariant-loop-top
invariant-loop-top g l =
    let cells = g.S.CellStore.cells in
    (cells l.self.below.now ≡ cells l.initial.self.below.now)
    × (less l.self.kept (cells l.self.below.now) ≡ less l.initial.self.kept (cells l.initial.self.below.now))
    × ((k : ℕ) → is_live (cells l.initial.self.below.now) k ≡ true → among l.self.kept k ≡ among l.initial.self.kept k)
    × (l.self.below.ghost_name ≡ l.initial.self.below.ghost_name)

abbrev pub decreases-loop-top : goal.decreases-loop-top
decreases-loop-top g l = l.self.count
