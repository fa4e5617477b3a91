-- The slots of the marked store: what each means.
use Rattle.std.specs.Prelude.{◌≡◌, ℕ, ◌<◌, ◌≤◌, true, List, is_some, None, Option, slice_index_or}
use Rattle.cells.specs.declared.records.CellRecord.{CellRecord}

-- the cell that a slot means: its record, or none where it has none
abbrev pub marked_cell : Option CellRecord → Option CellRecord
marked_cell c = c

-- no slot from one place to another is free
abbrev pub NoneFree : List (Option CellRecord) → ℕ → ℕ → Type 0
NoneFree s from to = (k : ℕ) (d : Option CellRecord) → from ≤ k → k < to → is_some (marked_cell (slice_index_or s k d)) ≡ true

-- a slot below a place is free
abbrev pub FreeAt : List (Option CellRecord) → ℕ → ℕ → Type 0
FreeAt s to i = (i < to) × ((d : Option CellRecord) → marked_cell (slice_index_or s i d) ≡ None)
