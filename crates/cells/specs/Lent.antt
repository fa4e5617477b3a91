-- Stores over lent slots: each slot means a cell, and the slots past the first 65535 are not used.
use Rattle.std.specs.Prelude.{◌≡◌, ◌≤◌, List, map, length, take, drop, Option}
use Rattle.std.proofs.Common.{arith}
use Rattle.std.specs.Borrow.{MutBor}
use Rattle.std.proofs.lemmas.List.{length-map, length-take}
use Rattle.cells.specs.declared.records.CellRecord.{CellRecord}
use Rattle.cells.specs.Meaning.{Cells}

-- the slots that a store uses
abbrev pub front : {X : Type 0} → List X → List X
front s = take 65535 s

-- what they mean, where each slot means the cell f
abbrev pub meant : {X : Type 0} → (X → Option CellRecord) → List X → Cells
meant f s = map f (front s)

-- a store over lent slots has at most 65535 cells
pub meant_small : {X : Type 0} (f : X → Option CellRecord) (s : List X) → length (meant f s) ≤ 65535
meant_small f s = simp (length-map, length-take) (omega arith)

-- the same lent slots, those that are not used as they were
pub record Kept {X : Type 0} (old new : MutBor (List X)) : Type 0 where
  pub same : new.ghost_name ≡ old.ghost_name
  pub past : drop 65535 new.now ≡ drop 65535 old.now
