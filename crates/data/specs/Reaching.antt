-- The cells that can be reached from a value.
use Rattle.std.specs.Prelude.{◌≡◌, ℕ, List, ◌∷◌, Some}
use Rattle.cells.specs.declared.values.Value.{Value}
use Rattle.cells.specs.declared.values.Value.TheVariants.{Cell}
use Rattle.cells.specs.declared.records.CellRecord.{CellRecord}
use Rattle.cells.specs.Records.{row}
use Rattle.cells.specs.Meaning.{Cells, at}

-- one of the values is the cell n
pub data HasCell (n : ℕ) : List Value → Type 0 where
  has_first : {v : Value} {vs : List Value} → v ≡ Cell n → HasCell n (v ∷ vs)
  has_later : {v : Value} {vs : List Value} → HasCell n vs → HasCell n (v ∷ vs)

-- from the root one comes to its cell, and from a live cell to those in its fields
pub data Reached (m : Cells) (root : Value) : ℕ → Type 0 where
  reached_root : {n : ℕ} → root ≡ Cell n → Reached m root n
  reached_field : {n k : ℕ} (r : CellRecord) → Reached m root n → at m n ≡ Some r → HasCell k (row r) → Reached m root k

-- every cell that cannot be reached is as it was
pub record Untouched (m : Cells) (root : Value) (exit : Cells) : Type 0 where
  pub each : (i : ℕ) → (Reached m root i → ⊥) → at exit i ≡ at m i
