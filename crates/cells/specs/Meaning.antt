-- What a store means, and what its calls do, over that meaning: the list of its cells, each a live record or none.
use Rattle.std.specs.Prelude.{◌≡◌, ℕ, ◌+◌, ◌<◌, Bool, true, List, [], ◌∷◌, length, is_some, Some, None, Ok, Err, Option, Result, slice_index_or, slice_set}
use Rattle.std.specs.Option.{ok_or}
use Rattle.cells.specs.declared.refusals.StoreRefusal.{StoreRefusal}
use Rattle.cells.specs.declared.refusals.StoreRefusal.TheVariants.{DeadCell, NoFreeCell}
use Rattle.cells.specs.declared.records.CellRecord.{CellRecord}

-- the cells by number: a live record, or none where the cell is free; the length is the capacity
abbrev pub Cells : Type 0
Cells = List (Option CellRecord)

-- what cell i holds; none past the capacity too
abbrev pub at : Cells → ℕ → Option CellRecord
at cs i = slice_index_or cs i None

-- whether cell i is live
abbrev pub is_live : Cells → ℕ → Bool
is_live cs i = is_some (at cs i)

-- what one cell adds to the count of live cells
abbrev pub one : Option CellRecord → ℕ
one None = 0
one (Some r) = 1

-- how many cells are live
abbrev pub count_live : Cells → ℕ
count_live [] = 0
count_live (c ∷ cs) = one c + count_live cs

-- read: the record of a live cell, or the refusal
abbrev pub record_at : Cells → ℕ → Result CellRecord StoreRefusal
record_at cs i = ok_or (at cs i) DeadCell

-- take: cell i was free and now holds the record; every other cell is as it was
pub record TakenAt (old : Cells) (r : CellRecord) (i : ℕ) (new : Cells) : Type 0 where
  pub within : i < length old
  pub free : at old i ≡ None
  pub after : new ≡ slice_set old i (Some r)

-- take refused: every cell is live, and nothing changed
pub record Full (old : Cells) (e : StoreRefusal) (new : Cells) : Type 0 where
  pub number : e ≡ NoFreeCell
  pub same : new ≡ old
  pub full : (k : ℕ) → k < length old → is_live old k ≡ true

-- take, by its answer
abbrev pub Taken : Cells → CellRecord → Result ℕ StoreRefusal → Cells → Type 0
Taken old r (Ok i) new = TakenAt old r i new
Taken old r (Err e) new = Full old e new

-- a live cell changed, to a record or to none; every other cell is as it was
pub record Changed (old : Cells) (i : ℕ) (c : Option CellRecord) (new : Cells) : Type 0 where
  pub live : is_live old i ≡ true
  pub after : new ≡ slice_set old i c

-- write or give back refused: cell i is not live, and nothing changed
pub record Dead (old : Cells) (i : ℕ) (e : StoreRefusal) (new : Cells) : Type 0 where
  pub number : e ≡ DeadCell
  pub dead : at old i ≡ None
  pub same : new ≡ old

-- write, by its answer
abbrev pub Written : {U : Type 0} → Cells → ℕ → CellRecord → Result U StoreRefusal → Cells → Type 0
Written old i r (Ok u) new = Changed old i (Some r) new
Written old i r (Err e) new = Dead old i e new

-- give back, by its answer
abbrev pub GivenBack : {U : Type 0} → Cells → ℕ → Result U StoreRefusal → Cells → Type 0
GivenBack old i (Ok u) new = Changed old i None new
GivenBack old i (Err e) new = Dead old i e new
