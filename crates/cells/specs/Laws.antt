-- What a client of any store may rely on, whatever the store is made of.
use Rattle.std.specs.Prelude.{◌≡◌, ℕ, ◌+◌, ◌<◌, true, false, ◌≢◌, length, is_ok, Some, None, Option, Result, slice_set}
use Rattle.cells.specs.declared.refusals.StoreRefusal.{StoreRefusal}
use Rattle.cells.specs.declared.records.CellRecord.{CellRecord}
use Rattle.cells.specs.Meaning.{Cells, at, is_live, count_live, TakenAt, Taken, Changed, Written, GivenBack}

-- what is held is untouched: a live cell keeps its record through every call that does not name it
pub record Untouched : Type 0 where
  pub by_take : (old : Cells) (r : CellRecord) (answer : Result ℕ StoreRefusal) (new : Cells) (k : ℕ) → is_live old k ≡ true → Taken old r answer new → at new k ≡ at old k
  pub by_write : (old : Cells) (i : ℕ) (r : CellRecord) (answer : Result (Unit {0}) StoreRefusal) (new : Cells) (k : ℕ) → k ≢ i → Written old i r answer new → at new k ≡ at old k
  pub by_give_back : (old : Cells) (i : ℕ) (answer : Result (Unit {0}) StoreRefusal) (new : Cells) (k : ℕ) → k ≢ i → GivenBack old i answer new → at new k ≡ at old k

-- the capacity stays, and the count of live cells moves by one with a take and a giving back, and not with a write
pub record Counted : Type 0 where
  pub take_capacity : (old : Cells) (r : CellRecord) (answer : Result ℕ StoreRefusal) (new : Cells) → Taken old r answer new → length new ≡ length old
  pub write_capacity : (old : Cells) (i : ℕ) (r : CellRecord) (answer : Result (Unit {0}) StoreRefusal) (new : Cells) → Written old i r answer new → length new ≡ length old
  pub give_back_capacity : (old : Cells) (i : ℕ) (answer : Result (Unit {0}) StoreRefusal) (new : Cells) → GivenBack old i answer new → length new ≡ length old
  pub take_count : {old new : Cells} {r : CellRecord} {i : ℕ} → TakenAt old r i new → count_live new ≡ count_live old + 1
  pub write_count : {old new : Cells} {i : ℕ} {r : CellRecord} → Changed old i (Some r) new → count_live new ≡ count_live old
  pub give_back_count : {old new : Cells} {i : ℕ} → Changed old i None new → count_live new + 1 ≡ count_live old

-- a take succeeds exactly while fewer cells are live than there are, and gives a cell that was not live
pub record Fresh : Type 0 where
  pub not_live : {old new : Cells} {r : CellRecord} {i : ℕ} → TakenAt old r i new → is_live old i ≡ false
  pub holds : {old new : Cells} {r : CellRecord} {i : ℕ} → TakenAt old r i new → at new i ≡ Some r
  pub room : (old : Cells) (r : CellRecord) (answer : Result ℕ StoreRefusal) (new : Cells) → count_live old < length old → Taken old r answer new → is_ok answer ≡ true
  pub no_room : (old : Cells) (r : CellRecord) (answer : Result ℕ StoreRefusal) (new : Cells) → count_live old ≡ length old → Taken old r answer new → is_ok answer ≡ false

-- two calls on different cells commute
pub record Commute : Type 0 where
  pub changes : {old mid new : Cells} {i j : ℕ} {c d : Option CellRecord} → i ≢ j → Changed old i c mid → Changed mid j d new → Changed old j d (slice_set old j d) × Changed (slice_set old j d) i c new
  pub take_and_change : {old mid new : Cells} {i j : ℕ} {r : CellRecord} {d : Option CellRecord} → i ≢ j → TakenAt old r i mid → Changed mid j d new → Changed old j d (slice_set old j d) × TakenAt (slice_set old j d) r i new
