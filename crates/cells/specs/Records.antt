-- Cell records: what one is made of, and what changes with one field or with the spare number.
use Rattle.std.specs.Prelude.{◌≡◌, ℕ, ◌-◌, ◌<◌, List, ◌++◌, length, take, replicate, slice_set}
use Rattle.cells.specs.declared.values.Value.{Value}
use Rattle.cells.specs.declared.values.Value.TheVariants.{Unit as Nothing}
use Rattle.cells.specs.declared.records.CellRecord.{CellRecord}

-- the fields that a record uses
abbrev pub row : CellRecord → List Value
row r = take r.used r.fields

-- a new record: the values are its used fields, the others are unit, its spare number is nought
pub record Made (constructor : ℕ) (values : List Value) (r : CellRecord) : Type 0 where
  pub constructor_is : r.constructor ≡ constructor
  pub used_is : r.used ≡ length values
  pub fields_are : r.fields ≡ values ++ replicate (6 - length values) Nothing
  pub spare_is : r.spare ≡ 0

-- another value in one used field, all else as it was
pub record FieldPut (old : CellRecord) (place : ℕ) (value : Value) (new : CellRecord) : Type 0 where
  pub used_place : place < old.used
  pub constructor_is : new.constructor ≡ old.constructor
  pub used_is : new.used ≡ old.used
  pub fields_are : new.fields ≡ slice_set old.fields place value
  pub spare_is : new.spare ≡ old.spare

-- another spare number, all else as it was
pub record SparePut (old : CellRecord) (spare : ℕ) (new : CellRecord) : Type 0 where
  pub constructor_is : new.constructor ≡ old.constructor
  pub used_is : new.used ≡ old.used
  pub fields_are : new.fields ≡ old.fields
  pub spare_is : new.spare ≡ spare
