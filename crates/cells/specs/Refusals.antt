-- The refusals of a store, by number.
use Rattle.std.specs.Prelude.{ℕ}
use Rattle.cells.specs.declared.refusals.StoreRefusal.{StoreRefusal}
use Rattle.cells.specs.declared.refusals.StoreRefusal.TheVariants.{DeadCell, NoFreeCell}

-- the number of a refusal
abbrev pub refusal_number : StoreRefusal → ℕ
refusal_number DeadCell = 20
refusal_number NoFreeCell = 22
