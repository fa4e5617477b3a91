-- The number of each fault.
use Rattle.std.specs.Prelude.{ℕ, Some, None, Option}
use Rattle.cells.specs.declared.refusals.StoreRefusal.{StoreRefusal}
use Rattle.cells.specs.declared.refusals.StoreRefusal.TheVariants as store
use Rattle.data.specs.declared.refusals.WalkRefusal.{WalkRefusal}
use Rattle.data.specs.declared.refusals.WalkRefusal.TheVariants as walk
use Rattle.rules.specs.declared.fault.FaultKind.{FaultKind}
use Rattle.rules.specs.declared.fault.FaultKind.TheVariants.{NoBranch, ZeroDivisor, BadShift, TooFewCells, StackFull, Stuck, AllowanceSpent}

abbrev pub number_of : FaultKind → ℕ
number_of NoBranch = 31
number_of ZeroDivisor = 32
number_of BadShift = 33
number_of TooFewCells = 34
number_of StackFull = 35
number_of Stuck = 36
number_of AllowanceSpent = 37

-- the store's refusal that a fault carries
abbrev pub carried : FaultKind → Option StoreRefusal
carried TooFewCells = Some store.NoFreeCell
carried _ = None

-- what a store's refusal is to a run
abbrev pub store_fault : StoreRefusal → FaultKind
store_fault store.DeadCell = Stuck
store_fault store.NoFreeCell = TooFewCells

-- what a walk's refusal is to a run
abbrev pub walk_fault : WalkRefusal → FaultKind
walk_fault walk.NoFreeCell = TooFewCells
walk_fault walk.Stuck = Stuck
