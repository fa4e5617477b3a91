-- Entries leave.
use Rattle.std.specs.Prelude.{◌≡◌, ℕ, List, ◌++◌, take, drop, Some, Option}
use Rattle.cells.specs.Meaning.{Cells}
use Rattle.cells.specs.declared.values.Value.{Value}
use Rattle.data.proofs.Outs.{join}
use Rattle.data.specs.Taking.{Out}
use Rattle.data.specs.Trees.{Trees, sizes}
use Rattle.machine.specs.Holding.{values_in, trees_in, capped}
use Rattle.machine.specs.Holding.{Slot}
use Rattle.rules.specs.States.{Environment}

-- The newest n entries are dropped, the values vs stand as before: the answer is how many cells are given back, as far as that goes.
pub record Leaves (n : ℕ) (vs : List Value) (ts : Trees) (env : Environment) (old : List Slot) (answer : Option ℕ) (new : List Slot) (m m₀ : Cells) : Type 0 where
  pub given : answer ≡ Some (capped (sizes (trees_in (take n env))))
  pub slots : new ≡ drop n old
  pub data_held : Out m (vs ++ values_in new) (join ts (trees_in (drop n env))) m₀
