-- Fields are bound.
use Rattle.std.specs.Prelude.{◌≡◌, ℕ, List, map, Some, Option}
use Rattle.cells.specs.Meaning.{Cells}
use Rattle.data.specs.Taking.{Out}
use Rattle.machine.specs.Holding.{is_full, values_in, holds, trees_in, capped}
use Rattle.machine.specs.Holding.{Slot}
use Rattle.rules.specs.States.{Environment}

-- The slots stand for the entries afterwards, and nothing else is held: the answer is how many cells are given back, as far as that goes.
pub record BindsFields (after : Environment) (n : ℕ) (answer : Option ℕ) (new : List Slot) (m m₀ : Cells) : Type 0 where
  pub given : answer ≡ Some (capped n)
  pub full : map is_full new ≡ map holds after
  pub data_held : Out m (values_in new) (trees_in after) m₀
