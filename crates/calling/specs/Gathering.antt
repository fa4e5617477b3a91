-- The arguments of an application in their own order.
use Rattle.std.specs.Prelude.{◌≡◌, ℕ, ◌+◌, ◌<◌, ◌≤◌, List, ◌∷◌, reverse, length, take, None}
use Rattle.std.specs.List.{slice_get}
use Rattle.cells.specs.declared.values.Value.{Value}
use Rattle.machine.specs.Holding.{values_in, full_value}
use Rattle.machine.specs.Holding.{Slot}

-- the n values of the newest slots, and the last one, the oldest first
pub record Gathers (n : ℕ) (ss : List Slot) (last : Value) (fields : List Value) : Type 0 where
  pub within : n ≤ length ss
  pub long : length fields ≡ 6
  pub row : take (n + 1) fields ≡ reverse (last ∷ take n (values_in ss))

-- the values of the n newest slots, the newest first
pub record Newest (ss : List Slot) (n : ℕ) (values : List Value) : Type 0 where
  pub within : n ≤ length ss
  pub row : values ≡ take n (values_in ss)

-- one of the n newest slots is not full
pub record Misses (n : ℕ) (ss : List Slot) : Type 0 where
  pub depth : ℕ
  pub among : depth < n
  pub lacks : full_value (slice_get ss depth) ≡ None
