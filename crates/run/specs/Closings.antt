-- What dropping the values of a run comes to.
use Rattle.std.specs.Prelude.{◌≡◌, ℕ, ◌+◌, min}
use Rattle.cells.specs.Meaning.{Cells}
use Rattle.data.specs.Trees.{Trees, sizes}
use Rattle.run.specs.declared.closing.Dropped.{Dropped}

-- so many cells more were given back, and nothing else was stuck
pub record Gives (before : Dropped) (n : ℕ) (now : Dropped) : Type 0 where
  pub given : now.given ≡ min (before.given + n) 18446744073709551615
  pub stuck : now.stuck ≡ before.stuck

-- the cells of these trees were given back, and the store is the rest
pub record Frees (before : Dropped) (ts : Trees) (m₀ : Cells) (now : Dropped) (m : Cells) : Type 0 where
  pub gives : Gives before (sizes ts) now
  pub cells : m ≡ m₀
