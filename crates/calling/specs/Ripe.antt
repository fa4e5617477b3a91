-- An application whose arguments are all held.
use Rattle.std.specs.Prelude.{◌≡◌, ℕ, ◌+◌, ◌++◌, List, ◌∷◌, map, length, drop}
use Rattle.cells.specs.Meaning.{Cells, count_live}
use Rattle.data.specs.Taking.{Out}
use Rattle.machine.specs.Holding.{values_in, is_full, trees_in, holds, names, kept, capped}
use Rattle.machine.specs.Ready.{Ready}
use Rattle.machine.specs.Waiting.{Waits}
use Rattle.machine.specs.declared.frame.Frame.{Frame as Waiting}
use Rattle.machine.specs.declared.machine.Machine.{Machine}
use Rattle.program.specs.Programs.{Program}
use Rattle.rules.specs.States.{Environment, Frame, Account}
use Rattle.rules.specs.Steps.{Sizes}
use Rattle.stack.specs.Items.{tops, room_of}

-- The newest frame waits for nothing more, the newest k entries are its arguments, and nothing is in hand.
pub record Ripe (P : Program) (Z : Sizes) (m₀ : Cells) (k : ℕ) (K : List Frame) (env : Environment) (a : Account) (r : Machine) (m : Cells) : Type 0 where
  pub ready : Ready r.script.now r.text.now P
  pub frames_room : room_of r.frames ≡ Z.frames
  pub slots_room : room_of r.slots ≡ Z.entries
  pub top : Waiting
  pub others : List Waiting
  pub stacked : tops r.frames ≡ top ∷ others
  pub frames : Waits P r.script.now.code (drop k (names env)) K others
  pub full : map is_full (tops r.slots) ≡ map holds (env ++ kept K)
  pub data_held : Out m (values_in (tops r.slots)) (trees_in (env ++ kept K)) m₀
  pub cells : count_live m₀ + Z.cells ≡ length m₀
  pub input : r.input.now ≡ a.input
  pub taken : r.taken ≡ capped a.taken
  pub given : r.given ≡ capped a.given
