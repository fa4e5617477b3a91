use Rattle.std.proofs.Common.{◌≡◌, ◌≤◌, length, take}
use Rattle.machine.specs.Holding.{values_in}
use Rattle.stack.specs.Items.{tops}
use Rattle.calling.proofs.builds.read_newest.Given as goal

abbrev pub invariant-loop-depth : goal.invariant-loop-depth
invariant-loop-depth l = (l.depth ≤ length (tops l.slots)) × (take l.depth l.row ≡ take l.depth (values_in (tops l.slots)))
