use Rattle.std.proofs.Common.{◌≤◌, length}
use Rattle.cells.specs.Meaning.{Cells}
use Rattle.data.specs.Taking.{Out}
use Rattle.data.specs.Trees.{Trees}
use Rattle.machine.specs.Holding.{values_in}
use Rattle.run.proofs.Dropping.{Dropping}
use Rattle.stack.specs.Items.{tops}
use Rattle.run.proofs.closing.drop_slots.Given as goal

abbrev pub invariant-loop-slot : goal.invariant-loop-slot
invariant-loop-slot g l =
    (l.fn.before.given ≤ l.dropped.given)
    × ((m₀ : Cells) (ts : Trees) → Out (g.S.CellStore.cells l.initial.store) (values_in (tops l.initial.slots)) ts m₀
    → Dropping l.fn.before ts m₀ l.dropped (tops l.slots) (g.S.CellStore.cells l.store))

abbrev pub decreases-loop-slot : goal.decreases-loop-slot
decreases-loop-slot g l = length (tops l.slots)
