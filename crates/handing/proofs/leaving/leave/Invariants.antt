use Rattle.std.proofs.Common.{◌≡◌, ◌++◌, ◌≤◌, List, length, take, drop}
use Rattle.cells.specs.Meaning.{Cells}
use Rattle.cells.specs.declared.values.Value.{Value}
use Rattle.data.proofs.Outs.{join, tally}
use Rattle.data.specs.Taking.{Out}
use Rattle.data.specs.Trees.{Trees, sizes}
use Rattle.machine.specs.Holding.{values_in, trees_in, capped}
use Rattle.rules.specs.States.{Environment}
use Rattle.stack.specs.Items.{tops, room_of}
use Rattle.handing.proofs.leaving.leave.Given as goal

abbrev pub invariant-loop-i : goal.invariant-loop-i
invariant-loop-i g l =
    let cells = g.S.CellStore.cells in
    (room_of l.slots ≡ room_of l.initial.slots)
    × ((m₀ : Cells) (vs : List Value) (ts : Trees) (env : Environment) → l.count ≤ length env → tally ts ≡ length vs
    → Out (cells l.initial.store) (vs ++ values_in (tops l.initial.slots)) (join ts (trees_in env)) m₀
    → (l.total ≡ capped (sizes (trees_in (take l._i env)))) × (tops l.slots ≡ drop l._i (tops l.initial.slots)) × Out (cells l.store) (vs ++ values_in (tops l.slots)) (join ts (trees_in (drop l._i env))) m₀)
