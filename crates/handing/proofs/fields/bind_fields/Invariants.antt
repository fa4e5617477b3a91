use Rattle.std.proofs.Common.{◌≡◌, ℕ, ◌+◌, ◌≤◌, List, ◌++◌, map, length, drop}
use Rattle.cells.specs.Meaning.{Cells}
use Rattle.cells.specs.Records.{row}
use Rattle.data.proofs.Outs.{join}
use Rattle.data.specs.Taking.{Out}
use Rattle.data.specs.Trees.{Trees}
use Rattle.grammar.specs.Trees.{PatternPart}
use Rattle.handing.proofs.Fitting.{Fitting}
use Rattle.machine.specs.Holding.{is_full, values_in, holds, trees_in}
use Rattle.program.specs.Scopes.{bits, names_inside}
use Rattle.rules.specs.States.{Environment}
use Rattle.rules.specs.Steps.{binds, bind_parts}
use Rattle.stack.specs.Items.{tops, room_of}
use Rattle.handing.proofs.fields.bind_fields.Given as goal

abbrev pub invariant-loop-field : goal.invariant-loop-field
invariant-loop-field g l =
    let cells = g.S.CellStore.cells in
    (room_of l.slots ≡ room_of l.initial.slots)
    × ((m₀ : Cells) (xs : List PatternPart) (vs : Trees) (env after : Environment) (n : ℕ) → l.mask ≡ bits xs → bind_parts xs vs env ≡ binds after n
    → names_inside xs + length (tops l.initial.slots) ≤ room_of l.initial.slots → map is_full (tops l.initial.slots) ≡ map holds env
    → Out (cells l.initial.store) (row l.fn.contents ++ values_in (tops l.initial.slots)) (join vs (trees_in env)) m₀
    → Fitting (drop l.field-index (row l.fn.contents)) l.rest l.total (room_of l.initial.slots) (tops l.slots) after n (cells l.store) m₀)
