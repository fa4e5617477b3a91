use Rattle.std.proofs.Common.{◌+◌, ◌≤◌, ℕ, length}
use Rattle.machine.specs.Mirrors.{Steady}
use Rattle.rules.specs.Runs.{Run as State, allowed}
use Rattle.run.specs.Insides.{Inside, Underway, Spares, run_of}
use Rattle.run.specs.Openings.{Opening}
use Rattle.run.proofs.stretches.go_on.Given as goal

abbrev pub invariant-loop-steps : goal.invariant-loop-steps
invariant-loop-steps g l =
    Spares l.bytes l.initial.out l.out × Steady l.initial.machine l.machine
    × ((o : Opening) (r : State) (count : ℕ) → Inside o r (run_of o r l.initial.machine) (g.S.CellStore.cells l.initial.store) → r.steps + l.fn.most ≤ allowed o.allowance → l.fn.most ≤ count
    → Underway o r count (length l.initial.out) l.steps l.bytes l.out l.machine (g.S.CellStore.cells l.store))
