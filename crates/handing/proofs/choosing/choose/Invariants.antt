use Rattle.std.proofs.Common.{◌-◌}
use Rattle.grammar.specs.Trees.{Branches}
use Rattle.handing.proofs.Branching.{Going}
use Rattle.machine.specs.Ready.{Forward}
use Rattle.program.specs.Programs.{Program}
use Rattle.program.specs.Scopes.{Scope}
use Rattle.program.specs.Standing.{StandsBranches}
use Rattle.handing.proofs.choosing.choose.Given as goal

abbrev pub invariant-loop-node : goal.invariant-loop-node
invariant-loop-node l = (P : Program) (G : Scope) (bs : Branches) → Forward P l.script.code → StandsBranches P l.script.code G bs l.first l.past
    → Going P l.script.code G l.constructor bs l.node l.past

abbrev pub decreases-loop-node : goal.decreases-loop-node
decreases-loop-node l = l.past - l.node
