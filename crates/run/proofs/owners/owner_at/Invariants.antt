use Rattle.program.specs.Programs.{Program}
use Rattle.program.specs.Standing.{Lays}
use Rattle.run.proofs.Owning.{Owning}
use Rattle.run.proofs.owners.owner_at.Given as goal

abbrev pub invariant-loop-i : goal.invariant-loop-i
invariant-loop-i l = (P : Program) → Lays l.script P → Owning P l.place l.i l.name
