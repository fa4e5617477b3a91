use Rattle.machine.specs.Mirrors.{mirrors, moved_on}
use Rattle.machine.specs.Waiting.{next_enter}
use Rattle.machine.specs.declared.control.Control.TheVariants.{Enter}
use Rattle.machine.proofs.Resting.{then}
use Rattle.machine.proofs.machine.Machine.go.Goals as goal

pub returns-clause-law : goal.returns-clause-law
returns-clause-law c = λ P Z m₀ m s K env a e R S. moved_on (mirrors (then R (Enter c.args.node)) (next_enter S))
