use Rattle.machine.specs.Mirrors.{mirrors, moved_on}
use Rattle.machine.specs.Waiting.{next_finished}
use Rattle.machine.specs.declared.control.Control.TheVariants.{Finished}
use Rattle.machine.proofs.Resting.{then}
use Rattle.machine.proofs.machine.Machine.finish.Goals as goal

pub returns-clause-law : goal.returns-clause-law
returns-clause-law c = λ P Z m₀ m s K env a t R. moved_on (mirrors (then R (Finished c.args.value)) next_finished)
