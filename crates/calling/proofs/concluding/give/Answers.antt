use Rattle.machine.proofs.Resting.{with_plain}
use Rattle.calling.proofs.concluding.give.Goals as goal

pub returns-clause-law : goal.returns-clause-law
returns-clause-law c = λ P Z m₀ m s K env a t U p. c.finish.ensures.law P Z m₀ m s K env a t (with_plain (c.uncover.ensures.law P Z m₀ m K env a U) p)
