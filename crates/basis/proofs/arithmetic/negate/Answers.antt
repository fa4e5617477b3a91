use Rattle.std.proofs.Common.{rules}
use Rattle.std.proofs.lemmas.Int.{wraps, to_z-of_z}
use Rattle.basis.proofs.arithmetic.negate.Goals as goal

pub returns-clause-value : goal.returns-clause-value
returns-clause-value c = search (rules, wraps, to_z-of_z)
