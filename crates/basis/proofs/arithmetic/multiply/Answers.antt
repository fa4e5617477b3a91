use Rattle.std.proofs.Common.{◌*ℤ◌, rules}
use Rattle.std.proofs.lemmas.Int.{wraps}
use Rattle.basis.proofs.Wrapping.{wraps_law}
use Rattle.basis.proofs.arithmetic.multiply.Goals as goal

pub returns-clause-law : goal.returns-clause-law
returns-clause-law c = wraps_law (c.args.a *ℤ c.args.b) _ (search (rules, wraps))
