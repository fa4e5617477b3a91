use Rattle.std.proofs.Common.{rules}
use Rattle.std.proofs.lemmas.Int.{to_z-of_z}
use Rattle.basis.proofs.Divisions.{remainder_law}
use Rattle.basis.proofs.arithmetic.remainder.Goals as goal

pub returns-else-b-eq0-clause-law : goal.returns-else-b-eq0-clause-law
returns-else-b-eq0-clause-law c = remainder_law c.args.a c.args.b c.ranges.a c.ranges.b c.if-b-eq0.false _ (search (rules, to_z-of_z))
