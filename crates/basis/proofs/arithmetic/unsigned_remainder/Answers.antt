use Rattle.std.proofs.Common.{rules}
use Rattle.std.proofs.lemmas.Int.{to_z-of_z}
use Rattle.basis.proofs.Divisions.{unsigned_remainder_law}
use Rattle.basis.proofs.arithmetic.unsigned_remainder.Goals as goal

pub returns-clause-law : goal.returns-clause-law
returns-clause-law c = unsigned_remainder_law c.args.a c.args.b _ c.ranges.a c.ranges.b (search (rules, to_z-of_z))
