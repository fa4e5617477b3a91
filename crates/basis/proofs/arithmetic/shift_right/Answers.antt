use Rattle.std.proofs.Common.{rules}
use Rattle.std.proofs.lemmas.Int.{to_z-of_z}
use Rattle.basis.proofs.Shifts.{right_shift_law}
use Rattle.basis.proofs.arithmetic.shift_right.Goals as goal

pub returns-clause-law : goal.returns-clause-law
returns-clause-law c = right_shift_law c.args.a c.args.amount _ c.ranges.amount (search (rules, to_z-of_z))
