use Rattle.basis.proofs.Decimals.{spells}
use Rattle.basis.proofs.decimal.write_decimal.Goals as goal

pub returns-clause-law : goal.returns-clause-law
returns-clause-law c = spells c.args.n c.ranges.n
