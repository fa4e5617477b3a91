use Rattle.std.proofs.Common.{◌-ℤ◌, rules}
use Rattle.std.proofs.lemmas.Int.{wraps}
use Rattle.basis.proofs.Wrapping.{wraps_law}
use Rattle.basis.proofs.arithmetic.subtract.Goals as goal

pub returns : goal.returns
returns c = record { value = search (rules, wraps); law = wraps_law (c.args.a -ℤ c.args.b) _ (search (rules, wraps)) }
