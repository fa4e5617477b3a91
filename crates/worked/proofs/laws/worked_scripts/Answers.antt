use Rattle.std.proofs.Common.{refl}
use Rattle.std.specs.Fmt.{digits}
use Rattle.std.specs.Int.{int_wrap}
use Rattle.rules.specs.Runs.{advance}
use Rattle.rules.specs.Steps.{rules}
use Rattle.worked.proofs.laws.worked_scripts.Goals as goal

pub returns : goal.returns
unfolding rules advance digits int_wrap
returns c = record { worked = record { unit = refl; sum = refl; length = refl; short = refl; twice = refl; copied = refl; missing = refl; large = refl; least = refl; shift = refl; input = refl; empty = refl } }
