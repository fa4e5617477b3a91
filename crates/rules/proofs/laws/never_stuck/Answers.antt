use Rattle.rules.proofs.NeverStuck.{never_stuck}
use Rattle.rules.proofs.laws.never_stuck.Goals as goal

pub returns : goal.returns
returns c = record { never = never_stuck }
