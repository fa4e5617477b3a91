use Rattle.rules.proofs.Stacking.{stacks_hold as stacks}
use Rattle.rules.proofs.laws.stacks_hold.Goals as goal

pub returns : goal.returns
returns c = record { stacks = stacks }
