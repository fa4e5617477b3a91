use Rattle.rules.proofs.PausingLaws.{pausing_changes_nothing}
use Rattle.rules.proofs.laws.pausing_changes_nothing.Goals as goal

pub returns : goal.returns
returns c = record { pausing = pausing_changes_nothing }
