use Rattle.typing.proofs.RuleLaws.{rules as rules-hold, coding as coding-holds}
use Rattle.typing.proofs.laws.rules_stand.Goals as goal

pub returns : goal.returns
returns c = record { rules = rules-hold; coding = coding-holds }
