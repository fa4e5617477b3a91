use Rattle.rules.proofs.Fullness.{short_of_entries}
use Rattle.rules.proofs.laws.too_few_entries_exactly.Goals as goal

pub returns : goal.returns
returns c = record { entries = short_of_entries }
