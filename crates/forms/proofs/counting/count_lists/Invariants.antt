use Rattle.std.proofs.Common.{◌-◌, length, map}
use Rattle.stack.specs.Items.{tops}
use Rattle.text.specs.Tokens.{lexed_from}
use Rattle.forms.specs.Surveys.{Known, told}
use Rattle.forms.proofs.CountingLaws.{Pending}
use Rattle.forms.proofs.counting.count_lists.Given as goal

abbrev pub invariant-tokens : goal.invariant-tokens
invariant-tokens l = Known l.text (map told l.counts) × Pending l.text (lexed_from l.text l.at) 0 (tops l.opened)

abbrev pub decreases-tokens : goal.decreases-tokens
decreases-tokens l = length l.text - l.at
