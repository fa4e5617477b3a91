use Rattle.std.proofs.Common.{◌+◌, ◌-◌, ◌≤◌, length}
use Rattle.parser.proofs.NameLaws.{CarriesNames}
use Rattle.parser.proofs.parameters.parameters.Given as goal

abbrev pub invariant-parts : goal.invariant-parts
invariant-parts l =
    (l.initial.at.place ≤ l.at.place)
    × (l.initial.at.used ≤ l.at.used)
    × (l.at.used ≤ l.initial.at.used + 6)
    × CarriesNames l.source.text.now l.initial.at l.initial.words l.at l.words

abbrev pub decreases-parts : goal.decreases-parts
decreases-parts l = length l.source.text.now - l.at.place
