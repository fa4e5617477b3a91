use Rattle.std.proofs.Common.{◌≡◌, ◌+◌, ◌-◌, ◌≤◌, min, length}
use Rattle.text.specs.Tokens.{lexed_from}
use Rattle.forms.specs.Surveys.{counted, parts_of}
use Rattle.forms.proofs.survey.count_parts.Given as goal

abbrev pub invariant-tokens : goal.invariant-tokens
invariant-tokens l =
    (l.depth ≤ l.at)
    × (l.parts ≤ 7)
    × (parts_of (lexed_from l.text l.place) ≡ min 7 (l.parts + counted l.depth (lexed_from l.text l.at)))

abbrev pub decreases-tokens : goal.decreases-tokens
decreases-tokens l = length l.text - l.at
