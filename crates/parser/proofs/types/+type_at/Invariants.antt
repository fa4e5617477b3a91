use Rattle.std.proofs.Common.{◌+◌, ◌-◌, ◌*◌, ◌≤◌, length}
use Rattle.parser.proofs.TypeLaws.{Carries}
use Rattle.parser.proofs.types.+type_at.Given as goal

abbrev pub decreases-function_type : goal.decreases-function_type
decreases-function_type l = 4 * l.depth + 3

abbrev pub decreases-listed_types : goal.decreases-listed_types
decreases-listed_types l = 4 * l.depth + 1

abbrev pub decreases-type_at : goal.decreases-type_at
decreases-type_at l = 4 * l.depth + 0

abbrev pub decreases-type_list : goal.decreases-type_list
decreases-type_list l = 4 * l.depth + 2

abbrev pub invariant-listed_types-parts : goal.invariant-listed_types-parts
invariant-listed_types-parts l =
    (l.initial.at.place ≤ l.at.place)
    × (l.at.used ≤ 512)
    × (l.count ≤ 6)
    × Carries l.source.text.now l.depth l.initial.at l.initial.types l.at l.types l.count
    × (l.initial.at.used ≤ l.at.used)

abbrev pub decreases-listed_types-parts : goal.decreases-listed_types-parts
decreases-listed_types-parts l = length l.source.text.now - l.at.place
