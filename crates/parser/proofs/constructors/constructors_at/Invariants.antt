use Rattle.std.proofs.Common.{◌-◌, ◌≤◌, length}
use Rattle.parser.proofs.ConstructorLaws.{CarriesMarks}
use Rattle.parser.proofs.constructors.constructors_at.Given as goal

abbrev pub invariant-parts : goal.invariant-parts
invariant-parts l =
    (l.initial.at.place ≤ l.at.place)
    × (l.initial.at.types ≤ l.at.types)
    × (l.at.types ≤ 512)
    × (l.at.constructors ≤ 256)
    × CarriesMarks l.source.text.now l.datatype l.initial.at l.initial.types l.initial.table l.at l.types l.table

abbrev pub decreases-parts : goal.decreases-parts
decreases-parts l = length l.source.text.now - l.at.place
