use Rattle.std.proofs.Common.{◌≡◌, ap, ◌∙◌, arith}
use Rattle.cells.specs.Lent.{meant}
use Rattle.cells.specs.Meaning.{count_live}
use Rattle.cells.proofs.LentLaws.{none_live}
use Rattle.marked.specs.Marks.{marked_cell}
use Rattle.marked.proofs.store.MarkedStore.new.Goals as goal

pub invariant_of-result : goal.invariant_of-result
invariant_of-result c =
    let freed = c.free_slots-capacity.ensures in
    let none : count_live (meant marked_cell c.free_slots-capacity.new.slots) ≡ 0 = ap count_live freed.empty ∙ none_live _ in
    record {
      sized = omega (arith, freed.count, freed.size);
      counted = search none;
      inside = omega arith;
    }

-- The check finds this alone. It is written so that a slot past those in use is missed here, and not at a limit of the search.
pub returns-clause-past : goal.returns-clause-past
returns-clause-past c = let past = c.free_slots-capacity.ensures.past in cc
