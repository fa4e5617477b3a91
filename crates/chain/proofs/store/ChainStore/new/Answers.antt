use Rattle.std.proofs.Common.{◌≡◌, min, length, ap, ◌∙◌, arith}
use Rattle.cells.specs.Lent.{front, meant}
use Rattle.cells.specs.Meaning.{count_live}
use Rattle.cells.proofs.LentLaws.{front_length, none_live}
use Rattle.chain.specs.Chains.{chain_cell}
use Rattle.chain.proofs.ChainSteps.{fresh_linked}
use Rattle.chain.proofs.store.ChainStore.new.Goals as goal

pub invariant_of-result : goal.invariant_of-result
invariant_of-result c =
    let s = c.free_slots-capacity.new.slots in
    let freed = c.free_slots-capacity.ensures in
    let sized : c.free_slots-capacity.result ≡ min (length c.free_slots-capacity.new.slots) 65535 = omega (arith, freed.count, freed.size) in
    let none : count_live (meant chain_cell s) ≡ 0 = ap count_live freed.empty ∙ none_live _ in
    record {
      sized = sized;
      counted = search none;
      linked = fresh_linked (front s) c.free_slots-capacity.result (front_length s c.free_slots-capacity.result sized) freed.freed;
    }

-- The check finds this alone. It is written so that a slot past those in use is missed here, and not at a limit of the search.
pub returns-clause-past : goal.returns-clause-past
returns-clause-past c = let past = c.free_slots-capacity.ensures.past in cc
