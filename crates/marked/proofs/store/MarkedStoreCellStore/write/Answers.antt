use Rattle.marked.proofs.MarkLaws.{written}
use Rattle.marked.proofs.store.MarkedStoreCellStore.write.Goals as goal

pub invariant_of-self : goal.invariant_of-self
invariant_of-self c =
    let s = c.args.self.now in
    let w = written s.slots.now s.capacity s.sized s.live c.args.cell _ c.write_slot.result c.write_slot.new.slots s.counted c.write_slot.ensures.means c.write_slot.ensures.put in
    record { sized = w.0; counted = w.1; inside = s.inside }

-- The check finds this alone, too. It is written so that a wrong record is refused here: the check's own search ends at a limit.
pub returns-clause-means : goal.returns-clause-means
returns-clause-means c = search c.write_slot.ensures.means
