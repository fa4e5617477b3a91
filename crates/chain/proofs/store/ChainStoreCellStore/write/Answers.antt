use Rattle.chain.proofs.ChainSteps.{written}
use Rattle.chain.proofs.store.ChainStoreCellStore.write.Goals as goal

pub invariant_of-self : goal.invariant_of-self
invariant_of-self c =
    let s = c.args.self.now in
    let w = written s.slots.now s.capacity s.sized s.free s.live c.args.cell _ c.write_slot.result c.write_slot.new.slots s.counted s.linked c.write_slot.ensures.means c.write_slot.ensures.put in
    record { sized = w.0; counted = w.1; linked = w.2 }

-- The check finds this alone, too. It is written so that a wrong record is refused here: the check's own search ends at a limit.
pub returns-clause-means : goal.returns-clause-means
returns-clause-means c = search c.write_slot.ensures.means
