use Rattle.std.proofs.Common.{sym}
use Rattle.marked.specs.Marks.{marked_cell}
use Rattle.cells.proofs.LentLaws.{meant_length}
use Rattle.marked.proofs.store.MarkedStoreCellStore.capacity.Goals as goal

pub returns : goal.returns
returns c = let s = c.args.self.now in search (sym (meant_length marked_cell s.slots.now s.capacity s.sized))
