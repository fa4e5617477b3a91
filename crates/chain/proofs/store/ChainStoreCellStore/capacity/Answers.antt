use Rattle.std.proofs.Common.{sym}
use Rattle.chain.specs.Chains.{chain_cell}
use Rattle.cells.proofs.LentLaws.{meant_length}
use Rattle.chain.proofs.store.ChainStoreCellStore.capacity.Goals as goal

pub returns : goal.returns
returns c = let s = c.args.self.now in search (sym (meant_length chain_cell s.slots.now s.capacity s.sized))
