use Rattle.symbols.proofs.Passing.{Passing}
use Rattle.symbols.proofs.numbering.number_each.Given as goal

abbrev pub invariant-loop-node : goal.invariant-loop-node
invariant-loop-node l = Passing l.text l.initial.nodes l.node-index l.index l.nodes
