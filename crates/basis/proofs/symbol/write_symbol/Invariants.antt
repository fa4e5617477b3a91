use Rattle.basis.proofs.Symbols.{Unescaping}
use Rattle.basis.proofs.symbol.write_symbol.Given as goal

abbrev pub invariant-loop-b : goal.invariant-loop-b
invariant-loop-b l = Unescaping l.body l.size l.initial.out l.escaped l.b-index l.at l.out
