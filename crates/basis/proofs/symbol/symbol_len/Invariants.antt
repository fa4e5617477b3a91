use Rattle.std.proofs.Common.{◌≡◌, ◌+◌, ◌≤◌, length, drop}
use Rattle.basis.specs.Printing.{unescaped_after, unescaped}
use Rattle.basis.proofs.symbol.symbol_len.Given as goal

abbrev pub invariant-loop-b : goal.invariant-loop-b
invariant-loop-b l = (l.count + length (unescaped_after l.escaped (drop l.b-index l.body)) ≡ length (unescaped l.body)) × (l.count ≤ l.b-index)
