use Rattle.std.proofs.Common.{◌≡◌, take, min, sum_by}
use Rattle.cases.specs.declared.case.Advance.{Advance}
use Rattle.expected.proofs.whole.steps_of.Given as goal

abbrev pub invariant-loop-advance : goal.invariant-loop-advance
invariant-loop-advance l = l.steps ≡ min (sum_by (λ (a : Advance). a.steps) (take l.advance-index l.advances)) 18446744073709551615
