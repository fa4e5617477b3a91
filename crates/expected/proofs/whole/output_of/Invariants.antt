use Rattle.std.proofs.Common.{◌≡◌, take}
use Rattle.std.specs.List.{flat_map}
use Rattle.cases.specs.declared.case.Advance.{Advance}
use Rattle.expected.proofs.whole.output_of.Given as goal

abbrev pub invariant-loop-advance : goal.invariant-loop-advance
invariant-loop-advance l = l.output.items ≡ flat_map (λ (a : Advance). a.bytes.now) (take l.advance-index l.advances)
