use Rattle.std.proofs.Common.{◌≡◌, ◌<◌, drop}
use Rattle.names.specs.Parts.{summed}
use Rattle.names.proofs.parts.sum.Given as goal

abbrev pub invariant-loop-b : goal.invariant-loop-b
invariant-loop-b l = (l.sum < 4294967296) × (summed l.sum (drop l.b-index l.bytes) ≡ summed 0 l.bytes)
