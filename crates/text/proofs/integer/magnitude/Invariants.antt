use Rattle.std.proofs.Common.{◌≡◌, ◌<◌, true, drop}
use Rattle.std.specs.List.{list_all}
use Rattle.text.specs.Integers.{digit_byte, decimal}
use Rattle.text.proofs.integer.magnitude.Given as goal

abbrev pub invariant-loop-d : goal.invariant-loop-d
invariant-loop-d l = (l.n < 4294967296) × (list_all digit_byte (drop l.d-index l.digits) ≡ true) × (decimal l.n (drop l.d-index l.digits) ≡ decimal 0 l.digits)
