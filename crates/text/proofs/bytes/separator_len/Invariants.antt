use Rattle.std.proofs.Common.{◌≡◌, ◌+◌, false, drop}
use Rattle.text.specs.Bytes.{separator_run}
use Rattle.text.proofs.bytes.separator_len.Given as goal

abbrev pub invariant-loop-n : goal.invariant-loop-n
invariant-loop-n l = l.n + separator_run l.comment (drop l.n l.s) ≡ separator_run false l.s
