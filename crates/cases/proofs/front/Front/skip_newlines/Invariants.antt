use Rattle.std.proofs.Common.{◌≡◌, ◌≤◌, length}
use Rattle.cases.specs.Blanks.{without_newlines}
use Rattle.cases.proofs.front.Front.skip_newlines.Given as goal

abbrev pub invariant-loop-self : goal.invariant-loop-self
invariant-loop-self l = record {
  same : without_newlines l.self.left.now ≡ without_newlines l.fn.self.left.now;
  within : length l.self.left.now ≤ length l.fn.self.left.now;
}

abbrev pub decreases-loop-self : goal.decreases-loop-self
decreases-loop-self l = length l.self.left.now
