use Rattle.std.proofs.Common.{◌≡◌, ◌≤◌, length}
use Rattle.cases.specs.Written.{AdvancesHaveNames, advances_then}
use Rattle.cases.proofs.front.Front.advances.Given as goal

abbrev pub invariant-loop-advances : goal.invariant-loop-advances
invariant-loop-advances l = record {
  front : l.fn.self.left.now ≡ advances_then l.advances.items l.self.left.now;
  names : AdvancesHaveNames l.advances.items;
  within : length l.self.left.now ≤ length l.fn.self.left.now;
}

abbrev pub decreases-loop-advances : goal.decreases-loop-advances
decreases-loop-advances l = length l.self.left.now
