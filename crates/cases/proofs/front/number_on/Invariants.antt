use Rattle.std.proofs.Common.{◌≡◌, ◌+◌, ◌<◌, ◌∷◌, take, decimal}
use Rattle.cases.proofs.front.number_on.Given as goal

abbrev pub invariant-loop-d : goal.invariant-loop-d
invariant-loop-d l = record {
  positive : 0 < l.n;
  writes : decimal l.n ≡ (48 + l.first) ∷ take l.d-index l.more;
}
