use Rattle.std.proofs.Common.{◌≡◌, ℕ, ◌<◌, ◌≤◌, ◌||◌, false, length, get_or}
use Rattle.scopes.proofs.marking.join.Given as goal

abbrev pub invariant-places : goal.invariant-places
invariant-places l = record {
  long : length l.marks ≡ 64;
  done : (k : ℕ) → k < l.i → get_or l.marks k false ≡ (get_or l.fn.marks k false || get_or l.others k false);
  left : (k : ℕ) → l.i ≤ k → get_or l.marks k false ≡ get_or l.fn.marks k false;
}
