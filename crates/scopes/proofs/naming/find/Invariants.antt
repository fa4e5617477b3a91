use Rattle.std.proofs.Common.{◌≡◌, ℕ, ◌<◌, ◌≤◌, false}
use Rattle.std.specs.Str.{bytes_eq}
use Rattle.scopes.specs.Locals.{name_in}
use Rattle.scopes.proofs.naming.find.Given as goal

abbrev pub invariant-names : goal.invariant-names
invariant-names l = (j : ℕ) → l.k ≤ j → j < l.depth → bytes_eq l.name (name_in l.text l.locals j) ≡ false
