use Rattle.std.proofs.Common.{◌≡◌, ℕ, map, take, string_bytes}
use Rattle.explain.proofs.rows.row.Given as goal

abbrev pub invariant-loop-b : goal.invariant-loop-b
invariant-loop-b g l = (f : ℕ → ℕ) → ((b r : ℕ) → goal.F-post g l.column b r → r ≡ f b) → string_bytes l.row ≡ map f (take l.b-index l.bytes)
