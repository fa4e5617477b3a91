-- Taking something off the front of what is left of a file.
use Rattle.std.specs.Prelude.{◌≡◌, ℕ, ◌≤◌, List, length, Result, MatchResult}
use Rattle.cases.specs.declared.malformed.Malformed.{Malformed}

-- What was left is what is taken, as it is written, and behind it what is left now. Where it is not there, the place told is within what was left.
abbrev pub Takes : {T : Type 0} → Result T Malformed → List ℕ → List ℕ → (T → List ℕ → List ℕ) → Type 0
Takes r before left written = MatchResult r (λ t. before ≡ written t left) (λ e. e.left ≤ length before)
