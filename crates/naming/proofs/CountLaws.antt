-- The parts of a pattern, counted.
use Rattle.std.proofs.Common.{◌≡◌, ℕ, ◌+◌, List, [], ◌∷◌, length, Some, None, arith}
use Rattle.grammar.specs.Trees.{PatternPart}
use Rattle.patterns.specs.Parts.{PartsAt, IsPart}
use Rattle.patterns.specs.declared.part.Part.{Part}

-- some parts were counted, and others are left from a place on
pub record Counting (text : List ℕ) (at count : ℕ) (xs : List PatternPart) : Type 0 where
  pub left : List PatternPart
  pub stand : PartsAt text at left
  pub all : length xs ≡ count + length left

module _ (text : List ℕ) (count : ℕ) (all : List PatternPart) where
  pub counting_part : (xs : List PatternPart) (part : Part) → length all ≡ count + length xs → IsPart text xs (Some part) → Counting text part.after (count + 1) all
  counting_part [] part e at = absurd at
  counting_part (x ∷ xs) part e at = record { left = xs; stand = at.1; all = omega arith }

  pub counting_end : (xs : List PatternPart) → length all ≡ count + length xs → IsPart text xs None → count ≡ length all
  counting_end [] e at = omega arith
  counting_end (x ∷ xs) e at = absurd at
