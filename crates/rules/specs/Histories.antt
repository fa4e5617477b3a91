-- A run's history: one advance after another.
use Rattle.std.specs.Prelude.{ℕ, List, [], ◌∷◌}
use Rattle.program.specs.Programs.{Program}
use Rattle.rules.specs.Runs.{Run, Answer, advance}
use Rattle.rules.specs.Steps.{Sizes}

-- An advance asked for: at most so many steps, and a slice of so many bytes.
pub record Call : Type 0 where
  pub count : ℕ
  pub room : ℕ

module _ (P : Program) (Z : Sizes) (allowance : ℕ) where
  abbrev pub answer : Run → Call → Answer
  answer r c = advance P Z allowance c.count c.room r

  -- the answers to a list of advances, each made where the one before it left the run
  abbrev pub answers : Run → List Call → List Answer
  answers r [] = []
  answers r (c ∷ cs) = answer r c ∷ answers (answer r c).run cs

  -- the run that a list of advances leaves
  abbrev pub reached : Run → List Call → Run
  reached r [] = r
  reached r (c ∷ cs) = reached (answer r c).run cs
