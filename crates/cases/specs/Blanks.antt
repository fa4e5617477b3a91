-- Empty lines between two cases mean nothing.
use Rattle.std.specs.Prelude.{ℕ, true, false, List, [], ◌∷◌, ◌==◌}

abbrev pub without_newlines : List ℕ → List ℕ
without_newlines [] = []
without_newlines (b ∷ s) = elim (b == 10) [ true ↦ without_newlines s | false ↦ b ∷ s ]
