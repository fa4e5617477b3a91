-- What is said of a refusal.
use Rattle.std.specs.Prelude.{ℕ, List, ◌++◌, map, codes, decimal}
use Rattle.explain.specs.Lines.{line_of, column_of, around_line, lead_of}
use Rattle.explain.specs.Shown.{byte_shown, byte_under}

-- line and column of the place, the line around it, and a mark under the place
abbrev pub pointed : List ℕ → ℕ → List ℕ
pointed text place =
    codes "line " ++ (decimal (line_of text place) ++ (codes ", column " ++ (decimal (column_of text place) ++ (codes "\n"
    ++ (map byte_shown (around_line text place) ++ (codes "\n"
    ++ ((map byte_under (lead_of text place) ++ codes "^") ++ codes "\n")))))))

-- number and place, where the place is, and the advice
abbrev pub explained : List ℕ → ℕ → ℕ → List ℕ → List ℕ
explained text number place advice =
    codes "refused " ++ (decimal number ++ (codes " at " ++ (decimal place ++ (codes "\n"
    ++ (pointed text place ++ (advice ++ codes "\n"))))))

-- the same with the place of what was there first
abbrev pub explained_with_first : List ℕ → ℕ → ℕ → List ℕ → ℕ → List ℕ
explained_with_first text number place advice first =
    explained text number place advice ++ (codes "first at " ++ (decimal first ++ (codes "\n" ++ pointed text first)))
