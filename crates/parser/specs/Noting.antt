-- The table of functions as the code keeps it, with names as parts of the text.
use Rattle.std.specs.Prelude.{ℕ, zero, suc, Bool, cond, ◌&&◌, List, [], ◌∷◌, ◌++◌, length, take, drop, Some, None}
use Rattle.std.specs.Str.{bytes_eq}
use Rattle.layout.specs.Tabling.{is_none, placed}
use Rattle.layout.specs.declared.function.Function.{Function}
use Rattle.layout.specs.declared.function.Functions.{Functions}
use Rattle.layout.specs.declared.function.Half.{Half}
use Rattle.layout.specs.declared.function.Half.TheVariants.{Annotation, Define}
use Rattle.layout.specs.declared.word.Word.{Word}
use Rattle.names.specs.Parts.{part_of}

abbrev pub fits_word : List ℕ → Half → Word → Function → Bool
fits_word text Annotation w f = is_none f.annotation && bytes_eq (part_of text f.name) (part_of text w)
fits_word text Define w f = is_none f.define && bytes_eq (part_of text f.name) (part_of text w)

abbrev pub given_word : Half → ℕ → Function → Function
given_word Annotation k f = record { name = f.name; annotation = Some k; define = f.define }
given_word Define k f = record { name = f.name; annotation = f.annotation; define = Some k }

abbrev pub bare_word : Word → Function
bare_word w = record { name = w; annotation = None; define = None }

-- the number of the first that passes a test, or the length where none does
abbrev pub position : {E : Type 0} → (E → Bool) → List E → ℕ
position test [] = 0
position test (x ∷ xs) = cond (test x) zero (suc (position test xs))

-- the used entries with this half of a function placed, and the others as they were
abbrev pub noted_used : List ℕ → Half → Word → ℕ → Functions → List Function
noted_used text half w k f = placed (fits_word text half w) (given_word half k) (bare_word w) (take f.count f.entries)

abbrev pub noted_in : List ℕ → Half → Word → ℕ → Functions → Functions
noted_in text half w k f = record { count = length (noted_used text half w k f); entries = noted_used text half w k f ++ drop (length (noted_used text half w k f)) f.entries }
