-- The entries of a function's body by their names alone, the newest first, and what a name means among them.
use Rattle.std.specs.Prelude.{ℕ, ◌+◌, cond, List, [], ◌∷◌, Some, None, Option}
use Rattle.std.specs.Str.{bytes_eq}
use Rattle.grammar.specs.Trees.{PatternPart, bound, skipped, Pattern, wildcard, constructor}
use Rattle.program.specs.Programs.{Name, Program, Global, global_of}

-- none for an argument handed to a waiting application
abbrev pub Scope : Type 0
Scope = List (Option Name)

abbrev pub further : Option ℕ → Option ℕ
further None = None
further (Some d) = Some (1 + d)

-- how far below the newest entry the one with a name lies
abbrev pub distance : Name → Scope → Option ℕ
distance w [] = None
distance w (Some x ∷ G) = cond (bytes_eq w x) (Some 0) (further (distance w G))
distance w (None ∷ G) = further (distance w G)

-- what a name means: an entry by its distance, or what it means in the whole script
pub data Resolved : Type 0 where
  entry : ℕ → Resolved
  global : Global → Resolved

abbrev pub resolved_by : Program → Name → Option ℕ → Resolved
resolved_by P w (Some d) = entry d
resolved_by P w None = global (global_of P w)

abbrev pub resolve : Program → Scope → Name → Resolved
resolve P G w = resolved_by P w (distance w G)

-- the names of a pattern or of a parameter list, bound from the left
abbrev pub bind_scope : List PatternPart → Scope → Scope
bind_scope [] G = G
bind_scope (bound x ∷ xs) G = bind_scope xs (Some x.bytes ∷ G)
bind_scope (skipped p ∷ xs) G = bind_scope xs G

-- the fields that a pattern binds, as bits, the first field's the lowest
abbrev pub bits : List PatternPart → ℕ
bits [] = 0
bits (bound x ∷ xs) = 1 + (bits xs + bits xs)
bits (skipped p ∷ xs) = bits xs + bits xs

-- how many names a pattern binds
abbrev pub names_inside : List PatternPart → ℕ
names_inside [] = 0
names_inside (bound x ∷ xs) = 1 + names_inside xs
names_inside (skipped p ∷ xs) = names_inside xs

abbrev pub pattern_names : Pattern → ℕ
pattern_names (wildcard p) = 0
pattern_names (constructor p c xs) = names_inside xs
