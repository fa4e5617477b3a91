-- What the parts of a pattern are, read off the tokens from a place on.
use Rattle.std.specs.Prelude.{◌≡◌, ℕ, ◌<◌, ◌≤◌, List, [], ◌∷◌, length, Some, None, Option}
use Rattle.forms.specs.Rows.{closed_by}
use Rattle.grammar.specs.Grammar.{NameOf, PartsOf}
use Rattle.grammar.specs.Sexps.{Sexp, Sexps, cons, AllAtoms}
use Rattle.grammar.specs.Trees.{Ident, PatternPart, bound, skipped, Pattern, wildcard, constructor}
use Rattle.layout.specs.Spelling.{Spells}
use Rattle.layout.specs.declared.word.Word.{Word}
use Rattle.patterns.specs.declared.head.Head.{Head}
use Rattle.patterns.specs.declared.part.Part.{Part}
use Rattle.text.specs.Tokens.{Lexed, lexed_from}
use Rattle.text.specs.declared.bracket.Bracket.{Bracket}

-- From a place on stand these parts, up to the bracket that closes the pattern.
pub record PartsAt (text : List ℕ) (place : ℕ) (xs : List PatternPart) : Type 0 where
  pub forms : Sexps
  pub shape : Bracket
  pub end : ℕ
  pub rest : Lexed
  pub follow : lexed_from text place ≡ closed_by forms shape end rest
  pub atoms : AllAtoms forms
  pub derived : PartsOf forms xs

-- From a place on stand a constructor's name and these parts.
pub record HeadAt (text : List ℕ) (place : ℕ) (c : Ident) (xs : List PatternPart) : Type 0 where
  pub first : Sexp
  pub forms : Sexps
  pub shape : Bracket
  pub end : ℕ
  pub rest : Lexed
  pub follow : lexed_from text place ≡ closed_by (cons first forms) shape end rest
  pub atoms : AllAtoms (cons first forms)
  pub name : NameOf first c
  pub derived : PartsOf forms xs

-- the code's view of a pattern
abbrev pub IsHead : List ℕ → Pattern → Option Head → Type 0
IsHead text (wildcard p) None = Unit {0}
IsHead text (wildcard p) (Some h) = ⊥
IsHead text (constructor p c xs) None = ⊥
IsHead text (constructor p c xs) (Some h) = (h.place ≡ p) × Spells text h.name c × PartsAt text h.inside xs

-- a part takes up some of what is left of the text
abbrev pub Onward : List ℕ → ℕ → Option Part → Type 0
Onward text place None = Unit {0}
Onward text place (Some part) = (place < part.after) × (part.after ≤ length text)

-- a name that is bound is this one, and a wildcard has none
abbrev pub IsName : List ℕ → PatternPart → Option Word → Type 0
IsName text (bound x) None = ⊥
IsName text (bound x) (Some w) = Spells text w x
IsName text (skipped p) None = Unit {0}
IsName text (skipped p) (Some w) = ⊥

-- the code's view of the first of these parts, and what follows it
abbrev pub IsPart : List ℕ → List PatternPart → Option Part → Type 0
IsPart text [] None = Unit {0}
IsPart text [] (Some part) = ⊥
IsPart text (x ∷ xs) None = ⊥
IsPart text (x ∷ xs) (Some part) = IsName text x part.name × PartsAt text part.after xs
