-- How many parts a list has, and the reserved word that it begins with, by its tokens.
use Rattle.std.specs.Prelude.{◌≡◌, ℕ, ◌+◌, ◌-◌, min, cond, List, ◌∷◌, [], Some, None, Option, ◌==◌, slice_index_or}
use Rattle.text.specs.Tokens.{Lexed, done, fault, also, lexed_from}
use Rattle.text.specs.declared.keyword.Keyword.{Keyword}
use Rattle.text.specs.declared.token.TokenKind.TheVariants as kind
use Rattle.grammar.specs.Forms.{kind_head}
use Rattle.forms.specs.declared.counting.OpenList.{OpenList}
use Rattle.forms.specs.declared.part_count.PartCount.{PartCount}
use Rattle.forms.specs.declared.survey.Survey.{Survey}

-- a token that is no closing bracket begins a part of the list, unless a bracket is open inside the list
abbrev pub here : ℕ → ℕ
here depth = cond (depth == 0) 1 0

-- the parts of a list that are still to come, up to its closing bracket, with so many brackets open inside it
abbrev pub counted : ℕ → Lexed → ℕ
counted d done = 0
counted d (fault e i) = 0
counted d (also t rest) = elim t.kind [
  | kind.Open shape ↦ here d + counted (d + 1) rest
  | kind.Close shape ↦ cond (d == 0) 0 (counted (d - 1) rest)
  | kind.Symbol ↦ here d + counted d rest
  | kind.Integer z ↦ here d + counted d rest
  | kind.Keyword k ↦ here d + counted d rest
  | kind.Name ↦ here d + counted d rest
]

-- the number of parts of the list whose parts begin here; seven stands for more
abbrev pub parts_of : Lexed → ℕ
parts_of l = min 7 (counted 0 l)

-- the reserved word that comes next, if one does
abbrev pub head_word : Lexed → Option Keyword
head_word done = None
head_word (fault e i) = None
head_word (also t rest) = kind_head t.kind

abbrev pub surveyed : Lexed → Survey
surveyed l = record { parts = parts_of l; head = head_word l }

-- the number of parts that a table's entry tells, if it tells one
abbrev pub told : PartCount → Option ℕ
told c = cond (c.code == 0) None (Some (c.code - 1))

-- A table has, for each place where the parts of a list begin, their number or none.
abbrev pub Known : List ℕ → List (Option ℕ) → Type 0
Known text counts = (place parts : ℕ) → slice_index_or counts place None ≡ Some parts → parts ≡ parts_of (lexed_from text place)

-- one part more of the newest of the open lists
abbrev pub with_part : OpenList → OpenList
with_part e = record { inside = e.inside; parts = min 7 (e.parts + 1) }

abbrev pub added : List OpenList → List OpenList
added [] = []
added (e ∷ es) = with_part e ∷ es
