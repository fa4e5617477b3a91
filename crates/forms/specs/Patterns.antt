-- Patterns, by the place of their first byte and the place behind them.
use Rattle.std.specs.Prelude.{◌≡◌, ℕ, ◌<◌, ◌≤◌, Bool, true, false, List, length, Ok, Err, Result}
use Rattle.text.specs.Tokens.{Lexed, lexed_from}
use Rattle.text.specs.declared.bracket.Bracket.{Bracket}
use Rattle.text.specs.declared.keyword.Keyword.TheVariants as keyword
use Rattle.text.specs.declared.refusal.Refused.{Refused}
use Rattle.text.specs.declared.token.TokenKind.{TokenKind}
use Rattle.text.specs.declared.token.TokenKind.TheVariants as kind
use Rattle.layout.specs.Encoding.{pattern_place}
use Rattle.grammar.specs.Forms.{is_key}
use Rattle.grammar.specs.Reading.{Tally, Outcome, refused, made}
use Rattle.forms.specs.Rows.{closed_by}
use Rattle.grammar.specs.Sexps.{Sexps, AllAtoms}
use Rattle.grammar.specs.Trees.{Pattern}
use Rattle.forms.specs.declared.patterns.PatternAt.{PatternAt}

abbrev pub wildcard_kind : TokenKind → Bool
wildcard_kind (kind.Keyword k) = is_key k keyword.Wildcard
wildcard_kind (kind.Open _) = false
wildcard_kind (kind.Close _) = false
wildcard_kind kind.Symbol = false
wildcard_kind (kind.Integer _) = false
wildcard_kind kind.Name = false

-- what can stand for one field
abbrev pub part_kind : TokenKind → Bool
part_kind (kind.Keyword k) = is_key k keyword.Wildcard
part_kind (kind.Open _) = false
part_kind (kind.Close _) = false
part_kind kind.Symbol = false
part_kind (kind.Integer _) = false
part_kind kind.Name = true

abbrev pub GoesParts : List ℕ → ℕ → Result ℕ Refused → Type 0
GoesParts text place (Ok after) = (place < after) × (after ≤ length text)
GoesParts text place (Err x) = Unit {0}

abbrev pub GoesPattern : List ℕ → ℕ → Result PatternAt Refused → Type 0
GoesPattern text place (Ok at) = (place < at.after) × (at.after ≤ length text) × (at.place ≤ at.after)
GoesPattern text place (Err x) = Unit {0}

-- the code's answer, the place behind a part, for what the rules make of it
abbrev pub Passed : {A : Type 0} → List ℕ → Lexed → Outcome A → Result ℕ Refused → Type 0
Passed text rest (refused x) r = r ≡ Err x
Passed text rest (made a n) (Ok after) = lexed_from text after ≡ rest
Passed text rest (made a n) (Err x) = ⊥

-- the same for every list of parts that stands at a place, up to its bracket
abbrev pub PassedAll : {A : Type 0} → (Sexps → Tally → Outcome A) → List ℕ → ℕ → Result ℕ Refused → Type 0
PassedAll read text place r = (ss : Sexps) (shape : Bracket) (q : ℕ) (rest : Lexed) (n : Tally) → lexed_from text place ≡ closed_by ss shape q rest → AllAtoms ss → Passed text rest (read ss n) r

abbrev pub Patterned : List ℕ → Lexed → Outcome Pattern → Result PatternAt Refused → Type 0
Patterned text rest (refused x) r = r ≡ Err x
Patterned text rest (made x n) (Ok at) = (at.place ≡ pattern_place x) × (lexed_from text at.after ≡ rest)
Patterned text rest (made x n) (Err y) = ⊥
