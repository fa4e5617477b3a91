-- What stands next in a text, by the tokens of the whole text.
use Rattle.std.specs.Prelude.{◌≡◌, ℕ, ◌+◌, ◌<◌, ◌≤◌, max, List, length, Some, None, Ok, Err, Option, Result, ◌≢◌}
use Rattle.text.specs.Grammar.{NoBracket, Spelt}
use Rattle.text.specs.Scans.{refused_at}
use Rattle.text.specs.declared.refusal.Refusal.TheVariants as refusal
use Rattle.text.specs.declared.refusal.Refused.{Refused}
use Rattle.grammar.specs.Reading.{Outcome, refused, made}
use Rattle.grammar.specs.Trees.{Ident}
use Rattle.forms.specs.declared.names.NameAt.{NameAt}
use Rattle.text.specs.Tokens.{Lexeme, lexeme, Lexed, done, fault, also, lexed_from}
use Rattle.text.specs.declared.bracket.Bracket.{Bracket}
use Rattle.text.specs.declared.token.TokenKind.{TokenKind}
use Rattle.text.specs.declared.token.TokenKind.TheVariants.{Open, Close, Symbol, Integer, Keyword, Name}
use Rattle.forms.specs.declared.sight.Look.{Look}
use Rattle.forms.specs.declared.sight.Opened.{Opened}
use Rattle.forms.specs.declared.sight.Look.TheVariants as look

-- a token of this kind and these bytes at p, behind it the place after, in a text read from a place
pub record Seen (text : List ℕ) (place : ℕ) (k : TokenKind) (w : List ℕ) (p after : ℕ) : Type 0 where
  pub follows : lexed_from text place ≡ also (lexeme k p w) (lexed_from text after)
  pub spelt : Spelt k w
  pub size : after ≡ p + length w
  pub forward : place < after
  pub within : after ≤ length text

abbrev pub Sees : List ℕ → ℕ → Look → Type 0
Sees text place look.End = (t : Lexeme) (rest : Lexed) → lexed_from text place ≢ also t rest
Sees text place (look.Open p after) = (shape : Bracket) × ((w : List ℕ) × Seen text place (Open shape) w p after)
Sees text place (look.Close p after) = (shape : Bracket) × ((w : List ℕ) × Seen text place (Close shape) w p after)
Sees text place (look.Atom k p after) = (w : List ℕ) × Seen text place k w p after × NoBracket k

-- no opening bracket
abbrev pub NotOpen : TokenKind → Type 0
NotOpen (Open _) = ⊥
NotOpen (Close _) = Unit {0}
NotOpen Symbol = Unit {0}
NotOpen (Integer _) = Unit {0}
NotOpen (Keyword _) = Unit {0}
NotOpen Name = Unit {0}

-- the refusal where no list begins: at what stands next, or at the place where nothing does
abbrev pub NoList : Lexed → ℕ → Refused → Type 0
NoList done place x = x ≡ refused_at refusal.Form place
NoList (fault e i) place x = x ≡ refused_at refusal.Form place
NoList (also t rest) place x = NotOpen t.kind × (x ≡ refused_at refusal.Form t.place)

-- the opening bracket that comes next, or the refusal
abbrev pub Opens : List ℕ → ℕ → Result Opened Refused → Type 0
Opens text place (Ok o) = (shape : Bracket) × ((w : List ℕ) × Seen text place (Open shape) w o.place o.inside)
Opens text place (Err x) = NoList (lexed_from text place) place x

-- no closing bracket comes next
abbrev pub NotClose : TokenKind → Type 0
NotClose (Close _) = ⊥
NotClose (Open _) = Unit {0}
NotClose Symbol = Unit {0}
NotClose (Integer _) = Unit {0}
NotClose (Keyword _) = Unit {0}
NotClose Name = Unit {0}

abbrev pub NotClosing : Lexed → Type 0
NotClosing done = Unit {0}
NotClosing (fault e i) = Unit {0}
NotClosing (also t rest) = NotClose t.kind

-- whether a closing bracket comes next, and the place behind it
abbrev pub Closes : List ℕ → ℕ → Option ℕ → Type 0
Closes text place (Some after) = (shape : Bracket) × ((w : List ℕ) × ((p : ℕ) × Seen text place (Close shape) w p after))
Closes text place None = NotClosing (lexed_from text place)

-- the same, or the refusal where something else comes next
abbrev pub Ends : List ℕ → ℕ → Result ℕ Refused → Type 0
Ends text place (Ok after) = Closes text place (Some after)
Ends text place (Err x) = Closes text place None × (x ≡ refused_at refusal.Form place)

-- a name lies within the text, and is short
abbrev pub GoesName : List ℕ → ℕ → Result NameAt Refused → Type 0
GoesName text place (Ok name) = (place < name.after) × (name.after ≤ length text) × (name.place ≤ name.after) × (name.after ≤ name.place + 63)
GoesName text place (Err x) = Unit {0}

-- the code's answer, for what the rules make of the same part
abbrev pub Named : List ℕ → Lexed → Outcome Ident → Result NameAt Refused → Type 0
Named text rest (refused x) r = r ≡ Err x
Named text rest (made i n) (Ok name) = (name.place ≡ i.place) × (name.after ≡ i.place + length i.bytes) × (lexed_from text name.after ≡ rest)
Named text rest (made i n) (Err x) = ⊥

-- the place behind the token that stands next
abbrev pub Behind : List ℕ → ℕ → ℕ → Type 0
Behind text place r = (place ≤ r) × (r ≤ max place (length text)) × ((t : Lexeme) (rest : Lexed) → lexed_from text place ≡ also t rest → lexed_from text r ≡ rest)
