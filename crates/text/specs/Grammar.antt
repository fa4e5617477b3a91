-- The lexical grammar, in the language's own words: which bytes separate, how a token is spelt, and how a text is cut.
use Rattle.std.specs.Prelude.{◌≡◌, ℕ, ◌+◌, ◌<◌, ◌≤◌, Bool, true, false, ◌⊎◌, List, [], ◌∷◌, ◌++◌, length, Some, None, Ok, Err, Result, ◌≢◌}
use Rattle.text.specs.Integers.{integer_value}
use Rattle.text.specs.Keywords.{keyword_spelt}
use Rattle.text.specs.Tokens.{Lexeme}
use Rattle.text.specs.declared.bracket.Bracket.{Bracket}
use Rattle.text.specs.declared.bracket.Bracket.TheVariants.{Round, Square}
use Rattle.text.specs.declared.refusal.Refused.{Refused}
use Rattle.text.specs.declared.token.TokenKind.{TokenKind}
use Rattle.text.specs.declared.token.TokenKind.TheVariants.{Open, Close, Symbol, Integer, Keyword, Name}

-- space, tab, carriage return, newline
abbrev pub Blank : ℕ → Type 0
Blank b = (b ≡ 32) ⊎ (b ≡ 9) ⊎ (b ≡ 13) ⊎ (b ≡ 10)

-- ( ) [ ]
abbrev pub IsBracket : ℕ → Type 0
IsBracket b = (b ≡ 40) ⊎ (b ≡ 41) ⊎ (b ≡ 91) ⊎ (b ≡ 93)

-- a blank, a bracket, ; or ' ends a word, and every other byte can stand in one
abbrev pub Ending : ℕ → Type 0
Ending b = Blank b ⊎ IsBracket b ⊎ (b ≡ 59) ⊎ (b ≡ 39)

-- Bytes that only separate: blanks, and comments, each from ; through the next newline or to the text's end. The Bools say
-- whether a comment is open before them and after them.
pub data Separator : Bool → Bool → List ℕ → Type 0 where
  nothing : {o : Bool} → Separator o o []
  blank : {o : Bool} {b : ℕ} {s : List ℕ} → Blank b → Separator false o s → Separator false o (b ∷ s)
  comment : {o : Bool} {b : ℕ} {s : List ℕ} → b ≡ 59 → Separator true o s → Separator false o (b ∷ s)
  commented : {o : Bool} {b : ℕ} {s : List ℕ} → (b ≢ 10) → Separator true o s → Separator true o (b ∷ s)
  newline : {o : Bool} {b : ℕ} {s : List ℕ} → b ≡ 10 → Separator false o s → Separator true o (b ∷ s)

-- a word: one byte or more, none of which ends a word
pub data Word : List ℕ → Type 0 where
  one : {b : ℕ} → (Ending b → ⊥) → Word (b ∷ [])
  more : {b : ℕ} {s : List ℕ} → (Ending b → ⊥) → Word s → Word (b ∷ s)

-- what stands between the quotes of a symbol: a quote or a backslash only behind a backslash, and that before nothing else
pub data Quoted : List ℕ → Type 0 where
  none : Quoted []
  plain : {b : ℕ} {s : List ℕ} → (b ≢ 39) → (b ≢ 92) → Quoted s → Quoted (b ∷ s)
  escape : {b c : ℕ} {s : List ℕ} → b ≡ 92 → (c ≡ 39) ⊎ (c ≡ 92) → Quoted s → Quoted (b ∷ c ∷ s)

-- how a token of each kind is spelt
abbrev pub Spelt : TokenKind → List ℕ → Type 0
Spelt (Open Round) w = w ≡ 40 ∷ []
Spelt (Close Round) w = w ≡ 41 ∷ []
Spelt (Open Square) w = w ≡ 91 ∷ []
Spelt (Close Square) w = w ≡ 93 ∷ []
Spelt Symbol w = (s : List ℕ) × (w ≡ 39 ∷ (s ++ 39 ∷ [])) × Quoted s × (length s ≤ 255)
Spelt (Integer n) w = Word w × (integer_value w ≡ Ok (Some n))
Spelt (Keyword k) w = Word w × (integer_value w ≡ Ok None) × (keyword_spelt w ≡ Some k)
Spelt Name w = Word w × (integer_value w ≡ Ok None) × (keyword_spelt w ≡ None) × (length w ≤ 63)

-- neither its first nor its last byte is a blank
abbrev pub LastUnblank : ℕ → List ℕ → Type 0
LastUnblank b [] = Blank b → ⊥
LastUnblank b (c ∷ s) = LastUnblank c s

abbrev pub Unblank : List ℕ → Type 0
Unblank [] = ⊥
Unblank (b ∷ s) = (Blank b → ⊥) × LastUnblank b s

-- a text that begins with no byte of a word
abbrev pub EndsWord : List ℕ → Type 0
EndsWord [] = Unit {0}
EndsWord (b ∷ s) = Ending b

-- a word goes on as far as it can; other tokens end by themselves
abbrev pub Whole : TokenKind → List ℕ → Type 0
Whole (Open _) rest = Unit {0}
Whole (Close _) rest = Unit {0}
Whole Symbol rest = Unit {0}
Whole (Integer _) rest = EndsWord rest
Whole (Keyword _) rest = EndsWord rest
Whole Name rest = EndsWord rest

-- A text whose first byte has the place i is cut into tokens, each behind separators or none, and the separators at its end:
-- in order they are the text, so no byte is lost, and none is in two tokens.
pub data Cut : ℕ → List ℕ → List Lexeme → Type 0 where
  last : {i : ℕ} {s : List ℕ} (o : Bool) → Separator false o s → Cut i s []
  next : {i : ℕ} {s : List ℕ} {ts : List Lexeme} (gap rest : List ℕ) (t : Lexeme)
      → Separator false false gap → Spelt t.kind t.bytes → Whole t.kind rest
      → s ≡ gap ++ (t.bytes ++ rest) → t.place ≡ i + length gap
      → Cut (t.place + length t.bytes) rest ts → Cut i s (t ∷ ts)

-- neither an opening nor a closing bracket
abbrev pub NoBracket : TokenKind → Type 0
NoBracket (Open _) = ⊥
NoBracket (Close _) = ⊥
NoBracket Symbol = Unit {0}
NoBracket (Integer _) = Unit {0}
NoBracket (Keyword _) = Unit {0}
NoBracket Name = Unit {0}

-- With these brackets open, the newest first, the tokens close them all in pairs of one shape, at most 64 at a time.
pub data Paired : List Bracket → List Lexeme → Type 0 where
  closed : Paired [] []
  opens : {opened : List Bracket} {ts : List Lexeme} (t : Lexeme) (shape : Bracket) → t.kind ≡ Open shape → length opened < 64
      → Paired (shape ∷ opened) ts → Paired opened (t ∷ ts)
  closes : {opened : List Bracket} {ts : List Lexeme} (t : Lexeme) (shape : Bracket) → t.kind ≡ Close shape
      → Paired opened ts → Paired (shape ∷ opened) (t ∷ ts)
  other : {opened : List Bracket} {ts : List Lexeme} (t : Lexeme) → NoBracket t.kind → Paired opened ts → Paired opened (t ∷ ts)

-- the tokens of a lawful text
pub record Tokens (text : List ℕ) (ts : List Lexeme) : Type 0 where
  pub short : length text ≤ 65535
  pub cut : Cut 0 text ts
  pub paired : Paired [] ts

-- A count of tokens is that of the only tokens of the text, and a refused text has none.
abbrev pub Lawful : List ℕ → Result ℕ Refused → Type 0
Lawful text (Ok n) = (ts : List Lexeme) × Tokens text ts × (length ts ≡ n) × ((us : List Lexeme) → Tokens text us → us ≡ ts)
Lawful text (Err r) = (ts : List Lexeme) → Tokens text ts → ⊥
