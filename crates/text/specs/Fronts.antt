-- What stands at the front of a text: a token with its kind and length, a refusal, or nothing (the end, or a separator).
use Rattle.std.specs.Prelude.{ℕ, ◌+◌, ◌≤◌, cond, List, [], ◌∷◌, take, Some, None, Ok, Err, Option, Result, nat_le}
use Rattle.text.specs.Bytes.{class_of, word_run, closing}
use Rattle.text.specs.Words.{kind_of_word}
use Rattle.text.specs.declared.bytes.Class.{Class}
use Rattle.text.specs.declared.bytes.Class.TheVariants.{Blank, Newline, Comment, Open, Close, Quote, Word}
use Rattle.text.specs.declared.front.Front.{Front}
use Rattle.text.specs.declared.refusal.Refusal.{Refusal}
use Rattle.text.specs.declared.refusal.Refusal.TheVariants as refusal
use Rattle.text.specs.declared.token.TokenKind.{TokenKind}
use Rattle.text.specs.declared.token.TokenKind.TheVariants as kind

-- a token of this kind and this many bytes
abbrev pub front : TokenKind → ℕ → Front
front k n = record { kind = k; size = n }

abbrev pub token : TokenKind → ℕ → Result (Option Front) Refusal
token k n = Ok (Some (front k n))

abbrev pub judged : ℕ → Result TokenKind Refusal → Result Front Refusal
judged n (Ok k) = Ok (front k n)
judged n (Err e) = Err e

-- the word that a text begins with
abbrev pub front_word : List ℕ → Result Front Refusal
front_word s = judged (word_run s) (kind_of_word (take (word_run s) s))

-- a symbol with so many bytes between its quotes
abbrev pub closed_symbol : Option ℕ → Result Front Refusal
closed_symbol None = Err refusal.Symbol
closed_symbol (Some n) = cond (nat_le n 255) (Ok (front kind.Symbol (n + 2))) (Err refusal.Limit)

-- the symbol of a text that begins after its first quote
abbrev pub front_symbol : List ℕ → Result Front Refusal
front_symbol s = closed_symbol (closing s)

-- a token begins here, or a refusal
abbrev pub begun : Result Front Refusal → Result (Option Front) Refusal
begun (Ok f) = Ok (Some f)
begun (Err e) = Err e

-- by the class of the first byte, from the text and what follows that byte
abbrev pub front_from : Class → List ℕ → List ℕ → Result (Option Front) Refusal
front_from (Open shape) text rest = token (kind.Open shape) 1
front_from (Close shape) text rest = token (kind.Close shape) 1
front_from Quote text rest = begun (front_symbol rest)
front_from Word text rest = begun (front_word text)
front_from Blank text rest = Ok None
front_from Newline text rest = Ok None
front_from Comment text rest = Ok None

abbrev pub text_front : List ℕ → Result (Option Front) Refusal
text_front [] = Ok None
text_front (b ∷ s) = front_from (class_of b) (b ∷ s) s

-- a token has at most so many bytes
abbrev pub Within : Result (Option Front) Refusal → ℕ → Type 0
Within (Ok None) n = Unit {0}
Within (Err e) n = Unit {0}
Within (Ok (Some f)) n = f.size ≤ n
