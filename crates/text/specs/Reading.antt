-- What reading one token from a place answers, and where it leaves the reader.
use Rattle.std.specs.Prelude.{◌≡◌, ℕ, ◌+◌, ◌<◌, ◌≤◌, List, length, take, drop, Some, None, Ok, Err, Option, Result}
use Rattle.text.specs.Grammar.{Spelt, Whole, Unblank}
use Rattle.text.specs.Tokens.{done, fault, also, lexeme_of, lexed_from}
use Rattle.text.specs.declared.refusal.Refused.{Refused}
use Rattle.text.specs.declared.token.Token.{Token}

-- a token read from a place, with the place behind it
pub record Next (text : List ℕ) (place : ℕ) (t : Token) (after : ℕ) : Type 0 where
  -- it is the next token of the whole text, and reading on from its end gives the one after it
  pub follows : lexed_from text place ≡ also (lexeme_of t) (lexed_from text after)
  pub forward : (place ≤ t.place) × (t.place < after)
  pub within : after ≤ length text
  -- it is a part of the text
  pub ends : after ≡ t.place + length t.bytes.now
  pub part : t.bytes.now ≡ take (length t.bytes.now) (drop t.place text)
  -- it is spelt as its kind is, and goes as far as it can
  pub spelt : Spelt t.kind t.bytes.now
  pub whole : Whole t.kind (drop after text)
  -- it neither begins nor ends in a blank
  pub edges : Unblank t.bytes.now

abbrev pub Reads : List ℕ → ℕ → Result (Option Token) Refused → ℕ → Type 0
Reads text place (Ok (Some t)) after = Next text place t after
Reads text place (Ok None) after = (lexed_from text place ≡ done) × (after ≡ length text)
Reads text place (Err r) after = (lexed_from text place ≡ fault r.refusal r.place) × (after ≡ place)
