-- The tokens of a text, in order.
use Rattle.std.specs.Prelude.{ℕ, zero, suc, ◌+◌, ◌-◌, false, List, [], ◌∷◌, take, drop, Some, None, Ok, Err}
use Rattle.text.specs.Bytes.{separator_run}
use Rattle.text.specs.Fronts.{text_front}
use Rattle.text.specs.declared.refusal.Refusal.{Refusal}
use Rattle.text.specs.declared.token.Token.{Token}
use Rattle.text.specs.declared.token.TokenKind.{TokenKind}

-- what a token says, apart from the memory that it lies in
pub record Lexeme : Type 0 where
  pub kind : TokenKind
  pub place : ℕ
  pub bytes : List ℕ

abbrev pub lexeme : TokenKind → ℕ → List ℕ → Lexeme
lexeme k i w = record { kind = k; place = i; bytes = w }

abbrev pub lexeme_of : Token → Lexeme
lexeme_of t = lexeme t.kind t.place t.bytes.now

-- the tokens of a text, up to its end or to the first one that is refused
pub data Lexed : Type 0 where
  done : Lexed
  fault : Refusal → ℕ → Lexed
  also : Lexeme → Lexed → Lexed

-- The tokens of a text whose first byte has the place i. The first number says how many of its bytes belong to the token
-- or the separators that began before.
abbrev pub lexed : ℕ → ℕ → List ℕ → Lexed
lexed n i [] = done
lexed (suc n) i (b ∷ s) = lexed n (i + 1) s
lexed zero i (b ∷ s) = elim (text_front (b ∷ s)) [
  | Ok None ↦ lexed (separator_run false (b ∷ s) - 1) (i + 1) s
  | Err e ↦ fault e i
  | Ok (Some f) ↦ also (lexeme f.kind i (take f.size (b ∷ s))) (lexed (f.size - 1) (i + 1) s)
]

-- the tokens of a text from a place on
abbrev pub lexed_from : List ℕ → ℕ → Lexed
lexed_from text place = lexed 0 place (drop place text)
