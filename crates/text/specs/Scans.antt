-- What a pass over a whole text answers: its tokens, or the first refusal from the left.
use Rattle.std.specs.Prelude.{◌≡◌, ℕ, Bool, true, false, cond, List, [], ◌∷◌, length, Ok, Err, Result, nat_le, nat_lt}
use Rattle.text.specs.Tokens.{Lexeme, Lexed, done, fault, also, lexed_from}
use Rattle.text.specs.declared.bracket.Bracket.{Bracket}
use Rattle.text.specs.declared.bracket.Bracket.TheVariants.{Round, Square}
use Rattle.text.specs.declared.refusal.Refusal.{Refusal}
use Rattle.text.specs.declared.refusal.Refusal.TheVariants as refusal
use Rattle.text.specs.declared.refusal.Refused.{Refused}
use Rattle.text.specs.declared.token.TokenKind.{TokenKind}
use Rattle.text.specs.declared.token.TokenKind.TheVariants.{Open, Close, Symbol, Integer, Keyword, Name}

abbrev pub refused_at : Refusal → ℕ → Refused
refused_at e i = record { refusal = e; place = i }

abbrev pub same_shape : Bracket → Bracket → Bool
same_shape Round Round = true
same_shape Round Square = false
same_shape Square Round = false
same_shape Square Square = true

-- The brackets open after a token, the newest first: at most 64, and a closing one has the shape of the newest.
abbrev pub nesting : TokenKind → List Bracket → Result (List Bracket) Refusal
nesting (Open shape) opened = cond (nat_lt (length opened) 64) (Ok (shape ∷ opened)) (Err refusal.Limit)
nesting (Close shape) [] = Err refusal.Bracket
nesting (Close shape) (newest ∷ opened) = cond (same_shape newest shape) (Ok opened) (Err refusal.Bracket)
nesting Symbol opened = Ok opened
nesting (Integer n) opened = Ok opened
nesting (Keyword k) opened = Ok opened
nesting Name opened = Ok opened

-- one token more in front of those that a pass answers
abbrev pub precede : Lexeme → Result (List Lexeme) Refused → Result (List Lexeme) Refused
precede t (Ok ts) = Ok (t ∷ ts)
precede t (Err r) = Err r

-- at the end of a text of so many bytes no bracket is open
abbrev pub all_closed : ℕ → List Bracket → Result (List Lexeme) Refused
all_closed end [] = Ok []
all_closed end (newest ∷ opened) = Err (refused_at refusal.Bracket end)

-- The pass over the tokens of a text of so many bytes, with these brackets open.
abbrev pub balanced : ℕ → List Bracket → Lexed → Result (List Lexeme) Refused
balanced end opened done = all_closed end opened
balanced end opened (fault e i) = Err (refused_at e i)
balanced end opened (also t rest) = elim (nesting t.kind opened) [
  | Ok after ↦ precede t (balanced end after rest)
  | Err e ↦ Err (refused_at e t.place)
]

-- A text of at most 65,535 bytes: its tokens, all of them lawful, with brackets in pairs; or the first refusal from the left.
abbrev pub scan : List ℕ → Result (List Lexeme) Refused
scan text = cond (nat_le (length text) 65535) (balanced (length text) [] (lexed_from text 0)) (Err (refused_at refusal.Limit 65535))

-- how many tokens there are
abbrev pub counted : Result (List Lexeme) Refused → Result ℕ Refused
counted (Ok ts) = Ok (length ts)
counted (Err r) = Err r

-- What following one token's brackets answers, and the brackets open then.
abbrev pub Nests : Result (List Bracket) Refusal → Result (Unit {0}) Refusal → List Bracket → Type 0
Nests (Ok after) (Ok _) opened = opened ≡ after
Nests (Ok after) (Err f) opened = ⊥
Nests (Err e) (Ok _) opened = ⊥
Nests (Err e) (Err f) opened = f ≡ e
