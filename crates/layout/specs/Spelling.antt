-- What the text says at a place: a name, a symbol literal, a pattern.
use Rattle.std.specs.Prelude.{◌≡◌, ℕ, ◌+◌, ◌≤◌, List, length, take, drop}
use Rattle.grammar.specs.Grammar.{PatternOf}
use Rattle.grammar.specs.Reading.{unquoted}
use Rattle.grammar.specs.Sexps.{Sexp, Atoms}
use Rattle.grammar.specs.Streams.{stream}
use Rattle.grammar.specs.Trees.{Ident, Pattern}
use Rattle.text.specs.Tokens.{lexeme, Lexed, also, lexed_from}
use Rattle.text.specs.declared.token.TokenKind.TheVariants.{Symbol}
use Rattle.layout.specs.declared.word.Word.{Word}

-- a part of the text is this name
pub record Spells (text : List ℕ) (w : Word) (x : Ident) : Type 0 where
  pub place_is : w.place ≡ x.place
  pub size_is : w.size ≡ length x.bytes
  pub bytes_are : take w.size (drop w.place text) ≡ x.bytes
  pub within : w.place + w.size ≤ length text

-- a symbol literal stands at a place, with these bytes between its quotes
pub record Quotes (text : List ℕ) (place : ℕ) (bytes : List ℕ) : Type 0 where
  pub token : List ℕ
  pub rest : Lexed
  pub follows : lexed_from text place ≡ also (lexeme Symbol place token) rest
  pub between : bytes ≡ unquoted token

-- a pattern stands at a place: the tokens from there on are those of a form that the grammar derives as the pattern, and others
pub record Shows (text : List ℕ) (place : ℕ) (x : Pattern) : Type 0 where
  pub form : Sexp
  pub rest : Lexed
  pub follows : lexed_from text place ≡ stream form rest
  pub atoms : Atoms form
  pub derived : PatternOf form x
