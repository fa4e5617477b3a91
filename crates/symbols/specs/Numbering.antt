-- The symbols of a node list, numbered by their literals.
use Rattle.std.specs.Prelude.{ℕ, ◌-◌, min, List, [], ◌∷◌, ◌++◌, length, Some, None, Option}
use Rattle.text.specs.Tokens.{Lexed, done, fault, also, lexed_from}
use Rattle.layout.specs.Encoding.{node}
use Rattle.layout.specs.Literals.{Literal, place_of_first}
use Rattle.layout.specs.Words.{word_at}
use Rattle.layout.specs.declared.node.Node.{Node}
use Rattle.layout.specs.declared.node.NodeForm.{NodeForm}
use Rattle.layout.specs.declared.node.NodeForm.TheVariants as form
use Rattle.layout.specs.declared.word.Word.{Word}
use Rattle.symbols.specs.Parts.{quoted}

-- how many bytes the token has that stands next
abbrev pub token_size : Lexed → ℕ
token_size done = 0
token_size (fault e i) = 0
token_size (also t rest) = length t.bytes

-- the literal at a place: there are at most 255 bytes between its quotes
abbrev pub literal_word : List ℕ → ℕ → Word
literal_word text p = word_at p (min 255 (token_size (lexed_from text p) - 2))

abbrev pub literal_at : List ℕ → ℕ → Literal
literal_at text p = record { place = p; bytes = quoted text (literal_word text p) }

-- the place of a symbol
abbrev pub symbol_place : NodeForm → Option ℕ
symbol_place (form.Symbol p) = Some p
symbol_place form.Unused = None
symbol_place (form.Integer z) = None
symbol_place (form.Boolean b) = None
symbol_place form.Unit = None
symbol_place (form.Name n) = None
symbol_place form.If = None
symbol_place form.Begin = None
symbol_place form.Let = None
symbol_place form.Case = None
symbol_place (form.Dup w) = None
symbol_place form.Apply = None
symbol_place (form.Binding w) = None
symbol_place (form.Branch q) = None

-- Each symbol's place becomes that of the first literal with the same bytes, among those before it and itself.
abbrev pub numbered : List ℕ → List Literal → List Node → List Node
numbered text seen [] = []
numbered text seen (n ∷ ns) = elim (symbol_place n.form) [
  | Some p ↦ node (form.Symbol (place_of_first (seen ++ literal_at text p ∷ []) (literal_at text p).bytes)) n.place n.past ∷ numbered text (seen ++ literal_at text p ∷ []) ns
  | None ↦ n ∷ numbered text seen ns
]
