-- Names as parts of the text.
use Rattle.std.specs.Prelude.{ℕ, length}
use Rattle.grammar.specs.Trees.{Ident}
use Rattle.layout.specs.declared.word.Word.{Word}

abbrev pub word_at : ℕ → ℕ → Word
word_at p n = record { place = p; size = n }

-- the part that a name is
abbrev pub word : Ident → Word
word x = word_at x.place (length x.bytes)
