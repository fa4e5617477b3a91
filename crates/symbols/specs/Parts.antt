-- A literal is a word: the place of its first quote, and how many bytes stand between its quotes. These bytes, and the bucket that they lie in.
use Rattle.std.specs.Prelude.{ℕ, ◌+◌, ◌%◌, List, take, drop}
use Rattle.layout.specs.declared.word.Word.{Word}
use Rattle.names.specs.Parts.{sum_of}

-- the bytes between the quotes
abbrev pub quoted : List ℕ → Word → List ℕ
quoted text w = take w.size (drop (w.place + 1) text)

abbrev pub bucket_of : List ℕ → ℕ
bucket_of bytes = sum_of bytes % 4096
