-- Names as parts of a text, the sums of bytes, and the bucket that a name lies in.
use Rattle.std.specs.Prelude.{ℕ, ◌+◌, ◌*◌, ◌%◌, List, [], ◌∷◌, take, drop}
use Rattle.layout.specs.declared.word.Word.{Word}

abbrev pub part_of : List ℕ → Word → List ℕ
part_of text w = take w.size (drop w.place text)

-- on from a number, by each byte
abbrev pub summed : ℕ → List ℕ → ℕ
summed h [] = h
summed h (b ∷ bs) = summed ((h * 31 + b) % 4294967296) bs

abbrev pub sum_of : List ℕ → ℕ
sum_of bytes = summed 0 bytes

abbrev pub bucket_of : List ℕ → ℕ
bucket_of name = sum_of name % 256
