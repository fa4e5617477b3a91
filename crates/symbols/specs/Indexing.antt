-- What an index of literals holds.
use Rattle.std.specs.Prelude.{◌≡◌, ℕ, ◌+◌, ◌<◌, ◌≤◌, cond, List, [], ◌∷◌, Some, None, Option, slice_index, slice_index_or}
use Rattle.std.specs.Str.{bytes_eq}
use Rattle.layout.specs.Literals.{Literal}
use Rattle.layout.specs.Tabling.{unused_word}
use Rattle.layout.specs.declared.word.Word.{Word}
use Rattle.names.specs.Indexing.{last_in}
use Rattle.names.specs.Parts.{sum_of}
use Rattle.symbols.specs.Parts.{quoted, bucket_of}
use Rattle.symbols.specs.declared.index.Index.{Index}

-- the literal with a number, and its bytes
abbrev pub word_in : Index → ℕ → Word
word_in index k = slice_index_or index.literals k unused_word

abbrev pub bytes_in : List ℕ → Index → ℕ → List ℕ
bytes_in text index k = quoted text (word_in index k)

abbrev pub bucket_in : List ℕ → Index → ℕ → ℕ
bucket_in text index k = bucket_of (bytes_in text index k)

-- The chains of an index hold its literals, each in its own bucket.
pub record IsIndex (text : List ℕ) (index : Index) : Type 0 where
  pub few : index.count ≤ 4096
  pub sums : (k : ℕ) → k < index.count → slice_index index.sums k ≡ sum_of (bytes_in text index k)
  pub heads : (h : ℕ) → h < 4096 → slice_index_or index.heads h None ≡ last_in (bucket_in text index) h index.count
  pub links : (k : ℕ) → k < index.count → slice_index_or index.links k None ≡ last_in (bucket_in text index) (bucket_in text index k) k

-- a literal with these bytes, or that there is none
abbrev pub Finds : List ℕ → Index → List ℕ → Option Word → Type 0
Finds text index bytes (Some w) = (k : ℕ) × (k < index.count) × (bytes_in text index k ≡ bytes) × (w ≡ word_in index k)
Finds text index bytes None = (k : ℕ) → k < index.count → bytes_in text index k ≡ bytes → ⊥

-- the index with a literal more
pub record Adds (text : List ℕ) (index new : Index) (w : Word) : Type 0 where
  pub count : new.count ≡ index.count + 1
  pub added : word_in new index.count ≡ w
  pub others : (k : ℕ) → k < index.count → word_in new k ≡ word_in index k

-- the place of the first of these literals that has these bytes, if one has
abbrev pub first_of : List Literal → List ℕ → Option ℕ
first_of [] w = None
first_of (l ∷ ls) w = cond (bytes_eq l.bytes w) (Some l.place) (first_of ls w)

-- An index holds these literals: of those with the same bytes only the first one.
pub record Holds (text : List ℕ) (index : Index) (seen : List Literal) : Type 0 where
  pub first : (k : ℕ) → k < index.count → first_of seen (bytes_in text index k) ≡ Some (word_in index k).place
  pub all : (w : List ℕ) (p : ℕ) → first_of seen w ≡ Some p → (k : ℕ) × (k < index.count) × (bytes_in text index k ≡ w)
