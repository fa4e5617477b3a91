-- What an index holds, and what finding a name says.
use Rattle.std.specs.Prelude.{◌≡◌, ℕ, zero, suc, ◌<◌, ◌≤◌, cond, List, map, take, Some, None, Option, ◌==◌, slice_index_or}
use Rattle.std.specs.List.{slice_get}
use Rattle.layout.specs.Tabling.{unused_word}
use Rattle.names.specs.Parts.{part_of, bucket_of}
use Rattle.names.specs.declared.index.Index.{Index}

-- the names in the order in which they were added
abbrev pub names_in : List ℕ → Index → List (List ℕ)
names_in text index = map (part_of text) (take index.count index.names)

-- the bucket of the name with a number
abbrev pub bucket_at : List ℕ → Index → ℕ → ℕ
bucket_at text index k = bucket_of (part_of text (slice_index_or index.names k unused_word))

-- the last of the first n that lies in a bucket
abbrev pub last_in : (ℕ → ℕ) → ℕ → ℕ → Option ℕ
last_in bucket h zero = None
last_in bucket h (suc n) = cond (bucket n == h) (Some n) (last_in bucket h n)

-- The chains of an index hold its names, each in its own bucket.
pub record IsIndex (text : List ℕ) (index : Index) : Type 0 where
  pub few : index.count ≤ 512
  pub heads : (h : ℕ) → h < 256 → slice_index_or index.heads h None ≡ last_in (bucket_at text index) h index.count
  pub links : (k : ℕ) → k < index.count → slice_index_or index.links k None ≡ last_in (bucket_at text index) (bucket_at text index k) k

-- A name's number in a list, or none where it is not in it.
abbrev pub Finds : List ℕ → List (List ℕ) → Option ℕ → Type 0
Finds name names (Some k) = slice_get names k ≡ Some name
Finds name names None = (k : ℕ) → slice_get names k ≡ Some name → ⊥
