-- What the printed bytes tell.
use Rattle.std.specs.Prelude.{◌≡◌, ℕ, suc, ◌+◌, ◌-◌, ◌*◌, ◌<◌, true, cond, ◌||◌, ◌⊎◌, List, [], ◌∷◌, length, ℤ, pos, negsuc, ◌==◌, ◌≢◌, slice_index_or}
use Rattle.std.specs.Str.{all_ascii_digits}
use Rattle.basis.specs.Printing.{unescaped}

-- the number that digits write after the digits of n
abbrev pub read_on : ℕ → List ℕ → ℕ
read_on n [] = n
read_on n (d ∷ s) = read_on (n * 10 + (d - 48)) s

-- digits that read as n, at least one and no needless 0 in front
pub record Digits (n : ℕ) (s : List ℕ) : Type 0 where
  pub some : 0 < length s
  pub digits : all_ascii_digits s ≡ true
  pub short : slice_index_or s 0 0 ≡ 48 → length s ≡ 1
  pub reads : read_on 0 s ≡ n

-- bytes that read as an int: 45 is the byte of -
abbrev pub Spells : ℤ → List ℕ → Type 0
Spells (pos n) s = Digits n s
Spells (negsuc n) s = (ds : List ℕ) × (s ≡ 45 ∷ ds) × Digits (suc n) ds

-- How a literal spells a text, between its quotes: a quote and a backslash behind a backslash, every other byte by itself.
pub data Literal : List ℕ → List ℕ → Type 0 where
  none : Literal [] []
  plain : {b : ℕ} {s t : List ℕ} → (b ≢ 39) → (b ≢ 92) → Literal s t → Literal (b ∷ s) (b ∷ t)
  escape : {c : ℕ} {s t : List ℕ} → (c ≡ 39) ⊎ (c ≡ 92) → Literal s t → Literal (92 ∷ c ∷ s) (c ∷ t)

-- a text with a backslash before each quote and each backslash
abbrev pub escaped : List ℕ → List ℕ
escaped [] = []
escaped (b ∷ s) = cond (b == 39 || b == 92) (92 ∷ b ∷ escaped s) (b ∷ escaped s)

-- A literal spells one text, its bytes unescaped, and a text is spelt in one way, so that symbols differ exactly as their texts do.
pub record Unescapes (body text : List ℕ) : Type 0 where
  pub there : unescaped body ≡ text
  pub back : escaped text ≡ body
