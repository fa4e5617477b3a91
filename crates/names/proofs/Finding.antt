-- The walk along a chain: what is known of the numbers behind it. `part` has what stands at each number, `bucket` the bucket of that.
use Rattle.std.proofs.Common.{◌≡◌, ℕ, ◌<◌, ◌≤◌, ◌⊎◌, List, get_or, Some, None, Option, inl, inr, sym, ap, ◌∙◌, arith}
use Rattle.std.proofs.lemmas.Bool.{cases_eq, cases_lt}
use Rattle.layout.specs.Tabling.{unused_word}
use Rattle.names.specs.Indexing.{last_in}
use Rattle.names.specs.Parts.{part_of}
use Rattle.names.specs.declared.index.Index.{Index}
use Rattle.names.proofs.Chains.{is_last, none_last}

abbrev pub name_at : List ℕ → Index → ℕ → List ℕ
name_at text index k = part_of text (get_or index.names k unused_word)

-- from a number on none of so many is this one
abbrev pub Others : (ℕ → List ℕ) → ℕ → List ℕ → ℕ → Type 0
Others part count x below = (k : ℕ) → below ≤ k → k < count → part k ≡ x → ⊥

module _ (part : ℕ → List ℕ) (bucket : List ℕ → ℕ) (count : ℕ) (x : List ℕ) where
  -- the chain's next one is another
  pub missed : (below k : ℕ) → last_in (λ j. bucket (part j)) (bucket x) below ≡ Some k → (part k ≡ x → ⊥) → Others part count x below → Others part count x k
  missed below k e miss others j high low same = go (cases_eq j k) (cases_lt j below)
    where
      go : (j ≡ k) ⊎ (j ≡ k → ⊥) → (j < below) ⊎ (below ≤ j) → ⊥
      go (inl i) b = miss (ap part (sym i) ∙ same)
      go (inr n) (inl b) = (is_last _ _ below k e).latest j (omega arith) b (ap bucket same)
      go (inr n) (inr b) = others j b low same

  -- the chain has ended
  pub ended : (below : ℕ) → last_in (λ j. bucket (part j)) (bucket x) below ≡ None → Others part count x below → Others part count x 0
  ended below e others j high low same = go (cases_lt j below)
    where
      go : (j < below) ⊎ (below ≤ j) → ⊥
      go (inl b) = none_last _ _ below e j b (ap bucket same)
      go (inr b) = others j b low same

  -- the chain goes on
  pub next : (links : List (Option ℕ)) → ((k : ℕ) → k < count → get_or links k None ≡ last_in (λ j. bucket (part j)) (bucket (part k)) k) → (below k : ℕ) → last_in (λ j. bucket (part j)) (bucket x) below ≡ Some k → below ≤ count
      → get_or links k None ≡ last_in (λ j. bucket (part j)) (bucket x) k
  next links chained below k e low =
      let l = is_last (λ j. bucket (part j)) (bucket x) below k e in
      let b : k < below = l.below in
      chained k (omega arith) ∙ ap (λ h. last_in (λ j. bucket (part j)) h k) l.here
