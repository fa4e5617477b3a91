-- Two rows and their parts look the same if the shapes of all pairs of rows do.
use Rattle.std.proofs.Common.{◌≡◌, ℕ, ◌+◌, ◌-◌, ◌<◌, Bool, true, false, MatchBool, List, length, get_or, sym, ap, ◌∙◌, subst, arith}
use Rattle.std.specs.List.{range_with_len, zip, AllWithin, HoldsAt}
use Rattle.std.proofs.lemmas.List.FromFn.{length-range_with_len, get_or-range_with_len}
use Rattle.std.proofs.lemmas.Slice.Zip.{length-zip, get_or-zip}
use Rattle.type_rows.specs.Rows.{row_at, shape_at, LookSame}
use Rattle.type_rows.specs.declared.row.Row.{Row}

-- the numbers of the rows that are compared
abbrev pub row_pairs : ℕ → ℕ → ℕ → List (ℕ × ℕ)
row_pairs x y n = zip (range_with_len x n) (range_with_len y n)

pair_count : (x y n : ℕ) → length (row_pairs x y n) ≡ n
pair_count x y n =
    let z = length-zip (range_with_len x n) (range_with_len y n) in
    let a = length-range_with_len x n in
    let b = length-range_with_len y n in
    omega (arith, z, a, b)

pair_at : (x y n d : ℕ) → d < n → get_or (row_pairs x y n) d (0, 0) ≡ (x + d, y + d)
pair_at x y n d low =
    let a : d < length (range_with_len x n) = subst (λ m. d < m) (sym (length-range_with_len x n)) low in
    let b : d < length (range_with_len y n) = subst (λ m. d < m) (sym (length-range_with_len y n)) low in
    get_or-zip (range_with_len x n) (range_with_len y n) d (0, 0) a b
    ∙ ap (λ i. (i, get_or (range_with_len y n) d 0)) (get_or-range_with_len x n d 0 low) ∙ ap (λ i. (x + d, i)) (get_or-range_with_len y n d 0 low)

module _ (rows : List Row) where
  abbrev pub Alike : ℕ × ℕ → Type 0
  Alike p = shape_at rows p.0 ≡ shape_at rows p.1

  abbrev pub Unlike : ℕ × ℕ → Type 0
  Unlike p = Alike p → ⊥

  pub looks : (x y n : ℕ) → (row_at rows x).past - x ≡ n → (row_at rows y).past - y ≡ n → (r : Bool)
      → MatchBool r (AllWithin Alike (row_pairs x y n) 0 (length (row_pairs x y n))) ((k : ℕ) × (k < length (row_pairs x y n)) × HoldsAt Unlike (row_pairs x y n) k)
      → MatchBool r (LookSame rows x y) (LookSame rows x y → ⊥)
  looks x y n sx sy true all = record {
    sizes = sx ∙ sym sy;
    alike = λ d low.
        let few : d < n = subst (λ m. d < m) sx low in
        subst Alike (pair_at x y n d few) (all d (0, 0) (omega arith) (subst (λ m. d < m) (sym (pair_count x y n)) few));
  }
  looks x y n sx sy false some = λ same.
      let few : some.0 < n = subst (λ m. some.0 < m) (pair_count x y n) some.1 in
      subst Unlike (pair_at x y n some.0 few) (some.2 (0, 0)) (same.alike some.0 (subst (λ m. some.0 < m) (sym sx) few))
