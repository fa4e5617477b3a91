-- Laws of a store's meaning: how the count of live cells moves with one cell, and what a full store is.
use Rattle.std.proofs.Common.{◌≡◌, ℕ, zero, suc, ◌+◌, ◌<◌, ◌≤◌, true, [], ◌∷◌, length, set, is_some, Some, None, Option, refl, arith}
use Rattle.std.proofs.lemmas.Bool.{false≢true}
use Rattle.cells.specs.declared.records.CellRecord.{CellRecord}
use Rattle.cells.specs.Meaning.{Cells, at, is_live, one, count_live}

pub one_le : (c : Option CellRecord) → one c ≤ 1
one_le None = omega arith
one_le (Some r) = omega arith

one_live : (c : Option CellRecord) → one c ≡ 1 → is_some c ≡ true
one_live None h = absurd (omega arith)
one_live (Some r) h = refl

-- a live cell counts one
pub live_one : (c : Option CellRecord) → is_some c ≡ true → one c ≡ 1
live_one None e = absurd (false≢true e)
live_one (Some r) e = refl

-- a change of one cell moves the count by what the cell counts
pub count_set : (cs : Cells) (i : ℕ) (c : Option CellRecord) → i < length cs → count_live (set cs i c) + one (at cs i) ≡ count_live cs + one c
count_set [] i c h = omega arith
count_set (x ∷ xs) zero c h = omega arith
count_set (x ∷ xs) (suc i) c h = let t : i < length xs = omega arith in omega (arith, count_set xs i c t)

pub count_le : (cs : Cells) → count_live cs ≤ length cs
count_le [] = omega arith
count_le (x ∷ xs) = omega (arith, one_le x, count_le xs)

-- as many live cells as cells: each is live
pub count_full : (cs : Cells) (k : ℕ) → count_live cs ≡ length cs → k < length cs → is_live cs k ≡ true
count_full [] k e h = absurd (omega arith)
count_full (x ∷ xs) zero e h = one_live x (omega (arith, one_le x, count_le xs))
count_full (x ∷ xs) (suc k) e h =
    let f : count_live xs ≡ length xs = omega (arith, one_le x, count_le xs) in
    count_full xs k f (omega arith)

-- and the reverse
pub full_count : (cs : Cells) → ((k : ℕ) → k < length cs → is_live cs k ≡ true) → count_live cs ≡ length cs
full_count [] all = refl
full_count (x ∷ xs) all =
    let rest : count_live xs ≡ length xs = full_count xs (λ k h. all (suc k) (omega arith)) in
    omega (arith, live_one x (all 0 (omega arith)))

-- a live cell lies below the capacity
pub live_within : (cs : Cells) (i : ℕ) → is_live cs i ≡ true → i < length cs
live_within [] i e = absurd (false≢true e)
live_within (x ∷ xs) zero e = omega arith
live_within (x ∷ xs) (suc i) e = omega (arith, live_within xs i e)

-- where a cell is live, one counts
pub live_some : (cs : Cells) (i : ℕ) → is_live cs i ≡ true → 1 ≤ count_live cs
live_some cs i e = omega (arith, count_set cs i None (live_within cs i e), live_one (at cs i) e)
