-- The marked store's slots: one in which a record is put, and all of them live.
use Rattle.std.proofs.Common.{◌≡◌, ℕ, ◌+◌, ◌-◌, ◌<◌, ◌≤◌, min, List, map, length, get_or, take, drop, set, is_some, Some, Option, MatchOption, MatchResult, Result, Ok, Err, None, sym, refl, ap, ◌∙◌, ⊎_elim, arith}
use Rattle.std.proofs.lemmas.List.{length-map, length-take, length-drop, get_or-map, get_or-take, get_or-drop}
use Rattle.std.proofs.lemmas.Bool.{cases_lt}
use Rattle.std.proofs.lemmas.Option.{slice_get-get_or}
use Rattle.cells.specs.declared.records.CellRecord.{CellRecord}
use Rattle.cells.specs.declared.refusals.StoreRefusal.{StoreRefusal}
use Rattle.cells.specs.Lent.{meant}
use Rattle.cells.specs.Meaning.{count_live, TakenAt, Written}
use Rattle.cells.proofs.Calls.{written_count}
use Rattle.cells.proofs.CellLaws.{full_count}
use Rattle.cells.proofs.LentLaws.{kept_size, taken_slot}
use Rattle.marked.specs.Marks.{marked_cell, NoneFree, FreeAt}

-- a free slot found among those from a place on, or before it

found_late : (xs : List (Option CellRecord)) (next i : ℕ) → FreeAt (drop next xs) (length (drop next xs)) i → FreeAt xs (length xs) (next + i)
found_late xs next i free = (omega (arith, free.0, length-drop next xs), λ d. sym (ap marked_cell (get_or-drop next xs i d)) ∙ free.1 d)

found_early : (xs : List (Option CellRecord)) (next i : ℕ) → FreeAt (take next xs) (length (take next xs)) i → FreeAt xs (length xs) i
found_early xs next i free =
    let long = length-take next xs in
    let within : i < next = omega (arith, free.0, long) in
    (omega (arith, free.0, long), λ d. sym (ap marked_cell (get_or-take next xs i d within)) ∙ free.1 d)

found_none : (xs : List (Option CellRecord)) (next : ℕ) → NoneFree (drop next xs) 0 (length (drop next xs)) → NoneFree (take next xs) 0 (length (take next xs)) → NoneFree xs 0 (length xs)
found_none xs next late early k d from to = ⊎_elim
    (λ (b : k < next).
    let within : k < length (take next xs) = simp length-take (omega arith) in
    sym (ap (λ c. is_some (marked_cell c)) (get_or-take next xs k d b)) ∙ early k d from within)
    (λ (a : next ≤ k).
    let within : k - next < length (drop next xs) = simp length-drop (omega arith) in
    let same : next + (k - next) ≡ k = omega arith in
    ap (λ j. is_some (marked_cell (get_or xs j d))) (sym same)
    ∙ sym (ap (λ c. is_some (marked_cell c)) (get_or-drop next xs (k - next) d))
    ∙ late (k - next) d (omega arith) within)
    (cases_lt k next)

found_before : (xs : List (Option CellRecord)) (next : ℕ) (answer : Option ℕ) → NoneFree (drop next xs) 0 (length (drop next xs)) → MatchOption answer (NoneFree (take next xs) 0 (length (take next xs))) (λ i. FreeAt (take next xs) (length (take next xs)) i) → MatchOption answer (NoneFree xs 0 (length xs)) (λ i. FreeAt xs (length xs) i)
found_before xs next None late early = found_none xs next late early
found_before xs next (Some i) late early = found_early xs next i early

-- the search in the slots from a place on, its answer counted from there, and only then in those before
pub found_from : {P : Type 0} (xs : List (Option CellRecord)) (next : ℕ) (late shifted answer : Option ℕ) → MatchOption late (NoneFree (drop next xs) 0 (length (drop next xs))) (λ i. FreeAt (drop next xs) (length (drop next xs)) i) → MatchOption late (shifted ≡ None) (λ i. shifted ≡ Some (next + i)) → (P → MatchOption answer (NoneFree (take next xs) 0 (length (take next xs))) (λ i. FreeAt (take next xs) (length (take next xs)) i)) → MatchOption shifted P (λ i. answer ≡ Some i) → MatchOption answer (NoneFree xs 0 (length xs)) (λ i. FreeAt xs (length xs) i)
found_from xs next None shifted answer late told early m = found_before xs next answer late (early (rw told at m))
found_from xs next (Some i) shifted answer late told early m = rw (rw told at m) (found_late xs next i late)

-- a record put in a free slot, and slots that are all live

pub taken_mark : (xs : List (Option CellRecord)) (i : ℕ) (r : CellRecord) (ys : List (Option CellRecord)) → FreeAt xs (length xs) i → ys ≡ set xs i (Some r) → TakenAt (map marked_cell xs) r i (map marked_cell ys)
taken_mark xs i r ys free put =
    taken_slot marked_cell xs i (get_or xs i None) (Some r) r ys (slice_get-get_or xs i None free.0) (free.1 None) put refl

pub all_marked : (xs : List (Option CellRecord)) → NoneFree xs 0 (length xs) → count_live (map marked_cell xs) ≡ length xs
all_marked xs all =
    full_count (map marked_cell xs) (λ k h.
    let w : k < length xs = omega (arith, length-map xs marked_cell) in
    ap is_some (get_or-map marked_cell xs k None None w) ∙ all k None (omega arith) w)
    ∙ length-map xs marked_cell

-- a write, by its answer: as many slots in use, and as many live cells
pub written : (s : List (Option CellRecord)) (capacity : ℕ) (sized : capacity ≡ min (length s) 65535) (live i : ℕ) (r : CellRecord) (answer : Result (Unit {0}) StoreRefusal) (t : List (Option CellRecord)) → live ≡ count_live (meant marked_cell s) → Written (meant marked_cell s) i r answer (meant marked_cell t) → MatchResult answer (λ _. t ≡ set s i (Some r)) (λ _. t ≡ s) → (capacity ≡ min (length t) 65535) × (live ≡ count_live (meant marked_cell t))
written s capacity sized live i r (Ok u) t counted h put =
    (kept_size s capacity i (Some r) sized ∙ ap (λ l. min (length l) 65535) (sym put), counted ∙ sym (written_count h))
written s capacity sized live i r (Err e) t counted h put =
    (sized ∙ ap (λ l. min (length l) 65535) (sym put), counted ∙ ap count_live (sym h.same))
