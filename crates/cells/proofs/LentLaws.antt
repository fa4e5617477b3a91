-- A store over lent slots: which of them it uses, and what a read and a write of one slot mean.
use Rattle.std.proofs.Common.{◌≡◌, ℕ, zero, suc, ◌+◌, ◌-◌, ◌<◌, ◌≤◌, min, true, List, [], ◌∷◌, ◌++◌, map, length, get_or, take, drop, set, replicate, is_some, Some, None, Ok, Err, Option, sym, refl, ap, ◌∙◌, arith}
use Rattle.std.specs.List.{slice_get}
use Rattle.std.specs.Option.{ok_or}
use Rattle.std.proofs.lemmas.List.{length-map, length-set, length-take, length-drop, map-set, get_or-map, get_or_past, get_or-take, take_min, append-nil, nil_from_length, drop-set-lt}
use Rattle.std.proofs.Math.Seq.{take-append-add}
use Rattle.std.proofs.lemmas.Option.{slice_get_within, slice_get-get_or, get_or_from_slice_get}
use Rattle.cells.specs.declared.refusals.StoreRefusal.TheVariants.{DeadCell}
use Rattle.cells.specs.declared.records.CellRecord.{CellRecord}
use Rattle.cells.specs.Meaning.{at, is_live, count_live, record_at, Changed, TakenAt}
use Rattle.cells.proofs.CellLaws.{count_le, live_within}
use Rattle.cells.specs.Lent.{front, meant}

take_set : {X : Type 0} (n : ℕ) (s : List X) (i : ℕ) (x : X) → take n (set s i x) ≡ set (take n s) i x
take_set zero s i x = refl
take_set (suc n) [] i x = refl
take_set (suc n) (y ∷ s) zero x = refl
take_set (suc n) (y ∷ s) (suc i) x = ap (λ t. y ∷ t) (take_set n s i x)

-- the slots in use

pub front_used : {X : Type 0} (s : List X) (capacity : ℕ) → capacity ≡ min (length s) 65535 → take capacity s ≡ front s
front_used s capacity sized = let e : capacity ≡ min 65535 (length s) = omega arith in ap (λ n. take n s) e ∙ take_min 65535 s

pub front_length : {X : Type 0} (s : List X) (capacity : ℕ) → capacity ≡ min (length s) 65535 → length (front s) ≡ capacity
front_length s capacity sized = simp length-take (omega arith)

pub meant_length : {X : Type 0} (f : X → Option CellRecord) (s : List X) (capacity : ℕ) → capacity ≡ min (length s) 65535 → length (meant f s) ≡ capacity
meant_length f s capacity sized = length-map (front s) f ∙ front_length s capacity sized

pub front_read : {X : Type 0} (s : List X) (capacity i : ℕ) (d : X) → capacity ≡ min (length s) 65535 → i < capacity → slice_get (front s) i ≡ Some (get_or s i d)
front_read s capacity i d sized h =
    slice_get-get_or (front s) i d (omega (arith, front_length s capacity sized)) ∙ ap Some (get_or-take 65535 s i d (omega arith))

pub front_set : {X : Type 0} (s : List X) (i : ℕ) (x : X) → front (set s i x) ≡ set (front s) i x
front_set s i x = take_set 65535 s i x

-- a write of a live slot leaves those not in use as they were
pub live_in_use : {X : Type 0} (f : X → Option CellRecord) (s : List X) (i : ℕ) → is_live (meant f s) i ≡ true → (i < length s) × (i < 65535)
live_in_use f s i live =
    let within = live_within (meant f s) i live in
    let long = length-map (front s) f in
    let used = front_length s (min (length s) 65535) refl in
    (omega arith, omega arith)

pub live_past : {X : Type 0} (f : X → Option CellRecord) (s : List X) (i : ℕ) (x : X) → is_live (meant f s) i ≡ true → drop 65535 (set s i x) ≡ drop 65535 s
live_past f s i x live = drop-set-lt 65535 s i x (live_in_use f s i live).1

-- a write of any slot in use
pub kept_size : {X : Type 0} (s : List X) (capacity i : ℕ) (x : X) → capacity ≡ min (length s) 65535 → capacity ≡ min (length (set s i x)) 65535
kept_size s capacity i x sized = simp length-set sized

pub kept_past : {X : Type 0} (s : List X) (capacity i : ℕ) (x : X) → capacity ≡ min (length s) 65535 → i < capacity → drop 65535 (set s i x) ≡ drop 65535 s
kept_past s capacity i x sized h = drop-set-lt 65535 s i x (omega arith)

-- all slots in use replaced
pub front_refilled : {X : Type 0} (s ys : List X) (capacity : ℕ) → capacity ≡ min (length s) 65535 → length ys ≡ capacity → front (ys ++ drop capacity s) ≡ ys
front_refilled s ys capacity sized long =
    let more : 65535 ≡ length ys + (65535 - capacity) = omega arith in
    let none : length (take (65535 - capacity) (drop capacity s)) ≡ 0 = simp (length-take, length-drop) (omega arith) in
    ap (λ n. take n (ys ++ drop capacity s)) more
    ∙ take-append-add ys (drop capacity s) (65535 - capacity)
    ∙ ap (λ zs. ys ++ zs) (nil_from_length (take (65535 - capacity) (drop capacity s)) none)
    ∙ append-nil ys

-- the meaning of slots, where each means the cell f
module _ {X : Type 0} (f : X → Option CellRecord) (xs : List X) where
  pub at_slot : (i : ℕ) (x : X) → slice_get xs i ≡ Some x → at (map f xs) i ≡ f x
  at_slot i x h = get_or-map f xs i x None (slice_get_within xs i x h) ∙ ap f (get_or_from_slice_get xs i x x h)

  -- a slot read
  pub read_live : (i : ℕ) (x : X) (r : CellRecord) → slice_get xs i ≡ Some x → f x ≡ Some r → Ok r ≡ record_at (map f xs) i
  read_live i x r got is = sym (ap (λ c. ok_or c DeadCell) (at_slot i x got ∙ is))

  pub read_dead : (i : ℕ) (x : X) → slice_get xs i ≡ Some x → f x ≡ None → Err DeadCell ≡ record_at (map f xs) i
  read_dead i x got is = sym (ap (λ c. ok_or c DeadCell) (at_slot i x got ∙ is))

  pub read_past : (i : ℕ) → length xs ≤ i → Err DeadCell ≡ record_at (map f xs) i
  read_past i past = sym (ap (λ c. ok_or c DeadCell) (get_or_past (map f xs) i None (omega (arith, past, length-map xs f))))

  -- one slot replaced
  pub changed_slot : (i : ℕ) (x : X) (c : Option CellRecord) (ys : List X) → is_some (at (map f xs) i) ≡ true → ys ≡ set xs i x → f x ≡ c → Changed (map f xs) i c (map f ys)
  changed_slot i x c ys live put is = record {
    live = live;
    after = ap (map f) put ∙ map-set f xs i x ∙ ap (λ d. set (map f xs) i d) is;
  }

  pub taken_slot : (i : ℕ) (was x : X) (r : CellRecord) (ys : List X) → slice_get xs i ≡ Some was → f was ≡ None → ys ≡ set xs i x → f x ≡ Some r → TakenAt (map f xs) r i (map f ys)
  taken_slot i was x r ys got free put is = record {
    within = let w = slice_get_within xs i was got in simp length-map w;
    free = at_slot i was got ∙ free;
    after = ap (map f) put ∙ map-set f xs i x ∙ ap (λ d. set (map f xs) i d) is;
  }

  pub count_within : count_live (map f xs) ≤ length xs
  count_within = omega (arith, count_le (map f xs), length-map xs f)

-- where each slot is free
pub none_meant : {X : Type 0} (f : X → Option CellRecord) (xs : List X) → ((k : ℕ) (d : X) → k < length xs → f (get_or xs k d) ≡ None) → map f xs ≡ replicate (length xs) None
none_meant f [] each = refl
none_meant f (x ∷ xs) each = ap (λ c. c ∷ map f xs) (each 0 x (omega arith)) ∙ ap (λ cs. None ∷ cs) (none_meant f xs (λ k d h. each (suc k) d (omega arith)))

pub none_live : (n : ℕ) → count_live (replicate n None) ≡ 0
none_live zero = refl
none_live (suc n) = omega (arith, none_live n)
