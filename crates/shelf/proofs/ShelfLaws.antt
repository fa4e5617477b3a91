-- Laws of the shelf: what the cells less those on the shelf are, and how a cell goes onto it and comes off.
use Rattle.std.proofs.Common.{◌≡◌, ℕ, zero, suc, ◌+◌, ◌-◌, ◌<◌, ◌≤◌, Bool, true, false, not, ◌||◌, eqb, ◌≢◌, ◌⊎◌, List, [], ◌∷◌, ◌++◌, length, get_or, take, drop, set, replicate, is_some, is_ok, Some, None, Ok, Err, Option, Result, sym, refl, ap, ◌∙◌, subst, inl, inr, ⊎_elim, arith}
use Rattle.std.specs.List.{list_any}
use Rattle.std.proofs.lemmas.List.{length-set, get_or-set_same, set-set, set_comm, set-get_or, set_past, drop-set, drop-set-lt, drop_more, take_more}
use Rattle.std.proofs.lemmas.Bool.{and_parts, and_from, or_parts, or_from, or_left, or_right, not-true, not_from_false, eqb-true, eqb-false, eq-eqb, ne_eqb, true≢false, false≢true, cases_eq}
use Rattle.cells.specs.declared.refusals.StoreRefusal.{StoreRefusal}
use Rattle.cells.specs.declared.refusals.StoreRefusal.TheVariants.{DeadCell}
use Rattle.cells.specs.declared.records.CellRecord.{CellRecord}
use Rattle.cells.specs.Meaning.{Cells, at, is_live, count_live, TakenAt, Changed, Dead, Written, GivenBack}
use Rattle.cells.proofs.CellLaws.{count_set, live_one, live_within}
use Rattle.cells.proofs.Calls.{at_other, at_cleared, live_free_apart}
use Rattle.shelf.specs.Shelves.{less, among, apart, less_length}

-- clearing

clear_comm : (cs : Cells) (i j : ℕ) → set (set cs i None) j None ≡ set (set cs j None) i None
clear_comm cs i j = ⊎_elim
    (λ (q : i ≡ j). ap (λ k. set (set cs i None) k None) (sym q) ∙ ap (λ k. set (set cs k None) i None) q)
    (λ (ne : i ≡ j → ⊥). set_comm cs i j None None ne)
    (cases_eq i j)

-- a cell that is free already may be cleared
clear_free : (cs : Cells) (i : ℕ) → at cs i ≡ None → set cs i None ≡ cs
clear_free cs i free = ap (λ c. set cs i c) (sym free) ∙ set-get_or cs i None

-- what is on the shelf and what is beside it

some_or_other : (b c : Bool) → b || c ≡ true → (b ≡ true) ⊎ (c ≡ true)
some_or_other true c h = inl refl
some_or_other false c h = inr h

pub at_among : (ks : List ℕ) (cs : Cells) (i : ℕ) → among ks i ≡ true → at (less ks cs) i ≡ None
at_among [] cs i h = absurd (false≢true h)
at_among (k ∷ ks) cs i h = ⊎_elim
    (λ (q : k ≡ i). ap (λ j. at (set (less ks cs) j None) i) q ∙ at_cleared (less ks cs) i)
    (λ (ne : k ≡ i → ⊥).
    let rest : among ks i ≡ true = ⊎_elim (λ (e : eqb k i ≡ true). absurd (ne (eqb-true k i e))) (λ r. r) (some_or_other (eqb k i) (among ks i) h) in
    at_other (less ks cs) k i None (λ e. ne (sym e)) ∙ at_among ks cs i rest)
    (cases_eq k i)

pub at_beside : (ks : List ℕ) (cs : Cells) (i : ℕ) → among ks i ≡ false → at (less ks cs) i ≡ at cs i
at_beside [] cs i h = refl
at_beside (k ∷ ks) cs i h =
    let p = or_parts (eqb k i) (among ks i) h in
    at_other (less ks cs) k i None (λ e. eqb-false k i p.0 (sym e)) ∙ at_beside ks cs i p.1

-- a cell that is free below is free above
pub at_free : (ks : List ℕ) (cs : Cells) (i : ℕ) → at cs i ≡ None → at (less ks cs) i ≡ None
at_free [] cs i h = h
at_free (k ∷ ks) cs i h = ⊎_elim
    (λ (q : i ≡ k). ap (λ j. at (set (less ks cs) j None) i) (sym q) ∙ at_cleared (less ks cs) i)
    (λ (ne : i ≡ k → ⊥). at_other (less ks cs) k i None ne ∙ at_free ks cs i h)
    (cases_eq i k)

-- a change beside the shelf
pub less_set : (ks : List ℕ) (cs : Cells) (i : ℕ) (c : Option CellRecord) → among ks i ≡ false → less ks (set cs i c) ≡ set (less ks cs) i c
less_set [] cs i c h = refl
less_set (k ∷ ks) cs i c h =
    let p = or_parts (eqb k i) (among ks i) h in
    ap (λ l. set l k None) (less_set ks cs i c p.1) ∙ set_comm (less ks cs) i k c None (λ e. eqb-false k i p.0 (sym e))

-- `among` as the library's search of a list
pub among_any : (ks : List ℕ) (i : ℕ) → among ks i ≡ list_any (λ k. eqb k i) ks
among_any [] i = refl
among_any (k ∷ ks) i = ap (λ b. eqb k i || b) (among_any ks i)

-- a number written into a place

among_put : (ks : List ℕ) (n x i : ℕ) → i ≢ x → among ks i ≡ false → among (set ks n x) i ≡ false
among_put [] n x i ne h = h
among_put (k ∷ ks) zero x i ne h =
    or_from (eqb x i) (among ks i) (ne_eqb x i (λ e. ne (sym e))) (or_parts (eqb k i) (among ks i) h).1
among_put (k ∷ ks) (suc n) x i ne h =
    let p = or_parts (eqb k i) (among ks i) h in
    or_from (eqb k i) (among (set ks n x) i) p.0 (among_put ks n x i ne p.1)

-- a number that is neither the old nor the new one
pub among_same : (ks : List ℕ) (n x i : ℕ) → i ≢ x → i ≢ get_or ks n 0 → among (set ks n x) i ≡ among ks i
among_same [] n x i ne was = refl
among_same (k ∷ ks) zero x i ne was =
    ap (λ b. b || among ks i) (ne_eqb x i (λ e. ne (sym e)) ∙ sym (ne_eqb k i (λ e. was (sym e))))
among_same (k ∷ ks) (suc n) x i ne was = ap (λ b. eqb k i || b) (among_same ks n x i ne was)

pub among_at : (ks : List ℕ) (n d : ℕ) → n < length ks → among ks (get_or ks n d) ≡ true
among_at [] n d h = absurd (omega arith)
among_at (k ∷ ks) zero d h = or_left (eqb k k) (among ks k) (eq-eqb k k refl)
among_at (k ∷ ks) (suc n) d h = or_right (eqb k (get_or ks n d)) (among ks (get_or ks n d)) (among_at ks n d (omega arith))

apart_put : (ks : List ℕ) (n x : ℕ) → (x ≡ 65535) ⊎ (among ks x ≡ false) → apart ks ≡ true → apart (set ks n x) ≡ true
apart_put [] n x new h = h
apart_put (k ∷ ks) zero x new h =
    let p = and_parts (eqb k 65535 || not (among ks k)) (apart ks) h in
    and_from (eqb x 65535 || not (among ks x)) (apart ks)
    (⊎_elim
    (λ (e : x ≡ 65535). or_left (eqb x 65535) (not (among ks x)) (eq-eqb x 65535 e))
    (λ (e : among (k ∷ ks) x ≡ false). or_right (eqb x 65535) (not (among ks x)) (not_from_false (among ks x) (or_parts (eqb k x) (among ks x) e).1))
    new)
    p.1
apart_put (k ∷ ks) (suc n) x new h =
    let p = and_parts (eqb k 65535 || not (among ks k)) (apart ks) h in
    and_from (eqb k 65535 || not (among (set ks n x) k)) (apart (set ks n x))
    (⊎_elim
    (λ (e : eqb k 65535 ≡ true). or_left (eqb k 65535) (not (among (set ks n x) k)) e)
    (λ (e : not (among ks k) ≡ true).
    ⊎_elim
    (λ (q : k ≡ 65535). or_left (eqb k 65535) (not (among (set ks n x) k)) (eq-eqb k 65535 q))
    (λ (ne : k ≡ 65535 → ⊥).
    let other : k ≢ x = ⊎_elim
    (λ (w : x ≡ 65535). λ (q : k ≡ x). ne (q ∙ w))
    (λ (w : among (k ∷ ks) x ≡ false). λ (q : k ≡ x). eqb-false k x (or_parts (eqb k x) (among ks x) w).0 q)
    new in
    or_right (eqb k 65535) (not (among (set ks n x) k)) (not_from_false (among (set ks n x) k) (among_put ks n x k other (not-true (among ks k) e))))
    (cases_eq k 65535))
    (some_or_other (eqb k 65535) (not (among ks k)) p.0))
    (apart_put ks n x (⊎_elim (λ (w : x ≡ 65535). inl w) (λ (w : among (k ∷ ks) x ≡ false). inr (or_parts (eqb k x) (among ks x) w).1) new) p.1)

pub apart_off : (ks : List ℕ) (n : ℕ) → apart ks ≡ true → apart (set ks n 65535) ≡ true
apart_off ks n h = apart_put ks n 65535 (inl refl) h

pub apart_on : (ks : List ℕ) (n x : ℕ) → among ks x ≡ false → apart ks ≡ true → apart (set ks n x) ≡ true
apart_on ks n x new h = apart_put ks n x (inr new) h

-- a cell that comes off the shelf is on it no more
off_among : (ks : List ℕ) (n : ℕ) → n < length ks → get_or ks n 0 ≢ 65535 → apart ks ≡ true → among (set ks n 65535) (get_or ks n 0) ≡ false
off_among [] n within cell h = absurd (omega arith)
off_among (k ∷ ks) zero within cell h =
    let p = and_parts (eqb k 65535 || not (among ks k)) (apart ks) h in
    or_from (eqb 65535 k) (among ks k) (ne_eqb 65535 k (λ e. cell (sym e)))
    (⊎_elim
    (λ (e : eqb k 65535 ≡ true). absurd (cell (eqb-true k 65535 e)))
    (λ (e : not (among ks k) ≡ true). not-true (among ks k) e)
    (some_or_other (eqb k 65535) (not (among ks k)) p.0))
off_among (k ∷ ks) (suc n) within cell h =
    let x = get_or ks n 0 in
    let p = and_parts (eqb k 65535 || not (among ks k)) (apart ks) h in
    let other : k ≡ get_or ks n 0 → ⊥ = λ q.
    ⊎_elim
    (λ (e : eqb k 65535 ≡ true). cell (sym q ∙ eqb-true k 65535 e))
    (λ (e : not (among ks k) ≡ true). true≢false (sym (ap (among ks) q ∙ among_at ks n 0 (omega arith)) ∙ not-true (among ks k) e))
    (some_or_other (eqb k 65535) (not (among ks k)) p.0) in
    or_from (eqb k x) (among (set ks n 65535) x) (ne_eqb k x other) (off_among ks n (omega arith) cell p.1)

-- the meaning, with the number of one place set apart
less_off : (ks : List ℕ) (n : ℕ) (cs : Cells) → length cs ≤ 65535 → n < length ks → less ks cs ≡ set (less (set ks n 65535) cs) (get_or ks n 0) None
less_off [] n cs small within = absurd (omega arith)
less_off (k ∷ ks) zero cs small within =
    ap (λ l. set l k None) (sym (set_past (less ks cs) 65535 None (omega (arith, less_length ks cs))))
less_off (k ∷ ks) (suc n) cs small within =
    ap (λ l. set l k None) (less_off ks n cs small (omega arith)) ∙ clear_comm (less (set ks n 65535) cs) (get_or ks n 0) k

-- one cell more on the shelf, at a place that has none
pub less_on : (ks : List ℕ) (n x : ℕ) (cs : Cells) → length cs ≤ 65535 → n < length ks → get_or ks n 0 ≡ 65535 → less (set ks n x) cs ≡ set (less ks cs) x None
less_on ks n x cs small within none =
    less_off (set ks n x) n cs small (simp length-set within)
    ∙ ap (λ l. set (less l cs) (get_or (set ks n x) n 0) None) (set-set ks n x 65535 ∙ ap (λ y. set ks n y) (sym none) ∙ set-get_or ks n 0)
    ∙ ap (λ i. set (less ks cs) i None) (get_or-set_same ks n x 0 within)

-- a shelf without cells
pub less_none : (n : ℕ) (cs : Cells) → length cs ≤ 65535 → less (replicate n 65535) cs ≡ cs
less_none zero cs small = refl
less_none (suc n) cs small = ap (λ l. set l 65535 None) (less_none n cs small) ∙ set_past cs 65535 None small

pub among_none : (n i : ℕ) → i ≢ 65535 → among (replicate n 65535) i ≡ false
among_none zero i ne = refl
among_none (suc n) i ne = or_from (eqb 65535 i) (among (replicate n 65535) i) (ne_eqb 65535 i (λ e. ne (sym e))) (among_none n i ne)

-- an empty shelf has the number of no cell alone
pub among_bare : (n i : ℕ) → eqb i 65535 ≡ among (replicate (suc n) 65535) i
among_bare n i =
    ⊎_elim
    (λ (e : i ≡ 65535). eq-eqb i 65535 e ∙ sym (or_left (eqb 65535 i) (among (replicate n 65535) i) (eq-eqb 65535 i (sym e))))
    (λ (ne : i ≡ 65535 → ⊥). ne_eqb i 65535 ne ∙ sym (among_none (suc n) i ne))
    (cases_eq i 65535)

-- the places from the count on have no cell
pub bare_at : (ks : List ℕ) (n m : ℕ) → n < length ks → drop n ks ≡ replicate (suc m) 65535 → get_or ks n 0 ≡ 65535
bare_at ks n m h e = let t = drop_more ks n 0 h in let u : get_or ks n 0 ∷ drop (n + 1) ks ≡ 65535 ∷ replicate m 65535 = sym t ∙ e in cc

pub bare_off : (ks : List ℕ) (n m : ℕ) → m + 1 ≡ n → n ≤ 16 → length ks ≡ 16 → drop n ks ≡ replicate (16 - n) 65535 → drop m (set ks m 65535) ≡ replicate (16 - m) 65535
bare_off ks n m e few long bare =
    let left : suc (16 - n) ≡ 16 - m = omega arith in
    drop-set ks m 65535 (omega arith) ∙ ap (λ l. 65535 ∷ l) (ap (λ k. drop k ks) e ∙ bare) ∙ ap (λ k. replicate k 65535) left

pub bare_on : (ks : List ℕ) (n x : ℕ) → n < 16 → length ks ≡ 16 → drop n ks ≡ replicate (16 - n) 65535 → drop (n + 1) (set ks n x) ≡ replicate (16 - (n + 1)) 65535
bare_on ks n x few long bare =
    let left : 16 - n ≡ suc (16 - (n + 1)) = omega arith in
    let t = drop_more ks n 0 (omega arith) in
    let u : get_or ks n 0 ∷ drop (n + 1) ks ≡ 65535 ∷ replicate (16 - (n + 1)) 65535 = sym t ∙ bare ∙ ap (λ k. replicate k 65535) left in
    drop-set-lt (n + 1) ks n x (omega arith) ∙ tails u
  where
    tails : {a b : ℕ} {xs ys : List ℕ} → a ∷ xs ≡ b ∷ ys → xs ≡ ys
    tails e = cc

pub emptied : (ks : List ℕ) (n : ℕ) → n ≤ 0 → drop n ks ≡ replicate (16 - n) 65535 → ks ≡ replicate 16 65535
emptied ks n none bare = let z : n ≡ 0 = omega arith in subst (λ k. drop k ks ≡ replicate (16 - k) 65535) z bare

pub not_live : (c : Option CellRecord) → (is_some c ≡ true → ⊥) → c ≡ None
not_live None h = refl
not_live (Some r) h = absurd (h refl)

-- a live cell has not the number of no cell
pub live_number : (cs : Cells) (i : ℕ) → length cs ≤ 65535 → is_live cs i ≡ true → i ≢ 65535
live_number cs i small live e = omega (arith, live_within cs i live)

-- calls on a cell beside the shelf

changed_beside : (ks : List ℕ) (old new : Cells) (i : ℕ) (c : Option CellRecord) → among ks i ≡ false → Changed old i c new → Changed (less ks old) i c (less ks new)
changed_beside ks old new i c off h = record {
  live = ap is_some (at_beside ks old i off) ∙ h.live;
  after = ap (less ks) h.after ∙ less_set ks old i c off;
}

pub dead_beside : (ks : List ℕ) (old new : Cells) (i : ℕ) (e : StoreRefusal) → Dead old i e new → Dead (less ks old) i e (less ks new)
dead_beside ks old new i e h = record { number = h.number; dead = at_free ks old i h.dead; same = ap (less ks) h.same }

pub dead_among : (ks : List ℕ) (cs : Cells) (i : ℕ) → among ks i ≡ true → Dead (less ks cs) i DeadCell (less ks cs)
dead_among ks cs i h = record { number = refl; dead = at_among ks cs i h; same = refl }

pub written_beside : {U : Type 0} (ks : List ℕ) (old new : Cells) (i : ℕ) (r : CellRecord) (answer : Result U StoreRefusal) → among ks i ≡ false → Written old i r answer new → Written (less ks old) i r answer (less ks new)
written_beside ks old new i r (Ok u) off h = changed_beside ks old new i (Some r) off h
written_beside ks old new i r (Err e) off h = dead_beside ks old new i e h

pub given_beside : {U : Type 0} (ks : List ℕ) (old new : Cells) (i : ℕ) (answer : Result U StoreRefusal) → among ks i ≡ false → GivenBack old i answer new → GivenBack (less ks old) i answer (less ks new)
given_beside ks old new i (Ok u) off h = changed_beside ks old new i None off h
given_beside ks old new i (Err e) off h = dead_beside ks old new i e h

-- the number at a place taken off the shelf: written below, or passed over where it is dead there

pub reused : (ks : List ℕ) (n : ℕ) (old new : Cells) (r : CellRecord) → length old ≤ 65535 → n < length ks → apart ks ≡ true → Changed old (get_or ks n 0) (Some r) new → TakenAt (less ks old) r (get_or ks n 0) (less (set ks n 65535) new)
reused ks n old new r small within once h =
    let i = get_or ks n 0 in
    let off = off_among ks n within (live_number old i small h.live) once in
    record {
      within = let w = live_within old i h.live in rw (less_length ks old) w;
      free = at_among ks old i (among_at ks n 0 within);
      after =
          ap (less (set ks n 65535)) h.after
          ∙ less_set (set ks n 65535) old i (Some r) off
          ∙ sym (ap (λ l. set l i (Some r)) (less_off ks n old small within) ∙ set-set (less (set ks n 65535) old) i None (Some r));
    }

pub passed : (ks : List ℕ) (n : ℕ) (cs : Cells) → length cs ≤ 65535 → n < length ks → at cs (get_or ks n 0) ≡ None → less (set ks n 65535) cs ≡ less ks cs
passed ks n cs small within dead =
    let i = get_or ks n 0 in
    sym (less_off ks n cs small within ∙ clear_free (less (set ks n 65535) cs) i (at_free (set ks n 65535) cs i dead))

-- the first places of a shelf, one more each time

less_push : (ks : List ℕ) (k : ℕ) (cs : Cells) → less (ks ++ k ∷ []) cs ≡ set (less ks cs) k None
less_push [] k cs = refl
less_push (j ∷ ks) k cs = ap (λ l. set l j None) (less_push ks k cs) ∙ clear_comm (less ks cs) k j

among_push : (ks : List ℕ) (k i : ℕ) → among (ks ++ k ∷ []) i ≡ among ks i || eqb k i
among_push [] k i = or_is_false (eqb k i)
  where
    or_is_false : (b : Bool) → b || false ≡ b
    or_is_false true = refl
    or_is_false false = refl
among_push (j ∷ ks) k i = ap (λ b. eqb j i || b) (among_push ks k i) ∙ sym (or_assoc (eqb j i) (among ks i) (eqb k i))
  where
    or_assoc : (a b c : Bool) → (a || b) || c ≡ a || (b || c)
    or_assoc true b c = refl
    or_assoc false b c = refl

pub less_more : (ks : List ℕ) (n d : ℕ) (cs : Cells) → n < length ks → less (take (n + 1) ks) cs ≡ set (less (take n ks) cs) (get_or ks n d) None
less_more ks n d cs h = ap (λ l. less l cs) (take_more ks n d h) ∙ less_push (take n ks) (get_or ks n d) cs

pub among_more : (ks : List ℕ) (n d i : ℕ) → n < length ks → among (take (n + 1) ks) i ≡ among (take n ks) i || eqb (get_or ks n d) i
among_more ks n d i h = ap (λ l. among l i) (take_more ks n d h) ∙ among_push (take n ks) (get_or ks n d) i

-- no cell stands in an earlier place too
before : (ks : List ℕ) (n : ℕ) → n < length ks → get_or ks n 0 ≢ 65535 → apart ks ≡ true → among (take n ks) (get_or ks n 0) ≡ false
before [] n within cell h = absurd (omega arith)
before (k ∷ ks) zero within cell h = refl
before (k ∷ ks) (suc n) within cell h =
    let x = get_or ks n 0 in
    let p = and_parts (eqb k 65535 || not (among ks k)) (apart ks) h in
    let other : k ≡ get_or ks n 0 → ⊥ = λ q.
    ⊎_elim
    (λ (e : eqb k 65535 ≡ true). cell (sym q ∙ eqb-true k 65535 e))
    (λ (e : not (among ks k) ≡ true). true≢false (sym (ap (among ks) q ∙ among_at ks n 0 (omega arith)) ∙ not-true (among ks k) e))
    (some_or_other (eqb k 65535) (not (among ks k)) p.0) in
    or_from (eqb k x) (among (take n ks) x) (ne_eqb k x other) (before ks n (omega arith) cell p.1)

-- the count of live cells, one place further
pub count_live_law : (ks : List ℕ) (n : ℕ) (cs : Cells) → length cs ≤ 65535 → n < length ks → apart ks ≡ true → is_live cs (get_or ks n 0) ≡ true → count_live (less (take (n + 1) ks) cs) + 1 ≡ count_live (less (take n ks) cs)
count_live_law ks n cs small within once live =
    let i = get_or ks n 0 in
    let l = less (take n ks) cs in
    let off = before ks n within (live_number cs i small live) once in
    let is = ap is_some (at_beside (take n ks) cs i off) ∙ live in
    ap (λ m. count_live m + 1) (less_more ks n 0 cs within)
    ∙ omega (arith, count_set l i None (live_within l i is), live_one (at l i) is)

pub count_dead : (ks : List ℕ) (n : ℕ) (cs : Cells) → n < length ks → at cs (get_or ks n 0) ≡ None → count_live (less (take (n + 1) ks) cs) ≡ count_live (less (take n ks) cs)
count_dead ks n cs within dead =
    let i = get_or ks n 0 in
    ap count_live (less_more ks n 0 cs within ∙ clear_free (less (take n ks) cs) i (at_free (take n ks) cs i dead))

-- the answer of the write below, for a number that comes off the shelf
pub reuse_hit : {U : Type 0} (ks : List ℕ) (n : ℕ) (old new : Cells) (r : CellRecord) (answer : Result U StoreRefusal) → length old ≤ 65535 → n < length ks → apart ks ≡ true → is_ok answer ≡ true → Written old (get_or ks n 0) r answer new → TakenAt (less ks old) r (get_or ks n 0) (less (set ks n 65535) new) × (is_live old (get_or ks n 0) ≡ true)
reuse_hit ks n old new r (Ok u) small within once ok h = (reused ks n old new r small within once h, h.live)
reuse_hit ks n old new r (Err e) small within once ok h = absurd (false≢true ok)

pub reuse_miss : {U : Type 0} (i : ℕ) (old new : Cells) (r : CellRecord) (answer : Result U StoreRefusal) → is_ok answer ≡ false → Written old i r answer new → (new ≡ old) × (at old i ≡ None)
reuse_miss i old new r (Ok u) miss h = absurd (true≢false miss)
reuse_miss i old new r (Err e) miss h = (h.same, h.dead)

-- clearing below and clearing above
less_clear : (ks : List ℕ) (cs : Cells) (i : ℕ) → less ks (set cs i None) ≡ set (less ks cs) i None
less_clear [] cs i = refl
less_clear (k ∷ ks) cs i = ap (λ l. set l k None) (less_clear ks cs i) ∙ clear_comm (less ks cs) i k

-- a number that goes back below
pub put_back : {U : Type 0} (ks : List ℕ) (n : ℕ) (old new : Cells) (answer : Result U StoreRefusal) → length old ≤ 65535 → n < length ks → GivenBack old (get_or ks n 0) answer new → less (set ks n 65535) new ≡ less ks old
put_back ks n old new (Ok u) small within h =
    ap (less (set ks n 65535)) h.after ∙ less_clear (set ks n 65535) old (get_or ks n 0) ∙ sym (less_off ks n old small within)
put_back ks n old new (Err e) small within h = ap (less (set ks n 65535)) h.same ∙ passed ks n old small within h.dead

-- the last number popped off the shelf

pub popped_back : {U : Type 0} (ks js : List ℕ) (n i : ℕ) (old new : Cells) (answer : Result U StoreRefusal) → length old ≤ 65535 → n < length ks → i ≡ get_or ks n 0 → js ≡ set ks n 65535 → GivenBack old i answer new → less js new ≡ less ks old
popped_back ks js n i old new answer small within top put h =
    ap (λ l. less l new) put ∙ put_back ks n old new answer small within (subst (λ k. GivenBack old k answer new) top h)

pub popped_hit : {U : Type 0} (ks js : List ℕ) (n i : ℕ) (old new : Cells) (r : CellRecord) (answer : Result U StoreRefusal) → length old ≤ 65535 → n < length ks → apart ks ≡ true → i ≡ get_or ks n 0 → js ≡ set ks n 65535 → is_ok answer ≡ true → Written old i r answer new → TakenAt (less ks old) r i (less js new) × (is_live old i ≡ true)
popped_hit ks js n i old new r answer small within once top put ok h =
    let hit = reuse_hit ks n old new r answer small within once ok (subst (λ k. Written old k r answer new) top h) in (
      subst (λ k. TakenAt (less ks old) r k (less js new)) (sym top) (subst (λ l. TakenAt (less ks old) r (get_or ks n 0) (less l new)) (sym put) hit.0),
      subst (λ k. is_live old k ≡ true) (sym top) hit.1,
    )

pub popped_miss : {U : Type 0} (ks js : List ℕ) (n i : ℕ) (old new : Cells) (r : CellRecord) (answer : Result U StoreRefusal) → length old ≤ 65535 → n < length ks → i ≡ get_or ks n 0 → js ≡ set ks n 65535 → is_ok answer ≡ false → Written old i r answer new → (new ≡ old) × (less js new ≡ less ks old) × ((k : ℕ) → is_live old k ≡ true → among js k ≡ among ks k)
popped_miss ks js n i old new r answer small within top put miss h =
    let m = reuse_miss i old new r answer miss h in
    let dead : at old (get_or ks n 0) ≡ None = ap (at old) (sym top) ∙ m.1 in (
      m.0,
      ap (λ l. less l new) put ∙ ap (less (set ks n 65535)) m.0 ∙ passed ks n old small within dead,
      λ k live. ap (λ l. among l k) put ∙ among_same ks n 65535 k (live_number old k small live) (live_free_apart old k (get_or ks n 0) live dead),
    )
