-- What a write to a slot of the chain store leaves: the chain of free slots, and what the store means.
use Rattle.std.proofs.Common.{◌≡◌, ℕ, zero, suc, ◌+◌, ◌-◌, ◌<◌, ◌≤◌, min, true, false, List, map, length, get_or, set, is_some, Some, None, Ok, Err, MatchResult, Option, Result, sym, refl, ap, ◌∙◌, arith}
use Rattle.std.specs.List.{slice_get}
use Rattle.std.proofs.lemmas.Bool.{eqb-true, eq-eqb, false≢true, both_ways}
use Rattle.std.proofs.lemmas.List.{length-map, get_or-map}
use Rattle.std.proofs.lemmas.Option.{slice_get_within, slice_get-get_or, get_or_from_slice_get, none-some}
use Rattle.cells.specs.declared.refusals.StoreRefusal.{StoreRefusal}
use Rattle.cells.specs.declared.refusals.StoreRefusal.TheVariants.{NoFreeCell}
use Rattle.cells.specs.declared.records.CellRecord.{CellRecord}
use Rattle.cells.specs.Meaning.{Cells, at, is_live, count_live, Full, Written}
use Rattle.cells.specs.Lent.{front, meant}
use Rattle.cells.proofs.CellLaws.{count_full, live_within}
use Rattle.cells.proofs.Calls.{written_count}
use Rattle.cells.proofs.LentLaws.{front_length, front_set, kept_size, count_within}
use Rattle.chain.specs.declared.slots.ChainSlot.{ChainSlot}
use Rattle.chain.specs.declared.slots.ChainSlot.TheVariants.{Free, Live}
use Rattle.chain.specs.Chains.{chain_cell, is_free, next, slot_at, chained}
use Rattle.chain.proofs.ChainLaws.{link_of, link_to, chained_live, chained_pop, chained_push}

not_free : (t : ChainSlot) (r : CellRecord) → chain_cell t ≡ Some r → is_free t ≡ false
not_free (Free n) r h = absurd (none-some r h)
not_free (Live q) r h = refl

live_at : (cs : Cells) (i : ℕ) → is_live cs i ≡ true → (r : CellRecord) × (at cs i ≡ Some r)
live_at cs i h = some (at cs i) h
  where
    some : (c : Option CellRecord) → is_some c ≡ true → (r : CellRecord) × (c ≡ Some r)
    some None e = absurd (false≢true e)
    some (Some r) e = (r, refl)

module _ (xs : List ChainSlot) (capacity : ℕ) (long : length xs ≡ capacity) where
  -- a live cell, as the chain has it
  live_slot : (i : ℕ) (r : CellRecord) → at (map chain_cell xs) i ≡ Some r → (i < length xs) × (is_free (slot_at xs i) ≡ false)
  live_slot i r h =
      let w = live_within (map chain_cell xs) i (ap is_some h) in
      let within : i < length xs = omega (arith, w, length-map xs chain_cell) in
      (within, not_free (slot_at xs i) r (sym (get_or-map chain_cell xs i (Free 0) None within) ∙ h))

  -- an exhausted chain: every slot is live
  pub full_chain : (free live : ℕ) → live ≡ count_live (map chain_cell xs) → chained (capacity - live) xs free ≡ true → slice_get xs free ≡ None → Full (map chain_cell xs) NoFreeCell (map chain_cell xs)
  full_chain free live counted linked past = record {
    number = refl;
    same = refl;
    full = λ k h. count_full (map chain_cell xs) k (none (capacity - live) refl linked) h;
  }
    where
      none : (n : ℕ) → n ≡ capacity - live → chained n xs free ≡ true → count_live (map chain_cell xs) ≡ length (map chain_cell xs)
      none zero e c = omega (arith, length-map xs chain_cell, count_within chain_cell xs)
      none (suc n) e c = absurd (none-some _ (sym past ∙ slice_get-get_or xs free (Free 0) (link_of n xs free c).within))

  -- a chain whose first slot is read has a link
  headed : (free live : ℕ) (x : ChainSlot) → chained (capacity - live) xs free ≡ true → slice_get xs free ≡ Some x → (m : ℕ) × (capacity - live ≡ suc m) × (chained (suc m) xs free ≡ true)
  headed free live x linked got = go (capacity - live) refl linked
    where
      go : (n : ℕ) → capacity - live ≡ n → chained n xs free ≡ true → (m : ℕ) × (capacity - live ≡ suc m) × (chained (suc m) xs free ≡ true)
      go zero e c = absurd (omega (arith, eqb-true free (length xs) c, slice_get_within xs free x got))
      go (suc m) e c = (m, e, c)

  -- and that slot is free
  pub head_free : (free live : ℕ) (x : ChainSlot) → ((n : ℕ) → x ≡ Free n → ⊥) → chained (capacity - live) xs free ≡ true → slice_get xs free ≡ Some x → ⊥
  head_free free live (Free n) other linked got = other n refl
  head_free free live (Live r) other linked got =
      let m = headed free live (Live r) linked got in
      both_ways (is_free (slot_at xs free)) (ap is_free (get_or_from_slice_get xs free (Live r) (Free 0) got)) (link_of m.0 xs free m.2).free

  pub taken_link : (free live n : ℕ) (x : ChainSlot) (ys : List ChainSlot) → chained (capacity - live) xs free ≡ true → slice_get xs free ≡ Some (Free n) → ys ≡ set xs free x → chained (capacity - (live + 1)) ys n ≡ true
  taken_link free live n x ys linked got put =
      let m = headed free live (Free n) linked got in
      let fuel : capacity - (live + 1) ≡ m.0 = omega (arith, m.1) in
      ap (λ k. chained k ys n) fuel
      ∙ ap (λ t. chained m.0 t n) put
      ∙ ap (λ t. chained m.0 (set xs free x) (next t)) (sym (get_or_from_slice_get xs free (Free n) (Free 0) got))
      ∙ chained_pop m.0 xs free x m.2

  pub given_link : (free live i : ℕ) (r : CellRecord) (ys : List ChainSlot) → live ≡ count_live (map chain_cell xs) → 1 ≤ live → chained (capacity - live) xs free ≡ true → at (map chain_cell xs) i ≡ Some r → ys ≡ set xs i (Free free) → chained (capacity - (live - 1)) ys i ≡ true
  given_link free live i r ys counted some linked h put =
      let slot = live_slot i r h in
      let fuel : capacity - (live - 1) ≡ suc (capacity - live) = omega (arith, count_within chain_cell xs) in
      ap (λ k. chained k ys i) fuel
      ∙ ap (λ t. chained (suc (capacity - live)) t i) put
      ∙ chained_push (capacity - live) xs free i slot.0 slot.1 linked

  written_link : (free live i : ℕ) (r : CellRecord) (x : ChainSlot) (ys : List ChainSlot) → chained (capacity - live) xs free ≡ true → at (map chain_cell xs) i ≡ Some r → ys ≡ set xs i x → chained (capacity - live) ys free ≡ true
  written_link free live i r x ys linked h put =
      ap (λ t. chained (capacity - live) t free) put ∙ chained_live (capacity - live) xs free i x (live_slot i r h).1 linked

  -- slots as a new store has them: each free, with the next number
  module _ (fresh : (k : ℕ) (d : ChainSlot) → k < capacity → get_or xs k d ≡ Free (k + 1)) where
    fresh_from : (n h : ℕ) → h + n ≡ capacity → chained n xs h ≡ true
    fresh_from zero h e = eq-eqb h (length xs) (omega arith)
    fresh_from (suc n) h e =
        let is = fresh h (Free 0) (omega arith) in
        link_to n xs h record {
          within = omega arith;
          free = ap is_free is;
          rest = ap (λ t. chained n xs (next t)) is ∙ fresh_from n (h + 1) (omega arith);
        }

    pub fresh_linked : chained (capacity - 0) xs 0 ≡ true
    fresh_linked = let e : capacity - 0 ≡ capacity = omega arith in ap (λ n. chained n xs 0) e ∙ fresh_from capacity 0 (omega arith)

-- a write, by its answer: as many slots in use, as many live cells, and the same chain
pub written : (s : List ChainSlot) (capacity : ℕ) (sized : capacity ≡ min (length s) 65535) (free live i : ℕ) (r : CellRecord) (answer : Result (Unit {0}) StoreRefusal) (t : List ChainSlot) → live ≡ count_live (meant chain_cell s) → chained (capacity - live) (front s) free ≡ true → Written (meant chain_cell s) i r answer (meant chain_cell t) → MatchResult answer (λ _. t ≡ set s i (Live r)) (λ _. t ≡ s) → (capacity ≡ min (length t) 65535) × (live ≡ count_live (meant chain_cell t)) × (chained (capacity - live) (front t) free ≡ true)
written s capacity sized free live i r (Ok u) t counted linked h put =
    let held = live_at (meant chain_cell s) i h.live in
    let long = front_length s capacity sized in (
      kept_size s capacity i (Live r) sized ∙ ap (λ l. min (length l) 65535) (sym put),
      counted ∙ sym (written_count h),
      written_link (front s) capacity long free live i held.0 (Live r) (front t) linked held.1 (ap front put ∙ front_set s i (Live r)),
    )
written s capacity sized free live i r (Err e) t counted linked h put = (
  sized ∙ ap (λ l. min (length l) 65535) (sym put),
  counted ∙ ap count_live (sym h.same),
  ap (λ l. chained (capacity - live) (front l) free) put ∙ linked,
)
