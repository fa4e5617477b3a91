-- Laws of the chain of free slots.
use Rattle.std.proofs.Common.{◌≡◌, ℕ, zero, suc, ◌<◌, true, false, ◌≢◌, List, length, set, sym, refl, ap, ◌∙◌, arith}
use Rattle.std.proofs.lemmas.Bool.{and_parts, and_from, ltb-true, lt-ltb, eqb-true, both_ways}
use Rattle.std.proofs.lemmas.List.{length-set, get_or-set_same, get_or-set_other}
use Rattle.chain.specs.declared.slots.ChainSlot.{ChainSlot}
use Rattle.chain.specs.declared.slots.ChainSlot.TheVariants.{Free}
use Rattle.chain.specs.Chains.{is_free, next, slot_at, chained}

-- a chain of one link more, taken apart and put together
pub record Link (n : ℕ) (s : List ChainSlot) (h : ℕ) : Type 0 where
  pub within : h < length s
  pub free : is_free (slot_at s h) ≡ true
  pub rest : chained n s (next (slot_at s h)) ≡ true

pub link_of : (n : ℕ) (s : List ChainSlot) (h : ℕ) → chained (suc n) s h ≡ true → Link n s h
link_of n s h e =
    let a = and_parts _ _ e in
    let b = and_parts _ _ a.1 in
    record { within = ltb-true h (length s) a.0; free = b.0; rest = b.1 }

pub link_to : (n : ℕ) (s : List ChainSlot) (h : ℕ) → Link n s h → chained (suc n) s h ≡ true
link_to n s h l = and_from _ _ (lt-ltb h (length s) l.within) (and_from _ _ l.free l.rest)

-- from one start, one number of links leads to the end
pub same_links : (m n : ℕ) (s : List ChainSlot) (h : ℕ) → chained m s h ≡ true → chained n s h ≡ true → m ≡ n
same_links zero zero s h p q = refl
same_links zero (suc n) s h p q = omega (arith, eqb-true h (length s) p, (link_of n s h q).within)
same_links (suc m) zero s h p q = omega (arith, eqb-true h (length s) q, (link_of m s h p).within)
same_links (suc m) (suc n) s h p q = ap suc (same_links m n s (next (slot_at s h)) (link_of m s h p).rest (link_of n s h q).rest)

-- a write beside a chain keeps it
pub chained_set : (n : ℕ) (s : List ChainSlot) (h i : ℕ) (x : ChainSlot) → ((m k : ℕ) → m < n → chained (suc m) s k ≡ true → k ≢ i) → chained n s h ≡ true → chained n (set s i x) h ≡ true
chained_set zero s h i x away e = rw length-set e
chained_set (suc n) s h i x away e =
    let l = link_of n s h e in
    let ne : h ≢ i = away n h (omega arith) e in
    let same : slot_at (set s i x) h ≡ slot_at s h = get_or-set_other s i h x (Free 0) ne in
    link_to n (set s i x) h record {
      within = rw length-set l.within;
      free = ap is_free same ∙ l.free;
      rest = ap (λ t. chained n (set s i x) (next t)) same ∙ chained_set n s (next (slot_at s h)) i x (λ m k b. away m k (omega arith)) l.rest;
    }

-- a write to a live slot keeps the chain
pub chained_live : (n : ℕ) (s : List ChainSlot) (h i : ℕ) (x : ChainSlot) → is_free (slot_at s i) ≡ false → chained n s h ≡ true → chained n (set s i x) h ≡ true
chained_live n s h i x live e =
    chained_set n s h i x (λ m k b f k≡i. both_ways (is_free (slot_at s i)) live (ap (λ t. is_free (slot_at s t)) (sym k≡i) ∙ (link_of m s k f).free)) e

-- the first slot of a chain taken off it
pub chained_pop : (n : ℕ) (s : List ChainSlot) (h : ℕ) (x : ChainSlot) → chained (suc n) s h ≡ true → chained n (set s h x) (next (slot_at s h)) ≡ true
chained_pop n s h x e =
    chained_set n s (next (slot_at s h)) h x (λ m k b f k≡h. let c = same_links (suc m) (suc n) s h (ap (λ t. chained (suc m) s t) (sym k≡h) ∙ f) e in omega arith) (link_of n s h e).rest

-- a live slot put before the chain
pub chained_push : (n : ℕ) (s : List ChainSlot) (h i : ℕ) → i < length s → is_free (slot_at s i) ≡ false → chained n s h ≡ true → chained (suc n) (set s i (Free h)) i ≡ true
chained_push n s h i within live e =
    let same : slot_at (set s i (Free h)) i ≡ Free h = get_or-set_same s i (Free h) (Free 0) within in
    link_to n (set s i (Free h)) i record {
      within = rw length-set within;
      free = ap is_free same;
      rest = ap (λ t. chained n (set s i (Free h)) (next t)) same ∙ chained_live n s h i (Free h) live e;
    }
