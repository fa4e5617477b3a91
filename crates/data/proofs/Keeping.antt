-- Taking out and keeping are the same.
use Rattle.std.proofs.Common.{◌≡◌, ℕ, ◌⊎◌, List, [], ◌∷◌, ◌++◌, length, set, None, sym, refl, ap, ◌∙◌, subst, inl, inr, ⊎_elim}
use Rattle.std.proofs.lemmas.Bool.{cases_eq}
use Rattle.std.proofs.lemmas.List.{length-set}
use Rattle.cells.specs.declared.values.Value.{Value}
use Rattle.cells.specs.Meaning.{Cells, at}
use Rattle.cells.proofs.Calls.{at_other, at_cleared}
use Rattle.data.specs.Trees.{Tree, Trees, none, more}
use Rattle.data.specs.Standing.{Fills, FillsAll, fills_plain, fills_cell, fills_none, fills_more, Among, among_first, among_later, Distinct, distinct_none, distinct_more, less, Keeps}
use Rattle.data.specs.Taking.{Out, out_none, out_plain, out_cell, SameAsKeeping, KeepsWhatStands}
use Rattle.data.specs.Copying.{Within}
use Rattle.data.proofs.Stores.{some_none, cleared_or_same, same_cells}
use Rattle.data.proofs.Outs.{stays_free, was, out_long}

-- numbers in lists

nowhere : {i : ℕ} → Among i [] → ⊥
nowhere a = elim a [ ]

among_head : {i n : ℕ} {ns : List ℕ} → Among i (n ∷ ns) → (i ≡ n) ⊎ Among i ns
among_head (among_first s) = inl s
among_head (among_later a) = inr a

among_left : {i : ℕ} (xs ys : List ℕ) → Among i xs → Among i (xs ++ ys)
among_left [] ys a = elim a [ ]
among_left (x ∷ xs) ys (among_first s) = among_first s
among_left (x ∷ xs) ys (among_later a) = among_later (among_left xs ys a)

among_right : {i : ℕ} (xs ys : List ℕ) → Among i ys → Among i (xs ++ ys)
among_right [] ys a = a
among_right (x ∷ xs) ys a = among_later (among_right xs ys a)

pub among_either : {i : ℕ} (xs ys : List ℕ) → Among i (xs ++ ys) → Among i xs ⊎ Among i ys
among_either [] ys a = inr a
among_either (x ∷ xs) ys (among_first s) = inl (among_first s)
among_either (x ∷ xs) ys (among_later a) = ⊎_elim (λ b. inl (among_later b)) inr (among_either xs ys a)

among? : (i : ℕ) (ns : List ℕ) → Among i ns ⊎ (Among i ns → ⊥)
among? i [] = inr (λ a. nowhere a)
among? i (n ∷ ns) =
    ⊎_elim (λ s. inl (among_first s)) (λ d. ⊎_elim (λ a. inl (among_later a)) (λ e. inr (λ a. ⊎_elim d e (among_head a))) (among? i ns)) (cases_eq i n)

distinct_both : (xs ys : List ℕ) → Distinct xs → Distinct ys → ((i : ℕ) → Among i xs → Among i ys → ⊥) → Distinct (xs ++ ys)
distinct_both [] ys a b apart = b
distinct_both (x ∷ xs) ys (distinct_more h a) b apart =
    distinct_more (λ j. ⊎_elim h (apart x (among_first refl)) (among_either xs ys j)) (distinct_both xs ys a b (λ i j k. apart i (among_later j) k))

distinct_left : (xs ys : List ℕ) → Distinct (xs ++ ys) → Distinct xs
distinct_left [] ys d = distinct_none
distinct_left (x ∷ xs) ys (distinct_more h d) = distinct_more (λ a. h (among_left xs ys a)) (distinct_left xs ys d)

distinct_right : (xs ys : List ℕ) → Distinct (xs ++ ys) → Distinct ys
distinct_right [] ys d = d
distinct_right (x ∷ xs) ys (distinct_more h d) = distinct_right xs ys d

distinct_apart : {i : ℕ} (xs ys : List ℕ) → Distinct (xs ++ ys) → Among i xs → Among i ys → ⊥
distinct_apart [] ys d a b = elim a [ ]
distinct_apart (x ∷ xs) ys (distinct_more h d) (among_first s) b = h (subst (λ j. Among j (xs ++ ys)) s (among_right xs ys b))
distinct_apart (x ∷ xs) ys (distinct_more h d) (among_later a) b = distinct_apart xs ys d a b

-- a store less some cells

pub less_long : (ns : List ℕ) (m : Cells) → length (less ns m) ≡ length m
less_long [] m = refl
less_long (n ∷ ns) m = length-set (less ns m) n None ∙ less_long ns m

pub less_gone : (ns : List ℕ) (m : Cells) (i : ℕ) → Among i ns → at (less ns m) i ≡ None
less_gone [] m i a = absurd (nowhere a)
less_gone (n ∷ ns) m i a =
    ⊎_elim (λ s. subst (λ j. at (less (n ∷ ns) m) j ≡ None) (sym s) (at_cleared (less ns m) n))
    (λ b. ⊎_elim (λ z. z) (λ s. s ∙ less_gone ns m i b) (cleared_or_same (less ns m) i n)) (among_head a)

pub less_other : (ns : List ℕ) (m : Cells) (i : ℕ) → (Among i ns → ⊥) → at (less ns m) i ≡ at m i
less_other [] m i d = refl
less_other (n ∷ ns) m i d = at_other (less ns m) n i None (λ s. d (among_first s)) ∙ less_other ns m i (λ a. d (among_later a))

pub cleared_within : (cs : Cells) (n : ℕ) → Within (set cs n None) cs
cleared_within cs n i r e = ⊎_elim (λ z. absurd (some_none e z)) (λ s. sym s ∙ e) (cleared_or_same cs i n)

mutual
  fill_within : (a b : Cells) {v : Value} {t : Tree} {ns : List ℕ} → Within a b → Fills a v t ns → Fills b v t ns
  fill_within a b w (fills_plain p) = fills_plain p
  fill_within a b w (fills_cell {n = n} r e k) = fills_cell r (w n r e) (fills_within a b w k)

  pub fills_within : (a b : Cells) {vs : List Value} {ts : Trees} {ns : List ℕ} → Within a b → FillsAll a vs ts ns → FillsAll b vs ts ns
  fills_within a b w fills_none = fills_none
  fills_within a b w (fills_more k o q) = fills_more (fill_within a b w k) (fills_within a b w o) q

-- a cell of a footprint is live
mutual
  fill_live : {m : Cells} {v : Value} {t : Tree} {ns : List ℕ} (i : ℕ) → Fills m v t ns → Among i ns → at m i ≡ None → ⊥
  fill_live i (fills_plain p) a z = nowhere a
  fill_live {m} i (fills_cell r e k) a z = ⊎_elim (λ s. some_none e (subst (λ j. at m j ≡ None) s z)) (λ b. fills_live i k b z) (among_head a)

  fills_live : {m : Cells} {vs : List Value} {ts : Trees} {ns : List ℕ} (i : ℕ) → FillsAll m vs ts ns → Among i ns → at m i ≡ None → ⊥
  fills_live i fills_none a z = nowhere a
  fills_live i (fills_more {ks = ks} {ns = ns} k o q) a z =
      ⊎_elim (λ b. fill_live i k b z) (λ b. fills_live i o b z) (among_either ks ns (subst (λ l. Among i l) q a))

-- what is taken out, with its footprint
record Placed (cs : Cells) (vs : List Value) (ts : Trees) (after : Cells) : Type 0 where
  footprint : List ℕ
  fills : FillsAll cs vs ts footprint
  distinct : Distinct footprint
  gone : (i : ℕ) → Among i footprint → at after i ≡ None
  others : (i : ℕ) → (Among i footprint → ⊥) → at cs i ≡ at after i

placed : {cs after : Cells} {vs : List Value} {ts : Trees} → Out cs vs ts after → Placed cs vs ts after
placed out_none = record { footprint = []; fills = fills_none; distinct = distinct_none; gone = λ i a. absurd (nowhere a); others = λ i a. refl }
placed (out_plain p o) = let t = placed o in record { footprint = t.footprint; fills = fills_more (fills_plain p) t.fills refl; distinct = t.distinct; gone = t.gone; others = t.others }
placed {cs} {after} (out_cell {mid = mid} {n = n} r e k o) =
    let a = placed k in
    let b = placed o in
    let cleared : at mid n ≡ None = stays_free n (at_cleared cs n) k in
    record {
      footprint = n ∷ (a.footprint ++ b.footprint);
      fills = fills_more (fills_cell r e (fills_within (set cs n None) cs (cleared_within cs n) a.fills)) (fills_within mid cs (λ i q h. cleared_within cs n i q (was i q h k)) b.fills) refl;
      distinct = distinct_more
          (λ j. ⊎_elim (λ x. fills_live n a.fills x (at_cleared cs n)) (λ x. fills_live n b.fills x cleared) (among_either a.footprint b.footprint j))
          (distinct_both a.footprint b.footprint a.distinct b.distinct (λ i x y. fills_live i b.fills y (a.gone i x)));
      gone = λ i j.
          ⊎_elim (λ s. subst (λ z. at after z ≡ None) (sym s) (stays_free n cleared o))
          (λ x. ⊎_elim (λ y. stays_free i (a.gone i y) o) (b.gone i) (among_either a.footprint b.footprint x)) (among_head j);
      others = λ i j.
          sym (at_other cs n i None (λ s. j (among_first s))) ∙ (a.others i (λ x. j (among_later (among_left a.footprint b.footprint x))) ∙ b.others i (λ x. j (among_later (among_right a.footprint b.footprint x))));
    }

pub keeps_from_out : (m₀ m : Cells) (vs : List Value) (ts : Trees) → Out m vs ts m₀ → Keeps m₀ m vs ts
keeps_from_out m₀ m vs ts o = let t = placed o in record { long = sym (out_long o); footprint = t.footprint; fills = t.fills; distinct = t.distinct; new = t.gone; others = t.others }

-- the other way

-- a store cs, which holds the cells of the footprint as m does, less these cells
record TakenOut (cs : Cells) (vs : List Value) (ts : Trees) (ns : List ℕ) : Type 0 where
  after : Cells
  out : Out cs vs ts after
  gone : (i : ℕ) → Among i ns → at after i ≡ None
  others : (i : ℕ) → (Among i ns → ⊥) → at after i ≡ at cs i

distinct_head : {n : ℕ} {ns : List ℕ} → Distinct (n ∷ ns) → (Among n ns → ⊥) × Distinct ns
distinct_head (distinct_more h d) = (h, d)

mutual
  -- one value, before others
  take_first : (m cs : Cells) {v : Value} {t : Tree} {ks : List ℕ} → Fills m v t ks → Distinct ks → ((i : ℕ) → Among i ks → at cs i ≡ at m i) → TakenOut cs (v ∷ []) (more t none) ks
  take_first m cs (fills_plain p) d same = record { after = cs; out = out_plain p out_none; gone = λ i a. absurd (nowhere a); others = λ i a. refl }
  take_first m cs (fills_cell {n = n} {ns = ns} r e k) d same =
      let apart : (i : ℕ) → Among i ns → i ≡ n → ⊥ = λ i j s. (distinct_head d).0 (subst (λ z. Among z ns) s j) in
      let a = take_all m (set cs n None) k (distinct_head d).1 (λ i j. at_other cs n i None (apart i j) ∙ same i (among_later j)) in
      record {
        after = a.after;
        out = out_cell r (same n (among_first refl) ∙ e) a.out out_none;
        gone = λ i j. ⊎_elim (λ s. subst (λ z. at a.after z ≡ None) (sym s) (stays_free n (at_cleared cs n) a.out)) (a.gone i) (among_head j);
        others = λ i j. a.others i (λ x. j (among_later x)) ∙ at_other cs n i None (λ s. j (among_first s));
      }

  take_all : (m cs : Cells) {vs : List Value} {ts : Trees} {ns : List ℕ} → FillsAll m vs ts ns → Distinct ns → ((i : ℕ) → Among i ns → at cs i ≡ at m i) → TakenOut cs vs ts ns
  take_all m cs fills_none d same = record { after = cs; out = out_none; gone = λ i a. absurd (nowhere a); others = λ i a. refl }
  take_all m cs (fills_more {v = v} {vs = vs} {t = t} {ts = ts} {ks = ks} {ns = ns} k o q) d₀ same₀ =
      let d = subst Distinct q d₀ in
      let same : (i : ℕ) → Among i (ks ++ ns) → at cs i ≡ at m i = λ i j. same₀ i (subst (λ l. Among i l) (sym q) j) in
      let a = take_first m cs k (distinct_left ks ns d) (λ i j. same i (among_left ks ns j)) in
      let b = take_all m a.after o (distinct_right ks ns d) (λ i j. a.others i (λ x. distinct_apart ks ns d x j) ∙ same i (among_right ks ns j)) in
      record {
        after = b.after;
        out = in_front a.out b.out;
        gone = λ i j. ⊎_elim (λ y. stays_free i (a.gone i y) b.out) (b.gone i) (among_either ks ns (subst (λ l. Among i l) q j));
        others = λ i j₀.
            let j : Among i (ks ++ ns) → ⊥ = λ x. j₀ (subst (λ l. Among i l) (sym q) x) in
            b.others i (λ x. j (among_right ks ns x)) ∙ a.others i (λ x. j (among_left ks ns x));
      }
    where
      in_front : {x y z : Cells} {w : Value} {ws : List Value} {u : Tree} {us : Trees} → Out x (w ∷ []) (more u none) y → Out y ws us z → Out x (w ∷ ws) (more u us) z
      in_front (out_plain p out_none) b = out_plain p b
      in_front (out_cell r e k out_none) b = out_cell r e k b

pub out_from_keeps : (m₀ m : Cells) (vs : List Value) (ts : Trees) → Keeps m₀ m vs ts → Out m vs ts m₀
out_from_keeps m₀ m vs ts k =
    let t = take_all m m k.fills k.distinct (λ i j. refl) in
    let same : t.after ≡ m₀ = same_cells t.after m₀ (out_long t.out ∙ k.long)
    (λ i. ⊎_elim (λ a. t.gone i a ∙ sym (k.new i a)) (λ d. t.others i d ∙ k.others i d) (among? i k.footprint)) in
    subst (λ z. Out m vs ts z) same t.out

pub same_as_keeping : SameAsKeeping
same_as_keeping = record { keeps = keeps_from_out; out = out_from_keeps }

append_nothing : (ns : List ℕ) → ns ≡ ns ++ []
append_nothing [] = refl
append_nothing (n ∷ ns) = ap (λ z. n ∷ z) (append_nothing ns)

pub keeps_what_stands : KeepsWhatStands
keeps_what_stands = record {
  stands = λ m v t ns f d. record {
    long = sym (less_long ns m);
    footprint = ns;
    fills = fills_more f fills_none (append_nothing ns);
    distinct = d;
    new = λ i a. less_gone ns m i a;
    others = λ i a. sym (less_other ns m i a);
  };
}
