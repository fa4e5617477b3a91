-- The first of some literals with given bytes, and an index that holds them.
use Rattle.std.proofs.Common.{◌≡◌, ℕ, ◌<◌, Bool, true, false, cond, ◌⊎◌, List, [], ◌∷◌, ◌++◌, Some, None, Option, inl, inr, sym, refl, ap, ◌∙◌, arith}
use Rattle.std.proofs.lemmas.Bool.{cases_eq}
use Rattle.std.proofs.lemmas.Slice.Eq.{bytes_eq-Decides}
use Rattle.std.specs.Str.{bytes_eq}
use Rattle.layout.specs.Literals.{Literal, place_of_first}
use Rattle.layout.specs.declared.word.Word.{Word}
use Rattle.symbols.specs.Indexing.{word_in, bytes_in, Finds, Adds, first_of, Holds}
use Rattle.symbols.specs.Parts.{quoted}
use Rattle.symbols.specs.declared.index.Index.{Index}

pub append_some : (xs ys : List Literal) (w : List ℕ) (p : ℕ) → first_of xs w ≡ Some p → first_of (xs ++ ys) w ≡ Some p
append_some [] ys w p e = absurd (cc)
append_some (x ∷ xs) ys w p e = go (bytes_eq x.bytes w) e (append_some xs ys w p)
  where
    go : (b : Bool) → cond b (Some x.place) (first_of xs w) ≡ Some p → (first_of xs w ≡ Some p → first_of (xs ++ ys) w ≡ Some p) → cond b (Some x.place) (first_of (xs ++ ys) w) ≡ Some p
    go true e more = e
    go false e more = more e

pub append_none : (xs ys : List Literal) (w : List ℕ) → first_of xs w ≡ None → first_of (xs ++ ys) w ≡ first_of ys w
append_none [] ys w e = refl
append_none (x ∷ xs) ys w e = go (bytes_eq x.bytes w) e (append_none xs ys w)
  where
    go : (b : Bool) → cond b (Some x.place) (first_of xs w) ≡ None → (first_of xs w ≡ None → first_of (xs ++ ys) w ≡ first_of ys w) → cond b (Some x.place) (first_of (xs ++ ys) w) ≡ first_of ys w
    go true e more = absurd (cc)
    go false e more = more e

pub place_is : (xs : List Literal) (w : List ℕ) (p : ℕ) → first_of xs w ≡ Some p → place_of_first xs w ≡ p
place_is [] w p e = absurd (cc)
place_is (x ∷ xs) w p e = go (bytes_eq x.bytes w) e (place_is xs w p)
  where
    go : (b : Bool) → cond b (Some x.place) (first_of xs w) ≡ Some p → (first_of xs w ≡ Some p → place_of_first xs w ≡ p) → cond b x.place (place_of_first xs w) ≡ p
    go true e more = cc
    go false e more = more e

same_bytes : (w : List ℕ) → bytes_eq w w ≡ true
same_bytes w = (bytes_eq-Decides w w).1 refl

pub single : (l : Literal) → first_of (l ∷ []) l.bytes ≡ Some l.place
single l = ap (λ b. cond b (Some l.place) None) (same_bytes l.bytes)

single_only : (l : Literal) (w : List ℕ) (p : ℕ) → first_of (l ∷ []) w ≡ Some p → l.bytes ≡ w
single_only l w p e = go (bytes_eq l.bytes w) refl e
  where
    go : (b : Bool) → bytes_eq l.bytes w ≡ b → cond b (Some l.place) None ≡ Some p → l.bytes ≡ w
    go true h e = (bytes_eq-Decides l.bytes w).0 h
    go false h e = absurd (cc)

-- A literal more whose bytes are known, and one whose bytes are new.
module _ (text : List ℕ) (index : Index) (seen : List Literal) (h : Holds text index seen) (l : Literal) where
  module _ (w : Word) (found : Finds text index l.bytes (Some w)) where
    known : first_of seen l.bytes ≡ Some w.place
    known = ap (first_of seen) (sym found.2) ∙ h.first found.0 found.1 ∙ ap (λ x. Some x.place) (sym found.3)

    pub known_place : w.place ≡ place_of_first (seen ++ l ∷ []) l.bytes
    known_place = sym (place_is (seen ++ l ∷ []) l.bytes w.place (append_some seen (l ∷ []) l.bytes w.place known))

    pub known_holds : Holds text index (seen ++ l ∷ [])
    known_holds = record {
      first = λ k low. append_some seen (l ∷ []) (bytes_in text index k) (word_in index k).place (h.first k low);
      all = λ v p e. go v p e (first_of seen v) refl;
    }
      where
        go : (v : List ℕ) (p : ℕ) → first_of (seen ++ l ∷ []) v ≡ Some p → (o : Option ℕ) → first_of seen v ≡ o → (k : ℕ) × (k < index.count) × (bytes_in text index k ≡ v)
        go v p e (Some q) is = h.all v q is
        go v p e None is =
            let same = single_only l v p (sym (append_none seen (l ∷ []) v is) ∙ e) in
            absurd (let z : ◌≡◌ {A = Option ℕ} None (Some w.place) = sym is ∙ ap (first_of seen) (sym same) ∙ known in cc)

  module _ (missing : Finds text index l.bytes None) where
    unknown : first_of seen l.bytes ≡ None
    unknown = go (first_of seen l.bytes) refl
      where
        go : (o : Option ℕ) → first_of seen l.bytes ≡ o → o ≡ None
        go None e = refl
        go (Some p) e = let k = h.all l.bytes p e in absurd (missing k.0 k.1 k.2)

    pub new_place : l.place ≡ place_of_first (seen ++ l ∷ []) l.bytes
    new_place = sym (place_is (seen ++ l ∷ []) l.bytes l.place (append_none seen (l ∷ []) l.bytes unknown ∙ single l))

    pub new_holds : (new : Index) (w : Word) → Adds text index new w → quoted text w ≡ l.bytes → w.place ≡ l.place → Holds text new (seen ++ l ∷ [])
    new_holds new w adds bytes place = record {
      first = λ k low. at k low (cases_eq k index.count);
      all = λ v p e. go v p e (first_of seen v) refl;
    }
      where
        old : (k : ℕ) → k < index.count → bytes_in text new k ≡ bytes_in text index k
        old k low = ap (quoted text) (adds.others k low)

        last : bytes_in text new index.count ≡ l.bytes
        last = ap (quoted text) adds.added ∙ bytes

        at : (k : ℕ) → k < new.count → (k ≡ index.count) ⊎ (k ≡ index.count → ⊥) → first_of (seen ++ l ∷ []) (bytes_in text new k) ≡ Some (word_in new k).place
        at k low (inl e) =
            ap (λ j. first_of (seen ++ l ∷ []) (bytes_in text new j)) e ∙ ap (first_of (seen ++ l ∷ [])) last ∙ append_none seen (l ∷ []) l.bytes unknown ∙ single l
            ∙ ap Some (sym place) ∙ ap (λ x. Some x.place) (sym adds.added) ∙ ap (λ j. Some (word_in new j).place) (sym e)
        at k low (inr n) =
            let under : k < index.count = omega (arith, adds.count) in
            ap (first_of (seen ++ l ∷ [])) (old k under) ∙ append_some seen (l ∷ []) (bytes_in text index k) (word_in index k).place (h.first k under) ∙ ap (λ x. Some x.place) (sym (adds.others k under))

        go : (v : List ℕ) (p : ℕ) → first_of (seen ++ l ∷ []) v ≡ Some p → (o : Option ℕ) → first_of seen v ≡ o → (k : ℕ) × (k < new.count) × (bytes_in text new k ≡ v)
        go v p e (Some q) is =
            let k = h.all v q is in
            let low = k.1 in
            (k.0, omega (arith, adds.count), old k.0 k.1 ∙ k.2)
        go v p e None is = (index.count, omega (arith, adds.count), last ∙ single_only l v p (sym (append_none seen (l ∷ []) v is) ∙ e))

-- nothing is held at first
pub none_held : (text : List ℕ) (index : Index) → index.count ≡ 0 → Holds text index []
none_held text index e = record { first = λ k low. absurd (omega arith); all = λ w p h. absurd (cc) }
