-- The table of functions, by lists.
use Rattle.std.proofs.Common.{◌≡◌, ℕ, zero, suc, ◌+◌, ◌<◌, ◌≤◌, Bool, true, false, cond, ltb, ◌⊎◌, Some, None, Option, List, [], ◌∷◌, ◌++◌, length, get_or, take, drop, set, sym, refl, ap, ◌∙◌, inl, inr, add-one, arith, lt-ltb, le-ltb}
use Rattle.std.proofs.lemmas.List.{length-take-le, get_or-take, length-set, length-append, take-append-drop, set-append_left, set_split, append_assoc, length-take}
use Rattle.std.proofs.lemmas.Bool.{cases_lt}
use Rattle.std.proofs.lemmas.List.Recursion.{is_position_or_len}
use Rattle.std.specs.List.{position_or_len}
use Rattle.std.specs.Option.{unwrap_or}
use Rattle.layout.specs.Tabling.{placed}
use Rattle.layout.specs.declared.function.Functions.{Functions}
use Rattle.layout.specs.declared.function.Half.{Half}
use Rattle.layout.specs.declared.word.Word.{Word}
use Rattle.parser.specs.Noting.{fits_word, given_word, bare_word, noted_in, position}

module _ {E : Type 0} (test : E → Bool) where
  pub position_within : (xs : List E) → position test xs ≤ length xs
  position_within [] = omega arith
  position_within (x ∷ xs) = go (test x) (position_within xs)
    where
      go : (b : Bool) → position test xs ≤ length xs → cond b zero (suc (position test xs)) ≤ suc (length xs)
      go true h = omega arith
      go false h = omega arith

  -- the number of the first that passes, as the library finds it
  pub position_or : (xs : List E) (n : ℕ) → n ≡ length xs → (o : Option ℕ) → o ≡ cond (ltb (position_or_len test xs) (length xs)) (Some (position_or_len test xs)) None → unwrap_or o n ≡ position test xs
  position_or xs n e o is = go (cases_lt (position test xs) (length xs))
    where
      same : position test xs ≡ position_or_len test xs
      same = is_position_or_len (position test) test refl (λ y ys. let up : suc (position test ys) ≡ 1 + position test ys = omega arith in ap (λ m. cond (test y) 0 m) up) xs

      turned : o ≡ cond (ltb (position test xs) (length xs)) (Some (position test xs)) None
      turned = is ∙ ap (λ p. cond (ltb p (length xs)) (Some p) None) (sym same)

      go : (position test xs < length xs) ⊎ (length xs ≤ position test xs) → unwrap_or o n ≡ position test xs
      go (inl h) = ap (λ x. unwrap_or x n) (turned ∙ ap (λ b. cond b (Some (position test xs)) None) (lt-ltb (position test xs) (length xs) h))
      go (inr h) =
          let most = position_within xs in
          let end : n ≡ position test xs = omega arith in
          ap (λ x. unwrap_or x n) (turned ∙ ap (λ b. cond b (Some (position test xs)) None) (le-ltb (position test xs) (length xs) h)) ∙ end

  module _ (fill : E → E) (new : E) where
    -- what fits is filled in its place
    pub placed_hit : (xs : List E) (d : E) → position test xs < length xs → placed test fill new xs ≡ set xs (position test xs) (fill (get_or xs (position test xs) d))
    placed_hit [] d h = absurd (none h)
      where
        none : 0 < 0 → ⊥
        none h = omega arith
    placed_hit (x ∷ xs) d h = go (test x) h (placed_hit xs d)
      where
        go : (b : Bool) → cond b zero (suc (position test xs)) < suc (length xs) → (position test xs < length xs → placed test fill new xs ≡ set xs (position test xs) (fill (get_or xs (position test xs) d)))
            → cond b (fill x ∷ xs) (x ∷ placed test fill new xs) ≡ set (x ∷ xs) (cond b zero (suc (position test xs))) (fill (get_or (x ∷ xs) (cond b zero (suc (position test xs))) d))
        go true h more = refl
        go false h more = ap (λ l. x ∷ l) (more (omega arith))

    -- where nothing fits, a new one stands at the end
    pub placed_miss : (xs : List E) → length xs ≤ position test xs → placed test fill new xs ≡ xs ++ fill new ∷ []
    placed_miss [] h = refl
    placed_miss (x ∷ xs) h = go (test x) h (placed_miss xs)
      where
        go : (b : Bool) → suc (length xs) ≤ cond b zero (suc (position test xs)) → (length xs ≤ position test xs → placed test fill new xs ≡ xs ++ fill new ∷ []) → cond b (fill x ∷ xs) (x ∷ placed test fill new xs) ≡ x ∷ (xs ++ fill new ∷ [])
        go true h more = absurd (none h)
          where
            none : suc (length xs) ≤ 0 → ⊥
            none h = omega arith
        go false h more = ap (λ l. x ∷ l) (more (omega arith))

    -- in a table of which so many entries are used
    pub table_hit_length : (entries : List E) (count i : ℕ) (d : E) → count ≤ length entries → i ≡ position test (take count entries) → i < count → count ≡ length (placed test fill new (take count entries))
    table_hit_length entries count i d most is h =
        let long = length-take-le count entries most in
        let p = placed_hit (take count entries) d (omega arith) in
        omega (arith, ap length p, length-set (take count entries) (position test (take count entries)) (fill (get_or (take count entries) (position test (take count entries)) d)))

    pub table_hit : (entries : List E) (count i : ℕ) (e d : E) → count ≤ length entries → i ≡ position test (take count entries) → i < count → e ≡ fill (get_or entries i d)
        → placed test fill new (take count entries) ++ drop (length (placed test fill new (take count entries))) entries ≡ set entries i e
    table_hit entries count i e d most is h e_is =
        let used = take count entries in
        let long = length-take-le count entries most in
        let same : fill (get_or used (position test used) d) ≡ e = ap (λ j. fill (get_or used j d)) (sym is) ∙ ap fill (get_or-take count entries i d h) ∙ sym e_is in
        let p : placed test fill new used ≡ set used i e = placed_hit used d (omega arith) ∙ ap (λ x. set used (position test used) x) same ∙ ap (λ j. set used j e) (sym is) in
        let size = table_hit_length entries count i d most is h in
        ap (λ l. l ++ drop (length (placed test fill new used)) entries) p
        ∙ ap (λ n. set used i e ++ drop n entries) (sym size)
        ∙ sym (set-append_left used (drop count entries) i e (omega arith))
        ∙ ap (λ l. set l i e) (take-append-drop count entries)

    pub table_miss_length : (entries : List E) (count i : ℕ) → count < length entries → i ≡ position test (take count entries) → count ≤ i → count + 1 ≡ length (placed test fill new (take count entries))
    table_miss_length entries count i most is h =
        let long = length-take-le count entries (omega arith) in
        let p = placed_miss (take count entries) (omega arith) in
        omega (arith, ap length p, length-append (take count entries) (fill new ∷ []))

    pub table_miss : (entries : List E) (count i : ℕ) (e : E) → count < length entries → i ≡ position test (take count entries) → count ≤ i → e ≡ fill new
        → placed test fill new (take count entries) ++ drop (length (placed test fill new (take count entries))) entries ≡ set entries count e
    table_miss entries count i e most is h e_is =
        let used = take count entries in
        let long = length-take-le count entries (omega arith) in
        let p : placed test fill new used ≡ used ++ e ∷ [] = placed_miss used (omega arith) ∙ ap (λ x. used ++ x ∷ []) (sym e_is) in
        let size = table_miss_length entries count i most is h in
        ap (λ l. l ++ drop (length (placed test fill new used)) entries) p
        ∙ ap (λ n. (used ++ e ∷ []) ++ drop n entries) (sym size)
        ∙ append_assoc used (e ∷ []) (drop (count + 1) entries)
        ∙ ap (λ n. used ++ e ∷ drop n entries) (add-one count)
        ∙ sym (set_split entries count e most)

-- a half of a function adds one entry at most
pub placed_length : {E : Type 0} (test : E → Bool) (fill : E → E) (new : E) (xs : List E) → length (placed test fill new xs) ≤ suc (length xs)
placed_length test fill new [] = omega arith
placed_length test fill new (x ∷ xs) = go (test x) (placed_length test fill new xs)
  where
    go : (b : Bool) → length (placed test fill new xs) ≤ suc (length xs) → length (cond b (fill x ∷ xs) (x ∷ placed test fill new xs)) ≤ suc (suc (length xs))
    go true h = omega arith
    go false h = omega arith

pub noted_count : (text : List ℕ) (half : Half) (w : Word) (k : ℕ) (f : Functions) → (noted_in text half w k f).count ≤ f.count + 1
noted_count text half w k f =
    let more = placed_length (fits_word text half w) (given_word half k) (bare_word w) (take f.count f.entries) in
    let size = length-take f.count f.entries in
    omega arith
