-- What the next part does to the bytes inside a symbol.
use Rattle.std.proofs.Common.{◌≡◌, ℕ, suc, ◌+◌, ◌-◌, ◌<◌, Bool, true, false, cond, eqb, List, [], ◌∷◌, length, take, drop, Some, None, Option, refl, ap, ◌∙◌, arith, length-drop}
use Rattle.std.proofs.lemmas.List.{drop-drop, take_rest}
use Rattle.std.specs.Option.{option_map}
use Rattle.text.specs.declared.bytes.Inside.TheVariants.{Plain, Escape, Closed, Broken}
use Rattle.text.specs.Bytes.{part_inside, closing, closing_after}

broken : (x : List ℕ) → Broken ≡ part_inside x → closing x ≡ None
broken [] e = refl
broken (b ∷ x) e = rw (← e, closing_after) refl

plain : (x : List ℕ) → Plain ≡ part_inside x → (0 < length x) × (closing x ≡ option_map suc (closing (drop 1 x)))
plain [] e = absurd (let z : ◌≡◌ {A = ℕ} 0 1 = cc in omega arith)
plain (b ∷ x) e = (omega arith, rw (← e, closing_after) refl)

escape : (x : List ℕ) → Escape ≡ part_inside x → (1 < length x) × (closing x ≡ option_map suc (option_map suc (closing (drop 2 x))))
escape [] e = absurd (let z : ◌≡◌ {A = ℕ} 0 1 = cc in omega arith)
escape (b ∷ []) e = absurd (go (eqb b 39) (eqb b 92) e)
  where
    go : (p q : Bool) → Escape ≡ cond p Closed (cond q Broken Plain) → ⊥
    go true q e = let z : ◌≡◌ {A = ℕ} 0 1 = cc in omega arith
    go false true e = let z : ◌≡◌ {A = ℕ} 0 1 = cc in omega arith
    go false false e = let z : ◌≡◌ {A = ℕ} 0 1 = cc in omega arith
escape (b ∷ d ∷ x) e = (omega arith, rw (← e, closing_after) refl)

-- n bytes more
abbrev pub further : ℕ → Option ℕ → Option ℕ
further n None = None
further n (Some k) = Some (n + k)

further_one : (n : ℕ) (o : Option ℕ) → further n (option_map suc o) ≡ further (n + 1) o
further_one n None = refl
further_one n (Some k) = ap Some (omega arith)

module _ (s : List ℕ) (n : ℕ) where
  pub broken_stop : Broken ≡ part_inside (take (length s - n) (drop n s)) → closing (drop n s) ≡ None
  broken_stop e = broken (drop n s) (e ∙ ap part_inside (take_rest s n))

  pub plain_step : Plain ≡ part_inside (take (length s - n) (drop n s)) → (n < length s) × (further n (closing (drop n s)) ≡ further (n + 1) (closing (drop (n + 1) s)))
  plain_step e =
      let p = plain (drop n s) (e ∙ ap part_inside (take_rest s n)) in
      (omega (arith, p.0, length-drop n s), ap (further n) p.1 ∙ further_one n _ ∙ rw drop-drop)

  pub escaped_step : Escape ≡ part_inside (take (length s - n) (drop n s)) → (n + 1 < length s) × (further n (closing (drop n s)) ≡ further (n + 2) (closing (drop (n + 2) s)))
  escaped_step e =
      let p = escape (drop n s) (e ∙ ap part_inside (take_rest s n)) in
      let two : n + 1 + 1 ≡ n + 2 = omega arith in
      (omega (arith, p.0, length-drop n s), ap (further n) p.1 ∙ further_one n _ ∙ further_one (n + 1) _ ∙ rw (drop-drop, two))
