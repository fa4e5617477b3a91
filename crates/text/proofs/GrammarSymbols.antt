-- What stands between a symbol's quotes, in the grammar's words.
use Rattle.std.proofs.Common.{◌≡◌, ℕ, zero, suc, Bool, true, false, ◌⊎◌, List, [], ◌∷◌, ◌++◌, length, take, drop, Some, None, Option, refl, ap, subst, inl, inr, ne_eqb}
use Rattle.std.proofs.lemmas.Bool.Decides.{eqb_tells}
use Rattle.std.specs.Option.{option_map}
use Rattle.text.specs.declared.bytes.Inside.{Inside}
use Rattle.text.specs.declared.bytes.Inside.TheVariants.{Plain, Escape, Closed, Broken}
use Rattle.text.specs.Bytes.{after_backslash, part_inside, closing, closing_after}
use Rattle.text.specs.Grammar.{Quoted, none, plain, escape}

mapped_some : (o : Option ℕ) (n : ℕ) → option_map suc o ≡ Some n → (m : ℕ) × (o ≡ Some m) × (suc m ≡ n)
mapped_some None n e = absurd (cc)
mapped_some (Some m) n e = (m, refl, cc)

-- what comes next, with what the first bytes then are
data View : List ℕ → Inside → Type 0 where
  at_end : View [] Broken
  is_quote : {b : ℕ} {s : List ℕ} → b ≡ 39 → View (b ∷ s) Closed
  is_plain : {b : ℕ} {s : List ℕ} → (b ≡ 39 → ⊥) → (b ≡ 92 → ⊥) → View (b ∷ s) Plain
  is_escape : {b c : ℕ} {s : List ℕ} → b ≡ 92 → (c ≡ 39) ⊎ (c ≡ 92) → View (b ∷ c ∷ s) Escape
  is_broken : {b : ℕ} {s : List ℕ} → View (b ∷ s) Broken

at_backslash : (b : ℕ) (s : List ℕ) → b ≡ 92 → View (b ∷ s) (after_backslash s)
at_backslash b [] e = is_broken
at_backslash b (c ∷ s) e =
    elim (eqb_tells c 39) [
      | inl p ↦ rw p.0 (is_escape e (inl p.1))
      | inr n ↦
          elim (eqb_tells c 92) [ inl p ↦ rw (n.0, p.0) (is_escape e (inr p.1)) | inr m ↦ rw (n.0, m.0) is_broken ]
    ]

view : (s : List ℕ) → View s (part_inside s)
view [] = at_end
view (b ∷ s) =
    elim (eqb_tells b 39) [
      | inl p ↦ rw p.0 (is_quote p.1)
      | inr n ↦
          elim (eqb_tells b 92) [ inl p ↦ rw (n.0, p.0) (at_backslash b s p.1) | inr m ↦ rw (n.0, m.0) (is_plain n.1 m.1) ]
    ]

-- where the closing quote stands, with or without an escaped byte first
data Found : Bool → List ℕ → ℕ → Type 0 where
  found : {s : List ℕ} {n : ℕ} → Quoted (take n s) → drop n s ≡ 39 ∷ drop (suc n) s → Found false s n
  behind : {c : ℕ} {s : List ℕ} {n : ℕ} → Found false s n → Found true (c ∷ s) (suc n)

escaped : (b m : ℕ) (s : List ℕ) → View (b ∷ s) Escape → Found true s m → Found false (b ∷ s) (suc m)
escaped b zero s v f = elim f [ ]
escaped b (suc n) [] v f = elim v [ ]
escaped b (suc n) (c ∷ s) (is_escape e f) (behind (found q d)) = found (escape e f q) d

further : (b : ℕ) (s : List ℕ) (m : ℕ) → (b ≡ 39 → ⊥) → (b ≡ 92 → ⊥) → Found false s m → Found false (b ∷ s) (suc m)
further b s m x y (found q d) = found (plain x y q) d

-- by what comes next, from where the closing quote stands in the rest
onward : (b : ℕ) (s : List ℕ) (n : ℕ) (k : Inside) → View (b ∷ s) k → part_inside (b ∷ s) ≡ k → closing_after false (b ∷ s) ≡ Some n
    → ((m : ℕ) → closing_after false s ≡ Some m → Found false s m) → ((m : ℕ) → closing_after true s ≡ Some m → Found true s m) → Found false (b ∷ s) n
onward b s n Broken v p e f g = absurd (let h : None ≡ Some n = rw (p, closing_after) at e in cc)
onward b s n Closed (is_quote q) p e f g =
    let h : Some 0 ≡ Some n = rw (p, closing_after) at e in
    let z : 0 ≡ n = cc in
    subst (Found false (b ∷ s)) z (found none (ap (λ x. x ∷ s) q))
onward b s n Plain (is_plain x y) p e f g =
    let h : option_map suc (closing_after false s) ≡ Some n = rw (p, closing_after) at e in
    let m = mapped_some (closing_after false s) n h in
    subst (Found false (b ∷ s)) m.2 (further b s m.0 x y (f m.0 m.1))
onward b s n Escape v p e f g =
    let h : option_map suc (closing_after true s) ≡ Some n = rw (p, closing_after) at e in
    let m = mapped_some (closing_after true s) n h in
    subst (Found false (b ∷ s)) m.2 (escaped b m.0 s v (g m.0 m.1))

closes : (skip : Bool) (s : List ℕ) (n : ℕ) → closing_after skip s ≡ Some n → Found skip s n
closes skip [] n e = absurd (cc)
closes true (c ∷ s) n e =
    let m = mapped_some (closing_after false s) n e in
    subst (Found true (c ∷ s)) m.2 (behind (closes false s m.0 m.1))
closes false (b ∷ s) n e = onward b s n (part_inside (b ∷ s)) (view (b ∷ s)) refl e (closes false s) (closes true s)

at_found : {s : List ℕ} {n : ℕ} → Found false s n → Quoted (take n s) × (drop n s ≡ 39 ∷ drop (suc n) s)
at_found (found q d) = (q, d)

pub closing_quoted : (s : List ℕ) (n : ℕ) → closing s ≡ Some n → Quoted (take n s) × (drop n s ≡ 39 ∷ drop (suc n) s)
closing_quoted s n e = at_found (closes false s n e)

pub quoted_closing : {s : List ℕ} (rest : List ℕ) → Quoted s → closing (s ++ 39 ∷ rest) ≡ Some (length s)
quoted_closing rest none = refl
quoted_closing rest (plain {b = b} {s = s} x y q) = rw (ne_eqb b 39 x, ne_eqb b 92 y, closing_after) (ap (option_map suc) (quoted_closing rest q))
quoted_closing rest (escape {b = b} {c = c} {s = s} e (inl f) q) = rw (e, f) (ap (λ o. option_map suc (option_map suc o)) (quoted_closing rest q))
quoted_closing rest (escape {b = b} {c = c} {s = s} e (inr f) q) = rw (e, f) (ap (λ o. option_map suc (option_map suc o)) (quoted_closing rest q))
