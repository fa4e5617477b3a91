-- A symbol's text, byte by byte.
use Rattle.std.proofs.Common.{◌≡◌, ℕ, ◌+◌, ◌<◌, ◌≤◌, Bool, true, false, ◌||◌, eqb, List, [], ◌∷◌, ◌++◌, length, get_or, take, drop, set, sym, refl, ap, ◌∙◌, ⊎_elim, add-one, arith, drop-cons}
use Rattle.std.proofs.lemmas.List.{append_assoc, append-nil, length-append, length-take-le, length-set, take_more_set, take-append-drop, drop-set-lt, drop_all}
use Rattle.std.proofs.lemmas.Bool.{eq-eqb, ne_eqb, or_left, or_right}
use Rattle.basis.specs.Printing.{goes, unescaped_after, unescaped}
use Rattle.basis.specs.PrintingLaws.{Literal, none, plain, escape, escaped, Unescapes}

-- one byte of the body, that goes or stays
module _ (body : List ℕ) (i : ℕ) (lt : i < length body) (e t : Bool) (g : t ≡ goes e (get_or body i 0)) where
  pub gone : t ≡ true → unescaped_after e (drop i body) ≡ unescaped_after t (drop (i + 1) body)
  gone h = let k : true ≡ goes e (get_or body i 0) = sym h ∙ g in rw (h, add-one, drop-cons body i 0 lt) (rw (← k, unescaped_after) refl)

  pub stays : t ≡ false → unescaped_after e (drop i body) ≡ get_or body i 0 ∷ unescaped_after t (drop (i + 1) body)
  stays h = let k : false ≡ goes e (get_or body i 0) = sym h ∙ g in rw (h, add-one, drop-cons body i 0 lt) (rw (← k, unescaped_after) refl)

-- the text so far, before what is still to come, is the whole text; behind it the slice is as it was
pub record Unescaping (body : List ℕ) (size : ℕ) (before : List ℕ) (e : Bool) (i at : ℕ) (out : List ℕ) : Type 0 where
  pub text : take at out ++ unescaped_after e (drop i body) ≡ unescaped body
  pub sized : size ≡ length (unescaped body)
  pub room : size ≤ length out
  pub within : at ≤ size
  pub behind : drop size out ≡ drop size before

module _ (body : List ℕ) (size : ℕ) (before : List ℕ) (e : Bool) (i at : ℕ) (out : List ℕ) (u : Unescaping body size before e i at out) (lt : i < length body) (t : Bool) (g : t ≡ goes e (get_or body i 0)) where
  pub skipped : t ≡ true → Unescaping body size before t (i + 1) at out
  skipped h = record {
    text = ap (λ s. take at out ++ s) (sym (gone body i lt e t g h)) ∙ u.text;
    sized = u.sized;
    room = u.room;
    within = u.within;
    behind = u.behind;
  }

  -- a byte that stays has its place
  pub place : t ≡ false → at < size
  place h =
      let n = ap length u.text in
      let m = length-append (take at out) (unescaped_after e (drop i body)) in
      let k = length-take-le at out (omega (arith, u.within, u.room)) in
      let l = ap length (stays body i lt e t g h) in
      omega (arith, u.sized)

  pub written : t ≡ false → Unescaping body size before t (i + 1) (at + 1) (set out at (get_or body i 0))
  written h =
      let p = place h in
      let b = get_or body i 0 in
      let rest = unescaped_after t (drop (i + 1) body) in
      record {
        text = ap (λ s. s ++ rest) (take_more_set out at b (omega (arith, u.room)))
            ∙ append_assoc (take at out) (b ∷ []) rest
            ∙ ap (λ s. take at out ++ s) (sym (stays body i lt e t g h))
            ∙ u.text;
        sized = u.sized;
        room = omega (arith, length-set out at b, u.room);
        within = omega arith;
        behind = drop-set-lt size out at b p ∙ u.behind;
      }

pub end : (body : List ℕ) (size : ℕ) (before : List ℕ) (e : Bool) (i at : ℕ) (out : List ℕ) → Unescaping body size before e i at out → length body ≤ i → out ≡ unescaped body ++ drop size before
end body size before e i at out u h =
    let none = ap (unescaped_after e) (drop_all i body h) in
    let t : take at out ≡ unescaped body = sym (append-nil (take at out)) ∙ ap (λ s. take at out ++ s) (sym none) ∙ u.text in
    let n : at ≡ size = omega (arith, ap length t, length-take-le at out (omega (arith, u.within, u.room)), u.sized) in
    sym (take-append-drop at out) ∙ ap (λ s. s ++ drop at out) t ∙ ap (λ k. unescaped body ++ drop k out) n ∙ ap (λ s. unescaped body ++ s) u.behind

-- the law of literals
plain_byte : (b : ℕ) (s t : List ℕ) → eqb b 39 ≡ false → eqb b 92 ≡ false → Unescapes s t → Unescapes (b ∷ s) (b ∷ t)
plain_byte b s t q k u = record { there = rw (k, unescaped_after) (ap (λ r. b ∷ r) u.there); back = rw (q, k, escaped) (ap (λ r. b ∷ r) u.back) }

escaped_byte : (c : ℕ) (s t : List ℕ) → (eqb c 39 || eqb c 92) ≡ true → Unescapes s t → Unescapes (92 ∷ c ∷ s) (c ∷ t)
escaped_byte c s t e u = record { there = ap (λ r. c ∷ r) u.there; back = rw (e, escaped) (ap (λ r. 92 ∷ c ∷ r) u.back) }

pub unescapes : (body text : List ℕ) → Literal body text → Unescapes body text
unescapes _ _ none = record { there = refl; back = refl }
unescapes _ _ (plain {b} {s} {t} q k l) = plain_byte b s t (ne_eqb b 39 q) (ne_eqb b 92 k) (unescapes s t l)
unescapes _ _ (escape {c} {s} {t} e l) =
    escaped_byte c s t (⊎_elim (λ p. or_left (eqb c 39) (eqb c 92) (eq-eqb c 39 p)) (λ p. or_right (eqb c 39) (eqb c 92) (eq-eqb c 92 p)) e) (unescapes s t l)
