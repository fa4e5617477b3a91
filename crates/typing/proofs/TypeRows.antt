-- A type is told by its row of numbers.
use Rattle.std.proofs.Common.{◌≡◌, ℕ, Bool, true, false, cond, eqb, List, [], ◌∷◌, ◌++◌, get_or, sym, refl, ap, ◌∙◌, append_assoc, arith}
use Rattle.std.specs.Str.{bytes_eq}
use Rattle.std.proofs.lemmas.Bool.{eqb-true, eq-eqb, and_parts, and_from}
use Rattle.typing.specs.Types.{Ty, int, bool, sym as symbol, unit, datum, function, Tys, no_types, and_type, count, spelt, spelts, same_type, same_types}

pub same_bytes : (xs ys : List ℕ) → bytes_eq xs ys ≡ true → xs ≡ ys
same_bytes [] [] h = refl
same_bytes [] (y ∷ ys) h = cc
same_bytes (x ∷ xs) [] h = cc
same_bytes (x ∷ xs) (y ∷ ys) h = let b = and_parts (eqb x y) _ h in cc (eqb-true x y b.0, same_bytes xs ys b.1)

pub bytes_same : (xs : List ℕ) → bytes_eq xs xs ≡ true
bytes_same [] = refl
bytes_same (x ∷ xs) = and_from (eqb x x) _ (eq-eqb x x refl) (bytes_same xs)

tag : Ty → ℕ
tag int = 0
tag bool = 1
tag symbol = 2
tag unit = 3
tag (datum d) = 4
tag (function ts t) = 5

first : List ℕ → ℕ
first l = get_or l 0 0

tagged : (a : Ty) (r : List ℕ) → first (spelt a ++ r) ≡ tag a
unfolding tag first
tagged int r = refl
tagged bool r = refl
tagged symbol r = refl
tagged unit r = refl
tagged (datum d) r = refl
tagged (function ts t) r = refl

tags : (a b : Ty) (r s : List ℕ) → spelt a ++ r ≡ spelt b ++ s → tag a ≡ tag b
tags a b r s h = sym (tagged a r) ∙ ap first h ∙ tagged b s

mutual
  unfolding tag

  -- what stands behind is the same too
  row_of : (a b : Ty) (r s : List ℕ) → spelt a ++ r ≡ spelt b ++ s → (a ≡ b) × (r ≡ s)
  row_of int int r s h = (refl, cc)
  row_of int bool r s h = absurd (omega (arith, tags int bool r s h))
  row_of int symbol r s h = absurd (omega (arith, tags int symbol r s h))
  row_of int unit r s h = absurd (omega (arith, tags int unit r s h))
  row_of int (datum d) r s h = absurd (omega (arith, tags int (datum d) r s h))
  row_of int (function us u) r s h = absurd (omega (arith, tags int (function us u) r s h))
  row_of bool int r s h = absurd (omega (arith, tags bool int r s h))
  row_of bool bool r s h = (refl, cc)
  row_of bool symbol r s h = absurd (omega (arith, tags bool symbol r s h))
  row_of bool unit r s h = absurd (omega (arith, tags bool unit r s h))
  row_of bool (datum d) r s h = absurd (omega (arith, tags bool (datum d) r s h))
  row_of bool (function us u) r s h = absurd (omega (arith, tags bool (function us u) r s h))
  row_of symbol int r s h = absurd (omega (arith, tags symbol int r s h))
  row_of symbol bool r s h = absurd (omega (arith, tags symbol bool r s h))
  row_of symbol symbol r s h = (refl, cc)
  row_of symbol unit r s h = absurd (omega (arith, tags symbol unit r s h))
  row_of symbol (datum d) r s h = absurd (omega (arith, tags symbol (datum d) r s h))
  row_of symbol (function us u) r s h = absurd (omega (arith, tags symbol (function us u) r s h))
  row_of unit int r s h = absurd (omega (arith, tags unit int r s h))
  row_of unit bool r s h = absurd (omega (arith, tags unit bool r s h))
  row_of unit symbol r s h = absurd (omega (arith, tags unit symbol r s h))
  row_of unit unit r s h = (refl, cc)
  row_of unit (datum d) r s h = absurd (omega (arith, tags unit (datum d) r s h))
  row_of unit (function us u) r s h = absurd (omega (arith, tags unit (function us u) r s h))
  row_of (datum c) int r s h = absurd (omega (arith, tags (datum c) int r s h))
  row_of (datum c) bool r s h = absurd (omega (arith, tags (datum c) bool r s h))
  row_of (datum c) symbol r s h = absurd (omega (arith, tags (datum c) symbol r s h))
  row_of (datum c) unit r s h = absurd (omega (arith, tags (datum c) unit r s h))
  row_of (datum c) (datum d) r s h = (cc, cc)
  row_of (datum c) (function us u) r s h = absurd (omega (arith, tags (datum c) (function us u) r s h))
  row_of (function ts t) int r s h = absurd (omega (arith, tags (function ts t) int r s h))
  row_of (function ts t) bool r s h = absurd (omega (arith, tags (function ts t) bool r s h))
  row_of (function ts t) symbol r s h = absurd (omega (arith, tags (function ts t) symbol r s h))
  row_of (function ts t) unit r s h = absurd (omega (arith, tags (function ts t) unit r s h))
  row_of (function ts t) (datum d) r s h = absurd (omega (arith, tags (function ts t) (datum d) r s h))
  row_of (function ts t) (function us u) r s h =
      let n : count ts ≡ count us = cc in
      let e : (spelts ts ++ spelt t) ++ r ≡ (spelts us ++ spelt u) ++ s = cc in
      let f : spelts ts ++ (spelt t ++ r) ≡ spelts us ++ (spelt u ++ s) = sym (append_assoc (spelts ts) _ r) ∙ e ∙ append_assoc (spelts us) _ s in
      let k = rows_of ts us _ _ n f in
      let l = row_of t u r s k.1 in
      let a = k.0 in
      let b = l.0 in
      (cc, l.1)

  rows_of : (ts us : Tys) (r s : List ℕ) → count ts ≡ count us → spelts ts ++ r ≡ spelts us ++ s → (ts ≡ us) × (r ≡ s)
  rows_of no_types no_types r s n h = (refl, h)
  rows_of no_types (and_type u us) r s n h = absurd (omega arith)
  rows_of (and_type t ts) no_types r s n h = absurd (omega arith)
  rows_of (and_type t ts) (and_type u us) r s n h =
      let k = row_of t u _ _ (sym (append_assoc (spelt t) _ r) ∙ h ∙ append_assoc (spelt u) _ s) in
      let l = rows_of ts us r s (omega arith) k.1 in
      let a = k.0 in
      let b = l.0 in
      (cc, l.1)

pub same_type_law : (a b : Ty) → same_type a b ≡ true → a ≡ b
same_type_law a b h = (row_of a b [] [] (ap (λ (l : List ℕ). l ++ []) (same_bytes (spelt a) (spelt b) h))).0

pub type_same : (a : Ty) → same_type a a ≡ true
type_same a = bytes_same (spelt a)

pub same_types_law : (ts us : Tys) → same_types ts us ≡ true → ts ≡ us
same_types_law ts us h = as_long (eqb (count ts) (count us)) refl h
  where
    as_long : (b : Bool) → eqb (count ts) (count us) ≡ b → cond b (bytes_eq (spelts ts) (spelts us)) false ≡ true → ts ≡ us
    as_long true n k = (rows_of ts us [] [] (eqb-true (count ts) (count us) n) (ap (λ (l : List ℕ). l ++ []) (same_bytes (spelts ts) (spelts us) k))).0
    as_long false n k = let z : ◌≡◌ {A = ℕ} 0 1 = cc in absurd (omega arith)

pub types_same : (ts : Tys) → same_types ts ts ≡ true
types_same ts = rw (eq-eqb (count ts) (count ts) refl) (bytes_same (spelts ts))
