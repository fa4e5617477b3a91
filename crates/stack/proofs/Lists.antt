-- Lists from both ends: the first n entries of a list, and the same read backwards.
use Rattle.std.proofs.Common.{◌≡◌, ℕ, zero, suc, ◌+◌, ◌-◌, ◌<◌, List, [], ◌∷◌, ◌++◌, reverse, length, get_or, take, drop, set, sym, refl, ap, ◌∙◌, append_assoc, arith, length-drop, take-append-drop, drop_at}
use mathlib.Core.List.{reverse-append}
use lib.ListN.{length-reverse}
use lib.Seq.{set_split, set-get_or, set_at}

-- a number of entries past the end counts as all of them
pub take_counted : {X : Type 0} → (n : ℕ) (xs : List X) (m : ℕ) → m ≡ length (take n xs) → take n xs ≡ take m xs
take_counted zero xs m e = let z : m ≡ 0 = omega arith in rw z refl
take_counted (suc n) [] m e = let z : m ≡ 0 = omega arith in rw z refl
take_counted (suc n) (x ∷ xs) zero e = absurd (omega arith)
take_counted (suc n) (x ∷ xs) (suc m) e = ap (λ t. x ∷ t) (take_counted n xs m (omega arith))

-- the first n, read backwards, are what is left behind the others
pub reverse_take : {X : Type 0} → (n : ℕ) (xs : List X) → reverse (take n xs) ≡ drop (length xs - n) (reverse xs)
reverse_take n xs =
    let parts : reverse xs ≡ reverse (drop n xs) ++ reverse (take n xs) = ap reverse (sym (take-append-drop n xs)) ∙ reverse-append (take n xs) (drop n xs) in
    sym (ap (drop (length xs - n)) parts ∙ drop_at (reverse (drop n xs)) (reverse (take n xs)) (length xs - n) (simp (length-reverse, length-drop)))

reverse_around : {X : Type 0} → (us : List X) (y : X) (vs : List X) → reverse (us ++ y ∷ vs) ≡ reverse vs ++ y ∷ reverse us
reverse_around us y vs = reverse-append us (y ∷ vs) ∙ ap (λ q. q ++ reverse us) (reverse-append (y ∷ []) vs) ∙ append_assoc (reverse vs) (y ∷ []) (reverse us)

-- a write at i is one at d when read backwards
pub reverse_set : {X : Type 0} → (xs : List X) (i d : ℕ) (x : X) → i + d + 1 ≡ length xs → reverse (set xs i x) ≡ set (reverse xs) d x
reverse_set xs i d x e =
    let us = take i xs in
    let vs = drop (suc i) xs in
    let y = get_or xs i x in
    let lt : i < length xs = omega arith in
    let whole : xs ≡ us ++ y ∷ vs = sym (set-get_or xs i x) ∙ set_split xs i y lt in
    let far : length (reverse vs) ≡ d = simp (length-reverse, length-drop) (omega arith) in
    ap reverse (set_split xs i x lt) ∙ reverse_around us x vs ∙ sym (ap (λ q. set (reverse q) d x) whole ∙ ap (λ q. set q d x) (reverse_around us y vs) ∙ set_at (reverse vs) y (reverse us) x d far)
