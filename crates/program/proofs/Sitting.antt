-- What stands in a list from a place on.
use Rattle.std.proofs.Common.{◌≡◌, ℕ, zero, suc, ◌+◌, List, [], ◌∷◌, ◌++◌, length, get_or, drop, sym, refl, ap, ◌∙◌, append_assoc, add-one, arith}
use lib.Seq.{drop-append_seam}
use Rattle.std.proofs.lemmas.List.{drop-drop}

-- from place i on stand these
pub record Sits {X : Type 0} (l : List X) (i : ℕ) (xs : List X) : Type 0 where
  pub rest : List X
  pub is : drop i l ≡ xs ++ rest

pub head_at : {X : Type 0} (l : List X) (i : ℕ) (x : X) (r : List X) (d : X) → drop i l ≡ x ∷ r → get_or l i d ≡ x
head_at [] zero x r d e = let z : ◌≡◌ {A = ℕ} 0 1 = cc in absurd (omega arith)
head_at [] (suc i) x r d e = let z : ◌≡◌ {A = ℕ} 0 1 = cc in absurd (omega arith)
head_at (y ∷ l) zero x r d e = cc
head_at (y ∷ l) (suc i) x r d e = head_at l i x r d e

tail_at : {X : Type 0} (l : List X) (i : ℕ) (x : X) (r : List X) → drop i l ≡ x ∷ r → drop (suc i) l ≡ r
tail_at [] zero x r e = let z : ◌≡◌ {A = ℕ} 0 1 = cc in absurd (omega arith)
tail_at [] (suc i) x r e = let z : ◌≡◌ {A = ℕ} 0 1 = cc in absurd (omega arith)
tail_at (y ∷ l) zero x r e = cc
tail_at (y ∷ l) (suc i) x r e = tail_at l i x r e

module _ {X : Type 0} {l : List X} {i : ℕ} where
  pub sits_head : {x : X} {xs : List X} (d : X) → Sits l i (x ∷ xs) → get_or l i d ≡ x
  sits_head {x} {xs} d s = head_at l i x _ d s.is

  pub sits_tail : {x : X} {xs : List X} → Sits l i (x ∷ xs) → Sits l (i + 1) xs
  sits_tail {x} {xs} s = record { rest = s.rest; is = ap (λ j. drop j l) (add-one i) ∙ tail_at l i x _ s.is }

  pub sits_left : (xs ys : List X) → Sits l i (xs ++ ys) → Sits l i xs
  sits_left xs ys s = record { rest = ys ++ s.rest; is = s.is ∙ append_assoc xs ys s.rest }

  pub sits_right : (xs ys : List X) (j : ℕ) → i + length xs ≡ j → Sits l i (xs ++ ys) → Sits l j ys
  sits_right xs ys j e s = record { rest = s.rest; is = ap (λ k. drop k l) (sym e) ∙ sym (drop-drop (length xs) i l) ∙ ap (drop (length xs)) (s.is ∙ append_assoc xs ys s.rest) ∙ drop-append_seam xs (ys ++ s.rest) }

-- a list stands in a longer one that begins with it
pub sits_first : {X : Type 0} (xs r : List X) → Sits (xs ++ r) 0 xs
sits_first xs r = record { rest = r; is = refl }
