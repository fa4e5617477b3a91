-- A list that has these elements from a number on.
use Rattle.std.proofs.Common.{◌≡◌, ℕ, ◌+◌, List, ◌∷◌, ◌++◌, length, get_or, drop, sym, refl, ap, ◌∙◌, add-zero}
use Rattle.std.proofs.lemmas.List.{append_assoc, drop_at, drop-drop, get_or-drop}

pub record Has {E : Type 0} (xs : List E) (i : ℕ) (ys : List E) : Type 0 where
  pub rest : List E
  pub is : drop i xs ≡ ys ++ rest

module _ {E : Type 0} {xs : List E} {i : ℕ} where
  pub has_first : {y : E} {ys : List E} → Has xs i (y ∷ ys) → (d : E) → get_or xs i d ≡ y
  has_first h d = ap (λ j. get_or xs j d) (sym (add-zero i)) ∙ sym (get_or-drop i xs 0 d) ∙ ap (λ l. get_or l 0 d) h.is

  pub has_others : {y : E} {ys : List E} → Has xs i (y ∷ ys) → Has xs (i + 1) ys
  has_others {y} {ys} h = record { rest = h.rest; is = sym (drop-drop 1 i xs) ∙ ap (drop 1) h.is }

  pub has_front : (ys zs : List E) → Has xs i (ys ++ zs) → Has xs i ys
  has_front ys zs h = record { rest = zs ++ h.rest; is = h.is ∙ append_assoc ys zs h.rest }

  pub has_back : (ys zs : List E) (n : ℕ) → length ys ≡ n → Has xs i (ys ++ zs) → Has xs (i + n) zs
  has_back ys zs n long h = record { rest = h.rest; is = sym (drop-drop n i xs) ∙ ap (drop n) (h.is ∙ append_assoc ys zs h.rest) ∙ drop_at ys (zs ++ h.rest) n long }

-- from the start
pub has_start : {E : Type 0} (ys zs : List E) → Has (ys ++ zs) 0 ys
has_start ys zs = record { rest = zs; is = refl }
