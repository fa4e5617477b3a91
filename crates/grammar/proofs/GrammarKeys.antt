-- The test for a reserved word tells it from all others.
use Rattle.std.proofs.Common.{◌≡◌, Bool, true, false, cond, List, [], ◌∷◌, get_or, sym, refl, ap, ◌∙◌, subst, eqb-true}
use Rattle.text.specs.declared.keyword.Keyword.{Keyword}
use Rattle.text.specs.declared.keyword.Keyword.TheVariants as keyword
use Rattle.grammar.specs.Forms.{key_number, is_key}

-- the reserved words by their numbers
unfoldable keys : List Keyword
keys = keyword.Colon ∷ keyword.Val ∷ keyword.Define ∷ keyword.Datatype ∷ keyword.Use ∷ keyword.If ∷ keyword.Case ∷ keyword.Begin ∷ keyword.Let ∷ keyword.Dup ∷ keyword.Arrow ∷ keyword.Int ∷ keyword.Bool ∷ keyword.Sym ∷ keyword.Unit ∷ keyword.True ∷ keyword.False ∷ keyword.Wildcard ∷ []

key_at : (k : Keyword) → get_or keys (key_number k) keyword.Colon ≡ k
unfolding keys
key_at keyword.Colon = refl
key_at keyword.Val = refl
key_at keyword.Define = refl
key_at keyword.Datatype = refl
key_at keyword.Use = refl
key_at keyword.If = refl
key_at keyword.Case = refl
key_at keyword.Begin = refl
key_at keyword.Let = refl
key_at keyword.Dup = refl
key_at keyword.Arrow = refl
key_at keyword.Int = refl
key_at keyword.Bool = refl
key_at keyword.Sym = refl
key_at keyword.Unit = refl
key_at keyword.True = refl
key_at keyword.False = refl
key_at keyword.Wildcard = refl

-- two reserved words that the test calls the same are the same
same_key : (k j : Keyword) → is_key k j ≡ true → k ≡ j
same_key k j e = sym (key_at k) ∙ ap (λ n. get_or keys n keyword.Colon) (eqb-true (key_number k) (key_number j) e) ∙ key_at j

-- what holds with the word j where it is tested for, and otherwise without, holds of the test
pub by_key : {X : Type 0} (P : Keyword → X → Type 0) (j k : Keyword) (x y : X) → P j x → P k y → P k (cond (is_key k j) x y)
by_key P j k x y h other = go (is_key k j) refl
  where
    go : (t : Bool) → is_key k j ≡ t → P k (cond t x y)
    go true e = subst (λ k. P k x) (sym (same_key k j e)) h
    go false e = other
