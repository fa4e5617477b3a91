-- Names in lists of names.
use Rattle.std.proofs.Common.{◌≡◌, ℕ, zero, suc, Bool, true, false, ◌||◌, List, [], ◌∷◌, ◌++◌, reverse, Some, None, Option, sym, refl, ap, ◌∙◌, arith}
use Rattle.std.specs.List.{slice_get}
use Rattle.std.specs.Option.{is_some}
use Rattle.std.specs.Str.{bytes_eq}
use Rattle.std.proofs.lemmas.Bool.{or_left, or_right, or_from}
use Rattle.std.proofs.lemmas.List.{reverse-append}
use Rattle.std.proofs.lemmas.Option.{same_Some}
use Rattle.std.proofs.lemmas.Slice.Eq.{bytes_eq-Decides}
use Rattle.names.specs.Indexing.{Finds}
use Rattle.program.specs.Programs.{Name}
use Rattle.typing.specs.Verdict.{among_them}
use Rattle.typing.proofs.TypeRows.{bytes_same}

pub among_found : (w : Name) (xs : List Name) (k : ℕ) → slice_get xs k ≡ Some w → among_them w xs ≡ true
among_found w [] k e = absurd (let z : ◌≡◌ {A = ℕ} 0 1 = cc in omega arith)
among_found w (x ∷ xs) zero e = or_left (bytes_eq w x) (among_them w xs) (ap (bytes_eq w) (same_Some x w e) ∙ bytes_same w)
among_found w (x ∷ xs) (suc k) e = or_right (bytes_eq w x) (among_them w xs) (among_found w xs k e)

pub among_nothing : (w : Name) (xs : List Name) → ((k : ℕ) → slice_get xs k ≡ Some w → ⊥) → among_them w xs ≡ false
among_nothing w [] n = refl
among_nothing w (x ∷ xs) n = or_from (bytes_eq w x) (among_them w xs) (go (bytes_eq w x) refl) (among_nothing w xs (λ k e. n (suc k) e))
  where
    go : (b : Bool) → bytes_eq w x ≡ b → bytes_eq w x ≡ false
    go true e = absurd (n zero (ap Some (sym ((bytes_eq-Decides w x).0 e))))
    go false e = e

-- whether a look-up finds a name
pub among_result : (w : Name) (xs : List Name) (o : Option ℕ) → Finds w xs o → is_some o ≡ among_them w xs
among_result w xs None f = sym (among_nothing w xs f)
among_result w xs (Some k) f = sym (among_found w xs k f)

or_assoc : (a b c : Bool) → ((a || b) || c) ≡ (a || (b || c))
or_assoc true b c = refl
or_assoc false b c = refl

or_swap : (a b : Bool) → (a || b) ≡ (b || a)
or_swap true true = refl
or_swap true false = refl
or_swap false true = refl
or_swap false false = refl

pub among_append : (w : Name) (xs ys : List Name) → among_them w (xs ++ ys) ≡ (among_them w xs || among_them w ys)
among_append w [] ys = refl
among_append w (x ∷ xs) ys = ap (λ b. bytes_eq w x || b) (among_append w xs ys) ∙ sym (or_assoc (bytes_eq w x) (among_them w xs) (among_them w ys))

or_none : (a : Bool) → (a || false) ≡ a
or_none true = refl
or_none false = refl

-- the order does not count
pub among_reverse : (w : Name) (xs : List Name) → among_them w (reverse xs) ≡ among_them w xs
among_reverse w [] = refl
among_reverse w (x ∷ xs) =
    ap (among_them w) (reverse-append (x ∷ []) xs) ∙ among_append w (reverse xs) (x ∷ []) ∙ ap (λ b. b || (bytes_eq w x || false)) (among_reverse w xs) ∙ ap (λ b. among_them w xs || b) (or_none (bytes_eq w x)) ∙ or_swap (among_them w xs) (bytes_eq w x)

-- among the names of a tally, or those that were there beforehand
pub among_seen : (w : Name) (names before : List Name) → among_them w (reverse names ++ before) ≡ (among_them w names || among_them w before)
among_seen w names before = among_append w (reverse names) before ∙ ap (λ b. b || among_them w before) (among_reverse w names)
