-- The first entry of a list that has a name, where no two have the same.
use Rattle.std.proofs.Common.{◌≡◌, ℕ, zero, suc, ◌+◌, Bool, true, false, cond, List, [], ◌∷◌, map, Some, None, sym, refl, ap, ◌∙◌, arith}
use Rattle.std.specs.List.{slice_get}
use Rattle.std.specs.Str.{bytes_eq}
use Rattle.std.proofs.lemmas.Option.{same_Some, slice_get-map}
use Rattle.std.proofs.lemmas.Slice.Eq.{bytes_eq-Decides}
use Rattle.grammar.specs.Trees.{Ident}
use Rattle.program.specs.Programs.{Name, first_of}
use Rattle.typing.specs.Scripts.{Apart, apart_none, apart_more, Distinct, distinct_more, bytes_of}
use Rattle.typing.specs.Types.{number_in}
use Rattle.typing.proofs.TypeRows.{bytes_same}

pub not_same : (w v : Name) → (w ≡ v → ⊥) → bytes_eq w v ≡ false
not_same w v n = go (bytes_eq w v) refl
  where
    go : (b : Bool) → bytes_eq w v ≡ b → bytes_eq w v ≡ false
    go true e = absurd (n ((bytes_eq-Decides w v).0 e))
    go false e = e

-- a name is none of a list that it is apart from
apart_from : (w v : Name) (xs : List Name) (k : ℕ) → Apart w xs → slice_get xs k ≡ Some v → bytes_eq w v ≡ false
apart_from w v [] k apart_none e = absurd (let z : ◌≡◌ {A = ℕ} 0 1 = cc in omega arith)
apart_from w v (x ∷ xs) zero (apart_more n a) e = ap (bytes_eq w) (sym (same_Some x v e)) ∙ n
apart_from w v (x ∷ xs) (suc k) (apart_more n a) e = apart_from w v xs k a e

-- a name that comes later is not one of those before
pub later_apart : (x w : Name) (before : List Name) (j : ℕ) → slice_get before j ≡ Some x → (xs : List Name) (k : ℕ) → Distinct before xs → slice_get xs k ≡ Some w → bytes_eq w x ≡ false
later_apart x w before j i [] k d e = absurd (let z : ◌≡◌ {A = ℕ} 0 1 = cc in omega arith)
later_apart x w before j i (y ∷ xs) zero (distinct_more a d) e = ap (λ v. bytes_eq v x) (sym (same_Some y w e)) ∙ apart_from y x before j a i
later_apart x w before j i (y ∷ xs) (suc k) (distinct_more a d) e = later_apart x w (y ∷ before) (suc j) i xs k d e

module _ {X : Type 0} (name : X → Ident) where
  abbrev pub names_by : List X → List Name
  names_by xs = map (λ x. (name x).bytes) xs

  pub first_some : (before : List Name) (xs : List X) (k : ℕ) (x : X) → Distinct before (names_by xs) → slice_get xs k ≡ Some x → first_of name (name x).bytes xs ≡ Some x
  first_some before [] k x d e = absurd (let z : ◌≡◌ {A = ℕ} 0 1 = cc in omega arith)
  first_some before (y ∷ xs) zero x (distinct_more a d) e =
      let s : y ≡ x = same_Some y x e in
      ap (λ z. cond (bytes_eq (name x).bytes (name z).bytes) (Some z) (first_of name (name x).bytes xs)) s ∙ ap (λ b. cond b (Some x) (first_of name (name x).bytes xs)) (bytes_same (name x).bytes)
  first_some before (y ∷ xs) (suc k) x (distinct_more a d) e =
      let at : slice_get (names_by xs) k ≡ Some (name x).bytes = slice_get-map (λ x. (name x).bytes) xs k ∙ ap (λ o. elim o [ Some x ↦ Some (name x).bytes | None ↦ None ]) e in
      ap (λ b. cond b (Some y) (first_of name (name x).bytes xs)) (later_apart (name y).bytes (name x).bytes ((name y).bytes ∷ before) zero refl (names_by xs) k d at)
      ∙ first_some ((name y).bytes ∷ before) xs k x d e

  pub first_none : (w : Name) (xs : List X) → ((k : ℕ) → slice_get (names_by xs) k ≡ Some w → ⊥) → first_of name w xs ≡ None
  first_none w [] n = refl
  first_none w (x ∷ xs) n = ap (λ b. cond b (Some x) (first_of name w xs)) (not_same w (name x).bytes (λ e. n zero (ap Some (sym e)))) ∙ first_none w xs (λ k e. n (suc k) e)

module _ {X : Type 0} (name : X → Ident) where
  -- the entry whose name has a number
  pub entry_there : (w : Name) (xs : List X) (k : ℕ) → slice_get (names_by name xs) k ≡ Some w → (x : X) × (slice_get xs k ≡ Some x) × ((name x).bytes ≡ w)
  entry_there w [] k e = absurd (let z : ◌≡◌ {A = ℕ} 0 1 = cc in omega arith)
  entry_there w (x ∷ xs) zero e = (x, refl, same_Some (name x).bytes w e)
  entry_there w (x ∷ xs) (suc k) e = entry_there w xs k e

  pub first_place_at : (before : List Name) (w : Name) (xs : List X) (k : ℕ) → Distinct before (names_by name xs) → slice_get (names_by name xs) k ≡ Some w → (x : X) × (slice_get xs k ≡ Some x) × ((name x).bytes ≡ w) × (first_of name w xs ≡ Some x)
  first_place_at before w xs k d e = let a = entry_there w xs k e in (a.0, a.1, a.2, ap (λ v. first_of name v xs) (sym a.2) ∙ first_some name before xs k a.0 d a.1)

pub number_some : (before : List Name) (xs : List Ident) (k : ℕ) (w : Name) → Distinct before (bytes_of xs) → slice_get (bytes_of xs) k ≡ Some w → number_in w xs ≡ k
number_some before [] k w d e = absurd (let z : ◌≡◌ {A = ℕ} 0 1 = cc in omega arith)
number_some before (x ∷ xs) zero w (distinct_more a d) e =
    ap (λ b. cond b 0 (1 + number_in w xs)) (ap (bytes_eq w) (same_Some x.bytes w e) ∙ bytes_same w)
number_some before (x ∷ xs) (suc k) w (distinct_more a d) e =
    ap (λ b. cond b 0 (1 + number_in w xs)) (later_apart x.bytes w (x.bytes ∷ before) zero refl (bytes_of xs) k d e) ∙ (let h = number_some (x.bytes ∷ before) xs k w d e in omega arith)
