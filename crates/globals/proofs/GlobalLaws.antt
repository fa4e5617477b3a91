-- What a name means in the whole script, by its number among the bound names.
use Rattle.std.proofs.Common.{◌≡◌, ℕ, zero, suc, false, cond, List, [], ◌∷◌, map, length, take, get_or, Some, None, Option, MatchOption, sym, refl, ap, ◌∙◌, arith}
use Rattle.std.specs.List.{slice_get}
use Rattle.std.specs.Str.{bytes_eq}
use Rattle.std.proofs.lemmas.Option.{slice_get-map, slice_get_within, get_or_from_slice_get}
use Rattle.std.proofs.lemmas.List.{length-map, get_or-map, get_or-take}
use Rattle.basis.specs.Names.{name_of, first_named, named}
use Rattle.basis.specs.Numbers.{every_function, number_of}
use Rattle.basis.specs.declared.function.Basis.{Basis}
use Rattle.globals.specs.Names.{Named}
use Rattle.globals.specs.Tallies.{bound_names, meaning_of}
use Rattle.globals.specs.declared.declarations.Declarations.{Declarations}
use Rattle.globals.specs.declared.global.Global.{Global}
use Rattle.globals.specs.declared.global.Global.TheVariants as machine
use Rattle.grammar.specs.Trees.{Script}
use Rattle.names.specs.Indexing.{Finds, names_in}
use Rattle.program.specs.Programs as means
use Rattle.program.specs.Programs.{Name, Program, Bound, program, first_of, type_meant, basis_or, global_of}
use Rattle.typing.specs.Scripts.{Distinct, basis_names}
use Rattle.globals.proofs.Firsts.{later_apart, first_place_at, first_none}

-- a name that the script binds is no function's of the basis
none_named : (w : Name) (fs : List Basis) → ((j : ℕ) (v : Name) → slice_get (map name_of fs) j ≡ Some v → bytes_eq w v ≡ false) → first_named w fs ≡ None
none_named w [] n = refl
none_named w (f ∷ fs) n = ap (λ b. cond b (Some f) (first_named w fs)) (n zero (name_of f) refl) ∙ none_named w fs (λ j v e. n (suc j) v e)

pub bound_not_basis : (w : Name) (names : List Name) (k : ℕ) → Distinct basis_names names → slice_get names k ≡ Some w → named w ≡ None
bound_not_basis w names k d e = none_named w every_function (λ j v i. later_apart v w basis_names j i names k d e)

-- a part of a table that a function was applied to
entry_is : {X Y : Type 0} (f : X → Y) (xs : List X) (ys : List Y) (k : ℕ) (y : Y) (d : X) → map f (take (length ys) xs) ≡ ys → slice_get ys k ≡ Some y → f (get_or xs k d) ≡ y
entry_is f xs ys k y d e at =
    let low = slice_get_within ys k y at in
    let l = length-map (take (length ys) xs) f in
    let m = ap length e in
    sym (get_or-map f (take (length ys) xs) k d y (omega arith) ∙ ap f (get_or-take (length ys) xs k d low)) ∙ ap (λ l. get_or l k y) e ∙ get_or_from_slice_get ys k y y at

module _ (text : List ℕ) (d : Declarations) (script : Script) (n : Named text d script) (w : Name) where
  abbrev P : Program
  P = program script

  pub record IsBound (k : ℕ) : Type 0 where
    pub entry : Bound
    pub at : slice_get P.bound k ≡ Some entry
    pub name : entry.name.bytes ≡ w
    pub first : first_of (λ b. b.name) w P.bound ≡ Some entry
    pub not_basis : named w ≡ None
    pub meaning : meaning_of (get_or d.meanings k None) ≡ entry.meaning

  pub is_bound : (k : ℕ) → Finds w (names_in text d.bound) (Some k) → IsBound k
  is_bound k finds =
      let e : slice_get (bound_names P.bound) k ≡ Some w = ap (λ l. slice_get l k) (sym n.bound_are) ∙ finds in
      let f = first_place_at (λ (b : Bound). b.name) basis_names w P.bound k n.bound_once e in
      let long : length (map (λ (b : Bound). b.meaning) P.bound) ≡ length P.bound = length-map P.bound (λ (b : Bound). b.meaning) in
      let there : slice_get (map (λ (b : Bound). b.meaning) P.bound) k ≡ Some f.0.meaning = slice_get-map (λ (b : Bound). b.meaning) P.bound k ∙ ap (λ o. elim o [ Some b ↦ Some b.meaning | None ↦ None ]) f.1 in
      record {
        entry = f.0;
        at = f.1;
        name = f.2;
        first = f.3;
        not_basis = bound_not_basis w (bound_names P.bound) k n.bound_once e;
        meaning = entry_is meaning_of d.meanings (map (λ (b : Bound). b.meaning) P.bound) k f.0.meaning None (ap (λ m. map meaning_of (take m d.meanings)) long ∙ n.meanings) there;
      }

  pub bound_means : (k : ℕ) → Finds w (names_in text d.bound) (Some k) → meaning_of (get_or d.meanings k None) ≡ global_of P w
  bound_means k finds =
      let b = is_bound k finds in
      b.meaning ∙ sym (ap (λ o. basis_or o (type_meant (first_of (λ b. b.name) w P.bound))) b.not_basis ∙ ap type_meant b.first)

  pub not_bound : Finds w (names_in text d.bound) None → first_of (λ b. b.name) w P.bound ≡ None
  not_bound finds = first_none (λ (b : Bound). b.name) w P.bound (λ k e. finds k (ap (λ l. slice_get l k) n.bound_are ∙ e))

  pub unbound_means : Finds w (names_in text d.bound) None → global_of P w ≡ basis_or (named w) means.unbound
  unbound_means finds = ap (λ o. basis_or (named w) (type_meant o)) (not_bound finds)

-- a name that is bound nowhere is no function's
pub nothing_named : (m : means.Global) → meaning_of None ≡ m → (n : ℕ) → m ≡ means.function n → ⊥
nothing_named m e n f = let z : ◌≡◌ {A = ℕ} 0 1 = cc in omega arith

-- a function of the basis goes by its number
pub basis_means : (o : Option Basis) (r : Option Global) → MatchOption o (r ≡ None) (λ b. r ≡ Some (machine.Function (number_of b))) → meaning_of r ≡ basis_or o means.unbound
basis_means (Some b) r e = ap meaning_of e
basis_means None r e = ap meaning_of e

-- what is no function by the machine's word is none
pub not_function : (g : Global) (m : means.Global) → meaning_of (Some g) ≡ m → ((n : ℕ) → g ≡ machine.Function n → ⊥) → (n : ℕ) → m ≡ means.function n → ⊥
not_function (machine.Function k) m e n k' f = n k refl
not_function (machine.Constructor k) m e n k' f = let z : ◌≡◌ {A = ℕ} 0 1 = cc in omega arith
not_function (machine.Val k) m e n k' f = let z : ◌≡◌ {A = ℕ} 0 1 = cc in omega arith
