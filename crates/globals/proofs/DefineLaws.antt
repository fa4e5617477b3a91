-- The defines among the bound names.
use Rattle.std.proofs.Common.{◌≡◌, ℕ, zero, suc, ◌+◌, Bool, true, false, cond, List, [], ◌∷◌, length, Some, None, Option, sym, refl, ap, ◌∙◌, arith}
use Rattle.std.specs.List.{slice_get}
use Rattle.std.specs.Option.{is_some}
use Rattle.std.specs.Str.{bytes_eq}
use Rattle.std.proofs.lemmas.Option.{same_Some}
use Rattle.std.proofs.lemmas.Slice.Eq.{bytes_eq-Decides}
use Rattle.globals.specs.Tallies.{bound_names}
use Rattle.grammar.specs.Trees.{Ident, Constructor, datatype_definition, type_annotation, function_definition, val_binding, Script}
use Rattle.program.specs.Programs as means
use Rattle.program.specs.Programs.{Name, Program, Bound, Define, Global, first_of, bound_variants, bound_from, defines_of, basis_count, program}
use Rattle.typing.specs.Scripts.{Distinct, basis_names}
use Rattle.globals.proofs.Firsts.{first_some}

pub none_some : {X Y : Type 0} (x : X) → ◌≡◌ {A = Option X} None (Some x) → Y
none_some x e = absurd (let z : ◌≡◌ {A = ℕ} 0 1 = cc in omega arith)

-- behind the constructors of a datatype
behind_variants : (c : ℕ) (ks : List Constructor) (rest : List Bound) (k : ℕ) → slice_get (bound_variants c ks rest) (length ks + k) ≡ slice_get rest k
behind_variants c [] rest k = let e : 0 + k ≡ k = omega arith in ap (slice_get rest) e
behind_variants c (x ∷ ks) rest k = let e : suc (length ks) + k ≡ suc (length ks + k) = omega arith in ap (slice_get (bound_variants c (x ∷ ks) rest)) e ∙ behind_variants (c + 1) ks rest k

-- a bound name that is a function is none of the constructors
no_variant : (c : ℕ) (ks : List Constructor) (rest : List Bound) (k g : ℕ) (b : Bound) → slice_get (bound_variants c ks rest) k ≡ Some b → b.meaning ≡ means.function g → (j : ℕ) × (slice_get rest j ≡ Some b)
no_variant c [] rest k g b e m = (k, e)
no_variant c (x ∷ ks) rest zero g b e m = absurd (let z : ◌≡◌ {A = ℕ} 0 1 = cc in omega arith)
no_variant c (x ∷ ks) rest (suc k) g b e m = no_variant (c + 1) ks rest k g b e m

abbrev bound_define : Define → ℕ → Bound
bound_define d g = record { name = d.name; meaning = means.function g }

-- each define is bound, with its number
pub define_bound : (ds : Script) (c f v j : ℕ) (d : Define) → slice_get (defines_of ds) j ≡ Some d → (k : ℕ) × (slice_get (bound_from c f v ds) k ≡ Some (record { name = d.name; meaning = means.function (f + j) }))
define_bound [] c f v j d e = none_some d e
define_bound (datatype_definition p x cs ∷ ds) c f v j d e =
    let h = define_bound ds (c + length cs) f v j d e in
    (length cs + h.0, behind_variants c cs _ h.0 ∙ h.1)
define_bound (type_annotation p x t ∷ ds) c f v j d e = define_bound ds c f v j d e
define_bound (function_definition p x ps b ∷ ds) c f v zero d e =
    let s : record { place = p; name = x; parameters = ps; body = b } ≡ d = same_Some _ d e in
    (0, ap (λ (d : Define). Some (bound_define d f)) s ∙ ap (λ n. Some (bound_define d n)) (let q : f ≡ f + 0 = omega arith in q))
define_bound (function_definition p x ps b ∷ ds) c f v (suc j) d e =
    let h = define_bound ds c (f + 1) v j d e in
    (suc h.0, h.1 ∙ ap (λ n. Some (bound_define d n)) (let q : f + 1 + j ≡ f + suc j = omega arith in q))
define_bound (val_binding p x b ∷ ds) c f v j d e = let h = define_bound ds c f (v + 1) j d e in (suc h.0, h.1)

-- what is bound as a function is a define
pub bound_is_define : (ds : Script) (c f v k g : ℕ) (b : Bound) → slice_get (bound_from c f v ds) k ≡ Some b → b.meaning ≡ means.function g
    → (j : ℕ) × (d : Define) × (slice_get (defines_of ds) j ≡ Some d) × (d.name ≡ b.name) × (g ≡ f + j)
bound_is_define [] c f v k g b e m = none_some b e
bound_is_define (datatype_definition p x cs ∷ ds) c f v k g b e m =
    let r = no_variant c cs (bound_from (c + length cs) f v ds) k g b e m in
    bound_is_define ds (c + length cs) f v r.0 g b r.1 m
bound_is_define (type_annotation p x t ∷ ds) c f v k g b e m = bound_is_define ds c f v k g b e m
bound_is_define (function_definition p x ps body ∷ ds) c f v zero g b e m =
    let s : record { name = x; meaning = means.function f } ≡ b = same_Some _ b e in
    (0, record { place = p; name = x; parameters = ps; body = body }, refl, ap (λ (b : Bound). b.name) s, number (ap (λ (b : Bound). b.meaning) s ∙ m))
  where
    number : means.function f ≡ means.function g → g ≡ f + 0
    number q = let s : f ≡ g = cc in omega arith
bound_is_define (function_definition p x ps body ∷ ds) c f v (suc k) g b e m =
    let h = bound_is_define ds c (f + 1) v k g b e m in
    let n = h.4 in
    (suc h.0, h.1, h.2, h.3, (let q : g ≡ f + suc h.0 = omega arith in q))
bound_is_define (val_binding p x body ∷ ds) c f v zero g b e m = absurd (let z : ◌≡◌ {A = ℕ} 0 1 = cc in omega arith)
bound_is_define (val_binding p x body ∷ ds) c f v (suc k) g b e m = bound_is_define ds c f (v + 1) k g b e m

-- the first entry of a list that has a name, by its number
pub first_number : {X : Type 0} (name : X → Ident) (w : Name) (xs : List X) (x : X) → first_of name w xs ≡ Some x → (j : ℕ) × (slice_get xs j ≡ Some x) × ((name x).bytes ≡ w)
first_number name w [] x e = none_some x e
first_number name w (y ∷ xs) x e = go (bytes_eq w (name y).bytes) refl e (first_number name w xs x)
  where
    go : (b : Bool) → bytes_eq w (name y).bytes ≡ b → cond b (Some y) (first_of name w xs) ≡ Some x → (first_of name w xs ≡ Some x → (j : ℕ) × (slice_get xs j ≡ Some x) × ((name x).bytes ≡ w)) → (j : ℕ) × (slice_get (y ∷ xs) j ≡ Some x) × ((name x).bytes ≡ w)
    go true q e more = let s : y ≡ x = same_Some y x e in (0, e, ap (λ z. (name z).bytes) (sym s) ∙ sym ((bytes_eq-Decides w (name y).bytes).0 q))
    go false q e more = let m = more e in (suc m.0, m.1, m.2)

pub first_exists : {X : Type 0} (name : X → Ident) (w : Name) (xs : List X) (j : ℕ) (x : X) → slice_get xs j ≡ Some x → (name x).bytes ≡ w → is_some (first_of name w xs) ≡ true
first_exists name w [] j x e n = none_some x e
first_exists name w (y ∷ xs) j x e n = go (bytes_eq w (name y).bytes) refl j e (first_exists name w xs)
  where
    go : (b : Bool) → bytes_eq w (name y).bytes ≡ b → (j : ℕ) → slice_get (y ∷ xs) j ≡ Some x → ((j : ℕ) (x : _) → slice_get xs j ≡ Some x → (name x).bytes ≡ w → is_some (first_of name w xs) ≡ true) → is_some (cond b (Some y) (first_of name w xs)) ≡ true
    go true q j e more = refl
    go false q zero e more = absurd (let z : ◌≡◌ {A = Bool} false true = sym q ∙ (bytes_eq-Decides w (name y).bytes).1 (sym (ap (λ z. (name z).bytes) (same_Some y x e) ∙ n)) in let o : ◌≡◌ {A = ℕ} 0 1 = cc in omega arith)
    go false q (suc j) e more = more j x e n

pub by_some : {X : Type 0} (o : Option X) → ((x : X) → o ≡ Some x → ⊥) → is_some o ≡ false
by_some None n = refl
by_some (Some x) n = absurd (n x refl)

module _ (script : Script) (once : Distinct basis_names (bound_names (program script).bound)) (w : Name) where
  -- a name is a define's exactly if it is bound as a function
  pub is_define : (b : Bound) (g : ℕ) → first_of (λ b. b.name) w (program script).bound ≡ Some b → b.meaning ≡ means.function g → is_some (first_of (λ (d : Define). d.name) w (program script).defines) ≡ true
  is_define b g e m =
      let f = first_number (λ (b : Bound). b.name) w (program script).bound b e in
      let d = bound_is_define script 0 basis_count 0 f.0 g b f.1 m in
      first_exists (λ (d : Define). d.name) w (program script).defines d.0 d.1 d.2 (ap (λ (x : Ident). x.bytes) d.3 ∙ f.2)

  -- a define is bound as a function
  pub define_first : (d : Define) → first_of (λ (d : Define). d.name) w (program script).defines ≡ Some d → (g : ℕ) × (first_of (λ b. b.name) w (program script).bound ≡ Some (record { name = d.name; meaning = means.function g }))
  define_first d e =
      let f = first_number (λ (d : Define). d.name) w (program script).defines d e in
      let b = define_bound script 0 basis_count 0 f.0 d f.1 in
      (basis_count + f.0, ap (λ v. first_of (λ (b : Bound). b.name) v (program script).bound) (sym f.2) ∙ first_some (λ (b : Bound). b.name) basis_names (program script).bound b.0 (bound_define d (basis_count + f.0)) once b.1)

  pub no_define : (b : Bound) → first_of (λ b. b.name) w (program script).bound ≡ Some b → ((g : ℕ) → b.meaning ≡ means.function g → ⊥) → is_some (first_of (λ (d : Define). d.name) w (program script).defines) ≡ false
  no_define b e n = by_some _ (λ d q. let f = define_first d q in n f.0 (ap (λ (b : Bound). b.meaning) (same_Some b _ (sym e ∙ f.1))))

  pub not_define : first_of (λ b. b.name) w (program script).bound ≡ None → is_some (first_of (λ (d : Define). d.name) w (program script).defines) ≡ false
  not_define e = by_some _ (λ d q. let f = define_first d q in none_some _ (sym e ∙ f.1))
