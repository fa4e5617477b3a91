-- Local names are fresh, so a name has one entry.
use Rattle.std.proofs.Common.{◌≡◌, ℕ, zero, suc, ◌+◌, Bool, true, false, cond, List, [], ◌∷◌, Some, None, Option, sym, refl, ap, ◌∙◌, subst, one-add, arith}
use Rattle.std.specs.List.{slice_get}
use Rattle.std.specs.Str.{bytes_eq}
use Rattle.std.proofs.lemmas.Bool.{both_ways}
use Rattle.grammar.specs.Trees.{PatternPart, Pattern, Expr, Bindings}
use Rattle.program.specs.Programs.{Name, Program}
use Rattle.program.specs.Scopes.{Scope, distance, further}
use Rattle.typing.specs.Types.{Ty, Tys}
use Rattle.typing.specs.Contexts.{Context, local, Absent, absent_none, absent_more, Free, BindsAll, binds_none, binds_name, binds_skipped}
use Rattle.typing.specs.Judgement as rule
use Rattle.typing.specs.Judgement.{PatternFits, fits_any, fits_constructor, Typed, TypedBindings}
use Rattle.typing.specs.Names.{Later, later_none, later_more, Lies, lies_none, lies_name, lies_argument, Fresh, fresh_none, fresh_more}
use Rattle.typing.proofs.Marks.{later}
use Rattle.typing.proofs.TypeRows.{same_bytes, bytes_same}

absent_later : {w : Name} {Γ Δ : Context} → Later Γ Δ → Absent w Γ → Absent w Δ
absent_later later_none absent_none = absent_none
absent_later (later_more f k) (absent_more e a) = absent_more e (absent_later k a)

module _ (P : Program) where
  fresh_later : {Γ Δ : Context} → Later Γ Δ → Fresh P Γ → Fresh P Δ
  fresh_later later_none fresh_none = fresh_none
  fresh_later (later_more f k) (fresh_more a g r) = fresh_more (absent_later k a) g (fresh_later k r)

  fresh_name : {x : Name} {τ : Ty} {Γ : Context} → Free P x Γ → Fresh P Γ → Fresh P (local x τ false ∷ Γ)
  fresh_name f r = fresh_more f.absent f.fresh r

  pub fresh_bound : {xs : List PatternPart} {τs : Tys} {Γ Γ' : Context} → BindsAll P xs τs Γ Γ' → Fresh P Γ → Fresh P Γ'
  fresh_bound binds_none r = r
  fresh_bound (binds_name f b) r = fresh_bound b (fresh_name f r)
  fresh_bound (binds_skipped b) r = fresh_bound b r

  pub fresh_pattern : {d : ℕ} {x : Pattern} {Γ Γ' : Context} → PatternFits P d x Γ Γ' → Fresh P Γ → Fresh P Γ'
  fresh_pattern fits_any r = r
  fresh_pattern (fits_constructor a g e n b) r = fresh_bound b r

  module _ (V : List Ty) where
    pub fresh_after : {Γ Γ' : Context} {e : Expr} {τ : Ty} → Typed P V Γ e τ Γ' → Fresh P Γ → Fresh P Γ'
    fresh_after t r = fresh_later (later P V t) r

    pub fresh_bindings : {Γ Γ' : Context} {bs : Bindings} → TypedBindings P V Γ bs Γ' → Fresh P Γ → Fresh P Γ'
    fresh_bindings rule.bindings_none r = r
    fresh_bindings (rule.bindings_more t f b) r = fresh_bindings b (fresh_name f (fresh_after t r))

-- the entry with a name
some_further : (o : Option ℕ) (d : ℕ) → further o ≡ Some d → (c : ℕ) × (o ≡ Some c) × (d ≡ suc c)
some_further None d e = absurd (let z : ◌≡◌ {A = ℕ} 0 1 = cc in omega arith)
some_further (Some c) d e = (c, refl, (let k : 1 + c ≡ d = cc in omega arith))

found_by : (w x : Name) (G : Scope) (d : ℕ) (b : Bool) → bytes_eq w x ≡ b → ((c : ℕ) → distance w G ≡ Some c → slice_get G c ≡ Some (Some w)) → cond b (Some 0) (further (distance w G)) ≡ Some d → slice_get (Some x ∷ G) d ≡ Some (Some w)
found_by w x G d true e k q =
    let z : 0 ≡ d = cc in
    let y : x ≡ w = sym (same_bytes w x e) in
    subst (λ d. slice_get (Some x ∷ G) d ≡ Some (Some w)) z (ap (λ (n : Name). Some (Some n)) y)
found_by w x G d false e k q = let m = some_further (distance w G) d q in subst (λ d. slice_get (Some x ∷ G) d ≡ Some (Some w)) (sym m.2) (k m.0 m.1)

pub entry_found : (w : Name) (G : Scope) (d : ℕ) → distance w G ≡ Some d → slice_get G d ≡ Some (Some w)
entry_found w [] d q = absurd (let z : ◌≡◌ {A = ℕ} 0 1 = cc in omega arith)
entry_found w (Some x ∷ G) d q = found_by w x G d (bytes_eq w x) refl (entry_found w G) q
entry_found w (None ∷ G) d q = let m = some_further (distance w G) d q in subst (λ d. slice_get (None ∷ G) d ≡ Some (Some w)) (sym m.2) (entry_found w G m.0 m.1)

not_there : {x : Name} {Γ : Context} {G : Scope} → Lies Γ G → Absent x Γ → (d : ℕ) → slice_get G d ≡ Some (Some x) → ⊥
not_there (lies_argument l) a zero q = let z : ◌≡◌ {A = ℕ} 0 1 = cc in omega arith
not_there (lies_argument l) a (suc d) q = not_there l a d q
not_there {x} (lies_name {x = y} l) (absent_more e a) zero q =
    let k : y ≡ x = cc in
    both_ways (bytes_eq x y) e (rw k (bytes_same x))
not_there (lies_name l) (absent_more e a) (suc d) q = not_there l a d q
not_there lies_none a d q = let z : ◌≡◌ {A = ℕ} 0 1 = cc in omega arith

only_by : (w x : Name) (G : Scope) (d : ℕ) (b : Bool) → bytes_eq w x ≡ b → (x ≡ w → ⊥) → distance w G ≡ Some d → cond b (Some 0) (further (distance w G)) ≡ Some (suc d)
only_by w x G d true e n q = absurd (n (sym (same_bytes w x e)))
only_by w x G d false e n q = ap further q ∙ ap (λ (n : ℕ). Some n) (one-add d)

pub entry_only : {P : Program} {Γ : Context} {G : Scope} (w : Name) → Fresh P Γ → Lies Γ G → (d : ℕ) → slice_get G d ≡ Some (Some w) → distance w G ≡ Some d
entry_only w r (lies_argument l) zero q = absurd (let z : ◌≡◌ {A = ℕ} 0 1 = cc in omega arith)
entry_only w r (lies_argument l) (suc d) q = ap further (entry_only w r l d q) ∙ ap (λ (n : ℕ). Some n) (one-add d)
entry_only w (fresh_more a g r) (lies_name {x = x} l) zero q = let k : x ≡ w = cc in rw (k, bytes_same w)
entry_only w (fresh_more a g r) (lies_name {x = x} {G = G} l) (suc d) q =
    only_by w x G d (bytes_eq w x) refl (λ e. not_there l a d (q ∙ ap (λ (n : Name). Some (Some n)) (sym e))) (entry_only w r l d q)
entry_only w r lies_none d q = absurd (let z : ◌≡◌ {A = ℕ} 0 1 = cc in omega arith)
