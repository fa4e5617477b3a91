-- What is judged to have a type has it by the rules.
use Rattle.std.proofs.Common.{◌≡◌, ℕ, Bool, true, false, cond, eqb, ltb, List, [], ◌∷◌, length, drop, Some, None, Option, sym, refl, subst, arith}
use Rattle.std.specs.List.{slice_get}
use Rattle.std.specs.Str.{bytes_eq}
use Rattle.std.proofs.lemmas.Bool.{eqb-true, ltb-true, and_parts}
use Rattle.script_refusals.specs.declared.refusal.Refusal.TheVariants as refusal
use Rattle.grammar.specs.Trees as tree
use Rattle.grammar.specs.Trees.{Ident, PatternPart, bound, skipped, Pattern, wildcard, constructor, Expr, Exprs, no_exprs, and_expr, Bindings, no_bindings, and_binding, Branches, last_branch, and_branch}
use Rattle.program.specs.Programs as means
use Rattle.program.specs.Programs.{Name, Program, Variant, Global, global_of}
use Rattle.program.specs.Scopes.{pattern_names}
use Rattle.typing.specs.Types.{Ty, int, bool, sym as symbol, unit, datum, function, Tys, no_types, and_type, count, same_type, types_of}
use Rattle.typing.specs.Contexts.{Local, local, Context, plain_int, plain_bool, plain_sym, plain_unit, plain_function, Enters, enters_plain, enters_data, enters_later, Absent, absent_none, absent_more, Free, BindsAll, binds_none, binds_name, binds_skipped, most_locals, join, local_named}
use Rattle.typing.specs.Judgement as rule
use Rattle.typing.specs.Judgement.{PatternFits, fits_any, fits_constructor, Typed, TypedRow, TypedEach, TypedBindings, TypedBranches}
use Rattle.typing.specs.Judging.{Judged, refuse, entered, enter_local, known, enter_global, dup_local, dup_global, dup_val, is_unbound, is_absent, is_fresh, bind_name, with_all_bound, judge_variant, head_val, judge_head, judge_pattern, constructor_at, head_constructor, construct, call, all_alike, agreed, judge, judge_row, judge_each, judge_bindings, judge_branches}
use Rattle.typing.proofs.Outcomes.{Holds, on_refusal, on_judged, then_holds, follows, need_holds, tested_holds, by_option}
use Rattle.typing.proofs.TypeRows.{same_type_law, same_types_law}

-- The local that a name is: it is entered, if it is not consumed.
pub data Found (w : Name) (Γ : Context) : Option Local → Type 0 where
  found : {x : Name} {τ : Ty} {b : Bool} → (b ≡ false → Enters w Γ τ (entered w τ Γ)) → Found w Γ (Some (local x τ b))
  missing : Absent w Γ → Found w Γ None

enters_here : (w x : Name) (τ : Ty) (Γ : Context) → bytes_eq w x ≡ true → Enters w (local x τ false ∷ Γ) τ (entered w τ (local x τ false ∷ Γ))
enters_here w x int Γ e = enters_plain e plain_int
enters_here w x bool Γ e = enters_plain e plain_bool
enters_here w x symbol Γ e = enters_plain e plain_sym
enters_here w x unit Γ e = enters_plain e plain_unit
enters_here w x (datum d) Γ e = rw e (enters_data e)
enters_here w x (function ts t) Γ e = enters_plain e plain_function

pub entered_later : (w x : Name) (σ τ : Ty) (b : Bool) (Γ : Context) → bytes_eq w x ≡ false → entered w τ (local x σ b ∷ Γ) ≡ local x σ b ∷ entered w τ Γ
entered_later w x σ int b Γ e = refl
entered_later w x σ bool b Γ e = refl
entered_later w x σ symbol b Γ e = refl
entered_later w x σ unit b Γ e = refl
entered_later w x σ (datum d) b Γ e = rw e
entered_later w x σ (function ts t) b Γ e = refl

found_by : (w x : Name) (σ : Ty) (b : Bool) (Γ : Context) (t : Bool) → bytes_eq w x ≡ t → (o : Option Local) → Found w Γ o → Found w (local x σ b ∷ Γ) (cond t (Some (local x σ b)) o)
found_by w x σ true Γ true e o h = found (λ z. absurd (let k : ◌≡◌ {A = ℕ} 0 1 = cc in omega arith))
found_by w x σ false Γ true e o h = found (λ z. enters_here w x σ Γ e)
found_by w x σ b Γ false e (Some l) (found {τ = τ} k) = found (λ z. rw (entered_later w x σ τ b Γ e) (enters_later e (k z)))
found_by w x σ b Γ false e None (missing a) = missing (absent_more e a)

pub look : (w : Name) (Γ : Context) → Found w Γ (local_named w Γ)
look w [] = missing absent_none
look w (local x σ b ∷ Γ) = found_by w x σ b Γ (bytes_eq w x) refl _ (look w Γ)

pub absent_by : {w : Name} {Γ : Context} {o : Option Local} → Found w Γ o → o ≡ None → Absent w Γ
absent_by (found k) e = let z : ◌≡◌ {A = ℕ} 0 1 = cc in absurd (omega arith)
absent_by (missing a) e = a

pub absent_at : (w : Name) (Γ : Context) → local_named w Γ ≡ None → Absent w Γ
absent_at w Γ e = absent_by (look w Γ) e

is_none : (o : Option Local) → is_absent o ≡ true → o ≡ None
is_none (Some l) e = let z : ◌≡◌ {A = ℕ} 0 1 = cc in absurd (omega arith)
is_none None e = refl

is_unbound_law : (g : Global) → is_unbound g ≡ true → g ≡ means.unbound
is_unbound_law (means.function n) e = let z : ◌≡◌ {A = ℕ} 0 1 = cc in absurd (omega arith)
is_unbound_law (means.constructor k) e = let z : ◌≡◌ {A = ℕ} 0 1 = cc in absurd (omega arith)
is_unbound_law (means.val i) e = let z : ◌≡◌ {A = ℕ} 0 1 = cc in absurd (omega arith)
is_unbound_law means.unbound e = refl

-- all types of a list are one type
pub data Same (τ : Ty) : Tys → Type 0 where
  same_none : Same τ no_types
  same_more : {τs : Tys} → Same τ τs → Same τ (and_type τ τs)

by_first : {σ τ : Ty} {τs : Tys} → Same σ (and_type τ τs) → (R : Ty → Type 0) → (Same τ τs → R τ) → R σ
by_first (same_more s) R k = k s

all_same : (τ : Ty) (τs : Tys) → all_alike τ τs ≡ true → Same τ τs
all_same τ no_types e = same_none
all_same τ (and_type σ σs) e =
    let b = and_parts (same_type τ σ) _ e in
    subst (λ ρ. Same τ (and_type ρ σs)) (same_type_law τ σ b.0) (same_more (all_same τ σs b.1))

module _ (P : Program) where
  free : (w : Name) (Γ : Context) → ltb (length Γ) most_locals ≡ true → is_fresh P w Γ ≡ true → Free P w Γ
  free w Γ r f =
      let b = and_parts (is_absent (local_named w Γ)) _ f in
      record { room = ltb-true _ _ r; absent = absent_at w Γ (is_none _ b.0); fresh = is_unbound_law _ b.1 }

  bound_by : {X : Type 0} {R : X → Context → Type 0} (x : Ident) (τ : Ty) (Γ : Context) (next : Context → Judged X) (r f : Bool) → ltb (length Γ) most_locals ≡ r → is_fresh P x.bytes Γ ≡ f
      → (Free P x.bytes Γ → Holds R (next (local x.bytes τ false ∷ Γ)))
      → Holds R (cond r (cond f (next (local x.bytes τ false ∷ Γ)) (refuse refusal.Repeated x.place)) (refuse refusal.Limit x.place))
  bound_by x τ Γ next true true r f k = k (free x.bytes Γ r f)
  bound_by x τ Γ next true false r f k = on_refusal
  bound_by x τ Γ next false f r e k = on_refusal

  pub bind_holds : {X : Type 0} {R : X → Context → Type 0} (x : Ident) (τ : Ty) (Γ : Context) (next : Context → Judged X)
      → (Free P x.bytes Γ → Holds R (next (local x.bytes τ false ∷ Γ))) → Holds R (bind_name P x τ Γ next)
  bind_holds x τ Γ next k = bound_by x τ Γ next _ _ refl refl k

  pub bind_all : (xs : List PatternPart) (τs : Tys) (Γ : Context) → length xs ≡ count τs → Holds (λ u Γ'. BindsAll P xs τs Γ Γ') (with_all_bound P xs τs Γ)
  bind_all [] no_types Γ e = on_judged binds_none
  bind_all [] (and_type τ τs) Γ e = absurd (omega arith)
  bind_all (bound x ∷ xs) no_types Γ e = absurd (omega arith)
  bind_all (bound x ∷ xs) (and_type τ τs) Γ e = bind_holds x τ Γ (with_all_bound P xs τs) (λ f. follows (λ u Γ' b. binds_name f b) (bind_all xs τs _ (omega arith)))
  bind_all (skipped p ∷ xs) no_types Γ e = absurd (omega arith)
  bind_all (skipped p ∷ xs) (and_type τ τs) Γ e = follows (λ u Γ' b. binds_skipped b) (bind_all xs τs Γ (omega arith))

  module _ (V : List Ty) where
    enter_local_rule : {w : Name} {Γ : Context} {l : Local} (p : ℕ) → Found w Γ (Some l) → Holds (Typed P V Γ (tree.name p w)) (enter_local p w l Γ)
    enter_local_rule p (found {b = true} k) = on_refusal
    enter_local_rule p (found {b = false} k) = on_judged (rule.local_name (k refl))

    known_holds : {R : Ty → Context → Type 0} (Γ : Context) (p : ℕ) (o : Option Ty) → ((τ : Ty) → o ≡ Some τ → R τ Γ) → Holds R (known p o Γ)
    known_holds Γ p (Some τ) k = on_judged (k τ refl)
    known_holds Γ p None k = on_refusal

    enter_global_rule : (w : Name) (Γ : Context) (p : ℕ) (g : Global) → Absent w Γ → global_of P w ≡ g → Holds (Typed P V Γ (tree.name p w)) (enter_global P V p g Γ)
    enter_global_rule w Γ p (means.function n) a e = known_holds Γ p _ (λ τ k. rule.function_name a e k)
    enter_global_rule w Γ p (means.constructor k) a e = on_refusal
    enter_global_rule w Γ p (means.val i) a e = known_holds Γ p _ (λ τ k. rule.val_name a e k)
    enter_global_rule w Γ p means.unbound a e = on_refusal

    name_holds : (w : Name) (Γ : Context) (p : ℕ) (o : Option Local) → Found w Γ o → Holds (Typed P V Γ (tree.name p w)) (elim o [ Some l ↦ enter_local p w l Γ | None ↦ enter_global P V p (global_of P w) Γ ])
    name_holds w Γ p (Some l) h = enter_local_rule p h
    name_holds w Γ p None (missing a) = enter_global_rule w Γ p _ a refl

    dup_local_rule : {x : Ident} {Γ : Context} {l : Local} (p : ℕ) → Found x.bytes Γ (Some l) → Holds (Typed P V Γ (tree.dup_expr p x)) (dup_local x.place l Γ)
    dup_local_rule p (found {b = true} k) = on_refusal
    dup_local_rule p (found {b = false} k) = on_judged (rule.dup_expression (k refl))

    dup_val_rule : {R : Ty → Context → Type 0} (p q : ℕ) (o : Option Ty) → Holds R (dup_val p q o)
    dup_val_rule p q (Some τ) = on_refusal
    dup_val_rule p q None = on_refusal

    dup_global_rule : {R : Ty → Context → Type 0} (p q : ℕ) (g : Global) → Holds R (dup_global V p q g)
    dup_global_rule p q (means.function n) = on_refusal
    dup_global_rule p q (means.constructor k) = on_refusal
    dup_global_rule p q (means.val i) = dup_val_rule p q _
    dup_global_rule p q means.unbound = on_refusal

    dup_holds : (x : Ident) (Γ : Context) (p : ℕ) (o : Option Local) → Found x.bytes Γ o → Holds (Typed P V Γ (tree.dup_expr p x)) (elim o [ Some l ↦ dup_local x.place l Γ | None ↦ dup_global V p x.place (global_of P x.bytes) ])
    dup_holds x Γ p (Some l) h = dup_local_rule p h
    dup_holds x Γ p None h = dup_global_rule p _ _

    -- an application's head
    data HeadIs (Γ : Context) : Expr → Option ℕ → Type 0 where
      head_constructor_rule : {q k : ℕ} {w : Name} → Absent w Γ → global_of P w ≡ means.constructor k → HeadIs Γ (tree.name q w) (Some k)
      head_entered : {e : Expr} → HeadIs Γ e None

    named_head : (Γ : Context) (q : ℕ) (w : Name) (o : Option Local) (g : Global) → Found w Γ o → global_of P w ≡ g → HeadIs Γ (tree.name q w) (constructor_at o g)
    named_head Γ q w (Some l) g h e = head_entered
    named_head Γ q w None (means.function n) h e = head_entered
    named_head Γ q w None (means.constructor k) (missing a) e = head_constructor_rule a e
    named_head Γ q w None (means.val i) h e = head_entered
    named_head Γ q w None means.unbound h e = head_entered

    head_is : (Γ : Context) (e : Expr) → HeadIs Γ e (head_constructor P e Γ)
    head_is Γ (tree.integer p z) = head_entered
    head_is Γ (tree.symbol p w) = head_entered
    head_is Γ (tree.boolean p b) = head_entered
    head_is Γ (tree.unit p) = head_entered
    head_is Γ (tree.name p w) = named_head Γ p w _ _ (look w Γ) refl
    head_is Γ (tree.if_expr p a b c) = head_entered
    head_is Γ (tree.begin_expr p e es) = head_entered
    head_is Γ (tree.let_expr p bs e) = head_entered
    head_is Γ (tree.case_expr p e bs) = head_entered
    head_is Γ (tree.dup_expr p x) = head_entered
    head_is Γ (tree.apply_expr p e es) = head_entered

    -- Patterns
    variant_holds : (d p k : ℕ) (c : Ident) (xs : List PatternPart) (Γ : Context) (o : Option Variant) → Absent c.bytes Γ → global_of P c.bytes ≡ means.constructor k → slice_get P.variants k ≡ o
        → Holds (λ u Γ'. PatternFits P d (constructor p c xs) Γ Γ') (judge_variant P d p xs o Γ)
    variant_holds d p k c xs Γ None a g e = on_refusal
    variant_holds d p k c xs Γ (Some v) a g e = need_holds _ p (λ b.
        let n = and_parts (eqb v.datatype d) _ b in
        follows (λ u Γ' f. fits_constructor a g e (eqb-true _ _ n.0) f) (bind_all xs (types_of P v.fields) Γ (eqb-true _ _ n.1)))

    head_val_rule : {R : Unit {0} → Context → Type 0} (p q : ℕ) (o : Option Ty) → Holds R (head_val p q o)
    head_val_rule p q (Some τ) = on_refusal
    head_val_rule p q None = on_refusal

    head_holds : (d p : ℕ) (c : Ident) (xs : List PatternPart) (Γ : Context) (g : Global) → Absent c.bytes Γ → global_of P c.bytes ≡ g
        → Holds (λ u Γ'. PatternFits P d (constructor p c xs) Γ Γ') (judge_head P V d p c.place xs g Γ)
    head_holds d p c xs Γ (means.function n) a e = on_refusal
    head_holds d p c xs Γ (means.constructor k) a e = variant_holds d p k c xs Γ _ a e refl
    head_holds d p c xs Γ (means.val i) a e = head_val_rule p _ _
    head_holds d p c xs Γ means.unbound a e = on_refusal

    pattern_holds : (d : ℕ) (x : Pattern) (Γ : Context) → Holds (λ u Γ'. PatternFits P d x Γ Γ') (judge_pattern P V d x Γ)
    pattern_holds d (wildcard p) Γ = on_judged fits_any
    pattern_holds d (constructor p c xs) Γ = by_option (local_named c.bytes Γ) (λ l e. on_refusal) (λ e. head_holds d p c xs Γ _ (absent_at _ Γ e) refl)

    at_type : {Γ Γ' : Context} {e : Expr} {σ τ : Ty} → σ ≡ τ → Typed P V Γ e σ Γ' → Typed P V Γ e τ Γ'
    at_type {Γ} {Γ'} {e} p t = subst (λ (ρ : Ty). Typed P V Γ e ρ Γ') p t

    at_types : {Γ Γ' : Context} {es : Exprs} {σs τs : Tys} → σs ≡ τs → TypedEach P V Γ es σs Γ' → TypedEach P V Γ es τs Γ'
    at_types {Γ} {Γ'} {es} p t = subst (λ (ρs : Tys). TypedEach P V Γ es ρs Γ') p t

    construct_holds : {Γ Γ' : Context} {q k : ℕ} {w : Name} {es : Exprs} {τs : Tys} (p : ℕ) (o : Option Variant) → Absent w Γ → global_of P w ≡ means.constructor k → slice_get P.variants k ≡ o
        → TypedEach P V Γ es τs Γ' → Holds (Typed P V Γ (tree.apply_expr p (tree.name q w) es)) (construct P p o τs Γ')
    construct_holds p None a g e t = on_refusal
    construct_holds p (Some v) a g e t = need_holds _ p (λ s. on_judged (rule.construct_expression a g e (at_types (sym (same_types_law _ _ s)) t)))

    call_holds : {Γ Γ₁ Γ' : Context} {e : Expr} {es : Exprs} {τs : Tys} (p : ℕ) (σ : Ty) → Typed P V Γ e σ Γ₁ → TypedEach P V Γ₁ es τs Γ' → Holds (Typed P V Γ (tree.apply_expr p e es)) (call p σ τs Γ')
    call_holds p int h t = on_refusal
    call_holds p bool h t = on_refusal
    call_holds p symbol h t = on_refusal
    call_holds p unit h t = on_refusal
    call_holds p (datum d) h t = on_refusal
    call_holds p (function σs σ) h t = need_holds _ p (λ s. on_judged (rule.apply_expression h (at_types (sym (same_types_law _ _ s)) t)))

    record Arms (Γ : Context) (d : ℕ) (bs : Branches) (τs : Tys) (Γ' : Context) : Type 0 where
      at : (τ : Ty) → Same τ τs → TypedBranches P V Γ d bs τ Γ'

    agreed_holds : {Γ Γ₁ Γ' : Context} {e : Expr} {bs : Branches} {d : ℕ} (p : ℕ) (τs : Tys) → Typed P V Γ e (datum d) Γ₁ → Arms Γ₁ d bs τs Γ' → Holds (Typed P V Γ (tree.case_expr p e bs)) (agreed p τs Γ')
    agreed_holds p no_types t a = on_refusal
    agreed_holds p (and_type τ τs) t a = need_holds _ p (λ s. on_judged (rule.case_expression t (a.at τ (same_more (all_same τ τs s)))))

    last_arm : {Γ Γ₁ Γ₂ : Context} {d p : ℕ} {x : Pattern} {e : Expr} {τ : Ty} → PatternFits P d x Γ Γ₁ → Typed P V Γ₁ e τ Γ₂ → Arms Γ d (last_branch p x e) (and_type τ no_types) (drop (pattern_names x) Γ₂)
    last_arm {Γ} {Γ₂ = Γ₂} {d = d} {p = p} {x = x} {e = e} {τ = τ} f t = record { at = λ σ s. by_first s (λ (ρ : Ty). TypedBranches P V Γ d (last_branch p x e) ρ (drop (pattern_names x) Γ₂)) (λ r. rule.branches_last f t refl) }

    more_arms : {Γ Γ₁ Γ₂ Γ₃ : Context} {d p : ℕ} {x : Pattern} {e : Expr} {bs : Branches} {τ : Ty} {τs : Tys}
        → PatternFits P d x Γ Γ₁ → Typed P V Γ₁ e τ Γ₂ → Arms Γ d bs τs Γ₃ → Arms Γ d (and_branch p x e bs) (and_type τ τs) (join (drop (pattern_names x) Γ₂) Γ₃)
    more_arms {Γ} {Γ₂ = Γ₂} {Γ₃ = Γ₃} {d = d} {p = p} {x = x} {e = e} {bs = bs} f t a =
        record { at = λ σ s. by_first s (λ (ρ : Ty). TypedBranches P V Γ d (and_branch p x e bs) ρ (join (drop (pattern_names x) Γ₂) Γ₃)) (λ r. rule.branches_more f t (a.at _ r) refl) }

    by_head : {Γ : Context} {R : Ty → Context → Type 0} (o : Option ℕ) (e : Expr) {build : ℕ → Judged Ty} {enter : Judged Ty} → HeadIs Γ e o
        → ((q k : ℕ) (w : Name) → e ≡ tree.name q w → Absent w Γ → global_of P w ≡ means.constructor k → Holds R (build k)) → Holds R enter
        → Holds R (elim o [ Some k ↦ build k | None ↦ enter ])
    by_head (Some k) e (head_constructor_rule {q = q} {w = w} a g) b t = b q k w refl a g
    by_head None e head_entered b t = t

    mutual
      pub sound : (e : Expr) (Γ : Context) → Holds (Typed P V Γ e) (judge P V e Γ)
      sound (tree.integer p z) Γ = on_judged rule.integer
      sound (tree.symbol p w) Γ = on_judged rule.symbol
      sound (tree.boolean p b) Γ = on_judged rule.boolean
      sound (tree.unit p) Γ = on_judged rule.unit_literal
      sound (tree.name p w) Γ = name_holds w Γ p _ (look w Γ)
      sound (tree.if_expr p a b c) Γ =
          then_holds (sound a Γ) (λ τ Γ₁ ta. need_holds _ p (λ s. then_holds (sound b Γ₁) (λ σ Γ₂ tb. then_holds (sound c Γ₁) (λ ρ Γ₃ tc.
          need_holds _ p (λ s'. on_judged (rule.if_expression (at_type (same_type_law τ bool s) ta) tb (at_type (sym (same_type_law σ ρ s')) tc) refl))))))
      sound (tree.begin_expr p e es) Γ = then_holds (sound e Γ) (λ τ Γ₁ t. follows (λ σ Γ' r. rule.begin_expression t r) (sound_row es τ Γ₁))
      sound (tree.let_expr p bs e) Γ = then_holds (sound_bindings bs Γ) (λ u Γ₁ b. then_holds (sound e Γ₁) (λ τ Γ₂ t. on_judged (rule.let_expression b t refl)))
      sound (tree.case_expr p e bs) Γ =
          then_holds (sound e Γ) (λ τ Γ₁ t. tested_holds p τ (λ d q. then_holds (sound_branches bs d Γ₁) (λ τs Γ' a. agreed_holds p τs (at_type q t) a)))
      sound (tree.dup_expr p x) Γ = dup_holds x Γ p _ (look x.bytes Γ)
      sound (tree.apply_expr p e es) Γ =
          by_head (head_constructor P e Γ) e (head_is Γ e)
          (λ q k w h a g. then_holds (sound_each es Γ) (λ τs Γ' t. subst (λ (f : Expr). Holds (Typed P V Γ (tree.apply_expr p f es)) (construct P p (slice_get P.variants k) τs Γ')) (sym h) (construct_holds p _ a g refl t)))
          (then_holds (sound e Γ) (λ σ Γ₁ t. then_holds (sound_each es Γ₁) (λ τs Γ' u. call_holds p σ t u)))

      sound_row : (es : Exprs) (σ : Ty) (Γ : Context) → Holds (TypedRow P V Γ σ es) (judge_row P V σ es Γ)
      sound_row no_exprs σ Γ = on_judged rule.row_last
      sound_row (and_expr e es) σ Γ = then_holds (sound e Γ) (λ τ Γ₁ t. follows (λ ρ Γ' r. rule.row_more t r) (sound_row es τ Γ₁))

      sound_each : (es : Exprs) (Γ : Context) → Holds (TypedEach P V Γ es) (judge_each P V es Γ)
      sound_each no_exprs Γ = on_judged rule.each_none
      sound_each (and_expr e es) Γ = then_holds (sound e Γ) (λ τ Γ₁ t. then_holds (sound_each es Γ₁) (λ τs Γ' u. on_judged (rule.each_more t u)))

      sound_bindings : (bs : Bindings) (Γ : Context) → Holds (λ u Γ'. TypedBindings P V Γ bs Γ') (judge_bindings P V bs Γ)
      sound_bindings no_bindings Γ = on_judged rule.bindings_none
      sound_bindings (and_binding p x e bs) Γ = then_holds (sound e Γ) (λ τ Γ₁ t. bind_holds x τ Γ₁ (judge_bindings P V bs) (λ f. follows (λ u Γ' b. rule.bindings_more t f b) (sound_bindings bs _)))

      sound_branches : (bs : Branches) (d : ℕ) (Γ : Context) → Holds (Arms Γ d bs) (judge_branches P V d bs Γ)
      sound_branches (last_branch p x e) d Γ = then_holds (pattern_holds d x Γ) (λ u Γ₁ f. then_holds (sound e Γ₁) (λ τ Γ₂ t. on_judged (last_arm f t)))
      sound_branches (and_branch p x e bs) d Γ =
          then_holds (pattern_holds d x Γ) (λ u Γ₁ f. then_holds (sound e Γ₁) (λ τ Γ₂ t. then_holds (sound_branches bs d Γ) (λ τs Γ₃ a. on_judged (more_arms f t a))))
