-- What has a type by the rules is judged to have it, with those names afterwards.
use Rattle.std.proofs.Common.{◌≡◌, ℕ, true, false, List, ◌∷◌, length, Some, None, Option, refl, ap, ◌∙◌, arith}
use Rattle.std.specs.List.{slice_get}
use Rattle.std.proofs.lemmas.Bool.{eq-eqb, lt-ltb}
use Rattle.script_refusals.specs.declared.refusal.Refusal.TheVariants as refusal
use Rattle.grammar.specs.Trees as tree
use Rattle.grammar.specs.Trees.{Ident, PatternPart, bound, skipped, Pattern, wildcard, constructor, Expr, Exprs, no_exprs, and_expr, Bindings, no_bindings, and_binding, Branches, last_branch, and_branch}
use Rattle.program.specs.Programs.{Name, Program, global_of}
use Rattle.typing.specs.Types.{Ty, Tys, no_types, and_type, count, types_of}
use Rattle.typing.specs.Contexts.{Local, local, Context, Plain, plain_int, plain_bool, plain_sym, plain_unit, plain_function, Enters, enters_plain, enters_data, enters_later, Absent, absent_none, absent_more, Free, BindsAll, binds_none, binds_name, binds_skipped, most_locals, local_named}
use Rattle.typing.specs.Judgement as rule
use Rattle.typing.specs.Judgement.{PatternFits, fits_any, fits_constructor, Typed, TypedRow, TypedEach, TypedBindings, TypedBranches}
use Rattle.typing.specs.Judging.{Judged, judged, and_then, refuse, entered, enter_local, enter_global, judge_name, judge_dup, dup_local, dup_global, is_fresh, bind_name, with_all_bound, judge_head, judge_pattern, head_constructor, construct, call, all_alike, judge, judge_row, judge_each, judge_bindings, judge_branches}
use Rattle.typing.proofs.Sound.{Same, same_none, same_more, entered_later}
use Rattle.typing.proofs.TypeRows.{type_same, types_same}

pub absent_look : {w : Name} {Γ : Context} → Absent w Γ → local_named w Γ ≡ None
absent_look absent_none = refl
absent_look (absent_more e a) = rw e (absent_look a)

plain_entered : {τ : Ty} (w : Name) (Γ : Context) → Plain τ → entered w τ Γ ≡ Γ
plain_entered w Γ plain_int = refl
plain_entered w Γ plain_bool = refl
plain_entered w Γ plain_sym = refl
plain_entered w Γ plain_unit = refl
plain_entered w Γ plain_function = refl

-- the local that is entered
pub enters_name : {w : Name} {Γ Γ' : Context} {τ : Ty} → Enters w Γ τ Γ' → (x : Name) × (local_named w Γ ≡ Some (local x τ false)) × (entered w τ Γ ≡ Γ')
enters_name {w} (enters_plain {x = x} {τ = τ} {Γ = Γ} e p) = (x, rw e, plain_entered w _ p)
enters_name (enters_data {x = x} e) = (x, rw e, rw e)
enters_name {w} (enters_later {x = x} {σ = σ} {τ = τ} {b = b} {Γ = Γ} e n) =
    let k = enters_name n in
    (k.0, rw e k.1, entered_later w x σ τ b Γ e ∙ ap (λ (Δ : Context). local x σ b ∷ Δ) k.2)

module _ (P : Program) where
  fresh_is : (w : Name) (Γ : Context) → Free P w Γ → is_fresh P w Γ ≡ true
  fresh_is w Γ f = rw (absent_look f.absent, f.fresh)

  bound_name : {X : Type 0} (x : Ident) (τ : Ty) (Γ : Context) (next : Context → Judged X) → Free P x.bytes Γ → bind_name P x τ Γ next ≡ next (local x.bytes τ false ∷ Γ)
  bound_name x τ Γ next f = rw (lt-ltb (length Γ) most_locals f.room, fresh_is x.bytes Γ f)

  pub bound_all : {xs : List PatternPart} {τs : Tys} {Γ Γ' : Context} → BindsAll P xs τs Γ Γ' → with_all_bound P xs τs Γ ≡ judged tt Γ'
  bound_all binds_none = refl
  bound_all (binds_name {x = x} {xs = xs} {τ = τ} {τs = τs} {Γ = Γ} f b) = bound_name x τ Γ (with_all_bound P xs τs) f ∙ bound_all b
  bound_all (binds_skipped b) = bound_all b

  pub as_many : {xs : List PatternPart} {τs : Tys} {Γ Γ' : Context} → BindsAll P xs τs Γ Γ' → length xs ≡ count τs
  as_many binds_none = refl
  as_many (binds_name f b) = let k = as_many b in omega arith
  as_many (binds_skipped b) = let k = as_many b in omega arith

  module _ (V : List Ty) where
    -- a name, by what it is
    name_by : (p : ℕ) (w : Name) (Γ : Context) (o : Option Local) → local_named w Γ ≡ o → judge_name P V p w Γ ≡ elim o [ Some l ↦ enter_local p w l Γ | None ↦ enter_global P V p (global_of P w) Γ ]
    name_by p w Γ o e = ap (λ (l : Option Local). elim l [ Some l ↦ enter_local p w l Γ | None ↦ enter_global P V p (global_of P w) Γ ]) e

    dup_by : (p : ℕ) (x : Ident) (Γ : Context) (o : Option Local) → local_named x.bytes Γ ≡ o
        → judge_dup P V p x Γ ≡ elim o [ Some l ↦ dup_local x.place l Γ | None ↦ dup_global V p x.place (global_of P x.bytes) ]
    dup_by p x Γ o e = ap (λ (l : Option Local). elim l [ Some l ↦ dup_local x.place l Γ | None ↦ dup_global V p x.place (global_of P x.bytes) ]) e

    pattern_by : (d p : ℕ) (c : Ident) (xs : List PatternPart) (Γ : Context) → local_named c.bytes Γ ≡ None → judge_pattern P V d (constructor p c xs) Γ ≡ judge_head P V d p c.place xs (global_of P c.bytes) Γ
    pattern_by d p c xs Γ e = ap (λ (l : Option Local). elim l [ Some l ↦ refuse refusal.Mismatch p | None ↦ judge_head P V d p c.place xs (global_of P c.bytes) Γ ]) e

    apply_by : (p : ℕ) (e : Expr) (es : Exprs) (Γ : Context) (o : Option ℕ) → head_constructor P e Γ ≡ o → judge P V (tree.apply_expr p e es) Γ ≡ elim o [
      | Some k ↦ and_then (judge_each P V es Γ) (λ τs Γ₁. construct P p (slice_get P.variants k) τs Γ₁)
      | None ↦ and_then (judge P V e Γ) (λ σ Γ₁. and_then (judge_each P V es Γ₁) (λ τs Γ₂. call p σ τs Γ₂))
    ]
    apply_by p e es Γ o h = ap (λ (o : Option ℕ). elim o [
      | Some k ↦ and_then (judge_each P V es Γ) (λ τs Γ₁. construct P p (slice_get P.variants k) τs Γ₁)
      | None ↦ and_then (judge P V e Γ) (λ σ Γ₁. and_then (judge_each P V es Γ₁) (λ τs Γ₂. call p σ τs Γ₂))
    ]) h

    pattern_judged : {d : ℕ} {x : Pattern} {Γ Γ' : Context} → PatternFits P d x Γ Γ' → judge_pattern P V d x Γ ≡ judged tt Γ'
    pattern_judged fits_any = refl
    pattern_judged (fits_constructor {p = p} {c = c} {xs = xs} {Γ = Γ} a g e n b) = pattern_by _ p c xs Γ (absent_look a) ∙ rw (g, e, eq-eqb _ _ n, eq-eqb _ _ (as_many b)) (bound_all b)

    -- the types of all arms are one type
    types_agree : {τ : Ty} {τs : Tys} → Same τ τs → all_alike τ τs ≡ true
    types_agree same_none = refl
    types_agree {τ} (same_more s) = rw (type_same τ) (types_agree s)

    -- an application whose head has a type is not that of a constructor
    entered_head : {e : Expr} {σ : Ty} {Γ Γ' : Context} → Typed P V Γ e σ Γ' → head_constructor P e Γ ≡ None
    entered_head rule.integer = refl
    entered_head rule.symbol = refl
    entered_head rule.boolean = refl
    entered_head rule.unit_literal = refl
    entered_head (rule.local_name n) = rw (enters_name n).1
    entered_head (rule.function_name a g e) = rw (absent_look a, g)
    entered_head (rule.val_name a g e) = rw (absent_look a, g)
    entered_head (rule.if_expression a b c j) = refl
    entered_head (rule.begin_expression e r) = refl
    entered_head (rule.let_expression b e q) = refl
    entered_head (rule.case_expression e b) = refl
    entered_head (rule.dup_expression n) = refl
    entered_head (rule.construct_expression a g e t) = refl
    entered_head (rule.apply_expression t u) = refl

    mutual
      pub complete : {Γ Γ' : Context} {e : Expr} {τ : Ty} → Typed P V Γ e τ Γ' → judge P V e Γ ≡ judged τ Γ'
      complete rule.integer = refl
      complete rule.symbol = refl
      complete rule.boolean = refl
      complete rule.unit_literal = refl
      complete (rule.local_name {Γ = Γ} {p = p} {w = w} {τ = τ} n) = let k = enters_name n in name_by p w Γ _ k.1 ∙ ap (λ (Δ : Context). judged τ Δ) k.2
      complete (rule.function_name {Γ = Γ} {p = p} {w = w} a g e) = name_by p w Γ _ (absent_look a) ∙ rw (g, e)
      complete (rule.val_name {Γ = Γ} {p = p} {w = w} a g e) = name_by p w Γ _ (absent_look a) ∙ rw (g, e)
      complete (rule.if_expression {τ = τ} a b c j) = rw (complete a, complete b, complete c, type_same τ, j)
      complete (rule.begin_expression e r) = rw (complete e) (complete_row r)
      complete (rule.let_expression b e q) = rw (complete_bindings b, complete e, q)
      complete (rule.case_expression {p = p} e b) = let k = complete_branches b in rw (complete e, k.1, types_agree k.2)
      complete (rule.dup_expression {Γ = Γ} {p = p} {x = x} n) = dup_by p x Γ _ (enters_name n).1
      complete (rule.construct_expression {Γ = Γ} {p = p} {q = q} {k = k} {w = w} {v = v} {es = es} a g e t) =
          apply_by p (tree.name q w) es Γ (Some k) (rw (absent_look a, g)) ∙ rw (complete_each t, e, types_same (types_of P v.fields))
      complete (rule.apply_expression {Γ = Γ} {p = p} {e = e} {es = es} {τs = τs} t u) = apply_by p e es Γ _ (entered_head t) ∙ rw (complete t, complete_each u, types_same τs)

      complete_row : {Γ Γ' : Context} {σ τ : Ty} {es : Exprs} → TypedRow P V Γ σ es τ Γ' → judge_row P V σ es Γ ≡ judged τ Γ'
      complete_row rule.row_last = refl
      complete_row (rule.row_more e r) = rw (complete e) (complete_row r)

      complete_each : {Γ Γ' : Context} {es : Exprs} {τs : Tys} → TypedEach P V Γ es τs Γ' → judge_each P V es Γ ≡ judged τs Γ'
      complete_each rule.each_none = refl
      complete_each (rule.each_more e r) = rw (complete e, complete_each r)

      complete_bindings : {Γ Γ' : Context} {bs : Bindings} → TypedBindings P V Γ bs Γ' → judge_bindings P V bs Γ ≡ judged tt Γ'
      complete_bindings rule.bindings_none = refl
      complete_bindings (rule.bindings_more {Γ₁ = Γ₁} {x = x} {bs = bs} {τ = τ} e f b) = rw (complete e) (bound_name x τ Γ₁ (judge_bindings P V bs) f ∙ complete_bindings b)

      complete_branches : {Γ Γ' : Context} {d : ℕ} {bs : Branches} {τ : Ty} → TypedBranches P V Γ d bs τ Γ' → (τs : Tys) × (judge_branches P V d bs Γ ≡ judged (and_type τ τs) Γ') × Same τ τs
      complete_branches (rule.branches_last f t q) = (no_types, rw (pattern_judged f, complete t, q), same_none)
      complete_branches (rule.branches_more {τ = τ} f t b q) = let k = complete_branches b in (and_type τ k.0, rw (pattern_judged f, complete t, k.1, q), same_more k.2)
