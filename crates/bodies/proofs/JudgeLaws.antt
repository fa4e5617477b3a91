-- What the judgement of a form is, by what those of its parts are.
use Rattle.std.proofs.Common.{◌≡◌, ℕ, true, false, List, drop, Some, None, Option, refl, ap, ◌∙◌}
use Rattle.std.specs.List.{slice_get}
use Rattle.bodies.specs.Parts.{judge_arm}
use Rattle.grammar.specs.Trees.{Ident, Pattern, Expr, if_expr, begin_expr, let_expr, case_expr, apply_expr, Exprs, and_expr, Bindings, and_binding, Branches, last_branch, and_branch}
use Rattle.program.specs.Compiling.{binding_count}
use Rattle.program.specs.Programs.{Program, Variant}
use Rattle.program.specs.Scopes.{pattern_names}
use Rattle.script_refusals.specs.Refusals.{refused_at}
use Rattle.script_refusals.specs.declared.refusal.Refusal.TheVariants.{Mismatch}
use Rattle.script_refusals.specs.declared.refusal.Refused.{Refused}
use Rattle.typing.specs.Contexts.{Context, join}
use Rattle.typing.specs.Judging.{Judged, refused, judged, and_then, judge, judge_pattern, judge_row, judge_each, judge_bindings, judge_branches, bind_name, head_constructor, construct, call, all_alike, tested, agreed}
use Rattle.typing.specs.Types as type
use Rattle.typing.specs.Types.{Ty, int, bool, unit, datum, function, Tys, no_types, and_type, same_type, same_types, types_of}

module _ (P : Program) (V : List Ty) where
  module _ (p : ℕ) (a b c : Expr) (Γ : Context) where
    pub if_test_refused : (r : Refused) → judge P V a Γ ≡ refused r → judge P V (if_expr p a b c) Γ ≡ refused r
    if_test_refused r e = rw e refl

    pub if_test_other : (τ : Ty) (Γ₁ : Context) → judge P V a Γ ≡ judged τ Γ₁ → same_type τ bool ≡ false → judge P V (if_expr p a b c) Γ ≡ refused (refused_at Mismatch p)
    if_test_other τ Γ₁ e s = rw (e, s) refl

    module _ (Γ₁ : Context) (ea : judge P V a Γ ≡ judged bool Γ₁) where
      pub if_first_refused : (r : Refused) → judge P V b Γ₁ ≡ refused r → judge P V (if_expr p a b c) Γ ≡ refused r
      if_first_refused r e = rw (ea, e) refl

      module _ (σ : Ty) (Γ₂ : Context) (eb : judge P V b Γ₁ ≡ judged σ Γ₂) where
        pub if_second_refused : (r : Refused) → judge P V c Γ₁ ≡ refused r → judge P V (if_expr p a b c) Γ ≡ refused r
        if_second_refused r e = rw (ea, eb, e) refl

        pub if_unlike : (ρ : Ty) (Γ₃ : Context) → judge P V c Γ₁ ≡ judged ρ Γ₃ → same_type σ ρ ≡ false → judge P V (if_expr p a b c) Γ ≡ refused (refused_at Mismatch p)
        if_unlike ρ Γ₃ e s = rw (ea, eb, e, s) refl

        pub if_judged : (ρ : Ty) (Γ₃ : Context) → judge P V c Γ₁ ≡ judged ρ Γ₃ → same_type σ ρ ≡ true → judge P V (if_expr p a b c) Γ ≡ judged σ (join Γ₂ Γ₃)
        if_judged ρ Γ₃ e s = rw (ea, eb, e, s) refl

  pub begin_refused : (p : ℕ) (e : Expr) (es : Exprs) (Γ : Context) (r : Refused) → judge P V e Γ ≡ refused r → judge P V (begin_expr p e es) Γ ≡ refused r
  begin_refused p e es Γ r h = rw h refl

  pub begin_goes : (p : ℕ) (e : Expr) (es : Exprs) (Γ Γ₁ : Context) (τ : Ty) → judge P V e Γ ≡ judged τ Γ₁ → judge P V (begin_expr p e es) Γ ≡ judge_row P V τ es Γ₁
  begin_goes p e es Γ Γ₁ τ h = rw h refl

  pub row_refused : (σ : Ty) (e : Expr) (es : Exprs) (Γ : Context) (r : Refused) → judge P V e Γ ≡ refused r → judge_row P V σ (and_expr e es) Γ ≡ refused r
  row_refused σ e es Γ r h = rw h refl

  pub row_goes : (σ : Ty) (e : Expr) (es : Exprs) (Γ Γ₁ : Context) (τ : Ty) → judge P V e Γ ≡ judged τ Γ₁ → judge_row P V σ (and_expr e es) Γ ≡ judge_row P V τ es Γ₁
  row_goes σ e es Γ Γ₁ τ h = rw h refl

  pub each_refused : (e : Expr) (es : Exprs) (Γ : Context) (r : Refused) → judge P V e Γ ≡ refused r → judge_each P V (and_expr e es) Γ ≡ refused r
  each_refused e es Γ r h = rw h refl

  module _ (e : Expr) (es : Exprs) (Γ Γ₁ : Context) (τ : Ty) (h : judge P V e Γ ≡ judged τ Γ₁) where
    pub each_later : (r : Refused) → judge_each P V es Γ₁ ≡ refused r → judge_each P V (and_expr e es) Γ ≡ refused r
    each_later r k = rw (h, k) refl

    pub each_judged : (τs : Tys) (Γ₂ : Context) → judge_each P V es Γ₁ ≡ judged τs Γ₂ → judge_each P V (and_expr e es) Γ ≡ judged (and_type τ τs) Γ₂
    each_judged τs Γ₂ k = rw (h, k) refl

  pub let_refused : (p : ℕ) (bs : Bindings) (e : Expr) (Γ : Context) (r : Refused) → judge_bindings P V bs Γ ≡ refused r → judge P V (let_expr p bs e) Γ ≡ refused r
  let_refused p bs e Γ r h = rw h refl

  module _ (p : ℕ) (bs : Bindings) (e : Expr) (Γ Γ₁ : Context) (h : judge_bindings P V bs Γ ≡ judged tt Γ₁) where
    pub let_body_refused : (r : Refused) → judge P V e Γ₁ ≡ refused r → judge P V (let_expr p bs e) Γ ≡ refused r
    let_body_refused r k = rw (h, k) refl

    pub let_judged : (τ : Ty) (Γ₂ : Context) → judge P V e Γ₁ ≡ judged τ Γ₂ → judge P V (let_expr p bs e) Γ ≡ judged τ (drop (binding_count bs) Γ₂)
    let_judged τ Γ₂ k = rw (h, k) refl

  pub binding_refused : (p : ℕ) (x : Ident) (e : Expr) (bs : Bindings) (Γ : Context) (r : Refused) → judge P V e Γ ≡ refused r → judge_bindings P V (and_binding p x e bs) Γ ≡ refused r
  binding_refused p x e bs Γ r h = rw h refl

  pub binding_goes : (p : ℕ) (x : Ident) (e : Expr) (bs : Bindings) (Γ Γ₁ : Context) (τ : Ty) → judge P V e Γ ≡ judged τ Γ₁ → judge_bindings P V (and_binding p x e bs) Γ ≡ bind_name P x τ Γ₁ (judge_bindings P V bs)
  binding_goes p x e bs Γ Γ₁ τ h = rw h refl

  pub case_refused : (p : ℕ) (e : Expr) (bs : Branches) (Γ : Context) (r : Refused) → judge P V e Γ ≡ refused r → judge P V (case_expr p e bs) Γ ≡ refused r
  case_refused p e bs Γ r h = rw h refl

  pub case_other : (p : ℕ) (e : Expr) (bs : Branches) (Γ Γ₁ : Context) (τ : Ty) → judge P V e Γ ≡ judged τ Γ₁ → ((d : ℕ) → τ ≡ datum d → ⊥) → judge P V (case_expr p e bs) Γ ≡ refused (refused_at Mismatch p)
  case_other p e bs Γ Γ₁ τ h other = rw h (go τ other)
    where
      go : (τ : Ty) → ((d : ℕ) → τ ≡ datum d → ⊥) → tested p τ (λ d. and_then (judge_branches P V d bs Γ₁) (λ τs Γ₂. agreed p τs Γ₂)) ≡ refused (refused_at Mismatch p)
      go int other = refl
      go bool other = refl
      go type.sym other = refl
      go unit other = refl
      go (datum d) other = absurd (other d refl)
      go (function ts t) other = refl

  module _ (p : ℕ) (e : Expr) (bs : Branches) (Γ Γ₁ : Context) (d : ℕ) (h : judge P V e Γ ≡ judged (datum d) Γ₁) where
    pub case_later : (r : Refused) → judge_branches P V d bs Γ₁ ≡ refused r → judge P V (case_expr p e bs) Γ ≡ refused r
    case_later r k = rw (h, k) refl

    pub case_unlike : (τ : Ty) (τs : Tys) (Γ₂ : Context) → judge_branches P V d bs Γ₁ ≡ judged (and_type τ τs) Γ₂ → all_alike τ τs ≡ false → judge P V (case_expr p e bs) Γ ≡ refused (refused_at Mismatch p)
    case_unlike τ τs Γ₂ k s = rw (h, k, s) refl

    pub case_judged : (τ : Ty) (τs : Tys) (Γ₂ : Context) → judge_branches P V d bs Γ₁ ≡ judged (and_type τ τs) Γ₂ → all_alike τ τs ≡ true → judge P V (case_expr p e bs) Γ ≡ judged τ Γ₂
    case_judged τ τs Γ₂ k s = rw (h, k, s) refl

  -- a branch, and those behind it
  arm_then : {X : Type 0} (d : ℕ) (x : Pattern) (e : Expr) (Γ : Context) (next : Ty → Context → Judged X)
      → and_then (judge_pattern P V d x Γ) (λ u Γ₁. and_then (judge P V e Γ₁) (λ τ Γ₂. next τ (drop (pattern_names x) Γ₂))) ≡ and_then (judge_arm P V d x e Γ) next
  arm_then d x e Γ next = go (judge_pattern P V d x Γ)
    where
      inner : (j : Judged Ty) → and_then j (λ τ Γ₂. next τ (drop (pattern_names x) Γ₂)) ≡ and_then (and_then j (λ τ Γ₂. judged τ (drop (pattern_names x) Γ₂))) next
      inner (refused r) = refl
      inner (judged τ Γ₂) = refl

      go : (j : Judged (Unit {0})) → and_then j (λ u Γ₁. and_then (judge P V e Γ₁) (λ τ Γ₂. next τ (drop (pattern_names x) Γ₂))) ≡ and_then (and_then j (λ u Γ₁. and_then (judge P V e Γ₁) (λ τ Γ₂. judged τ (drop (pattern_names x) Γ₂)))) next
      go (refused r) = refl
      go (judged u Γ₁) = inner (judge P V e Γ₁)

  module _ (d p : ℕ) (x : Pattern) (e : Expr) (Γ : Context) where
    pub last_refused : (r : Refused) → judge_arm P V d x e Γ ≡ refused r → judge_branches P V d (last_branch p x e) Γ ≡ refused r
    last_refused r h = arm_then d x e Γ (λ τ Γ₂. judged (and_type τ no_types) Γ₂) ∙ ap (λ j. and_then j (λ τ Γ₂. judged (and_type τ no_types) Γ₂)) h

    pub last_judged : (τ : Ty) (Γ₂ : Context) → judge_arm P V d x e Γ ≡ judged τ Γ₂ → judge_branches P V d (last_branch p x e) Γ ≡ judged (and_type τ no_types) Γ₂
    last_judged τ Γ₂ h = arm_then d x e Γ (λ τ Γ₂. judged (and_type τ no_types) Γ₂) ∙ ap (λ j. and_then j (λ τ Γ₂. judged (and_type τ no_types) Γ₂)) h

    module _ (bs : Branches) where
      more_by : (j : Judged Ty) → judge_arm P V d x e Γ ≡ j → judge_branches P V d (and_branch p x e bs) Γ ≡ and_then j (λ τ Γ₂. and_then (judge_branches P V d bs Γ) (λ τs Γ₃. judged (and_type τ τs) (join Γ₂ Γ₃)))
      more_by j h = arm_then d x e Γ (λ τ Γ₂. and_then (judge_branches P V d bs Γ) (λ τs Γ₃. judged (and_type τ τs) (join Γ₂ Γ₃))) ∙ ap (λ j. and_then j (λ τ Γ₂. and_then (judge_branches P V d bs Γ) (λ τs Γ₃. judged (and_type τ τs) (join Γ₂ Γ₃)))) h

      pub branch_refused : (r : Refused) → judge_arm P V d x e Γ ≡ refused r → judge_branches P V d (and_branch p x e bs) Γ ≡ refused r
      branch_refused r h = more_by (refused r) h

      pub branch_later : (τ : Ty) (Γ₂ : Context) (r : Refused) → judge_arm P V d x e Γ ≡ judged τ Γ₂ → judge_branches P V d bs Γ ≡ refused r → judge_branches P V d (and_branch p x e bs) Γ ≡ refused r
      branch_later τ Γ₂ r h k = more_by (judged τ Γ₂) h ∙ rw k refl

      pub branch_judged : (τ : Ty) (τs : Tys) (Γ₂ Γ₃ : Context) → judge_arm P V d x e Γ ≡ judged τ Γ₂ → judge_branches P V d bs Γ ≡ judged τs Γ₃ → judge_branches P V d (and_branch p x e bs) Γ ≡ judged (and_type τ τs) (join Γ₂ Γ₃)
      branch_judged τ τs Γ₂ Γ₃ h k = more_by (judged τ Γ₂) h ∙ rw k refl

    pub arm_pattern_refused : (r : Refused) → judge_pattern P V d x Γ ≡ refused r → judge_arm P V d x e Γ ≡ refused r
    arm_pattern_refused r h = rw h refl

    module _ (Γ₁ : Context) (h : judge_pattern P V d x Γ ≡ judged tt Γ₁) where
      pub arm_refused : (r : Refused) → judge P V e Γ₁ ≡ refused r → judge_arm P V d x e Γ ≡ refused r
      arm_refused r k = rw (h, k) refl

      pub arm_judged : (τ : Ty) (Γ₂ : Context) → judge P V e Γ₁ ≡ judged τ Γ₂ → judge_arm P V d x e Γ ≡ judged τ (drop (pattern_names x) Γ₂)
      arm_judged τ Γ₂ k = rw (h, k) refl

  -- an application, by what its head names
  module _ (p : ℕ) (e : Expr) (es : Exprs) (Γ : Context) where
    apply_by : (o : Option ℕ) → head_constructor P e Γ ≡ o → judge P V (apply_expr p e es) Γ ≡ elim o [
      | Some k ↦ and_then (judge_each P V es Γ) (λ τs Γ₁. construct P p (slice_get P.variants k) τs Γ₁)
      | None ↦ and_then (judge P V e Γ) (λ σ Γ₁. and_then (judge_each P V es Γ₁) (λ τs Γ₂. call p σ τs Γ₂))
    ]
    apply_by o h = ap (λ (o : Option ℕ). elim o [
      | Some k ↦ and_then (judge_each P V es Γ) (λ τs Γ₁. construct P p (slice_get P.variants k) τs Γ₁)
      | None ↦ and_then (judge P V e Γ) (λ σ Γ₁. and_then (judge_each P V es Γ₁) (λ τs Γ₂. call p σ τs Γ₂))
    ]) h

    module _ (k : ℕ) (h : head_constructor P e Γ ≡ Some k) where
      pub construct_refused : (r : Refused) → judge_each P V es Γ ≡ refused r → judge P V (apply_expr p e es) Γ ≡ refused r
      construct_refused r j = apply_by (Some k) h ∙ rw j refl

      module _ (v : Variant) (at : slice_get P.variants k ≡ Some v) (τs : Tys) (Γ₁ : Context) (j : judge_each P V es Γ ≡ judged τs Γ₁) where
        pub construct_unfit : same_types (types_of P v.fields) τs ≡ false → judge P V (apply_expr p e es) Γ ≡ refused (refused_at Mismatch p)
        construct_unfit s = apply_by (Some k) h ∙ rw (j, at, s) refl

        pub construct_judged : same_types (types_of P v.fields) τs ≡ true → judge P V (apply_expr p e es) Γ ≡ judged (datum v.datatype) Γ₁
        construct_judged s = apply_by (Some k) h ∙ rw (j, at, s) refl

    module _ (h : head_constructor P e Γ ≡ None) where
      pub call_refused : (r : Refused) → judge P V e Γ ≡ refused r → judge P V (apply_expr p e es) Γ ≡ refused r
      call_refused r k = apply_by None h ∙ rw k refl

      module _ (σ : Ty) (Γ₁ : Context) (k : judge P V e Γ ≡ judged σ Γ₁) where
        pub call_later : (r : Refused) → judge_each P V es Γ₁ ≡ refused r → judge P V (apply_expr p e es) Γ ≡ refused r
        call_later r j = apply_by None h ∙ rw (k, j) refl

        pub call_goes : (τs : Tys) (Γ₂ : Context) → judge_each P V es Γ₁ ≡ judged τs Γ₂ → judge P V (apply_expr p e es) Γ ≡ call p σ τs Γ₂
        call_goes τs Γ₂ j = apply_by None h ∙ rw (k, j) refl
