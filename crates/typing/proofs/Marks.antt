-- Names stay as they are but for their marks, which are only added.
use Rattle.std.proofs.Common.{◌≡◌, ℕ, zero, suc, ◌+◌, List, [], ◌∷◌, drop, sym, refl, ap, ◌∙◌, subst, arith}
use Rattle.std.proofs.lemmas.Bool.{or_left}
use Rattle.std.proofs.lemmas.List.{drop-drop}
use Rattle.grammar.specs.Trees.{PatternPart, Pattern, Expr, Exprs, Bindings, Branches}
use Rattle.program.specs.Programs.{Name, Program}
use Rattle.program.specs.Compiling.{binding_count}
use Rattle.program.specs.Scopes.{names_inside, pattern_names}
use Rattle.typing.specs.Types.{Ty, Tys}
use Rattle.typing.specs.Contexts.{Local, local, Context, Enters, enters_plain, enters_data, enters_later, BindsAll, binds_none, binds_name, binds_skipped, join}
use Rattle.typing.specs.Judgement as rule
use Rattle.typing.specs.Judgement.{PatternFits, fits_any, fits_constructor, Typed, TypedRow, TypedEach, TypedBindings, TypedBranches}
use Rattle.typing.specs.Names.{Later, later_none, later_more}

pub later_same : (Γ : Context) → Later Γ Γ
later_same [] = later_none
later_same (local x τ b ∷ Γ) = later_more (λ e. e) (later_same Γ)

pub later_on : {Γ Δ Ξ : Context} → Later Γ Δ → Later Δ Ξ → Later Γ Ξ
later_on later_none later_none = later_none
later_on (later_more f k) (later_more g l) = later_more (λ e. g (f e)) (later_on k l)

pub later_join : {Γ Δ Ξ : Context} → Later Γ Δ → Later Γ Ξ → Later Γ (join Δ Ξ)
later_join later_none later_none = later_none
later_join (later_more f k) (later_more g l) = later_more (λ e. or_left _ _ (f e)) (later_join k l)

pub later_drop : {Γ Δ : Context} (n : ℕ) → Later Γ Δ → Later (drop n Γ) (drop n Δ)
later_drop zero k = k
later_drop (suc n) later_none = later_none
later_drop (suc n) (later_more f k) = later_drop n k

later_tail : {l : Local} {Γ Δ : Context} → Later (l ∷ Γ) Δ → Later Γ (drop 1 Δ)
later_tail (later_more f k) = k

at_end : {Γ Δ Ξ : Context} → Δ ≡ Ξ → Later Γ Δ → Later Γ Ξ
at_end {Γ} e k = subst (Later Γ) e k

pub later_entered : {w : Name} {Γ Γ' : Context} {τ : Ty} → Enters w Γ τ Γ' → Later Γ Γ'
later_entered (enters_plain {Γ = Γ} e p) = later_more (λ z. z) (later_same Γ)
later_entered (enters_data {Γ = Γ} e) = later_more (λ z. refl) (later_same Γ)
later_entered (enters_later e n) = later_more (λ z. z) (later_entered n)

drop_one : {l : Local} {Γ : Context} (n : ℕ) (Δ : Context) → drop n Δ ≡ l ∷ Γ → drop (1 + n) Δ ≡ Γ
drop_one n Δ e = let k : 1 + n ≡ n + 1 = omega arith in ap (λ j. drop j Δ) k ∙ sym (drop-drop 1 n Δ) ∙ ap (drop 1) e

module _ (P : Program) where
  pub bound_above : {xs : List PatternPart} {τs : Tys} {Γ Γ' : Context} → BindsAll P xs τs Γ Γ' → drop (names_inside xs) Γ' ≡ Γ
  bound_above binds_none = refl
  bound_above (binds_name {xs = xs} f b) = drop_one (names_inside xs) _ (bound_above b)
  bound_above (binds_skipped b) = bound_above b

  pub pattern_above : {d : ℕ} {x : Pattern} {Γ Γ' : Context} → PatternFits P d x Γ Γ' → drop (pattern_names x) Γ' ≡ Γ
  pattern_above fits_any = refl
  pattern_above (fits_constructor a g e n b) = bound_above b

  -- what a branch leaves of the names before it
  pub later_branch : {d : ℕ} {x : Pattern} {Γ Γ₁ Γ₂ : Context} → PatternFits P d x Γ Γ₁ → Later Γ₁ Γ₂ → Later Γ (drop (pattern_names x) Γ₂)
  later_branch {x = x} {Γ₂ = Γ₂} f k = subst (λ (Δ : Context). Later Δ (drop (pattern_names x) Γ₂)) (pattern_above f) (later_drop (pattern_names x) k)

  module _ (V : List Ty) where
    mutual
      pub later : {Γ Γ' : Context} {e : Expr} {τ : Ty} → Typed P V Γ e τ Γ' → Later Γ Γ'
      later rule.integer = later_same _
      later rule.symbol = later_same _
      later rule.boolean = later_same _
      later rule.unit_literal = later_same _
      later (rule.local_name n) = later_entered n
      later (rule.function_name a g e) = later_same _
      later (rule.val_name a g e) = later_same _
      later (rule.if_expression a b c j) = at_end (sym j) (later_on (later a) (later_join (later b) (later c)))
      later (rule.begin_expression e r) = later_on (later e) (later_row r)
      later (rule.let_expression {bs = bs} b e q) = at_end (sym q) (later_on (later_bindings b) (later_drop (binding_count bs) (later e)))
      later (rule.case_expression e b) = later_on (later e) (later_branches b)
      later (rule.dup_expression n) = later_same _
      later (rule.construct_expression a g e t) = later_each t
      later (rule.apply_expression t u) = later_on (later t) (later_each u)

      later_row : {Γ Γ' : Context} {σ τ : Ty} {es : Exprs} → TypedRow P V Γ σ es τ Γ' → Later Γ Γ'
      later_row rule.row_last = later_same _
      later_row (rule.row_more e r) = later_on (later e) (later_row r)

      pub later_each : {Γ Γ' : Context} {es : Exprs} {τs : Tys} → TypedEach P V Γ es τs Γ' → Later Γ Γ'
      later_each rule.each_none = later_same _
      later_each (rule.each_more e r) = later_on (later e) (later_each r)

      pub later_bindings : {Γ Γ' : Context} {bs : Bindings} → TypedBindings P V Γ bs Γ' → Later Γ (drop (binding_count bs) Γ')
      later_bindings rule.bindings_none = later_same _
      later_bindings (rule.bindings_more {Γ' = Γ'} {bs = bs} e f b) =
          let n : binding_count bs + 1 ≡ 1 + binding_count bs = omega arith in
          at_end (drop-drop 1 (binding_count bs) Γ' ∙ ap (λ j. drop j Γ') n) (later_on (later e) (later_tail (later_bindings b)))

      pub later_branches : {Γ Γ' : Context} {d : ℕ} {bs : Branches} {τ : Ty} → TypedBranches P V Γ d bs τ Γ' → Later Γ Γ'
      later_branches (rule.branches_last f t q) = at_end (sym q) (later_branch f (later t))
      later_branches (rule.branches_more f t b q) = at_end (sym q) (later_join (later_branch f (later t)) (later_branches b))
