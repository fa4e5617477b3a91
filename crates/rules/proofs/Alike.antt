-- An expression changes marks alone: the names in scope and their types stay.
use Rattle.std.proofs.Common.{◌≡◌, ℕ, zero, suc, ◌+◌, Bool, List, [], ◌∷◌, drop, sym, subst, arith}
use Rattle.std.proofs.lemmas.List.{drop-drop}
use Rattle.grammar.specs.Trees.{PatternPart, Pattern, Expr, Exprs, Bindings, Branches}
use Rattle.program.specs.Compiling.{binding_count}
use Rattle.program.specs.Programs.{Name, Program}
use Rattle.program.specs.Scopes.{names_inside, pattern_names}
use Rattle.typing.specs.Contexts.{local, Context, Enters, enters_plain, enters_data, enters_later, BindsAll, binds_none, binds_name, binds_skipped, join}
use Rattle.typing.specs.Judgement as rule
use Rattle.typing.specs.Judgement.{PatternFits, fits_any, fits_constructor, Typed, TypedRow, TypedEach, TypedBindings, TypedBranches}
use Rattle.typing.specs.Types.{Ty, Tys}

pub data Alike : Context → Context → Type 0 where
  alike_none : Alike [] []
  alike_more : {x : Name} {τ : Ty} {a b : Bool} {Γ Δ : Context} → Alike Γ Δ → Alike (local x τ a ∷ Γ) (local x τ b ∷ Δ)

pub alike_refl : (Γ : Context) → Alike Γ Γ
alike_refl [] = alike_none
alike_refl (local x τ b ∷ Γ) = alike_more (alike_refl Γ)

pub alike_sym : {Γ Δ : Context} → Alike Γ Δ → Alike Δ Γ
alike_sym alike_none = alike_none
alike_sym (alike_more h) = alike_more (alike_sym h)

pub alike_trans : {Γ Δ Θ : Context} → Alike Γ Δ → Alike Δ Θ → Alike Γ Θ
alike_trans alike_none alike_none = alike_none
alike_trans (alike_more h) (alike_more k) = alike_more (alike_trans h k)

alike_join : {Γ Δ Θ : Context} → Alike Γ Δ → Alike Γ Θ → Alike Γ (join Δ Θ)
alike_join alike_none alike_none = alike_none
alike_join (alike_more h) (alike_more k) = alike_more (alike_join h k)

alike_drop : (n : ℕ) {Γ Δ : Context} → Alike Γ Δ → Alike (drop n Γ) (drop n Δ)
alike_drop zero h = h
alike_drop (suc n) alike_none = alike_none
alike_drop (suc n) (alike_more h) = alike_drop n h

alike_enters : {w : Name} {Γ Γ' : Context} {τ : Ty} → Enters w Γ τ Γ' → Alike Γ Γ'
alike_enters (enters_plain e p) = alike_refl _
alike_enters (enters_data e) = alike_more (alike_refl _)
alike_enters (enters_later e h) = alike_more (alike_enters h)

-- with n names more in front
pub record Behind (n : ℕ) (Γ Δ : Context) : Type 0 where
  pub rest : Alike Γ (drop n Δ)

behind_one : (n : ℕ) {x : Name} {τ : Ty} {b : Bool} {Γ Δ : Context} → Behind n (local x τ b ∷ Γ) Δ → Behind (1 + n) Γ Δ
behind_one n {Γ} {Δ} h =
    let e : n + 1 ≡ 1 + n = omega arith in
    record { rest = subst (λ (m : ℕ). Alike Γ (drop m Δ)) e (subst (Alike Γ) (drop-drop 1 n Δ) (alike_drop 1 h.rest)) }

behind_none : (Γ : Context) → Behind 0 Γ Γ
behind_none Γ = record { rest = alike_refl Γ }

behind_binds : {P : Program} {xs : List PatternPart} {τs : Tys} {Γ Γ' : Context} → BindsAll P xs τs Γ Γ' → Behind (names_inside xs) Γ Γ'
behind_binds binds_none = behind_none _
behind_binds (binds_name {xs = xs} f h) = behind_one (names_inside xs) (behind_binds h)
behind_binds (binds_skipped h) = behind_binds h

pub behind_pattern : {P : Program} {d : ℕ} {x : Pattern} {Γ Γ' : Context} → PatternFits P d x Γ Γ' → Behind (pattern_names x) Γ Γ'
behind_pattern fits_any = behind_none _
behind_pattern (fits_constructor a g n o b) = behind_binds b

pub behind_then : {n : ℕ} {Γ Δ Θ : Context} → Behind n Γ Δ → Alike Δ Θ → Alike Γ (drop n Θ)
behind_then {n} h k = alike_trans h.rest (alike_drop n k)

module _ (P : Program) (V : List Ty) where
  mutual
    pub alike : {Γ Γ' : Context} {e : Expr} {τ : Ty} → Typed P V Γ e τ Γ' → Alike Γ Γ'
    alike rule.integer = alike_refl _
    alike rule.symbol = alike_refl _
    alike rule.boolean = alike_refl _
    alike rule.unit_literal = alike_refl _
    alike (rule.local_name h) = alike_enters h
    alike (rule.function_name a g t) = alike_refl _
    alike (rule.val_name a g t) = alike_refl _
    alike {Γ} (rule.if_expression t a b e) = subst (Alike Γ) (sym e) (alike_join (alike_trans (alike t) (alike a)) (alike_trans (alike t) (alike b)))
    alike (rule.begin_expression h r) = alike_trans (alike h) (alike_row r)
    alike {Γ} (rule.let_expression b h e) = subst (Alike Γ) (sym e) (behind_then (behind_bindings b) (alike h))
    alike (rule.case_expression h b) = alike_trans (alike h) (alike_branches b)
    alike (rule.dup_expression h) = alike_refl _
    alike (rule.construct_expression a g n h) = alike_each h
    alike (rule.apply_expression h r) = alike_trans (alike h) (alike_each r)

    alike_row : {Γ Γ' : Context} {σ τ : Ty} {es : Exprs} → TypedRow P V Γ σ es τ Γ' → Alike Γ Γ'
    alike_row rule.row_last = alike_refl _
    alike_row (rule.row_more h r) = alike_trans (alike h) (alike_row r)

    alike_each : {Γ Γ' : Context} {es : Exprs} {τs : Tys} → TypedEach P V Γ es τs Γ' → Alike Γ Γ'
    alike_each rule.each_none = alike_refl _
    alike_each (rule.each_more h r) = alike_trans (alike h) (alike_each r)

    behind_bindings : {Γ Γ' : Context} {bs : Bindings} → TypedBindings P V Γ bs Γ' → Behind (binding_count bs) Γ Γ'
    behind_bindings rule.bindings_none = behind_none _
    behind_bindings (rule.bindings_more {bs = bs} h f r) = record { rest = alike_trans (alike h) (behind_one (binding_count bs) (behind_bindings r)).rest }

    pub alike_branches : {Γ Γ' : Context} {d : ℕ} {bs : Branches} {τ : Ty} → TypedBranches P V Γ d bs τ Γ' → Alike Γ Γ'
    alike_branches {Γ} (rule.branches_last p h e) = subst (Alike Γ) (sym e) (behind_then (behind_pattern p) (alike h))
    alike_branches {Γ} (rule.branches_more p h r e) = subst (Alike Γ) (sym e) (alike_join (behind_then (behind_pattern p) (alike h)) (alike_branches r))
