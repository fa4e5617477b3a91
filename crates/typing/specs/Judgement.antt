-- Which expressions are well typed, and what they consume. Typed P V Γ e τ Γ': in the script P, with vals of the types V known so
-- far, the expression e has the type τ where the local names are Γ, and Γ' are the same names afterwards.
use Rattle.std.specs.Prelude.{◌≡◌, ℕ, Bool, false, List, ◌∷◌, drop, ℤ, Some}
use Rattle.std.specs.List.{slice_get}
use Rattle.grammar.specs.Trees as tree
use Rattle.grammar.specs.Trees.{Ident, PatternPart, bound, skipped, Pattern, wildcard, constructor, Expr, Exprs, no_exprs, and_expr, Bindings, no_bindings, and_binding, Branches, last_branch, and_branch, Definition, Script}
use Rattle.program.specs.Programs as means
use Rattle.program.specs.Programs.{Name, Program, Variant, Define, Val, global_of}
use Rattle.program.specs.Compiling.{binding_count}
use Rattle.program.specs.Scopes.{pattern_names}
use Rattle.typing.specs.Types.{Ty, int, bool, sym, unit, datum, function, Tys, no_types, and_type, types_of, function_type}
use Rattle.typing.specs.Contexts.{Context, Enters, Absent, Free, BindsAll, join, local}

-- a pattern for the datatype with a number, and the names in its branch
pub data PatternFits (P : Program) (d : ℕ) : Pattern → Context → Context → Type 0 where
  fits_any : {p : ℕ} {Γ : Context} → PatternFits P d (wildcard p) Γ Γ
  fits_constructor : {p k : ℕ} {c : Ident} {xs : List PatternPart} {v : Variant} {Γ Γ' : Context}
      → Absent c.bytes Γ → global_of P c.bytes ≡ means.constructor k → slice_get P.variants k ≡ Some v → v.datatype ≡ d
      → BindsAll P xs (types_of P v.fields) Γ Γ' → PatternFits P d (constructor p c xs) Γ Γ'

module _ (P : Program) (V : List Ty) where
  mutual
    pub data Typed : Context → Expr → Ty → Context → Type 0 where
      integer : {Γ : Context} {p : ℕ} {z : ℤ} → Typed Γ (tree.integer p z) int Γ
      symbol : {Γ : Context} {p : ℕ} {w : List ℕ} → Typed Γ (tree.symbol p w) sym Γ
      boolean : {Γ : Context} {p : ℕ} {b : Bool} → Typed Γ (tree.boolean p b) bool Γ
      unit_literal : {Γ : Context} {p : ℕ} → Typed Γ (tree.unit p) unit Γ
      local_name : {Γ Γ' : Context} {p : ℕ} {w : Name} {τ : Ty} → Enters w Γ τ Γ' → Typed Γ (tree.name p w) τ Γ'
      function_name : {Γ : Context} {p n : ℕ} {w : Name} {τ : Ty} → Absent w Γ → global_of P w ≡ means.function n → function_type P n ≡ Some τ → Typed Γ (tree.name p w) τ Γ
      -- a val is known after its closing bracket
      val_name : {Γ : Context} {p i : ℕ} {w : Name} {τ : Ty} → Absent w Γ → global_of P w ≡ means.val i → slice_get V i ≡ Some τ → Typed Γ (tree.name p w) τ Γ
      if_expression : {Γ Γ₁ Γ₂ Γ₃ Γ' : Context} {p : ℕ} {a b c : Expr} {τ : Ty}
          → Typed Γ a bool Γ₁ → Typed Γ₁ b τ Γ₂ → Typed Γ₁ c τ Γ₃ → Γ' ≡ join Γ₂ Γ₃ → Typed Γ (tree.if_expr p a b c) τ Γ'
      begin_expression : {Γ Γ₁ Γ' : Context} {p : ℕ} {e : Expr} {es : Exprs} {σ τ : Ty} → Typed Γ e σ Γ₁ → TypedRow Γ₁ σ es τ Γ' → Typed Γ (tree.begin_expr p e es) τ Γ'
      let_expression : {Γ Γ₁ Γ₂ Γ' : Context} {p : ℕ} {bs : Bindings} {e : Expr} {τ : Ty}
          → TypedBindings Γ bs Γ₁ → Typed Γ₁ e τ Γ₂ → Γ' ≡ drop (binding_count bs) Γ₂ → Typed Γ (tree.let_expr p bs e) τ Γ'
      case_expression : {Γ Γ₁ Γ' : Context} {p d : ℕ} {e : Expr} {bs : Branches} {τ : Ty}
          → Typed Γ e (datum d) Γ₁ → TypedBranches Γ₁ d bs τ Γ' → Typed Γ (tree.case_expr p e bs) τ Γ'
      -- the name is not consumed
      dup_expression : {Γ Γ' : Context} {p : ℕ} {x : Ident} {τ : Ty} → Enters x.bytes Γ τ Γ' → Typed Γ (tree.dup_expr p x) τ Γ
      -- a constructor's name stands at the head, and is not entered
      construct_expression : {Γ Γ' : Context} {p q k : ℕ} {w : Name} {v : Variant} {es : Exprs}
          → Absent w Γ → global_of P w ≡ means.constructor k → slice_get P.variants k ≡ Some v → TypedEach Γ es (types_of P v.fields) Γ'
          → Typed Γ (tree.apply_expr p (tree.name q w) es) (datum v.datatype) Γ'
      apply_expression : {Γ Γ₁ Γ' : Context} {p : ℕ} {e : Expr} {es : Exprs} {τs : Tys} {τ : Ty}
          → Typed Γ e (function τs τ) Γ₁ → TypedEach Γ₁ es τs Γ' → Typed Γ (tree.apply_expr p e es) τ Γ'

    -- the further parts of a begin, behind one of type σ; the type is that of the last
    pub data TypedRow : Context → Ty → Exprs → Ty → Context → Type 0 where
      row_last : {Γ : Context} {σ : Ty} → TypedRow Γ σ no_exprs σ Γ
      row_more : {Γ Γ₁ Γ' : Context} {e : Expr} {es : Exprs} {σ ρ τ : Ty} → Typed Γ e ρ Γ₁ → TypedRow Γ₁ ρ es τ Γ' → TypedRow Γ σ (and_expr e es) τ Γ'

    -- arguments, each of the type in its place
    pub data TypedEach : Context → Exprs → Tys → Context → Type 0 where
      each_none : {Γ : Context} → TypedEach Γ no_exprs no_types Γ
      each_more : {Γ Γ₁ Γ' : Context} {e : Expr} {es : Exprs} {τ : Ty} {τs : Tys} → Typed Γ e τ Γ₁ → TypedEach Γ₁ es τs Γ' → TypedEach Γ (and_expr e es) (and_type τ τs) Γ'

    -- each binding is known in the next ones and in the body
    pub data TypedBindings : Context → Bindings → Context → Type 0 where
      bindings_none : {Γ : Context} → TypedBindings Γ no_bindings Γ
      bindings_more : {Γ Γ₁ Γ' : Context} {p : ℕ} {x : Ident} {e : Expr} {bs : Bindings} {τ : Ty}
          → Typed Γ e τ Γ₁ → Free P x.bytes Γ₁ → TypedBindings (local x.bytes τ false ∷ Γ₁) bs Γ' → TypedBindings Γ (and_binding p x e bs) Γ'

    -- each arm begins with the marks left by the test
    pub data TypedBranches : Context → ℕ → Branches → Ty → Context → Type 0 where
      branches_last : {Γ Γ₁ Γ₂ Γ' : Context} {d p : ℕ} {x : Pattern} {e : Expr} {τ : Ty}
          → PatternFits P d x Γ Γ₁ → Typed Γ₁ e τ Γ₂ → Γ' ≡ drop (pattern_names x) Γ₂ → TypedBranches Γ d (last_branch p x e) τ Γ'
      branches_more : {Γ Γ₁ Γ₂ Γ₃ Γ' : Context} {d p : ℕ} {x : Pattern} {e : Expr} {bs : Branches} {τ : Ty}
          → PatternFits P d x Γ Γ₁ → Typed Γ₁ e τ Γ₂ → TypedBranches Γ d bs τ Γ₃ → Γ' ≡ join (drop (pattern_names x) Γ₂) Γ₃ → TypedBranches Γ d (and_branch p x e bs) τ Γ'
