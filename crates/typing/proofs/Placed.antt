-- The code of a well-typed expression is the expression: each of its nodes leads to its parts, and its names to their entries.
use Rattle.std.proofs.Common.{◌≡◌, ℕ, ◌+◌, List, ◌∷◌, ◌++◌, get_or, Some, None, Option, sym, refl, ap, ◌∙◌, subst, subst₂, arith}
use Rattle.grammar.specs.Limits.{expr_nodes, exprs_nodes, bindings_nodes, branches_nodes}
use Rattle.grammar.specs.Trees as tree
use Rattle.grammar.specs.Trees.{Ident, PatternPart, bound, skipped, Pattern, wildcard, constructor, Expr, Exprs, no_exprs, and_expr, Bindings, no_bindings, and_binding, Branches, last_branch, and_branch}
use Rattle.program.specs.Programs.{Name, Program, Global}
use Rattle.program.specs.Compiling.{code, argument_count, global_op, name_op, dup_op, apply_op, named_call, global_call, head_op, branch_op, branch_scope, let_scope, compile, compile_row, compile_arguments, compile_bindings, compile_branches}
use Rattle.program.specs.Scopes.{Scope, distance, further, resolved_by, bind_scope}
use Rattle.program.specs.Standing as stand
use Rattle.program.specs.Standing.{no_code, Stands, StandsRow, StandsArguments, StandsBindings, StandsBranches, StandsBranch}
use Rattle.program.specs.declared.code.Code.{Code}
use Rattle.program.specs.declared.code.Op.{Op}
use Rattle.program.specs.declared.code.Op.TheVariants as op
use Rattle.program.proofs.CodeLaws.{code_length, bindings_length, past_is, nodes_some}
use Rattle.program.proofs.Sitting.{Sits, sits_head, sits_tail, sits_left, sits_right}
use Rattle.typing.specs.Types.{Ty, Tys}
use Rattle.typing.specs.Contexts.{Context, Enters, enters_plain, enters_data, enters_later, Absent, absent_none, absent_more, BindsAll, binds_none, binds_name, binds_skipped}
use Rattle.typing.specs.Judgement as rule
use Rattle.typing.specs.Judgement.{PatternFits, fits_any, fits_constructor, Typed, TypedRow, TypedEach, TypedBindings, TypedBranches}
use Rattle.typing.specs.Names.{Later, later_none, later_more, Lies, lies_none, lies_name, lies_argument}
use Rattle.typing.proofs.Marks.{later}

-- the same entries serve the names afterwards
pub lies_later : {Γ Δ : Context} {G : Scope} → Later Γ Δ → Lies Γ G → Lies Δ G
lies_later k (lies_argument l) = lies_argument (lies_later k l)
lies_later later_none lies_none = lies_none
lies_later (later_more f k) (lies_name l) = lies_name (lies_later k l)

pub entry_of : {w : Name} {Γ Γ' : Context} {τ : Ty} {G : Scope} → Lies Γ G → Enters w Γ τ Γ' → (d : ℕ) × (distance w G ≡ Some d)
entry_of (lies_argument l) n = let k = entry_of l n in (1 + k.0, ap further k.1)
entry_of (lies_name l) (enters_plain e p) = (0, rw e)
entry_of (lies_name l) (enters_data e) = (0, rw e)
entry_of (lies_name l) (enters_later e n) = let k = entry_of l n in (1 + k.0, rw e (ap further k.1))
entry_of lies_none n = elim n [ ]

pub no_entry : {w : Name} {Γ : Context} {G : Scope} → Lies Γ G → Absent w Γ → distance w G ≡ None
no_entry (lies_argument l) a = ap further (no_entry l a)
no_entry (lies_name l) (absent_more e a) = rw e (ap further (no_entry l a))
no_entry lies_none absent_none = refl

module _ (P : Program) where
  pub lies_bound : {xs : List PatternPart} {τs : Tys} {Γ Γ' : Context} {G : Scope} → BindsAll P xs τs Γ Γ' → Lies Γ G → Lies Γ' (bind_scope xs G)
  lies_bound binds_none l = l
  lies_bound (binds_name f b) l = lies_bound b (lies_name l)
  lies_bound (binds_skipped b) l = lies_bound b l

  pub lies_pattern : {d : ℕ} {x : Pattern} {Γ Γ' : Context} {G : Scope} → PatternFits P d x Γ Γ' → Lies Γ G → Lies Γ' (branch_scope x G)
  lies_pattern fits_any l = l
  lies_pattern (fits_constructor a g e n b) l = lies_bound b l

  module _ (V : List Ty) where
    pub lies_bindings : {Γ Γ' : Context} {bs : Bindings} {G : Scope} → TypedBindings P V Γ bs Γ' → Lies Γ G → Lies Γ' (let_scope bs G)
    lies_bindings rule.bindings_none l = l
    lies_bindings (rule.bindings_more e f b) l = lies_bindings b (lies_name (lies_later (later P V e) l))

    module _ (cs : List Code) where
      formed : {G : Scope} {e : Expr} {i : ℕ} {o : Op} {p past : ℕ} {r : List Code} → Sits cs i (code o p past ∷ r) → Stands P cs G o e i → stand.StandsAt P cs G e i
      formed {G} {e} {i} s c = subst (λ (o : Op). Stands P cs G o e i) (sym (ap (λ (c : Code). c.op) (sits_head no_code s))) c

      placed : {i : ℕ} {o : Op} {p past : ℕ} {r : List Code} → Sits cs i (code o p past ∷ r) → (get_or cs i no_code).place ≡ p
      placed s = ap (λ (c : Code). c.place) (sits_head no_code s)

      moved : {G : Scope} {e : Expr} {i j : ℕ} → i ≡ j → stand.StandsAt P cs G e j → stand.StandsAt P cs G e i
      moved {G} {e} q s = subst (λ i. stand.StandsAt P cs G e i) (sym q) s

      -- what does an op of a known kind
      as_op : {G : Scope} {e : Expr} {i : ℕ} {o o' : Op} {p past : ℕ} {r : List Code} → o ≡ o' → Sits cs i (code o p past ∷ r) → Stands P cs G o' e i → stand.StandsAt P cs G e i
      as_op {G} {e} {i} q s c = formed s (subst (λ (o : Op). Stands P cs G o e i) (sym q) c)

      row_from : {G : Scope} {es : Exprs} {i i' j : ℕ} → i ≡ i' → StandsRow P cs G es i' j → StandsRow P cs G es i j
      row_from {G} {es} {j = j} q s = subst (λ i. StandsRow P cs G es i j) (sym q) s

      arguments_from : {G : Scope} {es : Exprs} {i i' j : ℕ} → i ≡ i' → StandsArguments P cs G es i' j → StandsArguments P cs G es i j
      arguments_from {G} {es} {j = j} q s = subst (λ i. StandsArguments P cs G es i j) (sym q) s

      branches_from : {G : Scope} {bs : Branches} {i i' j : ℕ} → i ≡ i' → StandsBranches P cs G bs i' j → StandsBranches P cs G bs i j
      branches_from {G} {bs} {j = j} q s = subst (λ i. StandsBranches P cs G bs i j) (sym q) s

      -- an expression's code before other code
      record Part (G : Scope) (e : Expr) (i : ℕ) (r : List Code) : Type 0 where
        first : Sits cs i (compile P G i e)
        next : Sits cs (i + expr_nodes e) r
        past : (get_or cs i no_code).past ≡ i + expr_nodes e

      part : (G : Scope) (e : Expr) (i : ℕ) (r : List Code) → Sits cs i (compile P G i e ++ r) → Part G e i r
      part G e i r s = record {
        first = sits_left (compile P G i e) r s;
        next = sits_right (compile P G i e) r (i + expr_nodes e) (ap (λ n. i + n) (code_length P e G i)) s;
        past = past_is P cs e G i (sits_left (compile P G i e) r s);
      }

      -- a head that is entered
      entered : {Γ Γ' : Context} {e : Expr} {τ : Ty} {G : Scope} (n : ℕ) → Typed P V Γ e τ Γ' → Lies Γ G → apply_op P G e n ≡ op.Call
      entered n rule.integer l = refl
      entered n rule.symbol l = refl
      entered n rule.boolean l = refl
      entered n rule.unit_literal l = refl
      entered n (rule.local_name {w = w} m) l = ap (λ (o : Option ℕ). named_call (resolved_by P w o) n) (entry_of l m).1
      entered n (rule.function_name {w = w} a g e) l = ap (λ (o : Option ℕ). named_call (resolved_by P w o) n) (no_entry l a) ∙ ap (λ (g : Global). global_call g n) g
      entered n (rule.val_name {w = w} a g e) l = ap (λ (o : Option ℕ). named_call (resolved_by P w o) n) (no_entry l a) ∙ ap (λ (g : Global). global_call g n) g
      entered n (rule.if_expression a b c j) l = refl
      entered n (rule.begin_expression e r) l = refl
      entered n (rule.let_expression b e q) l = refl
      entered n (rule.case_expression e b) l = refl
      entered n (rule.dup_expression m) l = refl
      entered n (rule.construct_expression a g e t) l = refl
      entered n (rule.apply_expression t u) l = refl

      branch : {Γ Γ₁ : Context} {d i p past : ℕ} {x : Pattern} {e : Expr} {G : Scope} {r : List Code} → PatternFits P d x Γ Γ₁ → Sits cs i (code (branch_op P x) p past ∷ r)
          → stand.StandsAt P cs (branch_scope x G) e (i + 1) → StandsBranch P cs G (get_or cs i no_code).op x e i
      branch {i = i} {e = e} {G = G} (fits_any {p = q}) s t = subst (λ (o : Op). StandsBranch P cs G o (wildcard q) e i) (sym (ap (λ (c : Code). c.op) (sits_head no_code s))) (stand.branch_any t)
      branch {i = i} {e = e} {G = G} (fits_constructor {p = q} {c = c} {xs = xs} a g f n b) s t =
          subst (λ (o : Op). StandsBranch P cs G o (constructor q c xs) e i) (sym (ap (λ (c : Code). c.op) (sits_head no_code s) ∙ ap (λ (m : Global). head_op m xs) g)) (stand.branch_constructor g refl t)

      mutual
        pub stands : {Γ Γ' : Context} {e : Expr} {τ : Ty} {G : Scope} → Typed P V Γ e τ Γ' → Lies Γ G → (i : ℕ) → Sits cs i (compile P G i e) → stand.StandsAt P cs G e i
        stands rule.integer l i s = formed s (stand.integer (placed s))
        stands rule.symbol l i s = formed s (stand.symbol (placed s) refl)
        stands rule.boolean l i s = formed s (stand.boolean (placed s))
        stands rule.unit_literal l i s = formed s (stand.unit_literal (placed s))
        stands (rule.local_name {w = w} n) l i s = let k = entry_of l n in as_op (ap (λ (o : Option ℕ). name_op (resolved_by P w o)) k.1) s (stand.local_name (placed s) k.1)
        stands (rule.function_name {w = w} a g e) l i s =
            let k = no_entry l a in as_op (ap (λ (o : Option ℕ). name_op (resolved_by P w o)) k ∙ ap global_op g) s (stand.function_name (placed s) k g)
        stands (rule.val_name {w = w} a g e) l i s =
            let k = no_entry l a in as_op (ap (λ (o : Option ℕ). name_op (resolved_by P w o)) k ∙ ap global_op g) s (stand.val_name (placed s) k g)
        stands (rule.dup_expression {x = x} n) l i s = let k = entry_of l n in as_op (ap (λ (o : Option ℕ). dup_op (resolved_by P x.bytes o)) k.1) s (stand.dup_expression (placed s) k.1)
        stands {G = G} (rule.if_expression {a = a} {b = b} {c = c} ta tb tc j) l i s =
            let l₁ = lies_later (later P V ta) l in
            let m = part G a (i + 1) _ (sits_tail s) in
            let n = part G b (i + 1 + expr_nodes a) _ m.next in
            formed s (stand.if_expression (placed s) (stands ta l (i + 1) m.first) (moved m.past (stands tb l₁ _ n.first))
            (moved (ap (λ j. (get_or cs j no_code).past) m.past ∙ n.past) (stands tc l₁ _ n.next)))
        stands {G = G} (rule.begin_expression {e = e} {es = es} te r) l i s =
            let m = part G e (i + 1) _ (sits_tail s) in
            let q : (get_or cs i no_code).past ≡ i + 1 + expr_nodes e + exprs_nodes es = ap (λ (c : Code). c.past) (sits_head no_code s) ∙ (omega arith) in
            formed s (stand.begin_expression (placed s) (stands te l (i + 1) m.first) (row_from m.past (stands_row r (lies_later (later P V te) l) _ _ q m.next)))
        stands {G = G} (rule.let_expression {bs = bs} {e = e} b te q) l i s =
            let s₁ = sits_tail s in
            let b₁ = sits_left (compile_bindings P G (i + 1) bs) _ s₁ in
            let e₁ = sits_right (compile_bindings P G (i + 1) bs) _ (i + 1 + bindings_nodes bs) (ap (λ n. i + 1 + n) (bindings_length P bs G (i + 1))) s₁ in
            formed s (stand.let_expression (placed s) refl (stands_bindings b l (i + 1) b₁) (stands te (lies_bindings b l) _ e₁))
        stands {G = G} (rule.case_expression {e = e} {bs = bs} te b) l i s =
            let m = part G e (i + 1) _ (sits_tail s) in
            let q : (get_or cs i no_code).past ≡ i + 1 + expr_nodes e + branches_nodes bs = ap (λ (c : Code). c.past) (sits_head no_code s) ∙ (omega arith) in
            formed s (stand.case_expression (placed s) (stands te l (i + 1) m.first) (branches_from m.past (stands_branches b (lies_later (later P V te) l) _ _ q m.next)))
        stands {G = G} (rule.construct_expression {p = p} {q = q'} {k = k} {w = w} {es = es} a g f t) l i s =
            let m = part G (tree.name q' w) (i + 1) _ (sits_tail s) in
            let d = no_entry l a in
            let o = ap (λ (o : Option ℕ). named_call (resolved_by P w o) (argument_count es)) d ∙ ap (λ (g : Global). global_call g (argument_count es)) g in
            let q : (get_or cs i no_code).past ≡ i + 1 + 1 + exprs_nodes es = ap (λ (c : Code). c.past) (sits_head no_code s) ∙ (omega arith) in
            as_op o s (stand.build_expression (placed s) d g refl (arguments_from m.past (stands_arguments t l _ _ q m.next)))
        stands {G = G} (rule.apply_expression {e = e} {es = es} te t) l i s =
            let m = part G e (i + 1) _ (sits_tail s) in
            let q : (get_or cs i no_code).past ≡ i + 1 + expr_nodes e + exprs_nodes es = ap (λ (c : Code). c.past) (sits_head no_code s) ∙ (omega arith) in
            as_op (entered _ te l) s (stand.call_expression (placed s) (stands te l (i + 1) m.first) (arguments_from m.past (stands_arguments t (lies_later (later P V te) l) _ _ q m.next)))

        stands_row : {Γ Γ' : Context} {es : Exprs} {σ τ : Ty} {G : Scope} → TypedRow P V Γ σ es τ Γ' → Lies Γ G → (i j : ℕ) → j ≡ i + exprs_nodes es → Sits cs i (compile_row P G i es) → StandsRow P cs G es i j
        stands_row rule.row_last l i j q s = stand.row_none (omega arith)
        stands_row {G = G} (rule.row_more {e = e} {es = es} te r) l i j q s =
            let m = part G e i _ s in
            let z = nodes_some P e in
            stand.row_more (omega arith) (stands te l i m.first) (row_from m.past (stands_row r (lies_later (later P V te) l) _ j (omega arith) m.next))

        stands_arguments : {Γ Γ' : Context} {es : Exprs} {τs : Tys} {G : Scope} → TypedEach P V Γ es τs Γ' → Lies Γ G → (i j : ℕ) → j ≡ i + exprs_nodes es → Sits cs i (compile_arguments P G i es) → StandsArguments P cs G es i j
        stands_arguments rule.each_none l i j q s = stand.arguments_none (omega arith)
        stands_arguments {G = G} (rule.each_more {e = e} {es = es} te r) l i j q s =
            let m = part G e i _ s in
            let z = nodes_some P e in
            stand.arguments_more (omega arith) (stands te l i m.first) (arguments_from m.past (stands_arguments r (lies_argument (lies_later (later P V te) l)) _ j (omega arith) m.next))

        stands_bindings : {Γ Γ' : Context} {bs : Bindings} {G : Scope} → TypedBindings P V Γ bs Γ' → Lies Γ G → (i : ℕ) → Sits cs i (compile_bindings P G i bs) → StandsBindings P cs G bs i (i + bindings_nodes bs)
        stands_bindings {G = G} rule.bindings_none l i s = let z : i ≡ i + 0 = omega arith in subst (λ j. StandsBindings P cs G no_bindings i j) z stand.bindings_none
        stands_bindings {G = G} (rule.bindings_more {p = p} {x = x} {e = e} {bs = bs} te f b) l i s =
            let s₁ = sits_left (code op.Binding p (i + (1 + expr_nodes e)) ∷ compile P G (i + 1) e) _ s in
            let k = code_length P e G (i + 1) in
            let s₂ = sits_right (code op.Binding p (i + (1 + expr_nodes e)) ∷ compile P G (i + 1) e) _ (i + (1 + expr_nodes e)) (omega arith) s in
            let q : i + (1 + expr_nodes e) + bindings_nodes bs ≡ i + bindings_nodes (and_binding p x e bs) = omega arith in
            let c = stands_bindings b (lies_name (lies_later (later P V te) l)) (i + (1 + expr_nodes e)) s₂ in
            stand.bindings_more (ap (λ (c : Code). c.op) (sits_head no_code s₁)) (stands te l (i + 1) (sits_tail s₁))
            (subst₂ (λ m n. StandsBindings P cs (Some x.bytes ∷ G) bs m n) (sym (ap (λ (c : Code). c.past) (sits_head no_code s₁))) q c)

        stands_branches : {Γ Γ' : Context} {d : ℕ} {bs : Branches} {τ : Ty} {G : Scope} → TypedBranches P V Γ d bs τ Γ' → Lies Γ G → (i j : ℕ) → j ≡ i + branches_nodes bs → Sits cs i (compile_branches P G i bs) → StandsBranches P cs G bs i j
        stands_branches {G = G} (rule.branches_last f t q') l i j q s =
            let e = ap (λ (c : Code). c.past) (sits_head no_code s) in
            stand.branches_last (omega arith) (omega arith) (branch f s (stands t (lies_pattern f l) (i + 1) (sits_tail s)))
        stands_branches {G = G} (rule.branches_more {p = p} {x = x} {e = e} {bs = bs} f t b q') l i j q s =
            let s₁ = sits_left (code (branch_op P x) p (i + (1 + expr_nodes e)) ∷ compile P (branch_scope x G) (i + 1) e) _ s in
            let k = code_length P e (branch_scope x G) (i + 1) in
            let s₂ = sits_right (code (branch_op P x) p (i + (1 + expr_nodes e)) ∷ compile P (branch_scope x G) (i + 1) e) _ (i + (1 + expr_nodes e)) (omega arith) s in
            let c = stands_branches b l (i + (1 + expr_nodes e)) j (omega arith) s₂ in
            stand.branches_more (omega arith) (branch f s₁ (stands t (lies_pattern f l) (i + 1) (sits_tail s₁)))
            (branches_from (ap (λ (c : Code). c.past) (sits_head no_code s₁)) c)
