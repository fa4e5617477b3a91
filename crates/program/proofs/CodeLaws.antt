-- How long the code of an expression is, and where its parts lie.
use Rattle.std.proofs.Common.{◌≡◌, ℕ, ◌+◌, ◌<◌, List, ◌∷◌, length, get_or, Some, None, refl, ap, arith, length-append}
use Rattle.grammar.specs.Limits.{expr_nodes, exprs_nodes, bindings_nodes, branches_nodes}
use Rattle.grammar.specs.Trees as tree
use Rattle.grammar.specs.Trees.{Expr, Exprs, no_exprs, and_expr, Bindings, no_bindings, and_binding, Branches, last_branch, and_branch}
use Rattle.program.specs.Compiling.{compile, compile_row, compile_arguments, compile_bindings, compile_branches, let_scope, branch_scope}
use Rattle.program.specs.Programs.{Program}
use Rattle.program.specs.Scopes.{Scope}
use Rattle.program.specs.Standing.{no_code}
use Rattle.program.specs.declared.code.Code.{Code}
use Rattle.program.proofs.Sitting.{Sits, sits_head}

module _ (P : Program) where
  mutual
    pub code_length : (e : Expr) (G : Scope) (i : ℕ) → length (compile P G i e) ≡ expr_nodes e
    code_length (tree.integer p z) G i = refl
    code_length (tree.symbol p w) G i = refl
    code_length (tree.boolean p b) G i = refl
    code_length (tree.unit p) G i = refl
    code_length (tree.name p w) G i = refl
    code_length (tree.dup_expr p x) G i = refl
    code_length (tree.if_expr p a b c) G i =
        let k = code_length a G (i + 1) in
        let l = code_length b G (i + 1 + expr_nodes a) in
        let m = code_length c G (i + 1 + expr_nodes a + expr_nodes b) in
        simp length-append (omega arith)
    code_length (tree.begin_expr p e es) G i =
        let k = code_length e G (i + 1) in
        let l = row_length_rule es G (i + 1 + expr_nodes e) in
        simp length-append (omega arith)
    code_length (tree.let_expr p bs e) G i =
        let k = bindings_length bs G (i + 1) in
        let l = code_length e (let_scope bs G) (i + 1 + bindings_nodes bs) in
        simp length-append (omega arith)
    code_length (tree.case_expr p e bs) G i =
        let k = code_length e G (i + 1) in
        let l = branches_length bs G (i + 1 + expr_nodes e) in
        simp length-append (omega arith)
    code_length (tree.apply_expr p e es) G i =
        let k = code_length e G (i + 1) in
        let l = arguments_length es G (i + 1 + expr_nodes e) in
        simp length-append (omega arith)

    pub row_length_rule : (es : Exprs) (G : Scope) (i : ℕ) → length (compile_row P G i es) ≡ exprs_nodes es
    row_length_rule no_exprs G i = refl
    row_length_rule (and_expr e es) G i =
        let k = code_length e G i in
        let l = row_length_rule es G (i + expr_nodes e) in
        simp length-append (omega arith)

    pub arguments_length : (es : Exprs) (G : Scope) (i : ℕ) → length (compile_arguments P G i es) ≡ exprs_nodes es
    arguments_length no_exprs G i = refl
    arguments_length (and_expr e es) G i =
        let k = code_length e G i in
        let l = arguments_length es (None ∷ G) (i + expr_nodes e) in
        simp length-append (omega arith)

    pub bindings_length : (bs : Bindings) (G : Scope) (i : ℕ) → length (compile_bindings P G i bs) ≡ bindings_nodes bs
    bindings_length no_bindings G i = refl
    bindings_length (and_binding p x e bs) G i =
        let k = code_length e G (i + 1) in
        let l = bindings_length bs (Some x.bytes ∷ G) (i + (1 + expr_nodes e)) in
        simp length-append (omega arith)

    pub branches_length : (bs : Branches) (G : Scope) (i : ℕ) → length (compile_branches P G i bs) ≡ branches_nodes bs
    branches_length (last_branch p x e) G i = let k = code_length e (branch_scope x G) (i + 1) in omega arith
    branches_length (and_branch p x e bs) G i =
        let k = code_length e (branch_scope x G) (i + 1) in
        let l = branches_length bs G (i + (1 + expr_nodes e)) in
        simp length-append (omega arith)

  pub nodes_some : (e : Expr) → 0 < expr_nodes e
  nodes_some (tree.integer p z) = omega arith
  nodes_some (tree.symbol p w) = omega arith
  nodes_some (tree.boolean p b) = omega arith
  nodes_some (tree.unit p) = omega arith
  nodes_some (tree.name p w) = omega arith
  nodes_some (tree.dup_expr p x) = omega arith
  nodes_some (tree.if_expr p a b c) = omega arith
  nodes_some (tree.begin_expr p e es) = omega arith
  nodes_some (tree.let_expr p bs e) = omega arith
  nodes_some (tree.case_expr p e bs) = omega arith
  nodes_some (tree.apply_expr p e es) = omega arith

  module _ (cs : List Code) where
    -- the node after the last of an expression
    pub past_is : (e : Expr) (G : Scope) (i : ℕ) → Sits cs i (compile P G i e) → (get_or cs i no_code).past ≡ i + expr_nodes e
    past_is (tree.integer p z) G i s = ap (λ (c : Code). c.past) (sits_head no_code s)
    past_is (tree.symbol p w) G i s = ap (λ (c : Code). c.past) (sits_head no_code s)
    past_is (tree.boolean p b) G i s = ap (λ (c : Code). c.past) (sits_head no_code s)
    past_is (tree.unit p) G i s = ap (λ (c : Code). c.past) (sits_head no_code s)
    past_is (tree.name p w) G i s = ap (λ (c : Code). c.past) (sits_head no_code s)
    past_is (tree.dup_expr p x) G i s = ap (λ (c : Code). c.past) (sits_head no_code s)
    past_is (tree.if_expr p a b c) G i s = ap (λ (c : Code). c.past) (sits_head no_code s)
    past_is (tree.begin_expr p e es) G i s = ap (λ (c : Code). c.past) (sits_head no_code s)
    past_is (tree.let_expr p bs e) G i s = ap (λ (c : Code). c.past) (sits_head no_code s)
    past_is (tree.case_expr p e bs) G i s = ap (λ (c : Code). c.past) (sits_head no_code s)
    past_is (tree.apply_expr p e es) G i s = ap (λ (c : Code). c.past) (sits_head no_code s)
