-- Nodes that were read, and what stands at them.
use Rattle.std.proofs.Common.{◌≡◌, ℕ, List, sym, ap, ◌∙◌, subst}
use Rattle.grammar.specs.Trees.{Expr}
use Rattle.program.specs.Programs.{Program}
use Rattle.program.specs.Scopes.{Scope}
use Rattle.program.specs.Standing as stands
use Rattle.program.specs.Standing.{at, Stands, StandsAt}
use Rattle.program.specs.declared.code.Code.{Code}
use Rattle.program.specs.declared.code.Op.{Op}
use Rattle.program.specs.declared.code.Op.TheVariants as op

module _ {P : Program} {cs : List Code} where
  -- by the node that was read
  pub stands_as : {G : Scope} {e : Expr} {i : ℕ} {o : Op} (x : Code) → x ≡ at P cs i → x.op ≡ o → StandsAt P cs G e i → Stands P cs G o e i
  stands_as {G} {e} {i} x is does S = subst (λ o. Stands P cs G o e i) (ap (λ (x : Code). x.op) (sym is) ∙ does) S

  pub stands_used : {G : Scope} {e : Expr} {i : ℕ} {o : Op} → Stands P cs G o e i → o ≡ op.Unused → ⊥
  stands_used (stands.integer p) e = cc
  stands_used (stands.symbol p n) e = cc
  stands_used (stands.boolean p) e = cc
  stands_used (stands.unit_literal p) e = cc
  stands_used (stands.local_name p d) e = cc
  stands_used (stands.function_name p d g) e = cc
  stands_used (stands.val_name p d g) e = cc
  stands_used (stands.dup_expression p d) e = cc
  stands_used (stands.if_expression p x y z) e = cc
  stands_used (stands.begin_expression p x r) e = cc
  stands_used (stands.let_expression p n b x) e = cc
  stands_used (stands.case_expression p x b) e = cc
  stands_used (stands.call_expression p x r) e = cc
  stands_used (stands.build_expression p d g n r) e = cc

  pub stands_no_binding : {G : Scope} {e : Expr} {i : ℕ} {o : Op} → Stands P cs G o e i → o ≡ op.Binding → ⊥
  stands_no_binding (stands.integer p) e = cc
  stands_no_binding (stands.symbol p n) e = cc
  stands_no_binding (stands.boolean p) e = cc
  stands_no_binding (stands.unit_literal p) e = cc
  stands_no_binding (stands.local_name p d) e = cc
  stands_no_binding (stands.function_name p d g) e = cc
  stands_no_binding (stands.val_name p d g) e = cc
  stands_no_binding (stands.dup_expression p d) e = cc
  stands_no_binding (stands.if_expression p x y z) e = cc
  stands_no_binding (stands.begin_expression p x r) e = cc
  stands_no_binding (stands.let_expression p n b x) e = cc
  stands_no_binding (stands.case_expression p x b) e = cc
  stands_no_binding (stands.call_expression p x r) e = cc
  stands_no_binding (stands.build_expression p d g n r) e = cc
