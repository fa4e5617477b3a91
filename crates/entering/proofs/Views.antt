-- Which expression stands at a node, by what the node does.
use Rattle.std.specs.Prelude.{⊤, Result}
use Rattle.std.proofs.Common.{◌≡◌, ℕ, ◌+◌, ◌<◌, cond, List, [], ◌∷◌, Some, None, Bool, ℤ, Option, length, nat_lt, refl, ap, ◌∙◌, arith}
use Rattle.std.specs.List.{slice_get}
use Rattle.grammar.specs.Trees as tree
use Rattle.grammar.specs.Trees.{Ident, Expr, Exprs, no_exprs, and_expr, Bindings, Branches}
use Rattle.cells.specs.Meaning.{Cells}
use Rattle.data.specs.Trees.{none, function}
use Rattle.layout.specs.Literals.{place_of_first}
use Rattle.machine.proofs.Names.{looked, unseen, seen_there}
use Rattle.machine.specs.Holding.{names}
use Rattle.machine.specs.Mirrors.{Mirrors, Moved}
use Rattle.machine.specs.Waiting.{PlacedAt}
use Rattle.machine.specs.declared.machine.Machine.{Machine}
use Rattle.rules.specs.declared.fault.FaultKind.{FaultKind}
use Rattle.program.specs.Compiling.{argument_count, binding_count, let_scope}
use Rattle.program.specs.Programs as means
use Rattle.program.specs.Programs.{Program, Name, Global, Val, global_of}
use Rattle.program.specs.Scopes.{Scope, distance}
use Rattle.program.specs.Standing as stands
use Rattle.program.specs.Standing.{at, past, Stands, StandsAt, StandsRow, StandsArguments, StandsBindings, StandsBranches}
use Rattle.program.specs.declared.code.Code.{Code}
use Rattle.program.specs.declared.code.Op.{Op}
use Rattle.program.specs.declared.code.Op.TheVariants as op
use Rattle.rules.specs.declared.fault.FaultKind.TheVariants.{StackFull}
use Rattle.rules.specs.States.{Environment, Frame, Account, head_value, body_value, next_argument, builds, st, enter, finished}
use Rattle.rules.specs.Steps.{Outcome, stuck, Sizes, Looked, got, consumed, absent, look, is_local, waits, enter_named, enter_apply, val_entered, took, build, enter_construct, enter_expr, enter_name, enter_global, finish, bind_next, needs, goes}

module _ {P : Program} {cs : List Code} where
  pub at_integer : {G : Scope} {e : Expr} {i : ℕ} {z : ℤ} (Q : Expr → Type 0) → Stands P cs G (op.Integer z) e i → ((p : ℕ) → Q (tree.integer p z)) → Q e
  at_integer Q (stands.integer p) g = g _

  pub at_symbol : {G : Scope} {e : Expr} {i : ℕ} {n : ℕ} (Q : Expr → Type 0) → Stands P cs G (op.Symbol n) e i → ((p : ℕ) (w : List ℕ) → place_of_first P.literals w ≡ n → Q (tree.symbol p w)) → Q e
  at_symbol Q (stands.symbol p n) g = g _ _ n

  pub at_boolean : {G : Scope} {e : Expr} {i : ℕ} {b : Bool} (Q : Expr → Type 0) → Stands P cs G (op.Boolean b) e i → ((p : ℕ) → Q (tree.boolean p b)) → Q e
  at_boolean Q (stands.boolean p) g = g _

  pub at_unit : {G : Scope} {e : Expr} {i : ℕ} (Q : Expr → Type 0) → Stands P cs G op.Unit e i → ((p : ℕ) → Q (tree.unit p)) → Q e
  at_unit Q (stands.unit_literal p) g = g _

  pub at_local : {G : Scope} {e : Expr} {i : ℕ} {d : ℕ} (Q : Expr → Type 0) → Stands P cs G (op.Local d) e i → ((p : ℕ) (w : Name) → distance w G ≡ Some d → Q (tree.name p w)) → Q e
  at_local Q (stands.local_name p d) g = g _ _ d

  pub at_function : {G : Scope} {e : Expr} {i : ℕ} {n : ℕ} (Q : Expr → Type 0) → Stands P cs G (op.Function n) e i → ((p : ℕ) (w : Name) → distance w G ≡ None → global_of P w ≡ means.function n → Q (tree.name p w)) → Q e
  at_function Q (stands.function_name p d f) g = g _ _ d f

  pub at_val : {G : Scope} {e : Expr} {i : ℕ} {k : ℕ} (Q : Expr → Type 0) → Stands P cs G (op.Val k) e i → ((p : ℕ) (w : Name) → PlacedAt P cs i p → distance w G ≡ None → global_of P w ≡ means.val k → Q (tree.name p w)) → Q e
  at_val Q (stands.val_name p d f) g = g _ _ p d f

  pub at_dup : {G : Scope} {e : Expr} {i : ℕ} {d : ℕ} (Q : Expr → Type 0) → Stands P cs G (op.Dup d) e i → ((p : ℕ) (x : Ident) → distance x.bytes G ≡ Some d → Q (tree.dup_expr p x)) → Q e
  at_dup Q (stands.dup_expression p d) g = g _ _ d

  pub at_if : {G : Scope} {e : Expr} {i : ℕ} (Q : Expr → Type 0) → Stands P cs G op.If e i
      → ((p : ℕ) (x y z : Expr) → PlacedAt P cs i p → StandsAt P cs G x (i + 1) → StandsAt P cs G y (past P cs (i + 1)) → StandsAt P cs G z (past P cs (past P cs (i + 1))) → Q (tree.if_expr p x y z)) → Q e
  at_if Q (stands.if_expression p x y z) g = g _ _ _ _ p x y z

  pub at_begin : {G : Scope} {e : Expr} {i : ℕ} (Q : Expr → Type 0) → Stands P cs G op.Begin e i → ((p : ℕ) (x : Expr) (xs : Exprs) → PlacedAt P cs i p → StandsAt P cs G x (i + 1) → StandsRow P cs G xs (past P cs (i + 1)) (past P cs i) → Q (tree.begin_expr p x xs)) → Q e
  at_begin Q (stands.begin_expression p x r) g = g _ _ _ p x r

  pub at_let : {G : Scope} {e : Expr} {i : ℕ} {n : ℕ} (Q : Expr → Type 0) → Stands P cs G (op.Let n) e i
      → ((p j : ℕ) (bs : Bindings) (x : Expr) → PlacedAt P cs i p → binding_count bs ≡ n → StandsBindings P cs G bs (i + 1) j → StandsAt P cs (let_scope bs G) x j → Q (tree.let_expr p bs x)) → Q e
  at_let Q (stands.let_expression p n b x) g = g _ _ _ _ p n b x

  pub at_case : {G : Scope} {e : Expr} {i : ℕ} (Q : Expr → Type 0) → Stands P cs G op.Case e i
      → ((p : ℕ) (x : Expr) (bs : Branches) → PlacedAt P cs i p → StandsAt P cs G x (i + 1) → StandsBranches P cs G bs (past P cs (i + 1)) (past P cs i) → Q (tree.case_expr p x bs)) → Q e
  at_case Q (stands.case_expression p x b) g = g _ _ _ p x b

  pub at_call : {G : Scope} {e : Expr} {i : ℕ} (Q : Expr → Type 0) → Stands P cs G op.Call e i
      → ((p : ℕ) (x : Expr) (xs : Exprs) → PlacedAt P cs i p → StandsAt P cs G x (i + 1) → StandsArguments P cs G xs (past P cs (i + 1)) (past P cs i) → Q (tree.apply_expr p x xs)) → Q e
  at_call Q (stands.call_expression p x r) g = g _ _ _ p x r

  pub at_build : {G : Scope} {e : Expr} {i : ℕ} {k n : ℕ} (Q : Expr → Type 0) → Stands P cs G (op.Build k n) e i
      → ((p q : ℕ) (w : Name) (xs : Exprs) → PlacedAt P cs i p → distance w G ≡ None → global_of P w ≡ means.constructor k → argument_count xs ≡ n
      → StandsArguments P cs G xs (past P cs (i + 1)) (past P cs i) → Q (tree.apply_expr p (tree.name q w) xs)) → Q e
  at_build Q (stands.build_expression p d c n r) g = g _ _ _ _ p d c n r

-- An application whose head is entered waits for the head.
module _ (P : Program) (Z : Sizes) (K : List Frame) (env : Environment) (a : Account) (p : ℕ) (es : Exprs) where
  abbrev heads : Name → Expr → Looked → Outcome
  heads w x l = cond (is_local P Z l) (waits P Z (head_value p es) x K env a) (enter_named P Z p x es K env a (global_of P w))

  head_waits : (w : Name) (x : Expr) (l : Looked) → (l ≡ absent → enter_named P Z p x es K env a (global_of P w) ≡ waits P Z (head_value p es) x K env a) → heads w x l ≡ waits P Z (head_value p es) x K env a
  unfolding is_local
  head_waits w x (got t after) h = refl
  head_waits w x consumed h = refl
  head_waits w x absent h = h refl

  function_waits : (w : Name) (x : Expr) (n : ℕ) (m : Global) → m ≡ means.function n → enter_named P Z p x es K env a m ≡ waits P Z (head_value p es) x K env a
  unfolding enter_named
  function_waits w x n m e = ap (enter_named P Z p x es K env a) e

  val_waits : (w : Name) (x : Expr) (n : ℕ) (m : Global) → m ≡ means.val n → enter_named P Z p x es K env a m ≡ waits P Z (head_value p es) x K env a
  unfolding enter_named
  val_waits w x n m e = ap (enter_named P Z p x es K env a) e

  pub calls_wait : {cs : List Code} {o : Op} {x : Expr} {i : ℕ} → Stands P cs (names env) o x i → enter_apply P Z p x es K env a ≡ waits P Z (head_value p es) x K env a
  unfolding enter_apply
  calls_wait (stands.integer h) = refl
  calls_wait (stands.symbol h n) = refl
  calls_wait (stands.boolean h) = refl
  calls_wait (stands.unit_literal h) = refl
  calls_wait (stands.local_name {w = w} h d) = head_waits w _ (look w env) (λ e. absurd (seen_there (looked w env _ d) e))
  calls_wait (stands.function_name {n = n} {w = w} h d g) = head_waits w _ (look w env) (λ e. function_waits w _ n (global_of P w) g)
  calls_wait (stands.val_name {k = k} {w = w} h d g) = head_waits w _ (look w env) (λ e. val_waits w _ k (global_of P w) g)
  calls_wait (stands.dup_expression h d) = refl
  calls_wait (stands.if_expression h x y z) = refl
  calls_wait (stands.begin_expression h x r) = refl
  calls_wait (stands.let_expression h n b x) = refl
  calls_wait (stands.case_expression h x b) = refl
  calls_wait (stands.call_expression h x r) = refl
  calls_wait (stands.build_expression h d g n r) = refl

-- a val's name waits for the val's expression, if there is such a val
pub val_as : (P : Program) (Z : Sizes) (p : ℕ) (K : List Frame) (env : Environment) (a : Account) (Q : Outcome → Type 0) (o : Option Val) → Q stuck
    → ((v : Val) → o ≡ Some v → Q (waits P Z (body_value p env) v.expr K [] a)) → Q (val_entered P Z p K env a o)
unfolding val_entered
val_as P Z p K env a Q None q g = q
val_as P Z p K env a Q (Some v) q g = g v refl

-- a constructor without arguments is built at once, and one with arguments waits for the first
module _ (P : Program) (Z : Sizes) (p c : ℕ) (K : List Frame) (env : Environment) (a : Account) (Q : Outcome → Type 0) where
  pub construct_none : (es : Exprs) → argument_count es ≡ 0 → Q (build P Z c K env a (took none env)) → Q (enter_construct P Z p c es K env a)
  unfolding enter_construct
  construct_none no_exprs h q = q
  construct_none (and_expr e es) h q = absurd (omega arith)

  pub construct_some : {cs : List Code} {G : Scope} {es : Exprs} {i j : ℕ} → StandsArguments P cs G es i j → 0 < argument_count es
      → ((x : Expr) (xs : Exprs) → argument_count es ≡ 1 + argument_count xs → i < j → StandsAt P cs G x i → StandsArguments P cs (None ∷ G) xs (past P cs i) j → Q (waits P Z (next_argument p (builds c) 0 xs) x K env a))
      → Q (enter_construct P Z p c es K env a)
  unfolding enter_construct
  construct_some (stands.arguments_none l) h g = absurd (omega arith)
  construct_some (stands.arguments_more l x r) h g = g _ _ refl l x r

-- what entering an expression is to a machine
abbrev pub Enters : Program → Sizes → Cells → List Frame → Environment → Account → Machine → Cells → Result ⊤ FaultKind → Machine → Cells → Expr → Type 0
Enters P Z m₀ K env a r m t r' m' e = Mirrors P Z m₀ (st K env (enter e) a) r m → Moved P Z m₀ (st K env (enter e) a) (enter_expr P Z K env a e) t r' m'

-- no other node stands for an expression
pub no_other : {P : Program} {cs : List Code} {G : Scope} {e : Expr} {i : ℕ} {o : Op} → Stands P cs G o e i
    → ((z : ℤ) → o ≡ op.Integer z → ⊥) → ((n : ℕ) → o ≡ op.Symbol n → ⊥) → ((b : Bool) → o ≡ op.Boolean b → ⊥) → (o ≡ op.Unit → ⊥) → ((d : ℕ) → o ≡ op.Local d → ⊥) → ((d : ℕ) → o ≡ op.Dup d → ⊥)
    → ((n : ℕ) → o ≡ op.Function n → ⊥) → ((k : ℕ) → o ≡ op.Val k → ⊥) → (o ≡ op.If → ⊥) → (o ≡ op.Case → ⊥) → (o ≡ op.Call → ⊥) → (o ≡ op.Begin → ⊥) → ((n : ℕ) → o ≡ op.Let n → ⊥)
    → ((k n : ℕ) → o ≡ op.Build k n → ⊥) → ⊥
no_other (stands.integer h) h₁ h₂ h₃ h₄ h₅ h₆ h₇ h₈ h₉ k₁ k₂ k₃ k₄ k₅ = h₁ _ refl
no_other (stands.symbol h n) h₁ h₂ h₃ h₄ h₅ h₆ h₇ h₈ h₉ k₁ k₂ k₃ k₄ k₅ = h₂ _ refl
no_other (stands.boolean h) h₁ h₂ h₃ h₄ h₅ h₆ h₇ h₈ h₉ k₁ k₂ k₃ k₄ k₅ = h₃ _ refl
no_other (stands.unit_literal h) h₁ h₂ h₃ h₄ h₅ h₆ h₇ h₈ h₉ k₁ k₂ k₃ k₄ k₅ = h₄ refl
no_other (stands.local_name h d) h₁ h₂ h₃ h₄ h₅ h₆ h₇ h₈ h₉ k₁ k₂ k₃ k₄ k₅ = h₅ _ refl
no_other (stands.dup_expression h d) h₁ h₂ h₃ h₄ h₅ h₆ h₇ h₈ h₉ k₁ k₂ k₃ k₄ k₅ = h₆ _ refl
no_other (stands.function_name h d g) h₁ h₂ h₃ h₄ h₅ h₆ h₇ h₈ h₉ k₁ k₂ k₃ k₄ k₅ = h₇ _ refl
no_other (stands.val_name h d g) h₁ h₂ h₃ h₄ h₅ h₆ h₇ h₈ h₉ k₁ k₂ k₃ k₄ k₅ = h₈ _ refl
no_other (stands.if_expression h x y z) h₁ h₂ h₃ h₄ h₅ h₆ h₇ h₈ h₉ k₁ k₂ k₃ k₄ k₅ = h₉ refl
no_other (stands.case_expression h x b) h₁ h₂ h₃ h₄ h₅ h₆ h₇ h₈ h₉ k₁ k₂ k₃ k₄ k₅ = k₁ refl
no_other (stands.call_expression h x r) h₁ h₂ h₃ h₄ h₅ h₆ h₇ h₈ h₉ k₁ k₂ k₃ k₄ k₅ = k₂ refl
no_other (stands.begin_expression h x r) h₁ h₂ h₃ h₄ h₅ h₆ h₇ h₈ h₉ k₁ k₂ k₃ k₄ k₅ = k₃ refl
no_other (stands.let_expression h n b x) h₁ h₂ h₃ h₄ h₅ h₆ h₇ h₈ h₉ k₁ k₂ k₃ k₄ k₅ = k₄ _ refl
no_other (stands.build_expression h d g n r) h₁ h₂ h₃ h₄ h₅ h₆ h₇ h₈ h₉ k₁ k₂ k₃ k₄ k₅ = k₅ _ _ refl

module _ (P : Program) (Z : Sizes) (p : ℕ) where
  -- a name that no local has
  pub function_named : (K : List Frame) (env : Environment) (a : Account) (w : Name) (n : ℕ) → distance w (names env) ≡ None → global_of P w ≡ means.function n
      → enter_name P Z p w K env a (look w env) ≡ goes [] (st K env (finished (function n)) a)
  unfolding enter_name enter_global finish
  function_named K env a w n d g = ap (enter_name P Z p w K env a) (unseen w env d) ∙ ap (enter_global P Z p K env a) g

  pub val_named : (K : List Frame) (env : Environment) (a : Account) (w : Name) (k : ℕ) → distance w (names env) ≡ None → global_of P w ≡ means.val k
      → enter_name P Z p w K env a (look w env) ≡ val_entered P Z p K env a (slice_get P.vals k)
  unfolding enter_name enter_global
  val_named K env a w k d g = ap (enter_name P Z p w K env a) (unseen w env d) ∙ ap (enter_global P Z p K env a) g

  pub construct_named : (q : ℕ) (K : List Frame) (env : Environment) (a : Account) (w : Name) (es : Exprs) (k : ℕ) → distance w (names env) ≡ None → global_of P w ≡ means.constructor k
      → enter_apply P Z p (tree.name q w) es K env a ≡ enter_construct P Z p k es K env a
  unfolding enter_apply is_local enter_named
  construct_named q K env a w es k d g =
      ap (λ l. cond (is_local P Z l) (waits P Z (head_value p es) (tree.name q w) K env a) (enter_named P Z p (tree.name q w) es K env a (global_of P w))) (unseen w env d)
      ∙ ap (enter_named P Z p (tree.name q w) es K env a) g

  -- a let that goes on waits
  pub let_waits : (bs : Bindings) (e : Expr) (K : List Frame) (env : Environment) (a : Account) (f : Frame) (x : Expr) → bind_next P Z p bs e (binding_count bs) K env a ≡ goes [] (st (f ∷ K) env (enter x) a)
      → enter_expr P Z K env a (tree.let_expr p bs e) ≡ waits P Z f x K env a
  unfolding enter_expr waits
  let_waits bs e K env a f x h = ap (needs StackFull (nat_lt (length K) Z.frames)) h
