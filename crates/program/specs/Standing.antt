-- Which expression stands at a node of the code, by what the node does: what a run walks is the script.
use Rattle.std.specs.Prelude.{◌≡◌, ℕ, ◌+◌, ◌<◌, ◌≤◌, Bool, List, [], ◌∷◌, map, length, ℤ, Some, None, codes, slice_index, slice_index_or}
use Rattle.std.specs.List.{slice_get}
use Rattle.layout.specs.Literals.{place_of_first}
use Rattle.layout.specs.Words.{word, word_at}
use Rattle.grammar.specs.Trees as tree
use Rattle.grammar.specs.Trees.{Ident, PatternPart, bound, Pattern, wildcard, constructor, Expr, Exprs, no_exprs, and_expr, Bindings, no_bindings, and_binding, Branches, last_branch, and_branch}
use Rattle.program.specs.Compiling.{code, argument_count, binding_count, let_scope}
use Rattle.program.specs.Programs as means
use Rattle.program.specs.Programs.{Name, Program, Define, Val, Owner, global_of, first_of, place_meant}
use Rattle.program.specs.Scopes.{Scope, distance, bind_scope, bits}
use Rattle.program.specs.declared.code.Code.{Code}
use Rattle.program.specs.declared.code.Op.{Op}
use Rattle.program.specs.declared.code.Op.TheVariants as op
use Rattle.program.specs.declared.compiled.FunctionCode.{FunctionCode}
use Rattle.program.specs.declared.compiled.Compiled.{Compiled}
use Rattle.program.specs.declared.compiled.Owner.{Owner as OwnerCode}

-- what is read where there is no entry
abbrev pub no_code : Code
no_code = code op.Unused 0 0

abbrev pub no_function : FunctionCode
no_function = record { body = 0; arity = 0 }

abbrev pub no_owner : OwnerCode
no_owner = record { place = 0; name = word_at 0 0 }

module _ (P : Program) (cs : List Code) where
  abbrev pub at : ℕ → Code
  at i = slice_index_or cs i no_code

  abbrev pub past : ℕ → ℕ
  past i = (at i).past

  mutual
    -- at node i, which does this, stands the expression, its names among the entries G
    pub data Stands : Scope → Op → Expr → ℕ → Type 0 where
      integer : {G : Scope} {i p : ℕ} {z : ℤ} → (at i).place ≡ p → Stands G (op.Integer z) (tree.integer p z) i
      symbol : {G : Scope} {i p n : ℕ} {w : List ℕ} → (at i).place ≡ p → place_of_first P.literals w ≡ n → Stands G (op.Symbol n) (tree.symbol p w) i
      boolean : {G : Scope} {i p : ℕ} {b : Bool} → (at i).place ≡ p → Stands G (op.Boolean b) (tree.boolean p b) i
      unit_literal : {G : Scope} {i p : ℕ} → (at i).place ≡ p → Stands G op.Unit (tree.unit p) i
      local_name : {G : Scope} {i p d : ℕ} {w : Name} → (at i).place ≡ p → distance w G ≡ Some d → Stands G (op.Local d) (tree.name p w) i
      function_name : {G : Scope} {i p n : ℕ} {w : Name} → (at i).place ≡ p → distance w G ≡ None → global_of P w ≡ means.function n → Stands G (op.Function n) (tree.name p w) i
      val_name : {G : Scope} {i p k : ℕ} {w : Name} → (at i).place ≡ p → distance w G ≡ None → global_of P w ≡ means.val k → Stands G (op.Val k) (tree.name p w) i
      dup_expression : {G : Scope} {i p d : ℕ} {x : Ident} → (at i).place ≡ p → distance x.bytes G ≡ Some d → Stands G (op.Dup d) (tree.dup_expr p x) i
      if_expression : {G : Scope} {i p : ℕ} {a b c : Expr} → (at i).place ≡ p
          → Stands G (at (i + 1)).op a (i + 1) → Stands G (at (past (i + 1))).op b (past (i + 1)) → Stands G (at (past (past (i + 1)))).op c (past (past (i + 1)))
          → Stands G op.If (tree.if_expr p a b c) i
      begin_expression : {G : Scope} {i p : ℕ} {e : Expr} {es : Exprs} → (at i).place ≡ p
          → Stands G (at (i + 1)).op e (i + 1) → StandsRow G es (past (i + 1)) (past i) → Stands G op.Begin (tree.begin_expr p e es) i
      let_expression : {G : Scope} {i p n j : ℕ} {bs : Bindings} {e : Expr} → (at i).place ≡ p → binding_count bs ≡ n
          → StandsBindings G bs (i + 1) j → Stands (let_scope bs G) (at j).op e j → Stands G (op.Let n) (tree.let_expr p bs e) i
      case_expression : {G : Scope} {i p : ℕ} {e : Expr} {bs : Branches} → (at i).place ≡ p
          → Stands G (at (i + 1)).op e (i + 1) → StandsBranches G bs (past (i + 1)) (past i) → Stands G op.Case (tree.case_expr p e bs) i
      call_expression : {G : Scope} {i p : ℕ} {e : Expr} {es : Exprs} → (at i).place ≡ p
          → Stands G (at (i + 1)).op e (i + 1) → StandsArguments G es (past (i + 1)) (past i) → Stands G op.Call (tree.apply_expr p e es) i
      -- a constructor at the head is not entered
      build_expression : {G : Scope} {i p q k n : ℕ} {w : Name} {es : Exprs} → (at i).place ≡ p → distance w G ≡ None → global_of P w ≡ means.constructor k → argument_count es ≡ n
          → StandsArguments G es (past (i + 1)) (past i) → Stands G (op.Build k n) (tree.apply_expr p (tree.name q w) es) i

    -- from node i up to the node j stand these parts
    pub data StandsRow : Scope → Exprs → ℕ → ℕ → Type 0 where
      row_none : {G : Scope} {i j : ℕ} → j ≤ i → StandsRow G no_exprs i j
      row_more : {G : Scope} {i j : ℕ} {e : Expr} {es : Exprs} → i < j → Stands G (at i).op e i → StandsRow G es (past i) j → StandsRow G (and_expr e es) i j

    -- each argument is held while the next ones are evaluated
    pub data StandsArguments : Scope → Exprs → ℕ → ℕ → Type 0 where
      arguments_none : {G : Scope} {i j : ℕ} → j ≤ i → StandsArguments G no_exprs i j
      arguments_more : {G : Scope} {i j : ℕ} {e : Expr} {es : Exprs} → i < j → Stands G (at i).op e i → StandsArguments (None ∷ G) es (past i) j → StandsArguments G (and_expr e es) i j

    -- the bindings from node i on; the body stands at j
    pub data StandsBindings : Scope → Bindings → ℕ → ℕ → Type 0 where
      bindings_none : {G : Scope} {i : ℕ} → StandsBindings G no_bindings i i
      bindings_more : {G : Scope} {i j p : ℕ} {x : Ident} {e : Expr} {bs : Bindings} → (at i).op ≡ op.Binding
          → Stands G (at (i + 1)).op e (i + 1) → StandsBindings (Some x.bytes ∷ G) bs (past i) j → StandsBindings G (and_binding p x e bs) i j

    -- the branches from node i up to the node j
    pub data StandsBranches : Scope → Branches → ℕ → ℕ → Type 0 where
      branches_last : {G : Scope} {i j p : ℕ} {x : Pattern} {e : Expr} → i < j → j ≤ past i → StandsBranch G (at i).op x e i → StandsBranches G (last_branch p x e) i j
      branches_more : {G : Scope} {i j p : ℕ} {x : Pattern} {e : Expr} {bs : Branches} → i < j → StandsBranch G (at i).op x e i → StandsBranches G bs (past i) j → StandsBranches G (and_branch p x e bs) i j

    -- at node i, which does this, stands a branch
    pub data StandsBranch : Scope → Op → Pattern → Expr → ℕ → Type 0 where
      branch_any : {G : Scope} {i q : ℕ} {e : Expr} → Stands G (at (i + 1)).op e (i + 1) → StandsBranch G op.Any (wildcard q) e i
      branch_constructor : {G : Scope} {i q k n : ℕ} {c : Ident} {xs : List PatternPart} {e : Expr} → global_of P c.bytes ≡ means.constructor k → bits xs ≡ n
          → Stands (bind_scope xs G) (at (i + 1)).op e (i + 1) → StandsBranch G (op.Branch k n) (constructor q c xs) e i

  abbrev pub StandsAt : Scope → Expr → ℕ → Type 0
  StandsAt G e i = Stands G (at i).op e i

  -- a define's body stands where its entry says, among its parameters alone
  pub record DefineStands (f : FunctionCode) (d : Define) : Type 0 where
    pub arity : f.arity ≡ length d.parameters
    pub body : StandsAt (bind_scope (map bound d.parameters) []) d.body f.body

-- an owner's entry
pub record OwnerStands (c : OwnerCode) (o : Owner) : Type 0 where
  pub place : c.place ≡ o.place
  pub name : c.name ≡ word o.name

-- The compiled script holds P.
pub record Lays (l : Compiled) (P : Program) : Type 0 where
  pub defines : (n : ℕ) (d : Define) → slice_get P.defines n ≡ Some d → DefineStands P l.code (slice_index_or l.functions n no_function) d
  pub vals : (n : ℕ) (v : Val) → slice_get P.vals n ≡ Some v → StandsAt P l.code [] v.expr (slice_index l.vals n)
  pub owners : (n : ℕ) (o : Owner) → slice_get P.owners n ≡ Some o → OwnerStands (slice_index_or l.owners n no_owner) o
  pub owner_count_is : l.owner_count ≡ length P.owners
  pub main : (d : Define) → first_of (λ d. d.name) (codes "main") P.defines ≡ Some d → slice_get P.defines l.main ≡ Some d
  pub main_place_at : l.main_place ≡ place_meant (first_of (λ d. d.name) (codes "main") P.defines)
