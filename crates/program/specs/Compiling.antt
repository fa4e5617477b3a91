-- The code of an expression whose first node has the number i, and whose names are among the entries G.
use Rattle.std.specs.Prelude.{ℕ, ◌+◌, List, [], ◌∷◌, ◌++◌, Some, None}
use Rattle.grammar.specs.Limits.{expr_nodes, bindings_nodes}
use Rattle.layout.specs.Literals.{place_of_first}
use Rattle.grammar.specs.Trees as tree
use Rattle.grammar.specs.Trees.{Ident, PatternPart, bound, Pattern, wildcard, constructor, Expr, Exprs, no_exprs, and_expr, Bindings, no_bindings, and_binding, Branches, last_branch, and_branch}
use Rattle.program.specs.Programs as means
use Rattle.program.specs.Programs.{Name, Program, Global, global_of}
use Rattle.program.specs.Scopes.{Scope, Resolved, entry, global, resolve, bind_scope, bits}
use Rattle.program.specs.declared.code.Code.{Code}
use Rattle.program.specs.declared.code.Op.{Op}
use Rattle.program.specs.declared.code.Op.TheVariants as op

abbrev pub code : Op → ℕ → ℕ → Code
code o p past = record { op = o; place = p; past = past }

-- a name that is entered
abbrev pub global_op : Global → Op
global_op (means.function n) = op.Function n
global_op (means.constructor k) = op.Head
global_op (means.val i) = op.Val i
global_op means.unbound = op.Unused

abbrev pub name_op : Resolved → Op
name_op (entry d) = op.Local d
name_op (global g) = global_op g

-- a name that is dupped
abbrev pub dup_op : Resolved → Op
dup_op (entry d) = op.Dup d
dup_op (global g) = op.Unused

abbrev pub argument_count : Exprs → ℕ
argument_count no_exprs = 0
argument_count (and_expr e es) = 1 + argument_count es

abbrev pub binding_count : Bindings → ℕ
binding_count no_bindings = 0
binding_count (and_binding p x e bs) = 1 + binding_count bs

-- an application, by what a name at its head means
abbrev pub global_call : Global → ℕ → Op
global_call (means.function f) n = op.Call
global_call (means.constructor k) n = op.Build k n
global_call (means.val i) n = op.Call
global_call means.unbound n = op.Call

abbrev pub named_call : Resolved → ℕ → Op
named_call (entry d) n = op.Call
named_call (global g) n = global_call g n

abbrev pub apply_op : Program → Scope → Expr → ℕ → Op
apply_op P G (tree.name p w) n = named_call (resolve P G w) n
apply_op P G (tree.integer p z) n = op.Call
apply_op P G (tree.symbol p w) n = op.Call
apply_op P G (tree.boolean p b) n = op.Call
apply_op P G (tree.unit p) n = op.Call
apply_op P G (tree.if_expr p a b c) n = op.Call
apply_op P G (tree.begin_expr p e es) n = op.Call
apply_op P G (tree.let_expr p bs e) n = op.Call
apply_op P G (tree.case_expr p e bs) n = op.Call
apply_op P G (tree.dup_expr p x) n = op.Call
apply_op P G (tree.apply_expr p e es) n = op.Call

abbrev pub head_op : Global → List PatternPart → Op
head_op (means.function n) xs = op.Unused
head_op (means.constructor k) xs = op.Branch k (bits xs)
head_op (means.val i) xs = op.Unused
head_op means.unbound xs = op.Unused

abbrev pub branch_op : Program → Pattern → Op
branch_op P (wildcard p) = op.Any
branch_op P (constructor p c xs) = head_op (global_of P c.bytes) xs

abbrev pub branch_scope : Pattern → Scope → Scope
branch_scope (wildcard p) G = G
branch_scope (constructor p c xs) G = bind_scope xs G

-- the entries in the body of a let
abbrev pub let_scope : Bindings → Scope → Scope
let_scope no_bindings G = G
let_scope (and_binding p x e bs) G = let_scope bs (Some x.bytes ∷ G)

module _ (P : Program) where
  abbrev mutual
    pub compile : Scope → ℕ → Expr → List Code
    compile G i (tree.integer p z) = code (op.Integer z) p (i + 1) ∷ []
    compile G i (tree.symbol p w) = code (op.Symbol (place_of_first P.literals w)) p (i + 1) ∷ []
    compile G i (tree.boolean p b) = code (op.Boolean b) p (i + 1) ∷ []
    compile G i (tree.unit p) = code op.Unit p (i + 1) ∷ []
    compile G i (tree.name p w) = code (name_op (resolve P G w)) p (i + 1) ∷ []
    compile G i (tree.dup_expr p x) = code (dup_op (resolve P G x.bytes)) p (i + 1) ∷ []
    compile G i (tree.if_expr p a b c) =
        code op.If p (i + expr_nodes (tree.if_expr p a b c)) ∷ (compile G (i + 1) a ++ (compile G (i + 1 + expr_nodes a) b ++ compile G (i + 1 + expr_nodes a + expr_nodes b) c))
    compile G i (tree.begin_expr p e es) = code op.Begin p (i + expr_nodes (tree.begin_expr p e es)) ∷ (compile G (i + 1) e ++ compile_row G (i + 1 + expr_nodes e) es)
    compile G i (tree.let_expr p bs e) =
        code (op.Let (binding_count bs)) p (i + expr_nodes (tree.let_expr p bs e)) ∷ (compile_bindings G (i + 1) bs ++ compile (let_scope bs G) (i + 1 + bindings_nodes bs) e)
    compile G i (tree.case_expr p e bs) = code op.Case p (i + expr_nodes (tree.case_expr p e bs)) ∷ (compile G (i + 1) e ++ compile_branches G (i + 1 + expr_nodes e) bs)
    compile G i (tree.apply_expr p e es) =
        code (apply_op P G e (argument_count es)) p (i + expr_nodes (tree.apply_expr p e es)) ∷ (compile G (i + 1) e ++ compile_arguments G (i + 1 + expr_nodes e) es)

    -- parts of a begin
    pub compile_row : Scope → ℕ → Exprs → List Code
    compile_row G i no_exprs = []
    compile_row G i (and_expr e es) = compile G i e ++ compile_row G (i + expr_nodes e) es

    -- arguments: each is held while the next ones are evaluated
    pub compile_arguments : Scope → ℕ → Exprs → List Code
    compile_arguments G i no_exprs = []
    compile_arguments G i (and_expr e es) = compile G i e ++ compile_arguments (None ∷ G) (i + expr_nodes e) es

    pub compile_bindings : Scope → ℕ → Bindings → List Code
    compile_bindings G i no_bindings = []
    compile_bindings G i (and_binding p x e bs) = (code op.Binding p (i + (1 + expr_nodes e)) ∷ compile G (i + 1) e) ++ compile_bindings (Some x.bytes ∷ G) (i + (1 + expr_nodes e)) bs

    pub compile_branches : Scope → ℕ → Branches → List Code
    compile_branches G i (last_branch p x e) = code (branch_op P x) p (i + (1 + expr_nodes e)) ∷ compile (branch_scope x G) (i + 1) e
    compile_branches G i (and_branch p x e bs) = (code (branch_op P x) p (i + (1 + expr_nodes e)) ∷ compile (branch_scope x G) (i + 1) e) ++ compile_branches G (i + (1 + expr_nodes e)) bs
