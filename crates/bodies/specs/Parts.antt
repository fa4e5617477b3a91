-- What judging an expression's parts leaves: by the judgement of each, as in `Judges` of `naming`.
use Rattle.std.specs.Prelude.{◌≡◌, ℕ, ◌+◌, Bool, true, false, List, ◌∷◌, drop, Some, None, Ok, Err, Option, Result}
use Rattle.forms.specs.Progress.{puts}
use Rattle.globals.specs.Known.{meaning_in}
use Rattle.grammar.specs.Limits.{expr_nodes, bindings_nodes}
use Rattle.grammar.specs.Trees.{Pattern, Expr, Exprs, Bindings, Branches, apply_expr, Script}
use Rattle.layout.specs.Decoding as lies
use Rattle.layout.specs.Decoding.{node_found}
use Rattle.layout.specs.Literals.{symbol_number}
use Rattle.layout.specs.Spelling.{Shows}
use Rattle.layout.specs.declared.node.NodeForm.TheVariants as form
use Rattle.naming.specs.Judges.{Desk, Setting, Ready, Lying, Coded, Answers, ExprAnswers, OnForm, names, meant, vals_of, rows_of, text_of}
use Rattle.naming.specs.declared.world.World.{World}
use Rattle.program.specs.Compiling.{code, compile, compile_row, compile_arguments, compile_bindings, compile_branches, branch_op, branch_scope, let_scope, argument_count, binding_count}
use Rattle.program.specs.Programs.{Program, program}
use Rattle.program.specs.Scopes as placed
use Rattle.program.specs.Scopes.{pattern_names}
use Rattle.program.specs.declared.code.Code.{Code}
use Rattle.script_refusals.specs.declared.refusal.Refused.{Refused}
use Rattle.type_rows.specs.Rows.{TypesLie, IsKind}
use Rattle.type_rows.specs.declared.value_type.ValueType.{ValueType}
use Rattle.typing.specs.Contexts.{Context}
use Rattle.typing.specs.Judging.{Judged, refused, judged, and_then, judge, judge_pattern, judge_row, judge_each, judge_bindings, judge_branches, head_constructor, all_alike}
use Rattle.typing.specs.Types.{Ty, Tys, no_types, and_type, count, same_types}

-- the judgement of one branch: its pattern, then its expression; its names leave the scope
abbrev pub judge_arm : Program → List Ty → ℕ → Pattern → Expr → Context → Judged Ty
judge_arm P V d x e Γ = and_then (judge_pattern P V d x Γ) (λ u Γ₁. and_then (judge P V e Γ₁) (λ τ Γ₂. judged τ (drop (pattern_names x) Γ₂)))

-- the code of one branch at p, from node i on
abbrev pub compile_arm : Program → placed.Scope → ℕ → ℕ → Pattern → Expr → List Code
compile_arm P G i p x e = code (branch_op P x) p (i + (1 + expr_nodes e)) ∷ compile P (branch_scope x G) (i + 1) e

module _ (world : World) (script : Script) where
  abbrev pub number_of : List ℕ → ℕ
  number_of = symbol_number script

  -- from node i up to node j stand these expressions
  abbrev pub Listed : Exprs → ℕ → ℕ → Type 0
  Listed es i j = lies.Codes (text_of world script) number_of world.nodes.now es i j

  -- from node i up to node j stand these bindings, and behind them the body
  abbrev pub Bindable : Bindings → Expr → ℕ → ℕ → Type 0
  Bindable bs e i j = lies.Binds (text_of world script) number_of world.nodes.now (node_found world.nodes.now i).form bs e i j

  -- from node i up to node j stand these branches
  abbrev pub Branched : Branches → ℕ → ℕ → Type 0
  Branched bs i j = lies.Arms (text_of world script) number_of world.nodes.now (node_found world.nodes.now i).form bs i j

  -- at node i stands the branch at p
  pub record ArmStands (x : Pattern) (e : Expr) (i p : ℕ) : Type 0 where
    pub from : ℕ
    pub is_branch : (node_found world.nodes.now i).form ≡ form.Branch from
    pub place : (node_found world.nodes.now i).place ≡ p
    pub shows : Shows (text_of world script) from x
    pub inside : Coded world script (node_found world.nodes.now (i + 1)).form e (i + 1)
    pub past : (node_found world.nodes.now (i + 1)).past ≡ (node_found world.nodes.now i).past

  -- the arguments were accepted, and it is known whether they fit
  pub record Fitted (es : Exprs) (i row last height : ℕ) (old : Desk) (codes : List Code) (fit : Bool) (new : Desk) (after : List Code) : Type 0 where
    pub types : Tys
    pub type : judge_each (program script) (vals_of world script) es (names world script old) ≡ judged types (names world script new)
    pub fits : (σs : Tys) → TypesLie (rows_of world script) (meaning_in script) row last σs → fit ≡ same_types σs types
    pub many : count types ≡ argument_count es
    pub noted : (G : placed.Scope) → Lying world script old G height i → after ≡ puts codes i (compile_arguments (program script) G i es)

  abbrev pub ArgumentsAnswers : Exprs → ℕ → ℕ → ℕ → ℕ → Desk → List Code → Result Bool Refused → Desk → List Code → Type 0
  ArgumentsAnswers es i row last height old codes (Ok fit) new after = Fitted es i row last height old codes fit new after
  ArgumentsAnswers es i row last height old codes (Err r) new after = judge_each (program script) (vals_of world script) es (names world script old) ≡ refused r

  -- the names of a let were bound, and its body stands at b
  pub record LetBound (bs : Bindings) (e : Expr) (i j height : ℕ) (old : Desk) (codes : List Code) (b : ℕ) (new : Desk) (after : List Code) : Type 0 where
    pub type : judge_bindings (program script) (vals_of world script) bs (names world script old) ≡ judged tt (names world script new)
    pub ready : Ready world script new
    pub depth : new.depth ≡ old.depth + binding_count bs
    pub body : Coded world script (node_found world.nodes.now b).form e b
    pub past : (node_found world.nodes.now b).past ≡ j
    pub at : b ≡ i + bindings_nodes bs
    pub lying : (G : placed.Scope) → Lying world script old G height i → Lying world script new (let_scope bs G) (height + binding_count bs) b
    pub noted : (G : placed.Scope) → Lying world script old G height i → after ≡ puts codes i (compile_bindings (program script) G i bs)

  abbrev pub BindingsAnswers : Bindings → Expr → ℕ → ℕ → ℕ → Desk → List Code → Result ℕ Refused → Desk → List Code → Type 0
  BindingsAnswers bs e i j height old codes (Ok b) new after = LetBound bs e i j height old codes b new after
  BindingsAnswers bs e i j height old codes (Err r) new after = judge_bindings (program script) (vals_of world script) bs (names world script old) ≡ refused r

  -- the type of the first branch, if those of all others are the same
  abbrev pub OfOneType : Tys → Option ValueType → Type 0
  OfOneType no_types o = ⊥
  OfOneType (and_type τ τs) (Some kind) = (τ ≡ meant world script kind) × IsKind (rows_of world script) kind × (all_alike τ τs ≡ true)
  OfOneType (and_type τ τs) None = all_alike τ τs ≡ false

  abbrev pub AlikeAnswers : ValueType → Option ValueType → Option ValueType → Type 0
  AlikeAnswers kind others result = (τs : Tys) → OfOneType τs others → IsKind (rows_of world script) kind → OfOneType (and_type (meant world script kind) τs) result

  -- the branches were accepted, each by itself
  pub record Branching (d : ℕ) (bs : Branches) (i height : ℕ) (old : Desk) (codes : List Code) (o : Option ValueType) (new : Desk) (after : List Code) : Type 0 where
    pub types : Tys
    pub type : judge_branches (program script) (vals_of world script) d bs (names world script old) ≡ judged types (names world script new)
    pub one : OfOneType types o
    pub noted : (G : placed.Scope) → Lying world script old G height i → after ≡ puts codes i (compile_branches (program script) G i bs)

  abbrev pub ArmsAnswers : ℕ → Branches → ℕ → ℕ → Desk → List Code → Result (Option ValueType) Refused → Desk → List Code → Type 0
  ArmsAnswers d bs i height old codes (Ok o) new after = Branching d bs i height old codes o new after
  ArmsAnswers d bs i height old codes (Err r) new after = judge_branches (program script) (vals_of world script) d bs (names world script old) ≡ refused r

abbrev pub OnExpr : World → ℕ → ℕ → Desk → List Code → Result ValueType Refused → Desk → List Code → Type 0
OnExpr world i height old codes result new after = OnForm world (node_found world.nodes.now i).form i height old codes result new after

abbrev pub OnRow : World → ℕ → ℕ → ValueType → ℕ → Desk → List Code → Result ValueType Refused → Desk → List Code → Type 0
OnRow world i past kind height old codes result new after =
    (script : Script) (es : Exprs) → Setting world script → Ready world script old → IsKind (rows_of world script) kind → Listed world script es i past
    → Answers world script (judge_row (program script) (vals_of world script) (meant world script kind) es (names world script old)) (λ G. compile_row (program script) G i es) i height old codes result new after

abbrev pub OnArguments : World → ℕ → ℕ → ℕ → ℕ → ℕ → Desk → List Code → Result Bool Refused → Desk → List Code → Type 0
OnArguments world i past row last height old codes result new after =
    (script : Script) (es : Exprs) → Setting world script → Ready world script old → Listed world script es i past → ArgumentsAnswers world script es i row last height old codes result new after

abbrev pub OnBindings : World → ℕ → ℕ → Desk → List Code → Result ℕ Refused → Desk → List Code → Type 0
OnBindings world i height old codes result new after =
    (script : Script) (bs : Bindings) (e : Expr) (j : ℕ) → Setting world script → Ready world script old → Bindable world script bs e i j → BindingsAnswers world script bs e i j height old codes result new after

abbrev pub OnArm : World → ℕ → ℕ → ℕ → Desk → List Code → Result ValueType Refused → Desk → List Code → Type 0
OnArm world i d height old codes result new after =
    (script : Script) (p : ℕ) (x : Pattern) (e : Expr) → Setting world script → Ready world script old → ArmStands world script x e i p
    → Answers world script (judge_arm (program script) (vals_of world script) d x e (names world script old)) (λ G. compile_arm (program script) G i p x e) i height old codes result new after

abbrev pub OnArms : World → ℕ → ℕ → ℕ → ℕ → Desk → List Code → Result (Option ValueType) Refused → Desk → List Code → Type 0
OnArms world i past d height old codes result new after =
    (script : Script) (bs : Branches) → Setting world script → Ready world script old → Branched world script bs i past → ArmsAnswers world script d bs i height old codes result new after

-- an application whose head names a constructor
abbrev pub OnConstruct : World → ℕ → ℕ → ℕ → Desk → List Code → Result ValueType Refused → Desk → List Code → Type 0
OnConstruct world i k height old codes result new after =
    (script : Script) (p : ℕ) (e : Expr) (es : Exprs) → Setting world script → Ready world script old → Coded world script form.Apply (apply_expr p e es) i
    → head_constructor (program script) e (names world script old) ≡ Some k → ExprAnswers world script (apply_expr p e es) i height old codes result new after

-- an application whose head names none
abbrev pub OnCall : World → ℕ → ℕ → Desk → List Code → Result ValueType Refused → Desk → List Code → Type 0
OnCall world i height old codes result new after =
    (script : Script) (p : ℕ) (e : Expr) (es : Exprs) → Setting world script → Ready world script old → Coded world script form.Apply (apply_expr p e es) i
    → head_constructor (program script) e (names world script old) ≡ None → ExprAnswers world script (apply_expr p e es) i height old codes result new after

abbrev pub Alike : World → ValueType → Option ValueType → Option ValueType → Type 0
Alike world kind others result = (script : Script) → Setting world script → AlikeAnswers world script kind others result
