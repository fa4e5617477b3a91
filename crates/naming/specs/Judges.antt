-- What judging an expression leaves: its type or the refusal, the names afterwards, and what its nodes do.
use Rattle.std.specs.Prelude.{◌≡◌, ℕ, ◌+◌, ◌≤◌, Bool, List, map, length, Some, Ok, Err, Result, slice_set}
use Rattle.std.specs.List.{slice_get}
use Rattle.naming.specs.declared.world.World.{World}
use Rattle.forms.specs.Progress.{puts}
use Rattle.globals.specs.Known.{Known, meaning_in}
use Rattle.grammar.specs.Limits.{SixInScript}
use Rattle.grammar.specs.Trees.{Expr, Script}
use Rattle.layout.specs.Decoding as lies
use Rattle.layout.specs.Literals.{symbol_number}
use Rattle.layout.specs.declared.node.Node.{Node}
use Rattle.layout.specs.declared.node.NodeForm.{NodeForm}
use Rattle.program.specs.Compiling.{code, global_op, compile}
use Rattle.program.specs.Programs.{program, global_of}
use Rattle.program.specs.Scopes as placed
use Rattle.program.specs.declared.code.Code.{Code}
use Rattle.scopes.specs.Locals.{SameBelow, context, KindsBelow, Placed}
use Rattle.scopes.specs.declared.local.Local.{Local}
use Rattle.scopes.specs.declared.scope.Scope.{Scope}
use Rattle.script_refusals.specs.declared.refusal.Refused.{Refused}
use Rattle.type_rows.specs.Rows.{IsKind}
use Rattle.type_rows.specs.Shapes.{ty}
use Rattle.type_rows.specs.declared.row.Row.{Row}
use Rattle.type_rows.specs.declared.value_type.ValueType.{ValueType}
use Rattle.typing.specs.Contexts.{Context}
use Rattle.typing.specs.Judging.{Judged, refused, judged, enter_global, judge}
use Rattle.typing.specs.Types.{Ty}

-- the names in scope, as the check keeps them
pub record Desk : Type 0 where
  pub depth : ℕ
  pub marks : List Bool
  pub locals : List Local

abbrev pub desk : Scope → List Local → Desk
desk scope locals = record { depth = scope.depth; marks = scope.marks; locals = locals }

-- However the check of a form ends, the names in scope are those before.
pub record Kept (old new : Desk) : Type 0 where
  pub depth : new.depth ≡ old.depth
  pub same : SameBelow old.depth old.locals new.locals
  pub room : length new.locals ≡ length old.locals
  pub long : length new.marks ≡ length old.marks

-- Names were added, or none.
pub record Grown (old new : Desk) : Type 0 where
  pub depth : old.depth ≤ new.depth
  pub same : SameBelow old.depth old.locals new.locals
  pub room : length new.locals ≡ length old.locals
  pub long : length new.marks ≡ length old.marks

module _ (world : World) (script : Script) where
  abbrev pub text_of : List ℕ
  text_of = world.text.now

  abbrev pub rows_of : List Row
  rows_of = world.globals.now.rows.rows

  abbrev pub meant : ValueType → Ty
  meant kind = ty (meaning_in script) kind

  abbrev pub vals_of : List Ty
  vals_of = map meant world.vals.now

  -- the world is that of the script
  pub record Setting : Type 0 where
    pub short : length text_of ≤ 65535
    pub few : length world.nodes.now ≤ 4096
    pub known : Known text_of world.globals.now script
    pub vals : (k : ℕ) (kind : ValueType) → slice_get world.vals.now k ≡ Some kind → IsKind rows_of kind
    pub six : SixInScript script

  -- the names in scope are within their limits, and their types are types
  pub record Ready (d : Desk) : Type 0 where
    pub few : d.depth ≤ 64
    pub room : length d.locals ≡ 64
    pub long : length d.marks ≡ 64
    pub kinds : KindsBelow rows_of d.locals d.depth

  -- the names in scope as the judgement has them
  abbrev pub names : Desk → Context
  names d = context text_of (meaning_in script) d.locals d.marks d.depth

  -- they lie among these entries of a run, which are so many, before node i
  pub record Lying (d : Desk) (G : placed.Scope) (height i : ℕ) : Type 0 where
    pub among : Placed text_of d.locals d.depth G
    pub size : length G ≡ height
    pub few : height ≤ d.depth + i
    pub low : i ≤ 65536

  -- at node i, which has this form, stands this expression
  abbrev pub Coded : NodeForm → Expr → ℕ → Type 0
  Coded f e i = lies.Code text_of (symbol_number script) world.nodes.now f e i

  -- a judgement accepts, and the code was noted from node i on
  pub record Yields (J : Judged Ty) (compiled : placed.Scope → List Code) (i height : ℕ) (old : Desk) (codes : List Code) (kind : ValueType) (new : Desk) (after : List Code) : Type 0 where
    pub type : J ≡ judged (meant kind) (names new)
    pub valid : IsKind rows_of kind
    pub noted : (G : placed.Scope) → Lying old G height i → after ≡ puts codes i (compiled G)

  abbrev pub Answers : Judged Ty → (placed.Scope → List Code) → ℕ → ℕ → Desk → List Code → Result ValueType Refused → Desk → List Code → Type 0
  Answers J compiled i height old codes (Ok kind) new after = Yields J compiled i height old codes kind new after
  Answers J compiled i height old codes (Err r) new after = J ≡ refused r

  abbrev pub ExprAnswers : Expr → ℕ → ℕ → Desk → List Code → Result ValueType Refused → Desk → List Code → Type 0
  ExprAnswers e i height old codes result new after = Answers (judge (program script) vals_of e (names old)) (λ G. compile (program script) G i e) i height old codes result new after

  -- a name that no local has was entered, at a node
  pub record Enters (w : List ℕ) (i : ℕ) (node : Node) (codes : List Code) (kind : ValueType) (after : List Code) : Type 0 where
    pub type : (Γ : Context) → enter_global (program script) vals_of node.place (global_of (program script) w) Γ ≡ judged (meant kind) Γ
    pub valid : IsKind rows_of kind
    pub noted : after ≡ slice_set codes i (code (global_op (global_of (program script) w)) node.place node.past)

  abbrev pub EntersAnswers : List ℕ → ℕ → Node → List Code → Result ValueType Refused → List Code → Type 0
  EntersAnswers w i node codes (Ok kind) after = Enters w i node codes kind after
  EntersAnswers w i node codes (Err r) after = (Γ : Context) → enter_global (program script) vals_of node.place (global_of (program script) w) Γ ≡ refused r

-- the expression at a node of this form was judged
abbrev pub OnForm : World → NodeForm → ℕ → ℕ → Desk → List Code → Result ValueType Refused → Desk → List Code → Type 0
OnForm world f i height old codes result new after =
    (script : Script) (e : Expr) → Setting world script → Ready world script old → Coded world script f e i → ExprAnswers world script e i height old codes result new after

abbrev pub OnGlobal : World → List ℕ → ℕ → Node → List Code → Result ValueType Refused → List Code → Type 0
OnGlobal world w i node codes result after = (script : Script) → Setting world script → EntersAnswers world script w i node codes result after
