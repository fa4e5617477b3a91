-- The syntax tree of a script. Every form has the place of its first byte.
use Rattle.std.specs.Prelude.{ℕ, Bool, List, ℤ}

-- a name, with its place
pub record Ident : Type 0 where
  pub place : ℕ
  pub bytes : List ℕ

-- type expressions
mutual
  pub data TypeExpr : Type 0 where
    int_type : ℕ → TypeExpr
    bool_type : ℕ → TypeExpr
    sym_type : ℕ → TypeExpr
    unit_type : ℕ → TypeExpr
    datatype : Ident → TypeExpr
    function_type_rule : ℕ → TypeExprs → TypeExpr → TypeExpr

  pub data TypeExprs : Type 0 where
    no_types : TypeExprs
    and_type : TypeExpr → TypeExprs → TypeExprs

-- what stands for one field in a pattern: a name that is bound, or a wildcard
pub data PatternPart : Type 0 where
  bound : Ident → PatternPart
  skipped : ℕ → PatternPart

pub data Pattern : Type 0 where
  wildcard : ℕ → Pattern
  constructor : ℕ → Ident → List PatternPart → Pattern

-- Expressions, each with its place. A symbol has the bytes between its quotes, as they stand in the text.
mutual
  pub data Expr : Type 0 where
    integer : ℕ → ℤ → Expr
    symbol : ℕ → List ℕ → Expr
    boolean : ℕ → Bool → Expr
    unit : ℕ → Expr
    name : ℕ → List ℕ → Expr
    if_expr : ℕ → Expr → Expr → Expr → Expr
    begin_expr : ℕ → Expr → Exprs → Expr
    let_expr : ℕ → Bindings → Expr → Expr
    case_expr : ℕ → Expr → Branches → Expr
    dup_expr : ℕ → Ident → Expr
    apply_expr : ℕ → Expr → Exprs → Expr

  pub data Exprs : Type 0 where
    no_exprs : Exprs
    and_expr : Expr → Exprs → Exprs

  pub data Bindings : Type 0 where
    no_bindings : Bindings
    and_binding : ℕ → Ident → Expr → Bindings → Bindings

  -- at least one
  pub data Branches : Type 0 where
    last_branch : ℕ → Pattern → Expr → Branches
    and_branch : ℕ → Pattern → Expr → Branches → Branches

-- a constructor with its field types
pub record Constructor : Type 0 where
  pub place : ℕ
  pub name : Ident
  pub fields : TypeExprs

pub data Definition : Type 0 where
  datatype_definition : ℕ → Ident → List Constructor → Definition
  type_annotation : ℕ → Ident → TypeExpr → Definition
  function_definition : ℕ → Ident → List Ident → Expr → Definition
  val_binding : ℕ → Ident → Expr → Definition

abbrev pub Script : Type 0
Script = List Definition

-- the place of an expression
abbrev pub place_of : Expr → ℕ
place_of (integer p n) = p
place_of (symbol p w) = p
place_of (boolean p b) = p
place_of (unit p) = p
place_of (name p w) = p
place_of (if_expr p a b c) = p
place_of (begin_expr p e es) = p
place_of (let_expr p bs e) = p
place_of (case_expr p e bs) = p
place_of (dup_expr p x) = p
place_of (apply_expr p e es) = p
