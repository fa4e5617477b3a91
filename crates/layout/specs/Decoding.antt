-- Which expression stands at a node, and which type at a type node: read off the node's form, its place and the text.
use Rattle.std.specs.Prelude.{◌≡◌, ℕ, ◌+◌, ◌<◌, Bool, List, ℤ, slice_index_or}
use Rattle.grammar.specs.Reading.{ident}
use Rattle.grammar.specs.Trees as tree
use Rattle.grammar.specs.Trees.{Ident, TypeExpr, TypeExprs, Pattern, Expr, Exprs, Bindings, Branches}
use Rattle.layout.specs.Encoding.{unused}
use Rattle.layout.specs.Spelling.{Spells, Quotes, Shows}
use Rattle.layout.specs.TypeEncoding.{unused_type}
use Rattle.layout.specs.Words.{word_at}
use Rattle.layout.specs.declared.node.Node.{Node}
use Rattle.layout.specs.declared.node.NodeForm.{NodeForm}
use Rattle.layout.specs.declared.node.NodeForm.TheVariants as form
use Rattle.layout.specs.declared.type_node.TypeNode.{TypeNode}
use Rattle.layout.specs.declared.type_node.TypeForm.{TypeForm}
use Rattle.layout.specs.declared.type_node.TypeForm.TheVariants as type_form
use Rattle.layout.specs.declared.word.Word.{Word}

abbrev pub node_found : List Node → ℕ → Node
node_found ns i = slice_index_or ns i unused

abbrev pub type_at : List TypeNode → ℕ → TypeNode
type_at ts i = slice_index_or ts i unused_type

-- Expressions, in a text and a node list; `number` gives a symbol's number for its bytes. Each case is of one form of the node, so the form
-- that is read there leaves one case. The parts of a node follow it, and a node's `past` is the number of the one behind its last part.
module _ (text : List ℕ) (number : List ℕ → ℕ) (ns : List Node) where
  mutual
    -- at node i, which has this form, stands this expression
    pub data Code : NodeForm → Expr → ℕ → Type 0 where
      c_integer : {z : ℤ} {p i : ℕ} → (node_found ns i).place ≡ p → (node_found ns i).past ≡ i + 1 → Code (form.Integer z) (tree.integer p z) i
      -- its number is that of the bytes, which stand between the quotes at its own place
      c_symbol : {q p i : ℕ} {w : List ℕ} → (node_found ns i).place ≡ p → (node_found ns i).past ≡ i + 1 → q ≡ number w → Quotes text p w → Code (form.Symbol q) (tree.symbol p w) i
      c_boolean : {b : Bool} {p i : ℕ} → (node_found ns i).place ≡ p → (node_found ns i).past ≡ i + 1 → Code (form.Boolean b) (tree.boolean p b) i
      c_unit : {p i : ℕ} → (node_found ns i).place ≡ p → (node_found ns i).past ≡ i + 1 → Code form.Unit (tree.unit p) i
      c_name : {n p i : ℕ} {w : List ℕ} → (node_found ns i).place ≡ p → (node_found ns i).past ≡ i + 1 → Spells text (word_at p n) (ident p w) → Code (form.Name n) (tree.name p w) i
      c_if : {p i : ℕ} {a b c : Expr} → (node_found ns i).place ≡ p
          → Code (node_found ns (i + 1)).form a (i + 1)
          → Code (node_found ns (node_found ns (i + 1)).past).form b (node_found ns (i + 1)).past
          → Code (node_found ns (node_found ns (node_found ns (i + 1)).past).past).form c (node_found ns (node_found ns (i + 1)).past).past
          → (node_found ns (node_found ns (node_found ns (i + 1)).past).past).past ≡ (node_found ns i).past
          → Code form.If (tree.if_expr p a b c) i
      c_begin : {p i : ℕ} {e : Expr} {es : Exprs} → (node_found ns i).place ≡ p
          → Code (node_found ns (i + 1)).form e (i + 1)
          → Codes es (node_found ns (i + 1)).past (node_found ns i).past
          → Code form.Begin (tree.begin_expr p e es) i
      c_let : {p i : ℕ} {bs : Bindings} {e : Expr} → (node_found ns i).place ≡ p
          → Binds (node_found ns (i + 1)).form bs e (i + 1) (node_found ns i).past
          → Code form.Let (tree.let_expr p bs e) i
      c_case : {p i : ℕ} {e : Expr} {bs : Branches} → (node_found ns i).place ≡ p
          → Code (node_found ns (i + 1)).form e (i + 1)
          → Arms (node_found ns (node_found ns (i + 1)).past).form bs (node_found ns (i + 1)).past (node_found ns i).past
          → Code form.Case (tree.case_expr p e bs) i
      c_dup : {w : Word} {p i : ℕ} {x : Ident} → (node_found ns i).place ≡ p → (node_found ns i).past ≡ i + 1 → Spells text w x → Code (form.Dup w) (tree.dup_expr p x) i
      c_apply : {p i : ℕ} {e : Expr} {es : Exprs} → (node_found ns i).place ≡ p
          → Code (node_found ns (i + 1)).form e (i + 1)
          → Codes es (node_found ns (i + 1)).past (node_found ns i).past
          → Code form.Apply (tree.apply_expr p e es) i

    -- from node i up to node j stand these expressions
    pub data Codes : Exprs → ℕ → ℕ → Type 0 where
      c_none : {i j : ℕ} → i ≡ j → Codes tree.no_exprs i j
      c_more : {i j : ℕ} {e : Expr} {es : Exprs} → i < j
          → Code (node_found ns i).form e i
          → Codes es (node_found ns i).past j
          → Codes (tree.and_expr e es) i j

    -- from node i, which has this form, up to node j stand these bindings, and behind them the body
    pub data Binds : NodeForm → Bindings → Expr → ℕ → ℕ → Type 0 where
      c_body : {f : NodeForm} {i j : ℕ} {e : Expr} → Code f e i → (node_found ns i).past ≡ j → Binds f tree.no_bindings e i j
      c_binding : {w : Word} {p i j : ℕ} {x : Ident} {d e : Expr} {bs : Bindings} → (node_found ns i).place ≡ p → Spells text w x
          → Code (node_found ns (i + 1)).form d (i + 1)
          → (node_found ns (i + 1)).past ≡ (node_found ns i).past
          → Binds (node_found ns (node_found ns i).past).form bs e (node_found ns i).past j
          → Binds (form.Binding w) (tree.and_binding p x d bs) e i j

    -- from node i, which has this form, up to node j stand these branches
    pub data Arms : NodeForm → Branches → ℕ → ℕ → Type 0 where
      c_last : {q p i j : ℕ} {x : Pattern} {e : Expr} → (node_found ns i).place ≡ p → Shows text q x
          → Code (node_found ns (i + 1)).form e (i + 1)
          → (node_found ns (i + 1)).past ≡ (node_found ns i).past → (node_found ns i).past ≡ j
          → Arms (form.Branch q) (tree.last_branch p x e) i j
      c_branch : {q p i j : ℕ} {x : Pattern} {e : Expr} {bs : Branches} → (node_found ns i).place ≡ p → Shows text q x
          → Code (node_found ns (i + 1)).form e (i + 1)
          → (node_found ns (i + 1)).past ≡ (node_found ns i).past → (node_found ns i).past < j
          → Arms (node_found ns (node_found ns i).past).form bs (node_found ns i).past j
          → Arms (form.Branch q) (tree.and_branch p x e bs) i j

  -- at node i stands this expression
  abbrev pub Stands : Expr → ℕ → Type 0
  Stands e i = Code (node_found ns i).form e i

-- Types, in a text and a table of types.
module _ (text : List ℕ) (ts : List TypeNode) where
  mutual
    pub data TypeCode : TypeForm → TypeExpr → ℕ → Type 0 where
      t_int : {p i : ℕ} → (type_at ts i).place ≡ p → (type_at ts i).past ≡ i + 1 → TypeCode type_form.Int (tree.int_type p) i
      t_bool : {p i : ℕ} → (type_at ts i).place ≡ p → (type_at ts i).past ≡ i + 1 → TypeCode type_form.Bool (tree.bool_type p) i
      t_sym : {p i : ℕ} → (type_at ts i).place ≡ p → (type_at ts i).past ≡ i + 1 → TypeCode type_form.Sym (tree.sym_type p) i
      t_unit : {p i : ℕ} → (type_at ts i).place ≡ p → (type_at ts i).past ≡ i + 1 → TypeCode type_form.Unit (tree.unit_type p) i
      t_datatype : {n i : ℕ} {x : Ident} → (type_at ts i).past ≡ i + 1 → Spells text (word_at (type_at ts i).place n) x → TypeCode (type_form.Datatype n) (tree.datatype x) i
      t_function : {p i : ℕ} {us : TypeExprs} {u : TypeExpr} → (type_at ts i).place ≡ p
          → TypeCodes us u (i + 1) (type_at ts i).past
          → TypeCode type_form.Function (tree.function_type_rule p us u) i

    -- from type node i up to j stand these types, and one more, the result
    pub data TypeCodes : TypeExprs → TypeExpr → ℕ → ℕ → Type 0 where
      t_result : {i j : ℕ} {u : TypeExpr} → TypeCode (type_at ts i).form u i → (type_at ts i).past ≡ j → TypeCodes tree.no_types u i j
      t_parameter : {i j : ℕ} {t u : TypeExpr} {us : TypeExprs} → TypeCode (type_at ts i).form t i → (type_at ts i).past < j
          → TypeCodes us u (type_at ts i).past j
          → TypeCodes (tree.and_type t us) u i j

  -- from type node i up to j stand these types
  pub data TypesStand : TypeExprs → ℕ → ℕ → Type 0 where
    t_none : {i j : ℕ} → i ≡ j → TypesStand tree.no_types i j
    t_more : {i j : ℕ} {t : TypeExpr} {us : TypeExprs} → i < j → TypeCode (type_at ts i).form t i
        → TypesStand us (type_at ts i).past j
        → TypesStand (tree.and_type t us) i j

  -- at type node i stands this type
  abbrev pub TypeStands : TypeExpr → ℕ → Type 0
  TypeStands t i = TypeCode (type_at ts i).form t i
