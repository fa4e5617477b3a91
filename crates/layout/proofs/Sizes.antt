-- As many entries as are counted.
use Rattle.std.proofs.Common.{◌≡◌, ℕ, ◌+◌, List, ◌++◌, length, refl, arith}
use Rattle.std.proofs.lemmas.List.{length-append}
use Rattle.grammar.specs.Limits.{expr_nodes, exprs_nodes, bindings_nodes, branches_nodes, type_count, types_count}
use Rattle.grammar.specs.Trees.{TypeExpr, int_type, bool_type, sym_type, unit_type, datatype, function_type_rule, TypeExprs, no_types, and_type, Expr, integer, symbol, boolean, unit, name, if_expr, begin_expr, let_expr, case_expr, dup_expr, apply_expr, Exprs, no_exprs, and_expr, Bindings, no_bindings, and_binding, Branches, last_branch, and_branch}
use Rattle.layout.specs.Encoding as lies
use Rattle.layout.specs.TypeEncoding.{encode_type, encode_types}
use Rattle.layout.specs.declared.node.Node.{Node}

module _ (number : ℕ → List ℕ → ℕ) where
  abbrev encode : ℕ → Expr → List Node
  encode = lies.encode number

  abbrev encodes : ℕ → Exprs → List Node
  encodes = lies.encodes number

  abbrev encode_bindings : ℕ → Bindings → List Node
  encode_bindings = lies.encode_bindings number

  abbrev encode_branches : ℕ → Branches → List Node
  encode_branches = lies.encode_branches number

  mutual
    pub length_encode : (i : ℕ) (e : Expr) → length (encode i e) ≡ expr_nodes e
    length_encode i (integer p z) = refl
    length_encode i (symbol p w) = refl
    length_encode i (boolean p b) = refl
    length_encode i (unit p) = refl
    length_encode i (name p w) = refl
    length_encode i (if_expr p a b c) =
        let x = encode (i + 1) a in
        let y = encode (i + 1 + expr_nodes a) b in
        let z = encode (i + 1 + expr_nodes a + expr_nodes b) c in
        omega (arith, length-append x (y ++ z), length-append y z, length_encode (i + 1) a, length_encode (i + 1 + expr_nodes a) b, length_encode (i + 1 + expr_nodes a + expr_nodes b) c)
    length_encode i (begin_expr p e es) = omega (arith, length-append (encode (i + 1) e) (encodes (i + 1 + expr_nodes e) es), length_encode (i + 1) e, length_encodes (i + 1 + expr_nodes e) es)
    length_encode i (let_expr p bs e) = omega (arith, length-append (encode_bindings (i + 1) bs) (encode (i + 1 + bindings_nodes bs) e), length_bindings (i + 1) bs, length_encode (i + 1 + bindings_nodes bs) e)
    length_encode i (case_expr p e bs) = omega (arith, length-append (encode (i + 1) e) (encode_branches (i + 1 + expr_nodes e) bs), length_encode (i + 1) e, length_branches (i + 1 + expr_nodes e) bs)
    length_encode i (dup_expr p x) = refl
    length_encode i (apply_expr p e es) = omega (arith, length-append (encode (i + 1) e) (encodes (i + 1 + expr_nodes e) es), length_encode (i + 1) e, length_encodes (i + 1 + expr_nodes e) es)

    pub length_encodes : (i : ℕ) (es : Exprs) → length (encodes i es) ≡ exprs_nodes es
    length_encodes i no_exprs = refl
    length_encodes i (and_expr e es) = omega (arith, length-append (encode i e) (encodes (i + expr_nodes e) es), length_encode i e, length_encodes (i + expr_nodes e) es)

    pub length_bindings : (i : ℕ) (bs : Bindings) → length (encode_bindings i bs) ≡ bindings_nodes bs
    length_bindings i no_bindings = refl
    length_bindings i (and_binding p x e bs) =
        omega (arith, length-append (encode (i + 1) e) (encode_bindings (i + (1 + expr_nodes e)) bs), length_encode (i + 1) e, length_bindings (i + (1 + expr_nodes e)) bs)

    pub length_branches : (i : ℕ) (bs : Branches) → length (encode_branches i bs) ≡ branches_nodes bs
    length_branches i (last_branch p x e) = omega (arith, length_encode (i + 1) e)
    length_branches i (and_branch p x e bs) =
        omega (arith, length-append (encode (i + 1) e) (encode_branches (i + (1 + expr_nodes e)) bs), length_encode (i + 1) e, length_branches (i + (1 + expr_nodes e)) bs)

mutual
  pub length_type : (i : ℕ) (t : TypeExpr) → length (encode_type i t) ≡ type_count t
  length_type i (int_type p) = refl
  length_type i (bool_type p) = refl
  length_type i (sym_type p) = refl
  length_type i (unit_type p) = refl
  length_type i (datatype x) = refl
  length_type i (function_type_rule p ts t) = omega (arith, length-append (encode_types (i + 1) ts) (encode_type (i + 1 + types_count ts) t), length_types (i + 1) ts, length_type (i + 1 + types_count ts) t)

  pub length_types : (i : ℕ) (ts : TypeExprs) → length (encode_types i ts) ≡ types_count ts
  length_types i no_types = refl
  length_types i (and_type t ts) = omega (arith, length-append (encode_type i t) (encode_types (i + type_count t) ts), length_type i t, length_types (i + type_count t) ts)
