-- How many nodes an expression takes in the node list.
use Rattle.std.proofs.Common.{◌≡◌, ℕ, ◌+◌, List, arith}
use Rattle.grammar.specs.Limits.{expr_nodes, exprs_nodes, bindings_nodes, branches_nodes}
use Rattle.grammar.specs.Trees.{Expr, Exprs, Bindings, Branches}
use Rattle.layout.specs.Decoding.{node_found, Code, c_integer, c_symbol, c_boolean, c_unit, c_name, c_if, c_begin, c_let, c_case, c_dup, c_apply, Codes, c_none, c_more, Binds, c_body, c_binding, Arms, c_last, c_branch}
use Rattle.layout.specs.declared.node.Node.{Node}
use Rattle.layout.specs.declared.node.NodeForm.{NodeForm}

module _ (text : List ℕ) (number : List ℕ → ℕ) (ns : List Node) where
  abbrev past : ℕ → ℕ
  past i = (node_found ns i).past

  mutual
    pub code_size : {f : NodeForm} {e : Expr} {i : ℕ} → Code text number ns f e i → past i ≡ i + expr_nodes e
    code_size (c_integer place last) = last
    code_size (c_symbol place last q quotes) = last
    code_size (c_boolean place last) = last
    code_size (c_unit place last) = last
    code_size (c_name place last spells) = last
    code_size (c_if place a b c last) = let x = code_size a in let y = code_size b in let z = code_size c in omega arith
    code_size (c_begin place e es) = let x = code_size e in let y = codes_size es in omega arith
    code_size (c_let place bs) = let x = binds_size bs in omega arith
    code_size (c_case place e bs) = let x = code_size e in let y = arms_size bs in omega arith
    code_size (c_dup place last spells) = last
    code_size (c_apply place e es) = let x = code_size e in let y = codes_size es in omega arith

    pub codes_size : {es : Exprs} {i j : ℕ} → Codes text number ns es i j → j ≡ i + exprs_nodes es
    codes_size (c_none e) = omega arith
    codes_size (c_more low e es) = let x = code_size e in let y = codes_size es in omega arith

    pub binds_size : {f : NodeForm} {bs : Bindings} {e : Expr} {i j : ℕ} → Binds text number ns f bs e i j → j ≡ i + bindings_nodes bs + expr_nodes e
    binds_size (c_body e last) = let x = code_size e in omega arith
    binds_size (c_binding place spells d last bs) = let x = code_size d in let y = binds_size bs in omega arith

    pub arms_size : {f : NodeForm} {bs : Branches} {i j : ℕ} → Arms text number ns f bs i j → j ≡ i + branches_nodes bs
    arms_size (c_last place shows e inside last) = let x = code_size e in omega arith
    arms_size (c_branch place shows e inside low bs) = let x = code_size e in let y = arms_size bs in omega arith
