-- A tree that lies in a node list, a table of types and the text stands there.
use Rattle.std.proofs.Common.{◌≡◌, ℕ, ◌+◌, ◌<◌, List, ◌∷◌, ◌++◌, length, sym, refl, ap, ◌∙◌, subst, add-zero, arith}
use Rattle.grammar.specs.Limits.{expr_nodes, exprs_nodes, bindings_nodes, branches_nodes, type_count, types_count}
use Rattle.grammar.specs.Trees.{TypeExpr, int_type, bool_type, sym_type, unit_type, datatype, function_type_rule, TypeExprs, no_types, and_type, Expr, integer, symbol, boolean, unit, name, if_expr, begin_expr, let_expr, case_expr, dup_expr, apply_expr, Exprs, no_exprs, and_expr, Bindings, no_bindings, and_binding, Branches, last_branch, and_branch}
use Rattle.layout.specs.Decoding.{node_found, type_at, Code, c_integer, c_symbol, c_boolean, c_unit, c_name, c_if, c_begin, c_let, c_case, c_dup, c_apply, Codes, c_none, c_more, Binds, c_body, c_binding, Arms, c_last, c_branch, Stands, TypeCode, t_int, t_bool, t_sym, t_unit, t_datatype, t_function, TypeCodes, t_result, t_parameter, TypesStand, t_none, t_more, TypeStands}
use Rattle.layout.specs.Encoding as lies
use Rattle.layout.specs.Encoding.{node, unused, pattern_place}
use Rattle.layout.specs.TypeEncoding.{node_of_type, unused_type, encode_type, encode_types}
use Rattle.layout.specs.Spelling.{Spells}
use Rattle.layout.specs.Words.{word_at, word}
use Rattle.layout.specs.declared.node.Node.{Node}
use Rattle.layout.specs.declared.node.NodeForm.{NodeForm}
use Rattle.layout.specs.declared.node.NodeForm.TheVariants as form
use Rattle.layout.specs.declared.type_node.TypeForm.{TypeForm}
use Rattle.layout.specs.declared.type_node.TypeNode.{TypeNode}
use Rattle.layout.proofs.InText.{ExprIn, ExprsIn, BindingsIn, BranchesIn, TypeIn, TypesIn}
use Rattle.layout.proofs.Lists.{Has, has_first, has_others, has_front, has_back}
use Rattle.layout.proofs.Sizes.{length_encode, length_bindings, length_type, length_types}

-- Each node has the number behind its last part.
module _ {text : List ℕ} {number : List ℕ → ℕ} {ns : List Node} where
  mutual
    pub code_size : {f : NodeForm} {e : Expr} {i : ℕ} → Code text number ns f e i → (node_found ns i).past ≡ i + expr_nodes e
    code_size (c_integer p q) = q
    code_size (c_symbol p q r s) = q
    code_size (c_boolean p q) = q
    code_size (c_unit p q) = q
    code_size (c_name p q s) = q
    code_size (c_if p a b c q) = let x = code_size a in let y = code_size b in let z = code_size c in omega arith
    code_size (c_begin p a more) = let x = code_size a in let y = codes_size more in omega arith
    code_size (c_let p a) = let x = binds_size a in omega arith
    code_size (c_case p a more) = let x = code_size a in let y = arms_size more in omega arith
    code_size (c_dup p q s) = q
    code_size (c_apply p a more) = let x = code_size a in let y = codes_size more in omega arith

    pub codes_size : {es : Exprs} {i j : ℕ} → Codes text number ns es i j → j ≡ i + exprs_nodes es
    codes_size (c_none e) = omega arith
    codes_size (c_more h a more) = let x = code_size a in let y = codes_size more in omega arith

    pub binds_size : {f : NodeForm} {bs : Bindings} {e : Expr} {i j : ℕ} → Binds text number ns f bs e i j → j ≡ i + bindings_nodes bs + expr_nodes e
    binds_size (c_body a p) = let x = code_size a in omega arith
    binds_size (c_binding p s a q more) = let x = code_size a in let y = binds_size more in omega arith

    pub arms_size : {f : NodeForm} {bs : Branches} {i j : ℕ} → Arms text number ns f bs i j → j ≡ i + branches_nodes bs
    arms_size (c_last p s a q e) = let x = code_size a in omega arith
    arms_size (c_branch p s a q h more) = let x = code_size a in let y = arms_size more in omega arith

module _ {text : List ℕ} {ts : List TypeNode} where
  mutual
    pub type_size_is : {f : TypeForm} {t : TypeExpr} {i : ℕ} → TypeCode text ts f t i → (type_at ts i).past ≡ i + type_count t
    type_size_is (t_int p q) = q
    type_size_is (t_bool p q) = q
    type_size_is (t_sym p q) = q
    type_size_is (t_unit p q) = q
    type_size_is (t_datatype q s) = q
    type_size_is (t_function p a) = let x = parameters_size a in omega arith

    pub parameters_size : {us : TypeExprs} {u : TypeExpr} {i j : ℕ} → TypeCodes text ts us u i j → j ≡ i + types_count us + type_count u
    parameters_size (t_result a e) = let x = type_size_is a in omega arith
    parameters_size (t_parameter a h more) = let x = type_size_is a in let y = parameters_size more in omega arith

  pub types_size : {us : TypeExprs} {i j : ℕ} → TypesStand text ts us i j → j ≡ i + types_count us
  types_size (t_none e) = omega arith
  types_size (t_more h a more) = let x = type_size_is a in let y = types_size more in omega arith

-- at least one node, and one type node
pub node_some : (e : Expr) → 0 < expr_nodes e
node_some (integer p z) = omega arith
node_some (symbol p w) = omega arith
node_some (boolean p b) = omega arith
node_some (unit p) = omega arith
node_some (name p w) = omega arith
node_some (if_expr p a b c) = omega arith
node_some (begin_expr p e es) = omega arith
node_some (let_expr p bs e) = omega arith
node_some (case_expr p e bs) = omega arith
node_some (dup_expr p x) = omega arith
node_some (apply_expr p e es) = omega arith

branch_some : (bs : Branches) → 0 < branches_nodes bs
branch_some (last_branch p x e) = omega arith
branch_some (and_branch p x e bs) = omega arith

pub type_some : (t : TypeExpr) → 0 < type_count t
type_some (int_type p) = omega arith
type_some (bool_type p) = omega arith
type_some (sym_type p) = omega arith
type_some (unit_type p) = omega arith
type_some (datatype x) = omega arith
type_some (function_type_rule p ts t) = omega arith

-- Expressions.
module _ (text : List ℕ) (number : List ℕ → ℕ) (ns : List Node) where
  abbrev encode : ℕ → Expr → List Node
  encode = lies.encode (λ p w. number w)

  abbrev encodes : ℕ → Exprs → List Node
  encodes = lies.encodes (λ p w. number w)

  abbrev encode_bindings : ℕ → Bindings → List Node
  encode_bindings = lies.encode_bindings (λ p w. number w)

  abbrev encode_branches : ℕ → Branches → List Node
  encode_branches = lies.encode_branches (λ p w. number w)

  -- by the node that stands there
  stood : {f : NodeForm} {p past : ℕ} {e : Expr} {i : ℕ} → node_found ns i ≡ node f p past → Code text number ns f e i → Stands text number ns e i
  stood {e = e} {i = i} is c = subst (λ f. Code text number ns f e i) (sym (ap (λ n. n.form) is)) c

  -- a part behind others
  at : {e : Expr} {i j : ℕ} → i ≡ j → Stands text number ns e j → Stands text number ns e i
  at {e} is c = subst (λ i. Stands text number ns e i) (sym is) c

  place : {n : Node} {f : NodeForm} {p past : ℕ} → n ≡ node f p past → n.place ≡ p
  place is = ap (λ n. n.place) is

  past_is : {n : Node} {f : NodeForm} {p past : ℕ} → n ≡ node f p past → n.past ≡ past
  past_is is = ap (λ n. n.past) is

  mutual
    pub code_of : (i : ℕ) (e : Expr) → ExprIn text e → Has ns i (encode i e) → Stands text number ns e i
    code_of i (integer p z) s h = let is = has_first h unused in stood is (c_integer (place is) (past_is is))
    code_of i (symbol p w) s h = let is = has_first h unused in stood is (c_symbol (place is) (past_is is) refl s)
    code_of i (boolean p b) s h = let is = has_first h unused in stood is (c_boolean (place is) (past_is is))
    code_of i (unit p) s h = let is = has_first h unused in stood is (c_unit (place is) (past_is is))
    code_of i (name p w) s h = let is = has_first h unused in stood is (c_name (place is) (past_is is) s)
    code_of i (dup_expr p x) s h = let is = has_first h unused in stood is (c_dup (place is) (past_is is) s)
    code_of i (if_expr p a b c) s h =
        let is = has_first h unused in
        let parts = has_others h in
        let i₂ = i + 1 + expr_nodes a in
        let i₃ = i₂ + expr_nodes b in
        let more = has_back (encode (i + 1) a) (encode i₂ b ++ encode i₃ c) (expr_nodes a) (length_encode _ (i + 1) a) parts in
        let ca = code_of (i + 1) a s.0 (has_front (encode (i + 1) a) _ parts) in
        let cb = code_of i₂ b s.1 (has_front (encode i₂ b) _ more) in
        let cc' = code_of i₃ c s.2 (has_back (encode i₂ b) (encode i₃ c) (expr_nodes b) (length_encode _ i₂ b) more) in
        let pa = code_size ca in
        let pb = ap (λ j. (node_found ns j).past) pa ∙ code_size cb in
        let pc = ap (λ j. (node_found ns j).past) pb ∙ code_size cc' in
        let past = past_is is in
        stood is (c_if (place is) ca (at pa cb) (at pb cc') (omega arith))
    code_of i (begin_expr p e es) s h =
        let is = has_first h unused in
        let parts = has_others h in
        let ce = code_of (i + 1) e s.0 (has_front (encode (i + 1) e) _ parts) in
        let past = past_is is in
        stood is (c_begin (place is) ce (codes_of (i + 1 + expr_nodes e) es _ _ s.1 (has_back (encode (i + 1) e) (encodes (i + 1 + expr_nodes e) es) (expr_nodes e) (length_encode _ (i + 1) e) parts) (code_size ce) (omega arith)))
    code_of i (apply_expr p e es) s h =
        let is = has_first h unused in
        let parts = has_others h in
        let ce = code_of (i + 1) e s.0 (has_front (encode (i + 1) e) _ parts) in
        let past = past_is is in
        stood is (c_apply (place is) ce (codes_of (i + 1 + expr_nodes e) es _ _ s.1 (has_back (encode (i + 1) e) (encodes (i + 1 + expr_nodes e) es) (expr_nodes e) (length_encode _ (i + 1) e) parts) (code_size ce) (omega arith)))
    code_of i (let_expr p bs e) s h =
        let is = has_first h unused in
        let past = past_is is in
        let parts = has_others h in
        let bound = encode_bindings (i + 1) bs in
        let body = encode (i + 1 + bindings_nodes bs) e in
        let ce = code_of (i + 1 + bindings_nodes bs) e s.1 (has_back bound body (bindings_nodes bs) (length_bindings _ (i + 1) bs) parts) in
        stood is (c_let (place is) (binds_of (i + 1) bs e _ s.0 ce (has_front bound body parts) (omega arith)))
    code_of i (case_expr p e bs) s h =
        let is = has_first h unused in
        let parts = has_others h in
        let ce = code_of (i + 1) e s.0 (has_front (encode (i + 1) e) _ parts) in
        let past = past_is is in
        stood is (c_case (place is) ce (arms_of (i + 1 + expr_nodes e) bs _ _ s.1 (has_back (encode (i + 1) e) (encode_branches (i + 1 + expr_nodes e) bs) (expr_nodes e) (length_encode _ (i + 1) e) parts) (code_size ce) (omega arith)))

    codes_of : (i : ℕ) (es : Exprs) (k j : ℕ) → ExprsIn text es → Has ns i (encodes i es) → k ≡ i → j ≡ i + exprs_nodes es → Codes text number ns es k j
    codes_of i no_exprs k j s h ek ej = c_none (omega arith)
    codes_of i (and_expr e es) k j s h ek ej =
        let ce = code_of i e s.0 (has_front (encode i e) _ h) in
        let some = node_some e in
        let next = ap (λ j. (node_found ns j).past) ek ∙ code_size ce in
        c_more (omega arith) (at ek ce) (codes_of (i + expr_nodes e) es _ j s.1 (has_back (encode i e) (encodes (i + expr_nodes e) es) (expr_nodes e) (length_encode _ i e) h) next (omega arith))

    binds_of : (i : ℕ) (bs : Bindings) (e : Expr) (j : ℕ) → BindingsIn text bs → Stands text number ns e (i + bindings_nodes bs) → Has ns i (encode_bindings i bs) → j ≡ i + bindings_nodes bs + expr_nodes e
        → Binds text number ns (node_found ns i).form bs e i j
    binds_of i no_bindings e j s body h ej =
        let ce = at (sym (add-zero i)) body in
        let size = code_size ce in
        c_body ce (omega arith)
    binds_of i (and_binding p x d bs) e j s body h ej =
        let n = node (form.Binding (word x)) p (i + (1 + expr_nodes d)) in
        let first = n ∷ encode (i + 1) d in
        let next = i + (1 + expr_nodes d) in
        let others = encode_bindings next bs in
        let own = has_front first others h in
        let is = has_first own unused in
        let cd = code_of (i + 1) d s.1 (has_others own) in
        let size = code_size cd in
        let past = past_is is in
        let more = has_back first others (1 + expr_nodes d) (omega (arith, length_encode (λ p w. number w) (i + 1) d)) h in
        let k : next + bindings_nodes bs ≡ i + bindings_nodes (and_binding p x d bs) = omega arith in
        let binds = binds_of next bs e j s.2 (at k body) more (omega arith) in
        subst (λ f. Binds text number ns f (and_binding p x d bs) e i j) (sym (ap (λ n. n.form) is))
        (c_binding (place is) s.0 cd (omega arith) (subst (λ k. Binds text number ns (node_found ns k).form bs e k j) (sym past) binds))

    arms_of : (i : ℕ) (bs : Branches) (k j : ℕ) → BranchesIn text bs → Has ns i (encode_branches i bs) → k ≡ i → j ≡ i + branches_nodes bs
        → Arms text number ns (node_found ns k).form bs k j
    arms_of i (last_branch p x e) k j s h ek ej =
        let is = has_first h unused in
        let ce = code_of (i + 1) e s.1 (has_others h) in
        let size = code_size ce in
        let past = past_is is in
        subst (λ k. Arms text number ns (node_found ns k).form (last_branch p x e) k j) (sym ek)
        (subst (λ f. Arms text number ns f (last_branch p x e) i j) (sym (ap (λ n. n.form) is)) (c_last (place is) s.0 ce (omega arith) (omega arith)))
    arms_of i (and_branch p x e bs) k j s h ek ej =
        let n = node (form.Branch (pattern_place x)) p (i + (1 + expr_nodes e)) in
        let first = n ∷ encode (i + 1) e in
        let next = i + (1 + expr_nodes e) in
        let others = encode_branches next bs in
        let own = has_front first others h in
        let is = has_first own unused in
        let ce = code_of (i + 1) e s.1 (has_others own) in
        let size = code_size ce in
        let past = past_is is in
        let some = branch_some bs in
        let arms = arms_of next bs _ j s.2 (has_back first others (1 + expr_nodes e) (omega (arith, length_encode (λ p w. number w) (i + 1) e)) h) past (omega arith) in
        subst (λ k. Arms text number ns (node_found ns k).form (and_branch p x e bs) k j) (sym ek)
        (subst (λ f. Arms text number ns f (and_branch p x e bs) i j) (sym (ap (λ n. n.form) is)) (c_branch (place is) s.0 ce (omega arith) (omega arith) arms))

-- Types.
module _ (text : List ℕ) (ts : List TypeNode) where
  stood_type : {f : TypeForm} {p past : ℕ} {t : TypeExpr} {i : ℕ} → type_at ts i ≡ node_of_type f p past → TypeCode text ts f t i → TypeStands text ts t i
  stood_type {t = t} {i = i} is c = subst (λ f. TypeCode text ts f t i) (sym (ap (λ n. n.form) is)) c

  mutual
    pub type_of : (i : ℕ) (t : TypeExpr) → TypeIn text t → Has ts i (encode_type i t) → TypeStands text ts t i
    type_of i (int_type p) s h = let is = has_first h unused_type in stood_type is (t_int (ap (λ n. n.place) is) (ap (λ n. n.past) is))
    type_of i (bool_type p) s h = let is = has_first h unused_type in stood_type is (t_bool (ap (λ n. n.place) is) (ap (λ n. n.past) is))
    type_of i (sym_type p) s h = let is = has_first h unused_type in stood_type is (t_sym (ap (λ n. n.place) is) (ap (λ n. n.past) is))
    type_of i (unit_type p) s h = let is = has_first h unused_type in stood_type is (t_unit (ap (λ n. n.place) is) (ap (λ n. n.past) is))
    type_of i (datatype x) s h =
        let is = has_first h unused_type in
        stood_type is (t_datatype (ap (λ n. n.past) is) (subst (λ p. Spells text (word_at p (length x.bytes)) x) (sym (ap (λ n. n.place) is)) s))
    type_of i (function_type_rule p us u) s h =
        let is = has_first h unused_type in
        let past : (type_at ts i).past ≡ i + type_count (function_type_rule p us u) = ap (λ n. n.past) is in
        let parts = has_others h in
        let first = encode_types (i + 1) us in
        let result = encode_type (i + 1 + types_count us) u in
        let cu = type_of (i + 1 + types_count us) u s.1 (has_back first result (types_count us) (length_types (i + 1) us) parts) in
        stood_type is (t_function (ap (λ n. n.place) is) (parameters_of (i + 1) us u (i + 1) _ s.0 cu (has_front first result parts) refl (omega arith)))

    parameters_of : (i : ℕ) (us : TypeExprs) (u : TypeExpr) (k j : ℕ) → TypesIn text us → TypeStands text ts u (i + types_count us) → Has ts i (encode_types i us) → k ≡ i → j ≡ i + types_count us + type_count u
        → TypeCodes text ts us u k j
    parameters_of i no_types u k j s result h ek ej =
        let size = type_size_is result in
        let here : i + 0 ≡ k = omega arith in
        let cu : TypeStands text ts u k = subst (λ i. TypeStands text ts u i) here result in
        t_result cu (let size = type_size_is cu in omega arith)
    parameters_of i (and_type t us) u k j s result h ek ej =
        let first = encode_type i t in
        let next = i + type_count t in
        let others = encode_types next us in
        let ct = type_of i t s.0 (has_front first others h) in
        let size = type_size_is ct in
        let m : i + types_count (and_type t us) ≡ next + types_count us = omega arith in
        let some = type_some u in
        let rest = parameters_of next us u _ j s.1 (subst (λ i. TypeStands text ts u i) m result) (has_back first others (type_count t) (length_type i t) h) size (omega arith) in
        subst (λ k. TypeCodes text ts (and_type t us) u k j) (sym ek) (t_parameter ct (omega arith) rest)

  pub types_of_rule : (i : ℕ) (us : TypeExprs) (k j : ℕ) → TypesIn text us → Has ts i (encode_types i us) → k ≡ i → j ≡ i + types_count us → TypesStand text ts us k j
  types_of_rule i no_types k j s h ek ej = t_none (omega arith)
  types_of_rule i (and_type t us) k j s h ek ej =
      let first = encode_type i t in
      let others = encode_types (i + type_count t) us in
      let ct = type_of i t s.0 (has_front first others h) in
      let size = type_size_is ct in
      let some = type_some t in
      let rest = types_of_rule (i + type_count t) us _ j s.1 (has_back first others (type_count t) (length_type i t) h) size (omega arith) in
      subst (λ k. TypesStand text ts (and_type t us) k j) (sym ek) (t_more (omega arith) ct rest)
