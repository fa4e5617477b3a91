-- The parts of a function type, one behind another.
use Rattle.std.proofs.Common.{◌≡◌, ℕ, ◌+◌, ◌<◌, ◌≤◌, max, List, ◌++◌, append_assoc, length, refl, ap, ◌∙◌, subst, arith}
use Rattle.globals.specs.Lying.{TypeNodeLies, int_lies, bool_lies, sym_lies, unit_lies, named_lies, function_lies, TypesLaid, type_at}
use Rattle.grammar.specs.Limits.{type_count, types_count, types_length}
use Rattle.grammar.specs.Trees as tree
use Rattle.grammar.specs.Trees.{TypeExpr, TypeExprs, Script}
use Rattle.layout.specs.declared.tables.Tables.{Tables}
use Rattle.layout.specs.declared.type_node.TypeForm.{TypeForm}
use Rattle.layout.specs.declared.type_node.TypeNode.{TypeNode}
use Rattle.layout.proofs.Lists.{Has, has_first, has_others, has_front, has_back}
use Rattle.type_rows.specs.TypeExprs.{inner, inners, types_listed, no_type, expr_at}
use Rattle.layout.proofs.Standing.{type_some}
use Rattle.type_rows.proofs.ScriptRows.{order_script, inner_first, length_inner, has_size}

-- a node's past is the number after the last of its parts
pub past_lies : {text : List ℕ} {node : TypeNode} {k : ℕ} {f : TypeForm} {t : TypeExpr} → TypeNodeLies text node k f t → node.past ≡ k + type_count t
past_lies (int_lies e) = e
past_lies (bool_lies e) = e
past_lies (sym_lies e) = e
past_lies (unit_lies e) = e
past_lies (named_lies e s) = e
past_lies (function_lies e) = e

-- what is left of a function type's parts, from row `at` on
pub record PartsLeft (all : List TypeExpr) (k : ℕ) (ts : TypeExprs) (t : TypeExpr) (at count : ℕ) : Type 0 where
  pub left : TypeExprs
  pub lie : Has all at (inners left ++ inner t)
  pub counted : count + types_length left ≡ types_length ts
  pub reached : at + types_count left ≡ k + 1 + types_count ts

module _ (text : List ℕ) (tables : Tables) (script : Script) (laid : TypesLaid text tables (types_listed script)) where
  past_at : (i : ℕ) (t : TypeExpr) → Has (types_listed script) i (inner t) → (type_at tables i).past ≡ i + type_count t
  past_at i t h =
      let f = inner_first t in
      let e : expr_at (types_listed script) i ≡ t = has_first (subst (Has (types_listed script) i) f.1 h) no_type in
      let n = length_inner t in
      let k = type_some t in
      let low = has_size (inner t) h (omega arith) in
      past_lies (laid.each i (omega arith)) ∙ ap (λ t. i + type_count t) e

  module _ (k p : ℕ) (ts : TypeExprs) (t : TypeExpr) (low : k < length (types_listed script)) (is : expr_at (types_listed script) k ≡ tree.function_type_rule p ts t) where
    whole : Has (types_listed script) k (inner (tree.function_type_rule p ts t))
    whole = subst (λ t. Has (types_listed script) k (inner t)) is (order_script script k low)

    pub parts_start : PartsLeft (types_listed script) k ts t (k + 1) 0
    parts_start = record { left = ts; lie = has_others whole; counted = omega arith; reached = refl }

    pub past_whole : (type_at tables k).past ≡ k + 1 + types_count ts + type_count t
    past_whole = let e = past_at k (tree.function_type_rule p ts t) whole in omega arith

    -- the part at the end is the result type
    pub parts_end : (at count next : ℕ) → PartsLeft (types_listed script) k ts t at count → next ≡ max (type_at tables at).past (at + 1) → (type_at tables k).past ≤ next → (count ≡ types_length ts) × (at ≡ k + 1 + types_count ts)
    parts_end at count next l e high = go l.left l.lie l.counted l.reached
      where
        go : (left : TypeExprs) → Has (types_listed script) at (inners left ++ inner t) → count + types_length left ≡ types_length ts → at + types_count left ≡ k + 1 + types_count ts → (count ≡ types_length ts) × (at ≡ k + 1 + types_count ts)
        go tree.no_types h c r = (omega arith, omega arith)
        go (tree.and_type u us) h c r =
            let f = past_at at u (has_front (inner u) (inners us) (has_front (inners (tree.and_type u us)) (inner t) h)) in
            let g = past_whole in
            let s = type_some u in
            let v = type_some t in
            absurd (omega arith)

    pub parts_next : (at count next : ℕ) → PartsLeft (types_listed script) k ts t at count → next ≡ max (type_at tables at).past (at + 1) → next < (type_at tables k).past → PartsLeft (types_listed script) k ts t next (count + 1)
    parts_next at count next l e below = go l.left l.lie l.counted l.reached
      where
        go : (left : TypeExprs) → Has (types_listed script) at (inners left ++ inner t) → count + types_length left ≡ types_length ts → at + types_count left ≡ k + 1 + types_count ts → PartsLeft (types_listed script) k ts t next (count + 1)
        go tree.no_types h c r = let f = past_at at t h in let g = past_whole in let s = type_some t in absurd (omega arith)
        go (tree.and_type u us) h c r =
            let all : Has (types_listed script) at (inner u ++ (inners us ++ inner t)) = subst (Has (types_listed script) at) (append_assoc (inner u) (inners us) (inner t)) h in
            let f = past_at at u (has_front (inner u) (inners us ++ inner t) all) in
            let s = type_some u in
            let to : at + type_count u ≡ next = omega arith in
            record { left = us; lie = subst (λ j. Has (types_listed script) j (inners us ++ inner t)) to (has_back (inner u) (inners us ++ inner t) (type_count u) (length_inner u) all); counted = omega arith; reached = omega arith }
