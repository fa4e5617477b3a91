-- Where the parts of a form lie, and that they lie in the node list.
use Rattle.std.proofs.Common.{◌≡◌, ℕ, ◌+◌, ◌<◌, Bool, true, false, List, length, max, min, sym, refl, ap, subst, arith}
use Rattle.std.specs.Prelude.{nat_lt}
use Rattle.std.proofs.lemmas.Bool.{ltb-true, ltb-false}
use Rattle.std.proofs.lemmas.List.{get_or_past}
use Rattle.bodies.proofs.SizeLaws.{code_size}
use Rattle.bodies.specs.Parts.{Bindable, Branched, number_of}
use Rattle.grammar.specs.Limits.{expr_nodes}
use Rattle.grammar.specs.Trees.{Bindings, Branches, Expr, Script}
use Rattle.layout.proofs.Standing.{node_some}
use Rattle.layout.specs.Decoding.{node_found, Code, Binds, c_body, Arms}
use Rattle.layout.specs.Encoding.{unused}
use Rattle.layout.specs.declared.node.Node.{Node}
use Rattle.layout.specs.declared.node.NodeForm.{NodeForm}
use Rattle.layout.specs.declared.node.NodeForm.TheVariants as form
use Rattle.naming.specs.Judges.{Coded, text_of}
use Rattle.naming.specs.declared.world.World.{World}

-- a form that is used is that of an entry of the list
pub used_low : (ns : List Node) (i : ℕ) → ((node_found ns i).form ≡ form.Unused → ⊥) → i < length ns
used_low ns i used = go (nat_lt i (length ns)) refl
  where
    go : (b : Bool) → nat_lt i (length ns) ≡ b → i < length ns
    go true e = ltb-true i (length ns) e
    go false e = absurd (used (ap (λ (n : Node). n.form) (get_or_past ns i unused (ltb-false i (length ns) e))))

-- a number is that of the node behind the one with another
abbrev pub Behind : List Node → ℕ → ℕ → Type 0
Behind ns next j = next ≡ max (node_found ns j).past (min (j + 1) 18446744073709551615)

module _ (world : World) (script : Script) where
  unused_none : {e : Expr} {i : ℕ} → Code (text_of world script) (number_of world script) world.nodes.now form.Unused e i → ⊥
  unused_none c = elim c [ ]

  pub coded_low : (e : Expr) (i : ℕ) → Coded world script (node_found world.nodes.now i).form e i → i < length world.nodes.now
  coded_low e i code = used_low world.nodes.now i (λ h. unused_none (subst (λ f. Coded world script f e i) h code))

  -- the node behind an expression
  pub coded_after : (f : NodeForm) (e : Expr) (i next : ℕ) → Coded world script f e i → Behind world.nodes.now next i → i < 18446744073709551615 → (next ≡ (node_found world.nodes.now i).past) × (next ≡ i + expr_nodes e)
  coded_after f e i next code is low =
      let size = code_size (text_of world script) (number_of world script) world.nodes.now code in
      let some = node_some e in
      (omega arith, omega arith)

  -- the same expression, by another name of its node
  pub coded_at : (e : Expr) (j k : ℕ) → j ≡ k → Coded world script (node_found world.nodes.now k).form e k → Coded world script (node_found world.nodes.now j).form e j
  coded_at e j k h c = subst (λ j. Coded world script (node_found world.nodes.now j).form e j) (sym h) c

  -- branches lie in the list
  pub branched_low : (bs : Branches) (i j : ℕ) → Branched world script bs i j → i < length world.nodes.now
  branched_low bs i j b = used_low world.nodes.now i (λ h. none (subst (λ f. Arms (text_of world script) (number_of world script) world.nodes.now f bs i j) h b))
    where
      none : Arms (text_of world script) (number_of world script) world.nodes.now form.Unused bs i j → ⊥
      none a = elim a [ ]

  -- bindings and the body behind them lie in the list
  pub bindable_low : (bs : Bindings) (e : Expr) (i j : ℕ) → Bindable world script bs e i j → i < length world.nodes.now
  bindable_low bs e i j b = used_low world.nodes.now i (λ h. none bs e (subst (λ f. Binds (text_of world script) (number_of world script) world.nodes.now f bs e i j) h b))
    where
      none : (bs : Bindings) (e : Expr) → Binds (text_of world script) (number_of world script) world.nodes.now form.Unused bs e i j → ⊥
      none _ e (c_body code last) = unused_none code
