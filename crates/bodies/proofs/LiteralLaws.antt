-- Literals.
use Rattle.std.proofs.Common.{◌⊎◌, inl, inr, ◌≡◌, ℕ, ◌+◌, Bool, List, ℤ, Ok, Result, slice_set, sym, refl, ap, ◌∙◌, subst}
use Rattle.grammar.specs.Trees.{Expr, Script}
use Rattle.layout.specs.Decoding.{node_found, c_integer, c_symbol, c_boolean, c_unit}
use Rattle.layout.specs.declared.node.Node.{Node}
use Rattle.layout.specs.declared.node.NodeForm.{NodeForm}
use Rattle.layout.specs.declared.node.NodeForm.TheVariants as form
use Rattle.layout.specs.declared.word.Word.{Word}
use Rattle.naming.specs.Judges.{Desk, Coded, ExprAnswers}
use Rattle.naming.specs.declared.world.World.{World}
use Rattle.program.specs.Compiling.{code}
use Rattle.program.specs.declared.code.Code.{Code}
use Rattle.program.specs.declared.code.Op.{Op}
use Rattle.program.specs.declared.code.Op.TheVariants as op
use Rattle.script_refusals.specs.declared.refusal.Refused.{Refused}
use Rattle.type_rows.specs.declared.value_type.ValueType.{ValueType}
use Rattle.type_rows.specs.declared.value_type.ValueType.TheVariants as value

-- what a literal does, and its type
pub data Literal : NodeForm → Op → ValueType → Type 0 where
  an_integer : {z : ℤ} → Literal (form.Integer z) (op.Integer z) value.Int
  a_symbol : {q : ℕ} → Literal (form.Symbol q) (op.Symbol q) value.Sym
  a_boolean : {b : Bool} → Literal (form.Boolean b) (op.Boolean b) value.Bool
  a_unit : Literal form.Unit op.Unit value.Unit

pub literal_judged : (world : World) (script : Script) (i height : ℕ) (node : Node) (old : Desk) (codes after : List Code) (f : NodeForm) (o : Op) (kind : ValueType) (result : Result ValueType Refused) {e : Expr}
    → Literal f o kind → node ≡ node_found world.nodes.now i → node.form ≡ f → Coded world script (node_found world.nodes.now i).form e i → result ≡ Ok kind → after ≡ slice_set codes i (code o node.place node.past)
    → ExprAnswers world script e i height old codes result old after
literal_judged world script i height node old codes after f o kind result {e} literal is named stands er written =
    subst (λ r. ExprAnswers world script e i height old codes r old after) (sym er) (go literal written (subst (λ f. Coded world script f e i) (sym (ap (λ (n : Node). n.form) is) ∙ named) stands))
  where
    place_is : {p : ℕ} → (node_found world.nodes.now i).place ≡ p → node.place ≡ p
    place_is e = ap (λ (n : Node). n.place) is ∙ e

    past_is : (node_found world.nodes.now i).past ≡ i + 1 → node.past ≡ i + 1
    past_is e = ap (λ (n : Node). n.past) is ∙ e

    written_at : (o o' : Op) (p : ℕ) → after ≡ slice_set codes i (code o node.place node.past) → o ≡ o' → node.place ≡ p → node.past ≡ i + 1 → after ≡ slice_set codes i (code o' p (i + 1))
    written_at o o' p written eo ep eq = let e : code o node.place node.past ≡ code o' p (i + 1) = cc (eo, ep, eq) in written ∙ ap (slice_set codes i) e

    go : {e : Expr} {f : NodeForm} {o : Op} {kind : ValueType} → Literal f o kind → after ≡ slice_set codes i (code o node.place node.past) → Coded world script f e i → ExprAnswers world script e i height old codes (Ok kind) old after
    go an_integer written (c_integer place past) = record { type = refl; valid = tt; noted = λ G lying. written_at _ _ _ written refl (place_is place) (past_is past) }
    go a_symbol written (c_symbol place past q quotes) = record { type = refl; valid = tt; noted = λ G lying. written_at _ _ _ written (ap op.Symbol q) (place_is place) (past_is past) }
    go a_boolean written (c_boolean place past) = record { type = refl; valid = tt; noted = λ G lying. written_at _ _ _ written refl (place_is place) (past_is past) }
    go a_unit written (c_unit place past) = record { type = refl; valid = tt; noted = λ G lying. written_at _ _ _ written refl (place_is place) (past_is past) }

-- no expression stands at a node of another kind
pub no_expression : (world : World) (script : Script) (i : ℕ) (f : NodeForm) (e : Expr) → (f ≡ form.Unused) ⊎ (((w : Word) × (f ≡ form.Binding w)) ⊎ ((q : ℕ) × (f ≡ form.Branch q))) → Coded world script f e i → ⊥
no_expression world script i f e (inl h) stands = unused_at (subst (λ f. Coded world script f e i) h stands)
  where
    unused_at : Coded world script form.Unused e i → ⊥
    unused_at c = elim c [ ]
no_expression world script i f e (inr (inl h)) stands = binding_at h.0 (subst (λ f. Coded world script f e i) h.1 stands)
  where
    binding_at : (w : Word) → Coded world script (form.Binding w) e i → ⊥
    binding_at w c = elim c [ ]
no_expression world script i f e (inr (inr h)) stands = branch_at h.0 (subst (λ f. Coded world script f e i) h.1 stands)
  where
    branch_at : (q : ℕ) → Coded world script (form.Branch q) e i → ⊥
    branch_at q c = elim c [ ]
