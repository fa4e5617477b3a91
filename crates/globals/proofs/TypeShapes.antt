-- The shape of a type expression, by its node.
use Rattle.std.proofs.Common.{◌≡◌, ℕ, ◌+◌, ◌<◌, List, [], length, Some, None, Ok, Err, sym, refl, ap, ◌∙◌, subst}
use Rattle.std.specs.List.{slice_get}
use Rattle.globals.specs.Lying.{TypeNodeLies, named_lies, function_lies, TypesLaid, type_at}
use Rattle.globals.specs.Types.{known_head, HasDatatypes, IsShape, HasParts}
use Rattle.globals.specs.declared.declarations.Declarations.{Declarations}
use Rattle.globals.specs.declared.resolving.Parts.{Parts}
use Rattle.grammar.specs.Limits.{type_count}
use Rattle.grammar.specs.Trees as tree
use Rattle.grammar.specs.Trees.{Ident, TypeExpr, TypeExprs, Script}
use Rattle.layout.specs.Spelling.{Spells}
use Rattle.layout.specs.Words.{word_at}
use Rattle.layout.specs.declared.tables.Tables.{Tables}
use Rattle.layout.specs.declared.type_node.TypeForm.{TypeForm}
use Rattle.layout.specs.declared.type_node.TypeForm.TheVariants as type_form
use Rattle.layout.specs.declared.type_node.TypeNode.{TypeNode}
use Rattle.names.specs.Indexing.{Finds, names_in}
use Rattle.names.specs.Parts.{part_of}
use Rattle.program.specs.Programs.{Program, first_of}
use Rattle.script_refusals.specs.Refusals.{refused_at}
use Rattle.script_refusals.specs.declared.refusal.Refusal.TheVariants as refusal
use Rattle.type_rows.specs.TypeExprs.{types_listed, expr_at, head_shape, row_of_result}
use Rattle.type_rows.specs.declared.shape.Shape.TheVariants as shape
use Rattle.typing.specs.Scripts.{bytes_of}
use Rattle.typing.specs.Verdict.{accepted, refused, found}
use Rattle.globals.proofs.Firsts.{first_place_at, first_none, number_some}
use Rattle.globals.proofs.TypeNodes.{past_lies}

on_function : {text : List ℕ} {node : TypeNode} {k : ℕ} {e : TypeExpr} → TypeNodeLies text node k type_form.Function e → (p : ℕ) × (ts : TypeExprs) × (t : TypeExpr) × (e ≡ tree.function_type_rule p ts t)
on_function (function_lies {p = p} {ts = ts} {t = t} e) = (p, ts, t, refl)

on_named : {text : List ℕ} {node : TypeNode} {k n : ℕ} {e : TypeExpr} → TypeNodeLies text node k (type_form.Datatype n) e → (x : Ident) × (e ≡ tree.datatype x) × Spells text (word_at node.place n) x
on_named (named_lies {x = x} e s) = (x, refl, s)

module _ (text : List ℕ) (tables : Tables) (script : Script) (laid : TypesLaid text tables (types_listed script)) (k : ℕ) (low : k < length (types_listed script)) where
  node_lies : (f : TypeForm) → (type_at tables k).form ≡ f → TypeNodeLies text (type_at tables k) k f (expr_at (types_listed script) k)
  node_lies f e = subst (λ f. TypeNodeLies text (type_at tables k) k f (expr_at (types_listed script) k)) e (laid.each k low)

  pub past_of : (type_at tables k).past ≡ k + type_count (expr_at (types_listed script) k)
  past_of = past_lies (laid.each k low)

  pub function_shape : (P : Program) (parts : Parts) → (type_at tables k).form ≡ type_form.Function → ((p : ℕ) (ts : TypeExprs) (t : TypeExpr) → expr_at (types_listed script) k ≡ tree.function_type_rule p ts t → HasParts k ts parts)
      → IsShape P (expr_at (types_listed script) k) (Ok (shape.Function parts.count))
  function_shape P parts form has =
      let e = on_function (node_lies type_form.Function form) in
      let h = has e.0 e.1 e.2 e.3 in
      (ap shape.Function h.count ∙ sym (ap (head_shape P) e.3), ap (known_head P) e.3)

  pub function_result : (parts : Parts) → (type_at tables k).form ≡ type_form.Function → ((p : ℕ) (ts : TypeExprs) (t : TypeExpr) → expr_at (types_listed script) k ≡ tree.function_type_rule p ts t → HasParts k ts parts) → parts.result ≡ row_of_result k (expr_at (types_listed script) k)
  function_result parts form has =
      let e = on_function (node_lies type_form.Function form) in
      let h = has e.0 e.1 e.2 e.3 in
      h.result ∙ sym (ap (row_of_result k) e.3)

  module _ (P : Program) (declared : Declarations) (datatypes : HasDatatypes text declared P) (n : ℕ) (form : (type_at tables k).form ≡ type_form.Datatype n) where
    pub named_shape : (number : ℕ) → Finds (part_of text (word_at (type_at tables k).place n)) (names_in text declared.datatypes) (Some number) → IsShape P (expr_at (types_listed script) k) (Ok (shape.Datatype number))
    named_shape number finds =
        let e = on_named (node_lies (type_form.Datatype n) form) in
        let x = e.0 in
        let at : slice_get (bytes_of P.datatypes) number ≡ Some x.bytes = ap (λ l. slice_get l number) (sym datatypes.names) ∙ finds ∙ ap Some e.2.bytes_are in
        (ap shape.Datatype (sym (number_some [] P.datatypes number x.bytes datatypes.distinct at)) ∙ sym (ap (head_shape P) e.1), ap (known_head P) e.1 ∙ known number x at)
      where
        known : (number : ℕ) (x : Ident) → slice_get (bytes_of P.datatypes) number ≡ Some x.bytes → found refusal.Unknown x.place (first_of (λ d. d) x.bytes P.datatypes) ≡ accepted
        known number x at = ap (found refusal.Unknown x.place) (first_place_at (λ (d : Ident). d) [] x.bytes P.datatypes number datatypes.distinct at).3

    pub named_unknown : Finds (part_of text (word_at (type_at tables k).place n)) (names_in text declared.datatypes) None → IsShape P (expr_at (types_listed script) k) (Err (refused_at refusal.Unknown (type_at tables k).place))
    named_unknown finds =
        let e = on_named (node_lies (type_form.Datatype n) form) in
        let x = e.0 in
        let none = first_none (λ (d : Ident). d) x.bytes P.datatypes (λ j at. finds j (ap (λ l. slice_get l j) datatypes.names ∙ at ∙ ap Some (sym e.2.bytes_are))) in
        ap (known_head P) e.1 ∙ ap (found refusal.Unknown x.place) none ∙ ap (λ p. refused (refused_at refusal.Unknown p)) (sym e.2.place_is)
