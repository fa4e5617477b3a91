use Rattle.std.proofs.Common.{◌≡◌, Some, None, Err, sym, ap, ◌∙◌, subst, rules}
use Rattle.globals.specs.Lying.{type_at}
use Rattle.globals.proofs.TypeShapes.{function_shape, named_shape, named_unknown}
use Rattle.globals.specs.Types.{IsShape}
use Rattle.layout.specs.Words.{word_at}
use Rattle.layout.specs.declared.type_node.TypeForm.TheVariants as type_form
use Rattle.layout.specs.declared.type_node.TypeNode.{TypeNode}
use Rattle.names.specs.Indexing.{Finds, names_in}
use Rattle.names.specs.Parts.{part_of}
use Rattle.script_refusals.specs.Refusals.{refused_at}
use Rattle.script_refusals.specs.declared.refusal.Refusal.TheVariants as refusal
use Rattle.type_rows.specs.TypeExprs.{types_listed, expr_at}
use Rattle.typing.specs.Verdict.{refused}
use Rattle.globals.proofs.resolving.shape_of.Goals as goal

pub returns-in_ok-number-in-Datatype : goal.returns-in_ok-number-in-Datatype
returns-in_ok-number-in-Datatype c = λ P script laid datatypes low.
    let text = c.args.parsed.now.text.now in
    let name : c.part.result.now ≡ part_of text (word_at (type_at c.args.parsed.now.tables.now c.args.k).place c.in-Datatype.size) = c.part.ensures ∙ ap (λ (n : TypeNode). part_of text (word_at n.place c.in-Datatype.size)) c.type_at-node.ensures in
    let form : (type_at c.args.parsed.now.tables.now c.args.k).form ≡ type_form.Datatype c.in-Datatype.size = ap (λ (n : TypeNode). n.form) (sym c.type_at-node.ensures) ∙ c.in-Datatype.is in
    let number = c.in_ok-number-in-Datatype.number in
    let there : c.find.result ≡ Some number = search rules in
    let at = subst (Finds c.part.result.now (names_in text c.args.declared.now.datatypes)) there (c.find.ensures.found datatypes.index) in
    named_shape text c.args.parsed.now.tables.now script laid c.args.k low P c.args.declared.now datatypes c.in-Datatype.size form number (at ∙ ap Some name)

pub returns-in_err-number-in-Datatype : goal.returns-in_err-number-in-Datatype
returns-in_err-number-in-Datatype c = λ P script laid datatypes low.
    let text = c.args.parsed.now.text.now in
    let name : c.part.result.now ≡ part_of text (word_at (type_at c.args.parsed.now.tables.now c.args.k).place c.in-Datatype.size) = c.part.ensures ∙ ap (λ (n : TypeNode). part_of text (word_at n.place c.in-Datatype.size)) c.type_at-node.ensures in
    let form : (type_at c.args.parsed.now.tables.now c.args.k).form ≡ type_form.Datatype c.in-Datatype.size = ap (λ (n : TypeNode). n.form) (sym c.type_at-node.ensures) ∙ c.in-Datatype.is in
    let none : c.find.result ≡ None = search rules in
    let is : c.from_residual.result ≡ Err c.refused.result = search rules in
    let others = subst (Finds c.part.result.now (names_in text c.args.declared.now.datatypes)) none (c.find.ensures.found datatypes.index) in
    subst (IsShape P (expr_at (types_listed script) c.args.k)) (sym is)
    (named_unknown text c.args.parsed.now.tables.now script laid c.args.k low P c.args.declared.now datatypes c.in-Datatype.size form (λ j at. others j (at ∙ ap Some (sym name)))
    ∙ ap refused (ap (λ (n : TypeNode). refused_at refusal.Unknown n.place) (sym c.type_at-node.ensures) ∙ sym c.refused.ensures))

pub returns-in-Function : goal.returns-in-Function
returns-in-Function c = λ P script laid datatypes low.
    function_shape c.args.parsed.now.text.now c.args.parsed.now.tables.now script laid c.args.k low P c.parts_of.result (ap (λ (n : TypeNode). n.form) (sym c.type_at-node.ensures) ∙ c.in-Function.is) (λ p ts t e. c.parts_of.ensures c.args.parsed.now.text.now script p ts t laid low e)
