use Rattle.std.proofs.Common.{sym, ap, ◌∙◌}
use Rattle.globals.proofs.TypeShapes.{function_result}
use Rattle.layout.specs.declared.type_node.TypeNode.{TypeNode}
use Rattle.globals.proofs.resolving.result_row.Goals as goal

pub returns-in-Function : goal.returns-in-Function
returns-in-Function c = λ text script laid low.
    function_result text c.args.tables.now script laid c.args.k low c.parts_of.result (ap (λ (n : TypeNode). n.form) (sym c.type_at.ensures) ∙ c.in-Function.is) (λ p ts t e. c.parts_of.ensures text script p ts t laid low e)
