use Rattle.std.proofs.Common.{ℕ, ◌+◌, ◌-◌, ◌*◌, List, length}
use Rattle.layout.specs.declared.node.Node.{Node}
use Rattle.bodies.proofs.expressions.+expression.Given as goal

-- each part has a higher number than what it is a part of, and a row ends at a number of 16 bits
abbrev left : List Node → ℕ → ℕ
left nodes i = 8 * (length nodes + 65536 - i)

abbrev pub decreases-apply_form : goal.decreases-apply_form
decreases-apply_form l = left l.world.now.nodes.now l.i + 1

abbrev pub decreases-arguments : goal.decreases-arguments
decreases-arguments l = left l.world.now.nodes.now l.i + 4

abbrev pub decreases-arm : goal.decreases-arm
decreases-arm l = left l.world.now.nodes.now l.i + 1

abbrev pub decreases-arms : goal.decreases-arms
decreases-arms l = left l.world.now.nodes.now l.i + 2

abbrev pub decreases-begin_form : goal.decreases-begin_form
decreases-begin_form l = left l.world.now.nodes.now l.i + 1

abbrev pub decreases-bindings : goal.decreases-bindings
decreases-bindings l = left l.world.now.nodes.now l.i + 1

abbrev pub decreases-call : goal.decreases-call
decreases-call l = left l.world.now.nodes.now l.i + 0

abbrev pub decreases-case_form : goal.decreases-case_form
decreases-case_form l = left l.world.now.nodes.now l.i + 1

abbrev pub decreases-construct : goal.decreases-construct
decreases-construct l = left l.world.now.nodes.now l.i + 0

abbrev pub decreases-expression : goal.decreases-expression
decreases-expression l = left l.world.now.nodes.now l.i + 3

abbrev pub decreases-if_form : goal.decreases-if_form
decreases-if_form l = left l.world.now.nodes.now l.i + 1

abbrev pub decreases-let_form : goal.decreases-let_form
decreases-let_form l = left l.world.now.nodes.now l.i + 1

abbrev pub decreases-row : goal.decreases-row
decreases-row l = left l.world.now.nodes.now l.i + 4
