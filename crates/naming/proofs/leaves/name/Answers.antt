use Rattle.std.proofs.Common.{sym, ◌∙◌}
use Rattle.naming.specs.Judges.{desk}
use Rattle.naming.proofs.LeafLaws.{name_consumed, name_local, name_global}
use Rattle.naming.proofs.leaves.name.Goals as goal

pub returns-then-is_marked-clause-answers : goal.returns-then-is_marked-clause-answers
returns-then-is_marked-clause-answers c script e set ready code =
    name_consumed c.args.world.now script set (desk c.args.scope.now c.args.locals.now) ready c.args.i c.args.size c.node_at-node.result c.part-name.result.now c.node_at-node.ensures c.part-name.ensures
    c.in-Some.k c.refused.result code c.in-Some.ensures (sym c.is_marked.ensures ∙ c.if-is_marked.true) c.refused.ensures

pub returns-clause-answers : goal.returns-clause-answers
returns-clause-answers c script e set ready code =
    name_local c.args.world.now script set (desk c.args.scope.now c.args.locals.now) ready c.args.i c.args.size c.node_at-node.result c.part-name.result.now c.node_at-node.ensures c.part-name.ensures
    c.in-Some.k c.args.height c.distance.result c.args.codes.now c.note.new.codes c.local_at-local.result (desk c.consume.new.scope c.args.locals.now) code c.in-Some.ensures (sym c.is_marked.ensures ∙ c.if-is_marked.false) c.local_at-local.ensures c.distance.ensures
    c.note.ensures (cc (c.consume.ensures.depth, c.consume.ensures.marks))

pub returns-in_default-clause-answers : goal.returns-in_default-clause-answers
returns-in_default-clause-answers c script e set ready code =
    name_global c.args.world.now script set (desk c.args.scope.now c.args.locals.now) ready c.args.i c.args.size c.node_at-node.result c.part-name.result.now c.node_at-node.ensures c.part-name.ensures
    c.args.height c.args.codes.now c.global_name.new.codes c.global_name.result code c.in_default.ensures (c.global_name.ensures script set)
