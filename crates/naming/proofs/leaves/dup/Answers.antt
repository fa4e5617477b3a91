use Rattle.std.proofs.Common.{◌≡◌, ◌-◌, ◌≤◌, sym, ◌∙◌, rules}
use Rattle.naming.specs.Judges.{desk}
use Rattle.naming.proofs.LeafLaws.{dup_consumed, dup_local_rule, dup_refused}
use Rattle.naming.proofs.leaves.dup.Goals as goal

pub returns-then-is_marked : goal.returns-then-is_marked
returns-then-is_marked c script e set ready code =
    dup_consumed c.args.world.now script set (desk c.args.scope.now c.args.locals.now) ready c.args.i c.node_at-node.result c.args.word c.part-name.result.now c.node_at-node.ensures c.part-name.ensures
    c.in-Some.k c.refused.result code c.in-Some.ensures (sym c.is_marked.ensures ∙ c.if-is_marked.true) c.refused.ensures

pub returns : goal.returns
returns c script e set ready code =
    let far : c.args.height ≤ 65536 → c.distance.result ≡ c.args.height - 1 - c.local_at-local.result.height = search rules in
    dup_local_rule c.args.world.now script set (desk c.args.scope.now c.args.locals.now) ready c.args.i c.node_at-node.result c.args.word c.part-name.result.now c.node_at-node.ensures c.part-name.ensures
    c.in-Some.k c.args.height c.distance.result c.args.codes.now c.note.new.codes c.local_at-local.result code c.in-Some.ensures (sym c.is_marked.ensures ∙ c.if-is_marked.false) c.local_at-local.ensures far
    c.note.ensures

pub returns-in_default : goal.returns-in_default
returns-in_default c script e set ready code =
    dup_refused c.args.world.now script set (desk c.args.scope.now c.args.locals.now) ready c.args.i c.node_at-node.result c.args.word c.part-name.result.now c.node_at-node.ensures c.part-name.ensures
    c.no_dup.result code c.in_default.ensures (c.no_dup.ensures script set)
