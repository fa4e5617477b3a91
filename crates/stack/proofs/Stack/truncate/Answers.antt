use Rattle.std.proofs.Common.{◌≡◌, ◌∙◌, take, reverse, ap, arith}
use Rattle.std.proofs.lemmas.Grind.{common_steps}
use Rattle.stack.specs.Items.{items, slice_of}
use Rattle.stack.proofs.Lists.{reverse_take}
use Rattle.stack.proofs.Stack.truncate.Goals as goal

pub returns-clause-tops : goal.returns-clause-tops
returns-clause-tops g c =
    let s = c.args.self.now in
    let kept : take c.min-self.result (slice_of s) ≡ take c.args.len (items s) = grind (arith, common_steps) in
    ap reverse kept ∙ reverse_take c.args.len (items s)
