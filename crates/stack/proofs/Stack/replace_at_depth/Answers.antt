use Rattle.std.proofs.Common.{◌≡◌, ◌-◌, ◌<◌, length, arith, length-take}
use lib.Seq.{take-set-lt}
use Rattle.stack.specs.Items.{items, slice_of}
use Rattle.stack.proofs.Lists.{reverse_set}
use Rattle.stack.proofs.Stack.replace_at_depth.Goals as goal

pub returns-clause-items : goal.returns-clause-items
returns-clause-items g c =
    let s = c.args.self.now in
    let cut = length-take s.len (slice_of s) in
    let i = c.len-n.result - 1 - c.args.depth in
    let here : i ≡ length (items s) - 1 - c.args.depth = omega arith in
    let low : i < s.len = omega arith in
    let written = take-set-lt s.len (slice_of s) i c.args.x low in
    cc

pub returns-clause-tops : goal.returns-clause-tops
returns-clause-tops g c =
    let s = c.args.self.now in
    let cut = length-take s.len (slice_of s) in
    let i = c.len-n.result - 1 - c.args.depth in
    let low : i < s.len = omega arith in
    let written = take-set-lt s.len (slice_of s) i c.args.x low in
    let back = reverse_set (items s) i c.args.depth c.args.x (omega arith) in
    cc
