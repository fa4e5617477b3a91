use Rattle.std.proofs.Common.{arith}
use Rattle.text.proofs.Runs.{plain_step, escaped_step}
use Rattle.text.proofs.bytes.symbol_len.Goals as goal

pub loop-n-preserved-in-Escape : goal.loop-n-preserved-in-Escape
loop-n-preserved-in-Escape c = let p = escaped_step c.args.s.now c.loop-n.n c.in-Escape.ensures in let step = p.1 in (omega arith, cc)

pub loop-n-preserved : goal.loop-n-preserved
loop-n-preserved c = let p = plain_step c.args.s.now c.loop-n.n c.in-Plain.ensures in let step = p.1 in (omega arith, cc)
