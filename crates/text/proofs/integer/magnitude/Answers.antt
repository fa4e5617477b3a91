use Rattle.std.proofs.Common.{◌+◌, ◌-◌, ◌*◌, get_or, drop, sym, ap, ◌∙◌, arith}
use Rattle.std.proofs.lemmas.List.{drop_all}
use Rattle.text.specs.Integers.{capped, decimal}
use Rattle.text.proofs.Digits.{digit_step, next_value, over, under}
use Rattle.text.proofs.integer.magnitude.Goals as goal

pub returns-in_err-checked_mul : goal.returns-in_err-checked_mul
returns-in_err-checked_mul c =
    let s = c.args.digits.now in
    let i = c.loop-d.d-index in
    let large = c.in_err-checked_mul.ensures in
    c.from_residual.ensures
    ∙ over (c.loop-d.n * 10 + (get_or s i 0 - 48)) (drop (i + 1) s) (omega arith)
    ∙ ap capped (sym (digit_step s i c.loop-d-test.true c.loop-d.n) ∙ c.loop-d.invariant.2)

pub returns-in_err-n : goal.returns-in_err-n
returns-in_err-n c =
    let s = c.args.digits.now in
    let i = c.loop-d.d-index in
    let large = c.in_err-n.ensures in
    c.from_residual-in_err-n.ensures
    ∙ over (c.loop-d.n * 10 + c.from.result) (drop (i + 1) s) (omega arith)
    ∙ ap capped (next_value s i c.loop-d-test.true c.loop-d.n c.loop-d.invariant.2 c.from.ensures)

pub returns : goal.returns
returns c = under _ (omega arith) ∙ ap capped (sym (ap (decimal c.loop-d.n) (drop_all c.loop-d.d-index c.args.digits.now c.loop-d-test.false)) ∙ c.loop-d.invariant.2)
