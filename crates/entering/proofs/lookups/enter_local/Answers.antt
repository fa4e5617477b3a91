use Rattle.std.proofs.Common.{sym, ap, ◌∙◌}
use Rattle.entering.proofs.Locals.{read}
use Rattle.machine.proofs.Names.{lost}
use Rattle.machine.proofs.Needs.{name_got, name_consumed}
use Rattle.machine.proofs.Resting.{entered, by_rule}
use Rattle.machine.specs.Holding.{kept}
use Rattle.machine.specs.Mirrors.{moved_any}
use Rattle.rules.specs.Steps.{enter_name}
use Rattle.stack.specs.Items.{tops}
use Rattle.entering.proofs.lookups.enter_local.Goals as goal

pub returns-in_err-value-clause-law : goal.returns-in_err-value-clause-law
returns-in_err-value-clause-law c = λ P Z m₀ m K env a e w p M at.
    let R = entered M in
    let l = lost w (tops c.args.machine.now.slots) env (kept K) c.args.depth R.full at (sym c.value_at.ensures ∙ c.in_err-value.ensures.ok_part) in
    by_rule (ap (enter_name P Z p w K env a) l ∙ name_consumed P Z K env a p w) moved_any

pub returns-clause-law : goal.returns-clause-law
returns-clause-law c = λ P Z m₀ m K env a e w p M at.
    let put = c.replace_at_depth.ensures in
    let x = c.left.ensures in
    let u = read (entered M) w c.args.depth c.in_ok-value.value c.replace_at_depth.new.self at (sym c.value_at.ensures ∙ c.in_ok-value.ensures.ok_part) put.room (cc) in
    by_rule (ap (enter_name P Z p w K env a) u.is ∙ name_got P Z K env a p w u.tree u.after) (c.finish.ensures.law P Z m₀ m _ K u.after a u.tree u.rests)
