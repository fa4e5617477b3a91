use Rattle.std.proofs.Common.{sym, ap, ◌∙◌}
use Rattle.entering.proofs.Locals.{dupped, undupped}
use Rattle.machine.proofs.Names.{lost}
use Rattle.machine.proofs.Needs.{dup_fits, dup_lacks, dup_consumed}
use Rattle.machine.proofs.Resting.{entered, entered_again, by_rule, faulted_as}
use Rattle.machine.specs.Holding.{kept}
use Rattle.machine.specs.Mirrors.{moved_any}
use Rattle.rules.specs.Faults.{walk_fault}
use Rattle.rules.specs.Steps.{dup_entered}
use Rattle.stack.specs.Items.{tops}
use Rattle.entering.proofs.lookups.enter_dup.Goals as goal

pub returns-in_err-value-clause-law : goal.returns-in_err-value-clause-law
returns-in_err-value-clause-law g c = λ P Z m₀ K env a e w M at.
    let R = entered M in
    let l = lost w (tops c.args.machine.now.slots) env (kept K) c.args.depth R.full at (sym c.value_at.ensures ∙ c.in_err-value.ensures.ok_part) in
    by_rule (ap (dup_entered P Z K env a) l ∙ dup_consumed P Z K env a) moved_any

pub returns-clause-law : goal.returns-clause-law
returns-clause-law g c = λ P Z m₀ K env a e w M at.
    let before = c.live_count-before.ensures in
    let after = c.live_count.ensures in
    let less = c.saturating_sub-count.ensures in
    let more = c.saturating_add-machine.ensures in
    let u = dupped (entered M) w c.args.depth c.in_ok-value.value c.in_ok-copy.copy _ c.saturating_add-machine.result at (sym c.value_at.ensures ∙ c.in_ok-value.ensures.ok_part) c.in_ok-copy.ensures (cc) in
    by_rule (ap (dup_entered P Z K env a) u.is ∙ dup_fits P Z K env a u.tree u.after u.fits) (c.finish.ensures.law P Z m₀ _ _ K env _ u.tree u.rests)

pub returns-in_err-copy-clause-law : goal.returns-in_err-copy-clause-law
returns-in_err-copy-clause-law g c = λ P Z m₀ K env a e w M at.
    let z = undupped (entered M) w c.args.depth c.in_ok-value.value c.in_err-copy.field-0.0 _ at (sym c.value_at.ensures ∙ c.in_ok-value.ensures.ok_part) c.in_err-copy.ensures in
    let u = z.1 in
    by_rule (ap (dup_entered P Z K env a) u.is ∙ dup_lacks P Z K env a u.tree u.after u.lacks)
    (faulted_as c.from_residual-in_err-copy.result c.from_residual-in_err-copy.ensures.1 (ap walk_fault z.0) (entered_again M u.rests))
