use Rattle.std.proofs.Common.{sym, refl, ap, ◌∙◌, subst}
use Rattle.calling.proofs.Functions.{call_basis_rule, define_as, says_none}
use Rattle.calling.proofs.Spreads.{bare_under, bare_ripe, bare_answer}
use Rattle.machine.proofs.Resting.{silent, by_printing}
use Rattle.machine.specs.Mirrors.{Printed, printed_any}
use Rattle.calling.specs.Applying.{SaysApplied}
use Rattle.rules.specs.Steps.{answer}
use Rattle.calling.proofs.calls.call_bare.Goals as goal

pub returns-in-Ok-clause-law : goal.returns-in-Ok-clause-law
returns-in-Ok-clause-law c = λ P Z m₀ m s K env a p es t top others M R stacked w here.
    by_printing (call_basis_rule P Z p c.args.function 0 K env a c.in-Ok.basis (c.in-Ok.ensures.0) ∙ (bare_answer P Z c.in-Ok.basis K env a ∙ ap (answer P Z c.in-Ok.basis K env a) (sym c.apply_none.ensures)))
    (c.conclude.ensures.law P Z m₀ m s K env a M (bare_under R stacked w) (subst (SaysApplied P c.args.machine.now.text.now) (sym c.apply_none.ensures) (says_none P c.args.machine.now.text.now c.in-Ok.basis)))

pub returns-in-Err-clause-law : goal.returns-in-Err-clause-law
returns-in-Err-clause-law c = λ P Z m₀ m s K env a p es t top others M R stacked w here.
    define_as P Z p c.args.function 0 K env a (λ o. Printed P Z m₀ s c.args.out.now o c.unprinted.result c.enter_body.new.machine m c.args.out.now) c.in-Err.ensures.0
    (λ d is. silent c.unprinted.ensures.same refl (c.enter_body.ensures.law P Z m₀ m s 0 K env a p d (bare_ripe R stacked w) here is)) printed_any
