use Rattle.std.proofs.Common.{◌+◌, inl, inr, ◌∷◌, sym, refl, ap, ◌∙◌, subst}
use Rattle.calling.proofs.Functions.{call_basis_rule, define_as, says_last}
use Rattle.calling.proofs.Plains.{answered_last}
use Rattle.calling.proofs.Spreads.{last_under, last_ripe}
use Rattle.calling.specs.Applying.{SaysApplied}
use Rattle.machine.proofs.Resting.{silent, by_printing}
use Rattle.machine.specs.Holding.{kept}
use Rattle.machine.specs.Mirrors.{Printed, printed_any, Under}
use Rattle.rules.specs.States.{argument}
use Rattle.rules.specs.Steps.{answer}
use Rattle.stack.specs.Items.{tops}
use Rattle.calling.proofs.calls.call.Goals as goal

pub returns-in-Ok-clause-law : goal.returns-in-Ok-clause-law
returns-in-Ok-clause-law c = λ P Z m₀ m s k K env a p es t top others M R stacked w here h room speaks.
    let f = c.in-Ok.basis in
    let rule = call_basis_rule P Z p c.args.function (k + 1) K (argument t ∷ env) a f (c.in-Ok.ensures.0) in
    let slots = tops c.args.machine.now.slots in
    elim (answered_last P Z f K a c.args.held k slots env (kept K) h R.full R.data_held) [
      | inl none ↦ by_printing (rule ∙ none) printed_any
      | inr o ↦ by_printing (rule ∙ (o.is ∙ ap (answer P Z f K o.left a) (sym c.applied_last-applied.ensures)))
          (c.conclude.ensures.law P Z m₀ m s K o.left a M (subst (λ n. Under P Z m₀ n K o.left a c.args.machine.now m) (sym c.count_of.ensures) (last_under R stacked w o))
          (subst (SaysApplied P c.args.machine.now.text.now) (sym c.applied_last-applied.ensures) (says_last P c.args.machine.now.text.now f c.args.held _ speaks R.data_held)))
    ]

pub returns-in_ok-push-in-Err-clause-law : goal.returns-in_ok-push-in-Err-clause-law
returns-in_ok-push-in-Err-clause-law c = λ P Z m₀ m s k K env a p es t top others M R stacked w here h room speaks.
    let pushed = c.in_ok-push-in-Err.ensures in
    define_as P Z p c.args.function (k + 1) K (argument t ∷ env) a (λ o. Printed P Z m₀ s c.args.out.now o c.unprinted.result c.enter_body.new.machine m c.args.out.now) c.in-Err.ensures.0
    (λ d is. silent c.unprinted.ensures.same refl (c.enter_body.ensures.law P Z m₀ m s (k + 1) K (argument t ∷ env) a p d (last_ripe R stacked w c.push.new.self pushed.room pushed.tops) here is)) printed_any
