use Rattle.std.proofs.Common.{Err, refl, sym, ◌∙◌}
use Rattle.handing.proofs.Views.{in_hand}
use Rattle.machine.proofs.Resting.{silent}
use Rattle.machine.specs.Mirrors.{Printed, printed_any}
use Rattle.rules.specs.Runs.{main_of}
use Rattle.rules.specs.States.{st, finished}
use Rattle.rules.specs.Steps.{step}
use Rattle.stepping.proofs.Literals.{speaks}
use Rattle.stepping.proofs.Turning.{on_opened, on_enter, on_finished, on_over, on_waiting, on_none}
use Rattle.stepping.specs.Speaking.{Spoken}
use Rattle.stepping.proofs.steps.step.Goals as goal

pub returns-in_err-frame-in-Finished-clause-law : goal.returns-in_err-frame-in-Finished-clause-law
unfolding step
returns-in_err-frame-in-Finished-clause-law g c = λ P Z m₀ s M S.
    on_finished (λ s. Spoken P s → Printed P Z m₀ s c.args.out.now (step P Z (main_of P) s) c.from_residual.result c.args.machine.now (g.S.CellStore.cells c.args.store.now) c.args.out.now) s M c.in-Finished.is
    (λ K env a t M S. on_none K (λ K. Printed P Z m₀ (st K env (finished t) a) c.args.out.now (step P Z (main_of P) (st K env (finished t) a)) c.from_residual.result c.args.machine.now (g.S.CellStore.cells c.args.store.now) c.args.out.now) M (sym c.top.ensures ∙ c.in_err-frame-in-Finished.ensures.ok_part)
    printed_any) S

pub returns-in-Opened-clause-law : goal.returns-in-Opened-clause-law
unfolding step
returns-in-Opened-clause-law g c = λ P Z m₀ s M S.
    on_opened (λ s. Printed P Z m₀ s c.args.out.now (step P Z (main_of P) s) c.unprinted.result c.call_main.new.machine (g.S.CellStore.cells c.args.store.now) c.args.out.now) s M c.in-Opened.is
    (λ K env a M. silent c.unprinted.ensures.same refl (c.call_main.ensures.law P Z m₀ (g.S.CellStore.cells c.args.store.now) K env a M))

pub returns-in-Enter-clause-law : goal.returns-in-Enter-clause-law
unfolding step
returns-in-Enter-clause-law g c = λ P Z m₀ s M S.
    on_enter (λ s. Printed P Z m₀ s c.args.out.now (step P Z (main_of P) s) c.unprinted-in-Enter.result c.enter.new.machine (g.S.CellStore.cells c.enter.new.store) c.args.out.now) s M c.in-Enter.is
    (λ K env a e M. silent c.unprinted-in-Enter.ensures.same refl (c.enter.ensures.law P Z m₀ K env a e M (search c.in-Enter.is)))

pub returns-in_ok-frame-in-Finished-clause-law : goal.returns-in_ok-frame-in-Finished-clause-law
unfolding step
returns-in_ok-frame-in-Finished-clause-law g c = λ P Z m₀ s M S.
    on_finished (λ s. Spoken P s
    → Printed P Z m₀ s c.args.out.now (step P Z (main_of P) s) c.hand.result c.hand.new.machine (g.S.CellStore.cells c.hand.new.store) c.hand.new.out) s M c.in-Finished.is
    (λ K env a t M S. on_waiting K (λ K. Printed P Z m₀ (st K env (finished t) a) c.args.out.now (step P Z (main_of P) (st K env (finished t) a)) c.hand.result c.hand.new.machine (g.S.CellStore.cells c.hand.new.store) c.hand.new.out) M c.in-Finished.is (sym c.top.ensures ∙ c.in_ok-frame-in-Finished.ensures.ok_part)
    (λ f K H. c.hand.ensures.law P Z m₀ f K env a t H (speaks P c.args.machine.now.text.now t (in_hand H.value H.mirrored).ready.quoted S.2))) S

pub returns-in-Over-clause-law : goal.returns-in-Over-clause-law
unfolding step
returns-in-Over-clause-law g c = λ P Z m₀ s M S. on_over (λ s. Printed P Z m₀ s c.args.out.now (step P Z (main_of P) s) (Err c.from.result) c.args.machine.now (g.S.CellStore.cells c.args.store.now) c.args.out.now) s M c.in-Over.is (λ K env a. printed_any)
