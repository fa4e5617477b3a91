use Rattle.std.proofs.Common.{◌≡◌, Err, sym, ap, ◌∙◌, subst}
use Rattle.std.specs.Option.{ok_or}
use Rattle.std.proofs.lemmas.Result.{err_from_is_err_and}
use Rattle.basis.specs.Printing.{printed}
use Rattle.calling.proofs.Exchange.{fits, fits_not}
use Rattle.data.specs.Standing.{plain_unit}
use Rattle.data.specs.Trees.{unit}
use Rattle.machine.proofs.Resting.{with_plain, then, by_printing}
use Rattle.machine.specs.Mirrors.{Printed, printed_on, printed_full, mirrors}
use Rattle.machine.specs.Waiting.{next_finished}
use Rattle.machine.specs.declared.control.Control.TheVariants.{Finished}
use Rattle.machine.specs.declared.halt.Halt.TheVariants.{OutputFull}
use Rattle.cells.specs.declared.values.Value.TheVariants.{Unit as Nothing}
use Rattle.rules.specs.States.{st, finished}
use Rattle.rules.specs.Steps.{goes}
use Rattle.calling.proofs.concluding.put.Goals as goal

pub returns-clause-law : goal.returns-clause-law
returns-clause-law c = λ P Z m₀ m s K env a M U says.
    let out = c.args.out.now in
    let f = fits (printed c.args.print c.body_of-body.result.now) out c.in_ok-size.size (sym c.in_ok-size.ensures.ok_part ∙ c.write_print.ensures.count) in
    by_printing (ap (λ b. goes (printed c.args.print b) (st K env (finished unit) a)) (sym (c.body_of-body.ensures P says)))
    (printed_on f.size f.within (c.write_print.ensures.after ∙ f.after)
    (mirrors (then (with_plain (c.uncover.ensures.law P Z m₀ m K env a U) plain_unit) (Finished Nothing)) next_finished))

pub returns-in_err-size-clause-law : goal.returns-in_err-size-clause-law
returns-in_err-size-clause-law c = λ P Z m₀ m s K env a M U says.
    let out = c.args.out.now in
    let refused = c.in_err-size.ensures in
    let f = fits_not (printed c.args.print c.body_of-body.result.now) out (sym refused.ok_part ∙ c.write_print.ensures.count) in
    let e = err_from_is_err_and c.from_residual.result c.from_residual.ensures.1 in
    let is = refused.value ∙ ap (λ o. ok_or o OutputFull) refused.ok_part in
    let full : c.in_err-size.field-0.0 ≡ OutputFull = cc in
    by_printing (ap (λ b. goes (printed c.args.print b) (st K env (finished unit) a)) (sym (c.body_of-body.ensures P says)))
    (subst (λ t. Printed P Z m₀ s out (goes (printed c.args.print c.body_of-body.result.now) (st K env (finished unit) a)) t c.args.machine.now m c.write_print.new.out) (sym (e.1 ∙ ap Err (e.2 ∙ full)))
    (printed_full f.0 (c.write_print.ensures.after ∙ f.1) M))
