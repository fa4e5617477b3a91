use Rattle.std.proofs.Common.{Ok, Err, refl, ap, rules}
use Rattle.cells.specs.Values.{is_cell}
use Rattle.data.specs.declared.refusals.WalkRefusal.TheVariants.{Stuck}
use Rattle.data.specs.Steps.{add_nothing}
use Rattle.data.proofs.Copying.{not_cell}
use Rattle.data.proofs.Lists.{add_law}
use Rattle.data.proofs.Walking.{field_put, stuck_answer}
use Rattle.data.proofs.work_list.add_field.Goals as goal

pub returns-in_err-rest-in-Cell-clause-law : goal.returns-in_err-rest-in-Cell-clause-law
returns-in_err-rest-in-Cell-clause-law g c =
    let lost = c.in_err-rest-in-Cell.ensures.steps in
    let r = stuck_answer c.from_residual.result c.from_residual.ensures.0 (search rules) in
    rw r (add_law (Err Stuck) (refl, lost.1, lost.2))

pub returns-in_ok-rest-in-Cell : goal.returns-in_ok-rest-in-Cell
returns-in_ok-rest-in-Cell g c =
    let does = field_put (ap is_cell c.in-Cell.is) refl refl c.in_ok-rest-in-Cell.ensures.steps in
    record { steps = search does; law = add_law (Ok record { value = c.args.field; rest = c.in_ok-rest-in-Cell.rest }) does }

pub returns-in_default : goal.returns-in_default
returns-in_default g c =
    let plain = not_cell _ c.in_default.not-Cell in
    record { steps = add_nothing plain refl refl refl; law = add_law (Ok c.args.todo) (add_nothing plain refl refl refl) }
