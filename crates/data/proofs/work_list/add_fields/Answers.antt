use Rattle.std.proofs.Common.{◌≡◌, Ok, Err, refl, rules}
use Rattle.std.proofs.lemmas.List.{nil_from_length}
use Rattle.cells.specs.Records.{row}
use Rattle.data.specs.declared.refusals.WalkRefusal.TheVariants.{Stuck}
use Rattle.data.specs.Steps.{RowSteps}
use Rattle.data.proofs.Lists.{rows_law}
use Rattle.data.proofs.Walking.{adding_start, adding_turn, adding_end, adding_halted, stuck_answer}
use Rattle.data.proofs.work_list.add_fields.Goals as goal

pub loop-field-init : goal.loop-field-init
loop-field-init g c =
    let e : c.into_iter-field-iterator.result.iter.rest.now ≡ row c.args.contents = let a = c.into_iter-field-iterator.ensures.into_iter_gives in let b = c.rev-field-items.ensures.source in let d = c.iter.ensures.rest in cc in
    adding_start _ _ _ e

pub returns-in_err-todo : goal.returns-in_err-todo
returns-in_err-todo g c =
    let cells = g.S.CellStore.cells in
    let lost = c.in_err-todo.ensures.steps in
    let r = stuck_answer c.from_residual.result c.from_residual.ensures.0 (search rules) in
    let does : RowSteps (cells c.args.store.now) (row c.args.contents) c.args.rest (Err Stuck) (cells c.add_field.new.store) = (refl, adding_halted lost.1 lost.2 c.loop-field.invariant) in
    rw r record { steps = does; law = rows_law (Err Stuck) does }

pub loop-field-preserved : goal.loop-field-preserved
loop-field-preserved g c = adding_turn c.in-Some.ensures.steps c.in_ok-todo.ensures.steps c.loop-field.invariant

pub returns : goal.returns
returns g c = let does = adding_end (nil_from_length _ c.in-None.ensures.steps.0) c.loop-field.invariant in record { steps = does; law = rows_law (Ok c.loop-field.todo) does }
