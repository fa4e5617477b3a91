use Rattle.std.proofs.Common.{Ok, Err, refl, rules}
use Rattle.data.specs.declared.refusals.WalkRefusal.TheVariants.{Stuck}
use Rattle.data.specs.Steps.{ValuePushed, push_nothing, push_data}
use Rattle.data.proofs.Spares.{alike_put}
use Rattle.data.proofs.Lists.{push_law}
use Rattle.data.proofs.Copying.{not_cell}
use Rattle.data.proofs.Walking.{stuck_answer}
use Rattle.data.proofs.work_list.push.Goals as goal

pub returns-in_default : goal.returns-in_default
returns-in_default g c = record { steps = push_nothing (not_cell _ c.in_default.not-Cell) refl refl; law = push_law (Ok c.args.head) (push_nothing (not_cell _ c.in_default.not-Cell) refl refl) }

pub returns-in_err-contents-clause-law : goal.returns-in_err-contents-clause-law
returns-in_err-contents-clause-law g c =
    let r = stuck_answer c.from_residual.result c.from_residual.ensures.0 (search rules) in
    rw r (push_law (Err Stuck) (refl, refl, record { number = c.in-Cell.number; is = c.in-Cell.is; dead = c.in_err-contents.ensures.1 }))

pub returns : goal.returns
returns g c =
    let put = c.with_spare.ensures in
    let seen = c.in_ok-contents.ensures in
    let does : ValuePushed (g.S.CellStore.cells c.args.store.now) c.args.value c.args.head c.in-Cell.number (g.S.CellStore.cells c.write.new.self) =
    push_data c.in_ok-contents.contents c.with_spare.result c.in-Cell.is seen.1 seen.0 (alike_put put) (let e = put.spare_is in cc) c.in_ok-write.ensures.after in
    record { steps = does; law = push_law (Ok c.in-Cell.number) does }
