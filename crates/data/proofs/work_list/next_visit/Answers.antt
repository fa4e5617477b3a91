use Rattle.std.proofs.Common.{refl, rules}
use Rattle.data.proofs.Walking.{stuck_answer, lost_next}
use Rattle.data.proofs.work_list.next_visit.Goals as goal

pub returns-in_err-contents : goal.returns-in_err-contents
returns-in_err-contents g c =
    let r = stuck_answer c.from_residual.result c.from_residual.ensures.0 (search rules) in
    rw r (refl, lost_next c.args.todo (rw c.next_cell-cell.ensures at c.in_err-contents.ensures.1))
