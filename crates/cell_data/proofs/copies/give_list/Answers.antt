use Rattle.std.proofs.Common.{arith}
use Rattle.cells.proofs.Calls.{given_count}
use Rattle.cell_data.proofs.Giving.{giving_turn}
use Rattle.cell_data.proofs.copies.give_list.Goals as goal

pub walk-smaller : goal.walk-smaller
walk-smaller g c = omega (arith, given_count c.in-Ok-give_back.ensures)

pub walk-preserved : goal.walk-preserved
walk-preserved g c = giving_turn c.in-Ok.contents c.walk-test.true c.in-Ok.ensures.0 c.in-Ok-give_back.ensures.after c.walk.invariant
