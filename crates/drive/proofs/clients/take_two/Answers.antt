use Rattle.std.proofs.Common.{◌≡◌, ◌≢◌, is_some, Some, None, ap, ◌∙◌, subst, arith}
use Rattle.cells.specs.Meaning.{at, Changed, GivenBack}
use Rattle.cells.proofs.Calls.{taken_live, taken_other, taken_count, given_ok}
use Rattle.cells.proofs.Pairs.{takes_apart, taken_given}
use Rattle.drive.proofs.clients.take_two.Goals as goal

pub returns-in-Ok : goal.returns-in-Ok
returns-in-Ok g c =
    let cs = g.S.CellStore.cells c.take-2.new.self in
    let first = c.in_ok-first.ensures in
    let second = c.in-Ok.ensures in
    let two : c.in_ok-first.first ≢ c.in-Ok.second = takes_apart first second in
    let here : at cs c.in_ok-first.first ≡ Some c.args.a = taken_other c.in_ok-first.first two second ∙ taken_live first in
    let there : at cs c.in-Ok.second ≡ Some c.args.b = taken_live second in
    (omega (arith, two), search here, search there, omega (arith, taken_count first, taken_count second))

pub returns-in-Err : goal.returns-in-Err
returns-in-Err g c =
    let cells = g.S.CellStore.cells in
    let i = c.in_ok-first.first in
    let first = c.in_ok-first.ensures in
    let full = c.in-Err.ensures in
    let live = ap is_some (ap (λ cs. at cs i) full.same ∙ taken_live first) in
    let given : GivenBack (cells c.take-2.new.self) i c.give_back.result (cells c.give_back.new.self) = search c.give_back.ensures in
    let back = given_ok (cells c.take-2.new.self) i c.give_back.result (cells c.give_back.new.self) live given in
    taken_given first (subst (λ cs. Changed cs i None (cells c.give_back.new.self)) full.same back)
