use borrow.Author.Tests.{tests}
use Rattle.std.proofs.Common.{◌≡◌, Err, rules}
use Rattle.data.proofs.Copying.{room_lacking, room_used, without_list}
use Rattle.data.proofs.copies.copy_value.Goals as goal

pub returns-in_err-has_room : goal.returns-in_err-has_room
returns-in_err-has_room g c =
    let answer : c.from_residual.result ≡ Err c.in_err-has_room.field-0.0 = search rules in
    rw answer (room_lacking c.in_err-has_room.ensures)

pub returns : goal.returns
returns g c =
    let does = c.copy_cells.ensures in
    room_used c.in_ok-has_room.ensures does.long does.keeps (without_list c.copy_cells.result c.map_err.result (search (rules, tests))) does.copies
