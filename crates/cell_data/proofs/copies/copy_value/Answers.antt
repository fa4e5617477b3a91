use Rattle.std.proofs.Common.{◌≡◌, Err, length, is_ok, refl, ap, ◌∙◌, rules}
use Rattle.std.proofs.lemmas.Bool.{true≢false}
use Rattle.data.specs.Standing.{less}
use Rattle.data.specs.Steps.{Links}
use Rattle.data.proofs.Copying.{told_ok, told_err, room_lacking, room_used}
use Rattle.cell_data.proofs.copies.copy_value.Goals as goal

pub returns-in_err-has_room : goal.returns-in_err-has_room
returns-in_err-has_room g c =
    let answer : c.from_residual.result ≡ Err c.in_err-has_room.field-0.0 = search rules in
    rw answer (record { copy = room_lacking c.in_err-has_room.ensures; refused = λ e. c.in_err-has_room.ensures.same })

pub returns-in-Ok : goal.returns-in-Ok
returns-in-Ok g c =
    let does = c.in-Ok.ensures in
    record { copy = search (room_used c.in_ok-has_room.ensures does.long does.keeps told_ok does.copies); refused = λ e. absurd (true≢false (ap is_ok e)) }

-- what the copy left is given back: its two lists, one after the other
pub returns-in-Err : goal.returns-in-Err
returns-in-Err g c =
    let cells = g.S.CellStore.cells in
    let room = c.in_ok-has_room.ensures in
    let does = c.in-Err.ensures in
    let lists = does.left refl in
    let first = c.give_list.ensures lists.ns lists.waiting in
    let waits : Links (cells c.give_list.new.store) c.in-Err.left.finished lists.ds = rw first lists.finished in
    let second = c.give_list-in-Err.ensures lists.ds (search waits) in
    let back : cells c.give_list-in-Err.new.store ≡ cells c.has_room.new.store = second ∙ (ap (less lists.ds) first ∙ lists.rest) in
    record { copy = room_used room (ap length back) (λ i r h. rw back h) (told_err {u = c.in-Err.left}) does.copies; refused = λ e. rw back room.same }
