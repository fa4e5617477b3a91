use Rattle.cells.proofs.Calls.{take_keeps, write_keeps, give_back_keeps, take_capacity, write_capacity, give_back_capacity, taken_count, written_count, given_count, taken_not_live, taken_live, taken_ok, taken_refused}
use Rattle.cells.proofs.Pairs.{changes_commute, take_commutes}
use Rattle.cells.proofs.laws.laws_stand.Goals as goal

pub returns : goal.returns
returns c = record {
  untouched = record { by_take = take_keeps; by_write = write_keeps; by_give_back = give_back_keeps };
  counted = record {
    take_capacity = take_capacity;
    write_capacity = write_capacity;
    give_back_capacity = give_back_capacity;
    take_count = taken_count;
    write_count = written_count;
    give_back_count = given_count;
  };
  fresh = record { not_live = taken_not_live; holds = taken_live; room = taken_ok; no_room = taken_refused };
  commute = record { changes = changes_commute; take_and_change = take_commutes };
}
