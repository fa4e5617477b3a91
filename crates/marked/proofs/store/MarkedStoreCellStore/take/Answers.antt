use Rattle.std.proofs.Common.{◌+◌, ◌≤◌, set, Some, refl, arith, rules}
use Rattle.cells.proofs.CellLaws.{count_full}
use Rattle.cells.proofs.Calls.{taken_count, taken_room}
use Rattle.cells.specs.Lent.{front, meant, meant_small}
use Rattle.marked.specs.Marks.{marked_cell}
use Rattle.cells.proofs.LentLaws.{front_length, front_set, kept_past, kept_size, meant_length}
use Rattle.marked.proofs.MarkLaws.{all_marked, taken_mark}
use Rattle.marked.proofs.store.MarkedStoreCellStore.take.Goals as goal

pub returns-then-self : goal.returns-then-self
returns-then-self c =
    let s = c.args.self.now in
    record {
      means = record {
        number = refl;
        same = refl;
        full = λ k h. count_full (meant marked_cell s.slots.now) k (omega (arith, s.counted, meant_length marked_cell s.slots.now s.capacity s.sized, c.if-self.true)) h;
      };
      kept = record { same = refl; past = refl };
    }

pub overflow_cast-found : goal.overflow_cast-found
overflow_cast-found c =
    let s = c.args.self.now in
    let long = front_length s.slots.now s.capacity s.sized in
    let b : c.in-Some.found ≤ 65535 = omega (arith, s.sized, long, c.in-Some.ensures.0) in
    search rules

pub offset_bounds-self-found : goal.offset_bounds-self-found
offset_bounds-self-found c =
    let s = c.args.self.now in
    let long = front_length s.slots.now s.capacity s.sized in
    let b : c.in-Some.found ≤ 65535 = omega (arith, s.sized, long, c.in-Some.ensures.0) in
    search rules

pub bounds-self-found : goal.bounds-self-found
bounds-self-found c =
    let s = c.args.self.now in
    let long = front_length s.slots.now s.capacity s.sized in
    omega (arith, s.sized, long, c.in-Some.ensures.0)

pub overflow_add-self-2 : goal.overflow_add-self-2
overflow_add-self-2 c =
    let s = c.args.self.now in
    let long = front_length s.slots.now s.capacity s.sized in
    let b : c.in-Some.found + 1 ≤ 65535 = omega (arith, s.sized, long, c.in-Some.ensures.0) in
    search rules

pub overflow_add-self : goal.overflow_add-self
overflow_add-self c =
    let s = c.args.self.now in
    let t = set s.slots.now c.in-Some.found (Some c.args.contents) in
    let free = c.in-Some.ensures in
    let taken = taken_mark (front s.slots.now) c.in-Some.found c.args.contents (front t) free (front_set s.slots.now c.in-Some.found (Some c.args.contents)) in
    let b : c.args.self.now.live + 1 ≤ 65535 = omega (arith, s.counted, taken_room taken (meant_small marked_cell t)) in
    search rules

pub invariant_of-self : goal.invariant_of-self
invariant_of-self c =
    let s = c.args.self.now in
    let t = set s.slots.now c.in-Some.found (Some c.args.contents) in
    let free = c.in-Some.ensures in
    let taken = taken_mark (front s.slots.now) c.in-Some.found c.args.contents (front t) free (front_set s.slots.now c.in-Some.found (Some c.args.contents)) in
    record {
      sized = kept_size s.slots.now s.capacity c.in-Some.found (Some c.args.contents) s.sized;
      counted = omega (arith, s.counted, taken_count taken);
      inside = omega (arith, free.0, front_length s.slots.now s.capacity s.sized);
    }

pub unreachable-requires : goal.unreachable-requires
unreachable-requires c =
    let s = c.args.self.now in
    let none = c.in_default.ensures in
    c.if-self.false (omega (arith, s.counted, all_marked (front s.slots.now) none, front_length s.slots.now s.capacity s.sized))

pub returns : goal.returns
returns c =
    let s = c.args.self.now in
    let t = set s.slots.now c.in-Some.found (Some c.args.contents) in
    let free = c.in-Some.ensures in
    record {
      means = taken_mark (front s.slots.now) c.in-Some.found c.args.contents (front t) free (front_set s.slots.now c.in-Some.found (Some c.args.contents));
      kept = record { same = refl; past = kept_past s.slots.now s.capacity c.in-Some.found (Some c.args.contents) s.sized (omega (arith, free.0, front_length s.slots.now s.capacity s.sized)) };
    }
