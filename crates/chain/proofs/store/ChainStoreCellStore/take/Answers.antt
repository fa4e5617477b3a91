use Rattle.std.proofs.Common.{◌+◌, ◌≤◌, set, Some, refl, ap, ◌∙◌, arith, rules}
use Rattle.std.proofs.lemmas.Option.{slice_get_past}
use Rattle.chain.specs.declared.slots.ChainSlot.TheVariants.{Live}
use Rattle.chain.specs.Chains.{chain_cell}
use Rattle.cells.specs.Lent.{front, meant_small}
use Rattle.cells.proofs.Calls.{taken_count, taken_room}
use Rattle.cells.proofs.LentLaws.{front_length, front_read, front_set, kept_past, kept_size, taken_slot}
use Rattle.chain.proofs.ChainSteps.{full_chain, head_free, taken_link}
use Rattle.chain.proofs.store.ChainStoreCellStore.take.Goals as goal

pub returns-then-head-self : goal.returns-then-head-self
returns-then-head-self c =
    let s = c.args.self.now in
    let long = front_length s.slots.now s.capacity s.sized in
    record {
      means = full_chain (front s.slots.now) s.capacity long s.free s.live s.counted s.linked (slice_get_past (front s.slots.now) s.free (omega (arith, long, c.if-head-self.true)));
      kept = record { same = refl; past = refl };
    }

pub overflow_add-self : goal.overflow_add-self
overflow_add-self c =
    let s = c.args.self.now in
    let x = Live c.args.contents in
    let got = front_read s.slots.now s.capacity s.free _ s.sized c.if-head-self.false ∙ ap Some c.in-Free.is in
    let taken = taken_slot chain_cell (front s.slots.now) s.free _ x c.args.contents (front (set s.slots.now s.free x)) got refl (front_set s.slots.now s.free x) refl in
    let b : c.args.self.now.live + 1 ≤ 65535 = omega (arith, s.counted, taken_room taken (meant_small chain_cell (set s.slots.now s.free x))) in
    search rules

pub invariant_of-self : goal.invariant_of-self
invariant_of-self c =
    let s = c.args.self.now in
    let x = Live c.args.contents in
    let ys = front (set s.slots.now s.free x) in
    let put = front_set s.slots.now s.free x in
    let got = front_read s.slots.now s.capacity s.free _ s.sized c.if-head-self.false ∙ ap Some c.in-Free.is in
    let taken = taken_slot chain_cell (front s.slots.now) s.free _ x c.args.contents ys got refl put refl in
    let link = taken_link (front s.slots.now) s.capacity (front_length s.slots.now s.capacity s.sized) s.free s.live _ x ys s.linked got put in
    record {
      sized = kept_size s.slots.now s.capacity s.free x s.sized;
      counted = omega (arith, s.counted, taken_count taken);
      linked = search rules;
    }

pub unreachable-requires : goal.unreachable-requires
unreachable-requires c =
    let s = c.args.self.now in
    let got = front_read s.slots.now s.capacity s.free _ s.sized c.if-head-self.false in
    head_free (front s.slots.now) s.capacity (front_length s.slots.now s.capacity s.sized) s.free s.live _ c.in_default.not-Free s.linked got

pub returns : goal.returns
returns c =
    let s = c.args.self.now in
    let x = Live c.args.contents in
    let got = front_read s.slots.now s.capacity s.free _ s.sized c.if-head-self.false ∙ ap Some c.in-Free.is in
    record {
      means = taken_slot chain_cell (front s.slots.now) s.free _ x c.args.contents (front (set s.slots.now s.free x)) got refl (front_set s.slots.now s.free x) refl;
      kept = record { same = refl; past = kept_past s.slots.now s.capacity s.free x s.sized c.if-head-self.false };
    }
