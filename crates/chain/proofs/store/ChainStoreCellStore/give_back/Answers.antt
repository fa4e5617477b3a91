use Rattle.std.proofs.Common.{◌≡◌, ◌≤◌, set, is_some, None, Err, sym, refl, ap, subst, arith, rules}
use Rattle.chain.specs.declared.slots.ChainSlot.TheVariants.{Free}
use Rattle.chain.specs.Chains.{chain_cell}
use Rattle.cells.specs.Lent.{front, meant}
use Rattle.cells.specs.Meaning.{GivenBack}
use Rattle.cells.proofs.CellLaws.{live_some}
use Rattle.cells.proofs.Calls.{given_count, read_some, read_none}
use Rattle.cells.proofs.LentLaws.{front_length, front_set, kept_size, live_in_use, live_past, changed_slot}
use Rattle.chain.proofs.ChainSteps.{given_link}
use Rattle.chain.proofs.store.ChainStoreCellStore.give_back.Goals as goal

pub returns-in_err-read-clause-means : goal.returns-in_err-read-clause-means
returns-in_err-read-clause-means c =
    let cs = meant chain_cell c.args.self.now.slots.now in
    let e = c.in_err-read.field-0.0 in
    let is : c.from_residual.result ≡ Err e = search rules in
    subst (λ r. GivenBack cs c.args.cell r cs) (sym is) (read_none cs c.args.cell e (sym c.in_err-read.ensures))

pub bounds-self-cell : goal.bounds-self-cell
bounds-self-cell c =
    let s = c.args.self.now.slots.now in
    (live_in_use chain_cell s c.args.cell (ap is_some (read_some (meant chain_cell s) c.args.cell _ (sym c.in_ok-read.ensures)))).0

pub overflow_sub-self : goal.overflow_sub-self
overflow_sub-self c =
    let s = c.args.self.now in
    let cs = meant chain_cell s.slots.now in
    let live = ap is_some (read_some cs c.args.cell _ (sym c.in_ok-read.ensures)) in
    omega (arith, s.counted, live_some cs c.args.cell live)

pub invariant_of-self : goal.invariant_of-self
invariant_of-self c =
    let s = c.args.self.now in
    let x = Free s.free in
    let xs = front s.slots.now in
    let ys = front (set s.slots.now c.args.cell x) in
    let put = front_set s.slots.now c.args.cell x in
    let cs = meant chain_cell s.slots.now in
    let held = read_some cs c.args.cell _ (sym c.in_ok-read.ensures) in
    let some : 1 ≤ c.args.self.now.live = omega (arith, s.counted, live_some cs c.args.cell (ap is_some held)) in
    let given = changed_slot chain_cell xs c.args.cell x None ys (ap is_some held) put refl in
    let link = given_link xs s.capacity (front_length s.slots.now s.capacity s.sized) s.free s.live c.args.cell _ ys s.counted some s.linked held put in
    record {
      sized = kept_size s.slots.now s.capacity c.args.cell x s.sized;
      counted = omega (arith, s.counted, given_count given);
      linked = search rules;
    }

pub returns : goal.returns
returns c =
    let s = c.args.self.now in
    let x = Free s.free in
    let live = ap is_some (read_some (meant chain_cell s.slots.now) c.args.cell _ (sym c.in_ok-read.ensures)) in
    record {
      means = changed_slot chain_cell (front s.slots.now) c.args.cell x None (front (set s.slots.now c.args.cell x)) live (front_set s.slots.now c.args.cell x) refl;
      kept = record { same = refl; past = live_past chain_cell s.slots.now c.args.cell x live };
    }
