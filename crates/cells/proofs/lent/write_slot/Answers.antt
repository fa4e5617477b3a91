use Rattle.std.proofs.Common.{◌≡◌, ◌<◌, drop, is_some, Some, Err, sym, refl, ap, ◌∙◌, subst, arith, rules}
use Rattle.cells.specs.Lent.{front, meant}
use Rattle.cells.specs.Meaning.{Written}
use Rattle.cells.proofs.Calls.{read_some, read_none}
use Rattle.cells.proofs.LentLaws.{changed_slot, front_set, live_past}
use Rattle.cells.proofs.lent.write_slot.Goals as goal

pub returns-in_err-read_slot-clause-means : goal.returns-in_err-read_slot-clause-means
returns-in_err-read_slot-clause-means g c =
    let cs = meant g.T.Slot.cell c.args.slots.now in
    let e = c.in_err-read_slot.field-0.0 in
    let is : c.from_residual.result ≡ Err e = search rules in
    subst (λ r. Written cs c.args.cell c.args.contents r cs) (sym is) (read_none cs c.args.cell e (sym c.in_err-read_slot.ensures))

pub returns-clause-means : goal.returns-clause-means
returns-clause-means g c =
    let s = c.args.slots.now in
    let f = g.T.Slot.cell in
    let live = ap is_some (read_some (meant f s) c.args.cell _ (sym c.in_ok-read_slot.ensures)) in
    let made : c.live.result ≡ g.T.Slot.holding c.args.contents = search c.live.ensures in
    changed_slot f (front s) c.args.cell c.live.result (Some c.args.contents) (front c.put_slot.new.slots) live (ap front c.put_slot.ensures ∙ front_set s c.args.cell c.live.result) (ap f made ∙ g.met.T.Slot.held c.args.contents)

pub returns-clause-past : goal.returns-clause-past
returns-clause-past g c =
    let s = c.args.slots.now in
    let f = g.T.Slot.cell in
    let live = ap is_some (read_some (meant f s) c.args.cell _ (sym c.in_ok-read_slot.ensures)) in
    ap (drop 65535) c.put_slot.ensures ∙ live_past f s c.args.cell c.live.result live
