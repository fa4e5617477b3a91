use Rattle.std.proofs.Common.{◌≡◌, ◌<◌, min, length, Some, sym, refl, ap, ◌∙◌, arith}
use Rattle.std.specs.Option.{option_copied}
use Rattle.cells.specs.Lent.{front}
use Rattle.cells.proofs.LentLaws.{front_length, front_read, read_live, read_dead, read_past}
use Rattle.cells.proofs.lent.read_slot.Goals as goal

pub returns-then-cell-used : goal.returns-then-cell-used
returns-then-cell-used g c =
    let s = c.args.slots.now in
    read_past g.T.Slot.cell (front s) c.args.cell (omega (arith, c.if-cell-used.true, c.min-used.ensures, front_length s (min (length s) 65535) refl))

pub returns-in-Some : goal.returns-in-Some
returns-in-Some g c =
    let s = c.args.slots.now in
    let got = front_read s (min (length s) 65535) c.args.cell _ refl (omega (arith, c.if-cell-used.false, c.min-used.ensures)) ∙ ap Some (sym c.index-slots-cell.is) in
    read_live g.T.Slot.cell (front s) c.args.cell _ _ got (sym c.record.ensures ∙ ap option_copied c.in-Some.is)

pub returns-in-None : goal.returns-in-None
returns-in-None g c =
    let s = c.args.slots.now in
    let got = front_read s (min (length s) 65535) c.args.cell _ refl (omega (arith, c.if-cell-used.false, c.min-used.ensures)) ∙ ap Some (sym c.index-slots-cell.is) in
    search (read_dead g.T.Slot.cell (front s) c.args.cell _ got (sym c.record.ensures ∙ ap option_copied c.in-None.is))
