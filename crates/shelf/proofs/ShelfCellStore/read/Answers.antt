use Rattle.std.proofs.Common.{sym, ap}
use Rattle.std.specs.Option.{ok_or}
use Rattle.cells.specs.declared.refusals.StoreRefusal.TheVariants.{DeadCell}
use Rattle.shelf.proofs.ShelfLaws.{at_among, at_beside}
use Rattle.shelf.proofs.ShelfCellStore.read.Goals as goal

pub returns-then-has : goal.returns-then-has
returns-then-has g c =
    let s = c.args.self.now in
    sym (ap (λ o. ok_or o DeadCell) (at_among s.kept (g.S.CellStore.cells s.below.now) c.args.cell (sym c.if-has.ensures)))

pub returns : goal.returns
returns g c =
    let s = c.args.self.now in
    let beside = ap (λ o. ok_or o DeadCell) (at_beside s.kept (g.S.CellStore.cells s.below.now) c.args.cell (sym c.if-has.ensures)) in
    cc (c.read.ensures, beside)
