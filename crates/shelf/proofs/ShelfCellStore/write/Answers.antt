use Rattle.std.proofs.Common.{sym, refl, rules}
use Rattle.shelf.proofs.ShelfLaws.{dead_among, written_beside}
use Rattle.shelf.proofs.ShelfCellStore.write.Goals as goal

pub returns-then-has : goal.returns-then-has
returns-then-has g c =
    let s = c.args.self.now in
    record { means = dead_among s.kept (g.S.CellStore.cells s.below.now) c.args.cell (sym c.if-has.ensures); same = refl; lent = refl }

pub returns : goal.returns
returns g c =
    let s = c.args.self.now in
    let cells = g.S.CellStore.cells in
    record {
      means = written_beside s.kept (cells s.below.now) (cells c.write.new.self) c.args.cell c.args.contents c.write.result (sym c.if-has.ensures) (search rules);
      same = refl;
      lent = refl;
    }
