use Rattle.std.proofs.Common.{refl, arith}
use Rattle.shelf.proofs.ShelfLaws.{less_none}
use Rattle.shelf.proofs.Shelf.new.Goals as goal

pub returns : goal.returns
returns g c =
    let s = g.S.CellStore in
    record { means = less_none 16 (s.cells c.args.below.now) (s.small c.args.below.now); empty = omega arith; lent = refl }
