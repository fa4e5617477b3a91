use Rattle.std.proofs.Common.{◌<◌, length, sym, ap, ◌∙◌, subst, arith}
use Rattle.cells.specs.Meaning.{GivenBack}
use Rattle.shelf.specs.Shelves.{less}
use Rattle.shelf.proofs.ShelfLaws.{emptied, less_none, popped_back}
use Rattle.shelf.proofs.Shelf.clear.Goals as goal

pub loop-cell-preserved : goal.loop-cell-preserved
loop-cell-preserved g c =
    let s = c.loop-cell.self in
    let t = c.pop.new.self in
    let cells = g.S.CellStore.cells in
    let after = cells c.give_back.new.self in
    let p = c.in-Some.ensures in
    let within : c.pop.new.self.count < length c.loop-cell.self.kept = omega (arith, s.few, s.sixteen, p.0) in
    let gives : GivenBack (cells t.below.now) c.in-Some.cell c.give_back.result after = search c.give_back.ensures in
    let given = subst (λ below. GivenBack (cells below.now) c.in-Some.cell c.give_back.result after) p.3 gives in (
      popped_back s.kept t.kept t.count c.in-Some.cell (cells s.below.now) after c.give_back.result (g.S.CellStore.small s.below.now) within p.1 p.2 given
          ∙ c.loop-cell.invariant.0,
      ap (λ below. below.ghost_name) p.3 ∙ c.loop-cell.invariant.1,
    )

pub returns-clause-means : goal.returns-clause-means
returns-clause-means g c =
    let s = c.loop-cell.self in
    let cells = g.S.CellStore.cells in
    let below = cells s.below.now in
    let end = c.in_default.ensures in
    let none = emptied s.kept s.count (omega (arith, end.0)) s.bare in
    ap (λ shelf. cells shelf.below.now) end.1
    ∙ sym (ap (λ ks. less ks below) none ∙ less_none 16 below (g.S.CellStore.small s.below.now))
    ∙ c.loop-cell.invariant.0
