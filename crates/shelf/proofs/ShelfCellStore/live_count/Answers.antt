use Rattle.std.proofs.Common.{◌<◌, length, get_or, is_ok, sym, ap, ◌∙◌, arith}
use Rattle.std.proofs.lemmas.List.{take_all}
use Rattle.std.proofs.lemmas.Bool.{true≢false}
use Rattle.cells.specs.Meaning.{count_live, at}
use Rattle.cells.proofs.Calls.{read_live}
use Rattle.shelf.specs.Shelves.{less}
use Rattle.shelf.proofs.ShelfLaws.{count_live_law, count_dead, not_live}
use Rattle.shelf.proofs.ShelfCellStore.live_count.Goals as goal
use Rattle.shelf.proofs.ShelfCellStore.live_count.Goals.{then-is_ok, else-is_ok}

pub overflow_sub-live : goal.overflow_sub-live
overflow_sub-live g c =
    let s = c.args.self.now in
    let cs = g.S.CellStore.cells s.below.now in
    let i = c.loop-cell.cell-index in
    let within : c.loop-cell.cell-index < length c.args.self.now.kept = omega (arith, s.sixteen, c.loop-cell-test.true) in
    let live = sym (read_live cs (get_or s.kept i 0)) ∙ ap is_ok (sym c.read.ensures) ∙ sym c.if-is_ok.ensures.value in
    omega (arith, c.loop-cell.invariant, count_live_law s.kept i cs (g.S.CellStore.small s.below.now) within s.once live)

pub loop-cell-preserved : goal.loop-cell-preserved
loop-cell-preserved g c =
    let s = c.args.self.now in
    let cs = g.S.CellStore.cells s.below.now in
    let i = c.loop-cell.cell-index in
    let k = get_or s.kept i 0 in
    let within : c.loop-cell.cell-index < length c.args.self.now.kept = omega (arith, s.sixteen, c.loop-cell-test.true) in
    let is = sym (read_live cs k) ∙ ap is_ok (sym c.read.ensures) ∙ sym c.is_ok.ensures.value in
    elim c.if-is_ok.branch [
      | then-is_ok w ↦ omega (arith, w.live-is, c.loop-cell.invariant, count_live_law s.kept i cs (g.S.CellStore.small s.below.now) within s.once (is ∙ w.if-is_ok.true))
      | else-is_ok w ↦ w.live-is ∙ c.loop-cell.invariant ∙ sym (count_dead s.kept i cs within (not_live (at cs k) (λ live. true≢false (sym live ∙ is ∙ w.if-is_ok.false))))
    ]

pub returns : goal.returns
returns g c =
    let s = c.args.self.now in
    c.loop-cell.invariant
    ∙ ap (λ ks. count_live (less ks (g.S.CellStore.cells s.below.now))) (take_all c.loop-cell.cell-index s.kept (omega (arith, s.sixteen, c.loop-cell-test.false)))
