use Rattle.std.proofs.Common.{◌≡◌, is_some, sym, ap, ◌∙◌, subst}
use Rattle.std.proofs.lemmas.Bool.{both_ways}
use Rattle.cells.specs.Meaning.{Taken, is_live}
use Rattle.shelf.specs.Shelves.{less}
use Rattle.shelf.proofs.ShelfLaws.{less_none}
use Rattle.shelf.proofs.ShelfCellStore.take.Goals as goal

pub returns-in-Some : goal.returns-in-Some
returns-in-Some g c =
    let got = c.in-Some.ensures in
    record { means = got.found.0; first = λ k on live. got.found.1; lent = got.lent }

pub returns-in-None : goal.returns-in-None
returns-in-None g c =
    let s = c.args.self.now in
    let cells = g.S.CellStore.cells in
    let entry = cells s.below.now in
    let got = c.in-None.ensures in
    let after = cells c.take.new.self in
    let bare : less c.reuse.new.self.kept (g.S.CellStore.cells c.take.new.self) ≡ g.S.CellStore.cells c.take.new.self =
    ap (λ ks. less ks after) got.found.1 ∙ less_none 16 after (g.S.CellStore.small c.take.new.self) in
    record {
      means = subst (λ cs. Taken cs c.args.contents c.take.result (less c.reuse.new.self.kept after)) got.found.0
          (subst (λ cs. Taken (cells c.reuse.new.self.below.now) c.args.contents c.take.result cs) (sym bare) c.take.ensures);
      first = λ k on live. absurd (both_ways (is_live entry k) (ap is_some (got.found.2 k on)) live);
      lent = got.lent;
    }
