use Rattle.std.proofs.Common.{sym, ap, ◌∙◌, arith}
use Rattle.shelf.specs.Shelves.{among}
use Rattle.shelf.proofs.ShelfLaws.{among_bare, among_any, emptied}
use Rattle.shelf.proofs.Shelf.has.Goals as goal

pub returns-then-self-eq0 : goal.returns-then-self-eq0
returns-then-self-eq0 g c =
    let s = c.args.self.now in
    among_bare 15 c.args.cell ∙ ap (λ ks. among ks c.args.cell) (sym (emptied s.kept s.count (omega (arith, c.if-self-eq0.true)) s.bare))

pub returns : goal.returns
returns g c = c.contains.ensures.value ∙ sym (among_any c.args.self.now.kept c.args.cell)
