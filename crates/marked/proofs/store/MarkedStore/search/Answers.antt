use Rattle.std.proofs.Common.{length, MatchOption, subst}
use Rattle.cells.proofs.LentLaws.{front_used}
use Rattle.marked.specs.Marks.{NoneFree, FreeAt}
use Rattle.marked.proofs.store.MarkedStore.search.Goals as goal

pub returns : goal.returns
returns c =
    let s = c.args.self.now in
    subst (λ xs. MatchOption c.search.result (NoneFree xs 0 (length xs)) (λ i. FreeAt xs (length xs) i)) (front_used s.slots.now s.capacity s.sized) c.search.ensures
