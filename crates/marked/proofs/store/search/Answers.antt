use Rattle.std.proofs.Common.{length, MatchOption, subst, rules}
use Rattle.marked.specs.Marks.{NoneFree, FreeAt}
use Rattle.marked.proofs.MarkLaws.{found_from}
use Rattle.marked.proofs.store.search.Goals as goal

pub returns : goal.returns
returns c =
    let late = subst (λ xs. MatchOption c.first_free.result (NoneFree xs 0 (length xs)) (λ i. FreeAt xs (length xs) i)) c.split_at.ensures.back c.first_free.ensures in
    found_from c.args.slots.now c.args.next c.first_free.result c.map.result c.or_else.result late (search rules) (λ early. search rules) c.or_else.ensures
