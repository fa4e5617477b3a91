use Rattle.std.proofs.Common.{◌≡◌, ◌+◌, ◌∙◌, arith, rules}
use Rattle.std.proofs.lemmas.List.{length-set}
use Rattle.shelf.proofs.ShelfLaws.{bare_off, apart_off}
use Rattle.shelf.proofs.Shelf.pop.Goals as goal

pub invariant_of-self : goal.invariant_of-self
invariant_of-self g c =
    let s = c.args.self.now in
    let n = c.in_ok-self.field-0 in
    let one_less : c.in_ok-self.field-0 + 1 ≡ c.args.self.now.count = omega (arith, c.in_ok-self.ensures) in
    let bare = bare_off s.kept s.count n one_less s.few s.sixteen s.bare in
    let once = apart_off s.kept n s.once in
    record {
      sixteen = length-set s.kept n _ ∙ s.sixteen;
      few = omega (arith, s.few, one_less);
      bare = search rules;
      once = search rules;
    }
