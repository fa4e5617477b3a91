use Rattle.std.proofs.Common.{◌≡◌, ◌∷◌, ◌++◌, [], subst, sym, arith}
use Rattle.std.proofs.lemmas.List.Elements.{All-push}
use Rattle.cases.specs.declared.case.Advance.{Advance}
use Rattle.cases.specs.Written.{HasName, AdvancesHaveNames}
use Rattle.cases.proofs.AdvanceLaws.{advances_then_more}
use Rattle.cases.proofs.front.Front.advances.Goals as goal

pub loop-advances-preserved : goal.loop-advances-preserved
loop-advances-preserved c =
    let h = c.loop-advances.invariant in
    let before = c.loop-advances.advances.items in
    let a = c.in_ok-advance.field-0 in
    let more : c.keep.new.advances.items ≡ before ++ a ∷ [] = c.in_ok-keep.ensures in
    let next = c.in_ok-advance.ensures.takes in
    let joined = advances_then_more before a c.advance.new.self.left.now in
    record {
      front = cc;
      names = subst AdvancesHaveNames (sym more) (All-push (λ (b : Advance). HasName b.end) before a h.names c.in_ok-advance.ensures.name);
      within = omega (arith, c.in_ok-advance.ensures.shorter);
    }
