use Rattle.std.proofs.Common.{◌≡◌, [], ◌∷◌, Some, None, ap, ◌∙◌, subst, arith}
use Rattle.run.proofs.Dropping.{Dropping, dropping_empty, dropping_full, dropping_all}
use Rattle.stack.specs.Items.{tops}
use Rattle.run.proofs.closing.drop_slots.Goals as goal

pub loop-slot-preserved-in-Some-slot : goal.loop-slot-preserved-in-Some-slot
loop-slot-preserved-in-Some-slot g c =
    let popped : tops c.loop-slot.slots ≡ Some c.in-Some-slot.value ∷ tops c.pop.new.self = c.in-Some.ensures.tops ∙ ap (λ s. s ∷ tops c.pop.new.self) c.in-Some-slot.is in (
      omega (arith, c.loop-slot.invariant.0, c.and-dropped.ensures.grows),
      λ m₀ ts O. dropping_full (subst (λ ss. Dropping c.args.before ts m₀ c.loop-slot.dropped ss (g.S.CellStore.cells c.loop-slot.store)) popped (c.loop-slot.invariant.1 m₀ ts O)) (λ vs t us. c.and-dropped.ensures.law m₀ vs t us),
    )

pub loop-slot-preserved : goal.loop-slot-preserved
loop-slot-preserved g c =
    let popped : tops c.loop-slot.slots ≡ None ∷ tops c.pop.new.self = c.in-Some.ensures.tops ∙ ap (λ s. s ∷ tops c.pop.new.self) c.in_default-slot.is in
    (c.loop-slot.invariant.0, λ m₀ ts O. dropping_empty (subst (λ ss. Dropping c.args.before ts m₀ c.loop-slot.dropped ss (g.S.CellStore.cells c.loop-slot.store)) popped (c.loop-slot.invariant.1 m₀ ts O)))

pub returns-clause-law : goal.returns-clause-law
returns-clause-law g c =
    let none : tops c.loop-slot.slots ≡ [] = c.in_default.ensures.tops.0 in
    λ m₀ ts O. dropping_all none (c.loop-slot.invariant.1 m₀ ts O)
