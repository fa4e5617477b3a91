use Rattle.std.proofs.Common.{◌≡◌, [], ◌++◌, sym, subst}
use Rattle.data.specs.Taking.{Out}
use Rattle.machine.specs.Holding.{values_in}
use Rattle.machine.specs.Waiting.{value_in_hand}
use Rattle.run.proofs.Dropping.{frees_first, none_in_hand}
use Rattle.run.specs.Closings.{Frees}
use Rattle.stack.specs.Items.{tops}
use Rattle.run.proofs.closing.drop_all.Goals as goal
use Rattle.run.proofs.closing.drop_all.Goals.{in-Finished, in_default}

pub returns-clause-law : goal.returns-clause-law
returns-clause-law g c =
    let m = g.S.CellStore.cells c.args.store.now in
    let m' = g.S.CellStore.cells c.drop_slots.new.store in
    let vs = values_in (tops c.args.slots.now) in
    elim c.match-finished.branch [
      | in-Finished w ↦ λ m₀ ts O.
          frees_first (subst (λ k. Out m (value_in_hand k ++ vs) ts m₀) w.in-Finished.is O) (w.and-first.ensures.law m₀)
          (λ us R. subst (λ d. Frees d us m₀ c.drop_slots.result m') w.first-is (c.drop_slots.ensures.law m₀ us (subst (λ s. Out (g.S.CellStore.cells s) vs us m₀) (sym w.store-is) R)))
      | in_default w ↦ λ m₀ ts O.
          let none : value_in_hand c.args.finished ≡ [] = none_in_hand c.args.finished w.in_default.not-Finished in
          subst (λ d. Frees d ts m₀ c.drop_slots.result m') w.first-is
          (c.drop_slots.ensures.law m₀ ts (subst (λ s. Out (g.S.CellStore.cells s) vs ts m₀) (sym w.store-is) (subst (λ l. Out m (l ++ vs) ts m₀) none O)))
    ]
