use Rattle.std.proofs.Common.{◌≡◌, ◌+◌, ◌++◌, [], ◌∷◌, min, sym, refl, ap, ◌∙◌, subst, arith}
use Rattle.data.specs.Taking.{Out}
use Rattle.data.specs.Trees.{none, more, built}
use Rattle.machine.proofs.Building.{built_out, cell_free, cells_full}
use Rattle.machine.proofs.Cells.{capped_add}
use Rattle.machine.proofs.Needs.{build_fits, build_lacks}
use Rattle.machine.proofs.Resting.{entered, renewed, same_store, by_rule, faulted_as}
use Rattle.machine.specs.Holding.{values_in, trees_in, kept}
use Rattle.rules.specs.Faults.{store_fault}
use Rattle.rules.specs.States.{takes}
use Rattle.stack.specs.Items.{tops}
use Rattle.entering.proofs.builds.build_bare.Goals as goal

pub returns-clause-law : goal.returns-clause-law
returns-clause-law g c = λ P Z m₀ K env a e M.
    let R = entered M in
    let r = c.args.machine.now in
    let took = c.in_ok-cell.ensures in
    let k = c.args.constructor in
    let free = cell_free R took in
    let o : Out (g.S.CellStore.cells c.take.new.self) (c.cell.result ∷ values_in (tops r.slots)) (more (built k none) (trees_in (env ++ kept K))) m₀ =
    subst (λ v. Out (g.S.CellStore.cells c.take.new.self) (v ∷ values_in (tops r.slots)) (more (built k none) (trees_in (env ++ kept K))) m₀) (sym c.cell.ensures)
    (built_out {vs = []} {rest = values_in (tops r.slots)} {fields = none} {ts = trees_in (env ++ kept K)} c.bare.ensures took refl R.data_held) in
    let counted : c.saturating_add-machine.result ≡ min (r.taken + 1) 18446744073709551615 = search c.saturating_add-machine.ensures in
    by_rule (build_fits P Z K env a k none env (omega arith))
    (c.finish.ensures.law P Z m₀ _ _ K env (takes 1 a) (built k none) (renewed R r.frames r.slots c.saturating_add-machine.result r.given refl refl R.frames R.full o R.input
    (counted ∙ ap (λ n. min (n + 1) 18446744073709551615) R.taken ∙ capped_add a.taken 1) R.given))

pub returns-in_err-cell-clause-law : goal.returns-in_err-cell-clause-law
returns-in_err-cell-clause-law g c = λ P Z m₀ K env a e M.
    let R = entered M in
    let lacks = cells_full R c.in_err-cell.ensures in
    by_rule (build_lacks P Z K env a c.args.constructor none env (omega arith)) (faulted_as c.from_residual.result c.from_residual.ensures.1 (ap store_fault c.in_err-cell.ensures.number) (same_store c.in_err-cell.ensures.same M))
