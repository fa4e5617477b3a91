use Rattle.std.specs.Prelude.{Ok}
use Rattle.std.proofs.Common.{◌≡◌, ◌+◌, [], ◌++◌, map, drop, min, refl, sym, ap, ◌∙◌, subst, arith}
use Rattle.data.proofs.Moves.{drop_held}
use Rattle.data.specs.Taking.{Out}
use Rattle.stack.specs.Items.{tops}
use Rattle.data.specs.Trees.{size}
use Rattle.handing.proofs.Dropped.{drop_never_refused}
use Rattle.handing.proofs.Ends.{no_names}
use Rattle.handing.proofs.Views.{HandedBy, in_hand, waiting_for, on_main}
use Rattle.machine.proofs.Cells.{capped_add}
use Rattle.machine.proofs.Resting.{changed, renewed, then}
use Rattle.machine.specs.Holding.{kept, holds, values_in, trees_in}
use Rattle.machine.specs.Mirrors.{moved_on, mirrors}
use Rattle.machine.specs.Waiting.{Waits, next_over}
use Rattle.machine.specs.declared.control.Control.TheVariants.{Over}
use Rattle.rules.specs.States.{environment_size}
use Rattle.rules.specs.Steps.{hand}
use Rattle.handing.proofs.leaving.hand_main.Goals as goal

pub returns-in_err-count-clause-law : goal.returns-in_err-count-clause-law
returns-in_err-count-clause-law g c = λ P Z m₀ f K env a t H. absurd (drop_never_refused H c.in_err-count.ensures)

pub returns-clause-law : goal.returns-clause-law
unfolding hand
returns-clause-law g c = λ P Z m₀ f K env a t H.
    let r = c.args.machine.now in
    let cs = r.script.now.code in
    let m = g.S.CellStore.cells c.args.store.now in
    let m' = g.S.CellStore.cells c.drop_value.new.store in
    let cut = c.cut.ensures in
    on_main (HandedBy P Z m₀ K env a t r m (Ok tt) (changed r c.cut.new.self r.slots Over r.taken c.saturating_add-machine.result) m') (waiting_for H)
    (λ p d at place bare w M.
    let R = in_hand H.value M in
    let none_left : env ≡ [] = no_names env bare in
    let h = drop_held c.in_ok-count.ensures R.data_held in
    let is = h.0 in
    let number : c.in_ok-count.count ≡ size t = cc in
    let total : size t ≡ environment_size env + size t = omega (arith, ap environment_size none_left) in
    moved_on (mirrors (then (renewed R c.cut.new.self r.slots r.taken c.saturating_add-machine.result cut.room refl
    (subst (Waits P cs [] K) (sym (cut.tops ∙ ap (drop 1) H.stacked)) w) (R.full ∙ ap (λ e. map holds (e ++ kept K)) none_left)
    (subst (λ e. Out m' (values_in (tops r.slots)) (trees_in (e ++ kept K)) m₀) none_left h.1) R.input R.taken
    (c.saturating_add-machine.ensures ∙ (ap (λ x. min (r.given + x) 18446744073709551615) (number ∙ total) ∙ (ap (λ x. min (x + (environment_size env + size t)) 18446744073709551615) R.given ∙ capped_add a.given (environment_size env + size t))))) Over) next_over)) H.mirrored
