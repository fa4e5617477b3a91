use Rattle.std.proofs.Common.{◌≡◌, ◌+◌, ◌∷◌, set, min, sym, refl, ap, ◌∙◌, subst, arith}
use Rattle.data.proofs.Moves.{drop_held}
use Rattle.data.specs.Trees.{built, size}
use Rattle.handing.proofs.Dropped.{drop_never_refused}
use Rattle.handing.proofs.Opened.{below_case}
use Rattle.handing.proofs.Views.{in_hand, waiting_for}
use Rattle.machine.proofs.Cells.{capped_add}
use Rattle.machine.proofs.Resting.{renewed, by_rule}
use Rattle.machine.specs.Holding.{names}
use Rattle.machine.specs.Waiting.{Waits, waits_leaving}
use Rattle.machine.specs.declared.frame.Frame.TheVariants.{Leaving}
use Rattle.program.specs.Standing.{StandsAt}
use Rattle.rules.specs.States.{scope_end, gives}
use Rattle.handing.proofs.cases.take_any.Goals as goal

pub returns-in_err-count-clause-law : goal.returns-in_err-count-clause-law
returns-in_err-count-clause-law g c = λ P Z m₀ p bs K env a k vs H A. absurd (drop_never_refused H c.in_err-count.ensures)

pub returns-clause-law : goal.returns-clause-law
returns-clause-law g c = λ P Z m₀ p bs K env a k vs H A.
    let r = c.args.machine.now in
    let cs = r.script.now.code in
    let m' = g.S.CellStore.cells c.drop_value.new.store in
    let n = size (built k vs) in
    let put = c.replace_top.ensures in
    let R = in_hand H.value H.mirrored in
    let B = below_case (waiting_for H) in
    let d = drop_held c.in_ok-count.ensures R.data_held in
    let freed = d.0 in
    let count : c.in_ok-count.count ≡ n = cc in
    let node : c.after.result ≡ c.args.branch + 1 = c.after.ensures (omega (arith, A.within)) in
    by_rule (A.is Z p vs K env a)
    (c.go.ensures.law P Z m₀ m' _ (scope_end p 0 ∷ K) env (gives n a) A.expr
    (renewed R c.replace_top.new.self r.slots r.taken c.saturating_add-machine.result put.room refl
    (subst (Waits P cs (names env) (scope_end p 0 ∷ K)) (sym (put.tops ∙ ap (λ q. set q 0 (Leaving c.args.at 0)) H.stacked)) (waits_leaving B.placed B.waits)) R.full d.1 R.input R.taken
    (c.saturating_add-machine.ensures ∙ (ap (λ n. min (r.given + n) 18446744073709551615) count ∙ (ap (λ x. min (x + n) 18446744073709551615) R.given ∙ capped_add a.given n))))
    (subst (StandsAt P cs (names env) A.expr) (sym node) A.stands))
