use Rattle.std.proofs.Common.{◌≡◌, ◌+◌, ◌<◌, ◌≤◌, ◌∷◌, set, drop, min, sym, refl, ap, ◌∙◌, subst}
use Rattle.data.proofs.Moves.{drop_held}
use Rattle.data.specs.Trees.{size}
use Rattle.handing.proofs.Dropped.{drop_never_refused}
use Rattle.handing.proofs.Views.{HandedBy, in_hand, waiting_for, on_part, row_next, row_done}
use Rattle.machine.proofs.Cells.{capped_add}
use Rattle.machine.proofs.Resting.{renewed, reframed}
use Rattle.machine.specs.Holding.{names}
use Rattle.machine.specs.Mirrors.{Moved}
use Rattle.machine.specs.Waiting.{Waits, waits_part}
use Rattle.machine.specs.declared.frame.Frame.TheVariants.{Part}
use Rattle.program.specs.Standing.{past, StandsRow}
use Rattle.program.specs.declared.code.Code.{Code}
use Rattle.rules.specs.States.{st, begin_part, finished, gives}
use Rattle.rules.specs.Steps.{hand, part_handed, finish}
use Rattle.handing.proofs.parts.hand_part.Goals as goal

pub returns-in_err-count-clause-law : goal.returns-in_err-count-clause-law
unfolding hand part_handed
returns-in_err-count-clause-law g c = λ P Z m₀ f K env a t H. absurd (drop_never_refused H c.in_err-count.ensures)

pub returns-then-next-past-clause-law : goal.returns-then-next-past-clause-law
unfolding hand part_handed
returns-then-next-past-clause-law g c = λ P Z m₀ f K env a t H.
    let r = c.args.machine.now in
    let cs = r.script.now.code in
    let m = g.S.CellStore.cells c.args.store.now in
    let m' = g.S.CellStore.cells c.drop_value.new.store in
    let put = c.replace_top.ensures in
    let past_is : c.code_at-past.result.past ≡ past P cs c.args.at = ap (λ (x : Code). x.past) c.code_at-past.ensures.code in
    let later : c.code_at-later.result.past ≡ past P cs c.args.next = ap (λ (x : Code). x.past) c.code_at-later.ensures.code in
    on_part (HandedBy P Z m₀ K env a t r m c.go.result c.go.new.self m') (waiting_for H)
    (λ p es here S w M.
    let R = in_hand H.value M in
    let d = drop_held c.in_ok-count.ensures R.data_held in
    let freed = d.0 in
    let count : c.in_ok-count.count ≡ size t = cc in
    row_next (λ es. Moved P Z m₀ (st (begin_part p es ∷ K) env (finished t) a) (part_handed P Z p es K env a t) c.go.result c.go.new.self m') S (subst (λ n. c.args.next < n) past_is c.if-next-past.true)
    (λ e es X S. c.go.ensures.law P Z m₀ m' _ (begin_part p es ∷ K) env (gives (size t) a) e
    (renewed R c.replace_top.new.self r.slots r.taken c.saturating_add-machine.result put.room refl
    (subst (Waits P cs (names env) (begin_part p es ∷ K)) (sym (put.tops ∙ ap (λ q. set q 0 (Part c.args.at c.code_at-later.result.past)) H.stacked))
    (waits_part here (subst (λ j. StandsRow P cs (names env) es j (past P cs c.args.at)) (sym later) S) w)) R.full d.1 R.input R.taken
    (c.saturating_add-machine.ensures ∙ (ap (λ n. min (r.given + n) 18446744073709551615) count ∙ (ap (λ n. min (n + size t) 18446744073709551615) R.given ∙ capped_add a.given (size t))))) X)) H.mirrored

pub returns-clause-law : goal.returns-clause-law
unfolding hand part_handed finish
returns-clause-law g c = λ P Z m₀ f K env a t H.
    let r = c.args.machine.now in
    let cs = r.script.now.code in
    let m = g.S.CellStore.cells c.args.store.now in
    let cut = c.cut.ensures in
    let past_is : c.code_at-past.result.past ≡ past P cs c.args.at = ap (λ (x : Code). x.past) c.code_at-past.ensures.code in
    on_part (HandedBy P Z m₀ K env a t r m c.finish.result c.finish.new.self m) (waiting_for H)
    (λ p es here S w M.
    row_done (λ es. Moved P Z m₀ (st (begin_part p es ∷ K) env (finished t) a) (part_handed P Z p es K env a t) c.finish.result c.finish.new.self m) S (subst (λ n. n ≤ c.args.next) past_is c.if-next-past.false)
    (c.finish.ensures.law P Z m₀ m _ K env a t (reframed (in_hand H.value M) c.cut.new.self cut.room (subst (Waits P cs (names env) K) (sym (cut.tops ∙ ap (drop 1) H.stacked)) w) refl))) H.mirrored
