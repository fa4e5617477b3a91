use Rattle.std.proofs.Common.{Err, ◌≡◌, ◌+◌, ◌∷◌, ◌++◌, [], set, min, sym, refl, ap, ◌∙◌, subst, arith}
use Rattle.cells.specs.Records.{row}
use Rattle.data.proofs.Moves.{unbuild}
use Rattle.data.proofs.Outs.{join}
use Rattle.data.specs.Taking.{Out}
use Rattle.data.specs.Trees.{built, cost}
use Rattle.handing.proofs.Opened.{below_case, bound_rests}
use Rattle.handing.proofs.Patterns.{bound_names, bound_over}
use Rattle.handing.proofs.Views.{in_hand, waiting_for}
use Rattle.machine.proofs.Needs.{entries_fit, entries_lack}
use Rattle.machine.proofs.Resting.{changed, by_rule, slots_count}
use Rattle.machine.specs.Holding.{names, kept, values_in, trees_in, capped}
use Rattle.machine.specs.Mirrors.{Moved, moved_not, moved_any}
use Rattle.machine.specs.declared.frame.Frame.TheVariants.{Leaving}
use Rattle.program.specs.Scopes.{bind_scope, names_inside}
use Rattle.program.specs.Standing.{StandsAt}
use Rattle.rules.specs.States.{st, case_test, finished, enter, scope_end, gives}
use Rattle.rules.specs.Steps.{binds, unfit, giving, bind_parts, enter_branch, goes}
use Rattle.rules.specs.declared.fault.FaultKind.TheVariants.{StackFull}
use Rattle.stack.specs.Items.{tops}
use Rattle.handing.proofs.cases.take_fields.Goals as goal

pub returns-then-room-len-clause-law : goal.returns-then-room-len-clause-law
unfolding enter_branch
returns-then-room-len-clause-law g c = λ P Z m₀ p bs K env a k vs H at F.
    let r = c.args.machine.now in
    let m = g.S.CellStore.cells c.args.store.now in
    let R = in_hand H.value H.mirrored in
    let N = names_inside F.parts in
    let counted : c.names_in-names.result ≡ N = c.names_in-names.ensures F.parts F.mask_is in
    by_rule (F.is Z p vs K env a)
    (elim (giving (cost vs) (bind_parts F.parts vs env)) as (λ b. Moved P Z m₀ (st (case_test p bs ∷ K) env (finished (built k vs)) a) (enter_branch P Z p N F.expr K env a b) (Err StackFull) r m) [
      | binds after n ↦ by_rule (entries_lack P Z K env a N [] (st (scope_end p N ∷ K) after (enter F.expr) (gives n a)) (omega (arith, counted, slots_count R, R.slots_room, c.room-room.ensures, c.len.ensures.tops, c.if-room-len.true)))
          (moved_not H.mirrored)
      | unfit ↦ moved_any
    ])

pub returns-in_err-count-clause-law : goal.returns-in_err-count-clause-law
unfolding enter_branch
returns-in_err-count-clause-law g c = λ P Z m₀ p bs K env a k vs H at F.
    let r = c.args.machine.now in
    let m = g.S.CellStore.cells c.args.store.now in
    let m' = g.S.CellStore.cells c.bind_fields.new.store in
    let R = in_hand H.value H.mirrored in
    let N = names_inside F.parts in
    let counted : c.names_in-names.result ≡ N = c.names_in-names.ensures F.parts F.mask_is in
    by_rule (F.is Z p vs K env a)
    (elim (bind_parts F.parts vs env) as (λ b. bind_parts F.parts vs env ≡ b → Moved P Z m₀ (st (case_test p bs ∷ K) env (finished (built k vs)) a) (enter_branch P Z p N F.expr K env a (giving (cost vs) b)) c.from_residual-in_err-count.result
    (changed r r.frames c.bind_fields.new.slots r.control r.taken r.given) m') [
      | binds after n ↦ λ e.
          let o = (unbuild m m₀ c.args.cell c.args.contents (values_in (tops r.slots)) k vs (trees_in (env ++ kept K)) at R.data_held).1 in
          let B = c.bind_fields.ensures.law m₀ F.parts vs (env ++ kept K) (after ++ kept K) n F.mask_is (bound_over F.parts vs env (kept K) e)
          (omega (arith, counted, c.room-room.ensures, c.len.ensures.tops, c.len.ensures.within, c.if-room-len.false)) R.full
          (subst (λ m. Out m (row c.args.contents ++ values_in (tops r.slots)) (join vs (trees_in (env ++ kept K))) m₀) (sym c.in_ok-give_back.ensures.after) o) in
          let is = B.given in
          let none = c.in_err-count.ensures.ok_part in
          absurd (cc)
      | unfit ↦ λ e. moved_any
    ] refl)

pub returns-clause-law : goal.returns-clause-law
unfolding enter_branch
returns-clause-law g c = λ P Z m₀ p bs K env a k vs H at F.
    let r = c.args.machine.now in
    let cs = r.script.now.code in
    let m = g.S.CellStore.cells c.args.store.now in
    let m' = g.S.CellStore.cells c.bind_fields.new.store in
    let R = in_hand H.value H.mirrored in
    let N = names_inside F.parts in
    let put = c.replace_top.ensures in
    let counted : c.names_in-names.result ≡ N = c.names_in-names.ensures F.parts F.mask_is in
    let node : c.after.result ≡ c.args.branch + 1 = c.after.ensures (omega (arith, F.within)) in
    by_rule (F.is Z p vs K env a)
    (elim (bind_parts F.parts vs env) as (λ b. bind_parts F.parts vs env ≡ b → Moved P Z m₀ (st (case_test p bs ∷ K) env (finished (built k vs)) a) (enter_branch P Z p N F.expr K env a (giving (cost vs) b)) c.go.result c.go.new.self m') [
      | binds after n ↦ λ e.
          let o = (unbuild m m₀ c.args.cell c.args.contents (values_in (tops r.slots)) k vs (trees_in (env ++ kept K)) at R.data_held).1 in
          let B = c.bind_fields.ensures.law m₀ F.parts vs (env ++ kept K) (after ++ kept K) n F.mask_is (bound_over F.parts vs env (kept K) e)
          (omega (arith, counted, c.room-room.ensures, c.len.ensures.tops, c.len.ensures.within, c.if-room-len.false)) R.full
          (subst (λ m. Out m (row c.args.contents ++ values_in (tops r.slots)) (join vs (trees_in (env ++ kept K))) m₀) (sym c.in_ok-give_back.ensures.after) o) in
          let is = B.given in
          let there = c.in_ok-count.ensures.ok_part in
          let count : c.in_ok-count.count ≡ capped n = cc in
          by_rule (entries_fit P Z K env a N (goes [] (st (scope_end p N ∷ K) after (enter F.expr) (gives (1 + n) a)))
          (omega (arith, counted, slots_count R, R.slots_room, c.room-room.ensures, c.len.ensures.tops, c.len.ensures.within, c.if-room-len.false)))
          (c.go.ensures.law P Z m₀ m' _ (scope_end p N ∷ K) after (gives (1 + n) a) F.expr
          (bound_rests R F.parts vs c.replace_top.new.self c.bind_fields.new.slots c.saturating_add-machine.result e B c.bind_fields.ensures.room put.room
          (put.tops ∙ (ap (λ q. set q 0 (Leaving c.args.at c.names_in-names.result)) H.stacked ∙ ap (λ n. Leaving c.args.at n ∷ H.others) counted)) (below_case (waiting_for H))
          (c.saturating_add-machine.ensures ∙ (ap (λ x. min (x + c.in_ok-count.count) 18446744073709551615) c.saturating_add.ensures ∙ ap (λ x. min (min (r.given + 1) 18446744073709551615 + x) 18446744073709551615) count)))
          (subst (λ G. StandsAt P cs G F.expr c.after.result) (sym (bound_names F.parts vs env e)) (subst (StandsAt P cs (bind_scope F.parts (names env)) F.expr) (sym node) F.stands)))
      | unfit ↦ λ e. moved_any
    ] refl)
