use Rattle.std.proofs.Common.{◌≡◌, None, Err, Some, ◌∙◌, sym, ◌∷◌, ap, subst, arith, rules}
use Rattle.data.specs.Trees.{built}
use Rattle.handing.proofs.Opened.{dead_cell, no_tested, below_case, on_opened, branches_at, constructor_read}
use Rattle.handing.proofs.Views.{in_hand, waiting_for, on_tested}
use Rattle.handing.specs.Choosing.{Chosen, ChosenNone, ChosenAny, ChosenFields}
use Rattle.machine.proofs.Resting.{by_rule}
use Rattle.machine.specs.Holding.{names}
use Rattle.machine.specs.Mirrors.{Hands, Moved, moved_not, moved_any}
use Rattle.machine.specs.declared.frame.Frame.TheVariants.{Tested}
use Rattle.program.specs.declared.code.Code.{Code}
use Rattle.rules.specs.States.{st, case_test, finished}
use Rattle.rules.specs.Steps.{hand, tested_handed, fails}
use Rattle.rules.specs.declared.fault.FaultKind.TheVariants.{NoBranch, Stuck}
use Rattle.handing.proofs.cases.hand_tested.Goals as goal

pub returns-in_default : goal.returns-in_default
unfolding hand
returns-in_default g c = record {
  steady = record { taken = omega arith; given = omega arith };
  law = λ P Z m₀ f K env a t H.
      let r = c.args.machine.now in
      let m = g.S.CellStore.cells c.args.store.now in
      on_tested (λ f. Hands P Z m₀ f K env a t (Tested c.args.at) c.args.value r m → Moved P Z m₀ (st (f ∷ K) env (finished t) a) (hand P Z f K env a t) (Err Stuck) r m) (waiting_for H)
      (λ p bs here B w H. by_rule (no_tested P Z p bs K env a t c.in_default.not-Cell (in_hand H.value H.mirrored).data_held) moved_any) H;
}

pub returns-in_err-contents-clause-law : goal.returns-in_err-contents-clause-law
unfolding hand
returns-in_err-contents-clause-law g c = λ P Z m₀ f K env a t H. absurd (dead_cell c.in-Cell.is c.in_err-contents.ensures.1 (in_hand H.value H.mirrored).data_held)

pub returns-in_err-branch-clause-law : goal.returns-in_err-branch-clause-law
unfolding hand tested_handed
returns-in_err-branch-clause-law g c = λ P Z m₀ f K env a t H.
    let r = c.args.machine.now in
    let cs = r.script.now.code in
    let m = g.S.CellStore.cells c.args.store.now in
    on_opened (λ f t. Moved P Z m₀ (st (f ∷ K) env (finished t) a) (hand P Z f K env a t) c.from_residual-in_err-branch.result r m) c.in-Cell.is
    (λ p bs k vs H.
    let R = in_hand H.value H.mirrored in
    let B = branches_at c.args.at (ap (λ (x : Code). x.past) c.code_at-first.ensures.code) (ap (λ (x : Code). x.past) c.code_at-past.ensures.code) (below_case (waiting_for H)).branches in
    let C = subst (ChosenNone P cs (names env) bs) (constructor_read c.in-Cell.is c.in_ok-contents.ensures.0 R.data_held) (subst (Chosen P cs (names env) bs c.in_ok-contents.contents.constructor) c.in_err-branch.ensures.ok_part (c.choose.ensures P (names env) bs R.ready.forward B)) in
    let is : c.from_residual-in_err-branch.result ≡ Err NoBranch = search rules in
    by_rule (C.is Z p vs K env a) (subst (λ answer. Moved P Z m₀ (st (case_test p bs ∷ K) env (finished (built k vs)) a) (fails NoBranch None) answer r m) (sym is) (moved_not H.mirrored))) H

pub returns-in-Any-clause-law : goal.returns-in-Any-clause-law
unfolding hand tested_handed
returns-in-Any-clause-law g c = λ P Z m₀ f K env a t H.
    let r = c.args.machine.now in
    let cs = r.script.now.code in
    on_opened (λ f t. Moved P Z m₀ (st (f ∷ K) env (finished t) a) (hand P Z f K env a t) c.take_any.result c.take_any.new.machine (g.S.CellStore.cells c.take_any.new.store)) c.in-Cell.is
    (λ p bs k vs H.
    let R = in_hand H.value H.mirrored in
    let B = branches_at c.args.at (ap (λ (x : Code). x.past) c.code_at-first.ensures.code) (ap (λ (x : Code). x.past) c.code_at-past.ensures.code) (below_case (waiting_for H)).branches in
    let C = subst (λ k. ChosenAny P cs (names env) bs k c.in-Any.branch) (constructor_read c.in-Cell.is c.in_ok-contents.ensures.0 R.data_held) (subst (Chosen P cs (names env) bs c.in_ok-contents.contents.constructor) (c.in_ok-branch.ensures.ok_part ∙ ap Some c.in-Any.is) (c.choose.ensures P (names env) bs R.ready.forward B)) in
    c.take_any.ensures.law P Z m₀ p bs K env a k vs (subst (λ v. Hands P Z m₀ (case_test p bs) K env a (built k vs) (Tested c.args.at) v r (g.S.CellStore.cells c.args.store.now)) c.in-Cell.is H) C) H

pub returns-in-Fields-clause-law : goal.returns-in-Fields-clause-law
unfolding hand tested_handed
returns-in-Fields-clause-law g c = λ P Z m₀ f K env a t H.
    let r = c.args.machine.now in
    let cs = r.script.now.code in
    let m = g.S.CellStore.cells c.args.store.now in
    on_opened (λ f t. Moved P Z m₀ (st (f ∷ K) env (finished t) a) (hand P Z f K env a t) c.take_fields.result c.take_fields.new.machine (g.S.CellStore.cells c.take_fields.new.store)) c.in-Cell.is
    (λ p bs k vs H.
    let R = in_hand H.value H.mirrored in
    let B = branches_at c.args.at (ap (λ (x : Code). x.past) c.code_at-first.ensures.code) (ap (λ (x : Code). x.past) c.code_at-past.ensures.code) (below_case (waiting_for H)).branches in
    let C = subst (λ k. ChosenFields P cs (names env) bs k c.in-Fields.branch c.in-Fields.mask) (constructor_read c.in-Cell.is c.in_ok-contents.ensures.0 R.data_held) (subst (Chosen P cs (names env) bs c.in_ok-contents.contents.constructor) (c.in_ok-branch.ensures.ok_part ∙ ap Some c.in-Fields.is) (c.choose.ensures P (names env) bs R.ready.forward B)) in
    c.take_fields.ensures.law P Z m₀ p bs K env a k vs (subst (λ v. Hands P Z m₀ (case_test p bs) K env a (built k vs) (Tested c.args.at) v r m) c.in-Cell.is H) c.in_ok-contents.ensures.0 C) H
