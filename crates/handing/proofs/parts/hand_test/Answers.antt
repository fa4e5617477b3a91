use Rattle.std.proofs.Common.{◌≡◌, ◌∷◌, set, true, false, sym, refl, ap, ◌∙◌, subst}
use Rattle.cells.specs.declared.values.Value.TheVariants.{Bool as Truth}
use Rattle.handing.proofs.Tests.{no_test, tree_bool}
use Rattle.handing.proofs.Views.{HandedBy, in_hand, waiting_for, on_test}
use Rattle.machine.proofs.Resting.{renewed, by_rule}
use Rattle.machine.specs.Holding.{names}
use Rattle.machine.specs.Mirrors.{moved_any}
use Rattle.machine.specs.Waiting.{Waits, waits_arm}
use Rattle.machine.specs.declared.frame.Frame.TheVariants.{Arm}
use Rattle.program.specs.Standing.{past, StandsAt}
use Rattle.program.specs.declared.code.Code.{Code}
use Rattle.rules.specs.States.{if_arm}
use Rattle.rules.specs.Steps.{hand, test_handed}
use Rattle.handing.proofs.parts.hand_test.Goals as goal

pub returns-in_default-clause-law : goal.returns-in_default-clause-law
unfolding hand
returns-in_default-clause-law c = λ P Z m₀ m f K env a t H.
    let r = c.args.machine.now in
    on_test (HandedBy P Z m₀ K env a t r m _ r m) (waiting_for H)
    (λ p x y here X Y w M. by_rule (no_test P Z p K env a x y t c.in_default.not-Bool (in_hand H.value M).data_held) moved_any) H.mirrored

pub returns-then-test-clause-law : goal.returns-then-test-clause-law
unfolding hand test_handed
returns-then-test-clause-law c = λ P Z m₀ m f K env a t H.
    let r = c.args.machine.now in
    let put = c.replace_top.ensures in
    let arm = ap (λ (x : Code). x.past) c.code_at-arm.ensures.code in
    let is : c.args.value ≡ Truth true = c.in-Bool.is ∙ ap Truth c.if-test.true in
    on_test (HandedBy P Z m₀ K env a t r m c.go.result c.go.new.self m) (waiting_for H)
    (λ p x y here X Y w M.
    let R = in_hand H.value M in
    let d = tree_bool is R.data_held in
    by_rule (ap (test_handed P Z p x y K env a) d.0)
    (c.go.ensures.law P Z m₀ m _ (if_arm p ∷ K) env a x (renewed R c.replace_top.new.self r.slots r.taken r.given put.room refl
    (subst (Waits P r.script.now.code (names env) (if_arm p ∷ K)) (sym (put.tops ∙ ap (λ q. set q 0 (Arm c.args.at)) H.stacked)) (waits_arm here w)) R.full d.1 R.input R.taken R.given)
    (subst (StandsAt P r.script.now.code (names env) x) (sym arm) X))) H.mirrored

pub returns-clause-law : goal.returns-clause-law
unfolding hand test_handed
returns-clause-law c = λ P Z m₀ m f K env a t H.
    let r = c.args.machine.now in
    let put = c.replace_top.ensures in
    let arm = ap (λ (x : Code). x.past) c.code_at-arm.ensures.code in
    let other = ap (λ (x : Code). x.past) c.code_at-other.ensures.code ∙ ap (past P r.script.now.code) arm in
    let is : c.args.value ≡ Truth false = c.in-Bool.is ∙ ap Truth c.if-test.false in
    on_test (HandedBy P Z m₀ K env a t r m c.go-2.result c.go-2.new.self m) (waiting_for H)
    (λ p x y here X Y w M.
    let R = in_hand H.value M in
    let d = tree_bool is R.data_held in
    by_rule (ap (test_handed P Z p x y K env a) d.0)
    (c.go-2.ensures.law P Z m₀ m _ (if_arm p ∷ K) env a y (renewed R c.replace_top.new.self r.slots r.taken r.given put.room refl
    (subst (Waits P r.script.now.code (names env) (if_arm p ∷ K)) (sym (put.tops ∙ ap (λ q. set q 0 (Arm c.args.at)) H.stacked)) (waits_arm here w)) R.full d.1 R.input R.taken R.given)
    (subst (StandsAt P r.script.now.code (names env) y) (sym other) Y))) H.mirrored
