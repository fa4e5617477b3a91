use Rattle.std.proofs.Common.{sym, refl, ap, ◌∙◌, subst}
use Rattle.handing.proofs.Branching.{Going, untried_some, chosen_any, chosen_fields, chosen_none, going_on, no_branch, not_equal}
use Rattle.program.specs.declared.code.Code.{Code}
use Rattle.handing.proofs.choosing.choose.Goals as goal

pub loop-node-init : goal.loop-node-init
loop-node-init c = λ P G bs F S. record { tries = _; untried = untried_some S; same = λ Z p vs K env a. refl }

pub returns-in-Any : goal.returns-in-Any
returns-in-Any c = λ P G bs F S. chosen_any (c.loop-node.invariant P G bs F S) c.loop-node-test.true (c.code_at-code.ensures.used (λ u. let is = c.in-Any.is in cc)) (sym (ap (λ (x : Code). x.op) c.code_at-code.ensures.code) ∙ c.in-Any.is)

pub returns-then-other-constructor : goal.returns-then-other-constructor
returns-then-other-constructor c = λ P G bs F S.
    chosen_fields (c.loop-node.invariant P G bs F S) c.loop-node-test.true (c.code_at-code.ensures.used (λ u. let is = c.in-Branch.is in cc)) (sym (ap (λ (x : Code). x.op) c.code_at-code.ensures.code) ∙ c.in-Branch.is) (search c.if-other-constructor.true)

pub returns-in_default : goal.returns-in_default
returns-in_default c = λ P G bs F S.
    let e = sym (ap (λ (x : Code). x.op) c.code_at-code.ensures.code) in
    absurd (no_branch (c.loop-node.invariant P G bs F S) c.loop-node-test.true (λ o. c.in_default.not-Any (sym e ∙ o)) (λ k n o. c.in_default.not-Branch k n (sym e ∙ o)))

pub loop-node-preserved : goal.loop-node-preserved
loop-node-preserved c = λ P G bs F S.
    let e = ap (λ (x : Code). x.past) c.code_at-code.ensures.code in
    subst (λ i. Going P c.args.script.now.code G c.args.constructor bs i c.args.past) (sym e)
    (going_on (c.loop-node.invariant P G bs F S) c.loop-node-test.true (sym (ap (λ (x : Code). x.op) c.code_at-code.ensures.code) ∙ c.in-Branch.is) (not_equal c.args.constructor c.in-Branch.other (λ q. c.if-other-constructor.false (sym q))))

pub returns : goal.returns
returns c = λ P G bs F S. chosen_none (c.loop-node.invariant P G bs F S) c.loop-node-test.false
