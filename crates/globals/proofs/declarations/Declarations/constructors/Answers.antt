use Rattle.std.proofs.Common.{◌≡◌, Err, Result, sym, ap, ◌∙◌, subst, rules}
use Rattle.globals.specs.Tallies.{Holds, seen_bound, also_variants, told}
use Rattle.script_refusals.specs.declared.refusal.Refused.{Refused}
use Rattle.globals.proofs.Constructors.{midway_next, midway_end, midway_refused, midway_said}
use Rattle.globals.proofs.declarations.Declarations.constructors.Goals as goal

pub returns-in_err-constructor-clause-told : goal.returns-in_err-constructor-clause-told
returns-in_err-constructor-clause-told c = λ t k cs next h n.
    let r = c.in_err-constructor.field-0.0 in
    let is : c.from_residual.result ≡ Err r = search rules in
    let after = next (seen_bound (also_variants c.args.datatype c.args.first k cs t)) in
    midway_refused c.args.parsed.now.text.now c.args.parsed.now.tables.now c.args.datatype c.args.first c.args.past k cs t c.each.i c.each.self r c.each-test.true c.in_err-constructor.ensures.told next (c.each.invariant t k cs h n)
    ∙ sym (ap (λ (x : Result (Unit {0}) Refused). told x after) is)

pub each-preserved : goal.each-preserved
each-preserved c = λ t k cs h n.
    midway_next c.args.parsed.now.text.now c.args.parsed.now.tables.now c.args.datatype c.args.first c.args.past k cs t c.each.i c.each.self c.constructor.new.self c.each-test.true
    (record { told_ok = c.in_ok-constructor.ensures.told; holds_ok = c.in_ok-constructor.ensures.holds })
    (c.each.invariant t k cs h n)

pub returns-clause-told : goal.returns-clause-told
returns-clause-told c = λ t k cs next h n.
    midway_said c.args.parsed.now.text.now c.args.parsed.now.tables.now c.args.datatype c.args.first c.args.past k cs t c.each.i c.each.self c.each-test.false next (c.each.invariant t k cs h n)

pub returns-clause-holds : goal.returns-clause-holds
returns-clause-holds c = λ t k cs h n.
    let m = c.each.invariant t k cs h n in
    let e = midway_end c.args.parsed.now.text.now c.args.parsed.now.tables.now c.args.datatype c.args.first c.args.past k cs t c.each.i c.each.self c.each-test.false m in
    subst (Holds c.args.parsed.now.text.now c.each.self) (sym e.1) m.holds
