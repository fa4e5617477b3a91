use Rattle.std.proofs.Common.{inl, inr}
use Rattle.calling.proofs.Defines.{called}
use Rattle.machine.proofs.Resting.{by_rule}
use Rattle.machine.specs.Mirrors.{moved_any}
use Rattle.calling.proofs.calls.enter_body.Goals as goal

pub returns-clause-law : goal.returns-clause-law
returns-clause-law c = λ P Z m₀ m s k K env a p d R here is.
    let put = c.replace_top.ensures in
    elim (called R p c.args.at c.args.number d c.function_at-function.result c.replace_top.new.self here is c.function_at-function.ensures put.room put.tops) [
      | inl none ↦ by_rule none moved_any
      | inr o ↦ by_rule o.is (c.go.ensures.law P Z m₀ m s o.waits o.entries a d.body o.rests o.stands)
    ]
