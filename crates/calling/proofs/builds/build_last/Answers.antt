use Rattle.std.proofs.Common.{◌≡◌, ◌+◌, inl, inr, take, length, ap, arith, length-take}
use Rattle.calling.proofs.Gathered.{missing, build_done, build_refused}
use Rattle.machine.proofs.Resting.{by_rule, same_store, in_hand_law, faulted_as}
use Rattle.data.specs.Trees.{built}
use Rattle.rules.specs.States.{takes}
use Rattle.machine.specs.Mirrors.{moved_any}
use Rattle.rules.specs.Faults.{store_fault}
use Rattle.std.proofs.lemmas.Option.{MatchOption-at_none, MatchOption-at_some}
use Rattle.calling.proofs.builds.build_last.Goals as goal

pub returns-in_err-fields-clause-law : goal.returns-in_err-fields-clause-law
returns-in_err-fields-clause-law g c = λ P Z m₀ s K env a p es t top others M R stacked w few. by_rule (missing R stacked w (MatchOption-at_none _ _ c.in_err-fields.ensures.ok_part c.gather.ensures)) moved_any

pub returns-clause-law : goal.returns-clause-law
returns-clause-law g c = λ P Z m₀ s K env a p es t top others M R stacked w few.
    let frames = c.cut.ensures in
    let slots = c.cut-2.ensures in
    let G = MatchOption-at_some _ _ c.in_ok-fields.fields c.in_ok-fields.ensures.ok_part c.gather.ensures in
    let row = take (c.args.held + 1) c.in_ok-fields.fields in
    let long : length row ≡ c.args.held + 1 = omega (arith, length-take (c.args.held + 1) c.in_ok-fields.fields, G.long) in
    elim (build_done R stacked w c.cut.new.self c.cut-2.new.self c.in_ok-cell.cell c.saturating_add-machine.result row c.in_ok-contents.contents _ frames.room frames.tops slots.room slots.tops G.row long (MatchOption-at_some _ _ c.in_ok-contents.contents c.in_ok-contents.ensures.ok_part c.new.ensures) c.in_ok-cell.ensures c.saturating_add-machine.ensures) [
      | inl not ↦ by_rule not moved_any
      | inr b ↦ by_rule b.2 (c.finish.ensures.law P Z m₀ _ s K b.1 (takes 1 a) (built c.args.constructor b.0)
          (in_hand_law c.cell.ensures b.3))
    ]

pub returns-in_err-cell-clause-law : goal.returns-in_err-cell-clause-law
returns-in_err-cell-clause-law g c = λ P Z m₀ s K env a p es t top others M R stacked w few.
    elim (build_refused R stacked w c.in_err-cell.ensures) [
      | inl not ↦ by_rule not moved_any
      | inr lacks ↦ by_rule lacks (faulted_as c.from_residual-in_err-cell.result c.from_residual-in_err-cell.ensures.1 (ap store_fault c.in_err-cell.ensures.number) (same_store c.in_err-cell.ensures.same M))
    ]
