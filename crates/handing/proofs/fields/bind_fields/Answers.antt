use Rattle.std.proofs.Common.{◌≡◌, ◌+◌, ◌/◌, refl, sym, ap, ◌∙◌, subst, drop, min}
use Rattle.cells.specs.Records.{row}
use Rattle.handing.proofs.Fitting.{Fitting, row_front, row_all, turned, all_bound, fitting_first}
use Rattle.stack.specs.Items.{tops, room_of}
use Rattle.handing.proofs.fields.bind_fields.Goals as goal

pub loop-field-init : goal.loop-field-init
loop-field-init g c = (refl, λ m₀ xs vs env after n k b f h o. fitting_first xs vs env k b f h o)

pub returns-in_err-count-clause-law : goal.returns-in_err-count-clause-law
returns-in_err-count-clause-law g c = λ m₀ xs vs env after n k b f h o.
    let r = c.args.contents in
    let F = subst (λ fs. Fitting fs c.loop-field.rest c.loop-field.total (room_of c.args.slots.now) (tops c.loop-field.slots) after n (g.S.CellStore.cells c.loop-field.store) m₀) (row_front (row r) c.loop-field.field-index c.loop-field-test.true) (c.loop-field.invariant.1 m₀ xs vs env after n k b f h o) in
    let T = turned c.loop-field.invariant.0 F c.in_err-count.ensures.bound c.in_err-count.ensures.skipped in
    let e = T.is in
    absurd (cc)

pub loop-field-preserved : goal.loop-field-preserved
loop-field-preserved g c = (
  c.bind_field.ensures.room ∙ c.loop-field.invariant.0,
  λ m₀ xs vs env after n k b f h o.
      let r = c.args.contents in
      let F = subst (λ fs. Fitting fs c.loop-field.rest c.loop-field.total (room_of c.args.slots.now) (tops c.loop-field.slots) after n (g.S.CellStore.cells c.loop-field.store) m₀) (row_front (row r) c.loop-field.field-index c.loop-field-test.true) (c.loop-field.invariant.1 m₀ xs vs env after n k b f h o) in
      let T = turned c.loop-field.invariant.0 F c.in_ok-count.ensures.bound c.in_ok-count.ensures.skipped in
      let is = T.is in
      let e : T.number ≡ c.in_ok-count.count = cc in
      subst (λ t. Fitting (drop (c.loop-field.field-index + 1) (row r)) (c.loop-field.rest / 2) t (room_of c.args.slots.now) (tops c.bind_field.new.slots) after n (g.S.CellStore.cells c.bind_field.new.store) m₀)
      (ap (λ n. min (c.loop-field.total + n) 18446744073709551615) e ∙ sym c.saturating_add-total.ensures) T.left,
)

pub returns-clause-law : goal.returns-clause-law
returns-clause-law g c = λ m₀ xs vs env after n k b f h o.
    let r = c.args.contents in
    all_bound (subst (λ fs. Fitting fs c.loop-field.rest c.loop-field.total (room_of c.args.slots.now) (tops c.loop-field.slots) after n (g.S.CellStore.cells c.loop-field.store) m₀) (row_all (row r) c.loop-field.field-index c.loop-field-test.false) (c.loop-field.invariant.1 m₀ xs vs env after n k b f h o))
