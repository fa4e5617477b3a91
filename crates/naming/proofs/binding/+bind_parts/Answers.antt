use Rattle.std.proofs.Common.{◌≡◌, Some, Err, sym, refl, ap, ◌∙◌, subst, arith, rules}
use Rattle.naming.specs.Binding.{PartsAnswers}
use Rattle.naming.specs.Judges.{desk}
use Rattle.naming.proofs.PartsLaws.{part_refused, part_bound, part_later, part_skipped, part_skipped_later, part_end}
use Rattle.patterns.specs.Parts.{IsPart}
use Rattle.type_rows.specs.Rows.{row_at, kind_at}
use Rattle.naming.proofs.binding.+bind_parts.Goals as goal

pub returns-in_default-clause-bound : goal.returns-in_default-clause-bound
returns-in_default-clause-bound t c script xs τs last set ready at lie many six =
    part_end c.args.world.now script set c.args.row 0 c.args.height (row_at c.args.world.now.globals.now.rows.rows c.args.row).past (desk c.args.scope.now c.args.locals.now) ready refl xs τs (c.in_default.ensures.part xs set.short at)

pub returns-in_ok-bits-in-Some-name-clause-bound : goal.returns-in_ok-bits-in-Some-name-clause-bound
returns-in_ok-bits-in-Some-name-clause-bound t c script xs τs last set ready at lie many six =
    let is = c.rows-rows.ensures in
    let after = c.in-Some.part.after in
    let old = desk c.args.scope.now c.args.locals.now in
    let next : c.row-next.result.past ≡ (row_at c.args.world.now.globals.now.rows.rows c.args.row).past = ap (λ row. row.past) c.row-next.ensures ∙ ap (λ rows. (row_at rows.rows c.args.row).past) is in
    let part = subst (λ o. IsPart c.args.world.now.text.now xs (Some (record { name = o; after = after }))) c.in-Some-name.is (c.in-Some.ensures.part xs set.short at) in
    part_bound c.args.world.now script set c.args.row after c.args.height c.saturating_add.result c.row-next.result.past old ready c.in-Some-name.word c.kind.result (c.kind.ensures ∙ ap (λ rows. kind_at rows.rows c.args.row) is) next
    xs τs last (desk c.bind.new.scope c.bind.new.locals) (desk c.bind_parts.new.scope c.bind_parts.new.locals) c.in_ok-bits-in-Some-name.bits c.saturating_add-in-Some-name.result
    part lie many six c.in_ok-bind-in-Some-name.ensures.bound c.in_ok-bits-in-Some-name.ensures.bound (λ h. omega (arith, c.saturating_add.ensures)) (λ h. omega (arith, c.saturating_mul.ensures, c.saturating_add-in-Some-name.ensures))

pub returns-in_err-bits-in-Some-name-clause-bound : goal.returns-in_err-bits-in-Some-name-clause-bound
returns-in_err-bits-in-Some-name-clause-bound t c script xs τs last set ready at lie many six =
    let is = c.rows-rows.ensures in
    let after = c.in-Some.part.after in
    let old = desk c.args.scope.now c.args.locals.now in
    let next : c.row-next.result.past ≡ (row_at c.args.world.now.globals.now.rows.rows c.args.row).past = ap (λ row. row.past) c.row-next.ensures ∙ ap (λ rows. (row_at rows.rows c.args.row).past) is in
    let part = subst (λ o. IsPart c.args.world.now.text.now xs (Some (record { name = o; after = after }))) c.in-Some-name.is (c.in-Some.ensures.part xs set.short at) in
    let r = c.in_err-bits-in-Some-name.field-0.0 in
    let left : c.from_residual-in_err-bits-in-Some-name.result ≡ Err r = search rules in
    let new = desk c.bind_parts.new.scope c.bind_parts.new.locals in
    subst (λ x. PartsAnswers c.args.world.now script xs τs c.args.height old x new) (sym left)
    (part_later c.args.world.now script set c.args.row after c.args.height c.saturating_add.result c.row-next.result.past old ready c.in-Some-name.word c.kind.result (c.kind.ensures ∙ ap (λ rows. kind_at rows.rows c.args.row) is) next
    xs τs last (desk c.bind.new.scope c.bind.new.locals) new r part lie many six c.in_ok-bind-in-Some-name.ensures.bound c.in_err-bits-in-Some-name.ensures.bound)

pub returns-in_err-bind-in-Some-name-clause-bound : goal.returns-in_err-bind-in-Some-name-clause-bound
returns-in_err-bind-in-Some-name-clause-bound t c script xs τs last set ready at lie many six =
    let is = c.rows-rows.ensures in
    let after = c.in-Some.part.after in
    let old = desk c.args.scope.now c.args.locals.now in
    let next : c.row-next.result.past ≡ (row_at c.args.world.now.globals.now.rows.rows c.args.row).past = ap (λ row. row.past) c.row-next.ensures ∙ ap (λ rows. (row_at rows.rows c.args.row).past) is in
    let part = subst (λ o. IsPart c.args.world.now.text.now xs (Some (record { name = o; after = after }))) c.in-Some-name.is (c.in-Some.ensures.part xs set.short at) in
    let r = c.in_err-bind-in-Some-name.field-0.0 in
    let left : c.from_residual.result ≡ Err r = search rules in
    let new = desk c.bind.new.scope c.bind.new.locals in
    subst (λ x. PartsAnswers c.args.world.now script xs τs c.args.height old x new) (sym left)
    (part_refused c.args.world.now script set c.args.row after c.args.height c.args.height c.row-next.result.past old ready c.in-Some-name.word c.kind.result (c.kind.ensures ∙ ap (λ rows. kind_at rows.rows c.args.row) is) next
    xs τs last r new new part lie many c.in_err-bind-in-Some-name.ensures.bound)

pub returns-in_ok-bits-in-None-clause-bound : goal.returns-in_ok-bits-in-None-clause-bound
returns-in_ok-bits-in-None-clause-bound t c script xs τs last set ready at lie many six =
    let is = c.rows-rows.ensures in
    let after = c.in-Some.part.after in
    let old = desk c.args.scope.now c.args.locals.now in
    let next : c.row-next.result.past ≡ (row_at c.args.world.now.globals.now.rows.rows c.args.row).past = ap (λ row. row.past) c.row-next.ensures ∙ ap (λ rows. (row_at rows.rows c.args.row).past) is in
    let part = subst (λ o. IsPart c.args.world.now.text.now xs (Some (record { name = o; after = after }))) c.in-None.is (c.in-Some.ensures.part xs set.short at) in
    part_skipped c.args.world.now script set c.args.row after c.args.height c.row-next.result.past old ready next
    xs τs last (desk c.bind_parts-in-None.new.scope c.bind_parts-in-None.new.locals) c.in_ok-bits-in-None.bits c.saturating_mul-in-None.result
    part lie many six c.in_ok-bits-in-None.ensures.bound (λ h. omega (arith, c.saturating_mul-in-None.ensures))

pub returns-in_err-bits-in-None-clause-bound : goal.returns-in_err-bits-in-None-clause-bound
returns-in_err-bits-in-None-clause-bound t c script xs τs last set ready at lie many six =
    let is = c.rows-rows.ensures in
    let after = c.in-Some.part.after in
    let old = desk c.args.scope.now c.args.locals.now in
    let next : c.row-next.result.past ≡ (row_at c.args.world.now.globals.now.rows.rows c.args.row).past = ap (λ row. row.past) c.row-next.ensures ∙ ap (λ rows. (row_at rows.rows c.args.row).past) is in
    let part = subst (λ o. IsPart c.args.world.now.text.now xs (Some (record { name = o; after = after }))) c.in-None.is (c.in-Some.ensures.part xs set.short at) in
    let r = c.in_err-bits-in-None.field-0.0 in
    let left : c.from_residual-in_err-bits-in-None.result ≡ Err r = search rules in
    let new = desk c.bind_parts-in-None.new.scope c.bind_parts-in-None.new.locals in
    subst (λ x. PartsAnswers c.args.world.now script xs τs c.args.height old x new) (sym left)
    (part_skipped_later c.args.world.now script set c.args.row after c.args.height c.row-next.result.past old ready next xs τs last new r part lie many six c.in_err-bits-in-None.ensures.bound)
