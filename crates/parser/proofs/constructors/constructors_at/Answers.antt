use Rattle.std.proofs.Common.{arith}
use Rattle.std.proofs.lemmas.Result.{err_from_is_err_and}
use Rattle.parser.proofs.ConstructorLaws.{row_end, row_stop, row_next}
use Rattle.parser.proofs.constructors.constructors_at.Goals as goal

pub returns-in-Some-clause-told : goal.returns-in-Some-clause-told
returns-in-Some-clause-told c =
    λ entries. c.parts.invariant.4 entries _ _ _ (row_end c.args.source.now.text.now c.args.datatype entries c.parts.at c.parts.types c.parts.table c.in-Some.after c.in-Some.ensures)

pub returns-in_err-at-clause-told : goal.returns-in_err-at-clause-told
returns-in_err-at-clause-told c =
    let e = err_from_is_err_and c.from_residual.result c.from_residual.ensures.1 in
    rw (e.1, e.2) (λ entries. c.parts.invariant.4 entries _ _ _ (row_stop c.args.source.now.text.now c.args.datatype entries c.parts.at c.parts.types c.parts.table c.in_default.ensures c.in_err-at.field-0.0 c.constructor_at.new.types c.constructor_at.new.types c.constructor_at.new.table c.constructor_at.new.table (c.in_err-at.ensures.told entries)))

pub parts-preserved : goal.parts-preserved
parts-preserved c =
    let inv = c.parts.invariant in
    let from = inv.0 in
    let more = inv.1 in
    let part = c.in_ok-at.ensures in
    let forward = part.goes.0 in
    let types = part.goes.2 in (
      omega arith,
      omega arith,
      part.goes.3,
      part.goes.4,
      λ entries r ts' cs' h. inv.4 entries r ts' cs' (row_next c.args.source.now.text.now c.args.datatype entries c.parts.at c.parts.types c.parts.table c.in_default.ensures c.in_ok-at.at c.constructor_at.new.types c.constructor_at.new.table (part.told entries) r ts' cs' h),
    )
