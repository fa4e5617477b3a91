use Rattle.std.proofs.Common.{◌≤◌, length, drop, refl, ap, ◌∙◌, arith}
use Rattle.cells.specs.Values.{all_unit}
use Rattle.cells.proofs.RecordLaws.{filled, filled_six, filled_rest}
use Rattle.cells.proofs.records.CellRecord.new.Goals as goal

pub invariant_of-result : goal.invariant_of-result
invariant_of-result c =
    let vs = c.args.values.now in
    let few : length c.args.values.now ≤ 6 = omega (arith, c.if-values-gt-FIELDS.false) in
    let is = filled c.copy_from_slice.new.self vs c.copy_from_slice.ensures.after in
    record {
      six = ap length is ∙ filled_six vs few;
      few = few;
      rest = ap (λ fields. all_unit (drop (length vs) fields)) is ∙ filled_rest vs;
    }

pub returns : goal.returns
returns c = record {
  constructor_is = refl;
  used_is = refl;
  fields_are = filled c.copy_from_slice.new.self c.args.values.now c.copy_from_slice.ensures.after;
  spare_is = refl;
}
