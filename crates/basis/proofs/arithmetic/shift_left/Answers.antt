use Rattle.std.proofs.Common.{w32, of_z, rules}
use Rattle.std.proofs.lemmas.Int.{to_z-of_z}
use Rattle.basis.proofs.Shifts.{left_shift_law}
use Rattle.basis.proofs.Wrapping.{shifted_left}
use Rattle.basis.proofs.arithmetic.shift_left.Goals as goal

pub returns : goal.returns
returns c =
    let e = shifted_left c.args.a (of_z w32 c.args.amount) c.ranges.a in
    record {
      value = search (rules, to_z-of_z, e);
      law = left_shift_law c.args.a c.args.amount _ c.ranges.amount (search (rules, to_z-of_z, e));
    }
