use Rattle.std.proofs.Common.{rules}
use lib.Signed.{quot_z}
use Rattle.std.proofs.lemmas.Int.{to_z-of_z}
use Rattle.basis.proofs.Divisions.{quotient_law}
use Rattle.basis.proofs.Wrapping.{wrapped_near, quotient_near}
use Rattle.basis.proofs.arithmetic.divide.Goals as goal

pub returns-else-b-eq0 : goal.returns-else-b-eq0
returns-else-b-eq0 c =
    let near = wrapped_near (quot_z c.args.a c.args.b) (quotient_near c.args.a c.args.b c.ranges.a) in
    record {
      value = search (rules, to_z-of_z, near);
      law = quotient_law c.args.a c.args.b c.ranges.a c.ranges.b c.if-b-eq0.false _ (search (rules, to_z-of_z, near));
    }
