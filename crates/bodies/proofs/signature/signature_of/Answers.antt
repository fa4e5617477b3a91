use Rattle.std.proofs.Common.{ap, arith}
use Rattle.bodies.proofs.HeadLaws.{signs_function}
use Rattle.bodies.proofs.signature.signature_of.Goals as goal

pub returns : goal.returns
returns c m mean valid =
    signs_function c.args.rows.now.rows m mean c.args.kind c.in-Function.k c.in-Function.is valid c.saturating_add.result c.row-result.result.result c.kind.result
    (ap (λ row. row.result) c.row-result.ensures) (omega (arith, c.row-result.type_inv)) (λ h. omega (arith, c.saturating_add.ensures)) c.kind.ensures
