use Rattle.rules.proofs.OrderLaw.{tests_in_order}
use Rattle.rules.proofs.laws.tests_in_order.Goals as goal

pub returns : goal.returns
returns c = record { order = tests_in_order }
