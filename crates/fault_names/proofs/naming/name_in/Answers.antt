use Rattle.std.proofs.Common.{rules}
use Rattle.fault_names.proofs.PartLaws.{stands}
use Rattle.fault_names.proofs.naming.name_in.Goals as goal

pub returns-in-Basis-clause-part : goal.returns-in-Basis-clause-part
returns-in-Basis-clause-part c = stands c.args.basis_names.now c.args.text.now c.args.function _ (search rules)

pub returns-in-Text-clause-part : goal.returns-in-Text-clause-part
returns-in-Text-clause-part c = stands c.args.basis_names.now c.args.text.now c.args.function _ (search rules)
