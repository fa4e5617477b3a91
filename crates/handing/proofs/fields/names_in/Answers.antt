use Rattle.std.proofs.Common.{ap, ◌∙◌}
use lib.Count.{ones}
use Rattle.handing.proofs.Patterns.{names_counted}
use Rattle.handing.proofs.fields.names_in.Goals as goal

pub returns : goal.returns
returns c = λ xs e. ap ones e ∙ names_counted xs
