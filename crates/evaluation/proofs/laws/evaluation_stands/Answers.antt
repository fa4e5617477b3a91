use Rattle.evaluation.proofs.Agreeing.{runs_agree}
use Rattle.evaluation.proofs.laws.evaluation_stands.Goals as goal

pub returns : goal.returns
returns c = record { runs = runs_agree }
