use Rattle.layout.proofs.ScriptStanding.{script_stands, script_only}
use Rattle.layout.proofs.laws.layout_stands.Goals as goal

pub returns : goal.returns
returns c = record { stands = script_stands; only = script_only }
