use Rattle.std.proofs.Common.{◌∙◌, sym}
use Rattle.run.proofs.Placing.{waiting_place}
use Rattle.run.proofs.places.frame_place.Goals as goal

pub returns-in-Some : goal.returns-in-Some
returns-in-Some c = λ P G f K fs L W. c.place_at.ensures P ∙ waiting_place c.in-Some.at W (sym c.node_of.ensures ∙ c.in-Some.is)
