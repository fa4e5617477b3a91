use Rattle.std.proofs.Common.{◌≡◌, refl, sym, ◌∙◌}
use Rattle.handing.proofs.Views.{waiting_for, in_hand}
use Rattle.machine.proofs.Resting.{entered_at}
use Rattle.machine.specs.Holding.{names}
use Rattle.rules.specs.Runs.{main_of}
use Rattle.rules.specs.States.{st, finished}
use Rattle.rules.specs.Steps.{step_place}
use Rattle.run.proofs.Placing.{standing_place}
use Rattle.stepping.proofs.Turning.{on_enter, on_finished, on_waiting, on_none}
use Rattle.run.proofs.places.next_place.Goals as goal

pub returns-in-Enter : goal.returns-in-Enter
returns-in-Enter c = λ P Z m₀ m s M.
    on_enter (λ s. c.place_at.result ≡ step_place (main_of P) s) s M c.in-Enter.is (λ K env a e M. c.place_at.ensures P ∙ standing_place (entered_at c.in-Enter.is M))

pub returns-in-Some : goal.returns-in-Some
returns-in-Some c = λ P Z m₀ m s M.
    on_finished (λ s. c.frame_place.result ≡ step_place (main_of P) s) s M c.in-Finished.is
    (λ K env a t M. on_waiting K (λ K. c.frame_place.result ≡ step_place (main_of P) (st K env (finished t) a)) M c.in-Finished.is (sym c.top.ensures ∙ c.in-Some.is)
    (λ f K H. c.frame_place.ensures P (names env) f K H.others (in_hand H.value H.mirrored).ready.lays (waiting_for H)))

pub returns-in-None : goal.returns-in-None
returns-in-None c = λ P Z m₀ m s M.
    on_finished (λ s. 0 ≡ step_place (main_of P) s) s M c.in-Finished.is
    (λ K env a t M. on_none K (λ K. 0 ≡ step_place (main_of P) (st K env (finished t) a)) M (sym c.top.ensures ∙ c.in-None.is) refl)
