use Rattle.std.proofs.Common.{drop, sym, refl, ap, ◌∙◌, subst}
use Rattle.handing.proofs.Views.{HandedBy, in_hand, waiting_for, on_arm}
use Rattle.machine.proofs.Resting.{reframed}
use Rattle.machine.specs.Holding.{names}
use Rattle.machine.specs.Waiting.{Waits}
use Rattle.rules.specs.Steps.{hand, finish}
use Rattle.handing.proofs.parts.hand_arm.Goals as goal

pub returns-clause-law : goal.returns-clause-law
unfolding hand finish
returns-clause-law c = λ P Z m₀ m f K env a t H.
    let r = c.args.machine.now in
    let cut = c.cut.ensures in
    on_arm (HandedBy P Z m₀ K env a t r m c.finish.result c.finish.new.self m) (waiting_for H)
    (λ p here w M. c.finish.ensures.law P Z m₀ m _ K env a t (reframed (in_hand H.value M) c.cut.new.self cut.room (subst (Waits P r.script.now.code (names env) K) (sym (cut.tops ∙ ap (drop 1) H.stacked)) w) refl)) H.mirrored
