use Rattle.std.proofs.Common.{◌∷◌, ap, ◌∙◌, subst}
use Rattle.std.specs.Result.{result_ok}
use Rattle.data.proofs.Moves.{drop_held}
use Rattle.data.specs.Taking.{Out}
use Rattle.data.specs.Trees.{more}
use Rattle.machine.specs.Holding.{value_in}
use Rattle.handing.proofs.leaving.drop_slot.Goals as goal

pub returns-in-Some : goal.returns-in-Some
returns-in-Some g c = λ m₀ vs t ts o.
    let h = drop_held c.drop_value.ensures (subst (λ s. Out (g.S.CellStore.cells c.args.store.now) (value_in s ∷ vs) (more t ts) m₀) c.in-Some.is o) in
    (c.ok.ensures.value ∙ ap result_ok h.0, h.1)
