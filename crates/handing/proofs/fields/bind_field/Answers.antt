use Rattle.std.proofs.Common.{refl, ap, ◌∙◌}
use Rattle.std.specs.Result.{result_ok}
use Rattle.data.proofs.Moves.{drop_held}
use Rattle.handing.proofs.fields.bind_field.Goals as goal

pub returns-clause-skipped : goal.returns-clause-skipped
returns-clause-skipped g c = λ n m₀ vs t ts o.
    let h = drop_held c.drop_value.ensures o in
    (c.ok-2.ensures.value ∙ ap result_ok h.0, refl, h.1)
