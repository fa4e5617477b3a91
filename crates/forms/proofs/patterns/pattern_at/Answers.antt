use Rattle.std.proofs.lemmas.Result.{err_from_is_err_and}
use Rattle.forms.proofs.PatternLaws.{pattern_list, pattern_denied}
use Rattle.forms.proofs.patterns.pattern_at.Goals as goal

pub returns-in_err-after-in-Open-clause-told : goal.returns-in_err-after-in-Open-clause-told
returns-in_err-after-in-Open-clause-told c =
    let sees = c.in-Open.ensures in
    let e = err_from_is_err_and c.from_residual.result c.from_residual.ensures.1 in
    rw (e.1, e.2) (λ s rest n e a. pattern_denied c.args.text.now c.args.place s rest n e a sees.0 sees.1.0 c.in-Open.place c.in-Open.inside _ sees.1.1 c.in_err-after-in-Open.ensures.told)

pub returns-in_ok-after-in-Open-clause-told : goal.returns-in_ok-after-in-Open-clause-told
returns-in_ok-after-in-Open-clause-told c =
    let sees = c.in-Open.ensures in
    λ s rest n e a. pattern_list c.args.text.now c.args.place s rest n e a sees.0 sees.1.0 c.in-Open.place c.in-Open.inside c.in_ok-after-in-Open.after sees.1.1 c.in_ok-after-in-Open.ensures.told
