use Rattle.std.proofs.Common.{sym}
use Rattle.std.proofs.lemmas.Result.{err_from_is_err_and}
use Rattle.forms.proofs.LookLaws.{not_closing}
use Rattle.forms.proofs.PatternLaws.{constructor_denied, constructor_parts}
use Rattle.forms.proofs.patterns.constructor_at.Goals as goal

pub returns-in_err-name-clause-told : goal.returns-in_err-name-clause-told
returns-in_err-name-clause-told c =
    let e = err_from_is_err_and c.from_residual.result c.from_residual.ensures.1 in
    rw (e.1, e.2) (constructor_denied c.args.text.now c.args.place c.args.inside _ (not_closing c.args.text.now c.args.inside c.closing_at.result c.closing_at.ensures (sym c.if-is_some.ensures)) c.in_err-name.ensures.told)

pub returns-clause-told : goal.returns-clause-told
returns-clause-told c = constructor_parts c.args.text.now c.args.place c.args.inside c.in_ok-name.name (not_closing c.args.text.now c.args.inside c.closing_at.result c.closing_at.ensures (sym c.if-is_some.ensures)) c.in_ok-name.ensures.told _ c.parts_at.ensures.told
