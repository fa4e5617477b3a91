use Rattle.std.proofs.Common.{◌≡◌, ◌+◌, ◌-◌, subst, arith}
use Rattle.std.proofs.lemmas.Result.{err_from_is_err_and}
use Rattle.grammar.specs.Reading.{read_parameters}
use Rattle.parser.specs.Listing.{OnNames}
use Rattle.parser.proofs.NameLaws.{names_end, names_stop, names_seventh, names_next}
use Rattle.parser.proofs.parameters.parameters.Goals as goal

pub parts-init : goal.parts-init
parts-init c =
    let none : c.args.spot.used - c.args.spot.used ≡ 0 = omega arith in
    (omega arith, omega arith, omega arith, λ entries r after h. subst (λ k. OnNames c.args.source.now.text.now c.args.spot c.args.words.now (read_parameters entries k) r after) none h)

pub returns-in-Some-clause-told : goal.returns-in-Some-clause-told
returns-in-Some-clause-told c =
    λ entries. c.parts.invariant.3 entries _ _ (names_end c.args.source.now.text.now entries c.parts.at c.parts.words _ c.in-Some.after c.in-Some.ensures)

pub returns-in_err-name-clause-told : goal.returns-in_err-name-clause-told
returns-in_err-name-clause-told c =
    let e = err_from_is_err_and c.from_residual.result c.from_residual.ensures.1 in
    rw (e.1, e.2) (λ entries. c.parts.invariant.3 entries _ _ (names_stop c.args.source.now.text.now entries c.parts.at c.parts.words _ c.in_default.ensures c.in_err-name.field-0.0 c.parts.words c.in_err-name.ensures.told))

pub returns-then-at-most-clause-told : goal.returns-then-at-most-clause-told
returns-then-at-most-clause-told c =
    let many = c.if-at-most.true in
    λ entries. c.parts.invariant.3 entries _ _ (names_seventh c.args.source.now.text.now entries c.parts.at c.parts.words _ c.in_default.ensures c.in_ok-name.name c.in_ok-name.ensures.told (omega arith) c.over_limit.result c.parts.words c.over_limit.ensures)

pub parts-preserved : goal.parts-preserved
parts-preserved c =
    let inv = c.parts.invariant in
    let from = inv.0 in
    let used = inv.1 in
    let few = c.if-at-most.false in
    let name = c.in_ok-name.ensures.goes in
    let within = name.1 in
    let short = c.args.source.now.short in
    let forward = name.0 in
    let count : c.parts.at.used + 1 - c.args.spot.used ≡ c.parts.at.used - c.args.spot.used + 1 = omega arith in (
      omega arith,
      omega arith,
      omega arith,
      λ entries r after h. inv.3 entries r after (names_next c.args.source.now.text.now entries c.parts.at c.parts.words _ c.in_default.ensures c.in_ok-name.name c.in_ok-name.ensures.told (omega arith) c.word.result (c.word.ensures name.2 name.3 (omega arith)) _ count r after h),
    )
