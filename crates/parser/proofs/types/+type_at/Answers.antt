use Rattle.std.proofs.Common.{sym, arith}
use Rattle.std.proofs.lemmas.Result.{err_from_is_err_and}
use Rattle.grammar.specs.Reading.{read_type}
use Rattle.parser.proofs.TypeLaws.{types_end, types_next, types_stop, types_seventh, list_open, arrow_made, arrow_open, arrow_refused, arrow_stopped, type_atom_law, type_wrong, type_arrow}
use Rattle.parser.proofs.types.+type_at.Goals as goal

pub function_type-returns-in_err-middle-clause-told : goal.function_type-returns-in_err-middle-clause-told
function_type-returns-in_err-middle-clause-told t c =
    let e = err_from_is_err_and c.from_residual-in_err-middle.result c.from_residual-in_err-middle.ensures.1 in
    rw (e.1, e.2) (arrow_stopped c.args.source.now.text.now c.args.spot c.args.types.now c.args.place (read_type c.args.depth) c.in_ok-first.first (sym c.in_ok-first.ensures) c.in_err-middle.field-0.0 c.type_list.new.types c.in_err-middle.ensures.told)

pub function_type-returns-in_err-end-clause-told : goal.function_type-returns-in_err-end-clause-told
function_type-returns-in_err-end-clause-told t c =
    let e = err_from_is_err_and c.from_residual-in_err-end.result c.from_residual-in_err-end.ensures.1 in
    rw (e.1, e.2) (arrow_refused c.args.source.now.text.now c.args.spot c.args.types.now c.args.place (read_type c.args.depth) c.in_ok-first.first (sym c.in_ok-first.ensures) c.in_ok-middle.middle c.type_list.new.types c.type_at.new.types c.in_ok-middle.ensures.told c.in_err-end.field-0.0 c.in_err-end.ensures.told)

pub function_type-returns-in_err-after-clause-told : goal.function_type-returns-in_err-after-clause-told
function_type-returns-in_err-after-clause-told t c =
    let e = err_from_is_err_and c.from_residual-in_err-after.result c.from_residual-in_err-after.ensures.1 in
    rw (e.1, e.2) (arrow_open c.args.source.now.text.now c.args.spot c.args.types.now c.args.place (read_type c.args.depth) c.in_ok-first.first (sym c.in_ok-first.ensures) c.in_ok-middle.middle c.type_list.new.types c.type_at.new.types c.in_ok-middle.ensures.told c.in_ok-end.end _ c.type_at.new.types c.in_ok-end.ensures.told c.in_err-after.ensures.0)

pub function_type-returns-clause-told : goal.function_type-returns-clause-told
function_type-returns-clause-told t c =
    arrow_made c.args.source.now.text.now c.args.spot c.args.types.now c.args.place (read_type c.args.depth) c.in_ok-first.first (sym c.in_ok-first.ensures) c.in_ok-middle.middle c.type_list.new.types c.type_at.new.types c.in_ok-middle.ensures.told c.in_ok-end.end c.in_ok-after.after c.in_ok-end.ensures.told c.in_ok-after.ensures

pub listed_types-returns-in-Some-clause-told : goal.listed_types-returns-in-Some-clause-told
listed_types-returns-in-Some-clause-told t c =
    c.parts.invariant.3 _ _ (types_end c.args.source.now.text.now (read_type c.args.depth) c.parts.at c.parts.types c.parts.count c.in-Some.after c.in-Some.ensures)

pub listed_types-returns-then-count-ge-LISTED-clause-told : goal.listed_types-returns-then-count-ge-LISTED-clause-told
listed_types-returns-then-count-ge-LISTED-clause-told t c =
    let many = c.if-count-ge-LISTED.true in
    c.parts.invariant.3 _ _ (types_seventh c.args.source.now.text.now (read_type c.args.depth) c.parts.at c.parts.types c.parts.count c.in_default.ensures (omega arith) c.seventh.result c.parts.types c.seventh.ensures)

pub listed_types-parts-preserved : goal.listed_types-parts-preserved
listed_types-parts-preserved t c =
    let inv = c.parts.invariant in
    let from = inv.0 in
    let part = c.in_ok-at.ensures in
    let forward = part.goes.0 in
    let more = part.goes.2 in
    let used = inv.4 in
    let few = c.if-count-ge-LISTED.false in (
      omega arith,
      part.goes.3,
      omega arith,
      λ r after h. inv.3 r after (types_next c.args.source.now.text.now (read_type c.args.depth) c.parts.at c.parts.types c.parts.count c.in_default.ensures (omega arith) c.in_ok-at.at c.type_at.new.types part.told r after h),
      omega arith,
    )

pub listed_types-returns-in_err-at-clause-told : goal.listed_types-returns-in_err-at-clause-told
listed_types-returns-in_err-at-clause-told t c =
    let few = c.if-count-ge-LISTED.false in
    let e = err_from_is_err_and c.from_residual.result c.from_residual.ensures.1 in
    rw (e.1, e.2) (c.parts.invariant.3 _ _ (types_stop c.args.source.now.text.now (read_type c.args.depth) c.parts.at c.parts.types c.parts.count c.in_default.ensures (omega arith) c.in_err-at.field-0.0 c.type_at.new.types c.in_err-at.ensures.told))

pub type_at-returns-then-not-is_arrow-clause-told : goal.type_at-returns-then-not-is_arrow-clause-told
type_at-returns-then-not-is_arrow-clause-told t c =
    let sees = c.in-Open.ensures in
    let deep = c.if-depth-eq0.false in
    type_wrong c.args.source.now.text.now c.args.spot c.args.types.now sees.0 sees.1.0 c.in-Open.at c.in-Open.inside sees.1.1 c.args.depth c.survey.result c.is_arrow.result c.survey.ensures c.is_arrow.ensures (omega arith) c.wrong-then-not-is_arrow.result c.args.types.now c.if-not-is_arrow.true c.wrong-then-not-is_arrow.ensures

pub type_at-returns-in-Atom-clause-told : goal.type_at-returns-in-Atom-clause-told
type_at-returns-in-Atom-clause-told t c =
    let sees = c.in-Atom.ensures in
    λ s rest n e a u. type_atom_law c.args.source.now.text.now c.args.spot c.args.types.now c.args.depth s rest n e c.in-Atom.kind sees.0 c.in-Atom.at c.in-Atom.after c.single_type.result c.single_type.new.types sees.1 sees.2
    (c.single_type.ensures.told c.args.source.now.text.now sees.0 n sees.1.spelt sees.1.size u)

pub type_at-returns-else-not-is_arrow-clause-told : goal.type_at-returns-else-not-is_arrow-clause-told
type_at-returns-else-not-is_arrow-clause-told t c =
    let sees = c.in-Open.ensures in
    let deep = c.if-depth-eq0.false in
    type_arrow c.args.source.now.text.now c.args.spot c.args.types.now sees.0 sees.1.0 c.in-Open.at c.in-Open.inside sees.1.1 c.args.depth c.survey.result c.is_arrow.result c.survey.ensures c.is_arrow.ensures (omega arith) c.behind.result c.function_type.result c.function_type.new.types c.if-not-is_arrow.false c.behind.ensures c.function_type.ensures.told

pub type_list-returns-clause-told : goal.type_list-returns-clause-told
type_list-returns-clause-told t c =
    let sees = c.in_ok-opened.ensures in
    list_open c.args.source.now.text.now c.args.spot c.args.types.now (read_type c.args.depth) sees.0 sees.1.0 _ c.in_ok-opened.opened.inside c.listed_types.result c.listed_types.new.types sees.1.1 c.listed_types.ensures.told
