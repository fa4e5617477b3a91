use Rattle.std.proofs.Common.{◌≡◌, length, Some, None, Ok, Err, sym, ap, ◌∙◌, subst, arith, rules}
use Rattle.std.proofs.lemmas.Result.{err_from_is_err_and}
use Rattle.forms.specs.Drafts.{encode}
use Rattle.forms.specs.Kinds.{form_kind}
use Rattle.forms.specs.Parts.{encode_binding, encode_branch, OnPart, OnEach}
use Rattle.grammar.specs.Reading.{read_expr, read_binding, binding_of, read_branch, branch_of}
use Rattle.forms.specs.Rows.{read_each, encode_each}
use Rattle.forms.specs.declared.form.FormKind.TheVariants as formkind
use Rattle.text.specs.Scans.{refused_at}
use Rattle.text.specs.declared.refusal.Refusal.TheVariants as refusal
use Rattle.forms.proofs.ReaderLaws.{half_start, half_next, half_end, half_refused, row_made, row_refused, by_view, on_if, on_begin, on_let, on_case, on_dup, on_apply, on_wrong, expr_atom_law, expr_list, on_pair, pair_binding, pair_branch, bound_made, bound_refused, bound_unnamed, arm_made, arm_refused, arm_unmatched, case_made, case_refused, case_stopped, let_made, let_refused, let_stopped}
use Rattle.forms.proofs.expressions.+expression.Goals as goal

pub row-returns-in_err-end-clause-told : goal.row-returns-in_err-end-clause-told
row-returns-in_err-end-clause-told t c =
    let e = err_from_is_err_and c.from_residual-in_err-end.result c.from_residual-in_err-end.ensures.1 in
    rw (e.1, e.2) (row_refused c.args.source.now.text.now c.args.spot c.args.nodes.now (length c.args.nodes.now) c.args.place c.args.form (read_expr (length c.args.nodes.now) c.args.depth) c.in_ok-first.first c.in_err-end.field-0.0 c.expressions.new.nodes (sym c.in_ok-first.ensures) c.in_err-end.ensures.told)

pub row-returns-clause-told : goal.row-returns-clause-told
row-returns-clause-told t c =
    rw c.close.ensures (row_made c.args.source.now.text.now c.args.spot c.args.nodes.now (length c.args.nodes.now) c.args.place c.args.form (read_expr (length c.args.nodes.now) c.args.depth) c.in_ok-first.first c.in_ok-end.end c.expressions.new.nodes (sym c.in_ok-first.ensures) c.in_ok-end.ensures.told)

pub expressions-parts-init : goal.expressions-parts-init
expressions-parts-init t c =
    (omega arith, c.requires, half_start (read_expr (length c.args.nodes.now) c.args.depth) encode c.args.source.now.text.now c.args.spot c.args.nodes.now)

pub expressions-returns-in-Some-clause-told : goal.expressions-returns-in-Some-clause-told
expressions-returns-in-Some-clause-told t c =
    half_end (read_expr (length c.args.nodes.now) c.args.depth) encode c.args.source.now.text.now c.args.spot c.args.nodes.now c.parts.at c.parts.nodes c.parts.invariant.2 c.in-Some.after c.in-Some.ensures

pub expressions-parts-preserved : goal.expressions-parts-preserved
expressions-parts-preserved t c =
    let inv = c.parts.invariant in
    let from = inv.0 in
    let part = c.in_ok-at.ensures in
    let forward = part.goes.0 in
    let long : length c.parts.nodes ≡ length c.args.nodes.now = c.parts.auto.nodes in (
      omega arith,
      part.goes.2,
      half_next (read_expr (length c.args.nodes.now) c.args.depth) encode c.args.source.now.text.now c.args.spot c.args.nodes.now c.parts.at c.parts.nodes inv.2 c.in_default.ensures c.in_ok-at.at c.expression.new.nodes
          (subst (λ k. OnPart c.args.source.now.text.now c.parts.at c.parts.nodes encode (read_expr k c.args.depth) (Ok c.in_ok-at.at) c.expression.new.nodes) long part.told),
    )

pub expressions-returns-in_err-at-clause-told : goal.expressions-returns-in_err-at-clause-told
expressions-returns-in_err-at-clause-told t c =
    let inv = c.parts.invariant in
    let part = c.in_err-at.ensures in
    let long : length c.parts.nodes ≡ length c.args.nodes.now = c.parts.auto.nodes in
    let e = err_from_is_err_and c.from_residual.result c.from_residual.ensures.1 in
    rw (e.1, e.2) (half_refused (read_expr (length c.args.nodes.now) c.args.depth) encode c.args.source.now.text.now c.args.spot c.args.nodes.now c.parts.at c.parts.nodes inv.2 c.in_default.ensures c.in_err-at.field-0.0 c.expression.new.nodes
    (subst (λ k. OnPart c.args.source.now.text.now c.parts.at c.parts.nodes encode (read_expr k c.args.depth) (Err c.in_err-at.field-0.0) c.expression.new.nodes) long part.told))

pub bindings-parts-init : goal.bindings-parts-init
bindings-parts-init t c =
    (omega arith, c.requires, half_start (read_binding (length c.args.nodes.now) (read_expr (length c.args.nodes.now) c.args.depth)) encode_binding c.args.source.now.text.now c.args.spot c.args.nodes.now)

pub bindings-returns-in-Some-clause-told : goal.bindings-returns-in-Some-clause-told
bindings-returns-in-Some-clause-told t c =
    half_end (read_binding (length c.args.nodes.now) (read_expr (length c.args.nodes.now) c.args.depth)) encode_binding c.args.source.now.text.now c.args.spot c.args.nodes.now c.parts.at c.parts.nodes c.parts.invariant.2 c.in-Some.after c.in-Some.ensures

pub bindings-parts-preserved : goal.bindings-parts-preserved
bindings-parts-preserved t c =
    let inv = c.parts.invariant in
    let from = inv.0 in
    let part = c.in_ok-at.ensures in
    let forward = part.goes.0 in
    let long : length c.parts.nodes ≡ length c.args.nodes.now = c.parts.auto.nodes in (
      omega arith,
      part.goes.2,
      half_next (read_binding (length c.args.nodes.now) (read_expr (length c.args.nodes.now) c.args.depth)) encode_binding c.args.source.now.text.now c.args.spot c.args.nodes.now c.parts.at c.parts.nodes inv.2 c.in_default.ensures c.in_ok-at.at c.binding.new.nodes
          (subst (λ k. OnPart c.args.source.now.text.now c.parts.at c.parts.nodes encode_binding (read_binding k (read_expr k c.args.depth)) (Ok c.in_ok-at.at) c.binding.new.nodes) long part.told),
    )

pub bindings-returns-in_err-at-clause-told : goal.bindings-returns-in_err-at-clause-told
bindings-returns-in_err-at-clause-told t c =
    let inv = c.parts.invariant in
    let part = c.in_err-at.ensures in
    let long : length c.parts.nodes ≡ length c.args.nodes.now = c.parts.auto.nodes in
    let e = err_from_is_err_and c.from_residual.result c.from_residual.ensures.1 in
    rw (e.1, e.2) (half_refused (read_binding (length c.args.nodes.now) (read_expr (length c.args.nodes.now) c.args.depth)) encode_binding c.args.source.now.text.now c.args.spot c.args.nodes.now c.parts.at c.parts.nodes inv.2 c.in_default.ensures c.in_err-at.field-0.0 c.binding.new.nodes
    (subst (λ k. OnPart c.args.source.now.text.now c.parts.at c.parts.nodes encode_binding (read_binding k (read_expr k c.args.depth)) (Err c.in_err-at.field-0.0) c.binding.new.nodes) long part.told))

pub branches-parts-init : goal.branches-parts-init
branches-parts-init t c =
    (omega arith, c.requires, half_start (read_branch (length c.args.nodes.now) (read_expr (length c.args.nodes.now) c.args.depth)) encode_branch c.args.source.now.text.now c.args.spot c.args.nodes.now)

pub branches-returns-in-Some-clause-told : goal.branches-returns-in-Some-clause-told
branches-returns-in-Some-clause-told t c =
    half_end (read_branch (length c.args.nodes.now) (read_expr (length c.args.nodes.now) c.args.depth)) encode_branch c.args.source.now.text.now c.args.spot c.args.nodes.now c.parts.at c.parts.nodes c.parts.invariant.2 c.in-Some.after c.in-Some.ensures

pub branches-parts-preserved : goal.branches-parts-preserved
branches-parts-preserved t c =
    let inv = c.parts.invariant in
    let from = inv.0 in
    let part = c.in_ok-at.ensures in
    let forward = part.goes.0 in
    let long : length c.parts.nodes ≡ length c.args.nodes.now = c.parts.auto.nodes in (
      omega arith,
      part.goes.2,
      half_next (read_branch (length c.args.nodes.now) (read_expr (length c.args.nodes.now) c.args.depth)) encode_branch c.args.source.now.text.now c.args.spot c.args.nodes.now c.parts.at c.parts.nodes inv.2 c.in_default.ensures c.in_ok-at.at c.branch-source.new.nodes
          (subst (λ k. OnPart c.args.source.now.text.now c.parts.at c.parts.nodes encode_branch (read_branch k (read_expr k c.args.depth)) (Ok c.in_ok-at.at) c.branch-source.new.nodes) long part.told),
    )

pub branches-returns-in_err-at-clause-told : goal.branches-returns-in_err-at-clause-told
branches-returns-in_err-at-clause-told t c =
    let inv = c.parts.invariant in
    let part = c.in_err-at.ensures in
    let long : length c.parts.nodes ≡ length c.args.nodes.now = c.parts.auto.nodes in
    let e = err_from_is_err_and c.from_residual.result c.from_residual.ensures.1 in
    rw (e.1, e.2) (half_refused (read_branch (length c.args.nodes.now) (read_expr (length c.args.nodes.now) c.args.depth)) encode_branch c.args.source.now.text.now c.args.spot c.args.nodes.now c.parts.at c.parts.nodes inv.2 c.in_default.ensures c.in_err-at.field-0.0 c.branch-source.new.nodes
    (subst (λ k. OnPart c.args.source.now.text.now c.parts.at c.parts.nodes encode_branch (read_branch k (read_expr k c.args.depth)) (Err c.in_err-at.field-0.0) c.branch-source.new.nodes) long part.told))

pub expression-returns-in-Atom-clause-told : goal.expression-returns-in-Atom-clause-told
expression-returns-in-Atom-clause-told t c =
    let sees = c.in-Atom.ensures in
    λ s rest n e a u. expr_atom_law c.args.source.now.text.now c.args.spot c.args.nodes.now (length c.args.nodes.now) c.args.depth s rest n e c.in-Atom.kind sees.0 c.in-Atom.at c.in-Atom.after c.single.result c.single.new.nodes sees.1 sees.2
    (c.single.ensures.told c.args.source.now.text.now sees.0 n sees.1.spelt sees.1.size u)

pub expression-returns-else-depth-eq0-clause-told : goal.expression-returns-else-depth-eq0-clause-told
expression-returns-else-depth-eq0-clause-told t c =
    let sees = c.in-Open.ensures in
    let deep = c.if-depth-eq0.false in
    expr_list c.args.source.now.text.now c.args.spot c.args.nodes.now sees.0 sees.1.0 c.in-Open.at c.in-Open.inside sees.1.1 (length c.args.nodes.now) c.args.depth c.list.result c.list.new.nodes (omega arith) c.list.ensures.told

pub binding-returns-clause-told : goal.binding-returns-clause-told
binding-returns-clause-told t c =
    on_pair c.args.source.now.text.now c.args.spot c.args.nodes.now encode_binding (binding_of (length c.args.nodes.now) (read_expr (length c.args.nodes.now) c.args.depth)) (read_binding (length c.args.nodes.now) (read_expr (length c.args.nodes.now) c.args.depth)) (pair_binding (length c.args.nodes.now) (read_expr (length c.args.nodes.now) c.args.depth)) c.in_ok-opened.opened c.bound.result c.bound.new.nodes c.in_ok-opened.ensures.told c.bound.ensures.told

pub branch-returns-clause-told : goal.branch-returns-clause-told
branch-returns-clause-told t c =
    on_pair c.args.source.now.text.now c.args.spot c.args.nodes.now encode_branch (branch_of (length c.args.nodes.now) (read_expr (length c.args.nodes.now) c.args.depth)) (read_branch (length c.args.nodes.now) (read_expr (length c.args.nodes.now) c.args.depth)) (pair_branch (length c.args.nodes.now) (read_expr (length c.args.nodes.now) c.args.depth)) c.in_ok-opened.opened c.arm.result c.arm.new.nodes c.in_ok-opened.ensures.told c.arm.ensures.told

pub bound-returns-in_err-name-clause-told : goal.bound-returns-in_err-name-clause-told
bound-returns-in_err-name-clause-told t c =
    let e = err_from_is_err_and c.from_residual-in_err-name.result c.from_residual-in_err-name.ensures.1 in
    rw (e.1, e.2) (bound_unnamed c.args.source.now.text.now c.args.spot c.args.nodes.now (length c.args.nodes.now) c.args.place c.in_ok-first.first (read_expr (length c.args.nodes.now) c.args.depth) (sym c.in_ok-first.ensures) c.in_err-name.field-0.0 c.args.nodes.now c.in_err-name.ensures.told)

pub bound-returns-in_err-end-clause-told : goal.bound-returns-in_err-end-clause-told
bound-returns-in_err-end-clause-told t c =
    let e = err_from_is_err_and c.from_residual-in_err-end.result c.from_residual-in_err-end.ensures.1 in
    rw (e.1, e.2) (bound_refused c.args.source.now.text.now c.args.spot c.args.nodes.now (length c.args.nodes.now) c.args.place c.in_ok-first.first (read_expr (length c.args.nodes.now) c.args.depth) (sym c.in_ok-first.ensures) c.in_ok-name.name c.in_err-end.field-0.0 c.expressions.new.nodes c.in_ok-name.ensures.told c.in_err-end.ensures.told)

pub bound-returns-clause-told : goal.bound-returns-clause-told
bound-returns-clause-told t c =
    let head = c.in_ok-name.ensures in
    let within = head.goes.1 in
    let short = c.args.source.now.short in
    rw (c.close.ensures, c.word.ensures head.goes.2 head.goes.3 (omega arith)) (bound_made c.args.source.now.text.now c.args.spot c.args.nodes.now (length c.args.nodes.now) c.args.place c.in_ok-first.first (read_expr (length c.args.nodes.now) c.args.depth) (sym c.in_ok-first.ensures) c.in_ok-name.name c.in_ok-end.end c.expressions.new.nodes head.told c.in_ok-end.ensures.told)

pub arm-returns-in_err-pattern-clause-told : goal.arm-returns-in_err-pattern-clause-told
arm-returns-in_err-pattern-clause-told t c =
    let e = err_from_is_err_and c.from_residual-in_err-pattern.result c.from_residual-in_err-pattern.ensures.1 in
    rw (e.1, e.2) (arm_unmatched c.args.source.now.text.now c.args.spot c.args.nodes.now (length c.args.nodes.now) c.args.place c.in_ok-first.first (read_expr (length c.args.nodes.now) c.args.depth) (sym c.in_ok-first.ensures) c.in_err-pattern.field-0.0 c.args.nodes.now c.in_err-pattern.ensures.told)

pub arm-returns-in_err-end-clause-told : goal.arm-returns-in_err-end-clause-told
arm-returns-in_err-end-clause-told t c =
    let e = err_from_is_err_and c.from_residual-in_err-end.result c.from_residual-in_err-end.ensures.1 in
    rw (e.1, e.2) (arm_refused c.args.source.now.text.now c.args.spot c.args.nodes.now (length c.args.nodes.now) c.args.place c.in_ok-first.first (read_expr (length c.args.nodes.now) c.args.depth) (sym c.in_ok-first.ensures) c.in_ok-pattern.pattern c.in_err-end.field-0.0 c.expressions.new.nodes c.in_ok-pattern.ensures.told c.in_err-end.ensures.told)

pub arm-returns-clause-told : goal.arm-returns-clause-told
arm-returns-clause-told t c =
    rw c.close.ensures (arm_made c.args.source.now.text.now c.args.spot c.args.nodes.now (length c.args.nodes.now) c.args.place c.in_ok-first.first (read_expr (length c.args.nodes.now) c.args.depth) (sym c.in_ok-first.ensures) c.in_ok-pattern.pattern c.in_ok-end.end c.expressions.new.nodes c.in_ok-pattern.ensures.told c.in_ok-end.ensures.told)

pub case_form-returns-in_err-middle-clause-told : goal.case_form-returns-in_err-middle-clause-told
case_form-returns-in_err-middle-clause-told t c =
    let e = err_from_is_err_and c.from_residual-in_err-middle.result c.from_residual-in_err-middle.ensures.1 in
    rw (e.1, e.2) (case_stopped c.args.source.now.text.now c.args.spot c.args.nodes.now (length c.args.nodes.now) c.args.place c.in_ok-first.first (read_expr (length c.args.nodes.now) c.args.depth) (sym c.in_ok-first.ensures) c.in_err-middle.field-0.0 c.expression.new.nodes c.in_err-middle.ensures.told)

pub case_form-returns-in_err-end-clause-told : goal.case_form-returns-in_err-end-clause-told
case_form-returns-in_err-end-clause-told t c =
    let long : length c.expression.new.nodes ≡ length c.args.nodes.now = c.expression.auto.nodes in
    let e = err_from_is_err_and c.from_residual-in_err-end.result c.from_residual-in_err-end.ensures.1 in
    rw (e.1, e.2) (case_refused c.args.source.now.text.now c.args.spot c.args.nodes.now (length c.args.nodes.now) c.args.place c.in_ok-first.first (read_expr (length c.args.nodes.now) c.args.depth) (sym c.in_ok-first.ensures) c.in_ok-middle.middle c.in_err-end.field-0.0 c.expression.new.nodes c.branches.new.nodes c.in_ok-middle.ensures.told
    (subst (λ k. OnEach c.args.source.now.text.now c.in_ok-middle.middle c.expression.new.nodes (encode_each encode_branch) (read_each (read_branch k (read_expr k c.args.depth))) (Err c.in_err-end.field-0.0) c.branches.new.nodes) long c.in_err-end.ensures.told))

pub case_form-returns-clause-told : goal.case_form-returns-clause-told
case_form-returns-clause-told t c =
    let long : length c.expression.new.nodes ≡ length c.args.nodes.now = c.expression.auto.nodes in
    rw c.close.ensures (case_made c.args.source.now.text.now c.args.spot c.args.nodes.now (length c.args.nodes.now) c.args.place c.in_ok-first.first (read_expr (length c.args.nodes.now) c.args.depth) (sym c.in_ok-first.ensures) c.in_ok-middle.middle c.in_ok-end.end c.expression.new.nodes c.branches.new.nodes c.in_ok-middle.ensures.told
    (subst (λ k. OnEach c.args.source.now.text.now c.in_ok-middle.middle c.expression.new.nodes (encode_each encode_branch) (read_each (read_branch k (read_expr k c.args.depth))) (Ok c.in_ok-end.end) c.branches.new.nodes) long c.in_ok-end.ensures.told))

pub let_form-returns-in_err-middle-clause-told : goal.let_form-returns-in_err-middle-clause-told
let_form-returns-in_err-middle-clause-told t c =
    let sees = c.in_ok-opened.ensures in
    let e = err_from_is_err_and c.from_residual-in_err-middle.result c.from_residual-in_err-middle.ensures.1 in
    rw (e.1, e.2) (let_stopped c.args.source.now.text.now c.args.spot c.args.nodes.now (length c.args.nodes.now) c.args.place c.in_ok-first.first (read_expr (length c.args.nodes.now) c.args.depth) (sym c.in_ok-first.ensures) sees.0 sees.1.0 _ c.in_ok-opened.opened.inside sees.1.1 c.in_err-middle.field-0.0 c.bindings.new.nodes c.in_err-middle.ensures.told)

pub let_form-returns-in_err-end-clause-told : goal.let_form-returns-in_err-end-clause-told
let_form-returns-in_err-end-clause-told t c =
    let sees = c.in_ok-opened.ensures in
    let long : length c.bindings.new.nodes ≡ length c.args.nodes.now = c.bindings.auto.nodes in
    let e = err_from_is_err_and c.from_residual-in_err-end.result c.from_residual-in_err-end.ensures.1 in
    rw (e.1, e.2) (let_refused c.args.source.now.text.now c.args.spot c.args.nodes.now (length c.args.nodes.now) c.args.place c.in_ok-first.first (read_expr (length c.args.nodes.now) c.args.depth) (sym c.in_ok-first.ensures) sees.0 sees.1.0 _ c.in_ok-opened.opened.inside sees.1.1 c.in_ok-middle.middle c.in_err-end.field-0.0 c.bindings.new.nodes c.expressions.new.nodes c.in_ok-middle.ensures.told
    (subst (λ k. OnEach c.args.source.now.text.now c.in_ok-middle.middle c.bindings.new.nodes (encode_each encode) (read_each (read_expr k c.args.depth)) (Err c.in_err-end.field-0.0) c.expressions.new.nodes) long c.in_err-end.ensures.told))

pub let_form-returns-clause-told : goal.let_form-returns-clause-told
let_form-returns-clause-told t c =
    let sees = c.in_ok-opened.ensures in
    let long : length c.bindings.new.nodes ≡ length c.args.nodes.now = c.bindings.auto.nodes in
    rw c.close.ensures (let_made c.args.source.now.text.now c.args.spot c.args.nodes.now (length c.args.nodes.now) c.args.place c.in_ok-first.first (read_expr (length c.args.nodes.now) c.args.depth) (sym c.in_ok-first.ensures) sees.0 sees.1.0 _ c.in_ok-opened.opened.inside sees.1.1 c.in_ok-middle.middle c.in_ok-end.end c.bindings.new.nodes c.expressions.new.nodes c.in_ok-middle.ensures.told
    (subst (λ k. OnEach c.args.source.now.text.now c.in_ok-middle.middle c.bindings.new.nodes (encode_each encode) (read_each (read_expr k c.args.depth)) (Ok c.in_ok-end.end) c.expressions.new.nodes) long c.in_ok-end.ensures.told))

pub list-returns-in-If-clause-told : goal.list-returns-in-If-clause-told
list-returns-in-If-clause-told t c =
    let kind = sym (c.in_ok-ok_or.ensures.ok_part ∙ ap Some c.in-If.is) ∙ c.form_of.ensures ∙ ap (λ s. form_kind s.head s.parts) c.survey.ensures in
    by_view c.args.source.now.text.now c.args.spot c.args.nodes.now (length c.args.nodes.now) c.args.depth c.args.place c.row.result c.row.new.nodes (Some formkind.If) kind (on_if c.args.source.now.text.now c.args.spot c.args.nodes.now (length c.args.nodes.now) c.args.depth c.args.place c.behind.result c.row.result c.row.new.nodes c.behind.ensures c.row.ensures.told)

pub list-returns-in-Begin-clause-told : goal.list-returns-in-Begin-clause-told
list-returns-in-Begin-clause-told t c =
    let kind = sym (c.in_ok-ok_or.ensures.ok_part ∙ ap Some c.in-Begin.is) ∙ c.form_of.ensures ∙ ap (λ s. form_kind s.head s.parts) c.survey.ensures in
    by_view c.args.source.now.text.now c.args.spot c.args.nodes.now (length c.args.nodes.now) c.args.depth c.args.place c.row-in-Begin.result c.row-in-Begin.new.nodes (Some formkind.Begin) kind (on_begin c.args.source.now.text.now c.args.spot c.args.nodes.now (length c.args.nodes.now) c.args.depth c.args.place c.behind.result c.row-in-Begin.result c.row-in-Begin.new.nodes c.behind.ensures c.row-in-Begin.ensures.told)

pub list-returns-in-Let-clause-told : goal.list-returns-in-Let-clause-told
list-returns-in-Let-clause-told t c =
    let kind = sym (c.in_ok-ok_or.ensures.ok_part ∙ ap Some c.in-Let.is) ∙ c.form_of.ensures ∙ ap (λ s. form_kind s.head s.parts) c.survey.ensures in
    by_view c.args.source.now.text.now c.args.spot c.args.nodes.now (length c.args.nodes.now) c.args.depth c.args.place c.let_form.result c.let_form.new.nodes (Some formkind.Let) kind (on_let c.args.source.now.text.now c.args.spot c.args.nodes.now (length c.args.nodes.now) c.args.depth c.args.place c.behind.result c.let_form.result c.let_form.new.nodes c.behind.ensures c.let_form.ensures.told)

pub list-returns-in-Case-clause-told : goal.list-returns-in-Case-clause-told
list-returns-in-Case-clause-told t c =
    let kind = sym (c.in_ok-ok_or.ensures.ok_part ∙ ap Some c.in-Case.is) ∙ c.form_of.ensures ∙ ap (λ s. form_kind s.head s.parts) c.survey.ensures in
    by_view c.args.source.now.text.now c.args.spot c.args.nodes.now (length c.args.nodes.now) c.args.depth c.args.place c.case_form.result c.case_form.new.nodes (Some formkind.Case) kind (on_case c.args.source.now.text.now c.args.spot c.args.nodes.now (length c.args.nodes.now) c.args.depth c.args.place c.behind.result c.case_form.result c.case_form.new.nodes c.behind.ensures c.case_form.ensures.told)

pub list-returns-in-Dup-clause-told : goal.list-returns-in-Dup-clause-told
list-returns-in-Dup-clause-told t c =
    let kind = sym (c.in_ok-ok_or.ensures.ok_part ∙ ap Some c.in-Dup.is) ∙ c.form_of.ensures ∙ ap (λ s. form_kind s.head s.parts) c.survey.ensures in
    by_view c.args.source.now.text.now c.args.spot c.args.nodes.now (length c.args.nodes.now) c.args.depth c.args.place c.dup_form.result c.dup_form.new.nodes (Some formkind.Dup) kind (on_dup c.args.source.now.text.now c.args.spot c.args.nodes.now (length c.args.nodes.now) c.args.depth c.args.place c.behind.result c.dup_form.result c.dup_form.new.nodes c.behind.ensures c.dup_form.ensures.told)

pub list-returns-in-Apply-clause-told : goal.list-returns-in-Apply-clause-told
list-returns-in-Apply-clause-told t c =
    let kind = sym (c.in_ok-ok_or.ensures.ok_part ∙ ap Some c.in-Apply.is) ∙ c.form_of.ensures ∙ ap (λ s. form_kind s.head s.parts) c.survey.ensures in
    by_view c.args.source.now.text.now c.args.spot c.args.nodes.now (length c.args.nodes.now) c.args.depth c.args.place c.row-in-Apply.result c.row-in-Apply.new.nodes (Some formkind.Apply) kind (on_apply c.args.source.now.text.now c.args.spot c.args.nodes.now (length c.args.nodes.now) c.args.depth c.args.place c.behind.result c.row-in-Apply.result c.row-in-Apply.new.nodes c.behind.ensures c.row-in-Apply.ensures.told)

pub list-returns-in_err-ok_or-clause-told : goal.list-returns-in_err-ok_or-clause-told
list-returns-in_err-ok_or-clause-told t c =
    let kind = sym c.in_err-ok_or.ensures.ok_part ∙ c.form_of.ensures ∙ ap (λ s. form_kind s.head s.parts) c.survey.ensures in
    let is : c.from_residual.result ≡ Err (refused_at refusal.Form c.args.place) = search rules in
    by_view c.args.source.now.text.now c.args.spot c.args.nodes.now (length c.args.nodes.now) c.args.depth c.args.place c.from_residual.result c.args.nodes.now None kind (on_wrong c.args.source.now.text.now c.args.spot c.args.nodes.now (length c.args.nodes.now) c.args.depth c.args.place c.behind.result c.from_residual.result c.args.nodes.now c.behind.ensures is)
