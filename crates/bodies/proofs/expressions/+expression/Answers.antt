use Rattle.bodies.proofs.ApplyLaws.{arguments_ended, arguments_stopped, arguments_went, apply_by_parts, construct_stopped, construct_unlike, construct_built, call_stopped, call_later_stopped, call_unlike, call_judged}
use Rattle.bodies.proofs.CaseLaws.{ok_or_is, pattern_stopped, pattern_went, arms_stopped, arms_last, arms_later, arms_went, case_stopped, case_plain, case_branches_stopped, case_went}
use Rattle.bodies.proofs.DeskLaws.{marked_as, grown_self, by_refusal, by_guard}
use Rattle.bodies.proofs.IfLaws.{test_refused, test_other, first_refused, second_refused, arms_unlike, arms_judged}
use Rattle.bodies.proofs.LetLaws.{body_found, here, bound_stopped, name_refused, name_went, let_stopped, let_went}
use Rattle.bodies.proofs.LiteralLaws.{no_expression, literal_judged, an_integer, a_symbol, a_boolean, a_unit}
use Rattle.bodies.proofs.RowLaws.{RowAnswers, row_ended, row_stopped, row_went, begin_stopped, begin_went}
use Rattle.bodies.proofs.TypeLaws.{same_in}
use Rattle.bodies.proofs.expressions.+expression.Goals.{call-in_default-via-in-Some+else-fit, call-in_default-via-in_default}
use Rattle.bodies.specs.Heads.{OnHead}
use Rattle.bodies.specs.Parts.{OnExpr, OnArms, OnBindings, BindingsAnswers, ArmsAnswers, ArgumentsAnswers}
use Rattle.grammar.specs.Trees.{apply_expr}
use Rattle.layout.specs.Decoding.{node_found}
use Rattle.layout.specs.declared.node.Node.{Node}
use Rattle.naming.specs.Binding.{OnPattern}
use Rattle.naming.specs.Judges.{desk, Coded, Kept, ExprAnswers, text_of}
use Rattle.program.specs.Compiling.{code}
use Rattle.std.proofs.Common.{slice_set, max, min, ◌≡◌, ◌+◌, ◌-◌, Some, None, Ok, Err, sym, refl, ap, ◌∙◌, subst, arith, rules, false, ◌&&◌}
use Rattle.std.proofs.lemmas.Int.{to_z-of_z}
use Rattle.std.specs.Prelude.{ℕ, ◌||◌, nat_le, slice_index_or}
use Rattle.type_rows.specs.Rows.{row_at}
use Rattle.type_rows.specs.declared.value_type.ValueType.{ValueType}
use mir.Syntax.{w32}
use mir.Val.{SFits}
use Rattle.layout.specs.declared.node.NodeForm.TheVariants as form
use Rattle.program.specs.declared.code.Op.TheVariants as op
use Rattle.type_rows.specs.declared.value_type.ValueType.TheVariants as value
use Rattle.bodies.proofs.expressions.+expression.Goals as goal

pub expression-returns-in-Boolean-clause-answers : goal.expression-returns-in-Boolean-clause-answers
expression-returns-in-Boolean-clause-answers t c script e set ready stands =
    let world = c.args.world.now in
    let d0 = desk c.args.scope.now c.args.locals.now in
    let node = c.node_at-node.result in
    let is = c.node_at-node.ensures in
    literal_judged world script c.args.i c.args.height node d0 c.args.codes.now c.literal-in-Boolean.new.codes (form.Boolean c.in-Boolean.b) (op.Boolean c.in-Boolean.b) value.Bool c.literal-in-Boolean.result a_boolean is c.in-Boolean.is stands c.literal-in-Boolean.ensures.value c.literal-in-Boolean.ensures.codes

pub expression-returns-in-Integer-clause-answers : goal.expression-returns-in-Integer-clause-answers
expression-returns-in-Integer-clause-answers t c script e set ready stands =
    let world = c.args.world.now in
    let d0 = desk c.args.scope.now c.args.locals.now in
    let node = c.node_at-node.result in
    let is = c.node_at-node.ensures in
    let fits : SFits w32 c.in-Integer.z = search rules in
    literal_judged world script c.args.i c.args.height node d0 c.args.codes.now c.literal.new.codes (form.Integer c.in-Integer.z) (op.Integer c.in-Integer.z) value.Int c.literal.result an_integer is c.in-Integer.is stands c.literal.ensures.value
    (c.literal.ensures.codes ∙ ap (λ z. slice_set c.args.codes.now c.args.i (code (op.Integer z) node.place node.past)) (to_z-of_z w32 c.in-Integer.z fits))

pub expression-returns-in-Symbol-clause-answers : goal.expression-returns-in-Symbol-clause-answers
expression-returns-in-Symbol-clause-answers t c script e set ready stands =
    let world = c.args.world.now in
    let d0 = desk c.args.scope.now c.args.locals.now in
    let node = c.node_at-node.result in
    let is = c.node_at-node.ensures in
    literal_judged world script c.args.i c.args.height node d0 c.args.codes.now c.literal-in-Symbol.new.codes (form.Symbol c.in-Symbol.n) (op.Symbol c.in-Symbol.n) value.Sym c.literal-in-Symbol.result a_symbol is c.in-Symbol.is stands c.literal-in-Symbol.ensures.value c.literal-in-Symbol.ensures.codes

pub expression-returns-in-Unit-clause-answers : goal.expression-returns-in-Unit-clause-answers
expression-returns-in-Unit-clause-answers t c script e set ready stands =
    let world = c.args.world.now in
    let d0 = desk c.args.scope.now c.args.locals.now in
    let node = c.node_at-node.result in
    let is = c.node_at-node.ensures in
    literal_judged world script c.args.i c.args.height node d0 c.args.codes.now c.literal-in-Unit.new.codes (form.Unit) (op.Unit) value.Unit c.literal-in-Unit.result a_unit is c.in-Unit.is stands c.literal-in-Unit.ensures.value c.literal-in-Unit.ensures.codes

pub if_form-returns-in_err-expression-clause-answers : goal.if_form-returns-in_err-expression-clause-answers
if_form-returns-in_err-expression-clause-answers t c script e set ready stands =
    let world = c.args.world.now in
    let d0 = desk c.args.scope.now c.args.locals.now in
    let node = c.node_at-node.result in
    let is = c.node_at-node.ensures in
    let d1 = desk c.expression.new.scope c.expression.new.locals in
    let r = c.in_err-expression.field-0.0 in
    let left : c.from_residual.result ≡ Err r = search rules in
    let tested : OnExpr world (c.args.i + 1) c.args.height d0 c.note.new.codes (Err r) d1 c.expression.new.codes = search rules in
    subst (λ x. ExprAnswers world script e c.args.i c.args.height d0 c.args.codes.now x d1 c.expression.new.codes) (sym left)
    (test_refused world script set c.args.i c.args.height node is d0 ready c.note.new.codes d1 c.expression.new.codes r stands tested)

pub if_form-returns-in_default : goal.if_form-returns-in_default
if_form-returns-in_default t c = record {
  kept = c.in_ok-expression.ensures.kept;
  answers = λ script e set ready stands.
      let world = c.args.world.now in
      let d0 = desk c.args.scope.now c.args.locals.now in
      let node = c.node_at-node.result in
      let is = c.node_at-node.ensures in
      let d1 = desk c.expression.new.scope c.expression.new.locals in
      test_other world script set c.args.i c.args.height node is d0 ready c.note.new.codes d1 c.expression.new.codes c.in_ok-expression.field-0 c.mismatch.result stands c.in_ok-expression.ensures.answers c.in_default.not-Bool c.mismatch.ensures;
}

pub if_form-returns-in_err-kind-clause-answers : goal.if_form-returns-in_err-kind-clause-answers
if_form-returns-in_err-kind-clause-answers t c script e set ready stands =
    let world = c.args.world.now in
    let d0 = desk c.args.scope.now c.args.locals.now in
    let node = c.node_at-node.result in
    let is = c.node_at-node.ensures in
    let d1 = desk c.expression.new.scope c.expression.new.locals in
    let d2 = desk c.expression-2.new.scope c.expression-2.new.locals in
    let test = subst (λ k. OnExpr world (c.args.i + 1) c.args.height d0 c.note.new.codes (Ok k) d1 c.expression.new.codes) c.in-Bool.is c.in_ok-expression.ensures.answers in
    let r = c.in_err-kind.field-0.0 in
    let left : c.from_residual-in_err-kind.result ≡ Err r = search rules in
    subst (λ x. ExprAnswers world script e c.args.i c.args.height d0 c.args.codes.now x d2 c.expression-2.new.codes) (sym left)
    (first_refused world script set c.args.i c.args.height node is d0 ready c.note.new.codes d1 c.expression.new.codes test c.in_ok-expression.ensures.kept c.after-first.result c.after-first.ensures.value d2 c.expression-2.new.codes r stands c.in_err-kind.ensures.answers)

pub if_form-returns-in_err-other-clause-answers : goal.if_form-returns-in_err-other-clause-answers
if_form-returns-in_err-other-clause-answers t c script e set ready stands =
    let world = c.args.world.now in
    let d0 = desk c.args.scope.now c.args.locals.now in
    let node = c.node_at-node.result in
    let is = c.node_at-node.ensures in
    let d1 = desk c.expression.new.scope c.expression.new.locals in
    let d2 = desk c.expression-2.new.scope c.expression-2.new.locals in
    let d3 = desk c.expression-3.new.scope c.expression-3.new.locals in
    let test = subst (λ k. OnExpr world (c.args.i + 1) c.args.height d0 c.note.new.codes (Ok k) d1 c.expression.new.codes) c.in-Bool.is c.in_ok-expression.ensures.answers in
    let r = c.in_err-other.field-0.0 in
    let left : c.from_residual-in_err-other.result ≡ Err r = search rules in
    let second : OnExpr world c.after-second.result c.args.height (marked_as d2 d1.marks) c.expression-2.new.codes (Err r) d3 c.expression-3.new.codes = search rules in
    subst (λ x. ExprAnswers world script e c.args.i c.args.height d0 c.args.codes.now x d3 c.expression-3.new.codes) (sym left)
    (second_refused world script set c.args.i c.args.height node is d0 ready c.note.new.codes d1 c.expression.new.codes test c.in_ok-expression.ensures.kept c.after-first.result c.after-first.ensures.value d2 c.expression-2.new.codes c.in_ok-kind.kind c.in_ok-kind.ensures.answers c.in_ok-kind.ensures.kept c.after-second.result c.after-second.ensures.value d3 c.expression-3.new.codes r stands second)

pub if_form-returns-clause-answers : goal.if_form-returns-clause-answers
if_form-returns-clause-answers t c script e set ready stands =
    let world = c.args.world.now in
    let d0 = desk c.args.scope.now c.args.locals.now in
    let node = c.node_at-node.result in
    let is = c.node_at-node.ensures in
    let d1 = desk c.expression.new.scope c.expression.new.locals in
    let d2 = desk c.expression-2.new.scope c.expression-2.new.locals in
    let d3 = desk c.expression-3.new.scope c.expression-3.new.locals in
    let test = subst (λ k. OnExpr world (c.args.i + 1) c.args.height d0 c.note.new.codes (Ok k) d1 c.expression.new.codes) c.in-Bool.is c.in_ok-expression.ensures.answers in
    let second : OnExpr world c.after-second.result c.args.height (marked_as d2 d1.marks) c.expression-2.new.codes (Ok c.in_ok-other.other) d3 c.expression-3.new.codes = search rules in
    let kept : Kept (marked_as d2 d1.marks) d3 = search rules in
    arms_unlike world script set c.args.i c.args.height node is d0 ready c.note.new.codes d1 c.expression.new.codes test c.in_ok-expression.ensures.kept c.after-first.result c.after-first.ensures.value d2 c.expression-2.new.codes c.in_ok-kind.kind c.in_ok-kind.ensures.answers c.in_ok-kind.ensures.kept c.after-second.result c.after-second.ensures.value d3 c.expression-3.new.codes c.in_ok-other.other kept c.mismatch-2.result stands second
    (λ va vb. sym c.if-same.false ∙ same_in world script set c.rows.result.now c.rows.ensures c.in_ok-kind.kind c.in_ok-other.other c.same.result c.same.ensures va vb) c.mismatch-2.ensures

pub if_form-returns-then-same-clause-answers : goal.if_form-returns-then-same-clause-answers
if_form-returns-then-same-clause-answers t c script e set ready stands =
    let world = c.args.world.now in
    let d0 = desk c.args.scope.now c.args.locals.now in
    let node = c.node_at-node.result in
    let is = c.node_at-node.ensures in
    let d1 = desk c.expression.new.scope c.expression.new.locals in
    let d2 = desk c.expression-2.new.scope c.expression-2.new.locals in
    let d3 = desk c.expression-3.new.scope c.expression-3.new.locals in
    let test = subst (λ k. OnExpr world (c.args.i + 1) c.args.height d0 c.note.new.codes (Ok k) d1 c.expression.new.codes) c.in-Bool.is c.in_ok-expression.ensures.answers in
    let second : OnExpr world c.after-second.result c.args.height (marked_as d2 d1.marks) c.expression-2.new.codes (Ok c.in_ok-other.other) d3 c.expression-3.new.codes = search rules in
    let kept : Kept (marked_as d2 d1.marks) d3 = search rules in
    let joined : (k : ℕ) → slice_index_or c.join.new.marks k false ≡ (slice_index_or d3.marks k false || slice_index_or d2.marks k false) = search rules in
    arms_judged world script set c.args.i c.args.height node is d0 ready c.note.new.codes d1 c.expression.new.codes test c.in_ok-expression.ensures.kept c.after-first.result c.after-first.ensures.value d2 c.expression-2.new.codes c.in_ok-kind.kind c.in_ok-kind.ensures.answers c.in_ok-kind.ensures.kept c.after-second.result c.after-second.ensures.value d3 c.expression-3.new.codes c.in_ok-other.other kept c.args.codes.now c.join.new.marks stands second c.note.ensures
    (λ va vb. sym c.if-same.true ∙ same_in world script set c.rows.result.now c.rows.ensures c.in_ok-kind.kind c.in_ok-other.other c.same.result c.same.ensures va vb) joined

pub begin_form-returns-in_err-kind-clause-answers : goal.begin_form-returns-in_err-kind-clause-answers
begin_form-returns-in_err-kind-clause-answers t c script e set ready stands =
    let world = c.args.world.now in
    let d0 = desk c.args.scope.now c.args.locals.now in
    let node = c.node_at-node.result in
    let is = c.node_at-node.ensures in
    let d1 = desk c.expression.new.scope c.expression.new.locals in
    let r = c.in_err-kind.field-0.0 in
    let left : c.from_residual.result ≡ Err r = search rules in
    subst (λ x. ExprAnswers world script e c.args.i c.args.height d0 c.args.codes.now x d1 c.expression.new.codes) (sym left)
    (begin_stopped world script set c.args.i c.args.height node is (omega (arith, c.node_at-node.type_inv)) d0 ready c.note.new.codes r d1 c.expression.new.codes stands c.in_err-kind.ensures.answers)

pub begin_form-returns-clause-answers : goal.begin_form-returns-clause-answers
begin_form-returns-clause-answers t c script e set ready stands =
    let world = c.args.world.now in
    let d0 = desk c.args.scope.now c.args.locals.now in
    let node = c.node_at-node.result in
    let is = c.node_at-node.ensures in
    let d1 = desk c.expression.new.scope c.expression.new.locals in
    begin_went world script set c.args.i c.args.height node is (omega (arith, c.node_at-node.type_inv)) d0 ready c.note.new.codes c.in_ok-kind.kind d1 c.args.codes.now c.expression.new.codes stands c.in_ok-kind.ensures.answers c.in_ok-kind.ensures.kept
    c.note.ensures c.after.result c.after.ensures.value c.row.result (desk c.row.new.scope c.row.new.locals) c.row.new.codes c.row.ensures.answers

pub row-returns-then-i-past-clause-answers : goal.row-returns-then-i-past-clause-answers
row-returns-then-i-past-clause-answers t c script es set ready valid lie =
    let world = c.args.world.now in
    let d0 = desk c.args.scope.now c.args.locals.now in
    row_ended world script set c.args.i c.args.past c.args.height (omega (arith, c.ranges.past.fits)) c.args.kind d0 ready valid c.args.codes.now es lie (omega (arith, c.if-i-past.true))

pub row-returns-in_err-kind-clause-answers : goal.row-returns-in_err-kind-clause-answers
row-returns-in_err-kind-clause-answers t c script es set ready valid lie =
    let world = c.args.world.now in
    let d0 = desk c.args.scope.now c.args.locals.now in
    let d1 = desk c.expression.new.scope c.expression.new.locals in
    let r = c.in_err-kind.field-0.0 in
    let left : c.from_residual.result ≡ Err r = search rules in
    subst (λ x. RowAnswers world script set c.args.kind es c.args.i c.args.height d0 c.args.codes.now x d1 c.expression.new.codes) (sym left)
    (row_stopped world script set c.args.i c.args.past c.args.height (omega (arith, c.ranges.past.fits)) c.args.kind d0 ready valid c.args.codes.now es r d1 c.expression.new.codes lie (omega (arith, c.if-i-past.false)) c.in_err-kind.ensures.answers)

pub row-returns-clause-answers : goal.row-returns-clause-answers
row-returns-clause-answers t c script es set ready valid lie =
    let world = c.args.world.now in
    let d0 = desk c.args.scope.now c.args.locals.now in
    let d1 = desk c.expression.new.scope c.expression.new.locals in
    row_went world script set c.args.i c.args.past c.args.height (omega (arith, c.ranges.past.fits)) c.args.kind d0 ready valid c.args.codes.now es c.in_ok-kind.kind d1 c.expression.new.codes lie (omega (arith, c.if-i-past.false)) c.in_ok-kind.ensures.answers c.in_ok-kind.ensures.kept
    c.after.result c.after.ensures.value c.row.result (desk c.row.new.scope c.row.new.locals) c.row.new.codes c.row.ensures.answers

pub bindings-returns-in_default : goal.bindings-returns-in_default
bindings-returns-in_default t c = record {
  grown = grown_self (desk c.args.scope.now c.args.locals.now);
  later = omega arith;
  answers = λ script bs e j set ready b.
      let world = c.args.world.now in
      let d0 = desk c.args.scope.now c.args.locals.now in
      let node = c.node_at-node.result in
      let is = c.node_at-node.ensures in
      body_found world script set c.args.i j c.args.height d0 c.args.codes.now bs e ready b (λ w h. c.in_default.not-Binding w (ap (λ (n : Node). n.form) is ∙ h));
}

pub bindings-returns-in_err-kind-clause-answers : goal.bindings-returns-in_err-kind-clause-answers
bindings-returns-in_err-kind-clause-answers t c script bs e j set ready b =
    let world = c.args.world.now in
    let d0 = desk c.args.scope.now c.args.locals.now in
    let node = c.node_at-node.result in
    let is = c.node_at-node.ensures in
    let d1 = desk c.expression.new.scope c.expression.new.locals in
    let stands = here world script set c.args.i j c.args.height node is c.in-Binding.word c.in-Binding.is d0 ready c.note.new.codes bs e b in
    let r = c.in_err-kind.field-0.0 in
    let left : c.from_residual.result ≡ Err r = search rules in
    subst (λ x. BindingsAnswers world script bs e c.args.i j c.args.height d0 c.args.codes.now x d1 c.expression.new.codes) (sym left)
    (bound_stopped world script set c.args.i j c.args.height node is c.in-Binding.word c.in-Binding.is d0 ready c.note.new.codes r d1 c.expression.new.codes stands c.in_err-kind.ensures.answers)

pub bindings-returns-in_err-bind-clause-answers : goal.bindings-returns-in_err-bind-clause-answers
bindings-returns-in_err-bind-clause-answers t c script bs e j set ready b =
    let world = c.args.world.now in
    let d0 = desk c.args.scope.now c.args.locals.now in
    let node = c.node_at-node.result in
    let is = c.node_at-node.ensures in
    let d1 = desk c.expression.new.scope c.expression.new.locals in
    let d2 = desk c.bind.new.scope c.bind.new.locals in
    let stands = here world script set c.args.i j c.args.height node is c.in-Binding.word c.in-Binding.is d0 ready c.note.new.codes bs e b in
    let r = c.in_err-bind.field-0.0 in
    let left : c.from_residual-in_err-bind.result ≡ Err r = search rules in
    subst (λ x. BindingsAnswers world script bs e c.args.i j c.args.height d0 c.args.codes.now x d2 c.expression.new.codes) (sym left)
    (name_refused world script set c.args.i j c.args.height node is c.in-Binding.word c.in-Binding.is d0 ready c.note.new.codes c.in_ok-kind.kind d1 c.expression.new.codes c.in_ok-kind.ensures.answers c.in_ok-kind.ensures.kept d2 r stands c.in_err-bind.ensures.bound)

pub bindings-returns-clause-answers : goal.bindings-returns-clause-answers
bindings-returns-clause-answers t c script bs e j set ready b =
    let world = c.args.world.now in
    let d0 = desk c.args.scope.now c.args.locals.now in
    let node = c.node_at-node.result in
    let is = c.node_at-node.ensures in
    let d1 = desk c.expression.new.scope c.expression.new.locals in
    let d2 = desk c.bind.new.scope c.bind.new.locals in
    let stands = here world script set c.args.i j c.args.height node is c.in-Binding.word c.in-Binding.is d0 ready c.note.new.codes bs e b in
    name_went world script set c.args.i j c.args.height node is c.in-Binding.word c.in-Binding.is d0 ready c.note.new.codes c.in_ok-kind.kind d1 c.expression.new.codes c.in_ok-kind.ensures.answers c.in_ok-kind.ensures.kept d2 c.args.codes.now c.bindings.new.codes c.after.result c.saturating_add.result c.bindings.result (desk c.bindings.new.scope c.bindings.new.locals) stands c.in_ok-bind.ensures.bound
    c.note.ensures c.after.ensures.value (λ h. omega (arith, c.saturating_add.ensures)) c.bindings.ensures.answers

pub case_form-returns-in_err-kind-clause-answers : goal.case_form-returns-in_err-kind-clause-answers
case_form-returns-in_err-kind-clause-answers t c script e set ready stands =
    let world = c.args.world.now in
    let d0 = desk c.args.scope.now c.args.locals.now in
    let node = c.node_at-node.result in
    let is = c.node_at-node.ensures in
    let d1 = desk c.expression.new.scope c.expression.new.locals in
    let r = c.in_err-kind.field-0.0 in
    let left : c.from_residual.result ≡ Err r = search rules in
    subst (λ x. ExprAnswers world script e c.args.i c.args.height d0 c.args.codes.now x d1 c.expression.new.codes) (sym left)
    (case_stopped world script set c.args.i c.args.height node is d0 ready c.note.new.codes r d1 c.expression.new.codes stands c.in_err-kind.ensures.answers)

pub case_form-returns-in_default : goal.case_form-returns-in_default
case_form-returns-in_default t c = record {
  kept = c.in_ok-kind.ensures.kept;
  answers = λ script e set ready stands.
      let world = c.args.world.now in
      let d0 = desk c.args.scope.now c.args.locals.now in
      let node = c.node_at-node.result in
      let is = c.node_at-node.ensures in
      let d1 = desk c.expression.new.scope c.expression.new.locals in
      case_plain world script set c.args.i c.args.height node is d0 ready c.note.new.codes c.in_ok-kind.kind c.mismatch.result d1 c.expression.new.codes stands c.in_ok-kind.ensures.answers c.in_default.not-Datatype c.mismatch.ensures;
}

pub case_form-returns-in_err-arms-clause-answers : goal.case_form-returns-in_err-arms-clause-answers
case_form-returns-in_err-arms-clause-answers t c script e set ready stands =
    let world = c.args.world.now in
    let d0 = desk c.args.scope.now c.args.locals.now in
    let node = c.node_at-node.result in
    let is = c.node_at-node.ensures in
    let d1 = desk c.expression.new.scope c.expression.new.locals in
    let test = subst (λ k. OnExpr world (c.args.i + 1) c.args.height d0 c.note.new.codes (Ok k) d1 c.expression.new.codes) c.in-Datatype.is c.in_ok-kind.ensures.answers in
    let d2 = desk c.arms.new.scope c.arms.new.locals in
    let r = c.in_err-arms.field-0.0 in
    let left : c.from_residual-in_err-arms.result ≡ Err r = search rules in
    subst (λ x. ExprAnswers world script e c.args.i c.args.height d0 c.args.codes.now x d2 c.arms.new.codes) (sym left)
    (case_branches_stopped world script set c.args.i c.args.height node is d0 ready c.note.new.codes c.in-Datatype.datatype d1 c.expression.new.codes test c.in_ok-kind.ensures.kept c.after.result c.after.ensures.value d2 c.arms.new.codes r stands c.in_err-arms.ensures.answers)

pub case_form-returns-clause-answers : goal.case_form-returns-clause-answers
case_form-returns-clause-answers t c script e set ready stands =
    let world = c.args.world.now in
    let d0 = desk c.args.scope.now c.args.locals.now in
    let node = c.node_at-node.result in
    let is = c.node_at-node.ensures in
    let d1 = desk c.expression.new.scope c.expression.new.locals in
    let test = subst (λ k. OnExpr world (c.args.i + 1) c.args.height d0 c.note.new.codes (Ok k) d1 c.expression.new.codes) c.in-Datatype.is c.in_ok-kind.ensures.answers in
    let d2 = desk c.arms.new.scope c.arms.new.locals in
    case_went world script set c.args.i c.args.height node is d0 ready c.note.new.codes c.in-Datatype.datatype d1 c.expression.new.codes test c.in_ok-kind.ensures.kept c.after.result c.after.ensures.value d2 c.arms.new.codes c.in_ok-arms.field-0 c.ok_or.result c.args.codes.now stands c.in_ok-arms.ensures.answers c.note.ensures (c.ok_or.ensures.value ∙ ok_or_is c.in_ok-arms.field-0 c.mismatch-2.result node.place c.mismatch-2.ensures)

pub arms-returns-in_err-kind-clause-answers : goal.arms-returns-in_err-kind-clause-answers
arms-returns-in_err-kind-clause-answers t c script bs set ready b =
    let world = c.args.world.now in
    let d0 = desk c.args.scope.now c.args.locals.now in
    let d1 = desk c.arm.new.scope c.arm.new.locals in
    let r = c.in_err-kind.field-0.0 in
    let left : c.from_residual.result ≡ Err r = search rules in
    subst (λ x. ArmsAnswers world script c.args.datatype bs c.args.i c.args.height d0 c.args.codes.now x d1 c.arm.new.codes) (sym left)
    (arms_stopped world script set c.args.i c.args.past c.args.height c.args.datatype d0 ready c.args.codes.now (max (node_found world.nodes.now c.args.i).past (min (c.args.i + 1) 18446744073709551615)) refl bs r d1 c.arm.new.codes b c.in_err-kind.ensures.answers)

pub arms-returns-then-next-past-clause-answers : goal.arms-returns-then-next-past-clause-answers
arms-returns-then-next-past-clause-answers t c script bs set ready b =
    let world = c.args.world.now in
    let d0 = desk c.args.scope.now c.args.locals.now in
    let d1 = desk c.arm.new.scope c.arm.new.locals in
    arms_last world script set c.args.i c.args.past c.args.height c.args.datatype d0 ready c.args.codes.now c.after-next.result c.after-next.ensures.value c.in_ok-kind.kind d1 c.arm.new.codes c.in_ok-kind.ensures.answers c.in_ok-kind.ensures.kept bs b (omega (arith, c.if-next-past.true))

pub arms-returns-in_err-others-clause-answers : goal.arms-returns-in_err-others-clause-answers
arms-returns-in_err-others-clause-answers t c script bs set ready b =
    let world = c.args.world.now in
    let d0 = desk c.args.scope.now c.args.locals.now in
    let d1 = desk c.arm.new.scope c.arm.new.locals in
    let d2 = desk c.arms.new.scope c.arms.new.locals in
    let r = c.in_err-others.field-0.0 in
    let left : c.from_residual-in_err-others.result ≡ Err r = search rules in
    let others : OnArms world c.after-next.result c.args.past c.args.datatype c.args.height (marked_as d1 d0.marks) c.arm.new.codes (Err r) d2 c.arms.new.codes = search rules in
    subst (λ x. ArmsAnswers world script c.args.datatype bs c.args.i c.args.height d0 c.args.codes.now x d2 c.arms.new.codes) (sym left)
    (arms_later world script set c.args.i c.args.past c.args.height c.args.datatype d0 ready c.args.codes.now c.after-next.result c.after-next.ensures.value c.in_ok-kind.kind d1 c.arm.new.codes c.in_ok-kind.ensures.answers c.in_ok-kind.ensures.kept bs r d2 c.arms.new.codes b (omega (arith, c.if-next-past.false)) others)

pub arms-returns-clause-answers : goal.arms-returns-clause-answers
arms-returns-clause-answers t c script bs set ready b =
    let world = c.args.world.now in
    let d0 = desk c.args.scope.now c.args.locals.now in
    let d1 = desk c.arm.new.scope c.arm.new.locals in
    let d2 = desk c.arms.new.scope c.arms.new.locals in
    let others : OnArms world c.after-next.result c.args.past c.args.datatype c.args.height (marked_as d1 d0.marks) c.arm.new.codes (Ok c.in_ok-others.others) d2 c.arms.new.codes = search rules in
    let kept : Kept (marked_as d1 d0.marks) d2 = search rules in
    let joined : (k : ℕ) → slice_index_or c.join.new.marks k false ≡ (slice_index_or d2.marks k false || slice_index_or d1.marks k false) = search rules in
    arms_went world script set c.args.i c.args.past c.args.height c.args.datatype d0 ready c.args.codes.now c.after-next.result c.after-next.ensures.value c.in_ok-kind.kind d1 c.arm.new.codes c.in_ok-kind.ensures.answers c.in_ok-kind.ensures.kept bs c.in_ok-others.others c.alike.result d2 c.arms.new.codes c.join.new.marks b (omega (arith, c.if-next-past.false)) others kept joined c.alike.ensures

pub arm-returns-in_err-pattern-clause-answers : goal.arm-returns-in_err-pattern-clause-answers
arm-returns-in_err-pattern-clause-answers t c script p x e set ready stands =
    let world = c.args.world.now in
    let d0 = desk c.args.scope.now c.args.locals.now in
    let is_branch = sym (ap (λ (n : Node). n.form) c.node_at-node.ensures) ∙ c.in-Branch.is in
    let d1 = desk c.pattern.new.scope c.pattern.new.locals in
    let r = c.in_err-pattern.field-0.0 in
    let left : c.from_residual.result ≡ Err r = search rules in
    let matched = subst (λ s. OnPattern world c.args.i c.in-Branch.place c.args.datatype c.args.height (desk s c.args.locals.now) c.args.codes.now (Err r) d1 c.pattern.new.codes) c.new-guard.ensures.scope c.in_err-pattern.ensures.matched in
    by_refusal world script _ _ _ _ _ _ _ _ _ r left (pattern_stopped world script set c.args.i c.args.height c.args.datatype p x e stands d0 ready c.args.codes.now c.in-Branch.place is_branch r d1 c.pattern.new.codes matched)

pub arm-returns-clause-answers : goal.arm-returns-clause-answers
arm-returns-clause-answers t c script p x e set ready stands =
    let world = c.args.world.now in
    let d0 = desk c.args.scope.now c.args.locals.now in
    let is_branch = sym (ap (λ (n : Node). n.form) c.node_at-node.ensures) ∙ c.in-Branch.is in
    let d1 = desk c.pattern.new.scope c.pattern.new.locals in
    let d2 = desk c.expression.new.scope c.expression.new.locals in
    let matched = subst (λ s. OnPattern world c.args.i c.in-Branch.place c.args.datatype c.args.height (desk s c.args.locals.now) c.args.codes.now (Ok tt) d1 c.pattern.new.codes) c.new-guard.ensures.scope c.in_ok-pattern.ensures.matched in
    by_guard world script _ _ _ _ _ _ _ _ _ d2 (search rules) (search rules) refl
    (pattern_went world script set c.args.i c.args.height c.args.datatype p x e stands d0 ready c.args.codes.now c.in-Branch.place is_branch c.bound-bound.result c.saturating_add.result d1 d2 c.pattern.new.codes c.expression.new.codes c.expression.result matched
    (c.bound-bound.ensures ∙ ap (λ n. c.pattern.new.scope.depth - n) c.new-guard.ensures.depth) (λ h few. omega (arith, c.saturating_add.ensures)) c.expression.ensures.answers c.expression.ensures.kept)

pub let_form-returns-in_err-body-clause-answers : goal.let_form-returns-in_err-body-clause-answers
let_form-returns-in_err-body-clause-answers t c script e set ready stands =
    let world = c.args.world.now in
    let d0 = desk c.args.scope.now c.args.locals.now in
    let d1 = desk c.bindings.new.scope c.bindings.new.locals in
    let r = c.in_err-body.field-0.0 in
    let left : c.from_residual.result ≡ Err r = search rules in
    let bound : OnBindings world (c.args.i + 1) c.args.height (desk c.new-guard.result.scope.now c.args.locals.now) c.args.codes.now (Err r) d1 c.bindings.new.codes = search rules in
    let part = subst (λ s. OnBindings world (c.args.i + 1) c.args.height (desk s c.args.locals.now) c.args.codes.now (Err r) d1 c.bindings.new.codes) c.new-guard.ensures.scope bound in
    by_refusal world script _ _ _ _ _ _ _ _ _ r left (let_stopped world script set c.args.i c.args.height (node_found world.nodes.now c.args.i) refl d0 ready c.args.codes.now r d1 c.bindings.new.codes stands part)

pub let_form-returns-clause-answers : goal.let_form-returns-clause-answers
let_form-returns-clause-answers t c script e set ready stands =
    let world = c.args.world.now in
    let d0 = desk c.args.scope.now c.args.locals.now in
    let d1 = desk c.bindings.new.scope c.bindings.new.locals in
    let d2 = desk c.expression.new.scope c.expression.new.locals in
    let node = c.node_at.result in
    let bound : OnBindings world (c.args.i + 1) c.args.height (desk c.new-guard.result.scope.now c.args.locals.now) c.args.codes.now (Ok c.in_ok-body.body) d1 c.bindings.new.codes = search rules in
    let part = subst (λ s. OnBindings world (c.args.i + 1) c.args.height (desk s c.args.locals.now) c.args.codes.now (Ok c.in_ok-body.body) d1 c.bindings.new.codes) c.new-guard.ensures.scope bound in
    by_guard world script _ _ _ _ _ _ _ _ _ d2 (search rules) (search rules) refl
    (let_went world script set c.args.i c.args.height node c.node_at.ensures d0 ready c.args.codes.now c.in_ok-body.body c.bound-bound.result c.saturating_add.result d1 d2 c.bindings.new.codes c.note.new.codes c.expression.new.codes c.expression.result stands part
    (c.bound-bound.ensures ∙ ap (λ n. c.bindings.new.scope.depth - n) c.new-guard.ensures.depth) (λ h few. omega (arith, c.saturating_add.ensures)) c.min.result (λ few. omega (arith, c.min.ensures)) c.note.ensures c.expression.ensures.answers c.expression.ensures.kept)

pub expression-returns-in-Unused-clause-answers : goal.expression-returns-in-Unused-clause-answers
expression-returns-in-Unused-clause-answers t c script e set ready stands =
    absurd (no_expression c.args.world.now script c.args.i c.node_at-node.result.form e c.in-Unused.is (subst (λ f. Coded c.args.world.now script f e c.args.i) (sym (ap (λ (n : Node). n.form) c.node_at-node.ensures)) stands))

pub arguments-returns-then-i-past-clause-answers : goal.arguments-returns-then-i-past-clause-answers
arguments-returns-then-i-past-clause-answers t c script es set ready stands =
    let fitted = arguments_ended c.args.world.now script set c.args.i c.args.past c.args.row c.args.last c.args.height (omega arith) (desk c.args.scope.now c.args.locals.now) ready c.args.codes.now es (nat_le c.args.last c.args.row) stands c.if-i-past.true refl in
    search rules

pub arguments-returns-in_err-kind-clause-answers : goal.arguments-returns-in_err-kind-clause-answers
arguments-returns-in_err-kind-clause-answers t c script es set ready stands =
    let world = c.args.world.now in
    let old = desk c.args.scope.now c.args.locals.now in
    let new = desk c.expression.new.scope c.expression.new.locals in
    let r = c.in_err-kind.field-0.0 in
    let left : c.from_residual.result ≡ Err r = search rules in
    subst (λ w. ArgumentsAnswers world script es c.args.i c.args.row c.args.last c.args.height old c.args.codes.now w new c.expression.new.codes) (sym left)
    (arguments_stopped world script set c.args.i c.args.past c.args.row c.args.last c.args.height (omega arith) old ready c.args.codes.now es r new c.expression.new.codes stands c.if-i-past.false c.in_err-kind.ensures.answers)

pub arguments-returns-in_err-others-clause-answers : goal.arguments-returns-in_err-others-clause-answers
arguments-returns-in_err-others-clause-answers t c script es set ready stands =
    let world = c.args.world.now in
    let old = desk c.args.scope.now c.args.locals.now in
    let r = c.in_err-others.field-0.0 in
    let left : c.from_residual-in_err-others.result ≡ Err r = search rules in
    arguments_went world script set c.args.i c.args.past c.args.row c.args.last c.args.height (omega arith) old ready c.args.codes.now es c.in_ok-kind.kind (desk c.expression.new.scope c.expression.new.locals) c.expression.new.codes
    stands c.if-i-past.false c.in_ok-kind.ensures.answers c.in_ok-kind.ensures.kept c.after.result c.after.ensures.value c.row.result.past c.saturating_add.result
    (ap (λ row. row.past) c.row.ensures ∙ ap (λ rows. (row_at rows.rows c.args.row).past) c.rows-rows.ensures) (λ h. omega (arith, c.saturating_add.ensures))
    c.is_next-fit.result (rw c.rows-rows.ensures at c.is_next-fit.ensures) (Err r) c.from_residual-in_err-others.result (desk c.arguments.new.scope c.arguments.new.locals) c.arguments.new.codes c.in_err-others.ensures.answers left

pub arguments-returns-then-fit-clause-answers : goal.arguments-returns-then-fit-clause-answers
arguments-returns-then-fit-clause-answers t c script es set ready stands =
    let world = c.args.world.now in
    let old = desk c.args.scope.now c.args.locals.now in
    let others = c.in_ok-others.others in
    let fitted = arguments_went world script set c.args.i c.args.past c.args.row c.args.last c.args.height (omega arith) old ready c.args.codes.now es c.in_ok-kind.kind (desk c.expression.new.scope c.expression.new.locals) c.expression.new.codes
    stands c.if-i-past.false c.in_ok-kind.ensures.answers c.in_ok-kind.ensures.kept c.after.result c.after.ensures.value c.row.result.past c.saturating_add.result
    (ap (λ row. row.past) c.row.ensures ∙ ap (λ rows. (row_at rows.rows c.args.row).past) c.rows-rows.ensures) (λ h. omega (arith, c.saturating_add.ensures))
    c.is_next-fit.result (rw c.rows-rows.ensures at c.is_next-fit.ensures) (Ok others) (Ok others) (desk c.arguments.new.scope c.arguments.new.locals) c.arguments.new.codes c.in_ok-others.ensures.answers
    (ap (λ b. Ok (b && others)) (sym c.if-fit.true)) in
    search rules

pub arguments-returns-else-fit-clause-answers : goal.arguments-returns-else-fit-clause-answers
arguments-returns-else-fit-clause-answers t c script es set ready stands =
    let world = c.args.world.now in
    let old = desk c.args.scope.now c.args.locals.now in
    let others = c.in_ok-others.others in
    let fitted = arguments_went world script set c.args.i c.args.past c.args.row c.args.last c.args.height (omega arith) old ready c.args.codes.now es c.in_ok-kind.kind (desk c.expression.new.scope c.expression.new.locals) c.expression.new.codes
    stands c.if-i-past.false c.in_ok-kind.ensures.answers c.in_ok-kind.ensures.kept c.after.result c.after.ensures.value c.row.result.past c.saturating_add.result
    (ap (λ row. row.past) c.row.ensures ∙ ap (λ rows. (row_at rows.rows c.args.row).past) c.rows-rows.ensures) (λ h. omega (arith, c.saturating_add.ensures))
    c.is_next-fit.result (rw c.rows-rows.ensures at c.is_next-fit.ensures) (Ok others) (Ok c.is_next-fit.result) (desk c.arguments.new.scope c.arguments.new.locals) c.arguments.new.codes c.in_ok-others.ensures.answers
    (ap Ok c.if-fit.false ∙ ap (λ b. Ok (b && others)) (sym c.if-fit.false)) in
    search rules

pub apply_form-returns-in-Some-clause-answers : goal.apply_form-returns-in-Some-clause-answers
apply_form-returns-in-Some-clause-answers t c script e set ready stands =
    let head = subst (λ o. OnHead c.args.world.now (c.args.i + 1) (desk c.args.scope.now c.args.locals.now) o) c.in-Some.is c.constructor_at.ensures in
    apply_by_parts c.args.world.now script set c.args.i c.args.height (desk c.args.scope.now c.args.locals.now) c.args.codes.now c.construct.result (desk c.construct.new.scope c.construct.new.locals) c.construct.new.codes stands
    (λ p d ds at inside. c.construct.ensures.answers script p d ds set ready at (head script d set ready inside))

pub apply_form-returns-in-None-clause-answers : goal.apply_form-returns-in-None-clause-answers
apply_form-returns-in-None-clause-answers t c script e set ready stands =
    let head = subst (λ o. OnHead c.args.world.now (c.args.i + 1) (desk c.args.scope.now c.args.locals.now) o) c.in-None.is c.constructor_at.ensures in
    apply_by_parts c.args.world.now script set c.args.i c.args.height (desk c.args.scope.now c.args.locals.now) c.args.codes.now c.call.result (desk c.call.new.scope c.call.new.locals) c.call.new.codes stands
    (λ p d ds at inside. c.call.ensures.answers script p d ds set ready at (head script d set ready inside))

pub construct-returns-in_err-fit-clause-answers : goal.construct-returns-in_err-fit-clause-answers
construct-returns-in_err-fit-clause-answers t c script p e es set ready stands named =
    let world = c.args.world.now in
    let old = desk c.args.scope.now c.args.locals.now in
    let new = desk c.arguments.new.scope c.arguments.new.locals in
    let r = c.in_err-fit.field-0.0 in
    let left : c.from_residual.result ≡ Err r = search rules in
    subst (λ w. ExprAnswers world script (apply_expr p e es) c.args.i c.args.height old c.args.codes.now w new c.arguments.new.codes) (sym left)
    (construct_stopped world script set c.args.i c.args.height c.node_at-node.result c.node_at-node.ensures (omega (arith, c.node_at-node.type_inv)) c.after.result c.after.ensures.value old ready p e es stands
    c.args.k named c.variant-variant.result (λ w h. c.variant-variant.ensures (text_of world script) script w set.known h) c.note.new.codes new c.arguments.new.codes r c.in_err-fit.ensures.answers)

pub construct-returns-then-not-fit-clause-answers : goal.construct-returns-then-not-fit-clause-answers
construct-returns-then-not-fit-clause-answers t c script p e es set ready stands named =
    let world = c.args.world.now in
    let old = desk c.args.scope.now c.args.locals.now in
    construct_unlike world script set c.args.i c.args.height c.node_at-node.result c.node_at-node.ensures (omega (arith, c.node_at-node.type_inv)) c.after.result c.after.ensures.value old ready p e es stands
    c.args.k named c.variant-variant.result (λ w h. c.variant-variant.ensures (text_of world script) script w set.known h) c.note.new.codes (desk c.arguments.new.scope c.arguments.new.locals) c.arguments.new.codes
    c.in_ok-fit.fit c.mismatch.result c.in_ok-fit.ensures.answers c.if-not-fit.true c.mismatch.ensures

pub construct-returns-clause-answers : goal.construct-returns-clause-answers
construct-returns-clause-answers t c script p e es set ready stands named =
    let world = c.args.world.now in
    let old = desk c.args.scope.now c.args.locals.now in
    let built = construct_built world script set c.args.i c.args.height c.node_at-node.result c.node_at-node.ensures (omega (arith, c.node_at-node.type_inv)) c.after.result c.after.ensures.value old ready p e es stands
    c.args.k named c.variant-variant.result (λ w h. c.variant-variant.ensures (text_of world script) script w set.known h) c.note.new.codes (desk c.arguments.new.scope c.arguments.new.locals) c.arguments.new.codes
    c.in_ok-fit.fit c.node_at.result c.args.codes.now c.note-2.new.codes c.in_ok-fit.ensures.answers c.if-not-fit.false c.node_at.ensures c.note.ensures c.note-2.ensures in
    search rules

pub call-returns-in_err-kind-clause-answers : goal.call-returns-in_err-kind-clause-answers
call-returns-in_err-kind-clause-answers t c script p e es set ready stands named =
    let world = c.args.world.now in
    let old = desk c.args.scope.now c.args.locals.now in
    let new = desk c.expression.new.scope c.expression.new.locals in
    let r = c.in_err-kind.field-0.0 in
    let left : c.from_residual.result ≡ Err r = search rules in
    subst (λ w. ExprAnswers world script (apply_expr p e es) c.args.i c.args.height old c.args.codes.now w new c.expression.new.codes) (sym left)
    (call_stopped world script set c.args.i c.args.height old ready c.note.new.codes c.expression.new.codes r new stands named c.in_err-kind.ensures.answers)

pub call-returns-in_err-fit-clause-answers : goal.call-returns-in_err-fit-clause-answers
call-returns-in_err-fit-clause-answers t c script p e es set ready stands named =
    let world = c.args.world.now in
    let old = desk c.args.scope.now c.args.locals.now in
    let mid = desk c.expression.new.scope c.expression.new.locals in
    let new = desk c.arguments.new.scope c.arguments.new.locals in
    let r = c.in_err-fit.field-0.0 in
    let left : c.from_residual-in_err-fit.result ≡ Err r = search rules in
    subst (λ w. ExprAnswers world script (apply_expr p e es) c.args.i c.args.height old c.args.codes.now w new c.arguments.new.codes) (sym left)
    (call_later_stopped world script set c.args.i c.args.height c.node_at-node.result c.node_at-node.ensures (omega (arith, c.node_at-node.type_inv)) c.after.result c.after.ensures.value old ready p e es stands named
    c.note.new.codes mid c.expression.new.codes c.in_ok-kind.kind c.in_ok-kind.ensures.answers c.in_ok-kind.ensures.kept c.signature_of-signature.result (rw c.rows.ensures at c.signature_of-signature.ensures) new c.arguments.new.codes r c.in_err-fit.ensures.answers)

pub call-returns-in-Some-clause-answers : goal.call-returns-in-Some-clause-answers
call-returns-in-Some-clause-answers t c script p e es set ready stands named =
    let world = c.args.world.now in
    let old = desk c.args.scope.now c.args.locals.now in
    let mid = desk c.expression.new.scope c.expression.new.locals in
    let new = desk c.arguments.new.scope c.arguments.new.locals in
    call_judged world script set c.args.i c.args.height c.node_at-node.result c.node_at-node.ensures (omega (arith, c.node_at-node.type_inv)) c.after.result c.after.ensures.value old ready p e es stands named
    c.note.new.codes mid c.expression.new.codes c.in_ok-kind.kind c.in_ok-kind.ensures.answers c.in_ok-kind.ensures.kept c.signature_of-signature.result (rw c.rows.ensures at c.signature_of-signature.ensures) new c.arguments.new.codes
    c.in_ok-fit.fit c.in-Some.result c.args.codes.now c.in_ok-fit.ensures.answers c.if-fit.true c.in-Some.is c.note.ensures

pub call-returns-in_default-clause-answers : goal.call-returns-in_default-clause-answers
call-returns-in_default-clause-answers t c script p e es set ready stands named =
    let world = c.args.world.now in
    let old = desk c.args.scope.now c.args.locals.now in
    let mid = desk c.expression.new.scope c.expression.new.locals in
    let new = desk c.arguments.new.scope c.arguments.new.locals in
    let bad : (result : ValueType) → c.signature_of-signature.result.result ≡ Some result → c.in_ok-fit.fit ≡ false =
    elim c.in_default.branch [ call-in_default-via-in-Some+else-fit w ↦ λ result e. w.if-fit.false | call-in_default-via-in_default w ↦ λ result e. absurd (let z : None ≡ Some result = sym w.in_default.is ∙ e in cc) ] in
    call_unlike world script set c.args.i c.args.height c.node_at-node.result c.node_at-node.ensures (omega (arith, c.node_at-node.type_inv)) c.after.result c.after.ensures.value old ready p e es stands named
    c.note.new.codes mid c.expression.new.codes c.in_ok-kind.kind c.in_ok-kind.ensures.answers c.in_ok-kind.ensures.kept c.signature_of-signature.result (rw c.rows.ensures at c.signature_of-signature.ensures) new c.arguments.new.codes
    c.in_ok-fit.fit c.mismatch.result c.in_ok-fit.ensures.answers bad c.mismatch.ensures
