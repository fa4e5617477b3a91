use mir.Val.{SFits}
use mir.Syntax.{w32}
use Rattle.std.proofs.Common.{rules, [], ◌≡◌, ◌+◌, ◌<◌, ◌++◌, sym, refl, ap, ◌∙◌, subst, arith}
use Rattle.std.proofs.lemmas.Int.{to_z-of_z}
use Rattle.cells.specs.declared.values.Value.TheVariants.{Int}
use Rattle.data.specs.Standing.{Plain, plain_int, plain_bool, plain_symbol, plain_unit, plain_function}
use Rattle.data.specs.Trees.{int, bool, symbol, unit, function}
use Rattle.entering.proofs.Views.{Enters, at_integer, at_symbol, at_boolean, at_unit, at_local, at_dup, at_function, at_val, at_if, at_begin, at_let, at_case, at_call, at_build, calls_wait, function_named, val_named, construct_named, let_waits, no_other}
use Rattle.machine.proofs.Nodes.{stands_as}
use Rattle.machine.proofs.Resting.{entered, entered_at, with_plain, by_rule}
use Rattle.machine.specs.Holding.{names, kept}
use Rattle.machine.specs.Waiting.{waits_test, waits_part, waits_tested, waits_head}
use Rattle.program.specs.Standing.{past, StandsAt, StandsRow, StandsBindings}
use Rattle.program.specs.declared.code.Code.{Code}
use Rattle.rules.specs.States.{st, finished, if_test, begin_part, case_test, head_value}
use Rattle.rules.specs.Steps.{goes, enter_expr, finish, bind_next}
use Rattle.entering.proofs.expressions.enter.Goals as goal

pub returns-in-Integer-clause-law : goal.returns-in-Integer-clause-law
unfolding enter_expr finish
returns-in-Integer-clause-law g c = λ P Z m₀ K env a e M at.
    let r = c.args.machine.now in
    let m = g.S.CellStore.cells c.args.store.now in
    let S = stands_as c.code_at-code.result c.code_at-code.ensures.code c.in-Integer.is (entered_at at M) in
    at_integer (Enters P Z m₀ K env a r m c.finish.result c.finish.new.self m) S
    (λ p M.
    let n = c.in-Integer.number in
    let fits : SFits w32 n = search rules in
    c.finish.ensures.law P Z m₀ m _ K env a (int n) (with_plain (entered M) (subst (λ z. Plain (Int z) (int n)) (sym (to_z-of_z w32 n fits)) plain_int))) M

pub returns-in-Symbol-clause-law : goal.returns-in-Symbol-clause-law
unfolding enter_expr finish
returns-in-Symbol-clause-law g c = λ P Z m₀ K env a e M at.
    let r = c.args.machine.now in
    let m = g.S.CellStore.cells c.args.store.now in
    let S = stands_as c.code_at-code.result c.code_at-code.ensures.code c.in-Symbol.is (entered_at at M) in
    at_symbol (Enters P Z m₀ K env a r m c.finish-in-Symbol.result c.finish-in-Symbol.new.self m) S
    (λ p w is M. by_rule (ap (λ n. goes [] (st K env (finished (symbol n)) a)) is) (c.finish-in-Symbol.ensures.law P Z m₀ m _ K env a (symbol c.in-Symbol.number) (with_plain (entered M) plain_symbol))) M

pub returns-in-Boolean-clause-law : goal.returns-in-Boolean-clause-law
unfolding enter_expr finish
returns-in-Boolean-clause-law g c = λ P Z m₀ K env a e M at.
    let r = c.args.machine.now in
    let m = g.S.CellStore.cells c.args.store.now in
    let S = stands_as c.code_at-code.result c.code_at-code.ensures.code c.in-Boolean.is (entered_at at M) in
    at_boolean (Enters P Z m₀ K env a r m c.finish-in-Boolean.result c.finish-in-Boolean.new.self m) S
    (λ p M. c.finish-in-Boolean.ensures.law P Z m₀ m _ K env a (bool c.in-Boolean.truth) (with_plain (entered M) plain_bool)) M

pub returns-in-Unit-clause-law : goal.returns-in-Unit-clause-law
unfolding enter_expr finish
returns-in-Unit-clause-law g c = λ P Z m₀ K env a e M at.
    let r = c.args.machine.now in
    let m = g.S.CellStore.cells c.args.store.now in
    let S = stands_as c.code_at-code.result c.code_at-code.ensures.code c.in-Unit.is (entered_at at M) in
    at_unit (Enters P Z m₀ K env a r m c.finish-in-Unit.result c.finish-in-Unit.new.self m) S
    (λ p M. c.finish-in-Unit.ensures.law P Z m₀ m _ K env a (unit) (with_plain (entered M) plain_unit)) M

pub returns-in-Local-clause-law : goal.returns-in-Local-clause-law
unfolding enter_expr finish
returns-in-Local-clause-law g c = λ P Z m₀ K env a e M at.
    let r = c.args.machine.now in
    let m = g.S.CellStore.cells c.args.store.now in
    let S = stands_as c.code_at-code.result c.code_at-code.ensures.code c.in-Local.is (entered_at at M) in
    at_local (Enters P Z m₀ K env a r m c.enter_local.result c.enter_local.new.machine m) S
    (λ p w d M. c.enter_local.ensures.law P Z m₀ m K env a _ w p M d) M

pub returns-in-Dup-clause-law : goal.returns-in-Dup-clause-law
unfolding enter_expr finish
returns-in-Dup-clause-law g c = λ P Z m₀ K env a e M at.
    let r = c.args.machine.now in
    let m = g.S.CellStore.cells c.args.store.now in
    let S = stands_as c.code_at-code.result c.code_at-code.ensures.code c.in-Dup.is (entered_at at M) in
    at_dup (Enters P Z m₀ K env a r m c.enter_dup.result c.enter_dup.new.machine (g.S.CellStore.cells c.enter_dup.new.store)) S
    (λ p x d M. c.enter_dup.ensures.law P Z m₀ K env a _ x.bytes M d) M

pub returns-in-Function-clause-law : goal.returns-in-Function-clause-law
unfolding enter_expr finish
returns-in-Function-clause-law g c = λ P Z m₀ K env a e M at.
    let r = c.args.machine.now in
    let m = g.S.CellStore.cells c.args.store.now in
    let S = stands_as c.code_at-code.result c.code_at-code.ensures.code c.in-Function.is (entered_at at M) in
    at_function (Enters P Z m₀ K env a r m c.finish-in-Function.result c.finish-in-Function.new.self m) S
    (λ p w d f M. by_rule (function_named P Z p K env a w c.in-Function.number d f) (c.finish-in-Function.ensures.law P Z m₀ m _ K env a (function c.in-Function.number) (with_plain (entered M) plain_function))) M

pub returns-in-Val-clause-law : goal.returns-in-Val-clause-law
unfolding enter_expr finish
returns-in-Val-clause-law g c = λ P Z m₀ K env a e M at.
    let r = c.args.machine.now in
    let m = g.S.CellStore.cells c.args.store.now in
    let S = stands_as c.code_at-code.result c.code_at-code.ensures.code c.in-Val.is (entered_at at M) in
    at_val (Enters P Z m₀ K env a r m c.enter_val.result c.enter_val.new.machine m) S
    (λ p w here d f M. by_rule (val_named P Z p K env a w c.in-Val.number d f) (c.enter_val.ensures.law P Z m₀ m K env a _ p M here)) M

pub returns-in-If-clause-law : goal.returns-in-If-clause-law
unfolding enter_expr finish
returns-in-If-clause-law g c = λ P Z m₀ K env a e M at.
    let r = c.args.machine.now in
    let m = g.S.CellStore.cells c.args.store.now in
    let S = stands_as c.code_at-code.result c.code_at-code.ensures.code c.in-If.is (entered_at at M) in
    let is = c.in-If.is in
    let few : c.args.at < 4096 = c.code_at-code.ensures.used (λ e. cc) in
    let next : c.after.result ≡ c.args.at + 1 = c.after.ensures (omega arith) in
    let cs = r.script.now.code in
    at_if (Enters P Z m₀ K env a r m c.wait.result c.wait.new.self m) S
    (λ p x y z here X Y V M. c.wait.ensures.law P Z m₀ m _ K env env a (if_test p y z) x M (entered M) (record {
      stands = subst (StandsAt P cs (names env) x) (sym next) X;
      waits = λ fs w. waits_test here Y V w;
      same = refl;
    })) M

pub returns-in-Case-clause-law : goal.returns-in-Case-clause-law
unfolding enter_expr finish
returns-in-Case-clause-law g c = λ P Z m₀ K env a e M at.
    let r = c.args.machine.now in
    let m = g.S.CellStore.cells c.args.store.now in
    let S = stands_as c.code_at-code.result c.code_at-code.ensures.code c.in-Case.is (entered_at at M) in
    let is = c.in-Case.is in
    let few : c.args.at < 4096 = c.code_at-code.ensures.used (λ e. cc) in
    let next : c.after-in-Case.result ≡ c.args.at + 1 = c.after-in-Case.ensures (omega arith) in
    let cs = r.script.now.code in
    at_case (Enters P Z m₀ K env a r m c.wait-in-Case.result c.wait-in-Case.new.self m) S
    (λ p x bs here X B M. c.wait-in-Case.ensures.law P Z m₀ m _ K env env a (case_test p bs) x M (entered M) (record {
      stands = subst (StandsAt P cs (names env) x) (sym next) X;
      waits = λ fs w. waits_tested here B w;
      same = refl;
    })) M

pub returns-in-Call-clause-law : goal.returns-in-Call-clause-law
unfolding enter_expr finish
returns-in-Call-clause-law g c = λ P Z m₀ K env a e M at.
    let r = c.args.machine.now in
    let m = g.S.CellStore.cells c.args.store.now in
    let S = stands_as c.code_at-code.result c.code_at-code.ensures.code c.in-Call.is (entered_at at M) in
    let is = c.in-Call.is in
    let few : c.args.at < 4096 = c.code_at-code.ensures.used (λ e. cc) in
    let next : c.after-in-Call.result ≡ c.args.at + 1 = c.after-in-Call.ensures (omega arith) in
    let cs = r.script.now.code in
    at_call (Enters P Z m₀ K env a r m c.wait-in-Call.result c.wait-in-Call.new.self m) S
    (λ p x xs here X A M. by_rule (calls_wait P Z K env a p xs X) (c.wait-in-Call.ensures.law P Z m₀ m _ K env env a (head_value p xs) x M (entered M) (record {
      stands = subst (StandsAt P cs (names env) x) (sym next) X;
      waits = λ fs w. waits_head here A w;
      same = refl;
    }))) M

pub returns-in-Begin-clause-law : goal.returns-in-Begin-clause-law
unfolding enter_expr finish
returns-in-Begin-clause-law g c = λ P Z m₀ K env a e M at.
    let r = c.args.machine.now in
    let m = g.S.CellStore.cells c.args.store.now in
    let S = stands_as c.code_at-code.result c.code_at-code.ensures.code c.in-Begin.is (entered_at at M) in
    let is = c.in-Begin.is in
    let few : c.args.at < 4096 = c.code_at-code.ensures.used (λ e. cc) in
    let next : c.after-first.result ≡ c.args.at + 1 = c.after-first.ensures (omega arith) in
    let cs = r.script.now.code in
    let then : c.code_at-next.result.past ≡ past P cs (c.args.at + 1) = ap (λ (x : Code). x.past) c.code_at-next.ensures.code ∙ ap (past P cs) next in
    at_begin (Enters P Z m₀ K env a r m c.wait-in-Begin.result c.wait-in-Begin.new.self m) S
    (λ p x xs here X B M. c.wait-in-Begin.ensures.law P Z m₀ m _ K env env a (begin_part p xs) x M (entered M) (record {
      stands = subst (StandsAt P cs (names env) x) (sym next) X;
      waits = λ fs w. waits_part here (subst (λ j. StandsRow P cs (names env) xs j (past P cs c.args.at)) (sym then) B) w;
      same = refl;
    })) M

pub returns-in-Let-clause-law : goal.returns-in-Let-clause-law
unfolding enter_expr finish
returns-in-Let-clause-law g c = λ P Z m₀ K env a e M at.
    let r = c.args.machine.now in
    let m = g.S.CellStore.cells c.args.store.now in
    let S = stands_as c.code_at-code.result c.code_at-code.ensures.code c.in-Let.is (entered_at at M) in
    let is = c.in-Let.is in
    let few : c.args.at < 4096 = c.code_at-code.ensures.used (λ e. cc) in
    let next : c.after-in-Let.result ≡ c.args.at + 1 = c.after-in-Let.ensures (omega arith) in
    let cs = r.script.now.code in
    at_let (Enters P Z m₀ K env a r m c.wait-in-Let.result c.wait-in-Let.new.self m) S
    (λ p j bs x here n B X M.
    let on = c.bind_next-on.ensures P env p j bs x here (subst (λ i. StandsBindings P cs (names env) bs i j) (sym next) B) X in
    by_rule (let_waits P Z p bs x K env a on.frame on.part (ap (λ n. bind_next P Z p bs x n K env a) n ∙ on.is Z K a)) (c.wait-in-Let.ensures.law P Z m₀ m _ K env env a on.frame on.part M (entered M) (record {
      stands = on.stands;
      waits = λ fs w. on.waits 0 K fs (omega arith) w;
      same = ap (λ s. env ++ (s ++ kept K)) on.keeps_none;
    }))) M

pub returns-in-Build-clause-law : goal.returns-in-Build-clause-law
unfolding enter_expr finish
returns-in-Build-clause-law g c = λ P Z m₀ K env a e M at.
    let r = c.args.machine.now in
    let m = g.S.CellStore.cells c.args.store.now in
    let S = stands_as c.code_at-code.result c.code_at-code.ensures.code c.in-Build.is (entered_at at M) in
    let op = ap (λ (x : Code). x.op) (sym c.code_at-code.ensures.code) ∙ c.in-Build.is in
    at_build (Enters P Z m₀ K env a r m c.enter_build.result c.enter_build.new.machine (g.S.CellStore.cells c.enter_build.new.store)) S
    (λ p q w xs here d k n A M. by_rule (construct_named P Z p q K env a w xs c.in-Build.constructor d k) (c.enter_build.ensures.law P Z m₀ K env a _ p xs M here op n A)) M

pub returns-in_default-clause-law : goal.returns-in_default-clause-law
returns-in_default-clause-law g c = λ P Z m₀ K env a e M at.
    let S = stands_as c.code_at-code.result c.code_at-code.ensures.code refl (entered_at at M) in
    let d = c.in_default in
    absurd (no_other S d.not-Integer d.not-Symbol d.not-Boolean d.not-Unit d.not-Local d.not-Dup d.not-Function d.not-Val d.not-If d.not-Case d.not-Call d.not-Begin d.not-Let d.not-Build)
