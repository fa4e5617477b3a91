use Rattle.std.proofs.Common.{rules, ◌≡◌, take, min, get_or, Err, sym, ap, ◌∙◌, subst}
use Rattle.checking.specs.Drafting.{Judges}
use Rattle.globals.specs.Lying.{DefinitionLies}
use Rattle.type_rows.specs.declared.value_type.ValueType.TheVariants as value
use Rattle.checking.proofs.StepLaws.{define_refused, define_more, val_refused, val_more, no_body}
use Rattle.checking.proofs.whole.check_one.Goals as goal

pub returns-in_err-check_define-in-Define : goal.returns-in_err-check_define-in-Define
returns-in_err-check_define-in-Define c = λ script k d ds s at u.
    let text = c.args.parsed.now.text.now in
    let tables = c.args.parsed.now.tables.now in
    let r = c.in_err-check_define-in-Define.field-0.0 in
    let is : c.from_residual.result ≡ Err r = search rules in
    let known : c.min.result ≡ min c.args.draft.now.val_count 256 = search rules in
    let entry = sym at ∙ c.in-Define.is in
    let kind : c.define_type-kind.result ≡ get_or c.args.parsed.now.globals.now.types.types c.args.draft.now.define_count value.Unit = search rules in
    subst (λ x. Judges text c.args.parsed.now.nodes.now tables c.args.parsed.now.globals.now script k d ds c.args.draft.now x (record c.args.draft.now { code = c.check_define.new.codes })) (sym is)
    (define_refused _ tables script k ds c.args.draft.now s (ap (λ n. take n c.args.draft.now.kinds) known) c.in-Define.define c.define_type-kind.result kind entry d r c.check_define.new.codes (subst (DefinitionLies text tables k d) entry u.lies.0) u
    c.in_err-check_define-in-Define.ensures)

pub returns-in_err-kind-in-Val : goal.returns-in_err-kind-in-Val
returns-in_err-kind-in-Val c = λ script k d ds s at u.
    let text = c.args.parsed.now.text.now in
    let tables = c.args.parsed.now.tables.now in
    let r = c.in_err-kind-in-Val.field-0.0 in
    let is : c.from_residual-in_err-kind-in-Val.result ≡ Err r = search rules in
    let known : c.min.result ≡ min c.args.draft.now.val_count 256 = search rules in
    let entry = sym at ∙ c.in-Val.is in
    subst (λ x. Judges text c.args.parsed.now.nodes.now tables c.args.parsed.now.globals.now script k d ds c.args.draft.now x (record c.args.draft.now { code = c.check_val.new.codes })) (sym is)
    (val_refused _ tables script k ds c.args.draft.now s (ap (λ n. take n c.args.draft.now.kinds) known) c.in-Val.val entry d r c.check_val.new.codes (subst (DefinitionLies text tables k d) entry u.lies.0) u c.in_err-kind-in-Val.ensures)

pub returns-in_ok-check_define-in-Define : goal.returns-in_ok-check_define-in-Define
returns-in_ok-check_define-in-Define c = λ script k d ds s at u.
    let tables = c.args.parsed.now.tables.now in
    let known : c.min.result ≡ min c.args.draft.now.val_count 256 = search rules in
    let entry = sym at ∙ c.in-Define.is in
    let kind : c.define_type-kind.result ≡ get_or c.args.parsed.now.globals.now.types.types c.args.draft.now.define_count value.Unit = search rules in
    define_more _ tables script k ds c.args.draft.now s (ap (λ n. take n c.args.draft.now.kinds) known) c.in-Define.define c.define_type-kind.result kind entry d c.check_define.new.codes c.add_define.new.self
    (subst (DefinitionLies c.args.parsed.now.text.now tables k d) entry u.lies.0) u c.in_ok-check_define-in-Define.ensures c.add_define.ensures

pub returns-in_ok-kind-in-Val : goal.returns-in_ok-kind-in-Val
returns-in_ok-kind-in-Val c = λ script k d ds s at u.
    let tables = c.args.parsed.now.tables.now in
    let known : c.min.result ≡ min c.args.draft.now.val_count 256 = search rules in
    let entry = sym at ∙ c.in-Val.is in
    val_more _ tables script k ds c.args.draft.now s (ap (λ n. take n c.args.draft.now.kinds) known) c.in-Val.val entry d c.in_ok-kind-in-Val.kind c.check_val.new.codes c.add_val.new.self (subst (DefinitionLies c.args.parsed.now.text.now tables k d) entry u.lies.0) u
    c.in_ok-kind-in-Val.ensures c.add_val.ensures

pub returns-in-Unused : goal.returns-in-Unused
returns-in-Unused c = λ script k d ds s at u.
    no_body c.args.parsed.now.text.now c.args.parsed.now.nodes.now c.args.parsed.now.tables.now c.args.parsed.now.globals.now script k ds c.args.draft.now d c.args.definition
    (subst (DefinitionLies c.args.parsed.now.text.now c.args.parsed.now.tables.now k d) (sym at) u.lies.0) c.in-Unused.is u
