use Rattle.std.proofs.Common.{rules, ◌≡◌, ◌<◌, get_or, Err, sym, subst, arith}
use Rattle.std.specs.Prelude.{min}
use Rattle.checking.specs.Whole.{BodiesAnswer}
use Rattle.globals.proofs.Listed.{entry_listed}
use Rattle.layout.specs.declared.definition.Definition.TheVariants as definition
use Rattle.checking.proofs.EndLaws.{going_start, going_next, going_refused, going_end, finished}
use Rattle.checking.proofs.whole.check_bodies.Goals as goal

pub loop-definition-init : goal.loop-definition-init
loop-definition-init c = λ script s l stands. going_start c.args.text.now c.args.nodes.now c.args.tables.now c.args.globals.now script _ c.new-draft.ensures l stands

pub loop-definition-preserved : goal.loop-definition-preserved
loop-definition-preserved c = λ script s l stands.
    let tables = c.args.tables.now in
    let k = c.loop-definition.definition-index in
    let items = c.definitions-definition-items.result.now in
    let test = c.loop-definition-test.true in
    let many = c.definitions-definition-items.ensures.many in
    let within : k < min tables.counts.definitions 832 = omega arith in
    let at = entry_listed c.args.text.now tables items k c.definitions-definition-items.ensures.items within in
    going_next c.args.text.now c.args.nodes.now tables c.args.globals.now script k (get_or items k definition.Unused) c.loop-definition.draft (omega arith) at c.check_one.new.draft (λ counts d ds is u. c.in_ok-check_one.ensures script counts d ds s is u)
    (c.loop-definition.invariant script s l stands)

pub returns-in_err-check_one : goal.returns-in_err-check_one
returns-in_err-check_one c = λ script s l stands main.
    let tables = c.args.tables.now in
    let k = c.loop-definition.definition-index in
    let items = c.definitions-definition-items.result.now in
    let test = c.loop-definition-test.true in
    let many = c.definitions-definition-items.ensures.many in
    let within : k < min tables.counts.definitions 832 = omega arith in
    let at = entry_listed c.args.text.now tables items k c.definitions-definition-items.ensures.items within in
    let r = c.in_err-check_one.field-0.0 in
    let is : c.from_residual.result ≡ Err r = search rules in
    subst (BodiesAnswer script) (sym is)
    (going_refused c.args.text.now c.args.nodes.now tables c.args.globals.now script k (get_or items k definition.Unused) c.loop-definition.draft (omega arith) at r (λ counts d ds is u. c.in_err-check_one.ensures script counts d ds s is u)
    (c.loop-definition.invariant script s l stands))

pub returns : goal.returns
returns c = λ script s l stands main.
    let test = c.loop-definition-test.false in
    let many = c.definitions-definition-items.ensures.many in
    let entries = l.entries in
    let end = going_end c.args.text.now c.args.nodes.now c.args.tables.now c.args.globals.now script c.loop-definition.definition-index c.loop-definition.draft (omega arith) (c.loop-definition.invariant script s l stands) in
    finished c.args.text.now c.args.nodes.now c.args.tables.now c.args.globals.now script l main c.loop-definition.draft end.0 end.1 c.main_of-main.result c.finish.result (c.main_of-main.ensures script s.known main) c.finish.ensures
