use Rattle.std.proofs.Common.{◌≡◌, ◌<◌, get_or, Err, Result, sym, ap, ◌∙◌, arith, rules}
use Rattle.std.specs.Prelude.{min}
use Rattle.globals.specs.Tallies.{told}
use Rattle.layout.specs.declared.definition.Definition.TheVariants as definition
use Rattle.script_refusals.specs.declared.refusal.Refused.{Refused}
use Rattle.typing.specs.Verdict.{accepted}
use Rattle.globals.proofs.Gathering.{gather_start, gather_next, gather_refused}
use Rattle.globals.proofs.Listed.{entry_listed}
use Rattle.globals.proofs.declarations.Declarations.read.Goals as goal

pub loop-definition-init : goal.loop-definition-init
loop-definition-init c = λ script l. gather_start c.args.parsed.now.text.now c.args.parsed.now.tables.now script c.new-declared.result l (c.new-declared.ensures c.args.parsed.now.text.now)

pub loop-definition-preserved : goal.loop-definition-preserved
loop-definition-preserved c = λ script l.
    let k = c.loop-definition.definition-index in
    let items = c.definitions-definition-items.result.now in
    let test = c.loop-definition-test.true in
    let many = c.definitions-definition-items.ensures.many in
    let within : k < min c.args.parsed.now.tables.now.counts.definitions 832 = omega arith in
    gather_next c.args.parsed.now.text.now c.args.parsed.now.tables.now script k c.loop-definition.declared c.declare.new.self (get_or items k definition.Unused) (omega arith)
    (entry_listed c.args.parsed.now.text.now c.args.parsed.now.tables.now items k c.definitions-definition-items.ensures.items within) c.in_ok-declare.ensures.told_names c.in_ok-declare.ensures.holds
    (c.loop-definition.invariant script l)

pub returns-in_err-declare-clause-names : goal.returns-in_err-declare-clause-names
returns-in_err-declare-clause-names c = λ script l.
    let k = c.loop-definition.definition-index in
    let items = c.definitions-definition-items.result.now in
    let test = c.loop-definition-test.true in
    let many = c.definitions-definition-items.ensures.many in
    let within : k < min c.args.parsed.now.tables.now.counts.definitions 832 = omega arith in
    let r = c.in_err-declare.field-0.0 in
    let is : c.from_residual.result ≡ Err r = search rules in
    gather_refused c.args.parsed.now.text.now c.args.parsed.now.tables.now script k c.loop-definition.declared (get_or items k definition.Unused) r (omega arith)
    (entry_listed c.args.parsed.now.text.now c.args.parsed.now.tables.now items k c.definitions-definition-items.ensures.items within) c.in_err-declare.ensures.told_names (c.loop-definition.invariant script l)
    ∙ sym (ap (λ (x : Result _ Refused). told x accepted) is)
