use Rattle.std.proofs.Common.{◌≡◌, ◌<◌, get_or, Err, sym, refl, subst, arith, rules}
use Rattle.std.specs.Prelude.{min}
use Rattle.globals.specs.Pairs.{ArePaired}
use Rattle.layout.specs.declared.definition.Definition.TheVariants as definition
use Rattle.program.specs.Programs.{program}
use Rattle.type_rows.specs.TypeExprs.{types_listed, meaning}
use Rattle.globals.proofs.Listed.{entry_listed}
use Rattle.globals.proofs.PairLaws.{pairing_start, pairing_next, pairing_refused, pairing_end}
use Rattle.globals.proofs.pairing.pair.Goals as goal

pub loop-definition-init : goal.loop-definition-init
loop-definition-init c = record {
  few = omega arith;
  pairing = λ script laid n has. pairing_start c.args.parsed.now.text.now c.args.parsed.now.tables.now script (meaning (program script) (types_listed script)) c.args.rows.now _ refl laid;
}

pub loop-definition-preserved : goal.loop-definition-preserved
loop-definition-preserved c = record {
  few = let few = c.in_ok-defines.ensures.few in let before = c.loop-definition.invariant.few in omega arith;
  pairing = λ script laid n has.
      let k = c.loop-definition.definition-index in
      let items = c.definitions-definition-items.result.now in
      let test = c.loop-definition-test.true in
      let many = c.definitions-definition-items.ensures.many in
      let within : k < min c.args.parsed.now.tables.now.counts.definitions 832 = omega arith in
      pairing_next c.args.parsed.now.text.now c.args.parsed.now.tables.now script (meaning (program script) (types_listed script)) c.args.rows.now k c.loop-definition.defines c.loop-definition.types.types (get_or items k definition.Unused) (omega arith)
      (entry_listed c.args.parsed.now.text.now c.args.parsed.now.tables.now items k c.definitions-definition-items.ensures.items within)
      c.in_ok-defines.defines c.pair_one.new.types.types
      (λ k d lies. c.in_ok-defines.ensures.pairs c.args.parsed.now.tables.now script k d n has laid.types.few lies) (c.loop-definition.invariant.pairing script laid n has);
}

pub returns-in_err-defines : goal.returns-in_err-defines
returns-in_err-defines c = λ script laid n has.
    let k = c.loop-definition.definition-index in
    let items = c.definitions-definition-items.result.now in
    let test = c.loop-definition-test.true in
    let many = c.definitions-definition-items.ensures.many in
    let within : k < min c.args.parsed.now.tables.now.counts.definitions 832 = omega arith in
    let r = c.in_err-defines.field-0.0 in
    let is : c.from_residual.result ≡ Err r = search rules in
    subst (ArePaired (program script) script (meaning (program script) (types_listed script)) c.args.rows.now) (sym is)
    (pairing_refused c.args.parsed.now.text.now c.args.parsed.now.tables.now script (meaning (program script) (types_listed script)) c.args.rows.now k c.loop-definition.defines c.loop-definition.types.types (get_or items k definition.Unused) (omega arith)
    (entry_listed c.args.parsed.now.text.now c.args.parsed.now.tables.now items k c.definitions-definition-items.ensures.items within)
    r (λ k d lies. c.in_err-defines.ensures.pairs c.args.parsed.now.tables.now script k d n has laid.types.few lies) (c.loop-definition.invariant.pairing script laid n has))

pub returns : goal.returns
returns c = λ script laid n has.
    let test = c.loop-definition-test.false in
    let many = c.definitions-definition-items.ensures.many in
    let entries = laid.entries in
    pairing_end c.args.parsed.now.text.now c.args.parsed.now.tables.now script (meaning (program script) (types_listed script)) c.args.rows.now c.loop-definition.definition-index c.loop-definition.defines c.loop-definition.types.types (omega arith) (c.loop-definition.invariant.pairing script laid n has)
