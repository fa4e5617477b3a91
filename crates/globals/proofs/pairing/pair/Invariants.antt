use Rattle.std.proofs.Common.{◌≤◌}
use Rattle.globals.specs.Lying.{Laid}
use Rattle.globals.specs.Names.{Named}
use Rattle.grammar.specs.Trees.{Script}
use Rattle.program.specs.Programs.{program}
use Rattle.type_rows.specs.TypeExprs.{types_listed, meaning, HasRows}
use Rattle.globals.proofs.PairLaws.{Pairing}
use Rattle.globals.proofs.pairing.pair.Given as goal

abbrev pub invariant-loop-definition : goal.invariant-loop-definition
invariant-loop-definition l = record {
  few : l.defines ≤ l.definition-index;
  pairing : (script : Script) → Laid l.parsed.text.now l.parsed.tables.now script → Named l.parsed.text.now l.declared script → HasRows (program script) (types_listed script) l.rows.rows
      → Pairing l.parsed.text.now l.parsed.tables.now script (meaning (program script) (types_listed script)) l.rows l.definition-index l.defines l.types.types;
}
