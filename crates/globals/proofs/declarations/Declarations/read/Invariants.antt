use Rattle.globals.specs.Lying.{Laid}
use Rattle.globals.proofs.Gathering.{Gathered}
use Rattle.grammar.specs.Trees.{Script}
use Rattle.globals.proofs.declarations.Declarations.read.Given as goal

abbrev pub invariant-loop-definition : goal.invariant-loop-definition
invariant-loop-definition l = (script : Script) → Laid l.parsed.text.now l.parsed.tables.now script → Gathered l.parsed.text.now l.parsed.tables.now script l.definition-index l.declared
