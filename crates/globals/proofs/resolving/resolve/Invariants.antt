use Rattle.globals.specs.Lying.{TypesLaid}
use Rattle.globals.specs.Types.{HasDatatypes}
use Rattle.grammar.specs.Trees.{Script}
use Rattle.program.specs.Programs.{Program}
use Rattle.type_rows.specs.TypeExprs.{types_listed}
use Rattle.globals.proofs.TypeRows.{Resolving}
use Rattle.globals.proofs.resolving.resolve.Given as goal

abbrev pub invariant-loop-k : goal.invariant-loop-k
invariant-loop-k l = (P : Program) (script : Script) → TypesLaid l.parsed.text.now l.parsed.tables.now (types_listed script) → HasDatatypes l.parsed.text.now l.declared P → Resolving P (types_listed script) l.k l.rows.rows
