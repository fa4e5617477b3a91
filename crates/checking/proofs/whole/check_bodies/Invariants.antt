use Rattle.checking.specs.Drafting.{Setting}
use Rattle.globals.specs.Lying.{Laid}
use Rattle.grammar.specs.Trees.{Script}
use Rattle.layout.specs.Scripts.{ScriptStands}
use Rattle.checking.proofs.EndLaws.{Going}
use Rattle.checking.proofs.whole.check_bodies.Given as goal

abbrev pub invariant-loop-definition : goal.invariant-loop-definition
invariant-loop-definition l =
    (script : Script) → Setting l.parsed.text.now l.parsed.nodes.now l.parsed.tables.now l.parsed.globals.now script → Laid l.parsed.text.now l.parsed.tables.now script → ScriptStands l.parsed.text.now l.parsed.nodes.now l.parsed.tables.now script
    → Going l.parsed.text.now l.parsed.nodes.now l.parsed.tables.now l.parsed.globals.now script l.definition-index l.draft
