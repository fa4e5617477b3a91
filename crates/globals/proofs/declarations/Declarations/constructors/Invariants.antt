use Rattle.std.proofs.Common.{ℕ, List}
use Rattle.globals.specs.Tallies.{Tally, Next, Holds}
use Rattle.grammar.specs.Trees.{Constructor}
use Rattle.globals.proofs.Constructors.{Midway}
use Rattle.globals.proofs.declarations.Declarations.constructors.Given as goal

abbrev pub invariant-each : goal.invariant-each
invariant-each l =
    (t : Tally) (k : ℕ) (cs : List Constructor) → Holds l.parsed.text.now l.initial.self t → Next l.parsed.text.now l.parsed.tables.now t l.first l.past k cs → Midway l.parsed.text.now l.parsed.tables.now l.datatype l.first l.past k cs t l.i l.self
