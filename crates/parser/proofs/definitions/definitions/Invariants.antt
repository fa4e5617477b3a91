use Rattle.std.proofs.Common.{◌-◌, length}
use Rattle.parser.specs.Defining.{Bounded}
use Rattle.parser.proofs.WholeLaws.{CarriesDefinitions}
use Rattle.parser.proofs.definitions.definitions.Given as goal

abbrev pub invariant-definitions : goal.invariant-definitions
invariant-definitions l = record {
  bounded : Bounded l.tables;
  carries : CarriesDefinitions l.source.text.now (length l.initial.nodes) 0 l.initial.tables l.initial.nodes l.at l.tables l.nodes;
}

abbrev pub decreases-definitions : goal.decreases-definitions
decreases-definitions l = length l.source.text.now - l.at
