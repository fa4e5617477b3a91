use Rattle.std.proofs.Common.{◌-◌, ◌≤◌, List, length}
use Rattle.grammar.specs.Trees.{PatternPart}
use Rattle.patterns.specs.Parts.{PartsAt}
use Rattle.naming.proofs.CountLaws.{Counting}
use Rattle.naming.proofs.matching.count_parts.Given as goal

abbrev pub invariant-parts : goal.invariant-parts
invariant-parts l = record {
  few : l.count ≤ l.at;
  counting : (xs : List PatternPart) → length l.text ≤ 65535 → PartsAt l.text l.place xs → Counting l.text l.at l.count xs;
}

abbrev pub decreases-parts : goal.decreases-parts
decreases-parts l = length l.text - l.at
