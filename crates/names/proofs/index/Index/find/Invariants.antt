use Rattle.std.proofs.Common.{◌≡◌, ◌≤◌}
use Rattle.names.specs.Indexing.{IsIndex, bucket_at, last_in}
use Rattle.names.specs.Parts.{bucket_of}
use Rattle.names.proofs.Finding.{name_at, Others}
use Rattle.names.proofs.index.Index.find.Given as goal

abbrev pub invariant-chain : goal.invariant-chain
invariant-chain l = record {
  few : l.below ≤ 512;
  used : l.below ≤ l.self.count;
  chain : IsIndex l.text l.self → l.at ≡ last_in (bucket_at l.text l.self) (bucket_of l.name) l.below;
  others : IsIndex l.text l.self → Others (name_at l.text l.self) l.self.count l.name l.below;
}

abbrev pub decreases-chain : goal.decreases-chain
decreases-chain l = l.below
