use Rattle.std.proofs.Common.{◌≡◌, ◌≤◌}
use Rattle.names.specs.Indexing.{last_in}
use Rattle.names.proofs.Finding.{Others}
use Rattle.symbols.specs.Indexing.{bytes_in, bucket_in}
use Rattle.symbols.specs.Parts.{bucket_of}
use Rattle.symbols.proofs.index.Index.find.Given as goal

abbrev pub invariant-chain : goal.invariant-chain
invariant-chain l = record {
  used : l.below ≤ l.self.count;
  chain : l.at ≡ last_in (bucket_in l.text l.self) (bucket_of l.bytes) l.below;
  others : Others (bytes_in l.text l.self) l.self.count l.bytes l.below;
}

abbrev pub decreases-chain : goal.decreases-chain
decreases-chain l = l.below
