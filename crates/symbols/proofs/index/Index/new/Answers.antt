use Rattle.std.proofs.Common.{None, arith}
use Rattle.std.proofs.lemmas.List.{get_or-replicate}
use Rattle.symbols.proofs.index.Index.new.Goals as goal

pub returns-clause-index : goal.returns-clause-index
returns-clause-index c = λ text. record {
  few = omega arith;
  sums = λ k low. absurd (omega arith);
  heads = λ h low. get_or-replicate 4096 h None None low;
  links = λ k low. absurd (omega arith);
}
