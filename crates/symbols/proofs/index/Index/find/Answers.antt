use Rattle.std.proofs.Common.{◌<◌, ◌≤◌, sym, ◌∙◌, arith}
use Rattle.std.proofs.lemmas.Bool.{both_ways}
use Rattle.names.proofs.Chains.{is_last}
use Rattle.names.proofs.Finding.{missed, ended, next}
use Rattle.symbols.specs.Indexing.{bytes_in}
use Rattle.symbols.specs.Parts.{bucket_of}
use Rattle.symbols.proofs.index.Index.find.Goals as goal

pub returns-then-k-below : goal.returns-then-k-below
returns-then-k-below c =
    let l = is_last _ _ _ _ (sym c.chain.invariant.chain ∙ c.in-Some.is) in
    let low : c.in-Some.link < c.chain.below = l.below in
    absurd (omega arith)

pub chain-preserved : goal.chain-preserved
chain-preserved c =
    let text = c.args.text.now in
    let s = c.args.self.now in
    let inv = c.chain.invariant in
    let used : c.chain.below ≤ s.count = inv.used in
    let chain = sym inv.chain ∙ c.in-Some.is in
    record {
      used = omega arith;
      chain = next (bytes_in text s) bucket_of s.count c.args.bytes.now s.links c.requires.links c.chain.below c.in-Some.link chain used;
      others = missed (bytes_in text s) bucket_of s.count c.args.bytes.now c.chain.below c.in-Some.link chain (λ same. both_ways _ c.if-has.false (c.has.ensures.1 same)) inv.others;
    }

pub returns : goal.returns
returns c =
    let text = c.args.text.now in
    let s = c.args.self.now in
    let inv = c.chain.invariant in
    λ k low same. ended (bytes_in text s) bucket_of s.count c.args.bytes.now c.chain.below (sym inv.chain ∙ c.in_default.is) inv.others k (omega arith) low same
