use Rattle.std.proofs.Common.{◌≡◌, ◌<◌, ◌≤◌, length, Some, sym, ap, ◌∙◌, arith, rules}
use Rattle.std.proofs.lemmas.Bool.{both_ways}
use Rattle.std.proofs.lemmas.Slice.Eq.{bytes_eq-Decides}
use Rattle.layout.specs.Tabling.{unused_word}
use Rattle.names.specs.Parts.{part_of, bucket_of}
use Rattle.names.proofs.Chains.{is_last}
use Rattle.names.proofs.Finding.{name_at, missed, ended, next}
use Rattle.names.proofs.Numbered.{numbered, number_below, numbered_is}
use Rattle.names.proofs.index.Index.find.Goals as goal

pub returns-then-k-below-clause-found : goal.returns-then-k-below-clause-found
returns-then-k-below-clause-found c = λ ix.
    let l = is_last _ _ _ _ (sym (c.chain.invariant.chain ix) ∙ c.in-Some.is) in
    let low : c.in-Some.link < c.chain.below = l.below in
    absurd (omega arith)

pub returns-then-eq-clause-found : goal.returns-then-eq-clause-found
returns-then-eq-clause-found c = λ ix.
    let text = c.args.text.now in
    let s = c.args.self.now in
    let long : length s.names ≡ 512 = search rules in
    let few : s.count ≤ 512 = ix.few in
    let same = (bytes_eq-Decides c.args.name.now c.part.result.now).0 (sym c.eq.ensures ∙ c.if-eq.true) in
    let here : name_at text s c.in-Some.link ≡ c.args.name.now = (let h : c.part.result.now ≡ name_at text s c.in-Some.link = search rules in sym h ∙ sym same) in
    let inv = c.chain.invariant in
    let used : c.chain.below ≤ s.count = inv.used in
    numbered (part_of text) s.names s.count (omega arith) c.in-Some.link unused_word (omega arith) ∙ ap Some here

pub chain-preserved : goal.chain-preserved
chain-preserved c =
    let text = c.args.text.now in
    let s = c.args.self.now in
    let inv = c.chain.invariant in
    let few : c.chain.below ≤ 512 = inv.few in
    let used : c.chain.below ≤ c.args.self.now.count = inv.used in
    record {
      few = omega arith;
      used = omega arith;
      chain = λ ix. next (name_at text s) bucket_of s.count c.args.name.now s.links ix.links c.chain.below c.in-Some.link (sym (inv.chain ix) ∙ c.in-Some.is) used;
      others = λ ix. missed (name_at text s) bucket_of s.count c.args.name.now c.chain.below c.in-Some.link (sym (inv.chain ix) ∙ c.in-Some.is)
          (λ e. let h : c.part.result.now ≡ name_at text s c.in-Some.link = search rules in both_ways _ (sym c.eq.ensures ∙ c.if-eq.false) ((bytes_eq-Decides c.args.name.now c.part.result.now).1 (sym e ∙ sym h))) (inv.others ix);
    }

pub returns-clause-found : goal.returns-clause-found
returns-clause-found c = λ ix k e.
    let text = c.args.text.now in
    let s = c.args.self.now in
    let inv = c.chain.invariant in
    let long : length s.names ≡ 512 = search rules in
    let few : s.count ≤ 512 = ix.few in
    ended (name_at text s) bucket_of s.count c.args.name.now _ (sym (inv.chain ix) ∙ c.in_default.is) (inv.others ix) k (omega arith) (number_below (part_of text) s.names s.count (omega arith) k _ e) (numbered_is (part_of text) s.names s.count (omega arith) k _ unused_word e)
