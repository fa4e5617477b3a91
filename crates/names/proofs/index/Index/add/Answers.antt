use Rattle.std.proofs.Common.{◌≡◌, length, get_or, set, take, None, refl, arith, rules}
use Rattle.std.proofs.lemmas.List.{length-map, length-take}
use Rattle.names.specs.Parts.{part_of, bucket_of}
use Rattle.names.proofs.Adding.{added}
use Rattle.names.proofs.index.Index.add.Goals as goal

pub returns-clause-index : goal.returns-clause-index
returns-clause-index c = λ ix.
    let s = c.args.self.now in
    let long : length s.names ≡ 512 = search rules in
    let wide : length s.heads ≡ 256 = search rules in
    let far : length s.links ≡ 512 = search rules in
    let bucket : c.bucket-h.result ≡ bucket_of (part_of c.args.text.now c.args.word) = cc in
    let links : set s.links s.count _ ≡ set s.links s.count (get_or s.heads c.bucket-h.result None) = search rules in
    added c.args.text.now s _ c.args.word c.bucket-h.result bucket refl (omega arith) ix c.bucket-h.ensures.few wide far refl links refl (omega arith)

pub returns-clause-full : goal.returns-clause-full
returns-clause-full c = λ full.
    let s = c.args.self.now in
    let long : length s.names ≡ 512 = search rules in
    absurd (omega (arith, full, length-map (take s.count s.names) (part_of c.args.text.now), length-take s.count s.names))
