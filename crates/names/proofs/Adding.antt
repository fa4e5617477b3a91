-- One name more: its bucket's chain begins with it, and the other chains are as they were.
use Rattle.std.proofs.Common.{◌≡◌, ℕ, ◌+◌, ◌<◌, List, length, get_or, set, Some, None, sym, ap, ◌∙◌, arith}
use Rattle.std.proofs.lemmas.List.{get_or-set_same, get_or-set_other}
use Rattle.layout.specs.Tabling.{unused_word}
use Rattle.layout.specs.declared.word.Word.{Word}
use Rattle.names.specs.Indexing.{IsIndex, last_in, bucket_at}
use Rattle.names.specs.Parts.{part_of, bucket_of}
use Rattle.names.specs.declared.index.Index.{Index}
use Rattle.names.proofs.Linking.{heads_more, links_more}

module _ (text : List ℕ) (index new : Index) (word : Word) (h : ℕ) (bucket : h ≡ bucket_of (part_of text word)) (names : new.names ≡ set index.names index.count word) (room : index.count < length index.names) where
  same_bucket : (j : ℕ) → j < index.count → bucket_at text index j ≡ bucket_at text new j
  same_bucket j low =
      let g = get_or-set_other index.names index.count j word unused_word (λ e. let e : j ≡ index.count = e in omega arith) in
      sym (ap (λ xs. bucket_of (part_of text (get_or xs j unused_word))) names ∙ ap (λ w. bucket_of (part_of text w)) g)

  new_bucket : bucket_at text new index.count ≡ h
  new_bucket = ap (λ xs. bucket_of (part_of text (get_or xs index.count unused_word))) names ∙ ap (λ w. bucket_of (part_of text w)) (get_or-set_same index.names index.count word unused_word room) ∙ sym bucket

  module _ (ix : IsIndex text index) (low : h < 256) (wide : length index.heads ≡ 256) (long : length index.links ≡ 512) (heads : new.heads ≡ set index.heads h (Some index.count))
      (links : new.links ≡ set index.links index.count (get_or index.heads h None)) (count : new.count ≡ index.count + 1) (more : index.count < 512) where
    before : (g : ℕ) → g < length index.heads → get_or index.heads g None ≡ last_in (bucket_at text index) g index.count
    before g k = ix.heads g (omega arith)

    pub added : IsIndex text new
    added = record {
      few = omega arith;
      heads = λ g k. ap (λ hs. get_or hs g None) heads ∙ heads_more _ _ index.count h index.heads index.links same_bucket new_bucket (omega arith) before g (omega arith) ∙ ap (last_in (bucket_at text new) g) (sym count);
      links = λ k below. ap (λ ls. get_or ls k None) links ∙ links_more _ _ index.count h index.heads index.links same_bucket new_bucket (omega arith) before ix.links (omega arith) k (omega arith);
    }
