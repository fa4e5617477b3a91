-- One part more: its bucket's chain begins with it, and the other chains are as they were.
use Rattle.std.proofs.Common.{◌≡◌, ℕ, ◌+◌, ◌<◌, ◌%◌, ◌⊎◌, List, length, get_or, set, Some, None, inl, inr, sym, ap, ◌∙◌, arith}
use Rattle.std.proofs.lemmas.Bool.{cases_eq}
use Rattle.std.proofs.lemmas.List.{get_or-set_same, get_or-set_other}
use Rattle.layout.specs.Tabling.{unused_word}
use Rattle.layout.specs.declared.word.Word.{Word}
use Rattle.names.specs.Indexing.{last_in}
use Rattle.names.proofs.Linking.{heads_more, links_more}
use Rattle.symbols.specs.Indexing.{IsIndex, Adds, word_in, bytes_in, bucket_in}
use Rattle.names.specs.Parts.{sum_of}
use Rattle.symbols.specs.Parts.{quoted, bucket_of}
use Rattle.symbols.specs.declared.index.Index.{Index}

module _ (text : List ℕ) (index new : Index) (word : Word) (sum h : ℕ) (summed : sum ≡ sum_of (quoted text word)) (bucket : h ≡ sum % 4096) (words : new.literals ≡ set index.literals index.count word) (room : index.count < length index.literals)
    (count : new.count ≡ index.count + 1) where
  same_word : (j : ℕ) → j < index.count → word_in new j ≡ word_in index j
  same_word j low = ap (λ xs. get_or xs j unused_word) words ∙ get_or-set_other index.literals index.count j word unused_word (λ e. let e : j ≡ index.count = e in omega arith)

  new_word : word_in new index.count ≡ word
  new_word = ap (λ xs. get_or xs index.count unused_word) words ∙ get_or-set_same index.literals index.count word unused_word room

  pub adds : Adds text index new word
  adds = record { count = count; added = new_word; others = same_word }

  same_bucket : (j : ℕ) → j < index.count → bucket_in text index j ≡ bucket_in text new j
  same_bucket j low = ap (λ w. bucket_of (quoted text w)) (sym (same_word j low))

  new_bucket : bucket_in text new index.count ≡ h
  new_bucket = ap (λ w. bucket_of (quoted text w)) new_word ∙ ap (λ s. s % 4096) (sym summed) ∙ sym bucket

  module _ (ix : IsIndex text index) (low : h < 4096) (wide : length index.heads ≡ 4096) (long : length index.links ≡ 4096) (far : length index.sums ≡ 4096) (heads : new.heads ≡ set index.heads h (Some index.count))
      (links : new.links ≡ set index.links index.count (get_or index.heads h None)) (sums : new.sums ≡ set index.sums index.count sum) (more : index.count < 4096) where
    sum_is : (k : ℕ) → k < new.count → get_or new.sums k 0 ≡ sum_of (bytes_in text new k)
    sum_is k below = go (cases_eq k index.count)
      where
        go : (k ≡ index.count) ⊎ (k ≡ index.count → ⊥) → get_or new.sums k 0 ≡ sum_of (bytes_in text new k)
        go (inl e) =
            ap (λ ss. get_or ss k 0) sums ∙ ap (λ i. get_or (set index.sums index.count sum) i 0) e ∙ get_or-set_same index.sums index.count sum 0 (omega arith)
            ∙ summed ∙ ap (λ w. sum_of (quoted text w)) (sym new_word) ∙ ap (λ i. sum_of (bytes_in text new i)) (sym e)
        go (inr n) =
            let under : k < index.count = omega arith in
            ap (λ ss. get_or ss k 0) sums ∙ get_or-set_other index.sums index.count k sum 0 n ∙ ix.sums k under ∙ ap (λ w. sum_of (quoted text w)) (sym (same_word k under))

    before : (g : ℕ) → g < length index.heads → get_or index.heads g None ≡ last_in (bucket_in text index) g index.count
    before g k = ix.heads g (omega arith)

    pub added : IsIndex text new
    added = record {
      few = omega arith;
      sums = sum_is;
      heads = λ g k. ap (λ hs. get_or hs g None) heads ∙ heads_more _ _ index.count h index.heads index.links same_bucket new_bucket (omega arith) before g (omega arith) ∙ ap (last_in (bucket_in text new) g) (sym count);
      links = λ k below. ap (λ ls. get_or ls k None) links ∙ links_more _ _ index.count h index.heads index.links same_bucket new_bucket (omega arith) before ix.links (omega arith) k (omega arith);
    }
