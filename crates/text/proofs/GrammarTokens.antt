-- The token at the front of a text, in the grammar's words.
use Rattle.std.proofs.Common.{◌≡◌, ℕ, ℤ, zero, suc, ◌+◌, ◌<◌, ◌≤◌, Bool, true, false, List, [], ◌∷◌, ◌++◌, length, take, drop, Some, None, Ok, Err, Option, Result, refl, ap, ◌∙◌, subst, inl, inr, arith, le-leb}
use Rattle.std.proofs.lemmas.List.{append_assoc, length-append, take_at, length-take, length-drop}
use Rattle.std.proofs.lemmas.Bool.Decides.{leb_tells}
use Rattle.text.specs.declared.bracket.Bracket.TheVariants.{Round, Square}
use Rattle.text.specs.declared.bytes.Class.{Class}
use Rattle.text.specs.declared.bytes.Class.TheVariants as class
use Rattle.text.specs.declared.keyword.Keyword.{Keyword}
use Rattle.text.specs.declared.refusal.Refusal.{Refusal}
use Rattle.text.specs.declared.refusal.Refusal.TheVariants as refusal
use Rattle.text.specs.declared.token.TokenKind.{TokenKind}
use Rattle.text.specs.declared.token.TokenKind.TheVariants as kind
use Rattle.text.specs.Bytes.{class_of, word_run, closing, separates, separator_run}
use Rattle.text.specs.Fronts.{front, token, judged, front_word, closed_symbol, begun, front_from, text_front}
use Rattle.text.specs.Grammar.{Word, one, more, Spelt, EndsWord, Whole}
use Rattle.text.specs.Integers.{integer_value}
use Rattle.text.specs.Keywords.{keyword_spelt}
use Rattle.text.specs.Words.{name_or, integer_or, kind_of_word}
use Rattle.text.proofs.GrammarBytes.{View, is_open, is_close, is_quote, view, word_class, run_word, run_ends, word_length, word_within}
use Rattle.text.proofs.GrammarSymbols.{closing_quoted, quoted_closing}
use Rattle.text.proofs.TokenLaws.{separator_begins_none, same_token}

-- a word's kind is its spelling
named : (w rest : List ℕ) (k : TokenKind) → Word w → EndsWord rest → integer_value w ≡ Ok None → (o : Option Keyword) → keyword_spelt w ≡ o → name_or o (length w) ≡ Ok k → Spelt k w × Whole k rest
named w rest k word ends i (Some j) p e = let q : kind.Keyword j ≡ k = cc in subst (λ k. Spelt k w × Whole k rest) q ((word, i, p), ends)
named w rest k word ends i None p e = elim (leb_tells (length w) 63) [
  | inl t ↦ (let h : Ok kind.Name ≡ Ok k = rw t.0 at e in let q : kind.Name ≡ k = cc in subst (λ k. Spelt k w × Whole k rest) q ((word, i, p, t.1), ends))
  | inr t ↦ absurd (let h : Err refusal.Limit ≡ Ok k = rw t.0 at e in cc)
]

kind_spelt : (w rest : List ℕ) (k : TokenKind) → Word w → EndsWord rest → kind_of_word w ≡ Ok k → Spelt k w × Whole k rest
kind_spelt w rest k word ends e = go (integer_value w) refl e
  where
    go : (i : Result (Option ℤ) Refusal) → integer_value w ≡ i → integer_or i w ≡ Ok k → Spelt k w × Whole k rest
    go (Ok (Some z)) p h = let q : kind.Integer z ≡ k = cc in subst (λ k. Spelt k w × Whole k rest) q ((word, p), ends)
    go (Err f) p h = absurd (cc)
    go (Ok None) p h = named w rest k word ends p (keyword_spelt w) refl h

-- a symbol's bytes, from the place of its closing quote
quoted_bytes : (s : List ℕ) (m : ℕ) → drop m s ≡ 39 ∷ drop (suc m) s → take (m + 1) s ≡ take m s ++ 39 ∷ []
quoted_bytes [] zero e = absurd (let z = ap length e in omega arith)
quoted_bytes [] (suc m) e = absurd (let z = ap length e in omega arith)
quoted_bytes (b ∷ s) zero e = let q : b ≡ 39 = cc in ap (λ x. x ∷ []) q
quoted_bytes (b ∷ s) (suc m) e =
    let n : suc m + 1 ≡ suc (m + 1) = omega arith in
    ap (λ n. take n (b ∷ s)) n ∙ ap (λ x. b ∷ x) (quoted_bytes s m e)

within_quote : (s : List ℕ) (m : ℕ) → drop m s ≡ 39 ∷ drop (suc m) s → m < length s
within_quote s m e = omega (arith, ap length e, length-drop m s, length-drop (suc m) s)

symbol_spelt : (b : ℕ) (s : List ℕ) (k : TokenKind) (n : ℕ) → b ≡ 39 → begun (closed_symbol (closing s)) ≡ token k n → Spelt k (take n (b ∷ s)) × Whole k (drop n (b ∷ s)) × (n ≤ length (b ∷ s))
symbol_spelt b s k n p e = go (closing s) refl e
  where
    go : (o : Option ℕ) → closing s ≡ o → begun (closed_symbol o) ≡ token k n → Spelt k (take n (b ∷ s)) × Whole k (drop n (b ∷ s)) × (n ≤ length (b ∷ s))
    go None q h = absurd (cc)
    go (Some m) q h = elim (leb_tells m 255) [
      | inr t ↦ absurd (let f : Err refusal.Limit ≡ token k n = rw t.0 at h in cc)
      | inl t ↦
          (let f : token kind.Symbol (m + 2) ≡ token k n = rw t.0 at h in
          let ek = (same_token f).0 in
          let en = (same_token f).1 in
          let c = closing_quoted s m q in
          let lt = within_quote s m c.1 in
          let more : m + 2 ≡ suc (m + 1) = omega arith in
          let bytes : take (m + 2) (b ∷ s) ≡ 39 ∷ (take m s ++ 39 ∷ []) = ap (λ n. take n (b ∷ s)) more ∙ ap (λ x. x ∷ take (m + 1) s) p ∙ ap (λ x. 39 ∷ x) (quoted_bytes s m c.1) in
          let few : length (take m s) ≤ 255 = omega (arith, length-take m s) in
          subst (λ k. Spelt k (take n (b ∷ s)) × Whole k (drop n (b ∷ s)) × (n ≤ length (b ∷ s))) ek
          (subst (λ n. Spelt kind.Symbol (take n (b ∷ s)) × Whole kind.Symbol (drop n (b ∷ s)) × (n ≤ length (b ∷ s))) en
          ((take m s, bytes, c.0, few), tt, omega arith)))
    ]

word_spelt : (s : List ℕ) (k : TokenKind) (n : ℕ) → 0 < word_run s → begun (judged (word_run s) (kind_of_word (take (word_run s) s))) ≡ token k n → Spelt k (take n s) × Whole k (drop n s) × (n ≤ length s)
word_spelt s k n some e = go (kind_of_word (take (word_run s) s)) refl e
  where
    go : (r : Result TokenKind Refusal) → kind_of_word (take (word_run s) s) ≡ r → begun (judged (word_run s) r) ≡ token k n → Spelt k (take n s) × Whole k (drop n s) × (n ≤ length s)
    go (Err f) p h = absurd (cc)
    go (Ok j) p h =
        let ek = (same_token h).0 in
        let en = (same_token h).1 in
        elim (run_word s) [
          | inl z ↦ absurd (omega arith)
          | inr w ↦
              (let t = kind_spelt (take (word_run s) s) (drop (word_run s) s) j w (run_ends s) p in
              subst (λ k. Spelt k (take n s) × Whole k (drop n s) × (n ≤ length s)) ek
              (subst (λ n. Spelt j (take n s) × Whole j (drop n s) × (n ≤ length s)) en (t.0, t.1, word_within s)))
        ]

bracket_spelt : (b : ℕ) (s : List ℕ) (j k : TokenKind) (n : ℕ) → token j 1 ≡ token k n → Spelt j (b ∷ []) → Whole j s → Spelt k (take n (b ∷ s)) × Whole k (drop n (b ∷ s)) × (n ≤ length (b ∷ s))
bracket_spelt b s j k n e p w =
    let ek = (same_token e).0 in
    let en = (same_token e).1 in
    subst (λ k. Spelt k (take n (b ∷ s)) × Whole k (drop n (b ∷ s)) × (n ≤ length (b ∷ s))) ek
    (subst (λ n. Spelt j (take n (b ∷ s)) × Whole j (drop n (b ∷ s)) × (n ≤ length (b ∷ s))) en (p, w, omega arith))

-- what the definitions call a token is spelt as one, whole
pub front_spelt : (s : List ℕ) (k : TokenKind) (n : ℕ) → text_front s ≡ token k n → Spelt k (take n s) × Whole k (drop n s) × (n ≤ length s)
front_spelt [] k n e = absurd (cc)
front_spelt (b ∷ s) k n e = go (class_of b) refl (view b) e
  where
    go : (c : Class) → class_of b ≡ c → View b c → front_from c (b ∷ s) s ≡ token k n → Spelt k (take n (b ∷ s)) × Whole k (drop n (b ∷ s)) × (n ≤ length (b ∷ s))
    go class.Blank p v h = absurd (cc)
    go class.Newline p v h = absurd (cc)
    go class.Comment p v h = absurd (cc)
    go (class.Open Round) p (is_open Round q) h = bracket_spelt b s (kind.Open Round) k n h (ap (λ x. x ∷ []) q) tt
    go (class.Open Square) p (is_open Square q) h = bracket_spelt b s (kind.Open Square) k n h (ap (λ x. x ∷ []) q) tt
    go (class.Close Round) p (is_close Round q) h = bracket_spelt b s (kind.Close Round) k n h (ap (λ x. x ∷ []) q) tt
    go (class.Close Square) p (is_close Square q) h = bracket_spelt b s (kind.Close Square) k n h (ap (λ x. x ∷ []) q) tt
    go class.Quote p (is_quote q) h = symbol_spelt b s k n q h
    go class.Word p v h = let run : word_run (b ∷ s) ≡ suc (word_run s) = rw p (omega arith) in word_spelt (b ∷ s) k n (omega arith) h

by_class : (c : Class) → c ≡ class.Word → (text rest : List ℕ) → front_from c text rest ≡ begun (front_word text)
by_class c e text rest = rw e refl

-- a word at the front is read as a word
word_first : {w : List ℕ} (rest : List ℕ) → Word w → text_front (w ++ rest) ≡ begun (front_word (w ++ rest))
word_first rest (one {b = b} n) = by_class (class_of b) (word_class b n) (b ∷ rest) rest
word_first rest (more {b = b} {s = s} n w) = by_class (class_of b) (word_class b n) (b ∷ (s ++ rest)) (s ++ rest)

word_front : (w rest : List ℕ) (k : TokenKind) → Word w → EndsWord rest → kind_of_word w ≡ Ok k → text_front (w ++ rest) ≡ token k (length w)
word_front w rest k word ends e =
    let run = word_length rest word ends in
    word_first rest word
    ∙ ap (λ n. begun (judged n (kind_of_word (take n (w ++ rest))))) run
    ∙ ap (λ x. begun (judged (length w) (kind_of_word x))) (take_at w rest (length w) refl)
    ∙ ap (λ r. begun (judged (length w) r)) e

-- what is spelt as a token, whole, the definitions call that token
pub spelt_front : (k : TokenKind) (w rest : List ℕ) → Spelt k w → Whole k rest → text_front (w ++ rest) ≡ token k (length w)
spelt_front (kind.Open Round) w rest e h = rw e refl
spelt_front (kind.Open Square) w rest e h = rw e refl
spelt_front (kind.Close Round) w rest e h = rw e refl
spelt_front (kind.Close Square) w rest e h = rw e refl
spelt_front kind.Symbol w rest (s, e, q, few) h =
    let size : length s + 2 ≡ length (39 ∷ (s ++ 39 ∷ [])) = omega (arith, length-append s (39 ∷ [])) in
    let f : closed_symbol (Some (length s)) ≡ Ok (front kind.Symbol (length s + 2)) = rw (le-leb (length s) 255 few) refl in
    rw e (ap begun (ap (λ x. closed_symbol (closing x)) (append_assoc s (39 ∷ []) rest) ∙ ap closed_symbol (quoted_closing rest q) ∙ f) ∙ ap (token kind.Symbol) size)
spelt_front (kind.Integer z) w rest (word, i) h = word_front w rest _ word h (ap (λ x. integer_or x w) i)
spelt_front (kind.Keyword j) w rest (word, i, p) h = word_front w rest _ word h (ap (λ x. integer_or x w) i ∙ ap (λ o. name_or o (length w)) p)
spelt_front kind.Name w rest (word, i, p, few) h = word_front w rest _ word h (ap (λ x. integer_or x w) i ∙ ap (λ o. name_or o (length w)) p ∙ rw (le-leb (length w) 63 few) refl)

-- no separator begins where a token does
pub token_no_gap : (s : List ℕ) (k : TokenKind) (n : ℕ) → text_front s ≡ token k n → separator_run false s ≡ 0
token_no_gap [] k n e = refl
token_no_gap (b ∷ s) k n e = go (separates (class_of b) false) refl
  where
    go : (v : Bool) → separates (class_of b) false ≡ v → separator_run false (b ∷ s) ≡ 0
    go true p = absurd (let f = separator_begins_none (class_of b) (b ∷ s) s p in cc)
    go false p = rw (p, separator_run) refl
