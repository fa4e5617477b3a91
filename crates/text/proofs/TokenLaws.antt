-- Reading one token is one step of reading the whole text.
use Rattle.std.proofs.Common.{◌≡◌, ℕ, zero, suc, ◌+◌, ◌-◌, ◌<◌, ◌≤◌, Bool, true, false, cond, leb, List, [], ◌∷◌, length, take, drop, Some, None, Ok, Err, Option, Result, sym, refl, ap, ◌∙◌, add-zero, arith}
use Rattle.std.proofs.lemmas.List.{drop-drop, take_rest, length-drop}
use Rattle.text.specs.declared.bytes.Class.{Class}
use Rattle.text.specs.declared.bytes.Class.TheVariants.{Blank, Newline, Comment, Open, Close, Quote, Word}
use Rattle.text.specs.declared.front.Front.{Front}
use Rattle.text.specs.declared.refusal.Refusal.{Refusal}
use Rattle.text.specs.declared.refusal.Refusal.TheVariants as refusal
use Rattle.text.specs.declared.token.TokenKind.{TokenKind}
use Rattle.text.specs.declared.token.TokenKind.TheVariants as kind
use Rattle.text.specs.Bytes.{class_of, separates, comment_after, separator_run, word_run, closing}
use Rattle.text.specs.Words.{kind_of_word}
use Rattle.text.specs.Fronts.{front, token, judged, closed_symbol, begun, front_from, text_front}
use Rattle.text.specs.Tokens.{lexeme, Lexed, done, fault, also, lexed, lexed_from}

-- the bytes of what began before are passed over
skip : (n i : ℕ) (s : List ℕ) → lexed n i s ≡ lexed 0 (i + n) (drop n s)
skip zero i s = ap (λ j. lexed 0 j s) (sym (add-zero i))
skip (suc n) i [] = refl
skip (suc n) i (b ∷ s) = let e : i + 1 + n ≡ i + suc n = omega arith in skip n (i + 1) s ∙ ap (λ j. lexed 0 j (drop n s)) e

-- a separator begins no token
pub separator_begins_none : (k : Class) (text rest : List ℕ) → separates k false ≡ true → front_from k text rest ≡ Ok None
separator_begins_none Blank text rest e = refl
separator_begins_none Newline text rest e = refl
separator_begins_none Comment text rest e = refl
separator_begins_none (Open r) text rest e = absurd (cc)
separator_begins_none (Close r) text rest e = absurd (cc)
separator_begins_none Quote text rest e = absurd (cc)
separator_begins_none Word text rest e = absurd (cc)

-- what a word or a symbol begins is a token or refused
judged_some : (n : ℕ) (r : Result TokenKind Refusal) → begun (judged n r) ≡ Ok None → ⊥
judged_some n (Ok k) e = cc
judged_some n (Err f) e = cc

closed_some : (o : Option ℕ) → begun (closed_symbol o) ≡ Ok None → ⊥
closed_some None e = cc
closed_some (Some n) e = go (leb n 255) e
  where
    go : (v : Bool) → begun (cond v (Ok (front kind.Symbol (n + 2))) (Err refusal.Limit)) ≡ Ok None → ⊥
    go true e = cc
    go false e = cc

-- where no separator begins, a token does, or a refusal
begins_some : (k : Class) (text rest : List ℕ) → separates k false ≡ false → front_from k text rest ≡ Ok None → ⊥
begins_some Blank text rest e f = cc
begins_some Newline text rest e f = cc
begins_some Comment text rest e f = cc
begins_some (Open r) text rest e f = cc
begins_some (Close r) text rest e f = cc
begins_some Quote text rest e f = closed_some (closing rest) f
begins_some Word text rest e f = judged_some (word_run text) (kind_of_word (take (word_run text) text)) f

-- a token has one kind and one size
pub same_token : {j k : TokenKind} {m n : ℕ} → token j m ≡ token k n → (j ≡ k) × (m ≡ n)
same_token {j} {k} {m} {n} e = let z : front j m ≡ front k n = cc in (ap (λ f. f.kind) z, ap (λ f. f.size) z)

-- a token has some bytes
judged_size : (n m : ℕ) (k : TokenKind) (r : Result TokenKind Refusal) → begun (judged n r) ≡ token k m → m ≡ n
judged_size n m k (Ok j) e = sym (same_token e).1
judged_size n m k (Err f) e = absurd (cc)

closed_size : (o : Option ℕ) (k : TokenKind) (m : ℕ) → begun (closed_symbol o) ≡ token k m → 0 < m
closed_size None k m e = absurd (cc)
closed_size (Some n) k m e = go (leb n 255) e
  where
    go : (v : Bool) → begun (cond v (Ok (front kind.Symbol (n + 2))) (Err refusal.Limit)) ≡ token k m → 0 < m
    go true e = let h = (same_token e).1 in omega arith
    go false e = absurd (cc)

pub token_some : (s : List ℕ) (k : TokenKind) (n : ℕ) → text_front s ≡ token k n → 0 < n
token_some [] k n e = absurd (cc)
token_some (b ∷ s) k n e = go (class_of b) refl
  where
    go : (c : Class) → class_of b ≡ c → 0 < n
    go Blank p = absurd (let f = rw p at e in cc)
    go Newline p = absurd (let f = rw p at e in cc)
    go Comment p = absurd (let f = rw p at e in cc)
    go (Open r) p = let f : token (kind.Open r) 1 ≡ token k n = rw p at e in let h = (same_token f).1 in omega arith
    go (Close r) p = let f : token (kind.Close r) 1 ≡ token k n = rw p at e in let h = (same_token f).1 in omega arith
    go Quote p = closed_size (closing s) k n (rw p at e)
    go Word p =
        let w : word_run (b ∷ s) ≡ suc (word_run s) = rw p (omega arith) in
        let h = judged_size (word_run (b ∷ s)) n k (kind_of_word (take (word_run (b ∷ s)) (b ∷ s))) (rw p at e) in
        omega arith

-- separators are passed over whole
pub over_separators : (i : ℕ) (s : List ℕ) → lexed 0 i s ≡ lexed 0 (i + separator_run false s) (drop (separator_run false s) s)
over_separators i [] = refl
over_separators i (b ∷ s) = go (separates (class_of b) false) refl
  where
    m : ℕ
    m = separator_run (comment_after (class_of b) false) s

    go : (v : Bool) → separates (class_of b) false ≡ v → lexed 0 i (b ∷ s) ≡ lexed 0 (i + separator_run false (b ∷ s)) (drop (separator_run false (b ∷ s)) (b ∷ s))
    go true p =
        let run : separator_run false (b ∷ s) ≡ suc m = rw (p, separator_run) refl in
        let none = separator_begins_none (class_of b) (b ∷ s) s p in
        let here : lexed 0 i (b ∷ s) ≡ lexed (separator_run false (b ∷ s) - 1) (i + 1) s = rw (none, lexed) refl in
        let less : separator_run false (b ∷ s) - 1 ≡ m = omega arith in
        let e : i + 1 + m ≡ i + suc m = omega arith in
        rw run (here ∙ ap (λ j. lexed j (i + 1) s) less ∙ skip m (i + 1) s ∙ ap (λ j. lexed 0 j (drop m s)) e)
    go false p =
        let run : separator_run false (b ∷ s) ≡ 0 = rw (p, separator_run) refl in
        rw run (ap (λ j. lexed 0 j (b ∷ s)) (sym (add-zero i)))

-- what ends a run of separators in a comment or outside ends one outside
ends_outside : (k : Class) (o : Bool) → separates k o ≡ false → separates k false ≡ false
ends_outside Blank o e = e
ends_outside Newline o e = e
ends_outside Comment o e = e
ends_outside (Open r) o e = refl
ends_outside (Close r) o e = refl
ends_outside Quote o e = refl
ends_outside Word o e = refl

-- behind a run of separators no separator begins
pub run_whole : (o : Bool) (s : List ℕ) → separator_run false (drop (separator_run o s) s) ≡ 0
run_whole o [] = refl
run_whole o (b ∷ s) = go (separates (class_of b) o) refl (run_whole (comment_after (class_of b) o) s)
  where
    go : (v : Bool) → separates (class_of b) o ≡ v → separator_run false (drop (separator_run (comment_after (class_of b) o) s) s) ≡ 0 → separator_run false (drop (separator_run o (b ∷ s)) (b ∷ s)) ≡ 0
    go true p more = let run : separator_run o (b ∷ s) ≡ suc (separator_run (comment_after (class_of b) o) s) = rw (p, separator_run) refl in rw run more
    go false p more =
        let run : separator_run o (b ∷ s) ≡ 0 = rw (p, separator_run) refl in
        rw run (rw (ends_outside (class_of b) o p, separator_run) refl)

-- where no separator begins, the first byte is none
no_run : (b : ℕ) (s : List ℕ) → separator_run false (b ∷ s) ≡ 0 → separates (class_of b) false ≡ false
no_run b s z = go (separates (class_of b) false) refl
  where
    go : (v : Bool) → separates (class_of b) false ≡ v → separates (class_of b) false ≡ false
    go true p = absurd (let run : separator_run false (b ∷ s) ≡ suc (separator_run (comment_after (class_of b) false) s) = rw (p, separator_run) refl in omega arith)
    go false p = p

-- all tokens of a text whose first byte is no separator, from what stands at its front
abbrev pub continued : ℕ → List ℕ → Result (Option Front) Refusal → Lexed
continued i s (Ok None) = done
continued i s (Err e) = fault e i
continued i s (Ok (Some f)) = also (lexeme f.kind i (take f.size s)) (lexed 0 (i + f.size) (drop f.size s))

pub lead : (i : ℕ) (s : List ℕ) → separator_run false s ≡ 0 → lexed 0 i s ≡ continued i s (text_front s)
lead i [] z = refl
lead i (b ∷ s) z = go (text_front (b ∷ s)) refl
  where
    sized : (k : TokenKind) (n : ℕ) → text_front (b ∷ s) ≡ token k n → lexed 0 i (b ∷ s) ≡ continued i (b ∷ s) (token k n)
    sized k zero e = absurd (let h = token_some (b ∷ s) k 0 e in omega arith)
    sized k (suc m) e =
        let here : lexed 0 i (b ∷ s) ≡ also (lexeme k i (take (suc m) (b ∷ s))) (lexed (suc m - 1) (i + 1) s) = rw (e, lexed) refl in
        let less : suc m - 1 ≡ m = omega arith in
        let on : i + 1 + m ≡ i + suc m = omega arith in
        here ∙ ap (λ j. also (lexeme k i (take (suc m) (b ∷ s))) (lexed j (i + 1) s)) less
        ∙ ap (also (lexeme k i (take (suc m) (b ∷ s)))) (skip m (i + 1) s ∙ ap (λ j. lexed 0 j (drop m s)) on)

    go : (f : Result (Option Front) Refusal) → text_front (b ∷ s) ≡ f → lexed 0 i (b ∷ s) ≡ continued i (b ∷ s) f
    go (Ok None) e = absurd (begins_some (class_of b) (b ∷ s) s (no_run b s z) e)
    go (Err r) e = rw (e, lexed) refl
    go (Ok (Some f)) e = sized f.kind f.size e

-- where neither a separator nor a token begins, nothing is left
pub none_left : (s : List ℕ) → separator_run false s ≡ 0 → text_front s ≡ Ok None → s ≡ []
none_left [] z e = refl
none_left (b ∷ s) z e = absurd (begins_some (class_of b) (b ∷ s) s (no_run b s z) e)

-- What the code's parts answer, behind n bytes of separators.
module _ (text : List ℕ) (at n : ℕ) (e : n ≡ separator_run false (take (length text - at) (drop at text))) where
  run_from : n ≡ separator_run false (drop at text)
  run_from = e ∙ ap (separator_run false) (take_rest text at)

  ended : separator_run false (drop (at + n) text) ≡ 0
  ended = ap (separator_run false) (sym (drop-drop n at text) ∙ ap (λ m. drop m (drop at text)) run_from) ∙ run_whole false (drop at text)

  pub next_is : (f : Result (Option Front) Refusal) → f ≡ text_front (take (length text - (at + n)) (drop (at + n) text)) → lexed_from text at ≡ continued (at + n) (drop (at + n) text) f
  next_is f h =
      over_separators at (drop at text)
      ∙ ap (λ m. lexed 0 (at + m) (drop m (drop at text))) (sym run_from)
      ∙ ap (lexed 0 (at + n)) (drop-drop n at text)
      ∙ lead (at + n) (drop (at + n) text) ended
      ∙ ap (continued (at + n) (drop (at + n) text)) (sym (h ∙ ap text_front (take_rest text (at + n))))

  pub next_end : Ok None ≡ text_front (take (length text - (at + n)) (drop (at + n) text)) → length text ≤ at + n
  next_end h =
      let none = none_left (drop (at + n) text) ended (ap text_front (sym (take_rest text (at + n))) ∙ sym h) in
      omega (arith, ap length none, length-drop (at + n) text)
