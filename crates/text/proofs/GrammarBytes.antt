-- The runs of the definitions, in the grammar's words: separators, words, and what stands between a symbol's quotes.
use Rattle.std.proofs.Common.{◌≡◌, ℕ, suc, ◌≤◌, Bool, true, false, ◌⊎◌, List, [], ◌∷◌, ◌++◌, length, take, drop, sym, refl, ap, ◌∙◌, subst, inl, inr, arith}
use Rattle.std.proofs.lemmas.Bool.Decides.{eqb_tells}
use Rattle.text.specs.declared.bracket.Bracket.{Bracket}
use Rattle.text.specs.declared.bracket.Bracket.TheVariants.{Round, Square}
use Rattle.text.specs.declared.bytes.Class.{Class}
use Rattle.text.specs.declared.bytes.Class.TheVariants as class
use Rattle.text.specs.Bytes.{class_of, in_word, separates, comment_after, separator_run, word_run}
use Rattle.text.specs.Grammar.{Blank, Ending, Separator, nothing, blank, comment, commented, newline, Word, one, more, EndsWord}

-- the byte of a bracket
abbrev pub opening : Bracket → ℕ
opening Round = 40
opening Square = 91

abbrev pub closer : Bracket → ℕ
closer Round = 41
closer Square = 93

-- the class of a byte, with what the byte then is
pub data View : ℕ → Class → Type 0 where
  is_blank : {b : ℕ} → Blank b → (b ≡ 10 → ⊥) → View b class.Blank
  is_newline : {b : ℕ} → b ≡ 10 → View b class.Newline
  is_comment : {b : ℕ} → b ≡ 59 → View b class.Comment
  is_open : {b : ℕ} (r : Bracket) → b ≡ opening r → View b (class.Open r)
  is_close : {b : ℕ} (r : Bracket) → b ≡ closer r → View b (class.Close r)
  is_quote : {b : ℕ} → b ≡ 39 → View b class.Quote
  is_word : {b : ℕ} → (Ending b → ⊥) → View b class.Word

none_ends : (b : ℕ) → (b ≡ 32 → ⊥) → (b ≡ 9 → ⊥) → (b ≡ 13 → ⊥) → (b ≡ 10 → ⊥) → (b ≡ 40 → ⊥) → (b ≡ 41 → ⊥) → (b ≡ 91 → ⊥) → (b ≡ 93 → ⊥) → (b ≡ 59 → ⊥) → (b ≡ 39 → ⊥) → Ending b → ⊥
none_ends b p q r s t u v w x y (inl (inl e)) = p e
none_ends b p q r s t u v w x y (inl (inr (inl e))) = q e
none_ends b p q r s t u v w x y (inl (inr (inr (inl e)))) = r e
none_ends b p q r s t u v w x y (inl (inr (inr (inr e)))) = s e
none_ends b p q r s t u v w x y (inr (inl (inl e))) = t e
none_ends b p q r s t u v w x y (inr (inl (inr (inl e)))) = u e
none_ends b p q r s t u v w x y (inr (inl (inr (inr (inl e))))) = v e
none_ends b p q r s t u v w x y (inr (inl (inr (inr (inr e))))) = w e
none_ends b p q r s t u v w x y (inr (inr (inl e))) = x e
none_ends b p q r s t u v w x y (inr (inr (inr e))) = y e

at_byte : (b c : ℕ) → b ≡ c → View c (class_of c) → View b (class_of b)
at_byte b c e v = subst (λ x. View x (class_of x)) (sym e) v

pub view : (b : ℕ) → View b (class_of b)
view b =
    elim (eqb_tells b 32) [
      | inl p ↦ at_byte b 32 p.1 (is_blank (inl refl) (λ e. omega arith))
      | inr n0 ↦
          elim (eqb_tells b 9) [
            | inl p ↦ at_byte b 9 p.1 (is_blank (inr (inl refl)) (λ e. omega arith))
            | inr n1 ↦
                elim (eqb_tells b 13) [
                  | inl p ↦ at_byte b 13 p.1 (is_blank (inr (inr (inl refl))) (λ e. omega arith))
                  | inr n2 ↦
                      elim (eqb_tells b 10) [
                        | inl p ↦ at_byte b 10 p.1 (is_newline refl)
                        | inr n3 ↦
                            elim (eqb_tells b 59) [
                              | inl p ↦ at_byte b 59 p.1 (is_comment refl)
                              | inr n4 ↦
                                  elim (eqb_tells b 40) [
                                    | inl p ↦ at_byte b 40 p.1 (is_open Round refl)
                                    | inr n5 ↦
                                        elim (eqb_tells b 41) [
                                          | inl p ↦ at_byte b 41 p.1 (is_close Round refl)
                                          | inr n6 ↦
                                              elim (eqb_tells b 91) [
                                                | inl p ↦ at_byte b 91 p.1 (is_open Square refl)
                                                | inr n7 ↦
                                                    elim (eqb_tells b 93) [
                                                      | inl p ↦ at_byte b 93 p.1 (is_close Square refl)
                                                      | inr n8 ↦
                                                          elim (eqb_tells b 39) [
                                                            | inl p ↦ at_byte b 39 p.1 (is_quote refl)
                                                            | inr n9 ↦
                                                                rw (n0.0, n1.0, n2.0, n3.0, n4.0, n5.0, n6.0, n7.0, n8.0, n9.0) (is_word (none_ends b n0.1 n1.1 n2.1 n3.1 n5.1 n6.1 n7.1 n8.1 n4.1 n9.1))
                                                          ]
                                                    ]
                                              ]
                                        ]
                                  ]
                            ]
                      ]
                ]
          ]
    ]

-- a byte that ends no word is a word's
pub word_class : (b : ℕ) → (Ending b → ⊥) → class_of b ≡ class.Word
word_class b no_end = go (class_of b) refl (view b)
  where
    go : (k : Class) → class_of b ≡ k → View b k → class_of b ≡ class.Word
    go class.Blank e (is_blank p n) = absurd (no_end (inl p))
    go class.Newline e (is_newline p) = absurd (no_end (inl (inr (inr (inr p)))))
    go class.Comment e (is_comment p) = absurd (no_end (inr (inr (inl p))))
    go (class.Open Round) e (is_open Round p) = absurd (no_end (inr (inl (inl p))))
    go (class.Open Square) e (is_open Square p) = absurd (no_end (inr (inl (inr (inr (inl p))))))
    go (class.Close Round) e (is_close Round p) = absurd (no_end (inr (inl (inr (inl p)))))
    go (class.Close Square) e (is_close Square p) = absurd (no_end (inr (inl (inr (inr (inr p))))))
    go class.Quote e (is_quote p) = absurd (no_end (inr (inr (inr p))))
    go class.Word e (is_word n) = e

-- a byte that ends a word stands in none
pub ending_class : (b : ℕ) → Ending b → in_word (class_of b) ≡ false
ending_class b end = go (class_of b) (view b)
  where
    go : (k : Class) → View b k → in_word k ≡ false
    go class.Blank (is_blank p n) = refl
    go class.Newline (is_newline p) = refl
    go class.Comment (is_comment p) = refl
    go (class.Open r) (is_open q p) = refl
    go (class.Close r) (is_close q p) = refl
    go class.Quote (is_quote p) = refl
    go class.Word (is_word n) = absurd (n end)

-- one separating byte more
cons_run : (b : ℕ) (s : List ℕ) (o o₁ : Bool) → separates (class_of b) o ≡ true → comment_after (class_of b) o ≡ o₁ → separator_run o (b ∷ s) ≡ suc (separator_run o₁ s)
cons_run b s o o₁ t e = rw (t, separator_run) (ap (λ p. suc (separator_run p s)) e)

blank_class : (b : ℕ) → Blank b → (separates (class_of b) false ≡ true) × (comment_after (class_of b) false ≡ false)
blank_class b (inl e) = rw e (refl, refl)
blank_class b (inr (inl e)) = rw e (refl, refl)
blank_class b (inr (inr (inl e))) = rw e (refl, refl)
blank_class b (inr (inr (inr e))) = rw e (refl, refl)

-- inside a comment every byte but a newline separates
commented_class : (b : ℕ) → (b ≡ 10 → ⊥) → (separates (class_of b) true ≡ true) × (comment_after (class_of b) true ≡ true)
commented_class b n = go (class_of b) (view b)
  where
    go : (k : Class) → View b k → (separates k true ≡ true) × (comment_after k true ≡ true)
    go class.Blank v = (refl, refl)
    go class.Newline (is_newline p) = absurd (n p)
    go class.Comment v = (refl, refl)
    go (class.Open r) v = (refl, refl)
    go (class.Close r) v = (refl, refl)
    go class.Quote v = (refl, refl)
    go class.Word v = (refl, refl)

-- separators, and then what begins none, are a run of their length
pub separators_run : {o o' : Bool} {gap : List ℕ} (x : List ℕ) → Separator o o' gap → separator_run o' x ≡ 0 → separator_run o (gap ++ x) ≡ length gap
separators_run x nothing z = z
separators_run x (blank {b = b} {s = s} p rest) z =
    let k = blank_class b p in
    cons_run b (s ++ x) false false k.0 k.1 ∙ ap suc (separators_run x rest z)
separators_run x (comment {b = b} {s = s} p rest) z =
    let t : separates (class_of b) false ≡ true = rw p refl in
    let e : comment_after (class_of b) false ≡ true = rw p refl in
    cons_run b (s ++ x) false true t e ∙ ap suc (separators_run x rest z)
separators_run x (commented {b = b} {s = s} n rest) z =
    let k = commented_class b n in
    cons_run b (s ++ x) true true k.0 k.1 ∙ ap suc (separators_run x rest z)
separators_run x (newline {b = b} {s = s} p rest) z =
    let t : separates (class_of b) true ≡ true = rw p refl in
    let e : comment_after (class_of b) true ≡ false = rw p refl in
    cons_run b (s ++ x) true false t e ∙ ap suc (separators_run x rest z)

-- the longest front of separators, and whether a comment is open behind it: only at the end
pub record Gap (o : Bool) (s : List ℕ) : Type 0 where
  pub after : Bool
  pub gap : Separator o after (take (separator_run o s) s)
  pub stops : (length s ≡ separator_run o s) ⊎ (after ≡ false)

longer : (b : ℕ) (s : List ℕ) (o o₁ : Bool) → separator_run o (b ∷ s) ≡ suc (separator_run o₁ s)
    → ((o' : Bool) (x : List ℕ) → Separator o₁ o' x → Separator o o' (b ∷ x)) → Gap o₁ s → Gap o (b ∷ s)
longer b s o o₁ run cons f = record {
  after = f.after;
  gap = rw run (cons f.after (take (separator_run o₁ s) s) f.gap);
  stops = elim f.stops [ inl e ↦ inl (ap suc e ∙ sym run) | inr e ↦ inr e ];
}

shortest : (b : ℕ) (s : List ℕ) → separates (class_of b) false ≡ false → Gap false (b ∷ s)
shortest b s e =
    let run : separator_run false (b ∷ s) ≡ 0 = rw (e, separator_run) refl in
    record { after = false; gap = rw run nothing; stops = inr refl }

pub run_separates : (o : Bool) (s : List ℕ) → Gap o s
run_separates o [] = record { after = o; gap = nothing; stops = inl refl }
run_separates true (b ∷ s) =
    let rest = run_separates (comment_after (class_of b) true) s in
    elim (eqb_tells b 10) [
      | inl p ↦
          (let a : comment_after (class_of b) true ≡ false = rw p.1 refl in
          let t : separates (class_of b) true ≡ true = rw p.1 refl in
          longer b s true false (cons_run b s true false t a) (λ o x sep. newline p.1 sep) (subst (λ o. Gap o s) a rest))
      | inr n ↦
          (let k = commented_class b n.1 in
          longer b s true true (cons_run b s true true k.0 k.1) (λ o x sep. commented n.1 sep) (subst (λ o. Gap o s) k.1 rest))
    ]
run_separates false (b ∷ s) = go (class_of b) refl (view b) (run_separates (comment_after (class_of b) false) s)
  where
    between : Blank b → Gap (comment_after (class_of b) false) s → Gap false (b ∷ s)
    between p rest = let k = blank_class b p in longer b s false false (cons_run b s false false k.0 k.1) (λ o x sep. blank p sep) (subst (λ o. Gap o s) k.1 rest)

    go : (k : Class) → class_of b ≡ k → View b k → Gap (comment_after (class_of b) false) s → Gap false (b ∷ s)
    go class.Blank e (is_blank p n) rest = between p rest
    go class.Newline e (is_newline p) rest = between (inr (inr (inr p))) rest
    go class.Comment e (is_comment p) rest =
        let a : comment_after (class_of b) false ≡ true = rw e refl in
        longer b s false true (cons_run b s false true (rw e refl) a) (λ o x sep. comment p sep) (subst (λ o. Gap o s) a rest)
    go (class.Open r) e v rest = shortest b s (rw e refl)
    go (class.Close r) e v rest = shortest b s (rw e refl)
    go class.Quote e v rest = shortest b s (rw e refl)
    go class.Word e v rest = shortest b s (rw e refl)

-- Words.
class_ends : (b : ℕ) → in_word (class_of b) ≡ false → Ending b
class_ends b e = go (class_of b) (view b) e
  where
    go : (k : Class) → View b k → in_word k ≡ false → Ending b
    go class.Blank (is_blank p n) e = inl p
    go class.Newline (is_newline p) e = inl (inr (inr (inr p)))
    go class.Comment (is_comment p) e = inr (inr (inl p))
    go (class.Open Round) (is_open Round p) e = inr (inl (inl p))
    go (class.Open Square) (is_open Square p) e = inr (inl (inr (inr (inl p))))
    go (class.Close Round) (is_close Round p) e = inr (inl (inr (inl p)))
    go (class.Close Square) (is_close Square p) e = inr (inl (inr (inr (inr p))))
    go class.Quote (is_quote p) e = inr (inr (inr p))
    go class.Word (is_word n) e = absurd (cc)

not_ending : (b : ℕ) → in_word (class_of b) ≡ true → Ending b → ⊥
not_ending b e end = let f = ending_class b end in let z : true ≡ false = sym e ∙ f in cc

-- the run of word bytes at a text's front is a word, if there is one
pub run_word : (s : List ℕ) → (word_run s ≡ 0) ⊎ Word (take (word_run s) s)
run_word [] = inl refl
run_word (b ∷ s) = go (in_word (class_of b)) refl (run_word s)
  where
    go : (v : Bool) → in_word (class_of b) ≡ v → (word_run s ≡ 0) ⊎ Word (take (word_run s) s) → (word_run (b ∷ s) ≡ 0) ⊎ Word (take (word_run (b ∷ s)) (b ∷ s))
    go true e rest =
        let run : word_run (b ∷ s) ≡ suc (word_run s) = rw e (omega arith) in
        inr (rw run (elim rest [ inl z ↦ rw z (one (not_ending b e)) | inr w ↦ more (not_ending b e) w ]))
    go false e rest = inl (rw e refl)

-- and goes as far as it can
pub run_ends : (s : List ℕ) → EndsWord (drop (word_run s) s)
run_ends [] = tt
run_ends (b ∷ s) = go (in_word (class_of b)) refl (run_ends s)
  where
    go : (v : Bool) → in_word (class_of b) ≡ v → EndsWord (drop (word_run s) s) → EndsWord (drop (word_run (b ∷ s)) (b ∷ s))
    go true e rest = let run : word_run (b ∷ s) ≡ suc (word_run s) = rw e (omega arith) in rw run rest
    go false e rest = let run : word_run (b ∷ s) ≡ 0 = rw e refl in rw run (class_ends b e)

pub ends_none : (s : List ℕ) → EndsWord s → word_run s ≡ 0
ends_none [] e = refl
ends_none (b ∷ s) e = rw (ending_class b e) refl

pub word_length : {w : List ℕ} (rest : List ℕ) → Word w → EndsWord rest → word_run (w ++ rest) ≡ length w
word_length rest (one {b = b} n) e = rw (word_class b n) (let h = ends_none rest e in omega arith)
word_length rest (more {b = b} {s = s} n w) e = rw (word_class b n) (let h = word_length rest w e in omega arith)

-- runs end within the text
pub word_within : (s : List ℕ) → word_run s ≤ length s
word_within [] = omega arith
word_within (b ∷ s) = go (in_word (class_of b)) refl (word_within s)
  where
    go : (v : Bool) → in_word (class_of b) ≡ v → word_run s ≤ length s → word_run (b ∷ s) ≤ length (b ∷ s)
    go true e h = let run : word_run (b ∷ s) ≡ suc (word_run s) = rw e (omega arith) in omega arith
    go false e h = let run : word_run (b ∷ s) ≡ 0 = rw e refl in omega arith

pub separator_within : (o : Bool) (s : List ℕ) → separator_run o s ≤ length s
separator_within o [] = omega arith
separator_within o (b ∷ s) = go (separates (class_of b) o) refl (separator_within (comment_after (class_of b) o) s)
  where
    go : (v : Bool) → separates (class_of b) o ≡ v → separator_run (comment_after (class_of b) o) s ≤ length s → separator_run o (b ∷ s) ≤ length (b ∷ s)
    go true e h = let run : separator_run o (b ∷ s) ≡ suc (separator_run (comment_after (class_of b) o) s) = rw (e, separator_run) refl in omega arith
    go false e h = let run : separator_run o (b ∷ s) ≡ 0 = rw (e, separator_run) refl in omega arith
