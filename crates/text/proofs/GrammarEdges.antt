-- A token neither begins nor ends in a blank.
use Rattle.std.proofs.Common.{◌≡◌, ℕ, List, [], ◌∷◌, ◌++◌, sym, subst, inl, inr, arith}
use Rattle.text.specs.declared.bracket.Bracket.TheVariants.{Round, Square}
use Rattle.text.specs.declared.token.TokenKind.{TokenKind}
use Rattle.text.specs.declared.token.TokenKind.TheVariants.{Open, Close, Symbol, Integer, Keyword, Name}
use Rattle.text.specs.Grammar.{Blank, Word, one, more, Spelt, LastUnblank, Unblank}

not_blank : (b : ℕ) → (b ≡ 32 → ⊥) → (b ≡ 9 → ⊥) → (b ≡ 13 → ⊥) → (b ≡ 10 → ⊥) → Blank b → ⊥
not_blank b f g h k (inl e) = f e
not_blank b f g h k (inr (inl e)) = g e
not_blank b f g h k (inr (inr (inl e))) = h e
not_blank b f g h k (inr (inr (inr e))) = k e

bracket : (b : ℕ) (w : List ℕ) → w ≡ b ∷ [] → (Blank b → ⊥) → Unblank w
bracket b w e n = subst Unblank (sym e) (n, n)

quote : Blank 39 → ⊥
quote = not_blank 39 (λ e. omega arith) (λ e. omega arith) (λ e. omega arith) (λ e. omega arith)

last_quote : (b : ℕ) (s : List ℕ) → LastUnblank b (s ++ 39 ∷ [])
last_quote b [] = quote
last_quote b (c ∷ s) = last_quote c s

word : {w : List ℕ} → Word w → Unblank w
word (one n) = (λ b. n (inl b), λ b. n (inl b))
word (more {s = []} n w) = (λ b. n (inl b), λ b. n (inl b))
word (more {s = c ∷ s} n w) = (λ b. n (inl b), (word w).1)

pub spelt_edges : (k : TokenKind) (w : List ℕ) → Spelt k w → Unblank w
spelt_edges (Open Round) w e = bracket 40 w e (not_blank 40 (λ e. omega arith) (λ e. omega arith) (λ e. omega arith) (λ e. omega arith))
spelt_edges (Open Square) w e = bracket 91 w e (not_blank 91 (λ e. omega arith) (λ e. omega arith) (λ e. omega arith) (λ e. omega arith))
spelt_edges (Close Round) w e = bracket 41 w e (not_blank 41 (λ e. omega arith) (λ e. omega arith) (λ e. omega arith) (λ e. omega arith))
spelt_edges (Close Square) w e = bracket 93 w e (not_blank 93 (λ e. omega arith) (λ e. omega arith) (λ e. omega arith) (λ e. omega arith))
spelt_edges Symbol w (s, e, q, few) = subst Unblank (sym e) (quote, last_quote 39 s)
spelt_edges (Integer n) w (v, i) = word v
spelt_edges (Keyword k) w (v, i, p) = word v
spelt_edges Name w (v, i, p, few) = word v
