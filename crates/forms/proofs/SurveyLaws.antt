-- A survey of a list answers its head and its number of parts.
use Rattle.std.proofs.Common.{◌≡◌, ℕ, suc, ◌+◌, ◌-◌, min, false, cond, eqb, refl, ap, ◌∙◌, arith, zero-add, ne_eqb}
use Rattle.text.specs.Grammar.{NoBracket}
use Rattle.text.specs.Tokens.{Lexeme, lexeme, Lexed, done, fault, also}
use Rattle.text.specs.declared.bracket.Bracket.{Bracket}
use Rattle.text.specs.declared.token.TokenKind.{TokenKind}
use Rattle.text.specs.declared.token.TokenKind.TheVariants as kind
use Rattle.grammar.specs.Sexps.{Sexp, atom, list, Sexps, nil, cons, closing, Atoms, AllAtoms}
use Rattle.grammar.specs.Streams.{stream, streams, count, first_head}
use Rattle.forms.specs.Rows.{closed_by}
use Rattle.forms.specs.Surveys.{here, counted, head_word, surveyed}

-- where no token is left
pub counted_end : (d : ℕ) (l : Lexed) → ((t : Lexeme) (rest : Lexed) → l ≡ also t rest → ⊥) → counted d l ≡ 0
counted_end d done f = refl
counted_end d (fault e i) f = refl
counted_end d (also t rest) f = absurd (f t rest refl)

-- a token that is no bracket
pub counted_atom : (d : ℕ) (k : TokenKind) (p : ℕ) (w : _) (l : Lexed) → NoBracket k → counted d (also (lexeme k p w) l) ≡ here d + counted d l
counted_atom d (kind.Open r) p w l n = absurd n
counted_atom d (kind.Close r) p w l n = absurd n
counted_atom d kind.Symbol p w l n = refl
counted_atom d (kind.Integer z) p w l n = refl
counted_atom d (kind.Keyword k) p w l n = refl
counted_atom d kind.Name p w l n = refl

-- inside a bracket nothing counts
pub not_here : (d : ℕ) → here (suc d) ≡ 0
not_here d = ap (λ m. cond m 1 0) (ne_eqb (suc d) 0 (λ z. omega arith))

mutual
  passed : (d : ℕ) (x : Sexp) (l : Lexed) → Atoms x → counted (suc d) (stream x l) ≡ counted (suc d) l
  passed d (atom k p w) l a = counted_atom (suc d) k p w l a ∙ ap (λ m. m + counted (suc d) l) (not_here d) ∙ zero-add (counted (suc d) l)
  passed d (list r p ss q) l a =
      let up : suc d + 1 ≡ suc (suc d) = omega arith in
      let down : suc (suc d) - 1 ≡ suc d = omega arith in
      let f : eqb (suc (suc d)) 0 ≡ false = ne_eqb (suc (suc d)) 0 (λ z. omega arith) in
      let c = also (lexeme (kind.Close r) q (closing r)) l in
      ap (λ m. m + counted (suc d + 1) (streams ss c)) (not_here d)
      ∙ zero-add (counted (suc d + 1) (streams ss c))
      ∙ ap (λ m. counted m (streams ss c)) up
      ∙ passes (suc d) ss c a
      ∙ ap (λ m. cond m 0 (counted (suc (suc d) - 1) l)) f
      ∙ ap (λ m. counted m l) down

  passes : (d : ℕ) (ss : Sexps) (l : Lexed) → AllAtoms ss → counted (suc d) (streams ss l) ≡ counted (suc d) l
  passes d nil l a = refl
  passes d (cons x ss) l a = passed d x (streams ss l) a.0 ∙ passes d ss l a.1

-- each part of the list counts one
part : (x : Sexp) (l : Lexed) → Atoms x → counted 0 (stream x l) ≡ 1 + counted 0 l
part (atom k p w) l a = counted_atom 0 k p w l a
part (list r p ss q) l a = ap (λ m. 1 + m) (passes 0 ss (also (lexeme (kind.Close r) q (closing r)) l) a)

counted_list : (ss : Sexps) (r : Bracket) (q : ℕ) (rest : Lexed) → AllAtoms ss → counted 0 (closed_by ss r q rest) ≡ count ss
counted_list nil r q rest a = refl
counted_list (cons x ss) r q rest a =
    let one : 1 + count ss ≡ suc (count ss) = omega arith in
    part x (closed_by ss r q rest) a.0 ∙ ap (λ m. 1 + m) (counted_list ss r q rest a.1) ∙ one

pub head_list : (ss : Sexps) (r : Bracket) (q : ℕ) (rest : Lexed) → head_word (closed_by ss r q rest) ≡ first_head ss
head_list nil r q rest = refl
head_list (cons (atom k p w) ss) r q rest = refl
head_list (cons (list b p xs e) ss) r q rest = refl

pub survey_list : (ss : Sexps) (r : Bracket) (q : ℕ) (rest : Lexed) → AllAtoms ss → surveyed (closed_by ss r q rest) ≡ record { parts = min 7 (count ss); head = first_head ss }
survey_list ss r q rest a = ap (λ n. record { parts = min 7 n; head = head_word (closed_by ss r q rest) }) (counted_list ss r q rest a) ∙ ap (λ h. record { parts = min 7 (count ss); head = h }) (head_list ss r q rest)
