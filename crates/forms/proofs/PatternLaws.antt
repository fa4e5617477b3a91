-- Patterns and their parts, by what stands next.
use Rattle.std.proofs.Common.{◌≡◌, ℕ, true, false, List, ◌∷◌, Ok, Err, Result, sym, refl, ap, ◌∙◌, subst}
use Rattle.text.specs.Grammar.{NoBracket}
use Rattle.text.specs.Scans.{refused_at}
use Rattle.text.specs.Tokens.{Lexeme, lexeme, Lexed, also, lexed_from}
use Rattle.text.specs.declared.bracket.Bracket.{Bracket}
use Rattle.text.specs.declared.refusal.Refused.{Refused}
use Rattle.text.specs.declared.refusal.Refusal.TheVariants as refusal
use Rattle.text.specs.declared.token.TokenKind.{TokenKind}
use Rattle.text.specs.declared.token.TokenKind.TheVariants as kind
use Rattle.forms.specs.Looks.{Seen, Named, NotClosing}
use Rattle.forms.specs.Patterns.{part_kind, Passed, PassedAll, Patterned}
use Rattle.grammar.specs.Reading.{Tally, Outcome, refused, made, and_then, part_of, read_part, read_parts, name_read, read_constructor_pattern, read_pattern}
use Rattle.forms.specs.Rows.{closed_by}
use Rattle.grammar.specs.Sexps.{Sexp, Sexps, nil, cons, closing, Atoms}
use Rattle.grammar.specs.Streams.{stream}
use Rattle.grammar.specs.Trees.{Ident, PatternPart, skipped, Pattern, constructor}
use Rattle.forms.specs.declared.names.NameAt.{NameAt}
use Rattle.forms.proofs.LookLaws.{is_atom, is_list, some_token}
use Rattle.forms.proofs.RowLaws.{left_none}

-- what is left of the parts gives the whole
abbrev pub Carries : List ℕ → ℕ → ℕ → Type 0
Carries text place at = (r : Result ℕ Refused) → PassedAll read_parts text at r → PassedAll read_parts text place r

-- a token for a field
pub part_good : (k : TokenKind) (p : ℕ) (w : List ℕ) (n : Tally) → part_kind k ≡ true → (x : PatternPart) × (part_of k p w n ≡ made x n)
part_good kind.Name p w n e = (_, refl)
part_good (kind.Keyword k) p w n e = (skipped p, rw e refl)
part_good (kind.Open r) p w n e = absurd (cc)
part_good (kind.Close r) p w n e = absurd (cc)
part_good kind.Symbol p w n e = absurd (cc)
part_good (kind.Integer z) p w n e = absurd (cc)

pub part_wrong : (k : TokenKind) (p : ℕ) (w : List ℕ) (n : Tally) → part_kind k ≡ false → part_of k p w n ≡ refused (refused_at refusal.Form p)
part_wrong kind.Name p w n e = absurd (cc)
part_wrong (kind.Keyword k) p w n e = rw e refl
part_wrong (kind.Open r) p w n e = refl
part_wrong (kind.Close r) p w n e = refl
part_wrong kind.Symbol p w n e = refl
part_wrong (kind.Integer z) p w n e = refl

-- what is passed on
pub passed_on : {A B : Type 0} (text : List ℕ) (rest : Lexed) (o : Outcome A) (f : A → B) (r : Result ℕ Refused) → Passed text rest o r → Passed text rest (and_then o (λ a n. made (f a) n)) r
passed_on text rest (refused x) f r t = t
passed_on text rest (made a n) f (Ok after) t = t
passed_on text rest (made a n) f (Err x) t = absurd t

-- The parts of a pattern, by what stands next.
module _ (text : List ℕ) (at : ℕ) where
  pub parts_next : (k : TokenKind) (w : List ℕ) (p after : ℕ) → Seen text at k w p after → NoBracket k → part_kind k ≡ true → (r : Result ℕ Refused) → PassedAll read_parts text after r → PassedAll read_parts text at r
  parts_next k w p after seen b good r h nil shape q rest n e a =
      let z : also (lexeme k p w) (lexed_from text after) ≡ also (lexeme (kind.Close shape) q (closing shape)) rest = sym seen.follows ∙ e in
      let y : lexeme k p w ≡ lexeme (kind.Close shape) q (closing shape) = cc in
      absurd (subst NoBracket (ap (λ t. t.kind) y) b)
  parts_next k w p after seen b good r h (cons s ss) shape q rest n e a =
      let is = is_atom k p w (lexed_from text after) s (closed_by ss shape q rest) b (sym seen.follows ∙ e) in
      let g = part_good k p w n good in
      subst (λ o. Passed text rest (and_then o (λ x n. and_then (read_parts ss n) (λ xs n. made (x ∷ xs) n))) r) (sym (ap (λ s. read_part s n) is.0 ∙ g.1))
      (passed_on text rest (read_parts ss n) (λ xs. g.0 ∷ xs) r (h ss shape q rest n is.1 a.1))

  pub parts_other : (k : TokenKind) (w : List ℕ) (p after : ℕ) (x : Refused) → Seen text at k w p after → NoBracket k → part_kind k ≡ false → x ≡ refused_at refusal.Form p → PassedAll read_parts text at (Err x)
  parts_other k w p after x seen b bad is_x nil shape q rest n e a =
      let z : also (lexeme k p w) (lexed_from text after) ≡ also (lexeme (kind.Close shape) q (closing shape)) rest = sym seen.follows ∙ e in
      let y : lexeme k p w ≡ lexeme (kind.Close shape) q (closing shape) = cc in
      absurd (subst NoBracket (ap (λ t. t.kind) y) b)
  parts_other k w p after x seen b bad is_x (cons s ss) shape q rest n e a =
      let is = is_atom k p w (lexed_from text after) s (closed_by ss shape q rest) b (sym seen.follows ∙ e) in
      subst (λ o. Passed text rest (and_then o (λ x n. and_then (read_parts ss n) (λ xs n. made (x ∷ xs) n))) (Err x)) (sym (ap (λ s. read_part s n) is.0 ∙ part_wrong k p w n bad)) (ap Err is_x)

  pub parts_list : (k : Bracket) (w : List ℕ) (p after : ℕ) (x : Refused) → Seen text at (kind.Open k) w p after → x ≡ refused_at refusal.Form p → PassedAll read_parts text at (Err x)
  parts_list k w p after x seen is_x nil shape q rest n e a =
      let z : also (lexeme (kind.Open k) p w) (lexed_from text after) ≡ also (lexeme (kind.Close shape) q (closing shape)) rest = sym seen.follows ∙ e in
      let y : lexeme (kind.Open k) p w ≡ lexeme (kind.Close shape) q (closing shape) = cc in
      absurd (let v : kind.Open k ≡ kind.Close shape = ap (λ t. t.kind) y in cc)
  parts_list k w p after x seen is_x (cons s ss) shape q rest n e a =
      let l = is_list k p w (lexed_from text after) s (closed_by ss shape q rest) a.0 (sym seen.follows ∙ e) in
      subst (λ s. Passed text rest (and_then (read_part s n) (λ x n. and_then (read_parts ss n) (λ xs n. made (x ∷ xs) n))) (Err x)) (sym l.is) (ap Err is_x)

  pub parts_close : (k : Bracket) (w : List ℕ) (p after : ℕ) → Seen text at (kind.Close k) w p after → PassedAll read_parts text at (Ok after)
  parts_close k w p after seen ss shape q rest n e a =
      let l = left_none ss shape q rest k p w (lexed_from text after) (sym e ∙ seen.follows) a in
      subst (λ ss. Passed text rest (read_parts ss n) (Ok after)) (sym l.0) l.1

  pub parts_end : ((t : Lexeme) (more : Lexed) → lexed_from text at ≡ also t more → ⊥) → (r : Result ℕ Refused) → PassedAll read_parts text at r
  parts_end f r nil shape q rest n e a = absurd (f _ _ e)
  parts_end f r (cons s ss) shape q rest n e a = absurd (some_token (lexed_from text at) s (closed_by ss shape q rest) f e)

-- A constructor and its parts.
module _ (text : List ℕ) (place at : ℕ) where
  abbrev Names : Result NameAt Refused → Type 0
  Names r = (s : Sexp) (rest : Lexed) (n : Tally) → lexed_from text at ≡ stream s rest → Atoms s → Named text rest (name_read s n) r

  pub constructor_denied : (x : Refused) → NotClosing (lexed_from text at) → Names (Err x) → PassedAll (read_constructor_pattern place) text at (Err x)
  constructor_denied x opened named nil shape q rest n e a = absurd (subst NotClosing e opened)
  constructor_denied x opened named (cons s ss) shape q rest n e a = go (name_read s n) (named s (closed_by ss shape q rest) n e a.0)
    where
      go : (o : Outcome Ident) → Named text (closed_by ss shape q rest) o (Err x) → Passed text rest (and_then o (λ c n. and_then (read_parts ss n) (λ xs n. made (constructor place c xs) n))) (Err x)
      go (refused y) t = let z : x ≡ y = cc in ap Err z
      go (made i m) t = absurd t

  pub constructor_parts : (name : NameAt) → NotClosing (lexed_from text at) → Names (Ok name) → (r : Result ℕ Refused) → PassedAll read_parts text name.after r → PassedAll (read_constructor_pattern place) text at r
  constructor_parts name opened named r h nil shape q rest n e a = absurd (subst NotClosing e opened)
  constructor_parts name opened named r h (cons s ss) shape q rest n e a = go (name_read s n) (named s (closed_by ss shape q rest) n e a.0)
    where
      go : (o : Outcome Ident) → Named text (closed_by ss shape q rest) o (Ok name) → Passed text rest (and_then o (λ c n. and_then (read_parts ss n) (λ xs n. made (constructor place c xs) n))) r
      go (refused y) t = absurd (cc)
      go (made i m) t = passed_on text rest (read_parts ss m) (λ xs. constructor place i xs) r (h ss shape q rest m t.2 a.1)

-- A pattern, by what stands next.
pub pattern_made : (text : List ℕ) (rest : Lexed) (p after : ℕ) (ss : Sexps) (n : Tally) → Passed text rest (read_constructor_pattern p ss n) (Ok after) → Patterned text rest (read_constructor_pattern p ss n) (Ok (record { place = p; after = after }))
pattern_made text rest p after nil n t = absurd (cc)
pattern_made text rest p after (cons s ss) n t = go (name_read s n) t
  where
    rows : (c : Ident) (o : Outcome (List PatternPart)) → Passed text rest (and_then o (λ xs n. made (constructor p c xs) n)) (Ok after) → Patterned text rest (and_then o (λ xs n. made (constructor p c xs) n)) (Ok (record { place = p; after = after }))
    rows c (refused y) t = absurd (cc)
    rows c (made xs m) t = (refl, t)

    go : (o : Outcome Ident) → Passed text rest (and_then o (λ c n. and_then (read_parts ss n) (λ xs n. made (constructor p c xs) n))) (Ok after) → Patterned text rest (and_then o (λ c n. and_then (read_parts ss n) (λ xs n. made (constructor p c xs) n))) (Ok (record { place = p; after = after }))
    go (refused y) t = absurd (cc)
    go (made c m) t = rows c (read_parts ss m) t

pub pattern_refused : (text : List ℕ) (rest : Lexed) (o : Outcome Pattern) (x : Refused) → Passed text rest o (Err x) → Patterned text rest o (Err x)
pattern_refused text rest (refused y) x t = let z : x ≡ y = cc in ap Err z
pattern_refused text rest (made a m) x t = absurd t

module _ (text : List ℕ) (place : ℕ) (s : Sexp) (rest : Lexed) (n : Tally) (e : lexed_from text place ≡ stream s rest) (a : Atoms s) where
  pub pattern_list : (k : Bracket) (w : List ℕ) (p inside after : ℕ) → Seen text place (kind.Open k) w p inside → PassedAll (read_constructor_pattern p) text inside (Ok after)
      → Patterned text rest (read_pattern s n) (Ok (record { place = p; after = after }))
  pattern_list k w p inside after seen h =
      let l = is_list k p w (lexed_from text inside) s rest a (sym seen.follows ∙ e) in
      subst (λ s. Patterned text rest (read_pattern s n) (Ok (record { place = p; after = after }))) (sym l.is) (pattern_made text rest p after l.parts n (h l.parts l.shape l.end rest n l.inside l.atoms))

  pub pattern_denied : (k : Bracket) (w : List ℕ) (p inside : ℕ) (x : Refused) → Seen text place (kind.Open k) w p inside → PassedAll (read_constructor_pattern p) text inside (Err x) → Patterned text rest (read_pattern s n) (Err x)
  pattern_denied k w p inside x seen h =
      let l = is_list k p w (lexed_from text inside) s rest a (sym seen.follows ∙ e) in
      subst (λ s. Patterned text rest (read_pattern s n) (Err x)) (sym l.is) (pattern_refused text rest (read_constructor_pattern p l.parts n) x (h l.parts l.shape l.end rest n l.inside l.atoms))
