-- The tokens from a place on: each is a part of the text, reading on behind a form gives what follows it, and forms are read off the tokens in
-- one way only.
use Rattle.std.proofs.Common.{◌≡◌, ℕ, ◌+◌, ◌≤◌, Bool, true, false, cond, leb, List, [], ◌∷◌, length, take, drop, Some, None, Ok, Err, Option, Result, sym, refl, ap, ◌∙◌, subst, arith}
use Rattle.std.proofs.lemmas.List.{drop-drop, length-drop, length-take-le}
use Rattle.text.specs.Bytes.{separator_run}
use Rattle.text.specs.Fronts.{text_front}
use Rattle.text.specs.Grammar.{NoBracket, Spelt}
use Rattle.text.specs.Scans.{refused_at, nesting, precede, balanced, scan}
use Rattle.text.specs.Tokens.{Lexeme, lexeme, Lexed, done, fault, also, lexed, lexed_from}
use Rattle.text.specs.declared.bracket.Bracket.{Bracket}
use Rattle.text.specs.declared.front.Front.{Front}
use Rattle.text.specs.declared.refusal.Refusal.{Refusal}
use Rattle.text.specs.declared.refusal.Refusal.TheVariants as refusal
use Rattle.text.specs.declared.refusal.Refused as given
use Rattle.text.specs.declared.token.TokenKind.TheVariants as kind
use Rattle.text.proofs.GrammarTokens.{front_spelt}
use Rattle.text.proofs.TokenLaws.{over_separators, run_whole, continued, lead, token_some}
use Rattle.grammar.specs.Grammar.{Nested}
use Rattle.grammar.specs.Sexps.{Sexp, atom, list, Sexps, nil, cons, opening, closing, flat, flats, Atoms, AllAtoms}
use Rattle.grammar.specs.Streams.{stream, streams}

-- A token that stands next from a place on.
pub record TokenAt (text : List ℕ) (t : Lexeme) (rest : Lexed) : Type 0 where
  -- it stands next from its own place on, too, and behind it what follows
  pub here : lexed_from text t.place ≡ also t rest
  pub behind : lexed_from text (t.place + length t.bytes) ≡ rest
  -- it is a part of the text, spelt as its kind
  pub part : take (length t.bytes) (drop t.place text) ≡ t.bytes
  pub within : t.place + length t.bytes ≤ length text
  pub spelt : Spelt t.kind t.bytes

pub token_at : (text : List ℕ) (at : ℕ) (t : Lexeme) (rest : Lexed) → lexed_from text at ≡ also t rest → TokenAt text t rest
token_at text at t rest e = go (text_front x) refl
  where
    j : ℕ
    j = at + separator_run false (drop at text)

    x : List ℕ
    x = drop j text

    ended : separator_run false x ≡ 0
    ended = ap (separator_run false) (sym (drop-drop (separator_run false (drop at text)) at text)) ∙ run_whole false (drop at text)

    from_j : lexed_from text j ≡ continued j x (text_front x)
    from_j = lead j x ended

    from_at : lexed_from text at ≡ continued j x (text_front x)
    from_at = over_separators at (drop at text) ∙ ap (lexed 0 j) (drop-drop (separator_run false (drop at text)) at text) ∙ from_j

    go : (f : Result (Option Front) Refusal) → text_front x ≡ f → TokenAt text t rest
    go (Ok None) f = absurd (let z : ◌≡◌ {A = Lexed} done (also t rest) = sym (from_at ∙ ap (continued j x) f) ∙ e in cc)
    go (Err r) f = absurd (let z : ◌≡◌ {A = Lexed} (fault r j) (also t rest) = sym (from_at ∙ ap (continued j x) f) ∙ e in cc)
    go (Ok (Some begun)) f =
        let k = begun.kind in
        let n = begun.size in
        let same : also (lexeme k j (take n x)) (lexed 0 (j + n) (drop n x)) ≡ also t rest = sym (from_at ∙ ap (continued j x) f) ∙ e in
        let is : lexeme k j (take n x) ≡ t = cc in
        let on : lexed 0 (j + n) (drop n x) ≡ rest = cc in
        let s = front_spelt x k n f in
        let few = s.2 in
        let long : length (take n x) ≡ n = length-take-le n x few in
        let size = length-drop j text in
        let some = token_some x k n f in
        let inside : TokenAt text (lexeme k j (take n x)) rest = record {
          here = from_j ∙ ap (continued j x) f ∙ ap (also (lexeme k j (take n x))) on;
          behind = ap (λ m. lexed 0 (j + m) (drop (j + m) text)) long ∙ ap (lexed 0 (j + n)) (sym (drop-drop n j text)) ∙ on;
          part = ap (λ m. take m x) long;
          within = omega arith;
          spelt = s.0;
        } in
        subst (λ t. TokenAt text t rest) is inside

-- The place behind a form.
mutual
  pub behind_form : (text : List ℕ) (at : ℕ) (s : Sexp) (rest : Lexed) → lexed_from text at ≡ stream s rest → (after : ℕ) × (lexed_from text after ≡ rest)
  behind_form text at (atom k p w) rest e = (p + length w, (token_at text at (lexeme k p w) rest e).behind)
  behind_form text at (list shape p ss q) rest e =
      let open_at = token_at text at (lexeme (kind.Open shape) p (opening shape)) _ e in
      let inside = behind_forms text _ ss _ open_at.behind in
      let close_at = token_at text inside.0 (lexeme (kind.Close shape) q (closing shape)) rest inside.1 in
      (q + length (closing shape), close_at.behind)

  pub behind_forms : (text : List ℕ) (at : ℕ) (ss : Sexps) (rest : Lexed) → lexed_from text at ≡ streams ss rest → (after : ℕ) × (lexed_from text after ≡ rest)
  behind_forms text at nil rest e = (at, e)
  behind_forms text at (cons s ss) rest e =
      let first = behind_form text at s (streams ss rest) e in
      behind_forms text first.0 ss rest first.1

-- a closing bracket begins no form
no_form : (shape : Bracket) (q : ℕ) (l : Lexed) (s : Sexp) (m : Lexed) → Atoms s → also (lexeme (kind.Close shape) q (closing shape)) l ≡ stream s m → ⊥
no_form shape q l (atom k p w) m a e = let z : lexeme (kind.Close shape) q (closing shape) ≡ lexeme k p w = cc in subst NoBracket (sym (ap (λ t. t.kind) z)) a
no_form shape q l (list shape' p ss q') m a e =
    let z : lexeme (kind.Close shape) q (closing shape) ≡ lexeme (kind.Open shape') p (opening shape') = cc in
    let y : kind.Close shape ≡ kind.Open shape' = ap (λ t. t.kind) z in cc

-- A form is the only one whose tokens come next.
mutual
  pub one_form : (s t : Sexp) (l m : Lexed) → Atoms s → Atoms t → stream s l ≡ stream t m → (s ≡ t) × (l ≡ m)
  one_form (atom k p w) (atom k' p' w') l m a b e =
      let z : lexeme k p w ≡ lexeme k' p' w' = cc in
      let ek : k ≡ k' = ap (λ t. t.kind) z in
      let ep : p ≡ p' = ap (λ t. t.place) z in
      let ew : w ≡ w' = ap (λ t. t.bytes) z in
      (cc, cc)
  one_form (atom k p w) (list shape p' ss q) l m a b e =
      let z : lexeme k p w ≡ lexeme (kind.Open shape) p' (opening shape) = cc in
      absurd (subst NoBracket (ap (λ t. t.kind) z) a)
  one_form (list shape p ss q) (atom k p' w) l m a b e =
      let z : lexeme (kind.Open shape) p (opening shape) ≡ lexeme k p' w = cc in
      absurd (subst NoBracket (sym (ap (λ t. t.kind) z)) b)
  one_form (list shape p ss q) (list shape' p' ss' q') l m a b e =
      let z : lexeme (kind.Open shape) p (opening shape) ≡ lexeme (kind.Open shape') p' (opening shape') = cc in
      let ep : p ≡ p' = ap (λ t. t.place) z in
      let f = one_forms shape q shape' q' ss ss' l m a b cc in
      let es = f.0 in
      let eq = f.1 in
      let er = f.2 in
      (cc, f.3)

  one_forms : (shape : Bracket) (q : ℕ) (shape' : Bracket) (q' : ℕ) (ss us : Sexps) (l m : Lexed) → AllAtoms ss → AllAtoms us
      → streams ss (also (lexeme (kind.Close shape) q (closing shape)) l) ≡ streams us (also (lexeme (kind.Close shape') q' (closing shape')) m)
      → (ss ≡ us) × (q ≡ q') × (shape ≡ shape') × (l ≡ m)
  one_forms shape q shape' q' nil nil l m a b e =
      let z : lexeme (kind.Close shape) q (closing shape) ≡ lexeme (kind.Close shape') q' (closing shape') = cc in
      let ek : kind.Close shape ≡ kind.Close shape' = ap (λ t. t.kind) z in
      (refl, ap (λ t. t.place) z, cc, cc)
  one_forms shape q shape' q' nil (cons u us) l m a b e = absurd (no_form shape q l u _ b.0 e)
  one_forms shape q shape' q' (cons s ss) nil l m a b e = absurd (no_form shape' q' m s _ a.0 (sym e))
  one_forms shape q shape' q' (cons s ss) (cons u us) l m a b e =
      let f = one_form s u _ _ a.0 b.0 e in
      let g = one_forms shape q shape' q' ss us l m a.1 b.1 f.1 in
      let x = f.0 in
      let y = g.0 in
      (cc, g.1, g.2, g.3)

-- The tokens of a whole text.
abbrev pub all : List Lexeme → Lexed
all [] = done
all (t ∷ ts) = also t (all ts)

balanced_all : (end : ℕ) (opened : List Bracket) (l : Lexed) (ts : List Lexeme) → balanced end opened l ≡ Ok ts → l ≡ all ts
balanced_all end [] done ts e = let z : [] ≡ ts = cc in ap all z
balanced_all end (b ∷ opened) done ts e = absurd (cc)
balanced_all end opened (fault r i) ts e = absurd (cc)
balanced_all end opened (also t rest) ts e = go (λ after us. balanced_all end after rest us) (nesting t.kind opened) e
  where
    next : ((after : List Bracket) (us : List Lexeme) → balanced end after rest ≡ Ok us → rest ≡ all us) → (r : Result (List Lexeme) given.Refused) (after : List Bracket) → balanced end after rest ≡ r → precede t r ≡ Ok ts → also t rest ≡ all ts
    next more (Err x) after h e = absurd (cc)
    next more (Ok us) after h e = let z : t ∷ us ≡ ts = cc in ap (also t) (more after us h) ∙ ap all z

    go : ((after : List Bracket) (us : List Lexeme) → balanced end after rest ≡ Ok us → rest ≡ all us) → (r : Result (List Bracket) Refusal)
        → ◌≡◌ {A = Result (List Lexeme) given.Refused} (elim r [ Ok after ↦ precede t (balanced end after rest) | Err e ↦ Err (refused_at e t.place) ]) (Ok ts) → also t rest ≡ all ts
    go more (Ok after) e = next more (balanced end after rest) after refl e
    go more (Err r) e = absurd (cc)

scan_all : (text : List ℕ) (ts : List Lexeme) → scan text ≡ Ok ts → lexed_from text 0 ≡ all ts
scan_all text ts e = go (leb (length text) 65535) e
  where
    go : (b : Bool) → cond b (balanced (length text) [] (lexed_from text 0)) (Err (refused_at refusal.Limit 65535)) ≡ Ok ts → lexed_from text 0 ≡ all ts
    go true e = balanced_all (length text) [] (lexed_from text 0) ts e
    go false e = absurd (cc)

mutual
  all_flat : (s : Sexp) (rest : List Lexeme) → all (flat s rest) ≡ stream s (all rest)
  all_flat (atom k p w) rest = refl
  all_flat (list shape p ss q) rest = ap (also (lexeme (kind.Open shape) p (opening shape))) (all_flats ss (lexeme (kind.Close shape) q (closing shape) ∷ rest))

  all_flats : (ss : Sexps) (rest : List Lexeme) → all (flats ss rest) ≡ streams ss (all rest)
  all_flats nil rest = refl
  all_flats (cons s ss) rest = all_flat s (flats ss rest) ∙ ap (stream s) (all_flats ss rest)

pub scan_streams : (text : List ℕ) (ts : List Lexeme) (ss : Sexps) → scan text ≡ Ok ts → Nested ts ss → lexed_from text 0 ≡ streams ss done
scan_streams text ts ss e n = scan_all text ts e ∙ ap all (sym n.tokens) ∙ all_flats ss []
