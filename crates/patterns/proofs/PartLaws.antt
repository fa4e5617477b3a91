-- A pattern's tokens, one by one.
use Rattle.std.proofs.Common.{◌≡◌, ℕ, ◌+◌, ◌-◌, ◌≤◌, List, [], ◌∷◌, length, Some, None, Option, take, drop, sym, refl, ap, ◌∙◌, subst, arith}
use Rattle.forms.specs.Looks.{Seen, Sees}
use Rattle.forms.specs.declared.sight.Look.{Look}
use Rattle.forms.specs.declared.sight.Look.TheVariants as look
use Rattle.forms.specs.Rows.{closed_by}
use Rattle.forms.proofs.LookLaws.{is_atom, is_list, not_close, some_token}
use Rattle.grammar.specs.Grammar.{PartOf, bound, skipped, PartsOf, and_part, PatternOf, wildcard, constructor}
use Rattle.grammar.specs.Sexps.{Sexp, atom, list, Sexps, cons, closing, Atoms, AllAtoms}
use Rattle.grammar.specs.Streams.{stream}
use Rattle.grammar.specs.Trees as tree
use Rattle.grammar.specs.Trees.{Ident, PatternPart, Pattern}
use Rattle.grammar.proofs.StreamLaws.{token_at}
use Rattle.layout.specs.Spelling.{Spells, Shows}
use Rattle.layout.specs.Words.{word_at}
use Rattle.layout.specs.declared.word.Word.{Word}
use Rattle.patterns.specs.Parts.{PartsAt, HeadAt, IsHead, IsPart}
use Rattle.patterns.specs.declared.head.Head.{Head}
use Rattle.text.specs.Grammar.{NoBracket}
use Rattle.text.specs.Tokens.{lexeme, Lexed, also, lexed_from}
use Rattle.text.specs.declared.bracket.Bracket.{Bracket}
use Rattle.text.specs.declared.keyword.Keyword.TheVariants as keyword
use Rattle.text.specs.declared.token.TokenKind.{TokenKind}
use Rattle.text.specs.declared.token.TokenKind.TheVariants as kind

-- what the front says of the word of a name at p, behind which stands another place
abbrev pub TakesUp : ℕ → ℕ → Word → Type 0
TakesUp p after name = p ≤ after → after ≤ p + 63 → after ≤ 65535 → name ≡ word_at p (after - p)

-- a name that is seen is spelt by the part of the text that it takes up
pub name_lies : (text : List ℕ) (place p after : ℕ) (w : List ℕ) (name : Word) (x : Ident) → length text ≤ 65535 → Seen text place kind.Name w p after → TakesUp p after name
    → x.place ≡ p → x.bytes ≡ w → Spells text name x
name_lies text place p after w name x short seen is ep ew =
    let t = token_at text place (lexeme kind.Name p w) (lexed_from text after) seen.follows in
    let few : length w ≤ 63 = t.spelt.3 in
    let far : after ≡ p + length w = seen.size in
    let e : name ≡ word_at p (after - p) = is (omega arith) (omega arith) (omega (arith, seen.within)) in
    let place_is : name.place ≡ p = ap (λ (n : Word). n.place) e in
    let size_is : name.size ≡ length w = omega (arith, ap (λ (n : Word). n.size) e) in
    let same : take name.size (drop name.place text) ≡ take (length w) (drop p text) = cc (place_is, size_is) in
    record {
      place_is = place_is ∙ sym ep;
      size_is = size_is ∙ ap length (sym ew);
      bytes_are = same ∙ t.part ∙ sym ew;
      within = omega (arith, t.within);
    }

record Divided (forms : Sexps) (x : PatternPart) (xs : List PatternPart) : Type 0 where
  pub first : Sexp
  pub others : Sexps
  pub is : forms ≡ cons first others
  pub one : PartOf first x
  pub more : PartsOf others xs

divided : {forms : Sexps} {x : PatternPart} {xs : List PatternPart} → PartsOf forms (x ∷ xs) → Divided forms x xs
divided (and_part {s} {ss} d more) = record { first = s; others = ss; is = refl; one = d; more = more }

record First (text : List ℕ) (k : TokenKind) (p : ℕ) (w : List ℕ) (after : ℕ) (x : PatternPart) (xs : List PatternPart) : Type 0 where
  pub one : PartOf (atom k p w) x
  pub more : PartsAt text after xs

-- the first of some parts is the token that is seen
first_part : (text : List ℕ) (place p after : ℕ) (k : TokenKind) (w : List ℕ) (x : PatternPart) (xs : List PatternPart)
    → Seen text place k w p after → NoBracket k → PartsAt text place (x ∷ xs) → First text k p w after x xs
first_part text place p after k w x xs seen n at =
    let d = divided at.derived in
    let others = closed_by d.others at.shape at.end at.rest in
    let e : also (lexeme k p w) (lexed_from text after) ≡ stream d.first others = sym seen.follows ∙ at.follow ∙ ap (λ l. closed_by l at.shape at.end at.rest) d.is in
    let f = is_atom k p w (lexed_from text after) d.first others n e in
    record {
      one = subst (λ s. PartOf s x) f.0 d.one;
      more = record { forms = d.others; shape = at.shape; end = at.end; rest = at.rest; follow = f.1; atoms = (subst AllAtoms d.is at.atoms).1; derived = d.more };
    }

by_name : (text : List ℕ) (place p after : ℕ) (w : List ℕ) (name : Word) (xs : List PatternPart) {s : Sexp} {x : PatternPart} → PartOf s x → s ≡ atom kind.Name p w
    → length text ≤ 65535 → Seen text place kind.Name w p after → TakesUp p after name → PartsAt text after xs → IsPart text (x ∷ xs) (Some (record { name = Some name; after = after }))
by_name text place p after w name xs (bound {x = x} h) e short seen is more =
    let z : atom kind.Name x.place x.bytes ≡ atom kind.Name p w = sym h ∙ e in
    let ep : x.place ≡ p = cc in
    let ew : x.bytes ≡ w = cc in
    (name_lies text place p after w name x short seen is ep ew, more)
by_name text place p after w name xs skipped e short seen is more = absurd (cc)

by_other : (text : List ℕ) (after : ℕ) (xs : List PatternPart) {s : Sexp} {x : PatternPart} → PartOf s x → (k : TokenKind) (p : ℕ) (w : List ℕ) → s ≡ atom k p w → (k ≡ kind.Name → ⊥)
    → PartsAt text after xs → IsPart text (x ∷ xs) (Some (record { name = None; after = after }))
by_other text after xs (bound {x = x} h) k p w e f more =
    let z : atom kind.Name x.place x.bytes ≡ atom k p w = sym h ∙ e in
    absurd (f cc)
by_other text after xs skipped k p w e f more = (tt, more)

no_name : (text : List ℕ) (place p after : ℕ) (k : TokenKind) (w : List ℕ) → Seen text place k w p after → NoBracket k → PartsAt text place [] → ⊥
no_name text place p after k w seen n at = none at.derived at.follow
  where
    none : {forms : Sexps} → PartsOf forms [] → lexed_from text place ≡ closed_by forms at.shape at.end at.rest → ⊥
    none PartsOf.no_parts e =
        let y : also (lexeme k p w) (lexed_from text after) ≡ also (lexeme (kind.Close at.shape) at.end (closing at.shape)) at.rest = sym seen.follows ∙ e in
        let z : lexeme k p w ≡ lexeme (kind.Close at.shape) at.end (closing at.shape) = cc in
        subst NoBracket (ap (λ t. t.kind) z) n

pub next_name : (text : List ℕ) (place p after : ℕ) (w : List ℕ) (name : Word) (xs : List PatternPart) → length text ≤ 65535 → Seen text place kind.Name w p after → TakesUp p after name
    → PartsAt text place xs → IsPart text xs (Some (record { name = Some name; after = after }))
next_name text place p after w name [] short seen is at = no_name text place p after kind.Name w seen tt at
next_name text place p after w name (x ∷ xs) short seen is at =
    let f = first_part text place p after kind.Name w x xs seen tt at in
    by_name text place p after w name xs f.one refl short seen is f.more

pub next_other : (text : List ℕ) (place p after : ℕ) (k : TokenKind) (w : List ℕ) (xs : List PatternPart) → Seen text place k w p after → NoBracket k → (k ≡ kind.Name → ⊥)
    → PartsAt text place xs → IsPart text xs (Some (record { name = None; after = after }))
next_other text place p after k w [] seen n f at = no_name text place p after k w seen n at
next_other text place p after k w (x ∷ xs) seen n f at =
    let d = first_part text place p after k w x xs seen n at in
    by_other text after xs d.one k p w refl f d.more

-- the head of a pattern
pub head_lies : (text : List ℕ) (place p after q : ℕ) (k : TokenKind) (w : List ℕ) (name : Word) (c : Ident) (xs : List PatternPart) → length text ≤ 65535 → Seen text place k w p after
    → NoBracket k → TakesUp p after name → HeadAt text place c xs → IsHead text (tree.constructor q c xs) (Some (record { place = q; name = name; inside = after }))
head_lies text place p after q k w name c xs short seen n is at =
    let e : also (lexeme k p w) (lexed_from text after) ≡ stream at.first (closed_by at.forms at.shape at.end at.rest) = sym seen.follows ∙ at.follow in
    let f = is_atom k p w (lexed_from text after) at.first _ n e in
    let z : atom kind.Name c.place c.bytes ≡ atom k p w = sym at.name ∙ f.0 in
    let ek : k ≡ kind.Name = cc in
    let ep : c.place ≡ p = cc in
    let ew : c.bytes ≡ w = cc in (
      refl,
      name_lies text place p after w name c short (subst (λ k. Seen text place k w p after) ek seen) is ep ew,
      record { forms = at.forms; shape = at.shape; end = at.end; rest = at.rest; follow = f.1; atoms = at.atoms.1; derived = at.derived },
    )

-- a pattern in brackets is no wildcard, and one without is nothing else
in_brackets : (text : List ℕ) (place p after : ℕ) (r : Bracket) (w : List ℕ) {s : Sexp} {x : Pattern} → PatternOf s x → Atoms s → (rest : Lexed) → lexed_from text place ≡ stream s rest
    → Seen text place (kind.Open r) w p after → (h : Option Head) → ((c : Ident) (xs : List PatternPart) → HeadAt text after c xs → IsHead text (tree.constructor p c xs) h) → IsHead text x h
in_brackets text place p after r w (wildcard {p = p'} {w = w'}) a rest e seen h f =
    let l = is_list r p w (lexed_from text after) (atom (kind.Keyword keyword.Wildcard) p' w') rest a (sym seen.follows ∙ e) in
    absurd (let z : atom (kind.Keyword keyword.Wildcard) p' w' ≡ list l.shape p l.parts l.end = l.is in cc)
in_brackets text place p after r w (constructor {a = a'} {p = p'} {q = q} {s = s} {ss = ss} {c = c} {xs = xs} name derived) a rest e seen h f =
    let l = is_list r p w (lexed_from text after) (list a' p' (cons s ss) q) rest a (sym seen.follows ∙ e) in
    let z : list a' p' (cons s ss) q ≡ list l.shape p l.parts l.end = l.is in
    let ep : l.parts ≡ cons s ss = cc in
    let here : p ≡ p' = cc in
    subst (λ p. IsHead text (tree.constructor p c xs) h) here
    (f c xs (record { first = s; forms = ss; shape = l.shape; end = l.end; rest = rest; follow = l.inside ∙ ap (λ l'. closed_by l' l.shape l.end rest) ep; atoms = a; name = name; derived = derived }))

without : (text : List ℕ) (place : ℕ) {s : Sexp} {x : Pattern} → PatternOf s x → Atoms s → (rest : Lexed) → lexed_from text place ≡ stream s rest
    → (r : Look) → Sees text place r → ((p after : ℕ) → r ≡ look.Open p after → ⊥) → IsHead text x None
without text place wildcard a rest e r sees f = tt
without text place (constructor {a = a'} {p = p'} {q = q} {s = s} {ss = ss} name derived) a rest e look.End sees f = some_token (lexed_from text place) (list a' p' (cons s ss) q) rest sees e
without text place (constructor {a = a'} {p = p'} {q = q} {s = s} {ss = ss} name derived) a rest e (look.Open p after) sees f = f p after refl
without text place (constructor {a = a'} {p = p'} {q = q} {s = s} {ss = ss} name derived) a rest e (look.Close p after) sees f =
    let seen = sees.1.1 in
    not_close sees.0 p sees.1.0 (lexed_from text after) (list a' p' (cons s ss) q) rest a (sym seen.follows ∙ e)
without text place (constructor {a = a'} {p = p'} {q = q} {s = s} {ss = ss} name derived) a rest e (look.Atom k p after) sees f =
    let l = is_atom k p sees.0 (lexed_from text after) (list a' p' (cons s ss) q) rest sees.2 (sym sees.1.follows ∙ e) in
    let z : list a' p' (cons s ss) q ≡ atom k p sees.0 = l.0 in cc

pub bracketed : (text : List ℕ) (place p after : ℕ) (r : Bracket) (w : List ℕ) (x : Pattern) → Shows text place x
    → Seen text place (kind.Open r) w p after → (h : Option Head) → ((c : Ident) (xs : List PatternPart) → HeadAt text after c xs → IsHead text (tree.constructor p c xs) h) → IsHead text x h
bracketed text place p after r w x shows seen h f = in_brackets text place p after r w shows.derived shows.atoms shows.rest shows.follows seen h f

pub bare : (text : List ℕ) (place : ℕ) (x : Pattern) → Shows text place x → (r : Look) → Sees text place r → ((p after : ℕ) → r ≡ look.Open p after → ⊥) → IsHead text x None
bare text place x shows r sees f = without text place shows.derived shows.atoms shows.rest shows.follows r sees f
