-- The pass over a text answers the tokens of the grammar: those of every lawful text, and no others.
use Rattle.std.proofs.Common.{◌≡◌, ℕ, ◌+◌, Bool, true, false, cond, ltb, leb, List, [], ◌∷◌, ◌++◌, length, take, drop, Some, None, Ok, Err, Option, Result, sym, refl, ap, ◌∙◌, subst, inl, inr, arith, ltb-true, lt-ltb, le-leb, leb-true}
use Rattle.std.proofs.lemmas.List.{append-nil, take-append-drop, take_all, drop_all, take_at, drop_at, length-take-le, length-drop}
use Rattle.text.specs.declared.bracket.Bracket.{Bracket}
use Rattle.text.specs.declared.bracket.Bracket.TheVariants.{Round, Square}
use Rattle.text.specs.declared.front.Front.{Front}
use Rattle.text.specs.declared.refusal.Refusal.{Refusal}
use Rattle.text.specs.declared.refusal.Refusal.TheVariants as refusal
use Rattle.text.specs.declared.refusal.Refused.{Refused}
use Rattle.text.specs.declared.token.TokenKind.{TokenKind}
use Rattle.text.specs.declared.token.TokenKind.TheVariants as kind
use Rattle.text.specs.Bytes.{separator_run}
use Rattle.text.specs.Fronts.{token, text_front}
use Rattle.text.specs.Tokens.{Lexeme, lexeme, Lexed, done, fault, also, lexed, lexed_from}
use Rattle.text.specs.Scans.{refused_at, same_shape, nesting, precede, balanced, scan, counted}
use Rattle.text.specs.Grammar.{Separator, Cut, last, next, NoBracket, Paired, closed, opens, closes, other, Tokens, Lawful}
use Rattle.text.proofs.GrammarBytes.{run_separates, separators_run, separator_within}
use Rattle.text.proofs.GrammarTokens.{front_spelt, spelt_front, token_no_gap}
use Rattle.text.proofs.TokenLaws.{over_separators, run_whole, continued, lead, none_left}

-- the tokens, and then the end
abbrev pub listed : List Lexeme → Lexed
listed [] = done
listed (t ∷ ts) = also t (listed ts)

-- all tokens of a text, from what stands behind its first separators
behind : (i : ℕ) (s : List ℕ) → lexed 0 i s ≡ continued (i + separator_run false s) (drop (separator_run false s) s) (text_front (drop (separator_run false s) s))
behind i s = over_separators i s ∙ lead (i + separator_run false s) (drop (separator_run false s) s) (run_whole false s)

-- where nothing is left, the whole text separates
all_gap : (s : List ℕ) → drop (separator_run false s) s ≡ [] → (o : Bool) × Separator false o s
all_gap s e =
    let g = run_separates false s in
    let whole : take (separator_run false s) s ≡ s = take_all (separator_run false s) s (omega (arith, ap length e, length-drop (separator_run false s) s)) in
    (g.after, subst (Separator false g.after) whole g.gap)

-- before a token no comment is open
closed_gap : (s : List ℕ) (k : TokenKind) (n : ℕ) → text_front (drop (separator_run false s) s) ≡ token k n → Separator false false (take (separator_run false s) s)
closed_gap s k n e =
    let g = run_separates false s in
    elim g.stops [
      | inl z ↦ absurd (let f = drop_all (separator_run false s) s (omega (arith, z)) in let h : Ok None ≡ token k n = sym (ap text_front f) ∙ e in cc)
      | inr p ↦ subst (λ o. Separator false o (take (separator_run false s) s)) p g.gap
    ]

-- the tokens that the definitions list cut the text
cuts : (ts : List Lexeme) (i : ℕ) (s : List ℕ) → lexed 0 i s ≡ listed ts → Cut i s ts
cuts [] i s e = go (text_front (drop (separator_run false s) s)) refl (sym (behind i s) ∙ e)
  where
    go : (f : Result (Option Front) Refusal) → text_front (drop (separator_run false s) s) ≡ f → continued (i + separator_run false s) (drop (separator_run false s) s) f ≡ done → Cut i s []
    go (Ok None) p h = let g = all_gap s (none_left (drop (separator_run false s) s) (run_whole false s) p) in last g.0 g.1
    go (Err r) p h = absurd (cc)
    go (Ok (Some f)) p h = absurd (cc)
cuts (t ∷ ts) i s e = go (text_front (drop (separator_run false s) s)) refl (sym (behind i s) ∙ e) (cuts ts)
  where
    go : (f : Result (Option Front) Refusal) → text_front (drop (separator_run false s) s) ≡ f → continued (i + separator_run false s) (drop (separator_run false s) s) f ≡ also t (listed ts)
        → ((j : ℕ) (r : List ℕ) → lexed 0 j r ≡ listed ts → Cut j r ts) → Cut i s (t ∷ ts)
    go (Ok None) p h more = absurd (cc)
    go (Err r) p h more = absurd (cc)
    go (Ok (Some f)) p h more =
        let k = f.kind in
        let n = f.size in
        let g = separator_run false s in
        let x = drop g s in
        let et : lexeme k (i + g) (take n x) ≡ t = cc in
        let er : lexed 0 (i + g + n) (drop n x) ≡ listed ts = cc in
        let sp = front_spelt x k n p in
        let size : length (take n x) ≡ n = length-take-le n x sp.2 in
        let long : length (take g s) ≡ g = length-take-le g s (separator_within false s) in
        subst (λ t. Cut i s (t ∷ ts)) et
        (next (take g s) (drop n x) (lexeme k (i + g) (take n x)) (closed_gap s k n p) sp.0 sp.1
        (sym (take-append-drop g s) ∙ ap (λ y. take g s ++ y) (sym (take-append-drop n x)))
        (ap (λ m. i + m) (sym long))
        (subst (λ m. Cut (i + g + m) (drop n x) ts) (sym size) (more (i + g + n) (drop n x) er)))

-- tokens that cut the text are those that the definitions list
lists : {i : ℕ} {s : List ℕ} {ts : List Lexeme} → Cut i s ts → lexed 0 i s ≡ listed ts
lists {i} {s} (last o gap) =
    let run : separator_run false s ≡ length s = ap (separator_run false) (sym (append-nil s)) ∙ separators_run [] gap refl in
    over_separators i s ∙ ap (lexed 0 (i + separator_run false s)) (drop_all (separator_run false s) s (omega arith))
lists {i} {s} (next {ts = ts} gap rest t sep spelt whole e place more) =
    let w = t.bytes in
    let x = w ++ rest in
    let n = length w in
    let f = spelt_front t.kind w rest spelt whole in
    let z = token_no_gap x t.kind n f in
    let run : separator_run false s ≡ length gap = ap (separator_run false) e ∙ separators_run x sep z in
    over_separators i s
    ∙ ap (λ m. lexed 0 (i + m) (drop m s)) run
    ∙ ap (λ y. lexed 0 (i + length gap) (drop (length gap) y)) e
    ∙ ap (lexed 0 (i + length gap)) (drop_at gap x (length gap) refl)
    ∙ ap (λ j. lexed 0 j x) (sym place)
    ∙ lead t.place x z
    ∙ ap (continued t.place x) f
    ∙ ap (λ y. also (lexeme t.kind t.place y) (lexed 0 (t.place + n) (drop n x))) (take_at w rest n refl)
    ∙ ap (λ y. also t (lexed 0 (t.place + n) y)) (drop_at w rest n refl)
    ∙ ap (also t) (lists more)

-- Brackets.
same_shape_law : (a b : Bracket) → same_shape a b ≡ true → a ≡ b
same_shape_law Round Round e = refl
same_shape_law Round Square e = absurd (cc)
same_shape_law Square Round e = absurd (cc)
same_shape_law Square Square e = refl

shape_same : (a : Bracket) → same_shape a a ≡ true
shape_same Round = refl
shape_same Square = refl

pairs_one : (t : Lexeme) (ts : List Lexeme) (opened after : List Bracket) → nesting t.kind opened ≡ Ok after → Paired after ts → Paired opened (t ∷ ts)
pairs_one t ts opened after e p = go t.kind refl opened e
  where
    aside : {o : List Bracket} → NoBracket t.kind → ◌≡◌ {A = Result (List Bracket) Refusal} (Ok o) (Ok after) → Paired o (t ∷ ts)
    aside {o} n h = let q : after ≡ o = cc in other t n (subst (λ o. Paired o ts) q p)

    go : (k : TokenKind) → t.kind ≡ k → (o : List Bracket) → nesting k o ≡ Ok after → Paired o (t ∷ ts)
    go (kind.Open r) q o h = shaped (ltb (length o) 64) refl h
      where
        shaped : (v : Bool) → ltb (length o) 64 ≡ v → ◌≡◌ {A = Result (List Bracket) Refusal} (cond v (Ok (r ∷ o)) (Err refusal.Limit)) (Ok after) → Paired o (t ∷ ts)
        shaped true b h = let z : after ≡ r ∷ o = cc in opens t r q (ltb-true (length o) 64 b) (subst (λ o. Paired o ts) z p)
        shaped false b h = absurd (cc)
    go (kind.Close r) q [] h = absurd (cc)
    go (kind.Close r) q (a ∷ o) h = shaped (same_shape a r) refl h
      where
        shaped : (v : Bool) → same_shape a r ≡ v → ◌≡◌ {A = Result (List Bracket) Refusal} (cond v (Ok o) (Err refusal.Bracket)) (Ok after) → Paired (a ∷ o) (t ∷ ts)
        shaped true b h = let z : after ≡ o = cc in subst (λ a. Paired (a ∷ o) (t ∷ ts)) (sym (same_shape_law a r b)) (closes t r q (subst (λ o. Paired o ts) z p))
        shaped false b h = absurd (cc)
    go kind.Symbol q o h = aside (rw q tt) h
    go (kind.Integer z) q o h = aside (rw q tt) h
    go (kind.Keyword j) q o h = aside (rw q tt) h
    go kind.Name q o h = aside (rw q tt) h

preceded : (t : Lexeme) (r : Result (List Lexeme) Refused) (ts : List Lexeme) → precede t r ≡ Ok ts → (us : List Lexeme) × (r ≡ Ok us) × (t ∷ us ≡ ts)
preceded t (Ok us) ts e = (us, refl, cc)
preceded t (Err r) ts e = absurd (cc)

pairs : (end : ℕ) (opened : List Bracket) (l : Lexed) (ts : List Lexeme) → balanced end opened l ≡ Ok ts → (l ≡ listed ts) × Paired opened ts
pairs end [] done ts e = let z : [] ≡ ts = cc in subst (λ ts. (done ≡ listed ts) × Paired [] ts) z (refl, closed)
pairs end (a ∷ o) done ts e = absurd (cc)
pairs end o (fault f i) ts e = absurd (cc)
pairs end o (also t l) ts e = go (nesting t.kind o) refl e (λ after. pairs end after l)
  where
    go : (v : Result (List Bracket) Refusal) → nesting t.kind o ≡ v
        → ◌≡◌ {A = Result (List Lexeme) Refused} (elim v [ Ok after ↦ precede t (balanced end after l) | Err f ↦ Err (refused_at f t.place) ]) (Ok ts)
        → ((after : List Bracket) (us : List Lexeme) → balanced end after l ≡ Ok us → (l ≡ listed us) × Paired after us) → (also t l ≡ listed ts) × Paired o ts
    go (Err f) q h more = absurd (cc)
    go (Ok after) q h more =
        let u = preceded t (balanced end after l) ts h in
        let m = more after u.0 u.1 in
        subst (λ ts. (also t l ≡ listed ts) × Paired o ts) u.2 (ap (also t) m.0, pairs_one t u.0 o after q m.1)

nests : (t : Lexeme) (opened after : List Bracket) (end : ℕ) (ts : List Lexeme) → nesting t.kind opened ≡ Ok after → balanced end after (listed ts) ≡ Ok ts → balanced end opened (also t (listed ts)) ≡ Ok (t ∷ ts)
nests t opened after end ts e h = rw (e, balanced) (ap (precede t) h)

balances : {opened : List Bracket} {ts : List Lexeme} (end : ℕ) → Paired opened ts → balanced end opened (listed ts) ≡ Ok ts
balances end closed = refl
balances end (opens {opened = o} {ts = ts} t r e few p) = nests t o (r ∷ o) end ts (ap (λ k. nesting k o) e ∙ rw (lt-ltb (length o) 64 few) refl) (balances end p)
balances end (closes {opened = o} {ts = ts} t r e p) = nests t (r ∷ o) o end ts (ap (λ k. nesting k (r ∷ o)) e ∙ rw (shape_same r) refl) (balances end p)
balances end (other {opened = o} {ts = ts} t n p) = nests t o o end ts (aside t.kind n) (balances end p)
  where
    aside : (k : TokenKind) → NoBracket k → nesting k o ≡ Ok o
    aside (kind.Open r) n = absurd n
    aside (kind.Close r) n = absurd n
    aside kind.Symbol n = refl
    aside (kind.Integer z) n = refl
    aside (kind.Keyword j) n = refl
    aside kind.Name n = refl

-- The pass over a text answers exactly the tokens of the grammar.
pub scan_tokens : (text : List ℕ) (ts : List Lexeme) → scan text ≡ Ok ts → Tokens text ts
scan_tokens text ts e = go (leb (length text) 65535) refl e
  where
    go : (v : Bool) → leb (length text) 65535 ≡ v → ◌≡◌ {A = Result (List Lexeme) Refused} (cond v (balanced (length text) [] (lexed_from text 0)) (Err (refused_at refusal.Limit 65535))) (Ok ts) → Tokens text ts
    go true b h =
        let p = pairs (length text) [] (lexed_from text 0) ts h in
        record { short = leb-true (length text) 65535 b; cut = cuts ts 0 text p.0; paired = p.1 }
    go false b h = absurd (cc)

pub tokens_scan : (text : List ℕ) (ts : List Lexeme) → Tokens text ts → scan text ≡ Ok ts
tokens_scan text ts t = rw (le-leb (length text) 65535 t.short) (ap (balanced (length text) []) (lists t.cut) ∙ balances (length text) t.paired)

pub scan_lawful : (text : List ℕ) → Lawful text (counted (scan text))
scan_lawful text = go (scan text) refl
  where
    go : (r : Result (List Lexeme) Refused) → scan text ≡ r → Lawful text (counted r)
    go (Ok ts) e = (ts, scan_tokens text ts e, refl, λ us t. let f = tokens_scan text us t in cc)
    go (Err r) e = λ ts t. let f = tokens_scan text ts t in cc
