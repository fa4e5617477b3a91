-- The lists that are open while a text is passed, and the table of their numbers of parts.
use Rattle.std.proofs.Common.{◌≡◌, ℕ, zero, suc, ◌+◌, ◌-◌, ◌<◌, ◌≤◌, min, cond, ◌⊎◌, List, [], ◌∷◌, length, Some, None, Option, get_or, map, replicate, set, refl, ap, ◌∙◌, subst, sym, inl, inr, arith, zero-add, ne_eqb}
use Rattle.std.proofs.lemmas.Bool.{cases_lt, cases_eq}
use Rattle.std.proofs.lemmas.List.{get_or-set_same, get_or-set_other, set_past, get_or-replicate, get_or_past, length-replicate, map-set}
use Rattle.text.specs.Grammar.{NoBracket}
use Rattle.text.specs.Tokens.{lexeme, Lexed, also, lexed_from}
use Rattle.text.specs.declared.bracket.Bracket.{Bracket}
use Rattle.text.specs.declared.token.TokenKind.{TokenKind}
use Rattle.text.specs.declared.token.TokenKind.TheVariants as kind
use Rattle.forms.specs.Surveys.{counted, parts_of, told, Known, added}
use Rattle.forms.specs.declared.counting.OpenList.{OpenList}
use Rattle.forms.specs.declared.part_count.PartCount.{PartCount}
use Rattle.forms.proofs.SurveyLaws.{counted_atom, not_here}

-- For each open list, the newest first, the parts so far and those to come are its parts; so many brackets are open inside it.
abbrev pub Pending : List ℕ → Lexed → ℕ → List OpenList → Type 0
Pending text l d [] = Unit {0}
Pending text l d (e ∷ es) = (parts_of (lexed_from text e.inside) ≡ min 7 (e.parts + counted d l)) × Pending text l (suc d) es

-- lists around another one, as a token changes what is to come
pending_on : (text : List ℕ) (l m : Lexed) (d e : ℕ) (es : List OpenList) → ((k : ℕ) → counted (d + k) l ≡ counted (e + k) m) → Pending text l d es → Pending text m e es
pending_on text l m d e [] same p = tt
pending_on text l m d e (x ∷ es) same p =
    let zero_d : d + 0 ≡ d = omega arith in
    let zero_e : e + 0 ≡ e = omega arith in
    let now : counted d l ≡ counted e m = ap (λ j. counted j l) (sym zero_d) ∙ same 0 ∙ ap (λ j. counted j m) zero_e in (
      p.0 ∙ ap (λ n. min 7 (x.parts + n)) now,
      pending_on text l m (suc d) (suc e) es (λ k.
          let up_d : suc d + k ≡ d + suc k = omega arith in
          let up_e : e + suc k ≡ suc e + k = omega arith in
          ap (λ j. counted j l) up_d ∙ same (suc k) ∙ ap (λ j. counted j m) up_e) p.1,
    )

-- a token that is no bracket
pub pending_atom : (text : List ℕ) (k : TokenKind) (p : ℕ) (w : List ℕ) (l : Lexed) (es : List OpenList) → NoBracket k → Pending text (also (lexeme k p w) l) 0 es → Pending text l 0 (added es)
pending_atom text k p w l [] n h = tt
pending_atom text k p w l (e ∷ es) n h =
    let one = counted_atom 0 k p w l n in (
      h.0 ∙ ap (λ m. min 7 (e.parts + m)) one ∙ (omega arith),
      pending_on text (also (lexeme k p w) l) l 1 1 es (λ j.
          let up : 1 + j ≡ suc j = omega arith in
          ap (λ i. counted i (also (lexeme k p w) l)) up ∙ counted_atom (suc j) k p w l n ∙ ap (λ m. m + counted (suc j) l) (not_here j) ∙ zero-add (counted (suc j) l) ∙ ap (λ i. counted i l) (sym up)) h.1,
    )

-- a bracket that opens a list
pub pending_open : (text : List ℕ) (r : Bracket) (p : ℕ) (w : List ℕ) (after : ℕ) (es : List OpenList) → Pending text (also (lexeme (kind.Open r) p w) (lexed_from text after)) 0 es
    → Pending text (lexed_from text after) 0 (record { inside = after; parts = 0 } ∷ added es)
pending_open text r p w after [] h = (ap (λ n. min 7 n) (sym (zero-add (counted 0 (lexed_from text after)))), tt)
pending_open text r p w after (e ∷ es) h =
    let l = lexed_from text after in (
      ap (λ n. min 7 n) (sym (zero-add (counted 0 l))),
      (
        h.0 ∙ (omega arith),
        pending_on text (also (lexeme (kind.Open r) p w) l) l 1 2 es (λ j.
            let up : 1 + j ≡ suc j = omega arith in
            let more : suc j + 1 ≡ 2 + j = omega arith in
            ap (λ i. counted i (also (lexeme (kind.Open r) p w) l)) up ∙ ap (λ m. m + counted (suc j + 1) l) (not_here j) ∙ zero-add (counted (suc j + 1) l) ∙ ap (λ i. counted i l) more) h.1,
      ),
    )

-- a bracket that closes the newest list
pub pending_close : (text : List ℕ) (r : Bracket) (p : ℕ) (w : List ℕ) (l : Lexed) (e : OpenList) (es : List OpenList) → Pending text (also (lexeme (kind.Close r) p w) l) 0 (e ∷ es)
    → (min 7 e.parts ≡ parts_of (lexed_from text e.inside)) × Pending text l 0 es
pending_close text r p w l e es h =
    let all = h.0 in (
      omega arith,
      pending_on text (also (lexeme (kind.Close r) p w) l) l 1 0 es (λ j.
          let up : 1 + j ≡ suc j = omega arith in
          let down : suc j - 1 ≡ 0 + j = omega arith in
          ap (λ i. counted i (also (lexeme (kind.Close r) p w) l)) up ∙ ap (λ b. cond b 0 (counted (suc j - 1) l)) (ne_eqb (suc j) 0 (λ z. omega arith)) ∙ ap (λ i. counted i l) down) h.1,
    )

-- one entry of the table more
pub known_set : (text : List ℕ) (counts : List (Option ℕ)) (i v : ℕ) → v ≡ parts_of (lexed_from text i) → Known text counts → Known text (set counts i (Some v))
known_set text counts i v is known place parts = go (cases_eq place i) (cases_lt i (length counts))
  where
    go : (place ≡ i) ⊎ (place ≡ i → ⊥) → (i < length counts) ⊎ (length counts ≤ i) → get_or (set counts i (Some v)) place None ≡ Some parts → parts ≡ parts_of (lexed_from text place)
    go (inl e) (inl h) some =
        let here : Some v ≡ Some parts = sym (get_or-set_same counts i (Some v) None h) ∙ ap (λ j. get_or (set counts i (Some v)) j None) (sym e) ∙ some in
        let same : v ≡ parts = cc in
        sym same ∙ is ∙ ap (λ j. parts_of (lexed_from text j)) (sym e)
    go (inr n) h some = known place parts (sym (get_or-set_other counts i place (Some v) None n) ∙ some)
    go (inl e) (inr h) some = known place parts (subst (λ xs. get_or xs place None ≡ Some parts) (set_past counts i (Some v) h) some)

-- a table that tells nothing
pub known_none : (text : List ℕ) (n : ℕ) → Known text (replicate {A = Option ℕ} n None)
known_none text n place parts = go (cases_lt place n)
  where
    nothing : ◌≡◌ {A = Option ℕ} (get_or (replicate {A = Option ℕ} n None) place None) None → get_or (replicate {A = Option ℕ} n None) place None ≡ Some parts → parts ≡ parts_of (lexed_from text place)
    nothing e some = absurd (let z : ◌≡◌ {A = Option ℕ} None (Some parts) = sym e ∙ some in cc)

    go : (place < n) ⊎ (n ≤ place) → get_or (replicate {A = Option ℕ} n None) place None ≡ Some parts → parts ≡ parts_of (lexed_from text place)
    go (inl h) = nothing (get_or-replicate n place None None h)
    go (inr h) = nothing (get_or_past (replicate {A = Option ℕ} n None) place None (let size : length (replicate {A = Option ℕ} n None) ≡ n = length-replicate {A = Option ℕ} n None in omega arith))

-- an entry of which nothing is known
abbrev pub unknown : PartCount
unknown = record { code = 0 }

-- what the entries tell, place by place
pub told_at : (counts : List PartCount) (i : ℕ) → get_or (map told counts) i None ≡ told (get_or counts i unknown)
told_at [] i = refl
told_at (c ∷ counts) zero = refl
told_at (c ∷ counts) (suc i) = told_at counts i

-- the same of entries by what they tell
pub told_set : (text : List ℕ) (counts : List PartCount) (i v : ℕ) (c : PartCount) → told c ≡ Some v → v ≡ parts_of (lexed_from text i) → Known text (map told counts) → Known text (map told (set counts i c))
told_set text counts i v c tells is known =
    subst (Known text) (ap (set (map told counts) i) (sym tells) ∙ sym (map-set told counts i c)) (known_set text (map told counts) i v is known)

told_all : (n : ℕ) (c : PartCount) → map told (replicate n c) ≡ replicate n (told c)
told_all zero c = refl
told_all (suc n) c = ap (λ os. told c ∷ os) (told_all n c)

pub told_none : (text : List ℕ) (n : ℕ) (c : PartCount) → told c ≡ None → Known text (map told (replicate n c))
told_none text n c nothing = subst (Known text) (ap (replicate n) (sym nothing) ∙ sym (told_all n c)) (known_none text n)
