-- Names, and lists of them.
use Rattle.std.proofs.Common.{◌≡◌, ℕ, ◌+◌, ◌-◌, ◌<◌, ◌≤◌, ltb, List, ◌∷◌, map, length, set, Some, Ok, Err, Result, sym, refl, ap, ◌∙◌, subst, add-zero, arith, le-ltb, lt-ltb}
use Rattle.std.proofs.lemmas.Bool.{cond-true, cond-false}
use Rattle.text.specs.Scans.{refused_at}
use Rattle.text.specs.Tokens.{Lexed, lexed_from}
use Rattle.text.specs.declared.bracket.Bracket.{Bracket}
use Rattle.text.specs.declared.refusal.Refused.{Refused}
use Rattle.text.specs.declared.refusal.Refusal.TheVariants as refusal
use Rattle.text.specs.declared.token.TokenKind.TheVariants as kind
use Rattle.grammar.specs.Reading.{Tally, Outcome, refused, made, and_then, name_read, ident, read_parameters, read_parameter_list}
use Rattle.grammar.specs.Sexps.{Sexp, atom, list, cons, place, Atoms, AllAtoms}
use Rattle.grammar.specs.Streams.{stream}
use Rattle.grammar.specs.Trees.{Ident}
use Rattle.layout.specs.Words.{word_at, word}
use Rattle.layout.specs.declared.word.Word.{Word}
use Rattle.parser.specs.Listing.{ToldNames, OnNames, OnNameList}
use Rattle.forms.specs.Looks.{Seen, Named, NotClosing, Closes}
use Rattle.forms.specs.Progress.{puts}
use Rattle.forms.specs.Rows.{closed_by}
use Rattle.forms.specs.declared.names.NameAt.{NameAt}
use Rattle.forms.specs.declared.spot.Spot.{Spot}
use Rattle.forms.proofs.LookLaws.{is_list}
use Rattle.forms.proofs.RowLaws.{left_none, left_some}

-- One step of reading.
pub then_refused : {A B : Type 0} (o : Outcome A) (f : A → Tally → Outcome B) (x : Refused) → o ≡ refused x → and_then o f ≡ refused x
then_refused o f x e = ap (λ o. and_then o f) e

pub then_made : {A B : Type 0} (o : Outcome A) (f : A → Tally → Outcome B) (a : A) (n : Tally) → o ≡ made a n → and_then o f ≡ f a n
then_made o f a n e = ap (λ o. and_then o f) e

-- A name was read.
pub record NameRead (text : List ℕ) (s : Sexp) (rest : Lexed) (name : NameAt) : Type 0 where
  pub name_is : Ident
  pub form_is : s ≡ atom kind.Name name_is.place name_is.bytes
  pub word_is : word_at name.place (name.after - name.place) ≡ word name_is
  pub place_is : name.place ≡ name_is.place
  pub follows : lexed_from text name.after ≡ rest

pub name_made : (text : List ℕ) (rest : Lexed) (s : Sexp) (n : Tally) (name : NameAt) → Named text rest (name_read s n) (Ok name) → NameRead text s rest name
name_made text rest (atom kind.Name p w) n name t =
    let a = t.0 in
    let b = t.1 in
    let size : name.after - name.place ≡ length w = omega arith in
    record { name_is = ident p w; form_is = refl; word_is = ap (λ j. word_at j (name.after - name.place)) a ∙ ap (word_at p) size; place_is = a; follows = t.2 }
name_made text rest (atom (kind.Open r) p w) n name t = absurd (cc)
name_made text rest (atom (kind.Close r) p w) n name t = absurd (cc)
name_made text rest (atom kind.Symbol p w) n name t = absurd (cc)
name_made text rest (atom (kind.Integer z) p w) n name t = absurd (cc)
name_made text rest (atom (kind.Keyword k) p w) n name t = absurd (cc)
name_made text rest (list r p ss q) n name t = absurd (cc)

pub name_read_is : (text : List ℕ) (rest : Lexed) (s : Sexp) (name : NameAt) (r : NameRead text s rest name) (n : Tally) → name_read s n ≡ made r.name_is n
name_read_is text rest s name r n = ap (λ s. name_read s n) r.form_is

pub name_refused : (text : List ℕ) (rest : Lexed) (o : Outcome Ident) (x : Refused) → Named text rest o (Err x) → o ≡ refused x
name_refused text rest (refused y) x t = let e : y ≡ x = cc in ap refused e
name_refused text rest (made i n) x t = absurd t

-- what a reader of a name answers at a place
abbrev pub OnName : List ℕ → ℕ → Result NameAt Refused → Type 0
OnName text at r = (s : Sexp) (rest : Lexed) (n : Tally) → lexed_from text at ≡ stream s rest → Atoms s → Named text rest (name_read s n) r

-- Names in a list, behind so many.
module _ (text : List ℕ) (entries : ℕ) (at : Spot) (now : List Word) (k : ℕ) where
  pub names_end : (after : ℕ) → Closes text at.place (Some after) → OnNames text at now (read_parameters entries k) (Ok (record { place = after; used = at.used })) now
  names_end after c ss shape q rest n e a =
      let l = left_none ss shape q rest c.0 c.1.1.0 c.1.0 (lexed_from text after) (sym e ∙ c.1.1.1.follows) a in
      subst (λ ss. ToldNames text rest at now (read_parameters entries k ss n) (Ok (record { place = after; used = at.used })) now) (sym l.0) (sym (add-zero at.used), l.1, refl)

  module _ (more : NotClosing (lexed_from text at.place)) where
    pub names_stop : (x : Refused) (then : List Word) → OnName text at.place (Err x) → OnNames text at now (read_parameters entries k) (Err x) then
    names_stop x then told ss shape q rest n e a =
        let l = left_some ss shape q rest (subst NotClosing e more) in
        let s = l.0 in
        let left = l.1.0 in
        let atoms = subst AllAtoms l.1.1 a in
        let no_name = name_refused text _ (name_read s n) x (told s (closed_by left shape q rest) n (e ∙ ap (λ ss. closed_by ss shape q rest) l.1.1) atoms.0) in
        let is : read_parameters entries k (cons s left) n ≡ refused x = then_refused (name_read s n) _ x no_name in
        subst (λ o. ToldNames text rest at now o (Err x) then) (sym (ap (λ ss. read_parameters entries k ss n) l.1.1 ∙ is)) refl

    module _ (name : NameAt) (told : OnName text at.place (Ok name)) where
      pub names_seventh : 6 ≤ k → (x : Refused) (then : List Word) → x ≡ refused_at refusal.Limit name.place → OnNames text at now (read_parameters entries k) (Err x) then
      names_seventh many x then is ss shape q rest n e a =
          let l = left_some ss shape q rest (subst NotClosing e more) in
          let s = l.0 in
          let left = l.1.0 in
          let atoms = subst AllAtoms l.1.1 a in
          let r = name_made text (closed_by left shape q rest) s n name (told s (closed_by left shape q rest) n (e ∙ ap (λ ss. closed_by ss shape q rest) l.1.1) atoms.0) in
          let where_is : name.place ≡ place s = r.place_is ∙ ap place (sym r.form_is) in
          let too_many : read_parameters entries k (cons s left) n ≡ refused (refused_at refusal.Limit (place s)) =
          then_made (name_read s n) _ r.name_is n (name_read_is text _ s name r n) ∙ cond-false (ltb k 6) _ _ (le-ltb k 6 many) in
          subst (λ o. ToldNames text rest at now o (Err x) then) (sym (ap (λ ss. read_parameters entries k ss n) l.1.1 ∙ too_many)) (ap Err (is ∙ ap (refused_at refusal.Limit) where_is))

      pub names_next : k < 6 → (w : Word) → w ≡ word_at name.place (name.after - name.place) → (j : ℕ) → j ≡ k + 1 → (r : Result Spot Refused) (after : List Word)
          → OnNames text (record { place = name.after; used = at.used + 1 }) (set now at.used w) (read_parameters entries j) r after
          → OnNames text at now (read_parameters entries k) r after
      names_next few w w_is j j_is r after others ss shape q rest n e a =
          let l = left_some ss shape q rest (subst NotClosing e more) in
          let s = l.0 in
          let left = l.1.0 in
          let atoms = subst AllAtoms l.1.1 a in
          let m = name_made text (closed_by left shape q rest) s n name (told s (closed_by left shape q rest) n (e ∙ ap (λ ss. closed_by ss shape q rest) l.1.1) atoms.0) in
          let i = m.name_is in
          let one_more : read_parameters entries k (cons s left) n ≡ and_then (read_parameters entries j left n) (λ xs n. made (i ∷ xs) n) =
          then_made (name_read s n) _ i n (name_read_is text _ s name m n) ∙ cond-true (ltb k 6) _ _ (lt-ltb k 6 few) ∙ ap (λ j. and_then (read_parameters entries j left n) (λ xs n. made (i ∷ xs) n)) (sym j_is) in
          subst (λ o. ToldNames text rest at now o r after) (sym (ap (λ ss. read_parameters entries k ss n) l.1.1 ∙ one_more))
          (go i (w_is ∙ m.word_is) (read_parameters entries j left n) r (others left shape q rest n m.follows atoms.1))
        where
          go : (i : Ident) → w ≡ word i → (o : Outcome (List Ident)) (r : Result Spot Refused) → ToldNames text rest (record { place = name.after; used = at.used + 1 }) (set now at.used w) o r after
              → ToldNames text rest at now (and_then o (λ xs n. made (i ∷ xs) n)) r after
          go i w_is (refused x) r t = t
          go i w_is (made xs m) (Err x) t = absurd t
          go i w_is (made xs m) (Ok end) t =
              let used = t.0 in
              (omega arith, t.1, t.2 ∙ ap (λ x. puts (set now at.used x) (at.used + 1) (map word xs)) w_is)

-- In the middle of such a list: what is told of the rest is told of the whole.
abbrev pub CarriesNames : List ℕ → Spot → List Word → Spot → List Word → Type 0
CarriesNames text from ws at now = (entries : ℕ) (r : Result Spot Refused) (after : List Word) → OnNames text at now (read_parameters entries (at.used - from.used)) r after → OnNames text from ws (read_parameters entries 0) r after

-- A list of names in brackets.
pub names_list : (text : List ℕ) (spot : Spot) (ws : List Word) (entries : ℕ) (k : Bracket) (w : List ℕ) (p inside : ℕ) (r : Result Spot Refused) (after : List Word) → Seen text spot.place (kind.Open k) w p inside
    → OnNames text (record { place = inside; used = spot.used }) ws (read_parameters entries 0) r after → OnNameList text spot ws (read_parameter_list entries) r after
names_list text spot ws entries k w p inside r after seen told s rest n e a =
    let l = is_list k p w (lexed_from text inside) s rest a (sym seen.follows ∙ e) in
    subst (λ s. ToldNames text rest spot ws (read_parameter_list entries s n) r after) (sym l.is) (again (read_parameters entries 0 l.parts n) r (told l.parts l.shape l.end rest n l.inside l.atoms))
  where
    again : (o : Outcome (List Ident)) (r : Result Spot Refused) → ToldNames text rest (record { place = inside; used = spot.used }) ws o r after → ToldNames text rest spot ws o r after
    again (refused x) r t = t
    again (made xs m) (Ok end) t = t
    again (made xs m) (Err x) t = t
