-- What each reader of constructors tells, by what the readers that it calls tell.
use Rattle.std.proofs.Common.{◌≡◌, ℕ, ◌+◌, ◌-◌, ◌<◌, List, [], ◌∷◌, length, set, Some, Ok, Err, Result, sym, refl, ap, ◌∙◌, subst, add-zero, arith, lt-ltb}
use Rattle.std.proofs.lemmas.Bool.{cond-true}
use Rattle.std.proofs.lemmas.List.{append-nil}
use Rattle.text.specs.Tokens.{Lexed, lexed_from}
use Rattle.text.specs.declared.bracket.Bracket.{Bracket}
use Rattle.text.specs.declared.refusal.Refused.{Refused}
use Rattle.text.specs.declared.token.TokenKind.TheVariants as kind
use Rattle.grammar.specs.Forms.{two}
use Rattle.grammar.specs.Limits.{types_count, types_length, fields_count}
use Rattle.grammar.specs.Reading.{Tally, Outcome, refused, made, and_then, name_read, read_type_list, read_type, constructor_of, read_constructor, read_constructors, read_constructor_list}
use Rattle.grammar.specs.Sexps.{Sexp, atom, list, Sexps, nil, cons, place, Atoms, AllAtoms}
use Rattle.grammar.specs.Streams.{stream}
use Rattle.grammar.specs.Trees as tree
use Rattle.grammar.specs.Trees.{Ident, TypeExprs}
use Rattle.layout.specs.Tabling.{constructor_entry, constructor_entries, field_types}
use Rattle.layout.specs.TypeEncoding.{encode_types}
use Rattle.layout.specs.Words.{word_at, word}
use Rattle.layout.specs.declared.definition.Constructor.{Constructor}
use Rattle.layout.specs.declared.type_node.TypeNode.{TypeNode}
use Rattle.layout.specs.declared.word.Word.{Word}
use Rattle.layout.proofs.Sizes.{length_types}
use Rattle.forms.specs.Looks.{Seen, NotClosing, Closes}
use Rattle.forms.specs.Progress.{puts}
use Rattle.forms.specs.Rows.{closed_by}
use Rattle.forms.specs.Pairs.{Pair, pair_of}
use Rattle.forms.specs.declared.names.NameAt.{NameAt}
use Rattle.forms.specs.declared.sight.Opened.{Opened}
use Rattle.forms.specs.declared.spot.Spot.{Spot}
use Rattle.forms.proofs.PairLaws.{pair_made}
use Rattle.forms.proofs.LookLaws.{is_list}
use Rattle.forms.proofs.RowLaws.{left_none, left_some, puts-++}
use Rattle.parser.specs.Listing.{ToldMark, OnMark, OnMarks, listed, alone, all}
use Rattle.parser.specs.TypeParts.{ToldType, OnType}
use Rattle.parser.specs.declared.mark.Mark.{Mark}
use Rattle.parser.proofs.KeepLaws.{Keeps, keeps_type_list, list_counted}
use Rattle.parser.proofs.NameLaws.{OnName, NameRead, name_made, name_read_is, name_refused, then_made, then_refused}

abbrev one_constructor : Tally → Tally
one_constructor n = record { nodes = n.nodes; types = n.types; bindings = n.bindings; datatypes = n.datatypes; constructors = n.constructors + 1 }

abbrev constructor_at : ℕ → Ident → TypeExprs → tree.Constructor
constructor_at p c ts = record { place = p; name = c; fields = ts }

abbrev entry_of : ℕ → Word → ℕ → ℕ → ℕ → ℕ → Constructor
entry_of p w k first past fields = record { place = p; name = w; datatype = k; first = first; past = past; fields = fields }

-- One constructor definition, from its name on, where one more constructor passes no limit.
module _ (text : List ℕ) (mark : Mark) (ts : List TypeNode) (cs : List Constructor) (k p entries : ℕ) (few : mark.constructors < 256) where
  abbrev then_fields : Sexp → Ident → Tally → Outcome tree.Constructor
  then_fields y c n = and_then (read_type_list (read_type 64) y n) (λ us n. made (constructor_at p c us) n)

  opened : (x y : Sexp) (n : Tally) → n.constructors ≡ mark.constructors → constructor_of entries p (two x y) n ≡ and_then (name_read x (one_constructor n)) (then_fields y)
  opened x y n v = cond-true _ _ _ (lt-ltb n.constructors 256 (omega arith))

  pub constructor_unnamed : (z : Refused) (ts' : List TypeNode) (cs' : List Constructor) → OnName text mark.place (Err z) → (x y : Sexp) → OnMarks alone k text mark ts cs (cons x (cons y nil)) (constructor_of entries p (two x y)) (Err z) ts' cs'
  constructor_unnamed z ts' cs' names x y shape q rest n e a u v =
      let no_name = name_refused text _ (name_read x (one_constructor n)) z (names x (closed_by (cons y nil) shape q rest) (one_constructor n) e a.0) in
      subst (λ o. ToldMark alone k text rest mark ts cs o (Err z) ts' cs') (sym (opened x y n v ∙ then_refused (name_read x (one_constructor n)) (then_fields y) z no_name)) refl

  module _ (name : NameAt) (names : OnName text mark.place (Ok name)) where
    abbrev behind_name : Spot
    behind_name = record { place = name.after; used = mark.types }

    named : (x y : Sexp) (shape : Bracket) (q : ℕ) (rest : Lexed) (n : Tally) → lexed_from text mark.place ≡ closed_by (cons x (cons y nil)) shape q rest → AllAtoms (cons x (cons y nil)) → NameRead text x (closed_by (cons y nil) shape q rest) name
    named x y shape q rest n e a = name_made text (closed_by (cons y nil) shape q rest) x (one_constructor n) name (names x (closed_by (cons y nil) shape q rest) (one_constructor n) e a.0)

    read_name : (x y : Sexp) (shape : Bracket) (q : ℕ) (rest : Lexed) (n : Tally) (r : NameRead text x (closed_by (cons y nil) shape q rest) name) → n.constructors ≡ mark.constructors
        → constructor_of entries p (two x y) n ≡ then_fields y r.name_is (one_constructor n)
    read_name x y shape q rest n r v = opened x y n v ∙ then_made (name_read x (one_constructor n)) (then_fields y) r.name_is (one_constructor n) (name_read_is text _ x name r (one_constructor n))

    pub constructor_stopped : (z : Refused) (now ts' : List TypeNode) (cs' : List Constructor) → OnType text (record { place = name.after; used = mark.types }) ts encode_types (read_type_list (read_type 64)) (Err z) now
        → (x y : Sexp) → OnMarks alone k text mark ts cs (cons x (cons y nil)) (constructor_of entries p (two x y)) (Err z) ts' cs'
    constructor_stopped z now ts' cs' types x y shape q rest n e a u v =
        let r = named x y shape q rest n e a in
        subst (λ o. ToldMark alone k text rest mark ts cs o (Err z) ts' cs') (sym (read_name x y shape q rest n r v))
        (go r.name_is (read_type_list (read_type 64) y (one_constructor n)) (types y (closed_by nil shape q rest) (one_constructor n) r.follows a.1.0 u))
      where
        go : (c : Ident) (o : Outcome TypeExprs) → ToldType text (closed_by nil shape q rest) behind_name ts (encode_types mark.types) o (Err z) now → ToldMark alone k text rest mark ts cs (and_then o (λ us n. made (constructor_at p c us) n)) (Err z) ts' cs'
        go c (refused z') t = let same : z ≡ z' = cc in ap Err same
        go c (made us j) t = absurd t

    module _ (end : Spot) (now : List TypeNode) (types : OnType text (record { place = name.after; used = mark.types }) ts encode_types (read_type_list (read_type 64)) (Ok end) now) where
      pub constructor_open : (z : Refused) (ts' : List TypeNode) (cs' : List Constructor) → NotClosing (lexed_from text end.place) → (x y : Sexp) → OnMarks alone k text mark ts cs (cons x (cons y nil)) (constructor_of entries p (two x y)) (Err z) ts' cs'
      constructor_open z ts' cs' more x y shape q rest n e a u v =
          let r = named x y shape q rest n e a in
          subst (λ o. ToldMark alone k text rest mark ts cs o (Err z) ts' cs') (sym (read_name x y shape q rest n r v))
          (go r.name_is (read_type_list (read_type 64) y (one_constructor n)) (types y (closed_by nil shape q rest) (one_constructor n) r.follows a.1.0 u))
        where
          go : (c : Ident) (o : Outcome TypeExprs) → ToldType text (closed_by nil shape q rest) behind_name ts (encode_types mark.types) o (Ok end) now → ToldMark alone k text rest mark ts cs (and_then o (λ us n. made (constructor_at p c us) n)) (Err z) ts' cs'
          go c (refused z') t = absurd (cc)
          go c (made us j) t = absurd (subst NotClosing t.2 more)

      pub constructor_made : (after : ℕ) (w : Word) (fields : ℕ) → Closes text end.place (Some after) → w ≡ word_at name.place (name.after - name.place)
          → ((s : Sexp) (rest : Lexed) → lexed_from text name.after ≡ stream s rest → Atoms s → fields ≡ listed s)
          → (x y : Sexp) → OnMarks alone k text mark ts cs (cons x (cons y nil)) (constructor_of entries p (two x y)) (Ok (record { place = after; types = end.used; constructors = mark.constructors + 1 })) now (set cs mark.constructors (entry_of p w k mark.types end.used fields))
      constructor_made after w fields closes w_is size x y shape q rest n e a u v =
          let r = named x y shape q rest n e a in
          subst (λ o. ToldMark alone k text rest mark ts cs o (Ok (record { place = after; types = end.used; constructors = mark.constructors + 1 })) now (set cs mark.constructors (entry_of p w k mark.types end.used fields))) (sym (read_name x y shape q rest n r v))
          (go r.name_is (w_is ∙ r.word_is) (size y (closed_by nil shape q rest) r.follows a.1.0) (read_type_list (read_type 64) y (one_constructor n)) refl (keeps_type_list 64 y (one_constructor n)) (types y (closed_by nil shape q rest) (one_constructor n) r.follows a.1.0 u))
        where
          go : (c : Ident) → w ≡ word c → fields ≡ listed y → (o : Outcome TypeExprs) → read_type_list (read_type 64) y (one_constructor n) ≡ o → Keeps (one_constructor n) o → ToldType text (closed_by nil shape q rest) behind_name ts (encode_types mark.types) o (Ok end) now
              → ToldMark alone k text rest mark ts cs (and_then o (λ us n. made (constructor_at p c us) n)) (Ok (record { place = after; types = end.used; constructors = mark.constructors + 1 })) now (set cs mark.constructors (entry_of p w k mark.types end.used fields))
          go c is many (refused z') h keeps t = absurd (cc)
          go c is many (made us j) h keeps t =
              let l = left_none nil shape q rest closes.0 closes.1.1.0 closes.1.0 (lexed_from text after) (sym t.2 ∙ closes.1.1.1.follows) tt in
              let kept = keeps.constructors in
              let t0 = t.0 in
              let t1 = t.1 in
              let long = length_types mark.types us in
              let past : end.used ≡ mark.types + types_count us = omega arith in
              let count : fields ≡ types_length us = many ∙ list_counted (read_type 64) y (one_constructor n) j us h in
              let same : entry_of p w k mark.types end.used fields ≡ constructor_entry k mark.types (constructor_at p c us) =
              ap (λ x. entry_of p x k mark.types end.used fields) is ∙ ap (λ x. entry_of p (word c) k mark.types x fields) past ∙ ap (entry_of p (word c) k mark.types (mark.types + types_count us)) count in (
                t0,
                omega arith,
                omega arith,
                refl,
                l.1,
                t.3 ∙ ap (puts ts mark.types) (sym (append-nil (encode_types mark.types us))),
                ap (set cs mark.constructors) same,
              )

-- A list of two parts.
module _ (text : List ℕ) (mark : Mark) (ts : List TypeNode) (cs : List Constructor) (k entries : ℕ) where
  pair_reads : (s : Sexp) (n : Tally) → read_constructor entries s n ≡ constructor_of entries (place s) (pair_of s) n
  pair_reads (atom j p w) n = refl
  pair_reads (list shape p ss q) n = refl

  pub constructor_read : (o : Opened) (r : Result Mark Refused) (ts' : List TypeNode) (cs' : List Constructor) → ((s : Sexp) (rest : Lexed) → lexed_from text mark.place ≡ stream s rest → Atoms s → Pair text rest s o)
      → ((x y : Sexp) → OnMarks alone k text (record { place = o.inside; types = mark.types; constructors = mark.constructors }) ts cs (cons x (cons y nil)) (constructor_of entries o.place (two x y)) r ts' cs')
      → OnMark alone k text mark ts cs (read_constructor entries) r ts' cs'
  constructor_read o r ts' cs' pairs told s rest n e a u v =
      let pair = pairs s rest e a in
      subst (λ o. ToldMark alone k text rest mark ts cs o r ts' cs') (sym (pair_made (constructor_of entries) (read_constructor entries) pair_reads text rest s n o pair))
      (again (constructor_of entries o.place (two pair.first pair.second) n) r (told pair.first pair.second pair.shape pair.end rest n pair.follows pair.atoms u v))
    where
      again : (c : Outcome tree.Constructor) (r : Result Mark Refused) → ToldMark alone k text rest (record { place = o.inside; types = mark.types; constructors = mark.constructors }) ts cs c r ts' cs' → ToldMark alone k text rest mark ts cs c r ts' cs'
      again (refused x) r t = t
      again (made c m) (Ok end) t = t
      again (made c m) (Err x) t = t

-- Constructor definitions in a list.
abbrev pub OnRow : List ℕ → ℕ → ℕ → Mark → List TypeNode → List Constructor → Result Mark Refused → List TypeNode → List Constructor → Type 0
OnRow text k entries at ts cs r ts' cs' = (ss : Sexps) → OnMarks all k text at ts cs ss (read_constructors entries ss) r ts' cs'

module _ (text : List ℕ) (k entries : ℕ) (at : Mark) (ts : List TypeNode) (cs : List Constructor) where
  pub row_end : (after : ℕ) → Closes text at.place (Some after) → OnRow text k entries at ts cs (Ok (record { place = after; types = at.types; constructors = at.constructors })) ts cs
  row_end after c ss shape q rest n e a u v =
      let l = left_none ss shape q rest c.0 c.1.1.0 c.1.0 (lexed_from text after) (sym e ∙ c.1.1.1.follows) a in
      subst (λ ss. ToldMark all k text rest at ts cs (read_constructors entries ss n) (Ok (record { place = after; types = at.types; constructors = at.constructors })) ts cs) (sym l.0)
      (sym u, sym (add-zero at.types), sym v, sym (add-zero at.constructors), l.1, refl, refl)

  module _ (more : NotClosing (lexed_from text at.place)) where
    pub row_stop : (z : Refused) (now ts' : List TypeNode) (cs' now' : List Constructor) → OnMark alone k text at ts cs (read_constructor entries) (Err z) now now' → OnRow text k entries at ts cs (Err z) ts' cs'
    row_stop z now ts' cs' now' told ss shape q rest n e a u v =
        let l = left_some ss shape q rest (subst NotClosing e more) in
        let s = l.0 in
        let left = l.1.0 in
        let atoms = subst AllAtoms l.1.1 a in
        subst (λ ss. ToldMark all k text rest at ts cs (read_constructors entries ss n) (Err z) ts' cs') (sym l.1.1)
        (go s left (read_constructor entries s n) (told s (closed_by left shape q rest) n (e ∙ ap (λ ss. closed_by ss shape q rest) l.1.1) atoms.0 u v))
      where
        go : (s : Sexp) (left : Sexps) (o : Outcome tree.Constructor) → ToldMark alone k text (closed_by left shape q rest) at ts cs o (Err z) now now'
            → ToldMark all k text rest at ts cs (and_then o (λ c n. and_then (read_constructors entries left n) (λ xs n. made (c ∷ xs) n))) (Err z) ts' cs'
        go s left (refused z') t = t
        go s left (made c m) t = absurd t

    pub row_next : (end : Mark) (now : List TypeNode) (now' : List Constructor) → OnMark alone k text at ts cs (read_constructor entries) (Ok end) now now' → (r : Result Mark Refused) (ts' : List TypeNode) (cs' : List Constructor)
        → OnRow text k entries end now now' r ts' cs' → OnRow text k entries at ts cs r ts' cs'
    row_next end now now' told r ts' cs' others ss shape q rest n e a u v =
        let l = left_some ss shape q rest (subst NotClosing e more) in
        let s = l.0 in
        let left = l.1.0 in
        let atoms = subst AllAtoms l.1.1 a in
        subst (λ ss. ToldMark all k text rest at ts cs (read_constructors entries ss n) r ts' cs') (sym l.1.1)
        (go left (read_constructor entries s n) (told s (closed_by left shape q rest) n (e ∙ ap (λ ss. closed_by ss shape q rest) l.1.1) atoms.0 u v) (λ m f h i. others left shape q rest m f atoms.1 h i))
      where
        both : (c : tree.Constructor) (m : Tally) (o : Outcome (List tree.Constructor)) (r : Result Mark Refused) → end.types ≡ at.types + fields_count (c ∷ []) → end.constructors ≡ at.constructors + 1
            → now ≡ puts ts at.types (field_types at.types (c ∷ [])) → now' ≡ puts cs at.constructors (constructor_entries k at.types (c ∷ []))
            → ToldMark all k text rest end now now' o r ts' cs' → ToldMark all k text rest at ts cs (and_then o (λ xs n. made (c ∷ xs) n)) r ts' cs'
        both c m (refused z) r p q f g t = t
        both c m (made xs j) (Err z) p q f g t = absurd t
        both c m (made xs j) (Ok last) p q f g t =
            let t1 = t.1 in
            let t3 = t.3 in
            let here = encode_types at.types c.fields in
            let long : length here ≡ types_count c.fields = length_types at.types c.fields in
            let next : end.types ≡ at.types + types_count c.fields = omega arith in
            let seam : end.types ≡ at.types + length here = omega arith in (
              t.0,
              omega arith,
              t.2,
              omega arith,
              t.4,
              t.5 ∙ ap (λ x. puts x end.types (field_types end.types xs)) (f ∙ ap (puts ts at.types) (append-nil here)) ∙ ap (λ j. puts (puts ts at.types here) end.types (field_types j xs)) next ∙ ap (λ j. puts (puts ts at.types here) j (field_types (at.types + types_count c.fields) xs)) seam ∙ sym (puts-++ ts at.types here (field_types (at.types + types_count c.fields) xs)),
              t.6 ∙ ap (λ x. puts x end.constructors (constructor_entries k end.types xs)) g ∙ ap (λ j. puts (set cs at.constructors (constructor_entry k at.types c)) j (constructor_entries k end.types xs)) q ∙ ap (λ j. puts (set cs at.constructors (constructor_entry k at.types c)) (at.constructors + 1) (constructor_entries k j xs)) next,
            )

        go : (left : Sexps) (o : Outcome tree.Constructor) → ToldMark alone k text (closed_by left shape q rest) at ts cs o (Ok end) now now'
            → ((m : Tally) → lexed_from text end.place ≡ closed_by left shape q rest → m.types ≡ end.types → m.constructors ≡ end.constructors → ToldMark all k text rest end now now' (read_constructors entries left m) r ts' cs')
            → ToldMark all k text rest at ts cs (and_then o (λ c n. and_then (read_constructors entries left n) (λ xs n. made (c ∷ xs) n))) r ts' cs'
        go left (refused z) t h = absurd (cc)
        go left (made c m) t h = both c m (read_constructors entries left m) r t.1 t.3 t.5 t.6 (h m t.4 (sym t.0) (sym t.2))

-- In the middle of such a list: what is told of the rest is told of the whole.
abbrev pub CarriesMarks : List ℕ → ℕ → Mark → List TypeNode → List Constructor → Mark → List TypeNode → List Constructor → Type 0
CarriesMarks text k from ts cs at now now' = (entries : ℕ) (r : Result Mark Refused) (ts' : List TypeNode) (cs' : List Constructor) → OnRow text k entries at now now' r ts' cs' → OnRow text k entries from ts cs r ts' cs'

pub constructors_list : (text : List ℕ) (mark : Mark) (ts : List TypeNode) (cs : List Constructor) (k entries : ℕ) (b : Bracket) (w : List ℕ) (p inside : ℕ) (seen : Seen text mark.place (kind.Open b) w p inside) (r : Result Mark Refused) (ts' : List TypeNode) (cs' : List Constructor)
    → OnRow text k entries (record { place = inside; types = mark.types; constructors = mark.constructors }) ts cs r ts' cs' → OnMark all k text mark ts cs (read_constructor_list entries) r ts' cs'
constructors_list text mark ts cs k entries b w p inside seen r ts' cs' told s rest n e a u v =
    let l = is_list b p w (lexed_from text inside) s rest a (sym seen.follows ∙ e) in
    subst (λ s. ToldMark all k text rest mark ts cs (read_constructor_list entries s n) r ts' cs') (sym l.is)
    (again (read_constructors entries l.parts n) r (told l.parts l.shape l.end rest n l.inside l.atoms u v))
  where
    again : (o : Outcome (List tree.Constructor)) (r : Result Mark Refused) → ToldMark all k text rest (record { place = inside; types = mark.types; constructors = mark.constructors }) ts cs o r ts' cs' → ToldMark all k text rest mark ts cs o r ts' cs'
    again (refused x) r t = t
    again (made xs m) (Ok end) t = t
    again (made xs m) (Err x) t = t
