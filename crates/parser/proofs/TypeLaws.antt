-- What each reader of types tells, by what the readers that it calls tell.
use Rattle.std.proofs.Common.{◌≡◌, ℕ, zero, suc, ◌+◌, ◌-◌, ◌<◌, ◌≤◌, min, Bool, true, false, cond, eqb, ltb, List, ◌∷◌, ◌++◌, length, set, Some, None, Ok, Err, Option, Result, sym, refl, ap, ◌∙◌, subst, add-zero, arith, le-ltb, lt-ltb, ne_eqb}
use Rattle.std.proofs.lemmas.Bool.{cond-true, cond-false}
use Rattle.text.specs.Grammar.{NoBracket}
use Rattle.text.specs.Scans.{refused_at}
use Rattle.text.specs.Tokens.{Lexed, lexed_from}
use Rattle.text.specs.declared.bracket.Bracket.{Bracket}
use Rattle.text.specs.declared.keyword.Keyword.{Keyword}
use Rattle.text.specs.declared.keyword.Keyword.TheVariants as keyword
use Rattle.text.specs.declared.refusal.Refused.{Refused}
use Rattle.text.specs.declared.refusal.Refusal.TheVariants as refusal
use Rattle.text.specs.declared.token.TokenKind.{TokenKind}
use Rattle.text.specs.declared.token.TokenKind.TheVariants as kind
use Rattle.grammar.specs.Forms.{is_key, kind_head, Two, two, not_two, two_of, arrowed, arrow_of}
use Rattle.grammar.specs.Limits.{type_count, types_count}
use Rattle.forms.specs.Looks.{Seen, NotClosing, Closes, Behind}
use Rattle.grammar.specs.Reading.{Tally, Outcome, refused, made, and_then, wrong, over_limit, count_type, atom_type, type_atom, is_two, type_shaped, read_types, read_type_list, read_arrow, read_type}
use Rattle.forms.specs.Rows.{closed_by}
use Rattle.grammar.specs.Sexps.{Sexp, atom, list, Sexps, nil, cons, place, AllAtoms}
use Rattle.grammar.specs.Streams.{stream, count, first_head}
use Rattle.forms.specs.Surveys.{surveyed}
use Rattle.grammar.specs.Trees.{TypeExpr, function_type_rule, TypeExprs, and_type}
use Rattle.layout.specs.TypeEncoding.{node_of_type, encode_type, encode_types}
use Rattle.parser.specs.TypeParts.{claimed_type, arrow_head, over_many, Seventh, ToldType, OnType, OnTypeList, OnTypes}
use Rattle.forms.specs.declared.spot.Spot.{Spot}
use Rattle.forms.specs.declared.survey.Survey.{Survey}
use Rattle.layout.specs.declared.type_node.TypeNode.{TypeNode}
use Rattle.layout.specs.declared.type_node.TypeForm.TheVariants as form
use Rattle.layout.proofs.Sizes.{length_type, length_types}
use Rattle.forms.proofs.FormLaws.{at_most_six}
use Rattle.forms.proofs.LookLaws.{is_atom, is_list}
use Rattle.forms.proofs.RowLaws.{left_none, left_some}
use Rattle.forms.proofs.SurveyLaws.{survey_list}
use Rattle.forms.proofs.ToldLaws.{told_join, told_stop, told_before, told_refused, told_map, told_spot}

-- the tally's count of type expressions
abbrev counted : Tally → ℕ
counted n = n.types

-- One type expression more.
abbrev one_type : Tally → Tally
one_type n = record { nodes = n.nodes; types = n.types + 1; bindings = n.bindings; datatypes = n.datatypes; constructors = n.constructors }

granted : {A : Type 0} (used p m : ℕ) (n : Tally) (next : Tally → Outcome A) → n.types ≡ used → claimed_type used p ≡ Ok m → (m ≡ used + 1) × (count_type p n next ≡ next (one_type n))
granted {A} used p m n next e h = go (ltb used 512) refl h
  where
    go : (b : Bool) → ltb used 512 ≡ b → ◌≡◌ {A = Result ℕ Refused} (cond b (Ok (used + 1)) (Err (refused_at refusal.Limit p))) (Ok m) → (m ≡ used + 1) × (count_type p n next ≡ next (one_type n))
    go true t h = (cc, (let t' : ltb n.types 512 ≡ true = ap (λ u. ltb u 512) e ∙ t in rw t' refl))
    go false t h = absurd (cc)

-- A function type has a word at its head, and two parts behind it.
data View : Sexps → Bool → Two → Type 0 where
  an_arrow : {k : TokenKind} {p : ℕ} {w : List ℕ} {ps t : Sexp} → View (cons (atom k p w) (cons ps (cons t nil))) true (two ps t)
  no_arrow : {ss : Sexps} → View ss false not_two

view : (ss : Sexps) → View ss (arrow_head (first_head ss) (count ss)) (arrow_of ss)
view nil = no_arrow
view (cons (list r p ss q) es) = no_arrow
view (cons (atom k p w) es) = headed (kind_head k)
  where
    parts : (es : Sexps) → View (cons (atom k p w) es) (eqb (suc (count es)) 3) (two_of es)
    parts nil = no_arrow
    parts (cons a nil) = no_arrow
    parts (cons a (cons b nil)) = an_arrow
    parts (cons a (cons b (cons c es))) = rw (ne_eqb (suc (suc (suc (suc (count es))))) 3 (λ z. omega arith)) no_arrow

    by : (b : Bool) → View (cons (atom k p w) es) (cond b (eqb (suc (count es)) 3) false) (cond b (two_of es) not_two)
    by true = parts es
    by false = no_arrow

    headed : (h : Option Keyword) → View (cons (atom k p w) es) (arrow_head h (suc (count es))) (arrowed h es)
    headed None = no_arrow
    headed (Some key) = by (is_key key keyword.Arrow)

-- a number of parts, where seven stands for more, serves as well
arrow_capped : (h : Option Keyword) (n : ℕ) → arrow_head h (min 7 n) ≡ arrow_head h n
arrow_capped None n = refl
arrow_capped (Some k) n = ap (λ b. cond (is_key k keyword.Arrow) b false) (at_most_six n 3 (omega arith))

view_of : (text : List ℕ) (inside : ℕ) (seen : Survey) (b : Bool) (ss : Sexps) (shape : Bracket) (q : ℕ) (rest : Lexed) → seen ≡ surveyed (lexed_from text inside) → b ≡ arrow_head seen.head seen.parts
    → lexed_from text inside ≡ closed_by ss shape q rest → AllAtoms ss → View ss b (arrow_of ss)
view_of text inside seen b ss shape q rest s is e a =
    subst (λ b. View ss b (arrow_of ss)) (sym (is ∙ ap (λ s. arrow_head s.head s.parts) (s ∙ ap surveyed e ∙ survey_list ss shape q rest a) ∙ arrow_capped (first_head ss) (count ss))) (view ss)

view_two : (ss : Sexps) (b : Bool) (t : Two) → View ss b t → is_two t ≡ b
view_two _ _ _ an_arrow = refl
view_two _ _ _ no_arrow = refl

view_false : (ss : Sexps) (b : Bool) (t : Two) → b ≡ false → View ss b t → t ≡ not_two
view_false _ _ _ e an_arrow = absurd (cc)
view_false _ _ _ e no_arrow = refl

-- The seventh part of a list.
shaped : (s : Sexp) (b : Bool) → type_shaped s ≡ b → (x : Refused) → x ≡ refused_at (cond b refusal.Limit refusal.Form) (place s) → x ≡ over_many s
shaped s b h x is = is ∙ sym (ap (λ b. refused_at (cond b refusal.Limit refusal.Form) (place s)) h)

pub seventh_list : (text : List ℕ) (at : ℕ) (k : Bracket) (w : List ℕ) (p inside : ℕ) (survey : Survey) (b : Bool) (x : Refused) → Seen text at (kind.Open k) w p inside → survey ≡ surveyed (lexed_from text inside)
    → b ≡ arrow_head survey.head survey.parts → x ≡ refused_at (cond b refusal.Limit refusal.Form) p → Seventh text at x
seventh_list text at k w p inside survey b x seen surveyed_is b_is is s rest e a =
    let l = is_list k p w (lexed_from text inside) s rest a (sym seen.follows ∙ e) in
    let v = view_of text inside survey b l.parts l.shape l.end rest surveyed_is b_is l.inside l.atoms in
    subst (λ s. x ≡ over_many s) (sym l.is) (shaped (list l.shape p l.parts l.end) b (view_two l.parts b (arrow_of l.parts) v) x is)

too_many : (s : Sexp) → ◌≡◌ {A = Outcome TypeExprs} (cond (type_shaped s) (over_limit (place s)) (wrong (place s))) (refused (over_many s))
too_many s = go (type_shaped s)
  where
    go : (b : Bool) → ◌≡◌ {A = Outcome TypeExprs} (cond b (over_limit (place s)) (wrong (place s))) (refused (refused_at (cond b refusal.Limit refusal.Form) (place s)))
    go true = refl
    go false = refl

-- Types in a list, behind so many.
module _ (text : List ℕ) (read : Sexp → Tally → Outcome TypeExpr) (at : Spot) (now : List TypeNode) (k : ℕ) where
  pub types_end : (after : ℕ) → Closes text at.place (Some after) → OnTypes text at now encode_types (read_types read k) (Ok (record { place = after; used = at.used })) now
  types_end after c ss shape q rest n e a u =
      let l = left_none ss shape q rest c.0 c.1.1.0 c.1.0 (lexed_from text after) (sym e ∙ c.1.1.1.follows) a in
      subst (λ ss. ToldType text rest at now (encode_types at.used) (read_types read k ss n) (Ok (record { place = after; used = at.used })) now) (sym l.0) (sym u, u ∙ sym (add-zero at.used), l.1, refl)

  module _ (more : NotClosing (lexed_from text at.place)) where
    pub types_next : k < 6 → (end : Spot) (then : List TypeNode) → OnType text at now encode_type read (Ok end) then
        → (r : Result Spot Refused) (after : List TypeNode) → OnTypes text end then encode_types (read_types read (k + 1)) r after → OnTypes text at now encode_types (read_types read k) r after
    types_next few end then first r after others ss shape q rest n e a u =
        let l = left_some ss shape q rest (subst NotClosing e more) in
        let s = l.0 in
        let left = l.1.0 in
        let atoms = subst AllAtoms l.1.1 a in
        subst (λ o. ToldType text rest at now (encode_types at.used) o r after) (sym (ap (λ ss. read_types read k ss n) l.1.1 ∙ cond-true (ltb k 6) _ _ (lt-ltb k 6 few)))
        (told_join counted text (closed_by left shape q rest) rest at end now then after encode_type encode_types (encode_types at.used) and_type (read s n) (read_types read (k + 1) left) r
        (λ t ts. ap (λ j. encode_type at.used t ++ encode_types (at.used + j) ts) (length_type at.used t))
        (first s (closed_by left shape q rest) n (e ∙ ap (λ ss. closed_by ss shape q rest) l.1.1) atoms.0 u) (λ m used follows. others left shape q rest m follows atoms.1 used))

    pub types_stop : k < 6 → (x : Refused) (then : List TypeNode) → OnType text at now encode_type read (Err x) then → OnTypes text at now encode_types (read_types read k) (Err x) then
    types_stop few x then first ss shape q rest n e a u =
        let l = left_some ss shape q rest (subst NotClosing e more) in
        let s = l.0 in
        let left = l.1.0 in
        let atoms = subst AllAtoms l.1.1 a in
        subst (λ o. ToldType text rest at now (encode_types at.used) o (Err x) then) (sym (ap (λ ss. read_types read k ss n) l.1.1 ∙ cond-true (ltb k 6) _ _ (lt-ltb k 6 few)))
        (told_stop counted text (closed_by left shape q rest) rest at now then encode_type (λ t n. and_then (read_types read (k + 1) left n) (λ ts n. made (and_type t ts) n)) (encode_types at.used) (read s n) x
        (first s (closed_by left shape q rest) n (e ∙ ap (λ ss. closed_by ss shape q rest) l.1.1) atoms.0 u))

    pub types_seventh : 6 ≤ k → (x : Refused) (then : List TypeNode) → Seventh text at.place x → OnTypes text at now encode_types (read_types read k) (Err x) then
    types_seventh many x then seventh ss shape q rest n e a u =
        let l = left_some ss shape q rest (subst NotClosing e more) in
        let s = l.0 in
        let left = l.1.0 in
        let atoms = subst AllAtoms l.1.1 a in
        let is = seventh s (closed_by left shape q rest) (e ∙ ap (λ ss. closed_by ss shape q rest) l.1.1) atoms.0 in
        subst (λ o. ToldType text rest at now (encode_types at.used) o (Err x) then) (sym (ap (λ ss. read_types read k ss n) l.1.1 ∙ cond-false (ltb k 6) _ _ (le-ltb k 6 many) ∙ too_many s)) (ap Err is)

-- In the middle of such a list: what is told of the rest is told of the whole.
abbrev pub Carries : List ℕ → ℕ → Spot → List TypeNode → Spot → List TypeNode → ℕ → Type 0
Carries text depth from ts at now k = (r : Result Spot Refused) (after : List TypeNode) → OnTypes text at now encode_types (read_types (read_type depth) k) r after → OnTypes text from ts encode_types (read_types (read_type depth) 0) r after

-- A list of types in brackets.
pub list_open : (text : List ℕ) (spot : Spot) (ts : List TypeNode) (read : Sexp → Tally → Outcome TypeExpr) (k : Bracket) (w : List ℕ) (p inside : ℕ) (r : Result Spot Refused) (after : List TypeNode) → Seen text spot.place (kind.Open k) w p inside
    → OnTypes text (record { place = inside; used = spot.used }) ts encode_types (read_types read 0) r after → OnType text spot ts encode_types (read_type_list read) r after
list_open text spot ts read k w p inside r after seen told s rest n e a u =
    let l = is_list k p w (lexed_from text inside) s rest a (sym seen.follows ∙ e) in
    subst (λ s. ToldType text rest spot ts (encode_types spot.used) (read_type_list read s n) r after) (sym l.is)
    (told_spot counted text rest (record { place = inside; used = spot.used }) spot ts (encode_types spot.used) (read_types read 0 l.parts n) r after refl
    (told l.parts l.shape l.end rest n l.inside l.atoms u))

-- The closing bracket behind the last part, or none.
told_close : {A : Type 0} (text : List ℕ) (shape : Bracket) (q : ℕ) (rest : Lexed) (spot end : Spot) (ts now : List TypeNode) (f : A → List TypeNode) (o : Outcome A) (after : ℕ) → Closes text end.place (Some after)
    → ToldType text (closed_by nil shape q rest) spot ts f o (Ok end) now → ToldType text rest spot ts f o (Ok (record { place = after; used = end.used })) now
told_close text shape q rest spot end ts now f (refused x) after c t = absurd (cc)
told_close text shape q rest spot end ts now f (made a n) after c t =
    let l = left_none nil shape q rest c.0 c.1.1.0 c.1.0 (lexed_from text after) (sym t.2 ∙ c.1.1.1.follows) tt in
    (t.0, t.1, l.1, t.3)

told_open : {A : Type 0} (text : List ℕ) (shape : Bracket) (q : ℕ) (rest : Lexed) (spot end : Spot) (ts now : List TypeNode) (f : A → List TypeNode) (o : Outcome A) → NotClosing (lexed_from text end.place)
    → ToldType text (closed_by nil shape q rest) spot ts f o (Ok end) now → ⊥
told_open text shape q rest spot end ts now f (refused x) more t = cc
told_open text shape q rest spot end ts now f (made a n) more t = absurd (subst NotClosing t.2 more)

-- Two things made one after another, as a pair first.
pair_then : {A B C : Type 0} (make : A → B → C) (o : Outcome A) (next : Tally → Outcome B)
    → and_then {A = A × B} (and_then o (λ a m. and_then (next m) (λ b m. made (a, b) m))) (λ x m. made (make x.0 x.1) m) ≡ and_then o (λ a m. and_then (next m) (λ b m. made (make a b) m))
pair_then make (refused x) next = refl
pair_then {A} {B} {C} make (made a m) next = go (next m)
  where
    go : (p : Outcome B) → and_then {A = A × B} (and_then p (λ b m. made (a, b) m)) (λ x m. made (make x.0 x.1) m) ≡ and_then p (λ b m. made (make a b) m)
    go (refused x) = refl
    go (made b k) = refl

-- A function type, from the list of its parameter types on.
module _ (text : List ℕ) (spot : Spot) (ts : List TypeNode) (p : ℕ) (read : Sexp → Tally → Outcome TypeExpr) where
  abbrev then_type : Sexp → TypeExprs → Tally → Outcome TypeExpr
  then_type t xs n = and_then (read t n) (λ x n. made (function_type_rule p xs x) n)

  module _ (m : ℕ) (c : claimed_type spot.used p ≡ Ok m) where
    abbrev begin : Spot
    begin = record { place = spot.place; used = m }

    -- the two parts as a pair
    abbrev Pair : Type 0
    Pair = TypeExprs × TypeExpr

    abbrev lies : ℕ → Pair → List TypeNode
    lies i x = encode_types i x.0 ++ encode_type (i + length (encode_types i x.0)) x.1

    abbrev pairs : Sexp → Sexp → Tally → Outcome Pair
    pairs ps t n = and_then (read_type_list read ps n) (λ xs n. and_then (read t n) (λ x n. made (xs, x) n))

    claimed : (ps t : Sexp) (rest : Lexed) (n : Tally) (r : Result Spot Refused) (now : List TypeNode) → n.types ≡ spot.used
        → ((one_type n).types ≡ m → m ≡ spot.used + 1 → ToldType text rest spot ts (encode_type spot.used) (and_then (read_type_list read ps (one_type n)) (then_type t)) r now)
        → ToldType text rest spot ts (encode_type spot.used) (read_arrow read p (two ps t) n) r now
    claimed ps t rest n r now u h =
        let g = granted spot.used p m n (λ n. and_then (read_type_list read ps n) (then_type t)) u c in
        let m_is = g.0 in
        subst (λ o. ToldType text rest spot ts (encode_type spot.used) o r now) (sym g.1) (h (omega arith) m_is)

    pub arrow_stopped : (x : Refused) (now : List TypeNode) → OnType text (record { place = spot.place; used = m }) ts encode_types (read_type_list read) (Err x) now
        → (ps t : Sexp) → OnTypeList text spot ts encode_type (cons ps (cons t nil)) (read_arrow read p (two ps t)) (Err x) now
    arrow_stopped x now first ps t shape q rest n e a u = claimed ps t rest n (Err x) now u (λ v w.
        told_refused counted text rest rest begin spot ts ts now now (encode_type m) (encode_type spot.used) (and_then (read_type_list read ps (one_type n)) (then_type t)) x
        (told_stop counted text (closed_by (cons t nil) shape q rest) rest begin ts now encode_types (then_type t) (encode_type m) (read_type_list read ps (one_type n)) x (first ps (closed_by (cons t nil) shape q rest) (one_type n) e a.0 v)))

    module _ (middle : Spot) (now after : List TypeNode) (first : OnType text (record { place = spot.place; used = m }) ts encode_types (read_type_list read) (Ok middle) now) where
      told_pair : (r : Result Spot Refused) → OnType text middle now encode_type read r after → (ps t : Sexp) (shape : Bracket) (q : ℕ) (rest : Lexed) (n : Tally)
          → lexed_from text spot.place ≡ closed_by (cons ps (cons t nil)) shape q rest → AllAtoms (cons ps (cons t nil)) → n.types ≡ m
          → ToldType text (closed_by nil shape q rest) begin ts (lies m) (pairs ps t n) r after
      told_pair r result ps t shape q rest n e a v =
          told_join counted text (closed_by (cons t nil) shape q rest) (closed_by nil shape q rest) begin middle ts now after encode_types encode_type (lies m) (λ xs x. (xs, x)) (read_type_list read ps n) (read t) r (λ xs x. refl)
          (first ps (closed_by (cons t nil) shape q rest) n e a.0 v) (λ k used follows. result t (closed_by nil shape q rest) k follows a.1.0 used)

      under_is : (x : Pair) → node_of_type form.Function p (spot.used + 1 + length (lies (spot.used + 1) x)) ∷ lies (spot.used + 1) x ≡ encode_type spot.used (function_type_rule p x.0 x.1)
      under_is x =
          let i = spot.used in
          let parts : lies (i + 1) x ≡ encode_types (i + 1) x.0 ++ encode_type (i + 1 + types_count x.0) x.1 = ap (λ k. encode_types (i + 1) x.0 ++ encode_type (i + 1 + k) x.1) (length_types (i + 1) x.0) in
          let whole = length_type i (function_type_rule p x.0 x.1) in
          let past : i + 1 + length (encode_types (i + 1) x.0 ++ encode_type (i + 1 + types_count x.0) x.1) ≡ i + type_count (function_type_rule p x.0 x.1) = omega arith in
          ap (λ (zs : List TypeNode). node_of_type form.Function p (i + 1 + length zs) ∷ zs) parts ∙ ap (λ j. node_of_type form.Function p j ∷ (encode_types (i + 1) x.0 ++ encode_type (i + 1 + types_count x.0) x.1)) past

      pub arrow_made : (end : Spot) (behind : ℕ) → OnType text middle now encode_type read (Ok end) after → Closes text end.place (Some behind)
          → (ps t : Sexp) → OnTypeList text spot ts encode_type (cons ps (cons t nil)) (read_arrow read p (two ps t)) (Ok (record { place = behind; used = end.used })) (set after spot.used (node_of_type form.Function p end.used))
      arrow_made end behind result closes ps t shape q rest n e a u = claimed ps t rest n (Ok (record { place = behind; used = end.used })) (set after spot.used (node_of_type form.Function p end.used)) u (λ v w.
          told_close text shape q rest spot end ts (set after spot.used (node_of_type form.Function p end.used)) (encode_type spot.used) (and_then (read_type_list read ps (one_type n)) (then_type t)) behind closes
          (subst (λ o. ToldType text (closed_by nil shape q rest) spot ts (encode_type spot.used) o (Ok end) (set after spot.used (node_of_type form.Function p end.used))) (pair_then (function_type_rule p) (read_type_list read ps (one_type n)) (read t))
          (told_map counted text (closed_by nil shape q rest) spot ts (λ x. node_of_type form.Function p (spot.used + 1 + length (lies (spot.used + 1) x)) ∷ lies (spot.used + 1) x) (encode_type spot.used) (λ x. function_type_rule p x.0 x.1) (pairs ps t (one_type n)) (Ok end) (set after spot.used (node_of_type form.Function p end.used)) under_is
          (told_before counted text (closed_by nil shape q rest) spot begin end ts after lies (pairs ps t (one_type n)) (node_of_type form.Function p) w (told_pair (Ok end) result ps t shape q rest (one_type n) e a v)))))

      pub arrow_open : (end : Spot) (x : Refused) (then : List TypeNode) → OnType text middle now encode_type read (Ok end) after → NotClosing (lexed_from text end.place)
          → (ps t : Sexp) → OnTypeList text spot ts encode_type (cons ps (cons t nil)) (read_arrow read p (two ps t)) (Err x) then
      arrow_open end x then result more ps t shape q rest n e a u = claimed ps t rest n (Err x) then u (λ v w.
          absurd (told_open text shape q rest begin end ts after (lies m) (pairs ps t (one_type n)) more (told_pair (Ok end) result ps t shape q rest (one_type n) e a v)))

      pub arrow_refused : (x : Refused) → OnType text middle now encode_type read (Err x) after
          → (ps t : Sexp) → OnTypeList text spot ts encode_type (cons ps (cons t nil)) (read_arrow read p (two ps t)) (Err x) after
      arrow_refused x result ps t shape q rest n e a u = claimed ps t rest n (Err x) after u (λ v w.
          subst (λ o. ToldType text rest spot ts (encode_type spot.used) o (Err x) after) (pair_then (function_type_rule p) (read_type_list read ps (one_type n)) (read t))
          (told_refused counted text rest rest begin spot ts ts after after (encode_type m) (encode_type spot.used) (and_then (pairs ps t (one_type n)) (λ x m. made (function_type_rule p x.0 x.1) m)) x
          (told_stop counted text (closed_by nil shape q rest) rest begin ts after lies (λ x m. made (function_type_rule p x.0 x.1) m) (encode_type m) (pairs ps t (one_type n)) x (told_pair (Err x) result ps t shape q rest (one_type n) e a v))))

-- A type, by what stands next.
pub type_atom_law : (text : List ℕ) (spot : Spot) (ts : List TypeNode) (depth : ℕ) (s : Sexp) (rest : Lexed) (n : Tally) → lexed_from text spot.place ≡ stream s rest
    → (k : TokenKind) (w : List ℕ) (p after : ℕ) (r : Result Spot Refused) (now : List TypeNode) → Seen text spot.place k w p after → NoBracket k
    → ToldType text (lexed_from text after) (record { place = p; used = spot.used }) ts (encode_type spot.used) (type_atom p (atom_type k p w) n) r now
    → ToldType text rest spot ts (encode_type spot.used) (read_type depth s n) r now
type_atom_law text spot ts depth s rest n e k w p after r now seen b t =
    let is = is_atom k p w (lexed_from text after) s rest b (sym seen.follows ∙ e) in
    subst (λ s. ToldType text rest spot ts (encode_type spot.used) (read_type depth s n) r now) (sym is.0)
    (subst (λ l. ToldType text l spot ts (encode_type spot.used) (type_atom p (atom_type k p w) n) r now) is.1
    (told_spot counted text (lexed_from text after) (record { place = p; used = spot.used }) spot ts (encode_type spot.used) (type_atom p (atom_type k p w) n) r now refl t))

type_depth : (d : ℕ) (shape : Bracket) (p : ℕ) (ss : Sexps) (q : ℕ) (n : Tally) → 0 < d → read_type d (list shape p ss q) n ≡ read_arrow (read_type (d - 1)) p (arrow_of ss) n
type_depth zero shape p ss q n h = absurd (omega arith)
type_depth (suc d) shape p ss q n h = let same : d ≡ suc d - 1 = omega arith in ap (λ j. read_arrow (read_type j) p (arrow_of ss) n) same

module _ (text : List ℕ) (spot : Spot) (ts : List TypeNode) (k : Bracket) (w : List ℕ) (p inside : ℕ) (seen : Seen text spot.place (kind.Open k) w p inside) (depth : ℕ) where
  module _ (survey : Survey) (b : Bool) (surveyed_is : survey ≡ surveyed (lexed_from text inside)) (b_is : b ≡ arrow_head survey.head survey.parts) (deep : 0 < depth) where
    pub type_wrong : (x : Refused) (now : List TypeNode) → b ≡ false → x ≡ refused_at refusal.Form p → OnType text spot ts encode_type (read_type depth) (Err x) now
    type_wrong x now is_b is_x s rest n e a u =
        let l = is_list k p w (lexed_from text inside) s rest a (sym seen.follows ∙ e) in
        let v = view_of text inside survey b l.parts l.shape l.end rest surveyed_is b_is l.inside l.atoms in
        subst (λ o. ToldType text rest spot ts (encode_type spot.used) o (Err x) now)
        (sym (ap (λ s. read_type depth s n) l.is ∙ type_depth depth l.shape p l.parts l.end n deep ∙ ap (λ t. read_arrow (read_type (depth - 1)) p t n) (view_false l.parts b (arrow_of l.parts) is_b v))) (ap Err is_x)

    pub type_arrow : (after : ℕ) (r : Result Spot Refused) (now : List TypeNode) → b ≡ true → Behind text inside after
        → ((ps t : Sexp) → OnTypeList text (record { place = after; used = spot.used }) ts encode_type (cons ps (cons t nil)) (read_arrow (read_type (depth - 1)) p (two ps t)) r now)
        → OnType text spot ts encode_type (read_type depth) r now
    type_arrow after r now is_b skip told s rest n e a u =
        let l = is_list k p w (lexed_from text inside) s rest a (sym seen.follows ∙ e) in
        let v = view_of text inside survey b l.parts l.shape l.end rest surveyed_is b_is l.inside l.atoms in
        subst (λ o. ToldType text rest spot ts (encode_type spot.used) o r now) (sym (ap (λ s. read_type depth s n) l.is ∙ type_depth depth l.shape p l.parts l.end n deep))
        (go l.shape l.end l.parts b (arrow_of l.parts) v is_b l.inside l.atoms)
      where
        go : (shape : Bracket) (q : ℕ) (ss : Sexps) (b : Bool) (t : Two) → View ss b t → b ≡ true → lexed_from text inside ≡ closed_by ss shape q rest → AllAtoms ss
            → ToldType text rest spot ts (encode_type spot.used) (read_arrow (read_type (depth - 1)) p t n) r now
        go shape q _ _ _ no_arrow is_b e a = absurd (cc)
        go shape q _ _ _ (an_arrow {ps = ps} {t = t}) is_b e a =
            told_spot counted text rest (record { place = after; used = spot.used }) spot ts (encode_type spot.used) (read_arrow (read_type (depth - 1)) p (two ps t) n) r now refl
            (told ps t shape q rest n (skip.2 _ _ e) a.1 u)
