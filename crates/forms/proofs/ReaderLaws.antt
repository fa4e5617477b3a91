-- What each reader tells, by what the readers that it calls tell.
use Rattle.std.proofs.Common.{◌≡◌, ℕ, zero, suc, ◌+◌, ◌-◌, ◌<◌, Bool, true, false, cond, ltb, List, [], ◌∷◌, length, set, Some, None, Ok, Err, Option, Result, sym, refl, ap, ◌∙◌, subst, arith}
use Rattle.std.proofs.lemmas.Bool.{cond_both}
use Rattle.std.proofs.lemmas.List.{append-nil}
use Rattle.text.specs.Grammar.{NoBracket}
use Rattle.text.specs.Scans.{refused_at}
use Rattle.text.specs.Tokens.{Lexed, lexed_from}
use Rattle.text.specs.declared.bracket.Bracket.{Bracket}
use Rattle.text.specs.declared.keyword.Keyword.TheVariants as keyword
use Rattle.text.specs.declared.refusal.Refused.{Refused}
use Rattle.text.specs.declared.refusal.Refusal.TheVariants as refusal
use Rattle.text.specs.declared.token.TokenKind.{TokenKind}
use Rattle.text.specs.declared.token.TokenKind.TheVariants as kind
use Rattle.forms.specs.Atoms.{claimed}
use Rattle.layout.specs.Words.{word_at, word}
use Rattle.layout.specs.Encoding.{node, pattern_place}
use Rattle.forms.specs.Drafts.{encode}
use Rattle.grammar.specs.Forms.{is_key, Two, two, Form, let_form_rule, case_form_rule, dup_form_rule, form_named}
use Rattle.forms.specs.Kinds.{form_kind}
use Rattle.forms.specs.Looks.{Seen, NotClosing, Closes, Named, Behind}
use Rattle.forms.specs.Pairs.{Pair, pair_of}
use Rattle.forms.specs.Parts.{under, encode_binding, encode_branch, OnPart, OnList, OnEach, read_row, reading_at}
use Rattle.forms.specs.Patterns.{Patterned}
use Rattle.forms.specs.Progress.{Told}
use Rattle.grammar.specs.Reading.{Tally, Outcome, refused, made, and_then, count_node, Binding, Branch, expr_atom, atom_expr, name_read, read_part, read_parts, read_pattern, read_bindings, read_binding_list, read_branches, read_expr, read_form, binding_of, read_binding, branch_of, read_branch}
use Rattle.forms.specs.Rows.{closed_by, read_each, encode_each, Along}
use Rattle.grammar.specs.Sexps.{Sexp, atom, list, Sexps, nil, cons, place, Atoms, AllAtoms}
use Rattle.grammar.specs.Streams.{stream, count, first_head}
use Rattle.forms.specs.Surveys.{surveyed}
use Rattle.grammar.specs.Trees.{Ident, Expr, Pattern, dup_expr, let_expr, case_expr, Bindings}
use Rattle.forms.specs.declared.form.FormKind.{FormKind}
use Rattle.forms.specs.declared.form.FormKind.TheVariants as formkind
use Rattle.forms.specs.declared.names.NameAt.{NameAt}
use Rattle.layout.specs.declared.node.Node.{Node}
use Rattle.layout.specs.declared.node.NodeForm.{NodeForm}
use Rattle.layout.specs.declared.node.NodeForm.TheVariants as form
use Rattle.forms.specs.declared.patterns.PatternAt.{PatternAt}
use Rattle.forms.specs.declared.sight.Opened.{Opened}
use Rattle.forms.specs.declared.spot.Spot.{Spot}
use Rattle.forms.proofs.AtomLaws.{one_node, granted}
use Rattle.forms.proofs.FormLaws.{View, is_if, is_begin, is_let, is_case, is_dup, is_apply, is_wrong, kind_capped, view}
use Rattle.forms.proofs.LookLaws.{is_atom, is_list}
use Rattle.forms.proofs.PairLaws.{pair_made}
use Rattle.forms.proofs.PartLaws.{Alike, both_refused, both_made, alike_count, told_alike, both, told_then, told_under, if_alike, begin_alike, apply_alike, let_alike, case_alike}
use Rattle.forms.proofs.RowLaws.{left_none, left_some, along_start, along_end, along_part, along_next, along_refused}
use Rattle.forms.proofs.SurveyLaws.{survey_list}
use Rattle.forms.proofs.ToldLaws.{told_stop, told_refused, told_map, told_spot}

-- A loop over the parts of a list.
module _ {A : Type 0} (read : Sexp → Tally → Outcome A) (encoding : ℕ → A → List Node) where
  abbrev pub Halfway : List ℕ → Spot → List Node → Spot → List Node → Type 0
  Halfway text from ns at now = (ss : Sexps) (shape : Bracket) (q : ℕ) (rest : Lexed) (n : Tally) → lexed_from text from.place ≡ closed_by ss shape q rest → AllAtoms ss → n.nodes ≡ from.used
      → Along read encoding text from ns ss shape q rest n at now

  module _ (text : List ℕ) (from : Spot) (ns : List Node) where
    pub half_start : Halfway text from ns from ns
    half_start ss shape q rest n e a u = along_start read encoding text from ns ss shape q rest n e a u

    module _ (at : Spot) (now : List Node) (half : Halfway text from ns at now) where
      pub half_end : (after : ℕ) → Closes text at.place (Some after) → OnEach text from ns (encode_each encoding) (read_each read) (Ok (record { place = after; used = at.used })) now
      half_end after c ss shape q rest n e a u = along_end read encoding text from ns ss shape q rest n at now (half ss shape q rest n e a u) c.0 c.1.0 c.1.1.0 after c.1.1.1

      pub half_next : NotClosing (lexed_from text at.place) → (end : Spot) (then : List Node) → OnPart text at now encoding read (Ok end) then → Halfway text from ns end then
      half_next c end then told ss shape q rest n e a u =
          let s = half ss shape q rest n e a u in
          let l = left_some s.left shape q rest (subst NotClosing s.follows c) in
          along_next read encoding text from ns ss shape q rest n at now s l.0 l.1.0 l.1.1 end then (read l.0 s.tally) refl
          (told l.0 (closed_by l.1.0 shape q rest) s.tally (along_part read encoding text from ns ss shape q rest n at now s l.0 l.1.0 l.1.1) (subst AllAtoms l.1.1 s.atoms).0 s.used)

      pub half_refused : NotClosing (lexed_from text at.place) → (x : Refused) (then : List Node) → OnPart text at now encoding read (Err x) then → OnEach text from ns (encode_each encoding) (read_each read) (Err x) then
      half_refused c x then told ss shape q rest n e a u =
          let s = half ss shape q rest n e a u in
          let l = left_some s.left shape q rest (subst NotClosing s.follows c) in
          along_refused read encoding text from ns ss shape q rest n at now s l.0 l.1.0 l.1.1 x then (read l.0 s.tally) refl
          (told l.0 (closed_by l.1.0 shape q rest) s.tally (along_part read encoding text from ns ss shape q rest n at now s l.0 l.1.0 l.1.1) (subst AllAtoms l.1.1 s.atoms).0 s.used)

-- One expression in front of the closing bracket.
one_alike : (read : Sexp → Tally → Outcome Expr) (i : ℕ) (e : Sexp) (n : Tally) → Alike (λ (xs : List Expr) (y : Expr). encode_each encode i xs ≡ encode i y) (read_each read (cons e nil) n) (read e n)
one_alike read i e n = go (read e n)
  where
    go : (o : Outcome Expr) → Alike (λ (xs : List Expr) (y : Expr). encode_each encode i xs ≡ encode i y) (and_then o (λ y n. made (y ∷ []) n)) o
    go (refused x) = both_refused
    go (made y m) = both_made (append-nil (encode i y))

-- A node that is claimed, before what it holds.
module _ (text : List ℕ) (spot : Spot) (ns : List Node) (entries p : ℕ) where
  pub claim_granted : {A : Type 0} (f : A → List Node) (rest : Lexed) (n : Tally) (next : Tally → Outcome A) (m : ℕ) (r : Result Spot Refused) (now : List Node) → n.nodes ≡ spot.used → claimed spot.used entries p ≡ Ok m
      → ((one_node n).nodes ≡ m → m ≡ spot.used + 1 → Told text rest spot ns f (next (one_node n)) r now) → Told text rest spot ns f (count_node entries p n next) r now
  claim_granted f rest n next m r now u c h =
      let g = granted entries spot.used p m n next u c in
      let m_is = g.0 in
      subst (λ o. Told text rest spot ns f o r now) (sym g.1) (h (omega arith) m_is)

  -- a row
  pub row_made : (f : NodeForm) (read : Sexp → Tally → Outcome Expr) (m : ℕ) (end : Spot) (now : List Node) → claimed spot.used entries p ≡ Ok m
      → OnEach text (record { place = spot.place; used = m }) ns (encode_each encode) (read_each read) (Ok end) now
      → OnEach text spot ns (under f p (encode_each encode)) (read_row entries p read) (Ok end) (set now spot.used (node f p end.used))
  row_made f read m end now c told ss shape q rest n e a u =
      claim_granted (under f p (encode_each encode) spot.used) rest n (read_each read ss) m (Ok end) _ u c (λ v w.
      told_under text rest spot (record { place = spot.place; used = m }) end ns now (encode_each encode) (read_each read ss (one_node n)) f p w (told ss shape q rest (one_node n) e a v))

  pub row_refused : (f : NodeForm) (read : Sexp → Tally → Outcome Expr) (m : ℕ) (x : Refused) (now : List Node) → claimed spot.used entries p ≡ Ok m
      → OnEach text (record { place = spot.place; used = m }) ns (encode_each encode) (read_each read) (Err x) now
      → OnEach text spot ns (under f p (encode_each encode)) (read_row entries p read) (Err x) now
  row_refused f read m x now c told ss shape q rest n e a u =
      claim_granted (under f p (encode_each encode) spot.used) rest n (read_each read ss) m (Err x) now u c (λ v w.
      told_refused (λ n. n.nodes) text rest rest (record { place = spot.place; used = m }) spot ns ns now now (encode_each encode m) (under f p (encode_each encode) spot.used) (read_each read ss (one_node n)) x (told ss shape q rest (one_node n) e a v))

alike_weaken : {A B : Type 0} {R S : A → B → Type 0} {o : Outcome A} {p : Outcome B} → ((a : A) (b : B) → R a b → S a b) → Alike R o p → Alike S o p
alike_weaken h both_refused = both_refused
alike_weaken h (both_made r) = both_made (h _ _ r)

-- A list by its form.
abbrev wordy : Option FormKind → Bool
wordy (Some formkind.If) = true
wordy (Some formkind.Begin) = true
wordy (Some formkind.Let) = true
wordy (Some formkind.Case) = true
wordy (Some formkind.Dup) = true
wordy (Some formkind.Apply) = false
wordy None = false

-- a form other than an application has a reserved word at its head
head_behind : (text : List ℕ) (place inside : ℕ) (h : Sexp) (es : Sexps) (shape : Bracket) (q : ℕ) (rest : Lexed) → Behind text place inside → lexed_from text place ≡ closed_by (cons h es) shape q rest
    → wordy (form_kind (first_head (cons h es)) (count (cons h es))) ≡ true → lexed_from text inside ≡ closed_by es shape q rest
head_behind text place inside (atom k p w) es shape q rest b e t = b.2 _ _ e
head_behind text place inside (list r p ss q') es shape q rest b e t = absurd (go (ltb 0 (suc (count es))) t)
  where
    go : (b : Bool) → wordy (cond b (Some formkind.Apply) None) ≡ true → ⊥
    go true t = cc
    go false t = cc

module _ (text : List ℕ) (spot : Spot) (ns : List Node) (entries depth p : ℕ) (r : Result Spot Refused) (after : List Node) (f : Option FormKind) (is_kind : f ≡ form_kind (surveyed (lexed_from text spot.place)).head (surveyed (lexed_from text spot.place)).parts) where
  kind_is : (ss : Sexps) (shape : Bracket) (q : ℕ) (rest : Lexed) → lexed_from text spot.place ≡ closed_by ss shape q rest → AllAtoms ss → f ≡ form_kind (first_head ss) (count ss)
  kind_is ss shape q rest e a = is_kind ∙ ap (λ l. form_kind (surveyed l).head (surveyed l).parts) e ∙ ap (λ s. form_kind s.head s.parts) (survey_list ss shape q rest a) ∙ kind_capped (first_head ss) (count ss)

  pub by_view : ((ss : Sexps) (g : Form) → View ss f g → f ≡ form_kind (first_head ss) (count ss) → OnList text spot ns encode ss (reading_at entries depth p g) r after) → OnEach text spot ns encode (λ ss. reading_at entries depth p (form_named ss)) r after
  by_view h ss shape q rest n e a u =
      let k = kind_is ss shape q rest e a in
      h ss (form_named ss) (subst (λ k. View ss k (form_named ss)) (sym k) (view ss)) k shape q rest n e a u

-- Each form, from what is told of its parts behind the reserved word.
module _ (text : List ℕ) (spot : Spot) (ns : List Node) (entries depth p inside : ℕ) (r : Result Spot Refused) (after : List Node) (skip : Behind text spot.place inside) where
  pub on_if : OnEach text (record { place = inside; used = spot.used }) ns (under form.If p (encode_each encode)) (read_row entries p (read_expr entries depth)) r after
      → (ss : Sexps) (g : Form) → View ss (Some formkind.If) g → Some formkind.If ≡ form_kind (first_head ss) (count ss) → OnList text spot ns encode ss (reading_at entries depth p g) r after
  on_if told _ _ (is_if {h = h} {a = x} {b = y} {c = z}) k shape q rest n e a u =
      told_alike text rest spot ns r after (alike_count entries p n _ _ (λ m. alike_weaken (λ xs e h. h spot.used) (if_alike entries (read_expr entries depth) p x y z m)))
      (told_spot (λ n. n.nodes) text rest (record { place = inside; used = spot.used }) spot ns (under form.If p (encode_each encode) spot.used) (read_row entries p (read_expr entries depth) (cons x (cons y (cons z nil))) n) r after refl
      (told (cons x (cons y (cons z nil))) shape q rest n (head_behind text spot.place inside h (cons x (cons y (cons z nil))) shape q rest skip e (sym (ap wordy k))) a.1 u))

  pub on_begin : OnEach text (record { place = inside; used = spot.used }) ns (under form.Begin p (encode_each encode)) (read_row entries p (read_expr entries depth)) r after
      → (ss : Sexps) (g : Form) → View ss (Some formkind.Begin) g → Some formkind.Begin ≡ form_kind (first_head ss) (count ss) → OnList text spot ns encode ss (reading_at entries depth p g) r after
  on_begin told _ _ (is_begin {h = h} {e = x} {es = es}) k shape q rest n e a u =
      told_alike text rest spot ns r after (alike_count entries p n _ _ (λ m. alike_weaken (λ xs e h. h spot.used) (begin_alike entries (read_expr entries depth) p x es m)))
      (told_spot (λ n. n.nodes) text rest (record { place = inside; used = spot.used }) spot ns (under form.Begin p (encode_each encode) spot.used) (read_row entries p (read_expr entries depth) (cons x es) n) r after refl
      (told (cons x es) shape q rest n (head_behind text spot.place inside h (cons x es) shape q rest skip e (sym (ap wordy k))) a.1 u))

  pub on_let : ((bs e : Sexp) → OnList text (record { place = inside; used = spot.used }) ns encode (cons bs (cons e nil)) (reading_at entries depth p (let_form_rule bs e)) r after)
      → (ss : Sexps) (g : Form) → View ss (Some formkind.Let) g → Some formkind.Let ≡ form_kind (first_head ss) (count ss) → OnList text spot ns encode ss (reading_at entries depth p g) r after
  on_let told _ _ (is_let {h = h} {bs = x} {e = y}) k shape q rest n e a u =
      told_spot (λ n. n.nodes) text rest (record { place = inside; used = spot.used }) spot ns _ _ r after refl
      (told x y shape q rest n (head_behind text spot.place inside h (cons x (cons y nil)) shape q rest skip e (sym (ap wordy k))) a.1 u)

  pub on_case : ((e b : Sexp) (bs : Sexps) → OnList text (record { place = inside; used = spot.used }) ns encode (cons e (cons b bs)) (reading_at entries depth p (case_form_rule e b bs)) r after)
      → (ss : Sexps) (g : Form) → View ss (Some formkind.Case) g → Some formkind.Case ≡ form_kind (first_head ss) (count ss) → OnList text spot ns encode ss (reading_at entries depth p g) r after
  on_case told _ _ (is_case {h = h} {e = x} {b = y} {bs = zs}) k shape q rest n e a u =
      told_spot (λ n. n.nodes) text rest (record { place = inside; used = spot.used }) spot ns _ _ r after refl
      (told x y zs shape q rest n (head_behind text spot.place inside h (cons x (cons y zs)) shape q rest skip e (sym (ap wordy k))) a.1 u)

  pub on_dup : ((d : ℕ) (x : Sexp) → OnList text (record { place = inside; used = spot.used }) ns encode (cons x nil) (reading_at entries d p (dup_form_rule x)) r after)
      → (ss : Sexps) (g : Form) → View ss (Some formkind.Dup) g → Some formkind.Dup ≡ form_kind (first_head ss) (count ss) → OnList text spot ns encode ss (reading_at entries depth p g) r after
  on_dup told _ _ (is_dup {h = h} {x = x}) k shape q rest n e a u =
      told_spot (λ n. n.nodes) text rest (record { place = inside; used = spot.used }) spot ns _ _ r after refl
      (told depth x shape q rest n (head_behind text spot.place inside h (cons x nil) shape q rest skip e (sym (ap wordy k))) a.1 u)

  pub on_apply : OnEach text spot ns (under form.Apply p (encode_each encode)) (read_row entries p (read_expr entries depth)) r after
      → (ss : Sexps) (g : Form) → View ss (Some formkind.Apply) g → Some formkind.Apply ≡ form_kind (first_head ss) (count ss) → OnList text spot ns encode ss (reading_at entries depth p g) r after
  on_apply told _ _ (is_apply {e = x} {es = es}) k shape q rest n e a u =
      told_alike text rest spot ns r after (alike_count entries p n _ _ (λ m. alike_weaken (λ xs e h. h spot.used) (apply_alike entries (read_expr entries depth) p x es m)))
      (told (cons x es) shape q rest n e a u)

  pub on_wrong : r ≡ Err (refused_at refusal.Form p)
      → (ss : Sexps) (g : Form) → View ss None g → None ≡ form_kind (first_head ss) (count ss) → OnList text spot ns encode ss (reading_at entries depth p g) r after
  on_wrong is_r _ _ is_wrong k shape q rest n e a u = is_r

-- An expression, by what stands next.
pub expr_atom_law : (text : List ℕ) (spot : Spot) (ns : List Node) (entries depth : ℕ) (s : Sexp) (rest : Lexed) (n : Tally) → lexed_from text spot.place ≡ stream s rest
    → (k : TokenKind) (w : List ℕ) (p after : ℕ) (r : Result Spot Refused) (now : List Node) → Seen text spot.place k w p after → NoBracket k
    → Told text (lexed_from text after) (record { place = p; used = spot.used }) ns (encode spot.used) (expr_atom entries p (atom_expr entries k p w) n) r now
    → Told text rest spot ns (encode spot.used) (read_expr entries depth s n) r now
expr_atom_law text spot ns entries depth s rest n e k w p after r now seen b t =
    let is = is_atom k p w (lexed_from text after) s rest b (sym seen.follows ∙ e) in
    subst (λ s. Told text rest spot ns (encode spot.used) (read_expr entries depth s n) r now) (sym is.0)
    (subst (λ l. Told text l spot ns (encode spot.used) (expr_atom entries p (atom_expr entries k p w) n) r now) is.1
    (told_spot (λ n. n.nodes) text (lexed_from text after) (record { place = p; used = spot.used }) spot ns (encode spot.used) (expr_atom entries p (atom_expr entries k p w) n) r now refl t))

expr_depth : (entries d : ℕ) (shape : Bracket) (p : ℕ) (ss : Sexps) (q : ℕ) (n : Tally) → 0 < d → read_expr entries d (list shape p ss q) n ≡ reading_at entries (d - 1) p (form_named ss) n
expr_depth entries zero shape p ss q n h = absurd (omega arith)
expr_depth entries (suc d) shape p ss q n h = let same : d ≡ suc d - 1 = omega arith in ap (λ j. reading_at entries j p (form_named ss) n) same

module _ (text : List ℕ) (spot : Spot) (ns : List Node) (k : Bracket) (w : List ℕ) (p inside : ℕ) (seen : Seen text spot.place (kind.Open k) w p inside) where
  pub expr_list : (entries depth : ℕ) (r : Result Spot Refused) (now : List Node) → 0 < depth
      → OnEach text (record { place = inside; used = spot.used }) ns encode (λ ss. reading_at entries (depth - 1) p (form_named ss)) r now → OnPart text spot ns encode (read_expr entries depth) r now
  expr_list entries depth r now d told s rest n e a u =
      let l = is_list k p w (lexed_from text inside) s rest a (sym seen.follows ∙ e) in
      subst (λ o. Told text rest spot ns (encode spot.used) o r now) (sym (ap (λ s. read_expr entries depth s n) l.is ∙ expr_depth entries depth l.shape p l.parts l.end n d))
      (told_spot (λ n. n.nodes) text rest (record { place = inside; used = spot.used }) spot ns (encode spot.used) (reading_at entries (depth - 1) p (form_named l.parts) n) r now refl
      (told l.parts l.shape l.end rest n l.inside l.atoms u))

-- A list of two parts.
module _ {A : Type 0} (text : List ℕ) (spot : Spot) (ns : List Node) (encoding : ℕ → A → List Node) (of : ℕ → Two → Tally → Outcome A) (read : Sexp → Tally → Outcome A) (reads : (s : Sexp) (n : Tally) → read s n ≡ of (place s) (pair_of s) n) where
  pub on_pair : (o : Opened) (r : Result Spot Refused) (now : List Node) → ((s : Sexp) (rest : Lexed) → lexed_from text spot.place ≡ stream s rest → Atoms s → Pair text rest s o)
      → ((x e : Sexp) → OnList text (record { place = o.inside; used = spot.used }) ns encoding (cons x (cons e nil)) (of o.place (two x e)) r now) → OnPart text spot ns encoding read r now
  on_pair o r now pairs told s rest n e a u =
      let pair = pairs s rest e a in
      subst (λ o. Told text rest spot ns (encoding spot.used) o r now) (sym (pair_made of read reads text rest s n o pair))
      (told_spot (λ n. n.nodes) text rest (record { place = o.inside; used = spot.used }) spot ns (encoding spot.used) (of o.place (two pair.first pair.second) n) r now refl
      (told pair.first pair.second pair.shape pair.end rest n pair.follows pair.atoms u))

module _ (entries : ℕ) (read : Sexp → Tally → Outcome Expr) where
  pub pair_binding : (s : Sexp) (n : Tally) → read_binding entries read s n ≡ binding_of entries read (place s) (pair_of s) n
  pair_binding (atom k p w) n = refl
  pair_binding (list shape p ss q) n = refl

  pub pair_branch : (s : Sexp) (n : Tally) → read_branch entries read s n ≡ branch_of entries read (place s) (pair_of s) n
  pair_branch (atom k p w) n = refl
  pair_branch (list shape p ss q) n = refl

-- Names and patterns use nothing of the limits.
abbrev pub Keeps : {A : Type 0} → Tally → Outcome A → Type 0
Keeps n (refused x) = Unit {0}
Keeps n (made a m) = m ≡ n

pub keeps_then : {A B : Type 0} (n : Tally) (o : Outcome A) (f : A → Tally → Outcome B) → Keeps n o → ((a : A) → Keeps n (f a n)) → Keeps n (and_then o f)
keeps_then n (refused x) f k h = tt
keeps_then n (made a m) f k h = subst (λ m. Keeps n (f a m)) (sym k) (h a)

pub keeps_name : (s : Sexp) (n : Tally) → Keeps n (name_read s n)
keeps_name (list shape p ss q) n = tt
keeps_name (atom kind.Name p w) n = refl
keeps_name (atom (kind.Open r) p w) n = tt
keeps_name (atom (kind.Close r) p w) n = tt
keeps_name (atom kind.Symbol p w) n = tt
keeps_name (atom (kind.Integer z) p w) n = tt
keeps_name (atom (kind.Keyword k) p w) n = tt

keeps_part : (s : Sexp) (n : Tally) → Keeps n (read_part s n)
keeps_part (list shape p ss q) n = tt
keeps_part (atom kind.Name p w) n = refl
keeps_part (atom (kind.Open r) p w) n = tt
keeps_part (atom (kind.Close r) p w) n = tt
keeps_part (atom kind.Symbol p w) n = tt
keeps_part (atom (kind.Integer z) p w) n = tt
keeps_part (atom (kind.Keyword k) p w) n = cond_both (is_key k keyword.Wildcard) _ _ (Keeps n) (λ t. refl) (λ f. tt)

keeps_parts : (ss : Sexps) (n : Tally) → Keeps n (read_parts ss n)
keeps_parts nil n = refl
keeps_parts (cons s ss) n = keeps_then n (read_part s n) _ (keeps_part s n) (λ x. keeps_then n (read_parts ss n) _ (keeps_parts ss n) (λ xs. refl))

keeps_pattern : (s : Sexp) (n : Tally) → Keeps n (read_pattern s n)
keeps_pattern (list shape p nil q) n = tt
keeps_pattern (list shape p (cons s ss) q) n = keeps_then n (name_read s n) _ (keeps_name s n) (λ c. keeps_then n (read_parts ss n) _ (keeps_parts ss n) (λ xs. refl))
keeps_pattern (atom kind.Name p w) n = tt
keeps_pattern (atom (kind.Open r) p w) n = tt
keeps_pattern (atom (kind.Close r) p w) n = tt
keeps_pattern (atom kind.Symbol p w) n = tt
keeps_pattern (atom (kind.Integer z) p w) n = tt
keeps_pattern (atom (kind.Keyword k) p w) n = cond_both (is_key k keyword.Wildcard) _ _ (Keeps n) (λ t. refl) (λ f. tt)

-- A binding or a branch: a name or a pattern, and then one expression.
module _ (text : List ℕ) (spot : Spot) (ns : List Node) (entries p m : ℕ) (read : Sexp → Tally → Outcome Expr) (c : claimed spot.used entries p ≡ Ok m) where
  module _ {H B : Type 0} (encoding : ℕ → B → List Node) (make : H → Expr → B) (form_of : H → NodeForm) (lies : (i : H) (y : Expr) → under (form_of i) p encode spot.used y ≡ encoding spot.used (make i y))
      (next : ℕ) (e : Sexp) (shape : Bracket) (q : ℕ) (rest : Lexed) (n : Tally) (v : n.nodes ≡ m) (is_m : m ≡ spot.used + 1) (a : AllAtoms (cons e nil)) where
    headed_made : (o : Outcome H) → Keeps n o → (f : NodeForm) (end : Spot) (now : List Node)
        → ((i : H) (k : Tally) → o ≡ made i k → (lexed_from text next ≡ closed_by (cons e nil) shape q rest) × (f ≡ form_of i)) → ((z : Refused) → o ≡ refused z → ⊥)
        → OnEach text (record { place = next; used = m }) ns (encode_each encode) (read_each read) (Ok end) now
        → Told text rest spot ns (encoding spot.used) (and_then o (λ i n. and_then (read e n) (λ y n. made (make i y) n))) (Ok end) (set now spot.used (node f p end.used))
    headed_made (refused z) keeps f end now facts never told = absurd (never z refl)
    headed_made (made i k) keeps f end now facts never told =
        let at : Spot = record { place = next; used = m } in
        let t = facts i k refl in
        let one = told_alike text rest at ns (Ok end) now (one_alike read m e k) (told (cons e nil) shape q rest k t.0 a (ap (λ n. n.nodes) keeps ∙ v)) in
        let two = told_under text rest spot at end ns now encode (read e k) (form_of i) p is_m one in
        let three = told_map (λ n. n.nodes) text rest spot ns (under (form_of i) p encode spot.used) (encoding spot.used) (make i) (read e k) (Ok end) (set now spot.used (node (form_of i) p end.used)) (lies i) two in
        subst (λ f. Told text rest spot ns (encoding spot.used) (and_then (read e k) (λ y n. made (make i y) n)) (Ok end) (set now spot.used (node f p end.used))) (sym t.1) three

    headed_refused : (o : Outcome H) → Keeps n o → (x : Refused) (now : List Node)
        → ((i : H) (k : Tally) → o ≡ made i k → lexed_from text next ≡ closed_by (cons e nil) shape q rest) → ((z : Refused) → o ≡ refused z → ⊥)
        → OnEach text (record { place = next; used = m }) ns (encode_each encode) (read_each read) (Err x) now
        → Told text rest spot ns (encoding spot.used) (and_then o (λ i n. and_then (read e n) (λ y n. made (make i y) n))) (Err x) now
    headed_refused (refused z) keeps x now facts never told = absurd (never z refl)
    headed_refused (made i k) keeps x now facts never told =
        let at : Spot = record { place = next; used = m } in
        let one = told_alike text rest at ns (Err x) now (one_alike read m e k) (told (cons e nil) shape q rest k (facts i k refl) a (ap (λ n. n.nodes) keeps ∙ v)) in
        told_refused (λ n. n.nodes) text rest rest at spot ns ns now now (encoding spot.used) (encoding spot.used) (and_then (read e k) (λ y n. made (make i y) n)) x
        (told_stop (λ n. n.nodes) text rest rest at ns now encode (λ y n. made (make i y) n) (encoding spot.used) (read e k) x one)

  -- bindings
  abbrev Names : Result NameAt Refused → Type 0
  Names r = (s : Sexp) (rest : Lexed) (n : Tally) → lexed_from text spot.place ≡ stream s rest → Atoms s → Named text rest (name_read s n) r

  abbrev then_binding : Sexp → Ident → Tally → Outcome Binding
  then_binding e i n = and_then (read e n) (λ y n. made record { place = p; name = i; expr = y } n)

  abbrev then_branch : Sexp → Pattern → Tally → Outcome Branch
  then_branch e i n = and_then (read e n) (λ y n. made record { place = p; pattern = i; expr = y } n)

  abbrev then_dup : Ident → Tally → Outcome Expr
  then_dup i n = made (dup_expr p i) n

  abbrev then_case : Sexp → Sexps → Expr → Tally → Outcome Expr
  then_case b bs x n = and_then (read_branches entries read b bs n) (λ xs n. made (case_expr p x xs) n)

  abbrev then_let : Sexp → Bindings → Tally → Outcome Expr
  then_let e xs n = and_then (read e n) (λ y n. made (let_expr p xs y) n)

  abbrev binding_form : Ident → NodeForm
  binding_form i = form.Binding (word i)

  no_name : (mid : Lexed) (name : NameAt) (o : Outcome Ident) → Named text mid o (Ok name) → (z : Refused) → o ≡ refused z → ⊥
  no_name mid name (refused y) t z h = cc
  no_name mid name (made i k) t z h = cc

  name_next : (mid : Lexed) (name : NameAt) (o : Outcome Ident) → Named text mid o (Ok name) → (i : Ident) (k : Tally) → o ≡ made i k → Named text mid (made i k) (Ok name)
  name_next mid name o t i k h = subst (λ o. Named text mid o (Ok name)) h t

  pub bound_made : (name : NameAt) (end : Spot) (now : List Node) → Names (Ok name) → OnEach text (record { place = name.after; used = m }) ns (encode_each encode) (read_each read) (Ok end) now
      → (x e : Sexp) → OnList text spot ns encode_binding (cons x (cons e nil)) (binding_of entries read p (two x e)) (Ok end) (set now spot.used (node (form.Binding (word_at name.place (name.after - name.place))) p end.used))
  bound_made name end now names told x e shape q rest n E a u =
      claim_granted text spot ns entries p (encode_binding spot.used) rest n (λ n. and_then (name_read x n) (then_binding e)) m (Ok end) (set now spot.used (node (form.Binding (word_at name.place (name.after - name.place))) p end.used)) u c (λ v w.
      let mid = closed_by (cons e nil) shape q rest in
      let t = names x mid (one_node n) E a.0 in
      headed_made encode_binding (λ i y. record { place = p; name = i; expr = y }) binding_form (λ i y. refl) name.after e shape q rest (one_node n) v w a.1 (name_read x (one_node n)) (keeps_name x (one_node n))
      (form.Binding (word_at name.place (name.after - name.place))) end now
      (λ i k h.
      let g = name_next mid name (name_read x (one_node n)) t i k h in
      let g0 = g.0 in
      let g1 = g.1 in
      let size : name.after - name.place ≡ length i.bytes = omega arith in
      (g.2, ap (λ j. form.Binding (word_at j (name.after - name.place))) g0 ∙ ap (λ j. form.Binding (word_at i.place j)) size))
      (no_name mid name (name_read x (one_node n)) t) told)

  pub bound_refused : (name : NameAt) (y : Refused) (now : List Node) → Names (Ok name) → OnEach text (record { place = name.after; used = m }) ns (encode_each encode) (read_each read) (Err y) now
      → (x e : Sexp) → OnList text spot ns encode_binding (cons x (cons e nil)) (binding_of entries read p (two x e)) (Err y) now
  bound_refused name y now names told x e shape q rest n E a u =
      claim_granted text spot ns entries p (encode_binding spot.used) rest n (λ n. and_then (name_read x n) (then_binding e)) m (Err y) now u c (λ v w.
      let mid = closed_by (cons e nil) shape q rest in
      let t = names x mid (one_node n) E a.0 in
      headed_refused encode_binding (λ i y. record { place = p; name = i; expr = y }) binding_form (λ i y. refl) name.after e shape q rest (one_node n) v w a.1 (name_read x (one_node n)) (keeps_name x (one_node n))
      y now (λ i k h. (name_next mid name (name_read x (one_node n)) t i k h).2) (no_name mid name (name_read x (one_node n)) t) told)

  name_stop : {B : Type 0} (mid rest : Lexed) (f : B → List Node) (g : Ident → Tally → Outcome B) (o : Outcome Ident) (y : Refused) (now : List Node) → Named text mid o (Err y) → Told text rest spot ns f (and_then o g) (Err y) now
  name_stop mid rest f g (refused z) y now t = let h : y ≡ z = cc in ap Err h
  name_stop mid rest f g (made i k) y now t = absurd t

  pub bound_unnamed : (y : Refused) (now : List Node) → Names (Err y) → (x e : Sexp) → OnList text spot ns encode_binding (cons x (cons e nil)) (binding_of entries read p (two x e)) (Err y) now
  bound_unnamed y now names x e shape q rest n E a u =
      claim_granted text spot ns entries p (encode_binding spot.used) rest n (λ n. and_then (name_read x n) (then_binding e)) m (Err y) now u c (λ v w.
      name_stop (closed_by (cons e nil) shape q rest) rest (encode_binding spot.used) (then_binding e) (name_read x (one_node n)) y now (names x (closed_by (cons e nil) shape q rest) (one_node n) E a.0))

  -- branches
  abbrev Patterns : Result PatternAt Refused → Type 0
  Patterns r = (s : Sexp) (rest : Lexed) (n : Tally) → lexed_from text spot.place ≡ stream s rest → Atoms s → Patterned text rest (read_pattern s n) r

  no_pattern : (mid : Lexed) (pattern : PatternAt) (o : Outcome Pattern) → Patterned text mid o (Ok pattern) → (z : Refused) → o ≡ refused z → ⊥
  no_pattern mid pattern (refused y) t z h = cc
  no_pattern mid pattern (made i k) t z h = cc

  pub arm_made : (pattern : PatternAt) (end : Spot) (now : List Node) → Patterns (Ok pattern) → OnEach text (record { place = pattern.after; used = m }) ns (encode_each encode) (read_each read) (Ok end) now
      → (x e : Sexp) → OnList text spot ns encode_branch (cons x (cons e nil)) (branch_of entries read p (two x e)) (Ok end) (set now spot.used (node (form.Branch pattern.place) p end.used))
  arm_made pattern end now patterns told x e shape q rest n E a u =
      claim_granted text spot ns entries p (encode_branch spot.used) rest n (λ n. and_then (read_pattern x n) (then_branch e)) m (Ok end) (set now spot.used (node (form.Branch pattern.place) p end.used)) u c (λ v w.
      let mid = closed_by (cons e nil) shape q rest in
      let t = patterns x mid (one_node n) E a.0 in
      headed_made encode_branch (λ i y. record { place = p; pattern = i; expr = y }) (λ i. form.Branch (pattern_place i)) (λ i y. refl) pattern.after e shape q rest (one_node n) v w a.1 (read_pattern x (one_node n)) (keeps_pattern x (one_node n))
      (form.Branch pattern.place) end now
      (λ i k h. let g = subst (λ o. Patterned text mid o (Ok pattern)) h t in (g.1, ap form.Branch g.0))
      (no_pattern mid pattern (read_pattern x (one_node n)) t) told)

  pub arm_refused : (pattern : PatternAt) (y : Refused) (now : List Node) → Patterns (Ok pattern) → OnEach text (record { place = pattern.after; used = m }) ns (encode_each encode) (read_each read) (Err y) now
      → (x e : Sexp) → OnList text spot ns encode_branch (cons x (cons e nil)) (branch_of entries read p (two x e)) (Err y) now
  arm_refused pattern y now patterns told x e shape q rest n E a u =
      claim_granted text spot ns entries p (encode_branch spot.used) rest n (λ n. and_then (read_pattern x n) (then_branch e)) m (Err y) now u c (λ v w.
      let mid = closed_by (cons e nil) shape q rest in
      let t = patterns x mid (one_node n) E a.0 in
      headed_refused encode_branch (λ i y. record { place = p; pattern = i; expr = y }) (λ i. form.Branch (pattern_place i)) (λ i y. refl) pattern.after e shape q rest (one_node n) v w a.1 (read_pattern x (one_node n)) (keeps_pattern x (one_node n))
      y now (λ i k h. (subst (λ o. Patterned text mid o (Ok pattern)) h t).1) (no_pattern mid pattern (read_pattern x (one_node n)) t) told)

  pattern_stop : {B : Type 0} (mid rest : Lexed) (f : B → List Node) (g : Pattern → Tally → Outcome B) (o : Outcome Pattern) (y : Refused) (now : List Node) → Patterned text mid o (Err y) → Told text rest spot ns f (and_then o g) (Err y) now
  pattern_stop mid rest f g (refused z) y now t = let h : y ≡ z = cc in ap Err h
  pattern_stop mid rest f g (made i k) y now t = absurd t

  pub arm_unmatched : (y : Refused) (now : List Node) → Patterns (Err y) → (x e : Sexp) → OnList text spot ns encode_branch (cons x (cons e nil)) (branch_of entries read p (two x e)) (Err y) now
  arm_unmatched y now patterns x e shape q rest n E a u =
      claim_granted text spot ns entries p (encode_branch spot.used) rest n (λ n. and_then (read_pattern x n) (then_branch e)) m (Err y) now u c (λ v w.
      pattern_stop (closed_by (cons e nil) shape q rest) rest (encode_branch spot.used) (then_branch e) (read_pattern x (one_node n)) y now (patterns x (closed_by (cons e nil) shape q rest) (one_node n) E a.0))

  -- dup
  pub dup_made : (name : NameAt) (after : ℕ) → Names (Ok name) → Closes text name.after (Some after)
      → (x : Sexp) → OnList text spot ns encode (cons x nil) (read_form entries read p (dup_form_rule x)) (Ok (record { place = after; used = m })) (set ns spot.used (node (form.Dup (word_at name.place (name.after - name.place))) p m))
  dup_made name after names closes x shape q rest n E a u =
      claim_granted text spot ns entries p (encode spot.used) rest n (λ n. and_then (name_read x n) then_dup) m (Ok (record { place = after; used = m })) (set ns spot.used (node (form.Dup (word_at name.place (name.after - name.place))) p m)) u c (λ v w.
      go v w (name_read x (one_node n)) (keeps_name x (one_node n)) (names x (closed_by nil shape q rest) (one_node n) E a.0))
    where
      go : (one_node n).nodes ≡ m → m ≡ spot.used + 1 → (o : Outcome Ident) → Keeps (one_node n) o → Named text (closed_by nil shape q rest) o (Ok name)
          → Told text rest spot ns (encode spot.used) (and_then o (λ i n. made (dup_expr p i) n)) (Ok (record { place = after; used = m })) (set ns spot.used (node (form.Dup (word_at name.place (name.after - name.place))) p m))
      go v w (refused z) keeps t = absurd (cc)
      go v w (made i k) keeps t =
          let g0 = t.0 in
          let g1 = t.1 in
          let size : name.after - name.place ≡ length i.bytes = omega arith in
          let k_is : k.nodes ≡ m = ap (λ n. n.nodes) keeps ∙ v in
          let same : form.Dup (word_at name.place (name.after - name.place)) ≡ form.Dup (word i) = ap (λ j. form.Dup (word_at j (name.after - name.place))) g0 ∙ ap (λ j. form.Dup (word_at i.place j)) size in
          let l = left_none nil shape q rest closes.0 closes.1.1.0 closes.1.0 (lexed_from text after) (sym t.2 ∙ closes.1.1.1.follows) tt in
          (sym k_is, k_is ∙ w, l.1, ap (λ f. set ns spot.used (node f p m)) same ∙ ap (λ j. set ns spot.used (node (form.Dup (word i)) p j)) w)

  pub dup_open : (name : NameAt) (y : Refused) (now : List Node) → Names (Ok name) → NotClosing (lexed_from text name.after) → (x : Sexp) → OnList text spot ns encode (cons x nil) (read_form entries read p (dup_form_rule x)) (Err y) now
  dup_open name y now names more x shape q rest n E a u =
      claim_granted text spot ns entries p (encode spot.used) rest n (λ n. and_then (name_read x n) then_dup) m (Err y) now u c (λ v w.
      go (name_read x (one_node n)) (names x (closed_by nil shape q rest) (one_node n) E a.0))
    where
      go : (o : Outcome Ident) → Named text (closed_by nil shape q rest) o (Ok name) → Told text rest spot ns (encode spot.used) (and_then o then_dup) (Err y) now
      go (refused z) t = absurd (cc)
      go (made i k) t = absurd (subst NotClosing t.2 more)

  pub dup_unnamed : (y : Refused) (now : List Node) → Names (Err y) → (x : Sexp) → OnList text spot ns encode (cons x nil) (read_form entries read p (dup_form_rule x)) (Err y) now
  dup_unnamed y now names x shape q rest n E a u =
      claim_granted text spot ns entries p (encode spot.used) rest n (λ n. and_then (name_read x n) then_dup) m (Err y) now u c (λ v w.
      name_stop (closed_by nil shape q rest) rest (encode spot.used) then_dup (name_read x (one_node n)) y now (names x (closed_by nil shape q rest) (one_node n) E a.0))

  -- case
  pub case_made : (middle end : Spot) (now after : List Node) → OnPart text (record { place = spot.place; used = m }) ns encode read (Ok middle) now → OnEach text middle now (encode_each encode_branch) (read_each (read_branch entries read)) (Ok end) after
      → (e b : Sexp) (bs : Sexps) → OnList text spot ns encode (cons e (cons b bs)) (read_form entries read p (case_form_rule e b bs)) (Ok end) (set after spot.used (node form.Case p end.used))
  case_made middle end now after first others e b bs shape q rest n E a u =
      claim_granted text spot ns entries p (encode spot.used) rest n (λ n. and_then (read e n) (then_case b bs)) m (Ok end) (set after spot.used (node form.Case p end.used)) u c (λ v w.
      told_alike text rest spot ns (Ok end) (set after spot.used (node form.Case p end.used)) (alike_weaken (λ x y h. h spot.used) (case_alike entries read p e b bs (one_node n)))
      (told_under text rest spot (record { place = spot.place; used = m }) end ns after (both encode (encode_each encode_branch)) (and_then (read e (one_node n)) (λ x n. and_then (read_each (read_branch entries read) (cons b bs) n) (λ ys n. made (x, ys) n))) form.Case p w
      (told_then text (closed_by (cons b bs) shape q rest) rest (record { place = spot.place; used = m }) middle ns now after encode (encode_each encode_branch) (read e (one_node n)) (read_each (read_branch entries read) (cons b bs)) (Ok end)
      (first e (closed_by (cons b bs) shape q rest) (one_node n) E a.0 v) (λ k used l. others (cons b bs) shape q rest k l a.1 used))))

  pub case_refused : (middle : Spot) (y : Refused) (now after : List Node) → OnPart text (record { place = spot.place; used = m }) ns encode read (Ok middle) now → OnEach text middle now (encode_each encode_branch) (read_each (read_branch entries read)) (Err y) after
      → (e b : Sexp) (bs : Sexps) → OnList text spot ns encode (cons e (cons b bs)) (read_form entries read p (case_form_rule e b bs)) (Err y) after
  case_refused middle y now after first others e b bs shape q rest n E a u =
      claim_granted text spot ns entries p (encode spot.used) rest n (λ n. and_then (read e n) (then_case b bs)) m (Err y) after u c (λ v w.
      told_alike text rest spot ns (Err y) after (alike_weaken (λ x y h. h spot.used) (case_alike entries read p e b bs (one_node n)))
      (told_refused (λ n. n.nodes) text rest rest (record { place = spot.place; used = m }) spot ns ns after after (both encode (encode_each encode_branch) m) (under form.Case p (both encode (encode_each encode_branch)) spot.used) (and_then (read e (one_node n)) (λ x n. and_then (read_each (read_branch entries read) (cons b bs) n) (λ ys n. made (x, ys) n))) y
      (told_then text (closed_by (cons b bs) shape q rest) rest (record { place = spot.place; used = m }) middle ns now after encode (encode_each encode_branch) (read e (one_node n)) (read_each (read_branch entries read) (cons b bs)) (Err y)
      (first e (closed_by (cons b bs) shape q rest) (one_node n) E a.0 v) (λ k used l. others (cons b bs) shape q rest k l a.1 used))))

  pub case_stopped : (y : Refused) (now : List Node) → OnPart text (record { place = spot.place; used = m }) ns encode read (Err y) now
      → (e b : Sexp) (bs : Sexps) → OnList text spot ns encode (cons e (cons b bs)) (read_form entries read p (case_form_rule e b bs)) (Err y) now
  case_stopped y now first e b bs shape q rest n E a u =
      claim_granted text spot ns entries p (encode spot.used) rest n (λ n. and_then (read e n) (then_case b bs)) m (Err y) now u c (λ v w.
      told_refused (λ n. n.nodes) text rest rest (record { place = spot.place; used = m }) spot ns ns now now (encode m) (encode spot.used) (and_then (read e (one_node n)) (then_case b bs)) y
      (told_stop (λ n. n.nodes) text (closed_by (cons b bs) shape q rest) rest (record { place = spot.place; used = m }) ns now encode (then_case b bs) (encode m) (read e (one_node n)) y (first e (closed_by (cons b bs) shape q rest) (one_node n) E a.0 v)))

  -- let
  module _ (k : Bracket) (b : List ℕ) (o inside : ℕ) (seen : Seen text spot.place (kind.Open k) b o inside) where
    abbrev begin : Spot
    begin = record { place = inside; used = m }

    module _ (r : Result Spot Refused) (after : List Node) where
      let_list : (f : Expr → List Node) (bs e : Sexp) (shape : Bracket) (q : ℕ) (rest : Lexed) (n : Tally) → lexed_from text spot.place ≡ closed_by (cons bs (cons e nil)) shape q rest → Atoms bs
          → ((parts : Sexps) (shape' : Bracket) (q' : ℕ) → lexed_from text inside ≡ closed_by parts shape' q' (closed_by (cons e nil) shape q rest) → AllAtoms parts
          → Told text rest spot ns f (and_then (read_bindings entries read parts n) (λ xs n. and_then (read e n) (λ y n. made (let_expr p xs y) n))) r after)
          → Told text rest spot ns f (and_then (read_binding_list entries read bs n) (λ xs n. and_then (read e n) (λ y n. made (let_expr p xs y) n))) r after
      let_list f bs e shape q rest n E a h =
          let l = is_list k o b (lexed_from text inside) bs (closed_by (cons e nil) shape q rest) a (sym seen.follows ∙ E) in
          subst (λ s. Told text rest spot ns f (and_then (read_binding_list entries read s n) (λ xs n. and_then (read e n) (λ y n. made (let_expr p xs y) n))) r after) (sym l.is) (h l.parts l.shape l.end l.inside l.atoms)

    pub let_made : (middle end : Spot) (now after : List Node) → OnEach text (record { place = inside; used = m }) ns (encode_each encode_binding) (read_each (read_binding entries read)) (Ok middle) now → OnEach text middle now (encode_each encode) (read_each read) (Ok end) after
        → (bs e : Sexp) → OnList text spot ns encode (cons bs (cons e nil)) (read_form entries read p (let_form_rule bs e)) (Ok end) (set after spot.used (node form.Let p end.used))
    let_made middle end now after first body bs e shape q rest n E a u =
        claim_granted text spot ns entries p (encode spot.used) rest n (λ n. and_then (read_binding_list entries read bs n) (then_let e)) m (Ok end) (set after spot.used (node form.Let p end.used)) u c (λ v w.
        let_list (Ok end) (set after spot.used (node form.Let p end.used)) (encode spot.used) bs e shape q rest (one_node n) E a.0 (λ parts shape' q' l atoms.
        told_alike text rest spot ns (Ok end) (set after spot.used (node form.Let p end.used)) (alike_weaken (λ x y h. h spot.used) (let_alike entries read p parts e (one_node n)))
        (told_under text rest spot begin end ns after (both (encode_each encode_binding) (encode_each encode)) (and_then (read_each (read_binding entries read) parts (one_node n)) (λ xs n. and_then (read_each read (cons e nil) n) (λ ys n. made (xs, ys) n))) form.Let p w
        (told_then text (closed_by (cons e nil) shape q rest) rest begin middle ns now after (encode_each encode_binding) (encode_each encode) (read_each (read_binding entries read) parts (one_node n)) (read_each read (cons e nil)) (Ok end)
        (first parts shape' q' (closed_by (cons e nil) shape q rest) (one_node n) l atoms v) (λ k used l. body (cons e nil) shape q rest k l a.1 used)))))

    pub let_refused : (middle : Spot) (y : Refused) (now after : List Node) → OnEach text (record { place = inside; used = m }) ns (encode_each encode_binding) (read_each (read_binding entries read)) (Ok middle) now → OnEach text middle now (encode_each encode) (read_each read) (Err y) after
        → (bs e : Sexp) → OnList text spot ns encode (cons bs (cons e nil)) (read_form entries read p (let_form_rule bs e)) (Err y) after
    let_refused middle y now after first body bs e shape q rest n E a u =
        claim_granted text spot ns entries p (encode spot.used) rest n (λ n. and_then (read_binding_list entries read bs n) (then_let e)) m (Err y) after u c (λ v w.
        let_list (Err y) after (encode spot.used) bs e shape q rest (one_node n) E a.0 (λ parts shape' q' l atoms.
        told_alike text rest spot ns (Err y) after (alike_weaken (λ x y h. h spot.used) (let_alike entries read p parts e (one_node n)))
        (told_refused (λ n. n.nodes) text rest rest begin spot ns ns after after (both (encode_each encode_binding) (encode_each encode) m) (under form.Let p (both (encode_each encode_binding) (encode_each encode)) spot.used) (and_then (read_each (read_binding entries read) parts (one_node n)) (λ xs n. and_then (read_each read (cons e nil) n) (λ ys n. made (xs, ys) n))) y
        (told_then text (closed_by (cons e nil) shape q rest) rest begin middle ns now after (encode_each encode_binding) (encode_each encode) (read_each (read_binding entries read) parts (one_node n)) (read_each read (cons e nil)) (Err y)
        (first parts shape' q' (closed_by (cons e nil) shape q rest) (one_node n) l atoms v) (λ k used l. body (cons e nil) shape q rest k l a.1 used)))))

    pub let_stopped : (y : Refused) (now : List Node) → OnEach text (record { place = inside; used = m }) ns (encode_each encode_binding) (read_each (read_binding entries read)) (Err y) now
        → (bs e : Sexp) → OnList text spot ns encode (cons bs (cons e nil)) (read_form entries read p (let_form_rule bs e)) (Err y) now
    let_stopped y now first bs e shape q rest n E a u =
        claim_granted text spot ns entries p (encode spot.used) rest n (λ n. and_then (read_binding_list entries read bs n) (then_let e)) m (Err y) now u c (λ v w.
        let_list (Err y) now (encode spot.used) bs e shape q rest (one_node n) E a.0 (λ parts shape' q' l atoms.
        told_alike text rest spot ns (Err y) now (alike_weaken (λ x y h. h spot.used) (let_alike entries read p parts e (one_node n)))
        (told_refused (λ n. n.nodes) text rest rest begin spot ns ns now now (λ x. []) (under form.Let p (both (encode_each encode_binding) (encode_each encode)) spot.used) (and_then (read_each (read_binding entries read) parts (one_node n)) (λ xs n. and_then (read_each read (cons e nil) n) (λ ys n. made (xs, ys) n))) y
        (told_stop (λ n. n.nodes) text (closed_by (cons e nil) shape q rest) rest begin ns now (encode_each encode_binding) (λ xs n. and_then (read_each read (cons e nil) n) (λ ys n. made (xs, ys) n)) (λ x. []) (read_each (read_binding entries read) parts (one_node n)) y
        (first parts shape' q' (closed_by (cons e nil) shape q rest) (one_node n) l atoms v)))))
