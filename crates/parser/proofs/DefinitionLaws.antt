-- What each reader of definitions tells, by what the readers that it calls tell.
use Rattle.std.proofs.Common.{◌≡◌, ℕ, ◌+◌, ◌-◌, ◌<◌, ltb, List, map, length, set, Some, Ok, Err, sym, refl, ap, ◌∙◌, subst, arith, lt-ltb}
use Rattle.std.proofs.lemmas.Bool.{cond-true}
use Rattle.text.specs.Tokens.{Lexed, lexed_from}
use Rattle.text.specs.declared.bracket.Bracket.{Bracket}
use Rattle.text.specs.declared.refusal.Refused.{Refused}
use Rattle.grammar.specs.Forms.{datatype_form_rule, annotation_form_rule, define_form_rule, val_form_rule}
use Rattle.grammar.specs.Reading.{Tally, Outcome, refused, made, and_then, count_binding, count_datatype, name_read, read_type, read_expr, read_constructor_list, read_parameter_list, read_definition_form}
use Rattle.grammar.specs.Sexps.{Sexp, Sexps, nil, cons, AllAtoms}
use Rattle.grammar.specs.Trees as tree
use Rattle.grammar.specs.Trees.{Ident, TypeExpr, Expr, val_binding, function_definition, type_annotation, datatype_definition}
use Rattle.layout.specs.Tabling.{after}
use Rattle.layout.specs.TypeEncoding.{encode_type}
use Rattle.layout.specs.Words.{word_at, word}
use Rattle.layout.specs.declared.counts.Counts.{Counts}
use Rattle.layout.specs.declared.definition.Constructor.{Constructor}
use Rattle.layout.specs.declared.definition.Definition.TheVariants as definition
use Rattle.layout.specs.declared.function.Functions.{Functions}
use Rattle.layout.specs.declared.function.Half.TheVariants.{Annotation, Define}
use Rattle.layout.specs.declared.node.Node.{Node}
use Rattle.layout.specs.declared.tables.Tables.{Tables}
use Rattle.layout.specs.declared.type_node.TypeNode.{TypeNode}
use Rattle.layout.specs.declared.word.Word.{Word}
use Rattle.layout.proofs.Sizes.{length_type}
use Rattle.forms.specs.Drafts.{encode}
use Rattle.forms.specs.Looks.{NotClosing, Closes}
use Rattle.forms.specs.Parts.{OnPart, OnList}
use Rattle.forms.specs.Progress.{puts, ToldBy}
use Rattle.forms.specs.Rows.{closed_by}
use Rattle.forms.specs.declared.names.NameAt.{NameAt}
use Rattle.forms.specs.declared.spot.Spot.{Spot}
use Rattle.forms.proofs.PartLaws.{length_encode}
use Rattle.forms.proofs.ReaderLaws.{Keeps}
use Rattle.forms.proofs.RowLaws.{left_none}
use Rattle.parser.specs.Defining.{Tallied, ToldDefinition, OnParts}
use Rattle.parser.specs.Listing.{ToldNames, ToldMark, OnNameList, OnMark, all}
use Rattle.parser.specs.Noting.{noted_in}
use Rattle.parser.specs.TypeParts.{ToldType, OnType}
use Rattle.parser.specs.declared.mark.Mark.{Mark}
use Rattle.parser.proofs.KeepLaws.{keeps_parameter_list}
use Rattle.parser.proofs.NameLaws.{OnName, NameRead, name_made, name_read_is, name_refused, then_made, then_refused}

-- The expression that ends a definition.
module _ (text : List ℕ) (spot : Spot) (ns : List Node) (entries : ℕ) where
  abbrev Counted : Tally → ℕ
  Counted n = n.nodes

  pub body_made : (end : Spot) (behind : ℕ) (ns' : List Node) → OnPart text spot ns encode (read_expr entries 64) (Ok end) ns' → Closes text end.place (Some behind)
      → (e : Sexp) → OnList text spot ns encode (cons e nil) (read_expr entries 64 e) (Ok (record { place = behind; used = end.used })) ns'
  body_made end behind ns' told closes e shape q rest n E a u = go (read_expr entries 64 e n) (told e (closed_by nil shape q rest) n E a.0 u)
    where
      go : (o : Outcome Expr) → ToldBy Counted text (closed_by nil shape q rest) spot ns (encode spot.used) o (Ok end) ns' → ToldBy Counted text rest spot ns (encode spot.used) o (Ok (record { place = behind; used = end.used })) ns'
      go (refused x) t = absurd (cc)
      go (made x m) t =
          let l = left_none nil shape q rest closes.0 closes.1.1.0 closes.1.0 (lexed_from text behind) (sym t.2 ∙ closes.1.1.1.follows) tt in
          (t.0, t.1, l.1, t.3)

  pub body_open : (end : Spot) (z : Refused) (ns' then : List Node) → OnPart text spot ns encode (read_expr entries 64) (Ok end) ns' → NotClosing (lexed_from text end.place)
      → (e : Sexp) → OnList text spot ns encode (cons e nil) (read_expr entries 64 e) (Err z) then
  body_open end z ns' then told more e shape q rest n E a u = go (read_expr entries 64 e n) (told e (closed_by nil shape q rest) n E a.0 u)
    where
      go : (o : Outcome Expr) → ToldBy Counted text (closed_by nil shape q rest) spot ns (encode spot.used) o (Ok end) ns' → ToldBy Counted text rest spot ns (encode spot.used) o (Err z) then
      go (refused x) t = absurd (cc)
      go (made x m) t = absurd (subst NotClosing t.2 more)

  pub body_refused : (z : Refused) (ns' then : List Node) → OnPart text spot ns encode (read_expr entries 64) (Err z) ns' → (e : Sexp) → OnList text spot ns encode (cons e nil) (read_expr entries 64 e) (Err z) then
  body_refused z ns' then told e shape q rest n E a u = go (read_expr entries 64 e n) (told e (closed_by nil shape q rest) n E a.0 u)
    where
      go : (o : Outcome Expr) → ToldBy Counted text (closed_by nil shape q rest) spot ns (encode spot.used) o (Err z) ns' → ToldBy Counted text rest spot ns (encode spot.used) o (Err z) then
      go (refused x) t = t
      go (made x m) t = absurd t

-- Counts and tables, part by part.
abbrev counts_of : ℕ → ℕ → ℕ → ℕ → ℕ → ℕ → ℕ → Counts
counts_of n t d s b c p = record { nodes = n; types = t; definitions = d; datatypes = s; bindings = b; constructors = c; parameters = p }

same_counts : (a b : Counts) → a.nodes ≡ b.nodes → a.types ≡ b.types → a.definitions ≡ b.definitions → a.datatypes ≡ b.datatypes → a.bindings ≡ b.bindings → a.constructors ≡ b.constructors → a.parameters ≡ b.parameters → a ≡ b
same_counts a b p q r s t u v =
    ap (λ x. counts_of x a.types a.definitions a.datatypes a.bindings a.constructors a.parameters) p
    ∙ ap (λ x. counts_of b.nodes x a.definitions a.datatypes a.bindings a.constructors a.parameters) q
    ∙ ap (λ x. counts_of b.nodes b.types x a.datatypes a.bindings a.constructors a.parameters) r
    ∙ ap (λ x. counts_of b.nodes b.types b.definitions x a.bindings a.constructors a.parameters) s
    ∙ ap (λ x. counts_of b.nodes b.types b.definitions b.datatypes x a.constructors a.parameters) t
    ∙ ap (λ x. counts_of b.nodes b.types b.definitions b.datatypes b.bindings x a.parameters) u
    ∙ ap (counts_of b.nodes b.types b.definitions b.datatypes b.bindings b.constructors) v

-- One define or val more, and one datatype more.
abbrev one_binding : Tally → Tally
one_binding n = record { nodes = n.nodes; types = n.types; bindings = n.bindings + 1; datatypes = n.datatypes; constructors = n.constructors }

abbrev one_datatype : Tally → Tally
one_datatype n = record { nodes = n.nodes; types = n.types; bindings = n.bindings; datatypes = n.datatypes + 1; constructors = n.constructors }

-- A refusal is told whatever is left.
told_refused : (text : List ℕ) (rest : Lexed) (t t' : Tables) (ns ns' : List Node) (z : Refused) (o : Outcome tree.Definition) → o ≡ refused z → ToldDefinition text rest t ns o (Err z) t' ns'
told_refused text rest t t' ns ns' z o e = subst (λ o. ToldDefinition text rest t ns o (Err z) t' ns') (sym e) refl

-- The name behind the reserved word.
module _ (text : List ℕ) (inside : ℕ) where
  abbrev Rest : Sexps → Bracket → ℕ → Lexed → Lexed
  Rest ss shape q rest = closed_by ss shape q rest

  named : (x : Sexp) (ss : Sexps) (shape : Bracket) (q : ℕ) (rest : Lexed) (n : Tally) (name : NameAt) → OnName text inside (Ok name) → lexed_from text inside ≡ closed_by (cons x ss) shape q rest → AllAtoms (cons x ss) → NameRead text x (closed_by ss shape q rest) name
  named x ss shape q rest n name names e a = name_made text (closed_by ss shape q rest) x n name (names x (closed_by ss shape q rest) n e a.0)

  unnamed : (x : Sexp) (ss : Sexps) (shape : Bracket) (q : ℕ) (rest : Lexed) (n : Tally) (z : Refused) → OnName text inside (Err z) → lexed_from text inside ≡ closed_by (cons x ss) shape q rest → AllAtoms (cons x ss) → name_read x n ≡ refused z
  unnamed x ss shape q rest n z names e a = name_refused text (closed_by ss shape q rest) (name_read x n) z (names x (closed_by ss shape q rest) n e a.0)

-- A val.
module _ (text : List ℕ) (inside p entries : ℕ) (t : Tables) (ns : List Node) (few : t.counts.bindings < 256) where
  counted : (n : Tally) (f : Tally → Outcome tree.Definition) → Tallied n t.counts → count_binding p n f ≡ f (one_binding n)
  counted n f u = let same = u.bindings in cond-true (ltb n.bindings 256) _ _ (lt-ltb n.bindings 256 (omega arith))

  abbrev val_body : Sexp → Ident → Tally → Outcome tree.Definition
  val_body e x n = and_then (read_expr entries 64 e n) (λ y n. made (val_binding p x y) n)

  pub val_unnamed : (z : Refused) (t' : Tables) (ns' : List Node) → OnName text inside (Err z) → (x e : Sexp) → OnParts text inside t ns (cons x (cons e nil)) (read_definition_form entries p (val_form_rule x e)) (Err z) t' ns'
  val_unnamed z t' ns' names x e shape q rest n E a u =
      told_refused text rest t t' ns ns' z _ (counted n (λ m. and_then (name_read x m) (val_body e)) u ∙ then_refused (name_read x (one_binding n)) (val_body e) z (unnamed text inside x (cons e nil) shape q rest (one_binding n) z names E a))

  module _ (name : NameAt) (names : OnName text inside (Ok name)) where
    abbrev val_at : Spot
    val_at = record { place = name.after; used = t.counts.nodes }

    val_named : (x e : Sexp) (shape : Bracket) (q : ℕ) (rest : Lexed) (n : Tally) (r : NameRead text x (closed_by (cons e nil) shape q rest) name) → Tallied n t.counts → read_definition_form entries p (val_form_rule x e) n ≡ val_body e r.name_is (one_binding n)
    val_named x e shape q rest n r u = counted n (λ m. and_then (name_read x m) (val_body e)) u ∙ then_made (name_read x (one_binding n)) (val_body e) r.name_is (one_binding n) (name_read_is text _ x name r (one_binding n))

    pub val_refused : (z : Refused) (now ns' : List Node) (t' : Tables) → ((e : Sexp) → OnList text (record { place = name.after; used = t.counts.nodes }) ns encode (cons e nil) (read_expr entries 64 e) (Err z) now)
        → (x e : Sexp) → OnParts text inside t ns (cons x (cons e nil)) (read_definition_form entries p (val_form_rule x e)) (Err z) t' ns'
    val_refused z now ns' t' body x e shape q rest n E a u =
        let r = named text inside x (cons e nil) shape q rest (one_binding n) name names E a in
        subst (λ o. ToldDefinition text rest t ns o (Err z) t' ns') (sym (val_named x e shape q rest n r u))
        (go r.name_is (read_expr entries 64 e (one_binding n)) (body e shape q rest (one_binding n) r.follows a.1 u.nodes))
      where
        go : (x : Ident) (o : Outcome Expr) → ToldBy (λ n. n.nodes) text rest val_at ns (encode t.counts.nodes) o (Err z) now → ToldDefinition text rest t ns (and_then o (λ y n. made (val_binding p x y) n)) (Err z) t' ns'
        go x (refused z') h = let same : z ≡ z' = cc in ap Err same
        go x (made y m) h = absurd h

    pub val_made : (end : Spot) (w : Word) (t' : Tables) (ns' : List Node) → ((e : Sexp) → OnList text (record { place = name.after; used = t.counts.nodes }) ns encode (cons e nil) (read_expr entries 64 e) (Ok end) ns')
        → w ≡ word_at name.place (name.after - name.place)
        → t' ≡ record { counts = counts_of end.used t.counts.types (t.counts.definitions + 1) t.counts.datatypes (t.counts.bindings + 1) t.counts.constructors t.counts.parameters; definitions = set t.definitions t.counts.definitions (definition.Val (record { place = p; name = w; body = t.counts.nodes })); constructors = t.constructors; parameters = t.parameters; types = t.types; functions = t.functions }
        → (x e : Sexp) → OnParts text inside t ns (cons x (cons e nil)) (read_definition_form entries p (val_form_rule x e)) (Ok end.place) t' ns'
    val_made end w t' ns' body w_is t_is x e shape q rest n E a u =
        let r = named text inside x (cons e nil) shape q rest (one_binding n) name names E a in
        subst (λ o. ToldDefinition text rest t ns o (Ok end.place) t' ns') (sym (val_named x e shape q rest n r u))
        (go r.name_is (w_is ∙ r.word_is) (read_expr entries 64 e (one_binding n)) (body e shape q rest (one_binding n) r.follows a.1 u.nodes))
      where
        go : (x : Ident) → w ≡ word x → (o : Outcome Expr) → ToldBy (λ n. n.nodes) text rest val_at ns (encode t.counts.nodes) o (Ok end) ns' → ToldDefinition text rest t ns (and_then o (λ y n. made (val_binding p x y) n)) (Ok end.place) t' ns'
        go x is (refused z) h = absurd (cc)
        go x is (made y m) h =
            let h0 = h.0 in
            let h1 = h.1 in
            let long = length_encode t.counts.nodes y in (
              h.2,
              record {
                counts = ap (λ t. t.counts) t_is ∙ same_counts _ (after t.counts (val_binding p x y)) (omega arith) (omega arith) refl (omega arith) refl (omega arith) (omega arith);
                definitions = ap (λ t. t.definitions) t_is ∙ ap (λ w. set t.definitions t.counts.definitions (definition.Val (record { place = p; name = w; body = t.counts.nodes }))) is;
                constructors = ap (λ t. t.constructors) t_is;
                parameters = ap (λ t. t.parameters) t_is;
                types = ap (λ t. t.types) t_is;
                functions = ap (λ t. t.functions) t_is;
                nodes = h.3;
              },
            )

-- A define.
module _ (text : List ℕ) (inside p entries : ℕ) (t : Tables) (ns : List Node) (few : t.counts.bindings < 256) where
  bound_one : (n : Tally) (f : Tally → Outcome tree.Definition) → Tallied n t.counts → count_binding p n f ≡ f (one_binding n)
  bound_one n f u = let same = u.bindings in cond-true (ltb n.bindings 256) _ _ (lt-ltb n.bindings 256 (omega arith))

  abbrev define_body : Sexp → Ident → List Ident → Tally → Outcome tree.Definition
  define_body e x xs n = and_then (read_expr entries 64 e n) (λ y n. made (function_definition p x xs y) n)

  abbrev define_list : Sexp → Sexp → Ident → Tally → Outcome tree.Definition
  define_list ps e x n = and_then (read_parameter_list entries ps n) (define_body e x)

  pub define_unnamed : (z : Refused) (t' : Tables) (ns' : List Node) → OnName text inside (Err z) → (x ps e : Sexp) → OnParts text inside t ns (cons x (cons ps (cons e nil))) (read_definition_form entries p (define_form_rule x ps e)) (Err z) t' ns'
  define_unnamed z t' ns' names x ps e shape q rest n E a u =
      told_refused text rest t t' ns ns' z _ (bound_one n (λ m. and_then (name_read x m) (define_list ps e)) u ∙ then_refused (name_read x (one_binding n)) (define_list ps e) z (unnamed text inside x (cons ps (cons e nil)) shape q rest (one_binding n) z names E a))

  module _ (name : NameAt) (names : OnName text inside (Ok name)) where
    abbrev list_at : Spot
    list_at = record { place = name.after; used = t.counts.parameters }

    define_named : (x ps e : Sexp) (shape : Bracket) (q : ℕ) (rest : Lexed) (n : Tally) (r : NameRead text x (closed_by (cons ps (cons e nil)) shape q rest) name) → Tallied n t.counts
        → read_definition_form entries p (define_form_rule x ps e) n ≡ define_list ps e r.name_is (one_binding n)
    define_named x ps e shape q rest n r u = bound_one n (λ m. and_then (name_read x m) (define_list ps e)) u ∙ then_made (name_read x (one_binding n)) (define_list ps e) r.name_is (one_binding n) (name_read_is text _ x name r (one_binding n))

    pub define_unlisted : (z : Refused) (now : List Word) (ns' : List Node) (t' : Tables) → ((k : ℕ) → OnNameList text (record { place = name.after; used = t.counts.parameters }) t.parameters (read_parameter_list k) (Err z) now)
        → (x ps e : Sexp) → OnParts text inside t ns (cons x (cons ps (cons e nil))) (read_definition_form entries p (define_form_rule x ps e)) (Err z) t' ns'
    define_unlisted z now ns' t' parameters x ps e shape q rest n E a u =
        let r = named text inside x (cons ps (cons e nil)) shape q rest (one_binding n) name names E a in
        subst (λ o. ToldDefinition text rest t ns o (Err z) t' ns') (sym (define_named x ps e shape q rest n r u))
        (go r.name_is (read_parameter_list entries ps (one_binding n)) (parameters entries ps (closed_by (cons e nil) shape q rest) (one_binding n) r.follows a.1.0))
      where
        go : (x : Ident) (o : Outcome (List Ident)) → ToldNames text (closed_by (cons e nil) shape q rest) list_at t.parameters o (Err z) now → ToldDefinition text rest t ns (and_then o (define_body e x)) (Err z) t' ns'
        go x (refused z') h = let same : z ≡ z' = cc in ap Err same
        go x (made xs m) h = absurd h

    module _ (middle : Spot) (ws : List Word) (parameters : (k : ℕ) → OnNameList text (record { place = name.after; used = t.counts.parameters }) t.parameters (read_parameter_list k) (Ok middle) ws) where
      abbrev body_at : Spot
      body_at = record { place = middle.place; used = t.counts.nodes }

      pub define_refused : (z : Refused) (now ns' : List Node) (t' : Tables) → ((e : Sexp) → OnList text (record { place = middle.place; used = t.counts.nodes }) ns encode (cons e nil) (read_expr entries 64 e) (Err z) now)
          → (x ps e : Sexp) → OnParts text inside t ns (cons x (cons ps (cons e nil))) (read_definition_form entries p (define_form_rule x ps e)) (Err z) t' ns'
      define_refused z now ns' t' body x ps e shape q rest n E a u =
          let r = named text inside x (cons ps (cons e nil)) shape q rest (one_binding n) name names E a in
          subst (λ o. ToldDefinition text rest t ns o (Err z) t' ns') (sym (define_named x ps e shape q rest n r u))
          (go r.name_is (read_parameter_list entries ps (one_binding n)) (keeps_parameter_list entries ps (one_binding n)) (parameters entries ps (closed_by (cons e nil) shape q rest) (one_binding n) r.follows a.1.0))
        where
          last : (x : Ident) (xs : List Ident) (o : Outcome Expr) → ToldBy (λ n. n.nodes) text rest body_at ns (encode t.counts.nodes) o (Err z) now → ToldDefinition text rest t ns (and_then o (λ y n. made (function_definition p x xs y) n)) (Err z) t' ns'
          last x xs (refused z') h = let same : z ≡ z' = cc in ap Err same
          last x xs (made y m) h = absurd h

          go : (x : Ident) (o : Outcome (List Ident)) → Keeps (one_binding n) o → ToldNames text (closed_by (cons e nil) shape q rest) list_at t.parameters o (Ok middle) ws → ToldDefinition text rest t ns (and_then o (define_body e x)) (Err z) t' ns'
          go x (refused z') same h = absurd (cc)
          go x (made xs m) same h = last x xs (read_expr entries 64 e m) (body e shape q rest m h.1 a.1.1 (ap (λ n. n.nodes) same ∙ u.nodes))

      pub define_made : (end : Spot) (w : Word) (f : Functions) (t' : Tables) (ns' : List Node) → ((e : Sexp) → OnList text (record { place = middle.place; used = t.counts.nodes }) ns encode (cons e nil) (read_expr entries 64 e) (Ok end) ns')
          → w ≡ word_at name.place (name.after - name.place) → f ≡ noted_in text Define w t.counts.definitions t.functions
          → t' ≡ record { counts = counts_of end.used t.counts.types (t.counts.definitions + 1) t.counts.datatypes (t.counts.bindings + 1) t.counts.constructors middle.used; definitions = set t.definitions t.counts.definitions (definition.Define (record { place = p; name = w; first = t.counts.parameters; past = middle.used; body = t.counts.nodes })); constructors = t.constructors; parameters = ws; types = t.types; functions = f }
          → (x ps e : Sexp) → OnParts text inside t ns (cons x (cons ps (cons e nil))) (read_definition_form entries p (define_form_rule x ps e)) (Ok end.place) t' ns'
      define_made end w f t' ns' body w_is f_is t_is x ps e shape q rest n E a u =
          let r = named text inside x (cons ps (cons e nil)) shape q rest (one_binding n) name names E a in
          subst (λ o. ToldDefinition text rest t ns o (Ok end.place) t' ns') (sym (define_named x ps e shape q rest n r u))
          (go r.name_is (w_is ∙ r.word_is) (read_parameter_list entries ps (one_binding n)) (keeps_parameter_list entries ps (one_binding n)) (parameters entries ps (closed_by (cons e nil) shape q rest) (one_binding n) r.follows a.1.0))
        where
          last : (x : Ident) → w ≡ word x → (xs : List Ident) → middle.used ≡ t.counts.parameters + length xs → ws ≡ puts t.parameters t.counts.parameters (map word xs)
              → (o : Outcome Expr) → ToldBy (λ n. n.nodes) text rest body_at ns (encode t.counts.nodes) o (Ok end) ns' → ToldDefinition text rest t ns (and_then o (λ y n. made (function_definition p x xs y) n)) (Ok end.place) t' ns'
          last x is xs size words (refused z) h = absurd (cc)
          last x is xs size words (made y m) h =
              let h0 = h.0 in
              let h1 = h.1 in
              let long = length_encode t.counts.nodes y in (
                h.2,
                record {
                  counts = ap (λ t. t.counts) t_is ∙ same_counts _ (after t.counts (function_definition p x xs y)) (omega arith) (omega arith) refl (omega arith) refl (omega arith) size;
                  definitions = ap (λ t. t.definitions) t_is
                      ∙ ap (λ w. set t.definitions t.counts.definitions (definition.Define (record { place = p; name = w; first = t.counts.parameters; past = middle.used; body = t.counts.nodes }))) is
                      ∙ ap (λ j. set t.definitions t.counts.definitions (definition.Define (record { place = p; name = word x; first = t.counts.parameters; past = j; body = t.counts.nodes }))) size;
                  constructors = ap (λ t. t.constructors) t_is;
                  parameters = ap (λ t. t.parameters) t_is ∙ words;
                  types = ap (λ t. t.types) t_is;
                  functions = ap (λ t. t.functions) t_is ∙ f_is ∙ ap (λ w. noted_in text Define w t.counts.definitions t.functions) is;
                  nodes = h.3;
                },
              )

          go : (x : Ident) → w ≡ word x → (o : Outcome (List Ident)) → Keeps (one_binding n) o → ToldNames text (closed_by (cons e nil) shape q rest) list_at t.parameters o (Ok middle) ws → ToldDefinition text rest t ns (and_then o (define_body e x)) (Ok end.place) t' ns'
          go x is (refused z') same h = absurd (cc)
          go x is (made xs m) same h = last x is xs h.0 h.2 (read_expr entries 64 e m) (body e shape q rest m h.1 a.1.1 (ap (λ n. n.nodes) same ∙ u.nodes))

-- An annotation.
module _ (text : List ℕ) (inside p entries : ℕ) (t : Tables) (ns : List Node) where
  abbrev annotation_type : Sexp → Ident → Tally → Outcome tree.Definition
  annotation_type y x n = and_then (read_type 64 y n) (λ u n. made (type_annotation p x u) n)

  pub annotation_unnamed : (z : Refused) (t' : Tables) → OnName text inside (Err z) → (x y : Sexp) → OnParts text inside t ns (cons x (cons y nil)) (read_definition_form entries p (annotation_form_rule x y)) (Err z) t' ns
  annotation_unnamed z t' names x y shape q rest n E a u = told_refused text rest t t' ns ns z _ (then_refused (name_read x n) (annotation_type y) z (unnamed text inside x (cons y nil) shape q rest n z names E a))

  module _ (name : NameAt) (names : OnName text inside (Ok name)) where
    abbrev type_at : Spot
    type_at = record { place = name.after; used = t.counts.types }

    annotation_named : (x y : Sexp) (shape : Bracket) (q : ℕ) (rest : Lexed) (n : Tally) (r : NameRead text x (closed_by (cons y nil) shape q rest) name) → read_definition_form entries p (annotation_form_rule x y) n ≡ annotation_type y r.name_is n
    annotation_named x y shape q rest n r = then_made (name_read x n) (annotation_type y) r.name_is n (name_read_is text _ x name r n)

    pub annotation_refused : (z : Refused) (now : List TypeNode) (t' : Tables) → OnType text (record { place = name.after; used = t.counts.types }) t.types encode_type (read_type 64) (Err z) now
        → (x y : Sexp) → OnParts text inside t ns (cons x (cons y nil)) (read_definition_form entries p (annotation_form_rule x y)) (Err z) t' ns
    annotation_refused z now t' types x y shape q rest n E a u =
        let r = named text inside x (cons y nil) shape q rest n name names E a in
        subst (λ o. ToldDefinition text rest t ns o (Err z) t' ns) (sym (annotation_named x y shape q rest n r))
        (go r.name_is (read_type 64 y n) (types y (closed_by nil shape q rest) n r.follows a.1.0 u.types))
      where
        go : (x : Ident) (o : Outcome TypeExpr) → ToldType text (closed_by nil shape q rest) type_at t.types (encode_type t.counts.types) o (Err z) now → ToldDefinition text rest t ns (and_then o (λ u n. made (type_annotation p x u) n)) (Err z) t' ns
        go x (refused z') h = let same : z ≡ z' = cc in ap Err same
        go x (made y m) h = absurd h

    module _ (end : Spot) (now : List TypeNode) (types : OnType text (record { place = name.after; used = t.counts.types }) t.types encode_type (read_type 64) (Ok end) now) where
      pub annotation_open : (z : Refused) (t' : Tables) → NotClosing (lexed_from text end.place) → (x y : Sexp) → OnParts text inside t ns (cons x (cons y nil)) (read_definition_form entries p (annotation_form_rule x y)) (Err z) t' ns
      annotation_open z t' more x y shape q rest n E a u =
          let r = named text inside x (cons y nil) shape q rest n name names E a in
          subst (λ o. ToldDefinition text rest t ns o (Err z) t' ns) (sym (annotation_named x y shape q rest n r))
          (go r.name_is (read_type 64 y n) (types y (closed_by nil shape q rest) n r.follows a.1.0 u.types))
        where
          go : (x : Ident) (o : Outcome TypeExpr) → ToldType text (closed_by nil shape q rest) type_at t.types (encode_type t.counts.types) o (Ok end) now → ToldDefinition text rest t ns (and_then o (λ u n. made (type_annotation p x u) n)) (Err z) t' ns
          go x (refused z') h = absurd (cc)
          go x (made y m) h = absurd (subst NotClosing h.2 more)

      pub annotation_made : (behind : ℕ) (w : Word) (f : Functions) (t' : Tables) → Closes text end.place (Some behind) → w ≡ word_at name.place (name.after - name.place) → f ≡ noted_in text Annotation w t.counts.definitions t.functions
          → t' ≡ record { counts = counts_of t.counts.nodes end.used (t.counts.definitions + 1) t.counts.datatypes t.counts.bindings t.counts.constructors t.counts.parameters; definitions = set t.definitions t.counts.definitions (definition.Annotation (record { place = p; name = w; root = t.counts.types })); constructors = t.constructors; parameters = t.parameters; types = now; functions = f }
          → (x y : Sexp) → OnParts text inside t ns (cons x (cons y nil)) (read_definition_form entries p (annotation_form_rule x y)) (Ok behind) t' ns
      annotation_made behind w f t' closes w_is f_is t_is x y shape q rest n E a u =
          let r = named text inside x (cons y nil) shape q rest n name names E a in
          subst (λ o. ToldDefinition text rest t ns o (Ok behind) t' ns) (sym (annotation_named x y shape q rest n r))
          (go r.name_is (w_is ∙ r.word_is) (read_type 64 y n) (types y (closed_by nil shape q rest) n r.follows a.1.0 u.types))
        where
          go : (x : Ident) → w ≡ word x → (o : Outcome TypeExpr) → ToldType text (closed_by nil shape q rest) type_at t.types (encode_type t.counts.types) o (Ok end) now → ToldDefinition text rest t ns (and_then o (λ u n. made (type_annotation p x u) n)) (Ok behind) t' ns
          go x is (refused z') h = absurd (cc)
          go x is (made y m) h =
              let l = left_none nil shape q rest closes.0 closes.1.1.0 closes.1.0 (lexed_from text behind) (sym h.2 ∙ closes.1.1.1.follows) tt in
              let h0 = h.0 in
              let h1 = h.1 in
              let long = length_type t.counts.types y in (
                l.1,
                record {
                  counts = ap (λ t. t.counts) t_is ∙ same_counts _ (after t.counts (type_annotation p x y)) (omega arith) (omega arith) refl (omega arith) (omega arith) (omega arith) (omega arith);
                  definitions = ap (λ t. t.definitions) t_is ∙ ap (λ w. set t.definitions t.counts.definitions (definition.Annotation (record { place = p; name = w; root = t.counts.types }))) is;
                  constructors = ap (λ t. t.constructors) t_is;
                  parameters = ap (λ t. t.parameters) t_is;
                  types = ap (λ t. t.types) t_is ∙ h.3;
                  functions = ap (λ t. t.functions) t_is ∙ f_is ∙ ap (λ w. noted_in text Annotation w t.counts.definitions t.functions) is;
                  nodes = refl;
                },
              )

-- A datatype.
module _ (text : List ℕ) (inside p entries : ℕ) (t : Tables) (ns : List Node) (few : t.counts.datatypes < 64) where
  datatype_one : (n : Tally) (f : Tally → Outcome tree.Definition) → Tallied n t.counts → count_datatype p n f ≡ f (one_datatype n)
  datatype_one n f u = let same = u.datatypes in cond-true (ltb n.datatypes 64) _ _ (lt-ltb n.datatypes 64 (omega arith))

  abbrev datatype_list : Sexp → Ident → Tally → Outcome tree.Definition
  datatype_list y x n = and_then (read_constructor_list entries y n) (λ cs n. made (datatype_definition p x cs) n)

  pub datatype_unnamed : (z : Refused) (t' : Tables) → OnName text inside (Err z) → (x y : Sexp) → OnParts text inside t ns (cons x (cons y nil)) (read_definition_form entries p (datatype_form_rule x y)) (Err z) t' ns
  datatype_unnamed z t' names x y shape q rest n E a u =
      told_refused text rest t t' ns ns z _ (datatype_one n (λ m. and_then (name_read x m) (datatype_list y)) u ∙ then_refused (name_read x (one_datatype n)) (datatype_list y) z (unnamed text inside x (cons y nil) shape q rest (one_datatype n) z names E a))

  module _ (name : NameAt) (names : OnName text inside (Ok name)) where
    abbrev constructors_at : Mark
    constructors_at = record { place = name.after; types = t.counts.types; constructors = t.counts.constructors }

    datatype_named : (x y : Sexp) (shape : Bracket) (q : ℕ) (rest : Lexed) (n : Tally) (r : NameRead text x (closed_by (cons y nil) shape q rest) name) → Tallied n t.counts → read_definition_form entries p (datatype_form_rule x y) n ≡ datatype_list y r.name_is (one_datatype n)
    datatype_named x y shape q rest n r u = datatype_one n (λ m. and_then (name_read x m) (datatype_list y)) u ∙ then_made (name_read x (one_datatype n)) (datatype_list y) r.name_is (one_datatype n) (name_read_is text _ x name r (one_datatype n))

    pub datatype_refused : (z : Refused) (now : List TypeNode) (now' : List Constructor) (t' : Tables)
        → OnMark all t.counts.definitions text (record { place = name.after; types = t.counts.types; constructors = t.counts.constructors }) t.types t.constructors (read_constructor_list entries) (Err z) now now'
        → (x y : Sexp) → OnParts text inside t ns (cons x (cons y nil)) (read_definition_form entries p (datatype_form_rule x y)) (Err z) t' ns
    datatype_refused z now now' t' marks x y shape q rest n E a u =
        let r = named text inside x (cons y nil) shape q rest (one_datatype n) name names E a in
        subst (λ o. ToldDefinition text rest t ns o (Err z) t' ns) (sym (datatype_named x y shape q rest n r u))
        (go r.name_is (read_constructor_list entries y (one_datatype n)) (marks y (closed_by nil shape q rest) (one_datatype n) r.follows a.1.0 u.types u.constructors))
      where
        go : (x : Ident) (o : Outcome (List tree.Constructor)) → ToldMark all t.counts.definitions text (closed_by nil shape q rest) constructors_at t.types t.constructors o (Err z) now now' → ToldDefinition text rest t ns (and_then o (λ cs n. made (datatype_definition p x cs) n)) (Err z) t' ns
        go x (refused z') h = let same : z ≡ z' = cc in ap Err same
        go x (made cs m) h = absurd h

    module _ (end : Mark) (now : List TypeNode) (now' : List Constructor)
        (marks : OnMark all t.counts.definitions text (record { place = name.after; types = t.counts.types; constructors = t.counts.constructors }) t.types t.constructors (read_constructor_list entries) (Ok end) now now') where
      pub datatype_open : (z : Refused) (t' : Tables) → NotClosing (lexed_from text end.place) → (x y : Sexp) → OnParts text inside t ns (cons x (cons y nil)) (read_definition_form entries p (datatype_form_rule x y)) (Err z) t' ns
      datatype_open z t' more x y shape q rest n E a u =
          let r = named text inside x (cons y nil) shape q rest (one_datatype n) name names E a in
          subst (λ o. ToldDefinition text rest t ns o (Err z) t' ns) (sym (datatype_named x y shape q rest n r u))
          (go r.name_is (read_constructor_list entries y (one_datatype n)) (marks y (closed_by nil shape q rest) (one_datatype n) r.follows a.1.0 u.types u.constructors))
        where
          go : (x : Ident) (o : Outcome (List tree.Constructor)) → ToldMark all t.counts.definitions text (closed_by nil shape q rest) constructors_at t.types t.constructors o (Ok end) now now' → ToldDefinition text rest t ns (and_then o (λ cs n. made (datatype_definition p x cs) n)) (Err z) t' ns
          go x (refused z') h = absurd (cc)
          go x (made cs m) h = absurd (subst NotClosing h.4 more)

      pub datatype_made : (behind : ℕ) (w : Word) (t' : Tables) → Closes text end.place (Some behind) → w ≡ word_at name.place (name.after - name.place)
          → t' ≡ record { counts = counts_of t.counts.nodes end.types (t.counts.definitions + 1) (t.counts.datatypes + 1) t.counts.bindings end.constructors t.counts.parameters; definitions = set t.definitions t.counts.definitions (definition.Datatype (record { place = p; name = w; first = t.counts.constructors; past = end.constructors })); constructors = now'; parameters = t.parameters; types = now; functions = t.functions }
          → (x y : Sexp) → OnParts text inside t ns (cons x (cons y nil)) (read_definition_form entries p (datatype_form_rule x y)) (Ok behind) t' ns
      datatype_made behind w t' closes w_is t_is x y shape q rest n E a u =
          let r = named text inside x (cons y nil) shape q rest (one_datatype n) name names E a in
          subst (λ o. ToldDefinition text rest t ns o (Ok behind) t' ns) (sym (datatype_named x y shape q rest n r u))
          (go r.name_is (w_is ∙ r.word_is) (read_constructor_list entries y (one_datatype n)) (marks y (closed_by nil shape q rest) (one_datatype n) r.follows a.1.0 u.types u.constructors))
        where
          go : (x : Ident) → w ≡ word x → (o : Outcome (List tree.Constructor)) → ToldMark all t.counts.definitions text (closed_by nil shape q rest) constructors_at t.types t.constructors o (Ok end) now now' → ToldDefinition text rest t ns (and_then o (λ cs n. made (datatype_definition p x cs) n)) (Ok behind) t' ns
          go x is (refused z') h = absurd (cc)
          go x is (made cs m) h =
              let l = left_none nil shape q rest closes.0 closes.1.1.0 closes.1.0 (lexed_from text behind) (sym h.4 ∙ closes.1.1.1.follows) tt in
              let types = h.1 in
              let count = h.3 in (
                l.1,
                record {
                  counts = ap (λ t. t.counts) t_is ∙ same_counts _ (after t.counts (datatype_definition p x cs)) (omega arith) types refl refl (omega arith) count (omega arith);
                  definitions = ap (λ t. t.definitions) t_is
                      ∙ ap (λ w. set t.definitions t.counts.definitions (definition.Datatype (record { place = p; name = w; first = t.counts.constructors; past = end.constructors }))) is
                      ∙ ap (λ j. set t.definitions t.counts.definitions (definition.Datatype (record { place = p; name = word x; first = t.counts.constructors; past = j }))) count;
                  constructors = ap (λ t. t.constructors) t_is ∙ h.6;
                  parameters = ap (λ t. t.parameters) t_is;
                  types = ap (λ t. t.types) t_is ∙ h.5;
                  functions = ap (λ t. t.functions) t_is;
                  nodes = refl;
                },
              )
