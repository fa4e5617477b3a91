-- The symbols of a whole script: each node of its bodies gets the number of its symbol, and nothing else changes.
use Rattle.std.proofs.Common.{◌≡◌, ℕ, zero, suc, ◌+◌, ◌-◌, ◌<◌, ◌≤◌, ◌⊎◌, min, Bool, true, false, cond, List, [], ◌∷◌, ◌++◌, length, take, drop, replicate, inl, inr, sym, refl, ap, ◌∙◌, arith}
use Rattle.std.proofs.lemmas.Bool.{cases_lt}
use Rattle.std.proofs.lemmas.Slice.Eq.{bytes_eq-Decides}
use Rattle.std.proofs.lemmas.List.{append-nil, append_assoc, length-append, length-replicate, drop-drop, drop-take, take-take, take_all, take-replicate, drop-replicate, replicate-append-replicate}
use Rattle.std.specs.Str.{bytes_eq}
use Rattle.text.specs.Grammar.{Spelt}
use Rattle.text.specs.Tokens.{lexeme, lexed_from}
use Rattle.text.specs.declared.token.TokenKind.TheVariants.{Symbol}
use Rattle.grammar.specs.Grammar.{Derives}
use Rattle.grammar.specs.Limits.{expr_nodes, bindings_nodes}
use Rattle.grammar.specs.Trees as tree
use Rattle.grammar.specs.Trees.{Expr, Exprs, Bindings, Branches, Script}
use Rattle.grammar.proofs.StreamLaws.{token_at}
use Rattle.layout.specs.Encoding.{node, unused, encode, encodes, encode_bindings, encode_branches, pattern_place}
use Rattle.layout.specs.Literals.{Literal, literals, literals_all, literals_bound, literals_branched, literals_defined, literals_of, place_of_first}
use Rattle.layout.specs.Spelling.{Quotes}
use Rattle.layout.specs.Tabling.{none, after, node_row, rows, nodes_of_script}
use Rattle.layout.specs.declared.counts.Counts.{Counts}
use Rattle.layout.specs.Words.{word}
use Rattle.layout.specs.declared.node.Node.{Node}
use Rattle.layout.specs.declared.node.NodeForm.TheVariants as form
use Rattle.layout.proofs.InText.{ExprIn, ExprsIn, BindingsIn, BranchesIn, DefinitionIn, ScriptIn, derived_in}
use Rattle.forms.specs.Drafts.{own}
use Rattle.symbols.specs.Parts.{quoted}
use Rattle.symbols.specs.Numbering.{token_size, literal_word, literal_at, numbered}

abbrev literal : ℕ → List ℕ → Literal
literal p w = record { place = p; bytes = w }

-- a symbol has two quotes, and few bytes between them
spelt_size : (w : List ℕ) → Spelt Symbol w → (2 ≤ length w) × (length w ≤ 257)
spelt_size w (s, e, q, few) =
    let size : length w ≡ suc (length (s ++ 39 ∷ [])) = ap length e in
    let inner = length-append s (39 ∷ []) in
    (omega arith, omega arith)

-- a literal's bytes are those between its quotes
pub literal_is : (text : List ℕ) (p : ℕ) (w : List ℕ) → Quotes text p w → literal_at text p ≡ record { place = p; bytes = w }
literal_is text p w q =
    let t = token_at text p (lexeme Symbol p q.token) q.rest q.follows in
    let inner = spelt_size q.token t.spelt in
    let n = length q.token in
    let size : min 255 (token_size (lexed_from text p) - 2) ≡ n - 2 = ap (λ l. min 255 (token_size l - 2)) q.follows ∙ (omega arith) in
    let whole : n ≡ 1 + (n - 1) = omega arith in
    let shorter : n - 2 ≤ n - 1 = omega arith in
    let behind : drop 1 q.token ≡ take (n - 1) (drop (p + 1) text) =
    ap (drop 1) (sym t.part ∙ ap (λ m. take m (drop p text)) whole) ∙ drop-take 1 (n - 1) (drop p text) ∙ ap (take (n - 1)) (drop-drop 1 p text) in
    let bytes : quoted text (literal_word text p) ≡ w =
    ap (λ m. take m (drop (p + 1) text)) size ∙ sym (take-take (n - 2) (n - 1) (drop (p + 1) text) shorter) ∙ ap (take (n - 2)) (sym behind) ∙ sym q.between in
    ap (literal p) bytes

-- the first literal with some bytes is among those up to one with them
first_found : (seen later : List Literal) (l : Literal) → place_of_first (seen ++ l ∷ []) l.bytes ≡ place_of_first (seen ++ l ∷ later) l.bytes
first_found [] later l = go (bytes_eq l.bytes l.bytes) ((bytes_eq-Decides l.bytes l.bytes).1 refl)
  where
    go : (b : Bool) → b ≡ true → cond b l.place 0 ≡ cond b l.place (place_of_first later l.bytes)
    go true e = refl
    go false e = absurd (let z : ◌≡◌ {A = ℕ} 0 1 = cc in omega arith)
first_found (x ∷ seen) later l = ap (cond (bytes_eq x.bytes l.bytes) x.place) (first_found seen later l)

module _ (text : List ℕ) (all : List Literal) where
  abbrev number : ℕ → List ℕ → ℕ
  number p w = place_of_first all w

  -- all literals: those seen, these, and those to come
  pub record Around (seen these : List Literal) : Type 0 where
    pub later : List Literal
    pub is : all ≡ seen ++ (these ++ later)

  around_first : (seen a b : List Literal) → Around seen (a ++ b) → Around seen a
  around_first seen a b r = record { later = b ++ r.later; is = r.is ∙ ap (λ xs. seen ++ xs) (append_assoc a b r.later) }

  around_then : (seen a b : List Literal) → Around seen (a ++ b) → Around (seen ++ a) b
  around_then seen a b r = record { later = r.later; is = r.is ∙ ap (λ xs. seen ++ xs) (append_assoc a b r.later) ∙ sym (append_assoc seen a (b ++ r.later)) }

  seen_both : (seen a b : List Literal) (more : List Node) → numbered text ((seen ++ a) ++ b) more ≡ numbered text (seen ++ (a ++ b)) more
  seen_both seen a b more = ap (λ xs. numbered text xs more) (append_assoc seen a b)

  none_seen : (seen : List Literal) (more : List Node) → numbered text seen more ≡ numbered text (seen ++ []) more
  none_seen seen more = ap (λ xs. numbered text xs more) (sym (append-nil seen))

  -- the nodes of two parts, one behind the other
  both : (xs xs' ys ys' : List Node) (seen a b : List Literal) (more : List Node) → ((m : List Node) → numbered text seen (xs ++ m) ≡ xs' ++ numbered text (seen ++ a) m)
      → ((m : List Node) → numbered text (seen ++ a) (ys ++ m) ≡ ys' ++ numbered text ((seen ++ a) ++ b) m) → numbered text seen ((xs ++ ys) ++ more) ≡ (xs' ++ ys') ++ numbered text (seen ++ (a ++ b)) more
  both xs xs' ys ys' seen a b more first second =
      ap (numbered text seen) (append_assoc xs ys more) ∙ first (ys ++ more) ∙ ap (λ l. xs' ++ l) (second more) ∙ sym (append_assoc xs' ys' (numbered text ((seen ++ a) ++ b) more)) ∙ ap (λ l. (xs' ++ ys') ++ l) (seen_both seen a b more)

  mutual
    pub expr_numbered : (i : ℕ) (e : Expr) (seen : List Literal) (more : List Node) → ExprIn text e → Around seen (literals e) → numbered text seen (encode own i e ++ more) ≡ encode number i e ++ numbered text (seen ++ literals e) more
    expr_numbered i (tree.integer p z) seen more h r = ap (λ xs. node (form.Integer z) p (i + 1) ∷ xs) (none_seen seen more)
    expr_numbered i (tree.symbol p w) seen more h r =
        let l = literal p w in
        let is = literal_is text p w h in
        ap (λ x. node (form.Symbol (place_of_first (seen ++ x ∷ []) x.bytes)) p (i + 1) ∷ numbered text (seen ++ x ∷ []) more) is
        ∙ ap (λ q. node (form.Symbol q) p (i + 1) ∷ numbered text (seen ++ l ∷ []) more) (first_found seen r.later l ∙ ap (λ ls. place_of_first ls w) (sym r.is))
    expr_numbered i (tree.boolean p b) seen more h r = ap (λ xs. node (form.Boolean b) p (i + 1) ∷ xs) (none_seen seen more)
    expr_numbered i (tree.unit p) seen more h r = ap (λ xs. node form.Unit p (i + 1) ∷ xs) (none_seen seen more)
    expr_numbered i (tree.name p w) seen more h r = ap (λ xs. node (form.Name (length w)) p (i + 1) ∷ xs) (none_seen seen more)
    expr_numbered i (tree.if_expr p a b c) seen more h r =
        let la = literals a in
        let lb = literals b in
        let lc = literals c in
        let j = i + 1 + expr_nodes a in
        let k = j + expr_nodes b in
        let others = around_then seen la (lb ++ lc) r in
        ap (λ xs. node form.If p (i + expr_nodes (tree.if_expr p a b c)) ∷ xs)
        (both (encode own (i + 1) a) (encode number (i + 1) a) (encode own j b ++ encode own k c) (encode number j b ++ encode number k c) seen la (lb ++ lc) more
        (λ m. expr_numbered (i + 1) a seen m h.0 (around_first seen la (lb ++ lc) r))
        (λ m. both (encode own j b) (encode number j b) (encode own k c) (encode number k c) (seen ++ la) lb lc m
        (λ m. expr_numbered j b (seen ++ la) m h.1 (around_first (seen ++ la) lb lc others))
        (λ m. expr_numbered k c ((seen ++ la) ++ lb) m h.2 (around_then (seen ++ la) lb lc others))))
    expr_numbered i (tree.begin_expr p e es) seen more h r =
        let j = i + 1 + expr_nodes e in
        ap (λ xs. node form.Begin p (i + expr_nodes (tree.begin_expr p e es)) ∷ xs)
        (both (encode own (i + 1) e) (encode number (i + 1) e) (encodes own j es) (encodes number j es) seen (literals e) (literals_all es) more
        (λ m. expr_numbered (i + 1) e seen m h.0 (around_first seen (literals e) (literals_all es) r))
        (λ m. exprs_numbered j es (seen ++ literals e) m h.1 (around_then seen (literals e) (literals_all es) r)))
    expr_numbered i (tree.let_expr p bs e) seen more h r =
        let j = i + 1 + bindings_nodes bs in
        ap (λ xs. node form.Let p (i + expr_nodes (tree.let_expr p bs e)) ∷ xs)
        (both (encode_bindings own (i + 1) bs) (encode_bindings number (i + 1) bs) (encode own j e) (encode number j e) seen (literals_bound bs) (literals e) more
        (λ m. bindings_numbered (i + 1) bs seen m h.0 (around_first seen (literals_bound bs) (literals e) r))
        (λ m. expr_numbered j e (seen ++ literals_bound bs) m h.1 (around_then seen (literals_bound bs) (literals e) r)))
    expr_numbered i (tree.case_expr p e bs) seen more h r =
        let j = i + 1 + expr_nodes e in
        ap (λ xs. node form.Case p (i + expr_nodes (tree.case_expr p e bs)) ∷ xs)
        (both (encode own (i + 1) e) (encode number (i + 1) e) (encode_branches own j bs) (encode_branches number j bs) seen (literals e) (literals_branched bs) more
        (λ m. expr_numbered (i + 1) e seen m h.0 (around_first seen (literals e) (literals_branched bs) r))
        (λ m. branches_numbered j bs (seen ++ literals e) m h.1 (around_then seen (literals e) (literals_branched bs) r)))
    expr_numbered i (tree.dup_expr p x) seen more h r = ap (λ xs. node (form.Dup (word x)) p (i + 1) ∷ xs) (none_seen seen more)
    expr_numbered i (tree.apply_expr p e es) seen more h r =
        let j = i + 1 + expr_nodes e in
        ap (λ xs. node form.Apply p (i + expr_nodes (tree.apply_expr p e es)) ∷ xs)
        (both (encode own (i + 1) e) (encode number (i + 1) e) (encodes own j es) (encodes number j es) seen (literals e) (literals_all es) more
        (λ m. expr_numbered (i + 1) e seen m h.0 (around_first seen (literals e) (literals_all es) r))
        (λ m. exprs_numbered j es (seen ++ literals e) m h.1 (around_then seen (literals e) (literals_all es) r)))

    pub exprs_numbered : (i : ℕ) (es : Exprs) (seen : List Literal) (more : List Node) → ExprsIn text es → Around seen (literals_all es) → numbered text seen (encodes own i es ++ more) ≡ encodes number i es ++ numbered text (seen ++ literals_all es) more
    exprs_numbered i tree.no_exprs seen more h r = none_seen seen more
    exprs_numbered i (tree.and_expr e es) seen more h r =
        let j = i + expr_nodes e in
        both (encode own i e) (encode number i e) (encodes own j es) (encodes number j es) seen (literals e) (literals_all es) more
        (λ m. expr_numbered i e seen m h.0 (around_first seen (literals e) (literals_all es) r))
        (λ m. exprs_numbered j es (seen ++ literals e) m h.1 (around_then seen (literals e) (literals_all es) r))

    pub bindings_numbered : (i : ℕ) (bs : Bindings) (seen : List Literal) (more : List Node) → BindingsIn text bs → Around seen (literals_bound bs) → numbered text seen (encode_bindings own i bs ++ more) ≡ encode_bindings number i bs ++ numbered text (seen ++ literals_bound bs) more
    bindings_numbered i tree.no_bindings seen more h r = none_seen seen more
    bindings_numbered i (tree.and_binding p x e bs) seen more h r =
        let j = i + (1 + expr_nodes e) in
        let n = node (form.Binding (word x)) p j in
        both (n ∷ encode own (i + 1) e) (n ∷ encode number (i + 1) e) (encode_bindings own j bs) (encode_bindings number j bs) seen (literals e) (literals_bound bs) more
        (λ m. ap (λ xs. n ∷ xs) (expr_numbered (i + 1) e seen m h.1 (around_first seen (literals e) (literals_bound bs) r)))
        (λ m. bindings_numbered j bs (seen ++ literals e) m h.2 (around_then seen (literals e) (literals_bound bs) r))

    pub branches_numbered : (i : ℕ) (bs : Branches) (seen : List Literal) (more : List Node) → BranchesIn text bs → Around seen (literals_branched bs) → numbered text seen (encode_branches own i bs ++ more) ≡ encode_branches number i bs ++ numbered text (seen ++ literals_branched bs) more
    branches_numbered i (tree.last_branch p x e) seen more h r = ap (λ xs. node (form.Branch (pattern_place x)) p (i + (1 + expr_nodes e)) ∷ xs) (expr_numbered (i + 1) e seen more h.1 r)
    branches_numbered i (tree.and_branch p x e bs) seen more h r =
        let j = i + (1 + expr_nodes e) in
        let n = node (form.Branch (pattern_place x)) p j in
        both (n ∷ encode own (i + 1) e) (n ∷ encode number (i + 1) e) (encode_branches own j bs) (encode_branches number j bs) seen (literals e) (literals_branched bs) more
        (λ m. ap (λ xs. n ∷ xs) (expr_numbered (i + 1) e seen m h.1 (around_first seen (literals e) (literals_branched bs) r)))
        (λ m. branches_numbered j bs (seen ++ literals e) m h.2 (around_then seen (literals e) (literals_branched bs) r))

  definition_numbered : (c : Counts) (d : tree.Definition) (seen : List Literal) (more : List Node) → DefinitionIn text d → Around seen (literals_defined d) → numbered text seen (node_row own c d ++ more) ≡ node_row number c d ++ numbered text (seen ++ literals_defined d) more
  definition_numbered c (tree.datatype_definition p x cs) seen more h r = none_seen seen more
  definition_numbered c (tree.type_annotation p x t) seen more h r = none_seen seen more
  definition_numbered c (tree.function_definition p x xs e) seen more h r = expr_numbered c.nodes e seen more h.2 r
  definition_numbered c (tree.val_binding p x e) seen more h r = expr_numbered c.nodes e seen more h.1 r

  pub rows_numbered : (c : Counts) (ds : Script) (seen : List Literal) (more : List Node) → ScriptIn text ds → Around seen (literals_of ds) → numbered text seen (rows (node_row own) c ds ++ more) ≡ rows (node_row number) c ds ++ numbered text (seen ++ literals_of ds) more
  rows_numbered c [] seen more h r = none_seen seen more
  rows_numbered c (d ∷ ds) seen more h r =
      both (node_row own c d) (node_row number c d) (rows (node_row own) (after c d) ds) (rows (node_row number) (after c d) ds) seen (literals_defined d) (literals_of ds) more
      (λ m. definition_numbered c d seen m h.0 (around_first seen (literals_defined d) (literals_of ds) r))
      (λ m. rows_numbered (after c d) ds (seen ++ literals_defined d) m h.1 (around_then seen (literals_defined d) (literals_of ds) r))

-- entries that no node uses
unused_numbered : (text : List ℕ) (seen : List Literal) (k : ℕ) → numbered text seen (replicate k unused) ≡ replicate k unused
unused_numbered text seen zero = refl
unused_numbered text seen (suc k) = ap (λ xs. unused ∷ xs) (unused_numbered text seen k)

-- parts of lists, behind a first one
take_over : (xs ys : List Node) (n : ℕ) → length xs ≤ n → take n (xs ++ ys) ≡ xs ++ take (n - length xs) ys
take_over [] ys n le = let same : n ≡ n - 0 = omega arith in ap (λ m. take m ys) same
take_over (x ∷ xs) ys zero le = absurd (let h : suc (length xs) ≤ 0 = le in omega arith)
take_over (x ∷ xs) ys (suc n) le =
    let same : n - length xs ≡ suc n - suc (length xs) = omega arith in
    ap (λ l. x ∷ l) (take_over xs ys n (omega arith) ∙ ap (λ m. xs ++ take m ys) same)

drop_over : (xs ys : List Node) (n : ℕ) → length xs ≤ n → drop n (xs ++ ys) ≡ drop (n - length xs) ys
drop_over [] ys n le = let same : n ≡ n - 0 = omega arith in ap (λ m. drop m ys) same
drop_over (x ∷ xs) ys zero le = absurd (let h : suc (length xs) ≤ 0 = le in omega arith)
drop_over (x ∷ xs) ys (suc n) le = let same : n - length xs ≡ suc n - suc (length xs) = omega arith in drop_over xs ys n (omega arith) ∙ ap (λ m. drop m ys) same

take_of : (m n : ℕ) → take m (replicate n unused) ≡ replicate (min m n) unused
take_of m n = go (cases_lt m n)
  where
    go : (m < n) ⊎ (n ≤ m) → take m (replicate n unused) ≡ replicate (min m n) unused
    go (inl h) = let same : m ≡ min m n = omega arith in take-replicate m n unused (omega arith) ∙ ap (λ k. replicate k unused) same
    go (inr h) = let same : n ≡ min m n = omega arith in let size = length-replicate n unused in take_all m (replicate n unused) (omega arith) ∙ ap (λ k. replicate k unused) same

-- The first 4096 entries of a node list that has a script's nodes, each symbol with its own place, and unused entries behind them.
pub script_numbered : (text : List ℕ) (script : Script) (k : ℕ) → Derives text script → length (rows (node_row own) none script) ≤ 4096
    → numbered text [] (take 4096 (rows (node_row own) none script ++ replicate k unused)) ++ drop 4096 (rows (node_row own) none script ++ replicate k unused) ≡ nodes_of_script script ++ replicate k unused
script_numbered text script k d few =
    let xs = rows (node_row own) none script in
    let all = literals_of script in
    let rest = 4096 - length xs in
    let front : take 4096 (xs ++ replicate k unused) ≡ xs ++ replicate (min rest k) unused = take_over xs (replicate k unused) 4096 few ∙ ap (λ ys. xs ++ ys) (take_of rest k) in
    let back : drop 4096 (xs ++ replicate k unused) ≡ replicate (k - rest) unused = drop_over xs (replicate k unused) 4096 few ∙ drop-replicate rest k unused in
    let count : min rest k + (k - rest) ≡ k = omega arith in
    let done : numbered text [] (xs ++ replicate (min rest k) unused) ≡ nodes_of_script script ++ replicate (min rest k) unused =
    rows_numbered text all none script [] (replicate (min rest k) unused) (derived_in text script d) (record { later = []; is = sym (append-nil all) }) ∙ ap (λ ys. nodes_of_script script ++ ys) (unused_numbered text all (min rest k)) in
    ap (λ ys. numbered text [] ys ++ drop 4096 (xs ++ replicate k unused)) front ∙ ap (λ ys. ys ++ drop 4096 (xs ++ replicate k unused)) done ∙ ap (λ ys. (nodes_of_script script ++ replicate (min rest k) unused) ++ ys) back
    ∙ append_assoc (nodes_of_script script) (replicate (min rest k) unused) (replicate (k - rest) unused) ∙ ap (λ ys. nodes_of_script script ++ ys) (replicate-append-replicate (min rest k) (k - rest) unused ∙ ap (λ n. replicate n unused) count)
