-- All definitions, one after another.
use Rattle.std.proofs.Common.{◌≡◌, ℕ, ◌+◌, ◌≤◌, true, false, List, [], ◌∷◌, length, Ok, Err, Result, sym, refl, ap, ◌∙◌, subst, arith}
use Rattle.std.proofs.lemmas.List.{length-map}
use Rattle.text.specs.Tokens.{Lexeme, Lexed, done, also}
use Rattle.text.specs.declared.refusal.Refused.{Refused}
use Rattle.grammar.specs.Limits.{nodes_of, types_of, bindings_of, datatypes_of, constructors_of}
use Rattle.grammar.specs.Reading.{Tally, Outcome, refused, made, and_then, read_definition, read_definitions}
use Rattle.grammar.specs.Sexps.{Sexp, Sexps, nil, cons}
use Rattle.grammar.specs.Streams.{stream, streams}
use Rattle.grammar.specs.Trees as tree
use Rattle.grammar.proofs.GrammarDefinitions.{ScriptRead, script_sound}
use Rattle.grammar.proofs.GrammarOutcomes.{Used, Fits, Holds, holds}
use Rattle.layout.specs.Tabling.{after, after_all, parameter_types, definition_row, constructor_row, parameter_row, type_row, node_row, rows}
use Rattle.layout.specs.Words.{word}
use Rattle.layout.specs.declared.counts.Counts.{Counts}
use Rattle.layout.specs.declared.node.Node.{Node}
use Rattle.layout.specs.declared.tables.Tables.{Tables}
use Rattle.layout.proofs.ScriptStanding.{length_definition, length_constructed, length_typed, length_nodes}
use Rattle.forms.specs.Drafts.{own}
use Rattle.forms.specs.Progress.{puts}
use Rattle.forms.proofs.LookLaws.{some_token}
use Rattle.forms.proofs.RowLaws.{puts-++}
use Rattle.parser.specs.Defining.{Bounded, Tallied, noted_with_all, Defined, DefinedOne, ToldDefinition, OnDefinition, ToldDefinitions, OnDefinitions, AtEnd}

-- What one definition counts.
record DefinitionUsed (entries : ℕ) (n : Tally) (d : tree.Definition) (m : Tally) : Type 0 where
  used : Used n m (nodes_of d) (types_of d) (bindings_of d) (datatypes_of d) (constructors_of d)
  fits : Fits entries m

definition_used : (entries : ℕ) (s : Sexp) (n : Tally) → Fits entries n → (d : tree.Definition) (m : Tally) → read_definition entries s n ≡ made d m → DefinitionUsed entries n d m
definition_used entries s n f d m e =
    one (read_definition entries s n) e (script_sound entries (cons s nil) n f)
  where
    inner : Holds (ScriptRead entries (cons s nil) n) (made (d ∷ []) m) → DefinitionUsed entries n d m
    inner (holds h) =
        let u = h.used in
        let a = u.more_nodes in
        let b = u.more_types in
        let c = u.more_bindings in
        let p = u.more_datatypes in
        let q = u.more_constructors in
        record { used = record { more_nodes = omega arith; more_types = omega arith; more_bindings = omega arith; more_datatypes = omega arith; more_constructors = omega arith }; fits = h.fits }

    one : (o : Outcome tree.Definition) → o ≡ made d m → Holds (ScriptRead entries (cons s nil) n) (and_then o (λ d n. and_then (read_definitions entries nil n) (λ ds n. made (d ∷ ds) n))) → DefinitionUsed entries n d m
    one o e h = inner (subst (λ o. Holds (ScriptRead entries (cons s nil) n) (and_then o (λ d n. and_then (read_definitions entries nil n) (λ ds n. made (d ∷ ds) n)))) e h)

-- a row behind the rows before it
module _ {E : Type 0} (row : Counts → tree.Definition → List E) (count : Counts → ℕ) where
  row_then : (xs now then : List E) (c c' : Counts) (d : tree.Definition) (ds : tree.Script) → c' ≡ after c d → count (after c d) ≡ count c + length (row c d)
      → now ≡ puts xs (count c) (row c d) → then ≡ puts now (count c') (rows row c' ds) → then ≡ puts xs (count c) (rows row c (d ∷ ds))
  row_then xs now then c c' d ds same size one more =
      more ∙ ap (λ ys. puts ys (count c') (rows row c' ds)) one ∙ ap (λ k. puts (puts xs (count c) (row c d)) (count k) (rows row k ds)) same
      ∙ ap (λ j. puts (puts xs (count c) (row c d)) j (rows row (after c d) ds)) size ∙ sym (puts-++ xs (count c) (row c d) (rows row (after c d) ds))

-- the tables after one definition, and then after others
defined_then : (text : List ℕ) (t now then : Tables) (ns ms : List Node) (d : tree.Definition) (ds : tree.Script) → DefinedOne text t now ns ms d → Defined text now then ds → Defined text t then (d ∷ ds)
defined_then text t now then ns ms d ds one more =
    let c = t.counts in
    let size_definition = length_definition c d in
    let size_constructors = length_constructed c d in
    let size_types = length_typed c d in
    let size_parameters : length (parameter_row c d) ≡ length (parameter_types d) = length-map (parameter_types d) word in
    let next : now.counts.definitions ≡ c.definitions + 1 = ap (λ k. k.definitions) one.counts in
    record {
      counts = more.counts ∙ ap (λ k. after_all k ds) one.counts;
      definitions = row_then definition_row (λ k. k.definitions) t.definitions now.definitions then.definitions c now.counts d ds one.counts (omega arith) one.definitions more.definitions;
      constructors = row_then constructor_row (λ k. k.constructors) t.constructors now.constructors then.constructors c now.counts d ds one.counts (omega arith) one.constructors more.constructors;
      parameters = row_then parameter_row (λ k. k.parameters) t.parameters now.parameters then.parameters c now.counts d ds one.counts (omega arith) one.parameters more.parameters;
      types = row_then type_row (λ k. k.types) t.types now.types then.types c now.counts d ds one.counts (omega arith) one.types more.types;
      functions = more.functions ∙ ap (λ k. noted_with_all text k ds now.functions) next ∙ ap (noted_with_all text (c.definitions + 1) ds) one.functions;
    }

-- the tally after one definition
tallied_then : (n m : Tally) (c c' : Counts) (d : tree.Definition) → Tallied n c → Used n m (nodes_of d) (types_of d) (bindings_of d) (datatypes_of d) (constructors_of d) → c' ≡ after c d → Tallied m c'
tallied_then n m c c' d u used e =
    let a = ap (λ k. k.nodes) e in
    let b = ap (λ k. k.types) e in
    let p = ap (λ k. k.bindings) e in
    let q = ap (λ k. k.datatypes) e in
    let r = ap (λ k. k.constructors) e in
    record { nodes = omega arith; types = omega arith; bindings = omega arith; datatypes = omega arith; constructors = omega arith }

fits_now : (entries : ℕ) (n : Tally) (t : Tables) → Bounded t → Tallied n t.counts → n.nodes ≤ entries → Fits entries n
fits_now entries n t b u few =
    record { for_nodes = omega arith; for_entries = omega arith; for_types = omega arith; for_bindings = omega arith; for_datatypes = omega arith; for_constructors = omega arith }

no_token : (ss : Sexps) → ((t : Lexeme) (rest : Lexed) → streams ss done ≡ also t rest → ⊥) → ss ≡ nil
no_token nil h = refl
no_token (cons s ss) h = absurd (some_token (stream s (streams ss done)) s (streams ss done) h refl)

module _ (text : List ℕ) (entries at : ℕ) (t : Tables) (ns : List Node) where
  pub all_end : AtEnd text at true → OnDefinitions text entries at t ns (Ok tt) t ns
  all_end end ss n e a u few =
      let none = no_token ss (λ x rest f. end x rest (e ∙ f)) in
      subst (λ ss. ToldDefinitions text t ns (read_definitions entries ss n) (Ok tt) t ns) (sym none)
      (record { counts = refl; definitions = refl; constructors = refl; parameters = refl; types = refl; functions = refl }, refl)

  module _ (more : AtEnd text at false) where
    pub all_stop : (z : Refused) (t' : Tables) (ns' : List Node) → OnDefinition text at t ns (read_definition entries) (Err z) t' ns' → OnDefinitions text entries at t ns (Err z) t' ns'
    all_stop z t' ns' told nil n e a u few = absurd (let q : done ≡ also more.0 more.1.0 = sym e ∙ more.1.1 in cc)
    all_stop z t' ns' told (cons s ss) n e a u few = go (read_definition entries s n) (told s (streams ss done) n e a.0 u)
      where
        go : (o : Outcome tree.Definition) → ToldDefinition text (streams ss done) t ns o (Err z) t' ns' → ToldDefinitions text t ns (and_then o (λ d n. and_then (read_definitions entries ss n) (λ ds n. made (d ∷ ds) n))) (Err z) t' ns'
        go (refused y) h = let same : z ≡ y = cc in ap Err same
        go (made d m) h = absurd h

    pub all_next : Bounded t → (behind : ℕ) (now : Tables) (ms : List Node) → OnDefinition text at t ns (read_definition entries) (Ok behind) now ms → (r : Result (Unit {0}) Refused) (t' : Tables) (ns' : List Node)
        → OnDefinitions text entries behind now ms r t' ns' → OnDefinitions text entries at t ns r t' ns'
    all_next bounds behind now ms told r t' ns' others nil n e a u few = absurd (let q : done ≡ also more.0 more.1.0 = sym e ∙ more.1.1 in cc)
    all_next bounds behind now ms told r t' ns' others (cons s ss) n e a u few =
        go (read_definition entries s n) refl (told s (streams ss done) n e a.0 u) r others
      where
        last : (d : tree.Definition) → DefinedOne text t now ns ms d → (o : Outcome tree.Script) (r : Result (Unit {0}) Refused) → ToldDefinitions text now ms o r t' ns' → ToldDefinitions text t ns (and_then o (λ ds n. made (d ∷ ds) n)) r t' ns'
        last d one (refused y) r h = h
        last d one (made ds k) (Err y) h = absurd h
        last d one (made ds k) (Ok v) h =
            let size = length_nodes own t.counts d in
            (defined_then text t now t' ns ms d ds one h.0, row_then (node_row own) (λ k. k.nodes) ns ms ns' t.counts now.counts d ds one.counts (omega arith) one.nodes h.1)

        go : (o : Outcome tree.Definition) → read_definition entries s n ≡ o → ToldDefinition text (streams ss done) t ns o (Ok behind) now ms → (r : Result (Unit {0}) Refused) → OnDefinitions text entries behind now ms r t' ns'
            → ToldDefinitions text t ns (and_then o (λ d n. and_then (read_definitions entries ss n) (λ ds n. made (d ∷ ds) n))) r t' ns'
        go (refused y) f h r others = absurd (cc)
        go (made d m) f h r others =
            let used = definition_used entries s n (fits_now entries n t bounds u few) d m f in
            let fits = used.fits in
            last d h.1 (read_definitions entries ss m) r (others ss m h.0 a.1 (tallied_then n m t.counts now.counts d u used.used h.1.counts) (omega (arith, fits.for_entries)))

-- In the middle: what is told of the rest is told of the whole.
abbrev pub CarriesDefinitions : List ℕ → ℕ → ℕ → Tables → List Node → ℕ → Tables → List Node → Type 0
CarriesDefinitions text entries from t ns at now ms = (r : Result (Unit {0}) Refused) (t' : Tables) (ns' : List Node) → OnDefinitions text entries at now ms r t' ns' → OnDefinitions text entries from t ns r t' ns'
