-- What reading answers, from what its parts answer.
use Rattle.std.proofs.Common.{◌≡◌, ℕ, ◌-◌, ◌≤◌, min, List, [], ◌++◌, length, take, drop, replicate, Ok, Err, Result, sym, refl, ap, ◌∙◌, subst, arith}
use Rattle.std.proofs.lemmas.List.{length-append, length-replicate, take-take, take_at}
use Rattle.text.specs.Scans.{scan}
use Rattle.text.specs.Tokens.{Lexeme, done, lexed_from}
use Rattle.text.specs.declared.refusal.Refused.{Refused}
use Rattle.text.proofs.GrammarLaws.{scan_tokens}
use Rattle.grammar.specs.Limits.{nodes_of, total}
use Rattle.grammar.specs.Reading.{Outcome, refused, made, read_definitions, fresh, concluded, on_tokens, reading}
use Rattle.grammar.specs.Sexps.{nested}
use Rattle.grammar.specs.Streams.{streams}
use Rattle.grammar.specs.Trees as tree
use Rattle.grammar.proofs.GrammarLaws.{reads}
use Rattle.grammar.proofs.GrammarNesting.{nested_stands}
use Rattle.grammar.proofs.StreamLaws.{scan_streams}
use Rattle.layout.specs.Encoding.{unused}
use Rattle.layout.specs.Literals.{symbol_number}
use Rattle.layout.specs.Scripts.{ScriptStands}
use Rattle.layout.specs.Tabling.{none, node_row, rows, filled, tables_of, nodes_of_script, node_list}
use Rattle.layout.specs.declared.node.Node.{Node}
use Rattle.layout.specs.declared.tables.Tables.{Tables}
use Rattle.layout.proofs.InText.{derived_in}
use Rattle.layout.proofs.ScriptStanding.{script_stands, script_only}
use Rattle.forms.specs.Drafts.{own}
use Rattle.symbols.specs.Numbering.{numbered}
use Rattle.symbols.proofs.Whole.{script_numbered}
use Rattle.parser.specs.Defining.{Bounded, Tallied, ToldDefinitions, OnDefinitions}
use Rattle.parser.specs.Recording.{Recorded, Answers, Lawful}
use Rattle.parser.specs.declared.script.Script.{Script}
use Rattle.parser.proofs.TableLaws.{puts_filled, rows_nodes, nodes_counted, tables_are}

-- What reading answers by its definition, it answers by the grammar.
pub lawful : (text : List ℕ) (entries : ℕ) (r : Result Script Refused) (after : List Node) → Answers (reading text entries) text entries r after → Lawful text entries r after
lawful text entries r after a = go (reading text entries) refl r a
  where
    go : (o : Result tree.Script Refused) → reading text entries ≡ o → (r : Result Script Refused) → Answers o text entries r after → Lawful text entries r after
    go (Err x) e (Err y) a = λ script d w. reads.refused text entries x script e d w
    go (Err x) e (Ok s) a = absurd a
    go (Ok script) e (Err y) a = absurd a
    go (Ok script) e (Ok s) a =
        let d = reads.derived text entries script e in
        let stands : ScriptStands text after s.tables script =
        subst (λ t. ScriptStands text after t script) (sym a.0.tables_are) (subst (λ ns. ScriptStands text ns (tables_of script) script) (sym a.1) (script_stands text script entries d)) in (
          script,
          record {
            derived = d;
            within = reads.within text entries script e;
            only = λ other h. reads.one text other script h d;
            recorded = a.0;
            stands = stands;
            only_stands = λ other h. script_only text after s.tables other script h stands;
          },
        )

-- A text that passes the token layer.
module _ (text : List ℕ) (entries : ℕ) (ts : List Lexeme) (scanned : scan text ≡ Ok ts) where
  forms_read : reading text entries ≡ concluded (read_definitions entries (nested ts) fresh)
  forms_read = ap (on_tokens entries) scanned

  stands_nested : lexed_from text 0 ≡ streams (nested ts) done
  stands_nested = scan_streams text ts (nested ts) scanned (nested_stands text ts (scan_tokens text ts scanned))

  start : Tallied fresh (tables_of []).counts
  start = record { nodes = refl; types = refl; bindings = refl; datatypes = refl; constructors = refl }

  -- what is told of its definitions
  told_all : (t : Tables) (r : Result (Unit {0}) Refused) (ns : List Node) → OnDefinitions text entries 0 (tables_of []) (replicate entries unused) r t ns
      → ToldDefinitions text (tables_of []) (replicate entries unused) (read_definitions entries (nested ts) fresh) r t ns
  told_all t r ns told = told (nested ts) fresh stands_nested (nested_stands text ts (scan_tokens text ts scanned)).atoms start (omega arith)

  pub read_refused : (z : Refused) (t : Tables) (ns : List Node) → OnDefinitions text entries 0 (tables_of []) (replicate entries unused) (Err z) t ns → Answers (reading text entries) text entries (Err z) (replicate entries unused)
  read_refused z t ns told =
      subst (λ o. Answers o text entries (Err z) (replicate entries unused)) (sym forms_read) (go (read_definitions entries (nested ts) fresh) (told_all t (Err z) ns told))
    where
      go : (o : Outcome tree.Script) → ToldDefinitions text (tables_of []) (replicate entries unused) o (Err z) t ns → Answers (concluded o) text entries (Err z) (replicate entries unused)
      go (refused x) h = let same : z ≡ x = cc in (same, refl)
      go (made ds n) h = absurd h

  module _ (t : Tables) (drafts after : List Node) (bounds : Bounded t) (told : OnDefinitions text entries 0 (tables_of []) (replicate entries unused) (Ok tt) t drafts)
      (numbers : after ≡ numbered text [] (take 4096 drafts) ++ drop 4096 drafts) where
    pub read_made : (s : Script) → s.text.now ≡ text → s.lent ≡ length after → s.tables ≡ t → take (min (length after) 4096) s.nodes ≡ take 4096 after → Answers (reading text entries) text entries (Ok s) after
    read_made s text_is lent_is tables_is copied = go (read_definitions entries (nested ts) fresh) refl (told_all t (Ok tt) drafts told)
      where
        go : (o : Outcome tree.Script) → read_definitions entries (nested ts) fresh ≡ o → ToldDefinitions text (tables_of []) (replicate entries unused) o (Ok tt) t drafts → Answers (reading text entries) text entries (Ok s) after
        go (refused x) e h = absurd (cc)
        go (made ds n) e h =
            let is : reading text entries ≡ Ok ds = forms_read ∙ ap concluded e in
            let d = reads.derived text entries ds is in
            let w = reads.within text entries ds is in
            let few = w.nodes in
            let entered = w.entered in
            let bodies = rows (node_row own) none ds in
            let own_size : length bodies ≡ total nodes_of ds = rows_nodes own none ds in
            let size : length (nodes_of_script ds) ≡ total nodes_of ds = rows_nodes (λ p x. symbol_number ds x) none ds in
            let lies : drafts ≡ bodies ++ replicate (entries - length bodies) unused = h.1 ∙ puts_filled unused entries bodies (omega arith) in
            let rest : entries - length bodies ≡ entries - length (nodes_of_script ds) = omega arith in
            let whole : after ≡ node_list entries ds =
            numbers ∙ ap (λ ns. numbered text [] (take 4096 ns) ++ drop 4096 ns) lies ∙ script_numbered text ds (entries - length bodies) d (omega arith) ∙ ap (λ k. nodes_of_script ds ++ replicate k unused) rest in
            let tables : t ≡ tables_of ds = tables_are text t ds bounds h.0 (derived_in text ds d) in
            let long : length after ≡ entries =
            ap length whole ∙ (let a = length-append (nodes_of_script ds) (replicate (entries - length (nodes_of_script ds)) unused) in let b = length-replicate (entries - length (nodes_of_script ds)) unused in omega arith) in
            let lent : s.lent ≡ entries = lent_is ∙ long in
            let count : s.tables.counts.nodes ≡ total nodes_of ds = ap (λ t. t.counts.nodes) (tables_is ∙ tables) ∙ nodes_counted none ds ∙ (omega arith) in
            let k = total nodes_of ds in
            let within : k ≤ min (length after) 4096 = omega arith in
            let used : take s.tables.counts.nodes s.nodes ≡ nodes_of_script ds =
            ap (λ m. take m s.nodes) count ∙ sym (take-take k (min (length after) 4096) s.nodes within) ∙ ap (take k) copied ∙ take-take k 4096 after few
            ∙ ap (take k) whole ∙ take_at (nodes_of_script ds) (replicate (entries - length (nodes_of_script ds)) unused) k size in
            let recorded : Recorded s text after ds = record {
              text_is = text_is;
              nodes_are = ap (filled s.lent unused) used ∙ ap (λ m. filled m unused (nodes_of_script ds)) lent ∙ sym whole;
              tables_are = tables_is ∙ tables;
            } in
            subst (λ o. Answers o text entries (Ok s) after) (sym is) (recorded, whole)

-- what is told of the same things under other names
pub under_names : (src text : List ℕ) → src ≡ text → (n entries : ℕ) → n ≡ entries → (t0 : Tables) → t0 ≡ tables_of [] → (ns0 : List Node) → ns0 ≡ replicate entries unused → (r : Result (Unit {0}) Refused) (t : Tables) (ns : List Node)
    → OnDefinitions src n 0 t0 ns0 r t ns → OnDefinitions text entries 0 (tables_of []) (replicate entries unused) r t ns
under_names src text is n entries size t0 blank ns0 clear r t ns told =
    subst (λ x. OnDefinitions text entries 0 (tables_of []) x r t ns) clear
    (subst (λ x. OnDefinitions text entries 0 x ns0 r t ns) blank
    (subst (λ x. OnDefinitions text x 0 t0 ns0 r t ns) size
    (subst (λ x. OnDefinitions x n 0 t0 ns0 r t ns) is told)))

pub read_unlexed : (text : List ℕ) (entries : ℕ) (z : Refused) → scan text ≡ Err z → Answers (reading text entries) text entries (Err z) (replicate entries unused)
read_unlexed text entries z e = subst (λ o. Answers o text entries (Err z) (replicate entries unused)) (sym (ap (on_tokens entries) e)) (refl, refl)
