-- The check of a whole script.
use Rattle.std.specs.Prelude.{nat_le}
use Rattle.std.proofs.lemmas.Bool.{leb-true, leb-false}
use Rattle.std.proofs.lemmas.List.{take-replicate, take_all, length-take, length-replicate}
use Rattle.std.proofs.Math.Seq.{take-append-add}
use Rattle.std.proofs.Common.{Bool, true, false, ◌≡◌, ℕ, ◌-◌, ◌≤◌, List, [], ◌++◌, length, take, min, replicate, codes, Ok, Err, Result, sym, refl, ap, ◌∙◌, subst, arith}
use Rattle.checking.specs.Check.{IsUnchanged, Judges, CheckAnswers}
use Rattle.checking.specs.Drafting.{Setting}
use Rattle.checking.specs.Whole.{BodiesAnswer}
use Rattle.checking.specs.declared.checks.Checked.{Checked}
use Rattle.globals.specs.declared.whole.Globals.{Globals}
use Rattle.layout.specs.Literals.{symbol_number}
use Rattle.parser.proofs.TableLaws.{rows_nodes}
use Rattle.program.specs.declared.compiled.Compiled.{Compiled}
use Rattle.globals.proofs.LaidLaws.{laid_by}
use Rattle.globals.specs.Known.{Known, whole_verdict, IsWhole}
use Rattle.globals.specs.Lying.{Laid}
use Rattle.grammar.specs.Trees as tree
use Rattle.layout.proofs.ScriptStanding.{script_stands}
use Rattle.layout.specs.Encoding.{unused}
use Rattle.layout.specs.Scripts.{ScriptStands}
use Rattle.layout.specs.Tabling.{filled, none, nodes_of_script, tables_of, node_list}
use Rattle.layout.specs.declared.node.Node.{Node}
use Rattle.layout.specs.declared.tables.Tables.{Tables}
use Rattle.parser.specs.Recording.{Accepted}
use Rattle.parser.specs.declared.script.Script.{Script}
use Rattle.program.specs.Programs.{Program, program, first_of}
use Rattle.script_refusals.specs.declared.refusal.Refused.{Refused}
use Rattle.typing.proofs.Verdicts.{is_allowed, allowed_is}
use Rattle.typing.specs.Scripts.{Allowed, basis_names}
use Rattle.typing.specs.Verdict.{Verdict, accepted, refused, before, once_all, each, stated, paired, main_stands, bodies, verdict}

whole_first : (a b c d e : Verdict) → before a (before b (before c (before d e))) ≡ before (before a (before b (before c d))) e
whole_first (refused r) b c d e = refl
whole_first accepted (refused r) c d e = refl
whole_first accepted accepted (refused r) d e = refl
whole_first accepted accepted accepted d e = refl

last_accepted : (a b c d : Verdict) → before a (before b (before c d)) ≡ accepted → d ≡ accepted
last_accepted (refused r) b c d e = absurd (cc)
last_accepted accepted (refused r) c d e = absurd (cc)
last_accepted accepted accepted (refused r) d e = absurd (cc)
last_accepted accepted accepted accepted d e = e

module _ (script : tree.Script) where
  abbrev P : Program
  P = program script

  -- first the rules for the whole, then the bodies
  verdict_by : verdict script ≡ before (whole_verdict P script) (bodies P [] script)
  verdict_by = whole_first (once_all basis_names basis_names [] script) (each (stated P) script) (each (paired P) script) (main_stands P (first_of (λ d. d.name) (codes "main") P.defines)) (bodies P [] script)

  pub whole_refused : (r : Refused) → whole_verdict P script ≡ refused r → verdict script ≡ refused r
  whole_refused r e = verdict_by ∙ ap (λ v. before v (bodies P [] script)) e

  pub whole_accepted : whole_verdict P script ≡ accepted → verdict script ≡ bodies P [] script
  whole_accepted e = verdict_by ∙ ap (λ v. before v (bodies P [] script)) e

  pub main_accepted : whole_verdict P script ≡ accepted → main_stands P (first_of (λ d. d.name) (codes "main") P.defines) ≡ accepted
  main_accepted e = last_accepted (once_all basis_names basis_names [] script) (each (stated P) script) (each (paired P) script) (main_stands P (first_of (λ d. d.name) (codes "main") P.defines)) e

-- a list that is filled up to some length, cut at another
take_filled : {E : Type 0} (n entries : ℕ) (x : E) (xs : List E) → length xs ≤ n → take n (filled entries x xs) ≡ filled (min entries n) x xs
take_filled n entries x xs low =
    ap (λ k. take k (xs ++ replicate (entries - length xs) x)) (omega arith) ∙ take-append-add xs (replicate (entries - length xs) x) (n - length xs) ∙ ap (λ ys. xs ++ ys) (cut (n - length xs) (entries - length xs) (omega arith))
  where
    cut : (k m : ℕ) → min m k ≡ min entries n - length xs → take k (replicate m x) ≡ replicate (min entries n - length xs) x
    cut k m e = go (nat_le k m) refl
      where
        go : (b : Bool) → nat_le k m ≡ b → take k (replicate m x) ≡ replicate (min entries n - length xs) x
        go true h = let low = leb-true k m h in take-replicate k m x low ∙ ap (λ j. replicate j x) (omega arith)
        go false h = let high = leb-false k m h in take_all k (replicate m x) (omega (arith, length-replicate m x)) ∙ ap (λ j. replicate j x) (omega arith)

refused_allowed : (script : tree.Script) (r : Refused) → verdict script ≡ refused r → Allowed script → ⊥
refused_allowed script r v allowed = apart (sym v ∙ allowed_is script allowed)
  where
    apart : refused r ≡ accepted → ⊥
    apart e = absurd (cc)

take_min : {E : Type 0} (n : ℕ) (xs : List E) → take (min (length xs) n) xs ≡ take n xs
take_min n xs = go (nat_le n (length xs)) refl
  where
    go : (b : Bool) → nat_le n (length xs) ≡ b → take (min (length xs) n) xs ≡ take n xs
    go true h = let low = leb-true n (length xs) h in ap (λ k. take k xs) (omega arith)
    go false h = let high = leb-false n (length xs) h in ap (λ k. take k xs) (omega arith) ∙ take_all (length xs) xs (omega arith) ∙ sym (take_all n xs (omega arith))

-- A script that reading answered, and a text and a node list that are still those.
module _ (s : Script) (text : List ℕ) (nodes : List Node) (unchanged : IsUnchanged s text nodes) (script : tree.Script) (read : List ℕ) (entries : ℕ) (a : Accepted s read entries (node_list entries script) script) where
  text_read : s.text.now ≡ read
  text_read = a.recorded.text_is

  pub laid : Laid s.text.now s.tables script
  laid = subst (λ t. Laid t s.tables script) (sym text_read) (laid_by read s.tables script entries a.derived a.within a.recorded.tables_are)

  -- the entries that a script can use
  abbrev lent : List Node
  lent = take (min (length nodes) 4096) nodes

  lent_is : lent ≡ node_list (min entries 4096) script
  lent_is =
      let few = a.within.nodes in
      let size = rows_nodes (λ p w. symbol_number script w) none script in
      take_min 4096 nodes ∙ ap (take 4096) (unchanged.nodes_are ∙ a.recorded.nodes_are) ∙ take_filled 4096 entries unused (nodes_of_script script) (omega arith)

  pub stands : ScriptStands s.text.now lent s.tables script
  stands =
      subst (λ t. ScriptStands t lent s.tables script) (sym text_read)
      (subst (λ t. ScriptStands read lent t script) (sym a.recorded.tables_are)
      (subst (λ ns. ScriptStands read ns (tables_of script) script) (sym lent_is) (script_stands read script (min entries 4096) a.derived)))

  pub setting : (g : Globals) → Known s.text.now g script → Setting s.text.now lent s.tables g script
  setting g known = record {
    short = subst (λ t. length t ≤ 65535) (sym text_read) a.derived.lexical.short;
    few = let l = length-take (min (length nodes) 4096) nodes in omega arith;
    known = known;
    six = a.within.six;
  }

  -- the bodies are judged of the same text, nodes and tables, under their names there
  pub bodies_in : (g : Globals) → Known s.text.now g script → main_stands (program script) (first_of (λ d. d.name) (codes "main") (program script).defines) ≡ accepted
      → (src : List ℕ) → src ≡ s.text.now → (tables : Tables) → tables ≡ s.tables → (n : ℕ) → n ≡ min (length nodes) 4096 → (result : Result Compiled Refused)
      → ((script : tree.Script) → Setting src (take n nodes) tables g script → Laid src tables script → ScriptStands src (take n nodes) tables script
      → main_stands (program script) (first_of (λ d. d.name) (codes "main") (program script).defines) ≡ accepted → BodiesAnswer script result)
      → BodiesAnswer script result
  bodies_in g known main src src_is tables tables_is n n_is result says =
      says script
      (subst (λ x. Setting x (take n nodes) tables g script) (sym src_is) (subst (λ k. Setting s.text.now (take k nodes) tables g script) (sym n_is) (subst (λ t. Setting s.text.now lent t g script) (sym tables_is) (setting g known))))
      (subst (λ x. Laid x tables script) (sym src_is) (subst (λ t. Laid s.text.now t script) (sym tables_is) laid))
      (subst (λ x. ScriptStands x (take n nodes) tables script) (sym src_is) (subst (λ k. ScriptStands s.text.now (take k nodes) tables script) (sym n_is) (subst (λ t. ScriptStands s.text.now lent t script) (sym tables_is) stands)))
      main

  pub globals_refused : (r : Refused) → IsWhole s.text.now script (Err r) → Judges script s (Err r)
  globals_refused r w = let v = whole_refused script r w in record { verdict_is = v; not_allowed = refused_allowed script r v }

  module _ (g : Globals) (w : IsWhole s.text.now script (Ok g)) where
    pub bodies_refused : (r : Refused) → BodiesAnswer script (Err r) → Judges script s (Err r)
    bodies_refused r b = let v = whole_accepted script w.0 ∙ b in record { verdict_is = v; not_allowed = refused_allowed script r v }

    pub bodies_accepted : (code : Compiled) (c : Checked) → BodiesAnswer script (Ok code) → c.code ≡ code → c.text.now ≡ s.text.now → c.counts ≡ s.tables.counts → Judges script s (Ok c)
    bodies_accepted code c b e t n = let v = whole_accepted script w.0 ∙ b.0 in record { verdict_is = v; allowed = is_allowed script v; code = e ∙ b.1; text = t; counts = n }

-- what is answered of an unchanged text and list
pub judged_here : (s : Script) (text : List ℕ) (nodes : List Node) (result : Result Checked Refused) → IsUnchanged s text nodes
    → ((script : tree.Script) (read : List ℕ) (entries : ℕ) → Accepted s read entries (node_list entries script) script → Judges script s result) → CheckAnswers s text nodes result
judged_here s text nodes result here judged = record { changed = λ n. absurd (n here); judged = λ u. judged }
