-- A text that is read and checked.
use Rattle.std.proofs.Common.{◌≡◌, ℕ, List, Ok, Err, Result, sym, refl, ap, ◌∙◌, subst}
use Rattle.checking.specs.Check.{IsUnchanged, CheckAnswers}
use Rattle.checking.specs.declared.checks.Checked.{Checked}
use Rattle.grammar.specs.Grammar.{Derives}
use Rattle.grammar.specs.Reading.{reading}
use Rattle.grammar.specs.Trees as tree
use Rattle.grammar.proofs.GrammarLaws.{reads}
use Rattle.layout.specs.Tabling.{node_list}
use Rattle.layout.specs.declared.node.Node.{Node}
use Rattle.parser.specs.Recording.{Answers, Accepted, Lawful}
use Rattle.parser.specs.declared.script.Script.{Script}
use Rattle.rehearsal.specs.Judged.{unread, on_verdict, on_reading, judgement, Judged}
use Rattle.run.specs.Openings.{Means}
use Rattle.script_refusals.specs.declared.refusal.Refused.{Refused}
use Rattle.text.specs.declared.refusal.Refused.{Refused as Unread}

-- what was read, by the definition of reading and by the grammar
pub record WasRead (text : List ℕ) (entries : ℕ) (s : Script) (after : List Node) : Type 0 where
  pub script : tree.Script
  pub is : reading text entries ≡ Ok script
  pub accepted : Accepted s text entries (node_list entries script) script
  pub unchanged : IsUnchanged s text after

module _ (text : List ℕ) (entries : ℕ) (after : List Node) where
  pub was_read : (s : Script) → Answers (reading text entries) text entries (Ok s) after → Lawful text entries (Ok s) after → WasRead text entries s after
  was_read s a l = by (reading text entries) refl a
    where
      by : (o : Result tree.Script Unread) → reading text entries ≡ o → Answers o text entries (Ok s) after → WasRead text entries s after
      by (Err x) e a = absurd a
      by (Ok script) e a =
          let same : script ≡ l.0 = l.1.only script (reads.derived text entries script e) in
          let here : Accepted s text entries after script = subst (Accepted s text entries after) (sym same) l.1 in
          record {
            script = script;
            is = e;
            accepted = subst (λ ns. Accepted s text entries ns script) a.1 here;
            unchanged = record { text_is = sym a.0.text_is; nodes_are = sym a.0.nodes_are };
          }

  -- reading refuses the text
  pub refused_in_reading : (x : Unread) (r : Refused) → Answers (reading text entries) text entries (Err x) after → r ≡ unread x → judgement text entries ≡ Err r
  refused_in_reading x r a e = by (reading text entries) refl a
    where
      by : (o : Result tree.Script Unread) → reading text entries ≡ o → Answers o text entries (Err x) after → judgement text entries ≡ Err r
      by (Err y) q a = ap on_reading q ∙ ap (λ (r : Refused). Err r) (ap unread (sym a.0) ∙ sym e)
      by (Ok script) q a = absurd a

  module _ (s : Script) (w : WasRead text entries s after) where
    -- the check refuses it
    pub refused_in_check : (r : Refused) → CheckAnswers s text after (Err r) → judgement text entries ≡ Err r
    refused_in_check r c =
        let j = c.judged w.unchanged w.script text entries w.accepted in
        ap on_reading w.is ∙ ap (on_verdict w.script) j.verdict_is

    -- or it is accepted, and is this script
    pub accepted_by_check : (c : Checked) → CheckAnswers s text after (Ok c) → judgement text entries ≡ Ok w.script
    accepted_by_check c k =
        let j = k.judged w.unchanged w.script text entries w.accepted in
        ap on_reading w.is ∙ ap (on_verdict w.script) j.verdict_is

    pub means_script : (c : Checked) → CheckAnswers s text after (Ok c) → Means c w.script
    means_script c k =
        let j = k.judged w.unchanged w.script text entries w.accepted in
        record {
          derived = subst (λ t. Derives t w.script) (sym (j.text ∙ w.accepted.recorded.text_is)) w.accepted.derived;
          six = w.accepted.within.six;
          allowed = j.allowed;
          code = j.code;
        }

-- what is promised of a refusal, and of what was found
pub judged_refused : {X : Type 0} {j : Result tree.Script Refused} (Q : tree.Script → X → Type 0) {x : Result X Refused} (r : Refused) → j ≡ Err r → x ≡ Err r → Judged j Q x
judged_refused {j = j} Q r e k = subst (λ x. Judged j Q x) (sym k) (subst (λ j. Judged j Q (Err r)) (sym e) refl)

pub judged_found : {X : Type 0} {j : Result tree.Script Refused} (Q : tree.Script → X → Type 0) {x : X} (s : tree.Script) → j ≡ Ok s → Q s x → Judged j Q (Ok x)
judged_found Q {x = x} s e q = subst (λ j. Judged j Q (Ok x)) (sym e) q

pub judged_so : {X Y : Type 0} (j : Result tree.Script Refused) (Q : tree.Script → X → Type 0) {x : X} → Judged j Q (Ok x) → ((s : tree.Script) → Q s x → Y) → Y
judged_so (Ok s) Q h f = f s h
judged_so (Err r) Q h f = absurd h

pub judged_then : {X Y : Type 0} (j : Result tree.Script Refused) (Q : tree.Script → X → Type 0) (R : tree.Script → Y → Type 0) {x : X} {y : Y} → Judged j Q (Ok x) → ((s : tree.Script) → Q s x → R s y) → Judged j R (Ok y)
judged_then (Ok s) Q R h f = f s h
judged_then (Err r) Q R h f = absurd h
