-- A text that passes the check runs, and its run is that of its script.
use Rattle.std.proofs.Common.{◌≡◌, ℕ, List, Ok, sym, subst}
use Rattle.cells.specs.Meaning.{Cells}
use Rattle.checking.specs.Check.{CheckAnswers}
use Rattle.checking.specs.declared.checks.Checked.{Checked}
use Rattle.grammar.specs.Reading.{reading}
use Rattle.grammar.specs.Trees as tree
use Rattle.layout.specs.declared.node.Node.{Node}
use Rattle.parser.specs.Recording.{Answers, Lawful}
use Rattle.parser.specs.declared.script.Script.{Script}
use Rattle.rehearsal.proofs.Histories.{history_is}
use Rattle.rehearsal.proofs.Judgements.{was_read, accepted_by_check, means_script}
use Rattle.rehearsal.specs.Asking.{MadeAll, history_of}
use Rattle.rehearsal.specs.Judged.{judgement}
use Rattle.rehearsal.specs.declared.asks.Ask.{Ask}
use Rattle.run.specs.Openings.{Means, Made, opening, answers_of}
use Rattle.run.specs.Stands.{Stands}
use Rattle.run.specs.declared.runs.Run.{Run}

module _ (text : List ℕ) (entries : ℕ) (m₀ : Cells) (input : List ℕ) (frames slots allowance : ℕ) (asks after : List Ask) (old new : List ℕ) (run : Run) (m : Cells) where
  pub record Rehearsed : Type 0 where
    pub script : tree.Script
    pub judged : judgement text entries ≡ Ok script
    pub made : MadeAll asks after old new (history_of after new)
    pub stands : Stands (opening script m₀ input frames slots allowance) (history_of after new) run m

  pub rehearsed : (nodes : List Node) (s : Script) (checked : Checked) → Answers (reading text entries) text entries (Ok s) nodes → Lawful text entries (Ok s) nodes → CheckAnswers s text nodes (Ok checked)
      → ((s : tree.Script) → Means checked s → (h : List Made) × MadeAll asks after old new h × Stands (opening s m₀ input frames slots allowance) h run m) → Rehearsed
  rehearsed nodes s checked a l k ran =
      let W = was_read text entries nodes s a l in
      let o = opening W.script m₀ input frames slots allowance in
      let R = ran W.script (means_script text entries nodes s W checked k) in
      let e = history_is asks after old new R.0 (answers_of o R.0) R.1 R.2.answers in
      record {
        script = W.script;
        judged = accepted_by_check text entries nodes s W checked k;
        made = subst (MadeAll asks after old new) (sym e) R.1;
        stands = subst (λ h. Stands o h run m) (sym e) R.2;
      }
