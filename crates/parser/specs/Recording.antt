-- What a script that was read records, and what reading answers.
use Rattle.std.specs.Prelude.{◌≡◌, ℕ, List, take, replicate, Ok, Err, Result}
use Rattle.text.specs.declared.refusal.Refused.{Refused}
use Rattle.grammar.specs.Grammar.{Derives}
use Rattle.grammar.specs.Limits.{Within}
use Rattle.grammar.specs.Trees as tree
use Rattle.layout.specs.Encoding.{unused}
use Rattle.layout.specs.Scripts.{ScriptStands}
use Rattle.layout.specs.Tabling.{filled, tables_of, node_list}
use Rattle.layout.specs.declared.node.Node.{Node}
use Rattle.parser.specs.declared.script.Script.{Script}

-- the nodes of a script, by what it records
abbrev pub used : Script → List Node
used s = take s.tables.counts.nodes s.nodes

-- the node list that reading left, by what the script records: the used nodes, and unused entries up to the length of the list that was lent
abbrev pub left : Script → List Node
left s = filled s.lent unused (used s)

-- A script records the text, the list as reading left it, and the tables of this tree.
pub record Recorded (s : Script) (text : List ℕ) (ns : List Node) (script : tree.Script) : Type 0 where
  pub text_is : s.text.now ≡ text
  pub nodes_are : left s ≡ ns
  pub tables_are : s.tables ≡ tables_of script

-- What reading answers, and how it leaves the node list, by the definition of reading: after a refusal every entry is unused.
abbrev pub Answers : Result tree.Script Refused → List ℕ → ℕ → Result Script Refused → List Node → Type 0
Answers (Err x) text entries (Err y) after = (y ≡ x) × (after ≡ replicate entries unused)
Answers (Err x) text entries (Ok s) after = ⊥
Answers (Ok script) text entries (Ok s) after = Recorded s text after script × (after ≡ node_list entries script)
Answers (Ok script) text entries (Err y) after = ⊥

-- The same by the grammar: a text is accepted exactly when it is a script within the limits, that tree and no other, and this tree stands in
-- the text, the node list and the tables.
pub record Accepted (s : Script) (text : List ℕ) (entries : ℕ) (ns : List Node) (script : tree.Script) : Type 0 where
  pub derived : Derives text script
  pub within : Within script entries
  pub only : (other : tree.Script) → Derives text other → other ≡ script
  pub recorded : Recorded s text ns script
  pub stands : ScriptStands text ns s.tables script
  pub only_stands : (other : tree.Script) → ScriptStands text ns s.tables other → other ≡ script

abbrev pub Lawful : List ℕ → ℕ → Result Script Refused → List Node → Type 0
Lawful text entries (Ok s) after = (script : tree.Script) × Accepted s text entries after script
Lawful text entries (Err y) after = (script : tree.Script) → Derives text script → Within script entries → ⊥
