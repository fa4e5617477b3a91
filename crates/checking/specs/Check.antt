-- What the check of a script answers.
use Rattle.std.specs.Prelude.{◌≡◌, ℕ, List, Ok, Err, Result}
use Rattle.checking.specs.declared.checks.Checked.{Checked}
use Rattle.grammar.specs.Trees as tree
use Rattle.layout.specs.Tabling.{node_list}
use Rattle.layout.specs.declared.node.Node.{Node}
use Rattle.parser.specs.Recording.{left, Accepted}
use Rattle.parser.specs.declared.script.Script.{Script}
use Rattle.program.specs.Whole.{compiled}
use Rattle.script_refusals.specs.Refusals.{refused_at}
use Rattle.script_refusals.specs.declared.refusal.Refusal.TheVariants.{Changed}
use Rattle.script_refusals.specs.declared.refusal.Refused.{Refused}
use Rattle.typing.specs.Scripts.{Allowed}
use Rattle.typing.specs.Verdict.{accepted, refused, verdict}

-- the text and the node list are what was read, and what reading left
pub record IsUnchanged (s : Script) (text : List ℕ) (nodes : List Node) : Type 0 where
  pub text_is : text ≡ s.text.now
  pub nodes_are : nodes ≡ left s

-- a script is accepted with its code and the counts of its tables, exactly as the rules allow it; or the first refusal
pub record Accepts (script : tree.Script) (s : Script) (c : Checked) : Type 0 where
  pub verdict_is : verdict script ≡ accepted
  pub allowed : Allowed script
  pub code : c.code ≡ compiled script
  pub text : c.text.now ≡ s.text.now
  pub counts : c.counts ≡ s.tables.counts

pub record Refuses (script : tree.Script) (r : Refused) : Type 0 where
  pub verdict_is : verdict script ≡ refused r
  pub not_allowed : Allowed script → ⊥

abbrev pub Judges : tree.Script → Script → Result Checked Refused → Type 0
Judges script s (Ok c) = Accepts script s c
Judges script s (Err r) = Refuses script r

pub record CheckAnswers (s : Script) (text : List ℕ) (nodes : List Node) (result : Result Checked Refused) : Type 0 where
  pub changed : (IsUnchanged s text nodes → ⊥) → result ≡ Err (refused_at Changed 0)
  -- for every script that reading answered
  pub judged : IsUnchanged s text nodes → (script : tree.Script) (read : List ℕ) (entries : ℕ) → Accepted s read entries (node_list entries script) script → Judges script s result
