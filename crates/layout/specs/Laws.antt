-- The laws of the layout.
use Rattle.std.specs.Prelude.{◌≡◌, ℕ, List}
use Rattle.grammar.specs.Grammar.{Derives}
use Rattle.grammar.specs.Trees.{Script}
use Rattle.layout.specs.Scripts.{ScriptStands}
use Rattle.layout.specs.Tabling.{tables_of, node_list}
use Rattle.layout.specs.declared.node.Node.{Node}
use Rattle.layout.specs.declared.tables.Tables.{Tables}

-- Encoding and decoding are inverse.
pub record Decodes : Type 0 where
  -- a script that the grammar derives from a text stands in its node list and its tables, read with that text
  pub stands : (text : List ℕ) (script : Script) (entries : ℕ) → Derives text script → ScriptStands text (node_list entries script) (tables_of script) script
  -- and what stands in a text, a node list and tables is one script at most
  pub only : (text : List ℕ) (ns : List Node) (tables : Tables) (a b : Script) → ScriptStands text ns tables a → ScriptStands text ns tables b → a ≡ b
