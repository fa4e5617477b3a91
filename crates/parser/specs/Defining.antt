-- What reading a definition leaves: its rows in the tables, and its nodes in the node list.
use Rattle.std.specs.Prelude.{◌≡◌, ℕ, ◌+◌, ◌*◌, ◌<◌, ◌≤◌, Bool, true, false, cond, List, [], ◌∷◌, length, Some, None, Ok, Err, Option, Result, ◌==◌, ◌≢◌}
use Rattle.text.specs.Tokens.{Lexed, lexed_from, Lexeme, done, also}
use Rattle.text.specs.declared.bracket.Bracket.{Bracket}
use Rattle.text.specs.declared.keyword.Keyword.{Keyword}
use Rattle.text.specs.declared.keyword.Keyword.TheVariants as keyword
use Rattle.text.specs.declared.refusal.Refused.{Refused}
use Rattle.grammar.specs.Forms.{is_key}
use Rattle.grammar.specs.Reading.{Tally, Outcome, refused, made, read_definitions}
use Rattle.grammar.specs.Sexps.{Sexp, Sexps, Atoms, AllAtoms}
use Rattle.grammar.specs.Streams.{stream, streams}
use Rattle.grammar.specs.Trees as tree
use Rattle.grammar.specs.Trees.{datatype_definition, type_annotation, function_definition, val_binding}
use Rattle.layout.specs.Tabling.{after, after_all, definition_row, constructor_row, parameter_row, type_row, node_row, rows}
use Rattle.layout.specs.Words.{word}
use Rattle.layout.specs.declared.counts.Counts.{Counts}
use Rattle.layout.specs.declared.function.Functions.{Functions}
use Rattle.layout.specs.declared.function.Half.TheVariants.{Annotation, Define}
use Rattle.layout.specs.declared.node.Node.{Node}
use Rattle.layout.specs.declared.tables.Tables.{Tables}
use Rattle.forms.specs.Drafts.{own}
use Rattle.forms.specs.Progress.{puts}
use Rattle.forms.specs.Rows.{closed_by}
use Rattle.parser.specs.Noting.{noted_in}
use Rattle.parser.specs.declared.kind.DefinitionKind.{DefinitionKind}
use Rattle.parser.specs.declared.kind.DefinitionKind.TheVariants as kind

-- what a list is as a definition, by its head and its number of parts alone; none where it is no definition
abbrev pub definition_kind : Option Keyword → ℕ → Option DefinitionKind
definition_kind None n = None
definition_kind (Some k) n =
    cond (is_key k keyword.Datatype) (cond (n == 3) (Some kind.Datatype) None)
    (cond (is_key k keyword.Colon) (cond (n == 3) (Some kind.Annotation) None)
    (cond (is_key k keyword.Define) (cond (n == 4) (Some kind.Define) None)
    (cond (is_key k keyword.Val) (cond (n == 3) (Some kind.Val) None) None)))

-- The tables hold no more than they have room for: each definition counts towards a limit.
pub record Bounded (t : Tables) : Type 0 where
  pub nodes : t.counts.nodes ≤ 4096
  pub types : t.counts.types ≤ 512
  pub bindings : t.counts.bindings ≤ 256
  pub datatypes : t.counts.datatypes ≤ 64
  pub constructors : t.counts.constructors ≤ 256
  -- an annotation has a type at least
  pub definitions : t.counts.definitions ≤ t.counts.types + t.counts.bindings + t.counts.datatypes
  pub parameters : t.counts.parameters ≤ 6 * t.counts.bindings
  pub functions : t.functions.count ≤ t.counts.types + t.counts.bindings

-- the rules' tally is what the tables count
pub record Tallied (n : Tally) (c : Counts) : Type 0 where
  pub nodes : n.nodes ≡ c.nodes
  pub types : n.types ≡ c.types
  pub bindings : n.bindings ≡ c.bindings
  pub datatypes : n.datatypes ≡ c.datatypes
  pub constructors : n.constructors ≡ c.constructors

-- the table of functions with the definition k
abbrev pub noted_with : List ℕ → ℕ → tree.Definition → Functions → Functions
noted_with text k (datatype_definition p x cs) f = f
noted_with text k (type_annotation p x t) f = noted_in text Annotation (word x) k f
noted_with text k (function_definition p x xs e) f = noted_in text Define (word x) k f
noted_with text k (val_binding p x e) f = f

abbrev pub noted_with_all : List ℕ → ℕ → tree.Script → Functions → Functions
noted_with_all text k [] f = f
noted_with_all text k (d ∷ ds) f = noted_with_all text (k + 1) ds (noted_with text k d f)

-- the tables before and after these definitions
pub record Defined (text : List ℕ) (t t' : Tables) (ds : tree.Script) : Type 0 where
  pub counts : t'.counts ≡ after_all t.counts ds
  pub definitions : t'.definitions ≡ puts t.definitions t.counts.definitions (rows definition_row t.counts ds)
  pub constructors : t'.constructors ≡ puts t.constructors t.counts.constructors (rows constructor_row t.counts ds)
  pub parameters : t'.parameters ≡ puts t.parameters t.counts.parameters (rows parameter_row t.counts ds)
  pub types : t'.types ≡ puts t.types t.counts.types (rows type_row t.counts ds)
  pub functions : t'.functions ≡ noted_with_all text t.counts.definitions ds t.functions

-- the tables and the node list before and after one definition
pub record DefinedOne (text : List ℕ) (t t' : Tables) (ns ns' : List Node) (d : tree.Definition) : Type 0 where
  pub counts : t'.counts ≡ after t.counts d
  pub definitions : t'.definitions ≡ puts t.definitions t.counts.definitions (definition_row t.counts d)
  pub constructors : t'.constructors ≡ puts t.constructors t.counts.constructors (constructor_row t.counts d)
  pub parameters : t'.parameters ≡ puts t.parameters t.counts.parameters (parameter_row t.counts d)
  pub types : t'.types ≡ puts t.types t.counts.types (type_row t.counts d)
  pub functions : t'.functions ≡ noted_with text t.counts.definitions d t.functions
  pub nodes : ns' ≡ puts ns t.counts.nodes (node_row own t.counts d)

-- reading a definition moves forward, within the text and the tables
abbrev pub GoesDefinition : List ℕ → ℕ → Result ℕ Refused → Tables → Type 0
GoesDefinition text place (Ok after) t' = (place < after) × (after ≤ length text) × Bounded t'
GoesDefinition text place (Err r) t' = Unit {0}

-- the code's answer and what it leaves, for what the rules make of the same definition
abbrev pub ToldDefinition : List ℕ → Lexed → Tables → List Node → Outcome tree.Definition → Result ℕ Refused → Tables → List Node → Type 0
ToldDefinition text rest t ns (refused x) r t' ns' = r ≡ Err x
ToldDefinition text rest t ns (made d n) (Ok after) t' ns' = (lexed_from text after ≡ rest) × DefinedOne text t t' ns ns' d
ToldDefinition text rest t ns (made d n) (Err x) t' ns' = ⊥

-- for the parts of a list up to its bracket
abbrev pub OnParts : List ℕ → ℕ → Tables → List Node → Sexps → (Tally → Outcome tree.Definition) → Result ℕ Refused → Tables → List Node → Type 0
OnParts text place t ns ss read r t' ns' =
    (shape : Bracket) (q : ℕ) (rest : Lexed) (n : Tally) → lexed_from text place ≡ closed_by ss shape q rest → AllAtoms ss → Tallied n t.counts → ToldDefinition text rest t ns (read n) r t' ns'

-- for the whole definition
abbrev pub OnDefinition : List ℕ → ℕ → Tables → List Node → (Sexp → Tally → Outcome tree.Definition) → Result ℕ Refused → Tables → List Node → Type 0
OnDefinition text place t ns read r t' ns' =
    (s : Sexp) (rest : Lexed) (n : Tally) → lexed_from text place ≡ stream s rest → Atoms s → Tallied n t.counts → ToldDefinition text rest t ns (read s n) r t' ns'

-- for all definitions up to the text's end
abbrev pub ToldDefinitions : List ℕ → Tables → List Node → Outcome tree.Script → Result (Unit {0}) Refused → Tables → List Node → Type 0
ToldDefinitions text t ns (refused x) r t' ns' = r ≡ Err x
ToldDefinitions text t ns (made ds n) (Ok u) t' ns' = Defined text t t' ds × (ns' ≡ puts ns t.counts.nodes (rows (node_row own) t.counts ds))
ToldDefinitions text t ns (made ds n) (Err x) t' ns' = ⊥

abbrev pub OnDefinitions : List ℕ → ℕ → ℕ → Tables → List Node → Result (Unit {0}) Refused → Tables → List Node → Type 0
OnDefinitions text entries place t ns r t' ns' =
    (ss : Sexps) (n : Tally) → lexed_from text place ≡ streams ss done → AllAtoms ss → Tallied n t.counts → n.nodes ≤ entries → ToldDefinitions text t ns (read_definitions entries ss n) r t' ns'

-- whether no token is left
abbrev pub AtEnd : List ℕ → ℕ → Bool → Type 0
AtEnd text place true = (t : Lexeme) (rest : Lexed) → lexed_from text place ≢ also t rest
AtEnd text place false = (t : Lexeme) × ((rest : Lexed) × (lexed_from text place ≡ also t rest))

abbrev pub GoesDefinitions : Result (Unit {0}) Refused → Tables → Type 0
GoesDefinitions (Ok u) t' = Bounded t'
GoesDefinitions (Err r) t' = Unit {0}
