-- How a script lies in the tables, definition by definition, behind so much of each.
use Rattle.std.specs.Prelude.{◌≡◌, ℕ, ◌+◌, ◌<◌, ◌≤◌, List, [], ◌∷◌, length, slice_index_or}
use Rattle.grammar.specs.Limits.{type_count, types_count, types_length}
use Rattle.grammar.specs.Trees as tree
use Rattle.grammar.specs.Trees.{Ident, datatype_definition, type_annotation, function_definition, val_binding, Script}
use Rattle.layout.specs.Spelling.{Spells}
use Rattle.layout.specs.Tabling.{none, after, after_all, unused_word, unused_constructor}
use Rattle.layout.specs.TypeEncoding.{unused_type}
use Rattle.layout.specs.Words.{word_at}
use Rattle.layout.specs.declared.counts.Counts.{Counts}
use Rattle.layout.specs.declared.definition.Annotation.{Annotation}
use Rattle.layout.specs.declared.definition.Constructor.{Constructor}
use Rattle.layout.specs.declared.definition.Datatype.{Datatype}
use Rattle.layout.specs.declared.definition.Define.{Define}
use Rattle.layout.specs.declared.definition.Definition.{Definition}
use Rattle.layout.specs.declared.definition.Definition.TheVariants as definition
use Rattle.layout.specs.declared.definition.Val.{Val}
use Rattle.layout.specs.declared.tables.Tables.{Tables}
use Rattle.layout.specs.declared.type_node.TypeForm.{TypeForm}
use Rattle.layout.specs.declared.type_node.TypeForm.TheVariants as type_form
use Rattle.layout.specs.declared.type_node.TypeNode.{TypeNode}
use Rattle.type_rows.specs.TypeExprs.{types_listed, expr_at}

module _ (text : List ℕ) (tables : Tables) where
  -- a constructor, its field types from a type node on
  pub record VariantLies (entry : Constructor) (k : ℕ) (c : tree.Constructor) : Type 0 where
    pub name : Spells text entry.name c.name
    pub first : entry.first ≡ k
    pub past : entry.past ≡ k + types_count c.fields
    pub fields : entry.fields ≡ types_length c.fields

  -- constructors, from entry i on
  abbrev pub VariantsLie : ℕ → ℕ → List tree.Constructor → Type 0
  VariantsLie i k [] = Unit {0}
  VariantsLie i k (c ∷ cs) = VariantLies (slice_index_or tables.constructors i unused_constructor) k c × VariantsLie (i + 1) (k + types_count c.fields) cs

  -- parameters, from entry i on
  abbrev pub ParametersLie : ℕ → List Ident → Type 0
  ParametersLie i [] = Unit {0}
  ParametersLie i (x ∷ xs) = Spells text (slice_index_or tables.parameters i unused_word) x × ParametersLie (i + 1) xs

  abbrev pub definition_at : ℕ → Definition
  definition_at k = slice_index_or tables.definitions k definition.Unused

  -- a definition lies behind so much of each
  pub data DefinitionLies (c : Counts) : tree.Definition → Definition → Type 0 where
    datatype_lies : {x : Ident} {cs : List tree.Constructor} {m : Datatype}
        → Spells text m.name x → m.first ≡ c.constructors → m.past ≡ c.constructors + length cs → VariantsLie c.constructors c.types cs
        → DefinitionLies c (datatype_definition m.place x cs) (definition.Datatype m)
    annotation_lies : {x : Ident} {t : tree.TypeExpr} {m : Annotation} → Spells text m.name x → m.root ≡ c.types → DefinitionLies c (type_annotation m.place x t) (definition.Annotation m)
    define_lies : {x : Ident} {xs : List Ident} {e : tree.Expr} {m : Define}
        → Spells text m.name x → m.first ≡ c.parameters → m.past ≡ c.parameters + length xs → m.body ≡ c.nodes → ParametersLie c.parameters xs
        → DefinitionLies c (function_definition m.place x xs e) (definition.Define m)
    val_lies : {x : Ident} {e : tree.Expr} {m : Val} → Spells text m.name x → m.body ≡ c.nodes → DefinitionLies c (val_binding m.place x e) (definition.Val m)

  abbrev pub ScriptLies : Counts → Script → Type 0
  ScriptLies c [] = Unit {0}
  ScriptLies c (d ∷ ds) = DefinitionLies c d (definition_at c.definitions) × ScriptLies (after c d) ds

-- So much of each is within the limits.
pub record Few (c : Counts) : Type 0 where
  pub definitions : c.definitions ≤ 832
  pub datatypes : c.datatypes ≤ 64
  pub bindings : c.bindings ≤ 256
  pub constructors : c.constructors ≤ 256
  pub types : c.types ≤ 512
  pub nodes : c.nodes ≤ 4096

-- A type node with the number k, by its form: a type expression, without its parts.
pub data TypeNodeLies (text : List ℕ) (node : TypeNode) (k : ℕ) : TypeForm → tree.TypeExpr → Type 0 where
  int_lies : {p : ℕ} → node.past ≡ k + 1 → TypeNodeLies text node k type_form.Int (tree.int_type p)
  bool_lies : {p : ℕ} → node.past ≡ k + 1 → TypeNodeLies text node k type_form.Bool (tree.bool_type p)
  sym_lies : {p : ℕ} → node.past ≡ k + 1 → TypeNodeLies text node k type_form.Sym (tree.sym_type p)
  unit_lies : {p : ℕ} → node.past ≡ k + 1 → TypeNodeLies text node k type_form.Unit (tree.unit_type p)
  named_lies : {n : ℕ} {x : Ident} → node.past ≡ k + 1 → Spells text (word_at node.place n) x → TypeNodeLies text node k (type_form.Datatype n) (tree.datatype x)
  function_lies : {p : ℕ} {ts : tree.TypeExprs} {t : tree.TypeExpr} → node.past ≡ k + type_count (tree.function_type_rule p ts t) → TypeNodeLies text node k type_form.Function (tree.function_type_rule p ts t)

abbrev pub type_at : Tables → ℕ → TypeNode
type_at tables k = slice_index_or tables.types k unused_type

-- Type expressions lie in the table of types, one in each entry.
pub record TypesLaid (text : List ℕ) (tables : Tables) (all : List tree.TypeExpr) : Type 0 where
  pub count : tables.counts.types ≡ length all
  pub few : length all ≤ 512
  pub each : (k : ℕ) → k < length all → TypeNodeLies text (type_at tables k) k (type_at tables k).form (expr_at all k)

-- A script lies in the text and the tables, and passes no limit.
pub record Laid (text : List ℕ) (tables : Tables) (script : Script) : Type 0 where
  pub lies : ScriptLies text tables none script
  pub count : tables.counts.definitions ≡ length script
  pub entries : tables.counts.definitions ≤ 832
  pub few : Few (after_all none script)
  pub types : TypesLaid text tables (types_listed script)
