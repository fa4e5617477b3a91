-- Which script stands in a text, a node list and tables.
use Rattle.std.specs.Prelude.{◌≡◌, ℕ, ◌+◌, ◌<◌, List, [], ◌∷◌, slice_index_or}
use Rattle.grammar.specs.Limits.{types_length}
use Rattle.grammar.specs.Trees as tree
use Rattle.grammar.specs.Trees.{Ident, Script, Expr, TypeExpr}
use Rattle.layout.specs.Decoding.{Stands, TypeStands, TypesStand}
use Rattle.layout.specs.Literals.{symbol_number}
use Rattle.layout.specs.Spelling.{Spells}
use Rattle.layout.specs.Tabling.{unused_word, unused_constructor}
use Rattle.layout.specs.declared.definition.Annotation.{Annotation}
use Rattle.layout.specs.declared.definition.Constructor.{Constructor}
use Rattle.layout.specs.declared.definition.Datatype.{Datatype}
use Rattle.layout.specs.declared.definition.Define.{Define}
use Rattle.layout.specs.declared.definition.Val.{Val}
use Rattle.layout.specs.declared.definition.Definition.{Definition}
use Rattle.layout.specs.declared.definition.Definition.TheVariants as definition
use Rattle.layout.specs.declared.node.Node.{Node}
use Rattle.layout.specs.declared.tables.Tables.{Tables}
use Rattle.layout.specs.declared.word.Word.{Word}

-- from entry i up to entry j of the table of parameters stand these names
pub data NamesStand (text : List ℕ) (words : List Word) : List Ident → ℕ → ℕ → Type 0 where
  n_none : {i j : ℕ} → i ≡ j → NamesStand text words [] i j
  n_more : {i j : ℕ} {x : Ident} {xs : List Ident} → i < j → Spells text (slice_index_or words i unused_word) x → NamesStand text words xs (i + 1) j → NamesStand text words (x ∷ xs) i j

module _ (text : List ℕ) (number : List ℕ → ℕ) (ns : List Node) (tables : Tables) where
  -- an entry of the table of constructors is this constructor, of the datatype that is definition k
  pub record ConstructorStands (k : ℕ) (entry : Constructor) (c : tree.Constructor) : Type 0 where
    pub place_is : entry.place ≡ c.place
    pub named : Spells text entry.name c.name
    pub owner : entry.datatype ≡ k
    pub typed : TypesStand text tables.types c.fields entry.first entry.past
    pub counted : entry.fields ≡ types_length c.fields

  -- from entry i up to entry j of the table of constructors stand these
  pub data ConstructorsStand (k : ℕ) : List tree.Constructor → ℕ → ℕ → Type 0 where
    k_none : {i j : ℕ} → i ≡ j → ConstructorsStand k [] i j
    k_more : {i j : ℕ} {c : tree.Constructor} {cs : List tree.Constructor} → i < j → ConstructorStands k (slice_index_or tables.constructors i unused_constructor) c
        → ConstructorsStand k cs (i + 1) j → ConstructorsStand k (c ∷ cs) i j

  -- the entry with the number k of the table of definitions is this definition
  pub data DefinitionStands (k : ℕ) : Definition → tree.Definition → Type 0 where
    d_datatype : {d : Datatype} {x : Ident} {cs : List tree.Constructor} → Spells text d.name x
        → ConstructorsStand k cs d.first d.past
        → DefinitionStands k (definition.Datatype d) (tree.datatype_definition d.place x cs)
    d_annotation : {d : Annotation} {x : Ident} {t : TypeExpr} → Spells text d.name x
        → TypeStands text tables.types t d.root
        → DefinitionStands k (definition.Annotation d) (tree.type_annotation d.place x t)
    d_define : {d : Define} {x : Ident} {xs : List Ident} {e : Expr} → Spells text d.name x
        → NamesStand text tables.parameters xs d.first d.past
        → Stands text number ns e d.body
        → DefinitionStands k (definition.Define d) (tree.function_definition d.place x xs e)
    d_val : {d : Val} {x : Ident} {e : Expr} → Spells text d.name x
        → Stands text number ns e d.body
        → DefinitionStands k (definition.Val d) (tree.val_binding d.place x e)

  -- from entry i up to entry j of the table of definitions stand these
  pub data DefinitionsStand : Script → ℕ → ℕ → Type 0 where
    d_none : {i j : ℕ} → i ≡ j → DefinitionsStand [] i j
    d_more : {i j : ℕ} {d : tree.Definition} {ds : Script} → i < j → DefinitionStands i (slice_index_or tables.definitions i definition.Unused) d
        → DefinitionsStand ds (i + 1) j → DefinitionsStand (d ∷ ds) i j

-- a text, a node list and tables are this script, where a symbol's number is the place of its first literal
abbrev pub ScriptStands : List ℕ → List Node → Tables → Script → Type 0
ScriptStands text ns tables script = DefinitionsStand text (symbol_number script) ns tables script 0 tables.counts.definitions
