-- How a script lies in the tables and the node list: each definition adds its entries behind those of the definitions before it.
use Rattle.std.specs.Prelude.{ℕ, ◌+◌, ◌-◌, Bool, true, false, cond, ◌&&◌, List, [], ◌∷◌, ◌++◌, map, length, replicate, Some, None, Option}
use Rattle.std.specs.Str.{bytes_eq}
use Rattle.grammar.specs.Limits.{types_count, types_length, nodes_of, types_of, bindings_of, datatypes_of, constructors_of}
use Rattle.grammar.specs.Trees as tree
use Rattle.grammar.specs.Trees.{Ident, Script, datatype_definition, type_annotation, function_definition, val_binding}
use Rattle.layout.specs.Encoding.{unused, encode}
use Rattle.layout.specs.Literals.{symbol_number}
use Rattle.layout.specs.TypeEncoding.{unused_type, encode_type, encode_types}
use Rattle.layout.specs.Words.{word_at, word}
use Rattle.layout.specs.declared.counts.Counts.{Counts}
use Rattle.layout.specs.declared.definition.Constructor.{Constructor}
use Rattle.layout.specs.declared.definition.Definition.{Definition}
use Rattle.layout.specs.declared.definition.Definition.TheVariants as definition
use Rattle.layout.specs.declared.function.Function.{Function}
use Rattle.layout.specs.declared.function.Half.{Half}
use Rattle.layout.specs.declared.function.Half.TheVariants.{Annotation, Define}
use Rattle.layout.specs.declared.node.Node.{Node}
use Rattle.layout.specs.declared.tables.Tables.{Tables}
use Rattle.layout.specs.declared.type_node.TypeNode.{TypeNode}
use Rattle.layout.specs.declared.word.Word.{Word}

-- Counts before and after a definition.
abbrev pub none : Counts
none = record { nodes = 0; types = 0; definitions = 0; datatypes = 0; bindings = 0; constructors = 0; parameters = 0 }

abbrev pub parameter_types : tree.Definition → List Ident
parameter_types (datatype_definition p x cs) = []
parameter_types (type_annotation p x t) = []
parameter_types (function_definition p x xs e) = xs
parameter_types (val_binding p x e) = []

abbrev pub after : Counts → tree.Definition → Counts
after c d = record {
  nodes = c.nodes + nodes_of d;
  types = c.types + types_of d;
  definitions = c.definitions + 1;
  datatypes = c.datatypes + datatypes_of d;
  bindings = c.bindings + bindings_of d;
  constructors = c.constructors + constructors_of d;
  parameters = c.parameters + length (parameter_types d);
}

abbrev pub after_all : Counts → Script → Counts
after_all c [] = c
after_all c (d ∷ ds) = after_all (after c d) ds

-- What a definition adds to each table and to the node list, behind so much of each.

-- the definition itself
abbrev pub definition_row : Counts → tree.Definition → List Definition
definition_row c (datatype_definition p x cs) = definition.Datatype record { place = p; name = word x; first = c.constructors; past = c.constructors + length cs } ∷ []
definition_row c (type_annotation p x t) = definition.Annotation record { place = p; name = word x; root = c.types } ∷ []
definition_row c (function_definition p x xs e) = definition.Define record { place = p; name = word x; first = c.parameters; past = c.parameters + length xs; body = c.nodes } ∷ []
definition_row c (val_binding p x e) = definition.Val record { place = p; name = word x; body = c.nodes } ∷ []

-- the constructors of the datatype with this number, their field types from a type node on
abbrev pub constructor_entry : ℕ → ℕ → tree.Constructor → Constructor
constructor_entry k t c = record { place = c.place; name = word c.name; datatype = k; first = t; past = t + types_count c.fields; fields = types_length c.fields }

abbrev pub constructor_entries : ℕ → ℕ → List tree.Constructor → List Constructor
constructor_entries k t [] = []
constructor_entries k t (c ∷ cs) = constructor_entry k t c ∷ constructor_entries k (t + types_count c.fields) cs

abbrev pub constructor_row : Counts → tree.Definition → List Constructor
constructor_row c (datatype_definition p x cs) = constructor_entries c.definitions c.types cs
constructor_row c (type_annotation p x t) = []
constructor_row c (function_definition p x xs e) = []
constructor_row c (val_binding p x e) = []

-- the names of the parameters
abbrev pub parameter_row : Counts → tree.Definition → List Word
parameter_row c d = map word (parameter_types d)

-- the field types, or the type of an annotation
abbrev pub field_types : ℕ → List tree.Constructor → List TypeNode
field_types t [] = []
field_types t (c ∷ cs) = encode_types t c.fields ++ field_types (t + types_count c.fields) cs

abbrev pub type_row : Counts → tree.Definition → List TypeNode
type_row c (datatype_definition p x cs) = field_types c.types cs
type_row c (type_annotation p x t) = encode_type c.types t
type_row c (function_definition p x xs e) = []
type_row c (val_binding p x e) = []

-- the body
abbrev pub node_row : (ℕ → List ℕ → ℕ) → Counts → tree.Definition → List Node
node_row number c (datatype_definition p x cs) = []
node_row number c (type_annotation p x t) = []
node_row number c (function_definition p x xs e) = encode number c.nodes e
node_row number c (val_binding p x e) = encode number c.nodes e

-- the rows of all definitions, one after another
abbrev pub rows : {E : Type 0} → (Counts → tree.Definition → List E) → Counts → Script → List E
rows row c [] = []
rows row c (d ∷ ds) = row c d ++ rows row (after c d) ds

-- Functions: a name, and the numbers of its annotation and of its define, as far as there are any.
pub record Entry : Type 0 where
  pub name : Ident
  pub annotation : Option ℕ
  pub define : Option ℕ

abbrev pub is_none : Option ℕ → Bool
is_none None = true
is_none (Some k) = false

-- an entry of this name that lacks this half
abbrev pub fits : Half → Ident → Entry → Bool
fits Annotation x f = is_none f.annotation && bytes_eq f.name.bytes x.bytes
fits Define x f = is_none f.define && bytes_eq f.name.bytes x.bytes

-- with the definition k as this half
abbrev pub given : Half → ℕ → Entry → Entry
given Annotation k f = record { name = f.name; annotation = Some k; define = f.define }
given Define k f = record { name = f.name; annotation = f.annotation; define = Some k }

-- The first entry that fits is filled, or a new one is opened at the end.
abbrev pub placed : {E : Type 0} → (E → Bool) → (E → E) → E → List E → List E
placed fit fill new [] = fill new ∷ []
placed fit fill new (f ∷ fs) = cond (fit f) (fill f ∷ fs) (f ∷ placed fit fill new fs)

abbrev pub bare : Ident → Entry
bare x = record { name = x; annotation = None; define = None }

abbrev pub noted : ℕ → tree.Definition → List Entry → List Entry
noted k (datatype_definition p x cs) fs = fs
noted k (type_annotation p x t) fs = placed (fits Annotation x) (given Annotation k) (bare x) fs
noted k (function_definition p x xs e) fs = placed (fits Define x) (given Define k) (bare x) fs
noted k (val_binding p x e) fs = fs

-- by definitions numbered from k on
abbrev pub noted_all : ℕ → Script → List Entry → List Entry
noted_all k [] fs = fs
noted_all k (d ∷ ds) fs = noted_all (k + 1) ds (noted k d fs)

abbrev pub function_entry : Entry → Function
function_entry f = record { name = word f.name; annotation = f.annotation; define = f.define }

abbrev pub functions_of : Script → List Function
functions_of script = map function_entry (noted_all 0 script [])

-- The tables of a script: what is used stands first, and every other entry is the unused one.
abbrev pub filled : {E : Type 0} → ℕ → E → List E → List E
filled n x xs = xs ++ replicate (n - length xs) x

abbrev pub unused_word : Word
unused_word = word_at 0 0

abbrev pub unused_constructor : Constructor
unused_constructor = record { place = 0; name = unused_word; datatype = 0; first = 0; past = 0; fields = 0 }

abbrev pub unused_function : Function
unused_function = record { name = unused_word; annotation = None; define = None }

abbrev pub tables_of : Script → Tables
tables_of script = record {
  counts = after_all none script;
  definitions = filled 832 definition.Unused (rows definition_row none script);
  constructors = filled 256 unused_constructor (rows constructor_row none script);
  parameters = filled 1536 unused_word (rows parameter_row none script);
  types = filled 512 unused_type (rows type_row none script);
  functions = record { count = length (functions_of script); entries = filled 768 unused_function (functions_of script) };
}

-- The nodes of a script: those of its bodies, where a symbol has the place of its first literal.
abbrev pub nodes_of_script : Script → List Node
nodes_of_script script = rows (node_row (λ p w. symbol_number script w)) none script

-- a node list of so many entries that holds them
abbrev pub node_list : ℕ → Script → List Node
node_list entries script = filled entries unused (nodes_of_script script)
