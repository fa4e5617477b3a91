-- A script that lies in the tables, a node list and the text stands there.
use Rattle.std.proofs.Common.{◌≡◌, ℕ, ◌+◌, List, [], ◌∷◌, map, length, get_or, sym, refl, subst, arith}
use Rattle.std.proofs.lemmas.List.{length-append, length-map}
use Rattle.grammar.specs.Grammar.{Derives}
use Rattle.grammar.specs.Limits.{types_count, fields_count, nodes_of, types_of, constructors_of}
use Rattle.grammar.specs.Trees as tree
use Rattle.grammar.specs.Trees.{Ident, Script, datatype_definition, type_annotation, function_definition, val_binding}
use Rattle.layout.specs.Encoding.{encode}
use Rattle.layout.specs.Literals.{symbol_number}
use Rattle.layout.specs.Scripts.{NamesStand, n_none, n_more, ConstructorStands, ConstructorsStand, k_none, k_more, DefinitionStands, d_datatype, d_annotation, d_define, d_val, DefinitionsStand, d_none, d_more, ScriptStands}
use Rattle.layout.specs.Spelling.{Spells}
use Rattle.layout.specs.Tabling.{none, parameter_types, after, after_all, definition_row, constructor_entry, constructor_entries, constructor_row, parameter_row, field_types, type_row, node_row, rows, unused_word, unused_constructor, tables_of, node_list}
use Rattle.layout.specs.TypeEncoding.{encode_type, encode_types}
use Rattle.layout.specs.Words.{word}
use Rattle.layout.specs.declared.counts.Counts.{Counts}
use Rattle.layout.specs.declared.definition.Definition.TheVariants as definition
use Rattle.layout.specs.declared.node.Node.{Node}
use Rattle.layout.specs.declared.tables.Tables.{Tables}
use Rattle.layout.proofs.DecodingOnly.{definitions_only}
use Rattle.layout.proofs.InText.{NamesIn, ConstructorsIn, DefinitionIn, ScriptIn, derived_in}
use Rattle.layout.proofs.Lists.{Has, has_first, has_others, has_front, has_back, has_start}
use Rattle.layout.proofs.Sizes.{length_encode, length_type, length_types}
use Rattle.layout.proofs.Standing.{code_of, type_of, types_of_rule}

-- how much a definition adds to each table
pub length_constructors : (k t : ℕ) (cs : List tree.Constructor) → length (constructor_entries k t cs) ≡ length cs
length_constructors k t [] = refl
length_constructors k t (c ∷ cs) = let h = length_constructors k (t + types_count c.fields) cs in omega arith

pub length_fields : (t : ℕ) (cs : List tree.Constructor) → length (field_types t cs) ≡ fields_count cs
length_fields t [] = refl
length_fields t (c ∷ cs) = omega (arith, length-append (encode_types t c.fields) (field_types (t + types_count c.fields) cs), length_types t c.fields, length_fields (t + types_count c.fields) cs)

pub length_nodes : (number : ℕ → List ℕ → ℕ) (c : Counts) (d : tree.Definition) → length (node_row number c d) ≡ nodes_of d
length_nodes number c (datatype_definition p x cs) = refl
length_nodes number c (type_annotation p x t) = refl
length_nodes number c (function_definition p x xs e) = length_encode number c.nodes e
length_nodes number c (val_binding p x e) = length_encode number c.nodes e

pub length_definition : (c : Counts) (d : tree.Definition) → length (definition_row c d) ≡ 1
length_definition c (datatype_definition p x cs) = refl
length_definition c (type_annotation p x t) = refl
length_definition c (function_definition p x xs e) = refl
length_definition c (val_binding p x e) = refl

pub length_constructed : (c : Counts) (d : tree.Definition) → length (constructor_row c d) ≡ constructors_of d
length_constructed c (datatype_definition p x cs) = length_constructors c.definitions c.types cs
length_constructed c (type_annotation p x t) = refl
length_constructed c (function_definition p x xs e) = refl
length_constructed c (val_binding p x e) = refl

pub length_typed : (c : Counts) (d : tree.Definition) → length (type_row c d) ≡ types_of d
length_typed c (datatype_definition p x cs) = length_fields c.types cs
length_typed c (type_annotation p x t) = length_type c.types t
length_typed c (function_definition p x xs e) = refl
length_typed c (val_binding p x e) = refl

module _ (text : List ℕ) (number : List ℕ → ℕ) (ns : List Node) (tables : Tables) where
  names_of : (i : ℕ) (xs : List Ident) (j : ℕ) → NamesIn text xs → Has tables.parameters i (map word xs) → j ≡ i + length xs → NamesStand text tables.parameters xs i j
  names_of i [] j s h e = n_none (omega arith)
  names_of i (x ∷ xs) j s h e =
      n_more (omega arith) (subst (λ w. Spells text w x) (sym (has_first h unused_word)) s.0) (names_of (i + 1) xs j s.1 (has_others h) (omega arith))

  constructors_of_rule : (k i t : ℕ) (cs : List tree.Constructor) (j : ℕ) → ConstructorsIn text cs → Has tables.constructors i (constructor_entries k t cs) → Has tables.types t (field_types t cs) → j ≡ i + length cs
      → ConstructorsStand text number ns tables k cs i j
  constructors_of_rule k i t [] j s h f e = k_none (omega arith)
  constructors_of_rule k i t (c ∷ cs) j s h f e =
      let fields = encode_types t c.fields in
      let more = field_types (t + types_count c.fields) cs in
      let stands : ConstructorStands text number ns tables k (constructor_entry k t c) c = record {
        place_is = refl;
        named = s.0;
        owner = refl;
        counted = refl;
        typed = types_of_rule text tables.types t c.fields t (t + types_count c.fields) s.1 (has_front fields more f) refl refl;
      } in
      k_more (omega arith) (subst (λ entry. ConstructorStands text number ns tables k entry c) (sym (has_first h unused_constructor)) stands)
      (constructors_of_rule k (i + 1) (t + types_count c.fields) cs j s.2 (has_others h) (has_back fields more (types_count c.fields) (length_types t c.fields) f) (omega arith))

  -- these definitions lie in the tables and the node list, behind so much of each
  record Lie (c : Counts) (ds : Script) : Type 0 where
    bodies : Has ns c.nodes (rows (node_row (λ p w. number w)) c ds)
    definitions : Has tables.definitions c.definitions (rows definition_row c ds)
    constructors : Has tables.constructors c.constructors (rows constructor_row c ds)
    parameters : Has tables.parameters c.parameters (rows parameter_row c ds)
    types : Has tables.types c.types (rows type_row c ds)

  others : (c : Counts) (d : tree.Definition) (ds : Script) → Lie c (d ∷ ds) → Lie (after c d) ds
  others c d ds l = record {
    bodies = has_back (node_row (λ p w. number w) c d) _ (nodes_of d) (length_nodes (λ p w. number w) c d) l.bodies;
    definitions = has_back (definition_row c d) _ 1 (length_definition c d) l.definitions;
    constructors = has_back (constructor_row c d) _ (constructors_of d) (length_constructed c d) l.constructors;
    parameters = has_back (parameter_row c d) _ (length (parameter_types d)) (length-map (parameter_types d) word) l.parameters;
    types = has_back (type_row c d) _ (types_of d) (length_typed c d) l.types;
  }

  definition_of_rule : (c : Counts) (d : tree.Definition) (ds : Script) → DefinitionIn text d → Lie c (d ∷ ds) → DefinitionStands text number ns tables c.definitions (get_or tables.definitions c.definitions definition.Unused) d
  definition_of_rule c (datatype_definition p x cs) ds s l =
      subst (λ entry. DefinitionStands text number ns tables c.definitions entry (datatype_definition p x cs)) (sym (has_first l.definitions definition.Unused))
      (d_datatype s.0 (constructors_of_rule c.definitions c.constructors c.types cs (c.constructors + length cs) s.1 (has_front (constructor_entries c.definitions c.types cs) _ l.constructors) (has_front (field_types c.types cs) _ l.types) refl))
  definition_of_rule c (type_annotation p x t) ds s l =
      subst (λ entry. DefinitionStands text number ns tables c.definitions entry (type_annotation p x t)) (sym (has_first l.definitions definition.Unused))
      (d_annotation s.0 (type_of text tables.types c.types t s.1 (has_front (encode_type c.types t) _ l.types)))
  definition_of_rule c (function_definition p x xs e) ds s l =
      subst (λ entry. DefinitionStands text number ns tables c.definitions entry (function_definition p x xs e)) (sym (has_first l.definitions definition.Unused))
      (d_define s.0 (names_of c.parameters xs (c.parameters + length xs) s.1 (has_front (map word xs) _ l.parameters) refl) (code_of text number ns c.nodes e s.2 (has_front (encode (λ p w. number w) c.nodes e) _ l.bodies)))
  definition_of_rule c (val_binding p x e) ds s l =
      subst (λ entry. DefinitionStands text number ns tables c.definitions entry (val_binding p x e)) (sym (has_first l.definitions definition.Unused))
      (d_val s.0 (code_of text number ns c.nodes e s.1 (has_front (encode (λ p w. number w) c.nodes e) _ l.bodies)))

  definitions_of : (c : Counts) (ds : Script) (j : ℕ) → ScriptIn text ds → Lie c ds → j ≡ c.definitions + length ds → DefinitionsStand text number ns tables ds c.definitions j
  definitions_of c [] j s l e = d_none (omega arith)
  definitions_of c (d ∷ ds) j s l e = d_more (omega arith) (definition_of_rule c d ds s.0 l) (definitions_of (after c d) ds j s.1 (others c d ds l) (omega arith))

definitions_after : (c : Counts) (ds : Script) → (after_all c ds).definitions ≡ c.definitions + length ds
definitions_after c [] = omega arith
definitions_after c (d ∷ ds) = let h = definitions_after (after c d) ds in omega arith

pub script_stands : (text : List ℕ) (script : Script) (entries : ℕ) → Derives text script → ScriptStands text (node_list entries script) (tables_of script) script
script_stands text script entries d =
    definitions_of text (symbol_number script) (node_list entries script) (tables_of script) none script _ (derived_in text script d)
    record { bodies = has_start _ _; definitions = has_start _ _; constructors = has_start _ _; parameters = has_start _ _; types = has_start _ _ }
    (definitions_after none script)

pub script_only : (text : List ℕ) (ns : List Node) (tables : Tables) (a b : Script) → ScriptStands text ns tables a → ScriptStands text ns tables b → a ≡ b
script_only text ns tables a b = definitions_only text (symbol_number a) (symbol_number b) ns tables
