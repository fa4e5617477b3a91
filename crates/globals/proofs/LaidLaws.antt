-- A script that was read lies in the text and the tables.
use Rattle.std.proofs.Common.{◌≡◌, ℕ, zero, suc, ◌+◌, ◌<◌, ◌≤◌, List, [], ◌∷◌, ◌++◌, map, length, get_or, sym, refl, ap, ◌∙◌, subst, add-zero, zero-add, arith}
use Rattle.std.proofs.lemmas.List.{length-append, length-map, get_or_append_left}
use Rattle.globals.specs.Lying.{VariantLies, VariantsLie, ParametersLie, DefinitionLies, datatype_lies, annotation_lies, define_lies, val_lies, definition_at, ScriptLies, TypeNodeLies, int_lies, bool_lies, sym_lies, unit_lies, named_lies, function_lies, type_at, TypesLaid, Laid}
use Rattle.grammar.specs.Grammar.{Derives}
use Rattle.grammar.specs.Limits.{type_count, types_count, nodes_of, types_of, bindings_of, datatypes_of, constructors_of, total, Within}
use Rattle.grammar.specs.Trees as tree
use Rattle.grammar.specs.Trees.{Ident, TypeExpr, TypeExprs, datatype_definition, type_annotation, function_definition, val_binding, Script}
use Rattle.layout.specs.Spelling.{Spells}
use Rattle.layout.specs.Tabling.{none, parameter_types, after, after_all, definition_row, constructor_entries, constructor_row, parameter_row, field_types as field_nodes, type_row, rows, unused_word, unused_constructor, tables_of}
use Rattle.layout.specs.TypeEncoding.{unused_type, node_of_type, encode_type, encode_types}
use Rattle.layout.specs.Words.{word}
use Rattle.layout.specs.declared.counts.Counts.{Counts}
use Rattle.layout.specs.declared.definition.Definition.TheVariants as definition
use Rattle.layout.specs.declared.tables.Tables.{Tables}
use Rattle.layout.specs.declared.type_node.TypeForm.{TypeForm}
use Rattle.layout.specs.declared.type_node.TypeForm.TheVariants as type_form
use Rattle.layout.specs.declared.type_node.TypeNode.{TypeNode}
use Rattle.layout.proofs.InText.{NamesIn, TypeIn, TypesIn, ConstructorsIn, DefinitionIn, ScriptIn, derived_in}
use Rattle.layout.proofs.Lists.{Has, has_first, has_others, has_front, has_back, has_start}
use Rattle.layout.proofs.ScriptStanding.{length_constructors}
use Rattle.type_rows.specs.TypeExprs.{inner, inners, field_types, types_listed, expr_at}
use Rattle.layout.proofs.Standing.{type_some}
use Rattle.type_rows.proofs.ScriptRows.{length_inner, length_inners, length_fields}

-- Definitions.
module _ (text : List ℕ) (tables : Tables) where
  variants_lie : (k i t : ℕ) (cs : List tree.Constructor) → ConstructorsIn text cs → Has tables.constructors i (constructor_entries k t cs) → VariantsLie text tables i t cs
  variants_lie k i t [] s h = tt
  variants_lie k i t (c ∷ cs) s h =
      (subst (λ e. VariantLies text tables e t c) (sym (has_first h unused_constructor)) record { name = s.0; first = refl; past = refl; fields = refl }, variants_lie k (i + 1) (t + types_count c.fields) cs s.2 (has_others h))

  parameters_lie : (i : ℕ) (xs : List Ident) → NamesIn text xs → Has tables.parameters i (map word xs) → ParametersLie text tables i xs
  parameters_lie i [] s h = tt
  parameters_lie i (x ∷ xs) s h = (subst (λ w. Spells text w x) (sym (has_first h unused_word)) s.0, parameters_lie (i + 1) xs s.1 (has_others h))

  record Lie (c : Counts) (ds : Script) : Type 0 where
    definitions : Has tables.definitions c.definitions (rows definition_row c ds)
    constructors : Has tables.constructors c.constructors (rows constructor_row c ds)
    parameters : Has tables.parameters c.parameters (rows parameter_row c ds)

  length_definition : (c : Counts) (d : tree.Definition) → length (definition_row c d) ≡ 1
  length_definition c (datatype_definition p x cs) = refl
  length_definition c (type_annotation p x t) = refl
  length_definition c (function_definition p x xs e) = refl
  length_definition c (val_binding p x e) = refl

  length_constructed : (c : Counts) (d : tree.Definition) → length (constructor_row c d) ≡ constructors_of d
  length_constructed c (datatype_definition p x cs) = length_constructors c.definitions c.types cs
  length_constructed c (type_annotation p x t) = refl
  length_constructed c (function_definition p x xs e) = refl
  length_constructed c (val_binding p x e) = refl

  others : (c : Counts) (d : tree.Definition) (ds : Script) → Lie c (d ∷ ds) → Lie (after c d) ds
  others c d ds l = record {
    definitions = has_back (definition_row c d) _ 1 (length_definition c d) l.definitions;
    constructors = has_back (constructor_row c d) _ (constructors_of d) (length_constructed c d) l.constructors;
    parameters = has_back (parameter_row c d) _ (length (parameter_types d)) (length-map (parameter_types d) word) l.parameters;
  }

  definition_lies : (c : Counts) (d : tree.Definition) (ds : Script) → DefinitionIn text d → Lie c (d ∷ ds) → DefinitionLies text tables c d (definition_at text tables c.definitions)
  definition_lies c (datatype_definition p x cs) ds s l =
      subst (DefinitionLies text tables c (datatype_definition p x cs)) (sym (has_first l.definitions definition.Unused))
      (datatype_lies s.0 refl refl (variants_lie c.definitions c.constructors c.types cs s.1 (has_front (constructor_entries c.definitions c.types cs) _ l.constructors)))
  definition_lies c (type_annotation p x t) ds s l = subst (DefinitionLies text tables c (type_annotation p x t)) (sym (has_first l.definitions definition.Unused)) (annotation_lies s.0 refl)
  definition_lies c (function_definition p x xs e) ds s l =
      subst (DefinitionLies text tables c (function_definition p x xs e)) (sym (has_first l.definitions definition.Unused))
      (define_lies s.0 refl refl refl (parameters_lie c.parameters xs s.1 (has_front (map word xs) _ l.parameters)))
  definition_lies c (val_binding p x e) ds s l = subst (DefinitionLies text tables c (val_binding p x e)) (sym (has_first l.definitions definition.Unused)) (val_lies s.0 refl)

  script_lies : (c : Counts) (ds : Script) → ScriptIn text ds → Lie c ds → ScriptLies text tables c ds
  script_lies c [] s l = tt
  script_lies c (d ∷ ds) s l = (definition_lies c d ds s.0 l, script_lies (after c d) ds s.1 (others c d ds l))

-- Type expressions.
form_of : TypeExpr → TypeForm
form_of (tree.int_type p) = type_form.Int
form_of (tree.bool_type p) = type_form.Bool
form_of (tree.sym_type p) = type_form.Sym
form_of (tree.unit_type p) = type_form.Unit
form_of (tree.datatype x) = type_form.Datatype (length x.bytes)
form_of (tree.function_type_rule p ts t) = type_form.Function

place_of : TypeExpr → ℕ
place_of (tree.int_type p) = p
place_of (tree.bool_type p) = p
place_of (tree.sym_type p) = p
place_of (tree.unit_type p) = p
place_of (tree.datatype x) = x.place
place_of (tree.function_type_rule p ts t) = p

head_node : ℕ → TypeExpr → TypeNode
head_node k t = node_of_type (form_of t) (place_of t) (k + type_count t)

indexed : ℕ → List TypeExpr → List TypeNode
indexed i [] = []
indexed i (t ∷ ts) = head_node i t ∷ indexed (i + 1) ts

indexed_append : (i : ℕ) (xs ys : List TypeExpr) → indexed i (xs ++ ys) ≡ indexed i xs ++ indexed (i + length xs) ys
unfolding indexed
indexed_append i [] ys = ap (λ j. indexed j ys) (sym (add-zero i))
indexed_append i (x ∷ xs) ys = ap (λ l. head_node i x ∷ l) (indexed_append (i + 1) xs ys ∙ ap (λ j. indexed (i + 1) xs ++ indexed j ys) (let e : i + 1 + length xs ≡ i + suc (length xs) = omega arith in e))

mutual
  unfolding indexed head_node form_of place_of

  encode_indexed : (i : ℕ) (t : TypeExpr) → encode_type i t ≡ indexed i (inner t)
  encode_indexed i (tree.int_type p) = refl
  encode_indexed i (tree.bool_type p) = refl
  encode_indexed i (tree.sym_type p) = refl
  encode_indexed i (tree.unit_type p) = refl
  encode_indexed i (tree.datatype x) = refl
  encode_indexed i (tree.function_type_rule p ts t) =
      ap (λ l. node_of_type type_form.Function p (i + type_count (tree.function_type_rule p ts t)) ∷ l)
      (ap (λ l. l ++ encode_type (i + 1 + types_count ts) t) (encodes_indexed (i + 1) ts)
      ∙ ap (λ l. indexed (i + 1) (inners ts) ++ l) (encode_indexed (i + 1 + types_count ts) t ∙ ap (λ n. indexed (i + 1 + n) (inner t)) (sym (length_inners ts)))
      ∙ sym (indexed_append (i + 1) (inners ts) (inner t)))

  encodes_indexed : (i : ℕ) (ts : TypeExprs) → encode_types i ts ≡ indexed i (inners ts)
  encodes_indexed i tree.no_types = refl
  encodes_indexed i (tree.and_type t ts) =
      ap (λ l. l ++ encode_types (i + type_count t) ts) (encode_indexed i t) ∙ ap (λ l. indexed i (inner t) ++ l) (encodes_indexed (i + type_count t) ts ∙ ap (λ n. indexed (i + n) (inners ts)) (sym (length_inner t))) ∙ sym (indexed_append i (inner t) (inners ts))

fields_indexed : (i : ℕ) (cs : List tree.Constructor) → field_nodes i cs ≡ indexed i (field_types cs)
unfolding indexed
fields_indexed i [] = refl
fields_indexed i (c ∷ cs) =
    ap (λ l. l ++ field_nodes (i + types_count c.fields) cs) (encodes_indexed i c.fields) ∙ ap (λ l. indexed i (inners c.fields) ++ l) (fields_indexed (i + types_count c.fields) cs ∙ ap (λ n. indexed (i + n) (field_types cs)) (sym (length_inners c.fields)))
    ∙ sym (indexed_append i (inners c.fields) (field_types cs))

rows_indexed : (c : Counts) (ds : Script) → rows type_row c ds ≡ indexed c.types (types_listed ds)
unfolding indexed
rows_indexed c [] = refl
rows_indexed c (datatype_definition p x cs ∷ ds) =
    ap (λ l. l ++ rows type_row (after c (datatype_definition p x cs)) ds) (fields_indexed c.types cs)
    ∙ ap (λ l. indexed c.types (field_types cs) ++ l) (rows_indexed (after c (datatype_definition p x cs)) ds ∙ ap (λ n. indexed (c.types + n) (types_listed ds)) (sym (length_fields cs))) ∙ sym (indexed_append c.types (field_types cs) (types_listed ds))
rows_indexed c (type_annotation p x t ∷ ds) =
    ap (λ l. l ++ rows type_row (after c (type_annotation p x t)) ds) (encode_indexed c.types t)
    ∙ ap (λ l. indexed c.types (inner t) ++ l) (rows_indexed (after c (type_annotation p x t)) ds ∙ ap (λ n. indexed (c.types + n) (types_listed ds)) (sym (length_inner t))) ∙ sym (indexed_append c.types (inner t) (types_listed ds))
rows_indexed c (function_definition p x ps e ∷ ds) = rows_indexed (after c (function_definition p x ps e)) ds ∙ ap (λ n. indexed n (types_listed ds)) (add-zero c.types)
rows_indexed c (val_binding p x e ∷ ds) = rows_indexed (after c (val_binding p x e)) ds ∙ ap (λ n. indexed n (types_listed ds)) (add-zero c.types)

length_indexed : (i : ℕ) (ts : List TypeExpr) → length (indexed i ts) ≡ length ts
unfolding indexed
length_indexed i [] = refl
length_indexed i (t ∷ ts) = ap suc (length_indexed (i + 1) ts)

indexed_at : (i : ℕ) (ts : List TypeExpr) (k : ℕ) (d : TypeNode) → k < length ts → get_or (indexed i ts) k d ≡ head_node (i + k) (expr_at ts k)
unfolding indexed
indexed_at i [] k d low = absurd (omega arith)
indexed_at i (t ∷ ts) zero d low = ap (λ j. head_node j t) (sym (add-zero i))
indexed_at i (t ∷ ts) (suc k) d low = indexed_at (i + 1) ts k d (omega arith) ∙ ap (λ j. head_node j (expr_at ts k)) (let e : i + 1 + k ≡ i + suc k = omega arith in e)

-- each type expression is in the text
abbrev AllTypesIn : List ℕ → List TypeExpr → Type 0
AllTypesIn text [] = Unit {0}
AllTypesIn text (t ∷ ts) = TypeIn text t × AllTypesIn text ts

module _ (text : List ℕ) where
  in_append : (xs ys : List TypeExpr) → AllTypesIn text xs → AllTypesIn text ys → AllTypesIn text (xs ++ ys)
  in_append [] ys a b = b
  in_append (x ∷ xs) ys a b = (a.0, in_append xs ys a.1 b)

  mutual
    inner_in : (t : TypeExpr) → TypeIn text t → AllTypesIn text (inner t)
    inner_in (tree.int_type p) h = (h, tt)
    inner_in (tree.bool_type p) h = (h, tt)
    inner_in (tree.sym_type p) h = (h, tt)
    inner_in (tree.unit_type p) h = (h, tt)
    inner_in (tree.datatype x) h = (h, tt)
    inner_in (tree.function_type_rule p ts t) h = (h, in_append (inners ts) (inner t) (inners_in ts h.0) (inner_in t h.1))

    inners_in : (ts : TypeExprs) → TypesIn text ts → AllTypesIn text (inners ts)
    inners_in tree.no_types h = tt
    inners_in (tree.and_type t ts) h = in_append (inner t) (inners ts) (inner_in t h.0) (inners_in ts h.1)

  fields_in : (cs : List tree.Constructor) → ConstructorsIn text cs → AllTypesIn text (field_types cs)
  fields_in [] h = tt
  fields_in (c ∷ cs) h = in_append (inners c.fields) (field_types cs) (inners_in c.fields h.1) (fields_in cs h.2)

  types_in : (ds : Script) → ScriptIn text ds → AllTypesIn text (types_listed ds)
  types_in [] h = tt
  types_in (datatype_definition p x cs ∷ ds) h = in_append (field_types cs) (types_listed ds) (fields_in cs h.0.1) (types_in ds h.1)
  types_in (type_annotation p x t ∷ ds) h = in_append (inner t) (types_listed ds) (inner_in t h.0.1) (types_in ds h.1)
  types_in (function_definition p x xs e ∷ ds) h = types_in ds h.1
  types_in (val_binding p x e ∷ ds) h = types_in ds h.1

  type_in_at : (ts : List TypeExpr) (k : ℕ) → AllTypesIn text ts → k < length ts → TypeIn text (expr_at ts k)
  type_in_at [] k h low = absurd (omega arith)
  type_in_at (t ∷ ts) zero h low = h.0
  type_in_at (t ∷ ts) (suc k) h low = type_in_at ts k h.1 (omega arith)

  head_lies : (k : ℕ) (t : TypeExpr) → TypeIn text t → TypeNodeLies text (head_node k t) k (head_node k t).form t
  unfolding head_node form_of place_of
  head_lies k (tree.int_type p) h = int_lies refl
  head_lies k (tree.bool_type p) h = bool_lies refl
  head_lies k (tree.sym_type p) h = sym_lies refl
  head_lies k (tree.unit_type p) h = unit_lies refl
  head_lies k (tree.datatype x) h = named_lies refl h
  head_lies k (tree.function_type_rule p ts t) h = function_lies refl

-- So much of each.
count_all : (c : Counts) (ds : Script) → ((after_all c ds).definitions ≡ c.definitions + length ds) × ((after_all c ds).types ≡ c.types + total types_of ds) × ((after_all c ds).nodes ≡ c.nodes + total nodes_of ds) × ((after_all c ds).bindings ≡ c.bindings + total bindings_of ds) × ((after_all c ds).datatypes ≡ c.datatypes + total datatypes_of ds) × ((after_all c ds).constructors ≡ c.constructors + total constructors_of ds)
count_all c [] = (omega arith, omega arith, omega arith, omega arith, omega arith, omega arith)
count_all c (d ∷ ds) = let h = count_all (after c d) ds in let a = h.0 in let b = h.1 in let e = h.2 in let f = h.3 in let g = h.4 in let i = h.5 in (omega arith, omega arith, omega arith, omega arith, omega arith, omega arith)

length_types_of : (ds : Script) → length (types_listed ds) ≡ total types_of ds
length_types_of [] = refl
length_types_of (datatype_definition p x cs ∷ ds) = let a = length-append (field_types cs) (types_listed ds) in let b = length_fields cs in let h = length_types_of ds in omega arith
length_types_of (type_annotation p x t ∷ ds) = let a = length-append (inner t) (types_listed ds) in let b = length_inner t in let h = length_types_of ds in omega arith
length_types_of (function_definition p x xs e ∷ ds) = let h = length_types_of ds in omega arith
length_types_of (val_binding p x e ∷ ds) = let h = length_types_of ds in omega arith

-- each definition is one of some kind
definitions_few : (ds : Script) → length ds ≤ total datatypes_of ds + total types_of ds + total bindings_of ds
definitions_few [] = omega arith
definitions_few (datatype_definition p x cs ∷ ds) = let h = definitions_few ds in omega arith
definitions_few (type_annotation p x t ∷ ds) = let h = definitions_few ds in let k = type_some t in omega arith
definitions_few (function_definition p x xs e ∷ ds) = let h = definitions_few ds in omega arith
definitions_few (val_binding p x e ∷ ds) = let h = definitions_few ds in omega arith

pub laid_by : (text : List ℕ) (tables : Tables) (script : Script) (entries : ℕ) → Derives text script → Within script entries → tables ≡ tables_of script → Laid text tables script
laid_by text tables script entries d w e = subst (λ t. Laid text t script) (sym e) laid
  where
    types : TypesLaid text (tables_of script) (types_listed script)
    types =
        let counts = count_all none script in
        let types_count_is = counts.1 in
        let many = length_types_of script in
        let few = w.types in
        record {
          count = omega arith;
          few = omega arith;
          each = λ k low.
              let node : type_at (tables_of script) k ≡ head_node k (expr_at (types_listed script) k) =
              get_or_append_left (rows type_row none script) _ unused_type k (let r = ap length (rows_indexed none script) in let l = length_indexed 0 (types_listed script) in omega arith)
              ∙ ap (λ l. get_or l k unused_type) (rows_indexed none script) ∙ indexed_at 0 (types_listed script) k unused_type low ∙ ap (λ j. head_node j (expr_at (types_listed script) k)) (zero-add k) in
              subst (λ (n : TypeNode). TypeNodeLies text n k n.form (expr_at (types_listed script) k)) (sym node) (head_lies text k (expr_at (types_listed script) k) (type_in_at text (types_listed script) k (types_in text script (derived_in text script d)) low));
        }

    laid : Laid text (tables_of script) script
    laid =
        let counts = count_all none script in
        let a = counts.0 in
        let b = counts.1 in
        let c = counts.2 in
        let f = counts.3 in
        let g = counts.4 in
        let h = counts.5 in
        let wn = w.nodes in
        let wt = w.types in
        let wb = w.bindings in
        let wd = w.datatypes in
        let wc = w.constructors in
        let few = definitions_few script in
        record {
          lies = script_lies text (tables_of script) none script (derived_in text script d) record { definitions = has_start _ _; constructors = has_start _ _; parameters = has_start _ _ };
          count = omega arith;
          entries = omega arith;
          few = record { definitions = omega arith; datatypes = omega arith; bindings = omega arith; constructors = omega arith; types = omega arith; nodes = omega arith };
          types = types;
        }
