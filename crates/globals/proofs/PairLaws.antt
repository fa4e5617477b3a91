-- Defines and annotations, one by one.
use Rattle.std.proofs.Common.{◌≡◌, ℕ, suc, ◌+◌, ◌-◌, ◌<◌, ◌≤◌, ◌⊎◌, List, [], ◌∷◌, ◌++◌, length, take, drop, get_or, set, Some, Ok, Err, inl, inr, sym, refl, ap, ◌∙◌, subst, add-zero, zero-add, arith, length-set}
use Rattle.std.specs.List.{slice_get}
use Rattle.std.proofs.lemmas.Bool.{cases_eq, cases_lt}
use Rattle.std.proofs.lemmas.List.{take-append-drop, get_or-set_same, get_or-set_other}
use Rattle.std.proofs.lemmas.Option.{same_Some}
use Rattle.globals.specs.Lying.{DefinitionLies, datatype_lies, annotation_lies, define_lies, val_lies, definition_at, ScriptLies, Laid}
use Rattle.globals.specs.Pairs.{IsRoot, HasType, PairsOne, DefineHas}
use Rattle.grammar.specs.Trees as tree
use Rattle.grammar.specs.Trees.{Ident, TypeExpr, datatype_definition, type_annotation, function_definition, val_binding, Script}
use Rattle.layout.specs.Tabling.{none, after, after_all}
use Rattle.layout.specs.declared.counts.Counts.{Counts}
use Rattle.layout.specs.Spelling.{Spells}
use Rattle.layout.specs.declared.definition.Annotation.{Annotation as AnnotationEntry}
use Rattle.layout.specs.declared.definition.Define.{Define as DefineEntry}
use Rattle.layout.specs.declared.definition.Definition.{Definition}
use Rattle.layout.specs.declared.definition.Definition.TheVariants as definition
use Rattle.layout.specs.declared.tables.Tables.{Tables}
use Rattle.layout.proofs.Lists.{Has}
use Rattle.program.specs.Programs.{Program, Define, program, first_of, defines_of}
use Rattle.script_refusals.specs.declared.refusal.Refusal.TheVariants as refusal
use Rattle.script_refusals.specs.declared.refusal.Refused.{Refused}
use Rattle.type_rows.specs.Rows.{shape_at, kind_at, IsKind}
use Rattle.type_rows.specs.Shapes.{kind_of, ty}
use Rattle.type_rows.specs.TypeExprs.{inner, types_listed, meaning, HasRows}
use Rattle.type_rows.specs.declared.row.Row.{Row}
use Rattle.type_rows.specs.declared.rows.Rows.{Rows}
use Rattle.type_rows.specs.declared.shape.Shape.{Shape}
use Rattle.type_rows.specs.declared.shape.Shape.TheVariants as shape
use Rattle.type_rows.specs.declared.value_type.ValueType.{ValueType}
use Rattle.type_rows.specs.declared.value_type.ValueType.TheVariants as value
use Rattle.type_rows.proofs.ScriptRows.{script_meant, kind_here}
use Rattle.globals.proofs.DefineLaws.{none_some}
use Rattle.typing.specs.Types.{Ty, annotated, annotation_of}
use Rattle.typing.specs.Verdict.{accepted, refused, before, found, each, paired}

pub has_stands : {E : Type 0} (all : List E) (i : ℕ) (ys : List E) → take (length ys) (drop i all) ≡ ys → Has all i ys
has_stands all i ys e = record { rest = drop (length ys) (drop i all); is = sym (take-append-drop (length ys) (drop i all)) ∙ ap (λ l. l ++ drop (length ys) (drop i all)) e }

-- a row's type is that of a row
pub kind_valid : (rows : List Row) (k : ℕ) → IsKind rows (kind_at rows k)
kind_valid rows k = go (shape_at rows k) refl
  where
    go : (s : Shape) → shape_at rows k ≡ s → IsKind rows (kind_of k s)
    go shape.Int e = tt
    go shape.Bool e = tt
    go shape.Sym e = tt
    go shape.Unit e = tt
    go (shape.Datatype d) e = tt
    go (shape.Function n) e = (n, e)

module _ (script : Script) (rows : List Row) (has : HasRows (program script) (types_listed script) rows) (few : length (types_listed script) ≤ 512) where
  -- the type at an annotation's root
  pub root_type : (x : Ident) (r : ℕ) (kind : ValueType) → IsRoot (program script) script x.bytes (Some r) → kind ≡ kind_at rows r
      → (found refusal.Unpaired x.place (first_of (λ a. a.name) x.bytes (program script).annotations) ≡ accepted) × (annotation_of (program script) x.bytes ≡ Some (ty (meaning (program script) (types_listed script)) kind)) × IsKind rows kind
  root_type x r kind is e =
      let P = program script in
      let all = types_listed script in
      let a = is.0 in
      let h = kind_here P all rows (meaning P all) has (script_meant P all few) r a.type (has_stands all r (inner a.type) is.2) in
      (ap (found refusal.Unpaired x.place) is.1, ap (annotated P) is.1 ∙ ap Some (sym (ap (ty (meaning P all)) e ∙ h.2)), subst (IsKind rows) (sym e) (kind_valid rows r))

-- One definition.
module _ (text : List ℕ) (tables : Tables) (P : Program) (m : ℕ → Ty) (rows : List Row) (n : ℕ) (old : List ValueType) (c : Counts) where
  pub pair_annotation : (d : tree.Definition) (a : AnnotationEntry) → DefinitionLies text tables c d (definition.Annotation a) → ((x : Ident) → Spells text a.name x → found refusal.Unpaired x.place (first_of (λ (d : Define). d.name) x.bytes P.defines) ≡ accepted) → PairsOne P m rows n d old (Ok n) old
  pair_annotation d a (annotation_lies {x = x} spelt r) f = (f x spelt, (refl, refl))

  pub pair_annotation_refused : (d : tree.Definition) (a : AnnotationEntry) (r : Refused) → DefinitionLies text tables c d (definition.Annotation a) → ((x : Ident) → Spells text a.name x → found refusal.Unpaired x.place (first_of (λ (d : Define). d.name) x.bytes P.defines) ≡ refused r) → PairsOne P m rows n d old (Err r) old
  pair_annotation_refused d a r (annotation_lies {x = x} spelt root) f = f x spelt

  pub pair_define : (d : tree.Definition) (a : DefineEntry) (kind : ValueType) (new : List ValueType) → DefinitionLies text tables c d (definition.Define a) → new ≡ set old n kind → ((x : Ident) → Spells text a.name x → HasType P m rows x (Ok kind)) → PairsOne P m rows n d old (Ok (n + 1)) new
  pair_define d a kind new (define_lies {x = x} spelt f p b ps) e h = let k = h x spelt in (k.0, (refl, kind, e, k.1, k.2))

  pub pair_define_refused : (d : tree.Definition) (a : DefineEntry) (r : Refused) → DefinitionLies text tables c d (definition.Define a) → ((x : Ident) → Spells text a.name x → HasType P m rows x (Err r)) → PairsOne P m rows n d old (Err r) old
  pair_define_refused d a r (define_lies {x = x} spelt f p b ps) h = h x spelt

  pub pair_other : (d : tree.Definition) (e : Definition) → DefinitionLies text tables c d e → ((a : AnnotationEntry) → e ≡ definition.Annotation a → ⊥) → ((a : DefineEntry) → e ≡ definition.Define a → ⊥) → PairsOne P m rows n d old (Ok n) old
  pair_other d e (datatype_lies {m = a} spelt f p vs) no_annotation no_define = (refl, (refl, refl))
  pair_other d e (annotation_lies {m = a} spelt r) no_annotation no_define = absurd (no_annotation a refl)
  pair_other d e (define_lies {m = a} spelt f p b ps) no_annotation no_define = absurd (no_define a refl)
  pair_other d e (val_lies {m = a} spelt b) no_annotation no_define = (refl, (refl, refl))

-- as many defines as bindings at most
defines_few : (c : Counts) (ds : Script) → c.bindings + length (defines_of ds) ≤ (after_all c ds).bindings
defines_few c [] = omega arith
defines_few c (datatype_definition p x cs ∷ ds) = let h = defines_few (after c (datatype_definition p x cs)) ds in omega arith
defines_few c (type_annotation p x t ∷ ds) = let h = defines_few (after c (type_annotation p x t)) ds in omega arith
defines_few c (function_definition p x ps e ∷ ds) = let h = defines_few (after c (function_definition p x ps e)) ds in omega arith
defines_few c (val_binding p x e ∷ ds) = let h = defines_few (after c (val_binding p x e)) ds in omega arith

-- what was paired on the way, and what is left
pub record Pairing (text : List ℕ) (tables : Tables) (script : Script) (m : ℕ → Ty) (rows : Rows) (k n : ℕ) (types : List ValueType) : Type 0 where
  pub counts : Counts
  pub left : Script
  pub here : k ≡ counts.definitions
  pub lies : ScriptLies text tables counts left
  pub end : tables.counts.definitions ≡ k + length left
  pub rest : (j : ℕ) → slice_get (program script).defines (n + j) ≡ slice_get (defines_of left) j
  pub room : n + length (defines_of left) ≤ 256
  pub long : length types ≡ 256
  pub said : each (paired (program script)) script ≡ each (paired (program script)) left
  pub typed : (j : ℕ) → j < n → DefineHas (program script) m rows (record { types = types }) j

module _ (text : List ℕ) (tables : Tables) (script : Script) (m : ℕ → Ty) (rows : Rows) where
  abbrev P : Program
  P = program script

  pub pairing_start : (types : List ValueType) → length types ≡ 256 → Laid text tables script → Pairing text tables script m rows 0 0 types
  pairing_start types long l =
      let few = l.few.bindings in
      let d = defines_few none script in
      record {
        counts = none;
        left = script;
        here = refl;
        lies = l.lies;
        end = l.count ∙ sym (zero-add (length script));
        rest = λ j. ap (slice_get (defines_of script)) (zero-add j);
        room = omega arith;
        long = long;
        said = refl;
        typed = λ j low. absurd (omega arith);
      }

  -- a type more, of the next define
  typed_more : (n : ℕ) (types : List ValueType) (τ : ValueType) (d : Define) → length types ≡ 256 → n < 256 → slice_get P.defines n ≡ Some d → annotation_of P d.name.bytes ≡ Some (ty m τ) → IsKind rows.rows τ
      → ((j : ℕ) → j < n → DefineHas P m rows (record { types = types }) j) → (j : ℕ) → j < n + 1 → DefineHas P m rows (record { types = set types n τ }) j
  typed_more n types τ d long low at a k before j below d' at' = go (cases_eq j n)
    where
      kind : (j ≡ n) → get_or (set types n τ) j value.Unit ≡ τ
      kind e = ap (λ i. get_or (set types n τ) i value.Unit) e ∙ get_or-set_same types n τ value.Unit (omega arith)

      same : (j ≡ n) → d ≡ d'
      same e = same_Some d d' (sym at ∙ ap (slice_get P.defines) (sym e) ∙ at')

      go : (j ≡ n) ⊎ (j ≡ n → ⊥) → (annotation_of P d'.name.bytes ≡ Some (ty m (get_or (set types n τ) j value.Unit))) × IsKind rows.rows (get_or (set types n τ) j value.Unit)
      go (inl e) = (ap (λ (d : Define). annotation_of P d.name.bytes) (sym (same e)) ∙ a ∙ ap (λ t. Some (ty m t)) (sym (kind e)), subst (IsKind rows.rows) (sym (kind e)) k)
      go (inr e) =
          let o = get_or-set_other types n j τ value.Unit e in
          let b = before j (omega arith) d' at' in
          (b.0 ∙ ap (λ t. Some (ty m t)) (sym o), subst (IsKind rows.rows) (sym o) b.1)

  module _ (k n : ℕ) (types : List ValueType) (e : Definition) (low : k < tables.counts.definitions) (is : e ≡ definition_at text tables k) where
    pub pairing_refused : (r : Refused) → ((c : Counts) (d : tree.Definition) → DefinitionLies text tables c d e → paired P d ≡ refused r) → Pairing text tables script m rows k n types → each (paired P) script ≡ refused r
    pairing_refused r one g = g.said ∙ go g.left g.lies g.end
      where
        go : (left : Script) → ScriptLies text tables g.counts left → tables.counts.definitions ≡ k + length left → each (paired P) left ≡ refused r
        go [] lies end = absurd (omega arith)
        go (d ∷ left) lies end =
            let here = g.here in
            ap (λ v. before v (each (paired P) left)) (one g.counts d (subst (DefinitionLies text tables g.counts d) (ap (definition_at text tables) (sym here) ∙ sym is) lies.0))

    pub pairing_next : (more : ℕ) (new : List ValueType) → ((c : Counts) (d : tree.Definition) → DefinitionLies text tables c d e → PairsOne P m rows.rows n d types (Ok more) new) → Pairing text tables script m rows k n types
        → Pairing text tables script m rows (k + 1) more new
    pairing_next more new one g = go g.left g.lies g.end g.rest g.room g.said
      where
        -- a definition that is no define
        plain : (d : tree.Definition) (left : Script) → defines_of (d ∷ left) ≡ defines_of left → ScriptLies text tables g.counts (d ∷ left) → tables.counts.definitions ≡ k + length (d ∷ left) → ((j : ℕ) → slice_get P.defines (n + j) ≡ slice_get (defines_of (d ∷ left)) j)
            → n + length (defines_of (d ∷ left)) ≤ 256 → each (paired P) script ≡ each (paired P) (d ∷ left) → paired P d ≡ accepted → more ≡ n → new ≡ types → Pairing text tables script m rows (k + 1) more new
        plain d left none lies end rest room said fine p q =
            let here = g.here in
            let sizes = ap length none in
            record {
              counts = after g.counts d;
              left = left;
              here = omega arith;
              lies = lies.1;
              end = omega arith;
              rest = λ j. ap (λ i. slice_get P.defines (i + j)) p ∙ rest j ∙ ap (λ l. slice_get l j) none;
              room = omega arith;
              long = ap length q ∙ g.long;
              said = said ∙ ap (λ v. before v (each (paired P) left)) fine;
              typed = λ j low. subst (λ ts. DefineHas P m rows (record { types = ts }) j) (sym q) (g.typed j (omega arith));
            }

        go : (left : Script) → ScriptLies text tables g.counts left → tables.counts.definitions ≡ k + length left → ((j : ℕ) → slice_get P.defines (n + j) ≡ slice_get (defines_of left) j) → n + length (defines_of left) ≤ 256
            → each (paired P) script ≡ each (paired P) left → Pairing text tables script m rows (k + 1) more new
        go [] lies end rest room said = absurd (omega arith)
        go (datatype_definition p x cs ∷ left) lies end rest room said =
            let here = g.here in
            let o = one g.counts (datatype_definition p x cs) (subst (DefinitionLies text tables g.counts (datatype_definition p x cs)) (ap (definition_at text tables) (sym here) ∙ sym is) lies.0) in
            plain (datatype_definition p x cs) left refl lies end rest room said o.0 o.1.0 o.1.1
        go (type_annotation p x t ∷ left) lies end rest room said =
            let here = g.here in
            let o = one g.counts (type_annotation p x t) (subst (DefinitionLies text tables g.counts (type_annotation p x t)) (ap (definition_at text tables) (sym here) ∙ sym is) lies.0) in
            plain (type_annotation p x t) left refl lies end rest room said o.0 o.1.0 o.1.1
        go (val_binding p x b ∷ left) lies end rest room said =
            let here = g.here in
            let o = one g.counts (val_binding p x b) (subst (DefinitionLies text tables g.counts (val_binding p x b)) (ap (definition_at text tables) (sym here) ∙ sym is) lies.0) in
            plain (val_binding p x b) left refl lies end rest room said o.0 o.1.0 o.1.1
        go (function_definition p x ps b ∷ left) lies end rest room said =
            let here = g.here in
            let d : tree.Definition = function_definition p x ps b in
            let o = one g.counts (function_definition p x ps b) (subst (DefinitionLies text tables g.counts (function_definition p x ps b)) (ap (definition_at text tables) (sym here) ∙ sym is) lies.0) in
            let entry : Define = record { place = p; name = x; parameters = ps; body = b } in
            let count : more ≡ n + 1 = o.1.0 in
            let at : slice_get P.defines n ≡ Some entry = ap (slice_get P.defines) (sym (add-zero n)) ∙ rest 0 in
            let written : new ≡ set types n o.1.1 = o.1.2 in
            record {
              counts = after g.counts (function_definition p x ps b);
              left = left;
              here = omega arith;
              lies = lies.1;
              end = omega arith;
              rest = λ j. let q : more + j ≡ n + suc j = omega arith in ap (slice_get P.defines) q ∙ rest (suc j);
              room = omega arith;
              long = ap length written ∙ length-set types n o.1.1 ∙ g.long;
              said = said ∙ ap (λ v. before v (each (paired P) left)) o.0;
              typed = λ j low. subst (λ ts. DefineHas P m rows (record { types = ts }) j) (sym written) (typed_more n types o.1.1 entry g.long (omega arith) at o.1.3 o.1.4 g.typed j (omega arith));
            }

  pub pairing_end : (k n : ℕ) (types : List ValueType) → tables.counts.definitions ≤ k → Pairing text tables script m rows k n types → (each (paired P) script ≡ accepted) × ((j : ℕ) → DefineHas P m rows (record { types = types }) j)
  pairing_end k n types high g = go g.left g.end g.rest g.said
    where
      go : (left : Script) → tables.counts.definitions ≡ k + length left → ((j : ℕ) → slice_get P.defines (n + j) ≡ slice_get (defines_of left) j) → each (paired P) script ≡ each (paired P) left → (each (paired P) script ≡ accepted) × ((j : ℕ) → DefineHas P m rows (record { types = types }) j)
      go (d ∷ left) end rest said = absurd (omega arith)
      go [] end rest said = (said, all)
        where
          all : (j : ℕ) → DefineHas P m rows (record { types = types }) j
          all j d at = by (cases_lt j n)
            where
              by : (j < n) ⊎ (n ≤ j) → (annotation_of P d.name.bytes ≡ Some (ty m (get_or types j value.Unit))) × IsKind rows.rows (get_or types j value.Unit)
              by (inl low) = g.typed j low d at
              by (inr high) = let q : n + (j - n) ≡ j = omega arith in none_some d (sym (rest (j - n)) ∙ ap (slice_get P.defines) q ∙ at)
