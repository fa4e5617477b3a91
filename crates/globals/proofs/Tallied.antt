-- What was declared in the end is what the script declares.
use Rattle.std.proofs.Common.{◌≡◌, ℕ, zero, suc, ◌+◌, List, [], ◌∷◌, ◌++◌, map, length, take, get_or, Some, sym, refl, ap, ◌∙◌, subst, append_assoc, arith, take_at}
use Rattle.std.specs.List.{slice_get}
use Rattle.std.proofs.lemmas.List.{append-nil, length-append, get_or-take}
use Rattle.std.proofs.lemmas.Option.{same_Some, slice_get_within}
use Rattle.globals.specs.Names.{StandsAt, IsVariant, no_variant, Named}
use Rattle.globals.specs.Tallies.{Tally, no_tally, bound_names, annotated_names, meaning_of, tallied, tallied_all, variant_codes, Holds}
use Rattle.globals.specs.declared.declarations.Declarations.{Declarations}
use Rattle.globals.specs.declared.variant.Variant.{Variant as VariantCode}
use Rattle.grammar.specs.Limits.{type_count, types_count, types_length, fields_count}
use Rattle.grammar.specs.Trees as tree
use Rattle.grammar.specs.Trees.{Ident, TypeExpr, datatype_definition, type_annotation, function_definition, val_binding, Script}
use Rattle.layout.specs.Tabling.{none, after}
use Rattle.layout.specs.declared.counts.Counts.{Counts}
use Rattle.layout.proofs.Lists.{Has, has_front, has_back}
use Rattle.program.specs.Programs as means
use Rattle.program.specs.Programs.{Bound, Annotation, Variant, bound_variants, bound_from, annotations_of, datatypes_of, variants, variants_from, program}
use Rattle.type_rows.specs.TypeExprs.{inner, inners, field_types, types_listed}
use Rattle.type_rows.proofs.ScriptRows.{length_inner, length_inners, length_fields}
use Rattle.typing.specs.Scripts.{basis_names, bytes_of}
use Rattle.typing.specs.Verdict.{accepted, once_all}
use Rattle.typing.proofs.Verdicts.{all_once}

variants_before : (c : ℕ) (ks : List tree.Constructor) (rest : List Bound) → bound_variants c ks [] ++ rest ≡ bound_variants c ks rest
variants_before c [] rest = refl
variants_before c (k ∷ ks) rest = ap (λ l. record { name = k.name; meaning = means.constructor c } ∷ l) (variants_before (c + 1) ks rest)

pub bound_in_all : (ds : Script) (c : Counts) (t : Tally) → (tallied_all c ds t).bound ≡ t.bound ++ bound_from c.constructors t.functions t.vals ds
bound_in_all [] c t = sym (append-nil t.bound)
bound_in_all (datatype_definition p x cs ∷ ds) c t =
    bound_in_all ds (after c (datatype_definition p x cs)) (tallied c (datatype_definition p x cs) t)
    ∙ append_assoc t.bound (bound_variants c.constructors cs []) _ ∙ ap (λ l. t.bound ++ l) (variants_before c.constructors cs _)
bound_in_all (type_annotation p x e ∷ ds) c t = bound_in_all ds (after c (type_annotation p x e)) (tallied c (type_annotation p x e) t) ∙ ap (λ n. t.bound ++ bound_from n t.functions t.vals ds) (let q : c.constructors + 0 ≡ c.constructors = omega arith in q)
bound_in_all (function_definition p x ps e ∷ ds) c t =
    bound_in_all ds (after c (function_definition p x ps e)) (tallied c (function_definition p x ps e) t) ∙ append_assoc t.bound (record { name = x; meaning = means.function t.functions } ∷ []) _
    ∙ ap (λ n. t.bound ++ record { name = x; meaning = means.function t.functions } ∷ bound_from n (t.functions + 1) t.vals ds) (let q : c.constructors + 0 ≡ c.constructors = omega arith in q)
bound_in_all (val_binding p x e ∷ ds) c t =
    bound_in_all ds (after c (val_binding p x e)) (tallied c (val_binding p x e) t) ∙ append_assoc t.bound (record { name = x; meaning = means.val t.vals } ∷ []) _
    ∙ ap (λ n. t.bound ++ record { name = x; meaning = means.val t.vals } ∷ bound_from n t.functions (t.vals + 1) ds) (let q : c.constructors + 0 ≡ c.constructors = omega arith in q)

pub annotations_in_all : (ds : Script) (c : Counts) (t : Tally) → (tallied_all c ds t).annotations ≡ t.annotations ++ annotations_of ds
annotations_in_all [] c t = sym (append-nil t.annotations)
annotations_in_all (datatype_definition p x cs ∷ ds) c t = annotations_in_all ds (after c (datatype_definition p x cs)) (tallied c (datatype_definition p x cs) t)
annotations_in_all (type_annotation p x e ∷ ds) c t = annotations_in_all ds (after c (type_annotation p x e)) (tallied c (type_annotation p x e) t) ∙ append_assoc t.annotations (record { name = x; type = e } ∷ []) _
annotations_in_all (function_definition p x ps e ∷ ds) c t = annotations_in_all ds (after c (function_definition p x ps e)) (tallied c (function_definition p x ps e) t)
annotations_in_all (val_binding p x e ∷ ds) c t = annotations_in_all ds (after c (val_binding p x e)) (tallied c (val_binding p x e) t)

pub datatypes_in_all : (ds : Script) (c : Counts) (t : Tally) → (tallied_all c ds t).datatypes ≡ t.datatypes ++ datatypes_of ds
datatypes_in_all [] c t = sym (append-nil t.datatypes)
datatypes_in_all (datatype_definition p x cs ∷ ds) c t = datatypes_in_all ds (after c (datatype_definition p x cs)) (tallied c (datatype_definition p x cs) t) ∙ append_assoc t.datatypes (x ∷ []) _
datatypes_in_all (type_annotation p x e ∷ ds) c t = datatypes_in_all ds (after c (type_annotation p x e)) (tallied c (type_annotation p x e) t)
datatypes_in_all (function_definition p x ps e ∷ ds) c t = datatypes_in_all ds (after c (function_definition p x ps e)) (tallied c (function_definition p x ps e) t)
datatypes_in_all (val_binding p x e ∷ ds) c t = datatypes_in_all ds (after c (val_binding p x e)) (tallied c (val_binding p x e) t)

-- the roots of annotations, behind so many type nodes
root_codes : Counts → Script → List ℕ
root_codes c [] = []
root_codes c (datatype_definition p x cs ∷ ds) = root_codes (after c (datatype_definition p x cs)) ds
root_codes c (type_annotation p x e ∷ ds) = c.types ∷ root_codes (after c (type_annotation p x e)) ds
root_codes c (function_definition p x ps e ∷ ds) = root_codes (after c (function_definition p x ps e)) ds
root_codes c (val_binding p x e ∷ ds) = root_codes (after c (val_binding p x e)) ds

roots_in_all : (ds : Script) (c : Counts) (t : Tally) → (tallied_all c ds t).roots ≡ t.roots ++ root_codes c ds
unfolding root_codes
roots_in_all [] c t = sym (append-nil t.roots)
roots_in_all (datatype_definition p x cs ∷ ds) c t = roots_in_all ds (after c (datatype_definition p x cs)) (tallied c (datatype_definition p x cs) t)
roots_in_all (type_annotation p x e ∷ ds) c t = roots_in_all ds (after c (type_annotation p x e)) (tallied c (type_annotation p x e) t) ∙ append_assoc t.roots (c.types ∷ []) _
roots_in_all (function_definition p x ps e ∷ ds) c t = roots_in_all ds (after c (function_definition p x ps e)) (tallied c (function_definition p x ps e) t)
roots_in_all (val_binding p x e ∷ ds) c t = roots_in_all ds (after c (val_binding p x e)) (tallied c (val_binding p x e) t)

-- the constructors of all datatypes, behind so much
all_codes : Counts → ℕ → Script → List VariantCode
all_codes c d [] = []
all_codes c d (datatype_definition p x cs ∷ ds) = variant_codes d c.types cs ++ all_codes (after c (datatype_definition p x cs)) (d + 1) ds
all_codes c d (type_annotation p x e ∷ ds) = all_codes (after c (type_annotation p x e)) d ds
all_codes c d (function_definition p x ps e ∷ ds) = all_codes (after c (function_definition p x ps e)) d ds
all_codes c d (val_binding p x e ∷ ds) = all_codes (after c (val_binding p x e)) d ds

variants_in_all : (ds : Script) (c : Counts) (t : Tally) → (tallied_all c ds t).variants ≡ t.variants ++ all_codes c (length t.datatypes) ds
unfolding all_codes
variants_in_all [] c t = sym (append-nil t.variants)
variants_in_all (datatype_definition p x cs ∷ ds) c t =
    let n : length (t.datatypes ++ x ∷ []) ≡ length t.datatypes + 1 = length-append t.datatypes (x ∷ []) in
    variants_in_all ds (after c (datatype_definition p x cs)) (tallied c (datatype_definition p x cs) t)
    ∙ ap (λ d. (t.variants ++ variant_codes (length t.datatypes) c.types cs) ++ all_codes (after c (datatype_definition p x cs)) d ds) n ∙ append_assoc t.variants (variant_codes (length t.datatypes) c.types cs) _
variants_in_all (type_annotation p x e ∷ ds) c t = variants_in_all ds (after c (type_annotation p x e)) (tallied c (type_annotation p x e) t)
variants_in_all (function_definition p x ps e ∷ ds) c t = variants_in_all ds (after c (function_definition p x ps e)) (tallied c (function_definition p x ps e) t)
variants_in_all (val_binding p x e ∷ ds) c t = variants_in_all ds (after c (val_binding p x e)) (tallied c (val_binding p x e) t)

stands_by : (all : List TypeExpr) (i : ℕ) (ys : List TypeExpr) → Has all i ys → StandsAt all i ys
stands_by all i ys h = ap (take (length ys)) h.is ∙ take_at ys h.rest (length ys) refl

module _ (all : List TypeExpr) where
  root_at : (ds : Script) (c : Counts) (k : ℕ) (a : Annotation) → Has all c.types (types_listed ds) → slice_get (annotations_of ds) k ≡ Some a → StandsAt all (get_or (root_codes c ds) k 0) (inner a.type)
  unfolding root_codes
  root_at [] c k a h e = absurd (let z : ◌≡◌ {A = ℕ} 0 1 = cc in omega arith)
  root_at (datatype_definition p x cs ∷ ds) c k a h e = root_at ds (after c (datatype_definition p x cs)) k a (has_back (field_types cs) (types_listed ds) (fields_count cs) (length_fields cs) h) e
  root_at (type_annotation p x t ∷ ds) c zero a h e =
      let s : record { name = x; type = t } ≡ a = same_Some _ a e in
      subst (λ (a : Annotation). StandsAt all c.types (inner a.type)) s (stands_by all c.types (inner t) (has_front (inner t) (types_listed ds) h))
  root_at (type_annotation p x t ∷ ds) c (suc k) a h e = root_at ds (after c (type_annotation p x t)) k a (has_back (inner t) (types_listed ds) (type_count t) (length_inner t) h) e
  root_at (function_definition p x ps b ∷ ds) c k a h e = root_at ds (after c (function_definition p x ps b)) k a (subst (λ i. Has all i (types_listed ds)) (let q : c.types ≡ c.types + 0 = omega arith in q) h) e
  root_at (val_binding p x b ∷ ds) c k a h e = root_at ds (after c (val_binding p x b)) k a (subst (λ i. Has all i (types_listed ds)) (let q : c.types ≡ c.types + 0 = omega arith in q) h) e

  variant_at : (cs : List tree.Constructor) (d i : ℕ) (rest : List Variant) (codes : List VariantCode) (k : ℕ) (v : Variant) → Has all i (field_types cs) → slice_get (variants d cs rest) k ≡ Some v
      → ((j : ℕ) → slice_get rest j ≡ Some v → IsVariant all (get_or codes j no_variant) v) → IsVariant all (get_or (variant_codes d i cs ++ codes) k no_variant) v
  variant_at [] d i rest codes k v h e more = more k e
  variant_at (c ∷ cs) d i rest codes zero v h e more =
      let s : record { name = c.name; datatype = d; fields = c.fields } ≡ v = same_Some _ v e in
      subst (IsVariant all record { datatype = d; first = i; past = i + types_count c.fields; fields = types_length c.fields }) s
      record { datatype = refl; fields = refl; past = refl; types = stands_by all i (inners c.fields) (has_front (inners c.fields) (field_types cs) h) }
  variant_at (c ∷ cs) d i rest codes (suc k) v h e more = variant_at cs d (i + types_count c.fields) rest codes k v (has_back (inners c.fields) (field_types cs) (types_count c.fields) (length_inners c.fields) h) e more

  code_at : (ds : Script) (c : Counts) (d k : ℕ) (v : Variant) → Has all c.types (types_listed ds) → slice_get (variants_from d ds) k ≡ Some v → IsVariant all (get_or (all_codes c d ds) k no_variant) v
  unfolding all_codes
  code_at [] c d k v h e = absurd (let z : ◌≡◌ {A = ℕ} 0 1 = cc in omega arith)
  code_at (datatype_definition p x cs ∷ ds) c d k v h e =
      variant_at cs d c.types (variants_from (d + 1) ds) _ k v (has_front (field_types cs) (types_listed ds) h) e
      (λ j q. code_at ds (after c (datatype_definition p x cs)) (d + 1) j v (has_back (field_types cs) (types_listed ds) (fields_count cs) (length_fields cs) h) q)
  code_at (type_annotation p x t ∷ ds) c d k v h e = code_at ds (after c (type_annotation p x t)) d k v (has_back (inner t) (types_listed ds) (type_count t) (length_inner t) h) e
  code_at (function_definition p x ps b ∷ ds) c d k v h e = code_at ds (after c (function_definition p x ps b)) d k v (subst (λ i. Has all i (types_listed ds)) (let q : c.types ≡ c.types + 0 = omega arith in q) h) e
  code_at (val_binding p x b ∷ ds) c d k v h e = code_at ds (after c (val_binding p x b)) d k v (subst (λ i. Has all i (types_listed ds)) (let q : c.types ≡ c.types + 0 = omega arith in q) h) e

-- as many codes as constructors
length_variants : (cs : List tree.Constructor) (d i : ℕ) (rest : List Variant) (codes : List VariantCode) → length codes ≡ length rest → length (variant_codes d i cs ++ codes) ≡ length (variants d cs rest)
length_variants [] d i rest codes e = e
length_variants (c ∷ cs) d i rest codes e = ap suc (length_variants cs d (i + types_count c.fields) rest codes e)

length_codes : (ds : Script) (c : Counts) (d : ℕ) → length (all_codes c d ds) ≡ length (variants_from d ds)
unfolding all_codes
length_codes [] c d = refl
length_codes (datatype_definition p x cs ∷ ds) c d = length_variants cs d c.types (variants_from (d + 1) ds) _ (length_codes ds (after c (datatype_definition p x cs)) (d + 1))
length_codes (type_annotation p x t ∷ ds) c d = length_codes ds (after c (type_annotation p x t)) d
length_codes (function_definition p x ps b ∷ ds) c d = length_codes ds (after c (function_definition p x ps b)) d
length_codes (val_binding p x b ∷ ds) c d = length_codes ds (after c (val_binding p x b)) d

-- the declarations that were read name what the script names
module _ (text : List ℕ) (d : Declarations) (script : Script) (holds : Holds text d (tallied_all none script no_tally)) (once : once_all basis_names basis_names [] script ≡ accepted) where
  pub named_by : Named text d script
  named_by =
      let t = tallied_all none script no_tally in
      let o = all_once script basis_names basis_names [] 0 means.basis_count 0 once in
      let bound : t.bound ≡ (program script).bound = bound_in_all script none no_tally in
      let annotations : t.annotations ≡ (program script).annotations = annotations_in_all script none no_tally in
      let datatypes : t.datatypes ≡ (program script).datatypes = datatypes_in_all script none no_tally in
      let all = types_listed script in
      let start : Has all 0 all = record { rest = []; is = sym (append-nil all) } in
      record {
        bound = holds.bound;
        bound_are = holds.bound_names_are ∙ ap bound_names bound;
        bound_once = o.bound;
        meanings = ap (λ (bs : List Bound). map meaning_of (take (length bs) d.meanings)) (sym bound) ∙ holds.meanings ∙ ap (map (λ (b : Bound). b.meaning)) bound;
        annotations = holds.annotations;
        annotations_are = holds.annotations_are ∙ ap annotated_names annotations;
        annotations_once = o.annotated;
        roots = λ k a e.
            let roots = roots_in_all script none no_tally in
            let low = slice_get_within (program script).annotations k a e in
            let many = holds.as_many in
            let as_many_of = ap length annotations in
            let at : get_or d.roots k 0 ≡ get_or (root_codes none script) k 0 = sym (get_or-take (length t.roots) d.roots k 0 (omega arith)) ∙ ap (λ l. get_or l k 0) holds.roots ∙ ap (λ l. get_or l k 0) roots in
            subst (λ i. StandsAt all i (inner a.type)) (sym at) (root_at all script none k a start e);
        datatypes = record { index = holds.datatypes; names = holds.datatypes_are ∙ ap bytes_of datatypes; distinct = o.datatypes };
        variants = λ k v e.
            let codes = variants_in_all script none no_tally in
            let low = slice_get_within (program script).variants k v e in
            let is = code_at all script none 0 k v start e in
            let sizes = ap length codes in
            let long = length_codes script none 0 in
            let at : get_or d.variants k no_variant ≡ get_or (all_codes none 0 script) k no_variant = sym (get_or-take (length t.variants) d.variants k no_variant (omega arith)) ∙ ap (λ l. get_or l k no_variant) holds.variants ∙ ap (λ l. get_or l k no_variant) codes in
            subst (λ w. IsVariant all w v) (sym at) is;
      }
