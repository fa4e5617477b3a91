-- What each definition declares.
use Rattle.std.proofs.Common.{◌≡◌, ℕ, ◌+◌, ◌<◌, min, List, [], ◌∷◌, ◌++◌, reverse, length, Ok, Err, Result, IfOk, sym, ap, ◌∙◌, subst, arith}
use Rattle.std.proofs.lemmas.List.{map-append, reverse-append}
use Rattle.globals.specs.Lying.{VariantsLie, DefinitionLies, datatype_lies, annotation_lies, define_lies, val_lies, Few}
use Rattle.globals.specs.Tallies.{Tally, annotated_names, seen_bound, seen_annotated, seen_datatypes, also_bound, also_annotated, also_datatype, also_variants, tallied, Holds, Sizes, Next, Declared, names_from, told}
use Rattle.globals.specs.declared.declarations.Declarations.{Declarations}
use Rattle.grammar.specs.Trees as tree
use Rattle.grammar.specs.Trees.{Ident, TypeExpr, datatype_definition, type_annotation, function_definition, val_binding, Script}
use Rattle.layout.specs.Spelling.{Spells}
use Rattle.layout.specs.Tabling.{after}
use Rattle.layout.specs.declared.counts.Counts.{Counts}
use Rattle.layout.specs.declared.definition.Annotation.{Annotation}
use Rattle.layout.specs.declared.definition.Datatype.{Datatype}
use Rattle.layout.specs.declared.definition.Define.{Define}
use Rattle.layout.specs.declared.definition.Definition.TheVariants as definition
use Rattle.layout.specs.declared.definition.Val.{Val}
use Rattle.layout.specs.declared.tables.Tables.{Tables}
use Rattle.program.specs.Programs as means
use Rattle.program.specs.Programs.{Name, Bound, basis_count}
use Rattle.script_refusals.specs.declared.refusal.Refused.{Refused}
use Rattle.typing.specs.Scripts.{basis_names, bytes_of}
use Rattle.typing.specs.Verdict.{Verdict, refused, once, once_variants, once_all}
use Rattle.layout.proofs.Standing.{type_some}
use Rattle.globals.proofs.Constructors.{seen_more}

seen_annotated_more : (t : Tally) (x : Ident) (e : TypeExpr) (root : ℕ) → seen_annotated (also_annotated x e root t) ≡ x.bytes ∷ seen_annotated t
seen_annotated_more t x e root = ap (λ l. reverse l ++ basis_names) (map-append (λ (a : means.Annotation). a.name.bytes) t.annotations _) ∙ ap (λ l. l ++ basis_names) (reverse-append (annotated_names t.annotations) (x.bytes ∷ []))

seen_datatypes_more : (t : Tally) (x : Ident) → seen_datatypes (also_datatype x t) ≡ x.bytes ∷ seen_datatypes t
seen_datatypes_more t x = ap reverse (map-append (λ (x : Ident). x.bytes) t.datatypes (x ∷ [])) ∙ reverse-append (bytes_of t.datatypes) (x.bytes ∷ [])

-- a tally with other counters
recounted : (text : List ℕ) (d : Declarations) (t : Tally) (n k v w : ℕ) → Holds text d t → n ≡ k → v ≡ w → Holds text (record d { functions = n; vals = v }) (record t { functions = k; vals = w })
recounted text d t n k v w h e f = record {
  bound = h.bound;
  bound_names_are = h.bound_names_are;
  meanings = h.meanings;
  annotations = h.annotations;
  annotations_are = h.annotations_are;
  as_many = h.as_many;
  roots = h.roots;
  datatypes = h.datatypes;
  datatypes_are = h.datatypes_are;
  variants = h.variants;
  functions = e;
  vals = f;
}

module _ (text : List ℕ) (tables : Tables) where
  -- a bound name that is refused
  pub define_refused : (m : Define) (old new : Declarations) (r : Refused) → ((t : Tally) (x : Ident) (next : Verdict) → Holds text old t → Spells text m.name x → once x (seen_bound t) next ≡ refused r)
      → Declared text tables (definition.Define m) old (Err r) new
  define_refused m old new r bind = record { told_names = names; holds = λ c d t h s lies few. tt }
    where
      names : (c : Counts) (d : tree.Definition) (ds : Script) (t : Tally) → Holds text old t → Sizes c t → DefinitionLies text tables c d (definition.Define m) → Few (after c d) → names_from t (d ∷ ds) ≡ refused r
      names c d ds t h s (define_lies {x = x} spelt f p b ps) few = bind t x _ h spelt

  pub define_made : (m : Define) (old bound : Declarations) (number n : ℕ) → number ≡ old.functions
      → ((t : Tally) (x : Ident) (next : Verdict) → Holds text old t → Spells text m.name x → once x (seen_bound t) next ≡ next)
      → ((t : Tally) (x : Ident) → Holds text old t → Spells text m.name x → length t.bound < 512 → Holds text bound (also_bound x (means.function number) t))
      → n ≡ min (number + 1) 65535
      → Declared text tables (definition.Define m) old (Ok tt) (record bound { functions = n })
  define_made m old bound number n is told_ok holds_ok e = record { told_names = names; holds = made }
    where
      names : (c : Counts) (d : tree.Definition) (ds : Script) (t : Tally) → Holds text old t → Sizes c t → DefinitionLies text tables c d (definition.Define m) → Few (after c d) → names_from t (d ∷ ds) ≡ names_from (tallied c d t) ds
      names c d ds t h s (define_lies {x = x} spelt f p b ps) few =
          told_ok t x _ h spelt ∙ ap (λ seen. once_all seen (seen_annotated t) (seen_datatypes t) ds) (sym (seen_more t.bound record { name = x; meaning = means.function t.functions } basis_names))

      made : (c : Counts) (d : tree.Definition) (t : Tally) → Holds text old t → Sizes c t → DefinitionLies text tables c d (definition.Define m) → Few (after c d) → Holds text (record bound { functions = n }) (tallied c d t)
      made c d t h s (define_lies {x = x} spelt f p b ps) few =
          let same : number ≡ t.functions = is ∙ h.functions in
          let bs = s.bound in
          let ns = s.numbers in
          let fb = few.bindings in
          let fc = few.constructors in
          let g = holds_ok t x h spelt (omega arith) in
          let g' : Holds text bound (also_bound x (means.function t.functions) t) = subst (λ n. Holds text bound (also_bound x (means.function n) t)) same g in
          let count : n ≡ t.functions + 1 = omega arith in
          recounted text bound (also_bound x (means.function t.functions) t) _ _ _ _ g' count g'.vals

  pub val_refused : (m : Val) (old new : Declarations) (r : Refused) → ((t : Tally) (x : Ident) (next : Verdict) → Holds text old t → Spells text m.name x → once x (seen_bound t) next ≡ refused r)
      → Declared text tables (definition.Val m) old (Err r) new
  val_refused m old new r bind = record { told_names = names; holds = λ c d t h s lies few. tt }
    where
      names : (c : Counts) (d : tree.Definition) (ds : Script) (t : Tally) → Holds text old t → Sizes c t → DefinitionLies text tables c d (definition.Val m) → Few (after c d) → names_from t (d ∷ ds) ≡ refused r
      names c d ds t h s (val_lies {x = x} spelt b) few = bind t x _ h spelt

  pub val_made : (m : Val) (old bound : Declarations) (number n : ℕ) → number ≡ old.vals
      → ((t : Tally) (x : Ident) (next : Verdict) → Holds text old t → Spells text m.name x → once x (seen_bound t) next ≡ next)
      → ((t : Tally) (x : Ident) → Holds text old t → Spells text m.name x → length t.bound < 512 → Holds text bound (also_bound x (means.val number) t))
      → n ≡ min (number + 1) 65535
      → Declared text tables (definition.Val m) old (Ok tt) (record bound { vals = n })
  val_made m old bound number n is told_ok holds_ok e = record { told_names = names; holds = made }
    where
      names : (c : Counts) (d : tree.Definition) (ds : Script) (t : Tally) → Holds text old t → Sizes c t → DefinitionLies text tables c d (definition.Val m) → Few (after c d) → names_from t (d ∷ ds) ≡ names_from (tallied c d t) ds
      names c d ds t h s (val_lies {x = x} spelt b) few =
          told_ok t x _ h spelt ∙ ap (λ seen. once_all seen (seen_annotated t) (seen_datatypes t) ds) (sym (seen_more t.bound record { name = x; meaning = means.val t.vals } basis_names))

      made : (c : Counts) (d : tree.Definition) (t : Tally) → Holds text old t → Sizes c t → DefinitionLies text tables c d (definition.Val m) → Few (after c d) → Holds text (record bound { vals = n }) (tallied c d t)
      made c d t h s (val_lies {x = x} spelt b) few =
          let same : number ≡ t.vals = is ∙ h.vals in
          let bs = s.bound in
          let ns = s.numbers in
          let fb = few.bindings in
          let fc = few.constructors in
          let g = holds_ok t x h spelt (omega arith) in
          let g' : Holds text bound (also_bound x (means.val t.vals) t) = subst (λ n. Holds text bound (also_bound x (means.val n) t)) same g in
          let count : n ≡ t.vals + 1 = omega arith in
          recounted text bound (also_bound x (means.val t.vals) t) _ _ _ _ g' g'.functions count

  pub annotation_told : (m : Annotation) (old new : Declarations) (r : Result (Unit {0}) Refused)
      → ((t : Tally) (x : Ident) (next : Verdict) → Holds text old t → Spells text m.name x → once x (seen_annotated t) next ≡ told r next)
      → ((t : Tally) (x : Ident) (e : TypeExpr) → Holds text old t → Spells text m.name x → length t.annotations < 512 → IfOk r (λ _. Holds text new (also_annotated x e m.root t)))
      → Declared text tables (definition.Annotation m) old r new
  annotation_told m old new r told_all holds_all = record { told_names = names; holds = made }
    where
      names : (c : Counts) (d : tree.Definition) (ds : Script) (t : Tally) → Holds text old t → Sizes c t → DefinitionLies text tables c d (definition.Annotation m) → Few (after c d) → names_from t (d ∷ ds) ≡ told r (names_from (tallied c d t) ds)
      names c d ds t h s (annotation_lies {x = x} {t = e} spelt b) few =
          told_all t x _ h spelt ∙ ap (λ seen. told r (once_all (seen_bound t) seen (seen_datatypes t) ds)) (sym (seen_annotated_more t x e c.types))

      made : (c : Counts) (d : tree.Definition) (t : Tally) → Holds text old t → Sizes c t → DefinitionLies text tables c d (definition.Annotation m) → Few (after c d) → IfOk r (λ _. Holds text new (tallied c d t))
      made c d t h s (annotation_lies {x = x} {t = e} spelt b) few =
          let an = s.annotations in
          let some = type_some e in
          let ft = few.types in
          subst (λ root. IfOk r (λ _. Holds text new (also_annotated x e root t))) b (holds_all t x e h spelt (omega arith))

  pub datatype_refused : (m : Datatype) (old new : Declarations) (r : Refused) → ((t : Tally) (x : Ident) (next : Verdict) → Holds text old t → Spells text m.name x → once x (seen_datatypes t) next ≡ refused r)
      → Declared text tables (definition.Datatype m) old (Err r) new
  datatype_refused m old new r name = record { told_names = names; holds = λ c d t h s lies few. tt }
    where
      names : (c : Counts) (d : tree.Definition) (ds : Script) (t : Tally) → Holds text old t → Sizes c t → DefinitionLies text tables c d (definition.Datatype m) → Few (after c d) → names_from t (d ∷ ds) ≡ refused r
      names c d ds t h s (datatype_lies {x = x} spelt f p vs) few = name t x _ h spelt

  pub datatype_made : (m : Datatype) (old named new : Declarations) (number : ℕ) (r : Result (Unit {0}) Refused)
      → ((t : Tally) → Holds text old t → number ≡ length t.datatypes)
      → ((t : Tally) (x : Ident) (next : Verdict) → Holds text old t → Spells text m.name x → once x (seen_datatypes t) next ≡ next)
      → ((t : Tally) (x : Ident) → Holds text old t → Spells text m.name x → length t.datatypes < 512 → Holds text named (also_datatype x t))
      → ((t : Tally) (k : ℕ) (cs : List tree.Constructor) (next : List Name → Verdict) → Holds text named t → Next text tables t m.first m.past k cs → once_variants cs (seen_bound t) next ≡ told r (next (seen_bound (also_variants number m.first k cs t))))
      → ((t : Tally) (k : ℕ) (cs : List tree.Constructor) → Holds text named t → Next text tables t m.first m.past k cs → IfOk r (λ _. Holds text new (also_variants number m.first k cs t)))
      → Declared text tables (definition.Datatype m) old r new
  datatype_made m old named new number r is told_name holds_name told_variants holds_variants = record { told_names = names; holds = made }
    where
      next : (c : Counts) (x : Ident) (cs : List tree.Constructor) (t : Tally) → Sizes c t → m.first ≡ c.constructors → m.past ≡ c.constructors + length cs → VariantsLie text tables c.constructors c.types cs → Few (after c (datatype_definition m.place x cs))
          → Next text tables (also_datatype x t) m.first m.past c.types cs
      next c x cs t s f p vs few =
          let bs = s.bound in
          let vn = s.variants in
          let fb = few.bindings in
          let fc = few.constructors in
          record { lie = subst (λ i. VariantsLie text tables i c.types cs) (sym f) vs; end = omega arith; few = omega arith; many = omega arith; room = omega arith }

      both : (c : Counts) (x : Ident) (cs : List tree.Constructor) (t : Tally) → Holds text old t → m.first ≡ c.constructors → also_variants number m.first c.types cs (also_datatype x t) ≡ tallied c (datatype_definition m.place x cs) t
      both c x cs t h f = ap (λ n. also_variants n m.first c.types cs (also_datatype x t)) (is t h) ∙ ap (λ i. also_variants (length t.datatypes) i c.types cs (also_datatype x t)) f

      names : (c : Counts) (d : tree.Definition) (ds : Script) (t : Tally) → Holds text old t → Sizes c t → DefinitionLies text tables c d (definition.Datatype m) → Few (after c d) → names_from t (d ∷ ds) ≡ told r (names_from (tallied c d t) ds)
      names c d ds t h s (datatype_lies {x = x} {cs = cs} spelt f p vs) few =
          let dn = s.datatypes in
          let fd = few.datatypes in
          told_name t x _ h spelt
          ∙ told_variants (also_datatype x t) c.types cs (λ seen. once_all seen (seen_annotated t) (x.bytes ∷ seen_datatypes t) ds) (holds_name t x h spelt (omega arith)) (next c x cs t s f p vs few)
          ∙ ap (λ t'. told r (once_all (seen_bound t') (seen_annotated t) (x.bytes ∷ seen_datatypes t) ds)) (both c x cs t h f)
          ∙ ap (λ seen. told r (once_all (seen_bound (tallied c (datatype_definition m.place x cs) t)) (seen_annotated t) seen ds)) (sym (seen_datatypes_more t x))

      made : (c : Counts) (d : tree.Definition) (t : Tally) → Holds text old t → Sizes c t → DefinitionLies text tables c d (definition.Datatype m) → Few (after c d) → IfOk r (λ _. Holds text new (tallied c d t))
      made c d t h s (datatype_lies {x = x} {cs = cs} spelt f p vs) few =
          let dn = s.datatypes in
          let fd = few.datatypes in
          subst (λ t'. IfOk r (λ _. Holds text new t')) (both c x cs t h f) (holds_variants (also_datatype x t) c.types cs (holds_name t x h spelt (omega arith)) (next c x cs t s f p vs few))

  pub unused_declared : (old new : Declarations) (r : Result (Unit {0}) Refused) → Declared text tables definition.Unused old r new
  unused_declared old new r = record { told_names = λ c d ds t h s lies few. none lies; holds = λ c d t h s lies few. none lies }
    where
      none : {X : Type 0} {c : Counts} {d : tree.Definition} → DefinitionLies text tables c d definition.Unused → X
      none lies = elim lies [ ]
