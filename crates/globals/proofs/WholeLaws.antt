-- Functions and constructors of a script, by what their names mean.
use Rattle.std.proofs.Common.{◌≡◌, ℕ, zero, suc, ◌+◌, ◌-◌, Bool, true, false, cond, List, [], ◌∷◌, length, get_or, codes, Some, None, Option, sym, refl, ap, ◌∙◌, subst, arith}
use Rattle.std.specs.List.{slice_get}
use Rattle.std.specs.Option.{is_some}
use Rattle.std.proofs.lemmas.Option.{same_Some, slice_get_past}
use Rattle.basis.specs.Names.{named}
use Rattle.basis.specs.Numbers.{number_of, numbered, every_function}
use Rattle.basis.specs.declared.function.Basis.{Basis}
use Rattle.globals.specs.Known.{meaning_in, Known, FunctionIs, VariantIs, told_main}
use Rattle.globals.specs.Names.{no_variant}
use Rattle.globals.specs.declared.whole.Globals.{Globals}
use Rattle.grammar.specs.Trees.{Ident, Constructor, datatype_definition, type_annotation, function_definition, val_binding, Script}
use Rattle.program.specs.Programs as means
use Rattle.program.specs.Programs.{Name, Program, Bound, Define, Variant, Global, first_of, type_meant, basis_or, global_of, bound_variants, bound_from, defines_of, variants, variants_from, basis_count, program}
use Rattle.script_refusals.specs.Refusals.{refused_at}
use Rattle.script_refusals.specs.declared.refusal.Refusal.TheVariants as refusal
use Rattle.type_rows.specs.Rows.{IsKind}
use Rattle.type_rows.specs.Shapes.{ty}
use Rattle.type_rows.specs.Signatures.{root_of}
use Rattle.type_rows.specs.TypeExprs.{inners, types_listed}
use Rattle.type_rows.specs.declared.row.Row.{Row}
use Rattle.type_rows.specs.declared.value_type.ValueType.{ValueType}
use Rattle.type_rows.specs.declared.value_type.ValueType.TheVariants as value
use Rattle.type_rows.proofs.BasisRows.{basis_lies}
use Rattle.type_rows.proofs.ScriptRows.{basis_meant, script_meant, count_types, types_lie}
use Rattle.type_rows.proofs.SignatureLaws.{numbered_back}
use Rattle.typing.specs.Types.{function, no_types, unit, same_type, declared, annotation_of, basis_or_define}
use Rattle.typing.specs.Verdict.{accepted, refused, is_main, main_stands}
use Rattle.globals.proofs.DefineLaws.{none_some, bound_is_define, first_number, is_define, define_first}
use Rattle.globals.proofs.PairLaws.{has_stands}

-- What a name means: a function of the basis, or what it is bound to.
data Origin (P : Program) (w : Name) (g : Global) : Type 0 where
  of_basis : (f : Basis) → named w ≡ Some f → g ≡ means.function (number_of f) → Origin P w g
  of_script : (b : Bound) → named w ≡ None → first_of (λ b. b.name) w P.bound ≡ Some b → b.meaning ≡ g → Origin P w g
  of_none : g ≡ means.unbound → Origin P w g

origin : (P : Program) (w : Name) (g : Global) → global_of P w ≡ g → Origin P w g
origin P w g e = go (named w) refl (first_of (λ b. b.name) w P.bound) refl
  where
    go : (o : Option Basis) → named w ≡ o → (q : Option Bound) → first_of (λ b. b.name) w P.bound ≡ q → Origin P w g
    go (Some f) n q m = of_basis f n (sym e ∙ ap (λ o. basis_or o (type_meant (first_of (λ b. b.name) w P.bound))) n)
    go None n (Some b) m = of_script b n m (sym (ap (λ o. basis_or o (type_meant (first_of (λ b. b.name) w P.bound))) n ∙ ap type_meant m) ∙ e)
    go None n None m = of_none (sym e ∙ ap (λ o. basis_or o (type_meant (first_of (λ b. b.name) w P.bound))) n ∙ ap type_meant m)

same_function : (a b : ℕ) → means.function a ≡ means.function b → a ≡ b
same_function a b e = cc

not_function : {X : Type 0} (n : ℕ) → ◌≡◌ {A = Global} (means.function n) means.unbound → X
not_function n e = absurd (let z : ◌≡◌ {A = ℕ} 0 1 = cc in omega arith)

-- the constructors of a datatype among the bound names
variant_in : (ks : List Constructor) (c d : ℕ) (rest : List Bound) (others : List Variant) (k g : ℕ) (b : Bound) → slice_get (bound_variants c ks rest) k ≡ Some b → b.meaning ≡ means.constructor g
    → ((k : ℕ) → slice_get rest k ≡ Some b → (j : ℕ) × (v : Variant) × (slice_get others j ≡ Some v) × (g ≡ c + length ks + j)) → (j : ℕ) × (v : Variant) × (slice_get (variants d ks others) j ≡ Some v) × (g ≡ c + j)
variant_in [] c d rest others k g b e m more = let h = more k e in let n = h.3 in (h.0, h.1, h.2, (let q : g ≡ c + h.0 = omega arith in q))
variant_in (x ∷ ks) c d rest others zero g b e m more =
    let s : ◌≡◌ {A = Bound} (record { name = x.name; meaning = means.constructor c }) b = same_Some _ b e in
    (0, record { name = x.name; datatype = d; fields = x.fields }, refl, number (ap (λ (b : Bound). b.meaning) s ∙ m))
  where
    number : means.constructor c ≡ means.constructor g → g ≡ c + 0
    number q = let s : c ≡ g = cc in omega arith
variant_in (x ∷ ks) c d rest others (suc k) g b e m more =
    let h = variant_in ks (c + 1) d rest others k g b e m (λ k q. let r = more k q in let n = r.3 in (r.0, r.1, r.2, (let q : g ≡ c + 1 + length ks + r.0 = omega arith in q))) in
    let n = h.3 in
    (suc h.0, h.1, h.2, (let q : g ≡ c + suc h.0 = omega arith in q))

bound_variant : (ds : Script) (c f v d k g : ℕ) (b : Bound) → slice_get (bound_from c f v ds) k ≡ Some b → b.meaning ≡ means.constructor g → (j : ℕ) × (w : Variant) × (slice_get (variants_from d ds) j ≡ Some w) × (g ≡ c + j)
bound_variant [] c f v d k g b e m = none_some b e
bound_variant (datatype_definition p x cs ∷ ds) c f v d k g b e m = variant_in cs c d (bound_from (c + length cs) f v ds) (variants_from (d + 1) ds) k g b e m (λ k q. bound_variant ds (c + length cs) f v (d + 1) k g b q m)
bound_variant (type_annotation p x t ∷ ds) c f v d k g b e m = bound_variant ds c f v d k g b e m
bound_variant (function_definition p x ps body ∷ ds) c f v d zero g b e m = absurd (let s = ap (λ (b : Bound). b.meaning) (same_Some _ b e) in let z : ◌≡◌ {A = ℕ} 0 1 = cc in omega arith)
bound_variant (function_definition p x ps body ∷ ds) c f v d (suc k) g b e m = bound_variant ds c (f + 1) v d k g b e m
bound_variant (val_binding p x body ∷ ds) c f v d zero g b e m = absurd (let s = ap (λ (b : Bound). b.meaning) (same_Some _ b e) in let z : ◌≡◌ {A = ℕ} 0 1 = cc in omega arith)
bound_variant (val_binding p x body ∷ ds) c f v d (suc k) g b e m = bound_variant ds c f (v + 1) d k g b e m

module _ (text : List ℕ) (globals : Globals) (script : Script) (known : Known text globals script) where
  abbrev P : Program
  P = program script

  abbrev rows : List Row
  rows = globals.rows.rows

  pub basis_valid : (f : Basis) → IsKind rows (value.Function (root_of f))
  basis_valid f = let l = basis_lies rows (meaning_in script) (length (types_listed script)) known.basis f (basis_meant P (types_listed script) f) in (_, l.arity)

  pub basis_function : (n : ℕ) (f : Basis) → numbered n ≡ Some f → FunctionIs script rows n (value.Function (root_of f))
  basis_function n f e = record { type = ap (basis_or_define P n) e ∙ ap Some (sym (basis_meant P (types_listed script) f)); valid = basis_valid f }

  pub define_function : (n : ℕ) (w : Name) (kind : ValueType) → numbered n ≡ None → global_of P w ≡ means.function n → kind ≡ get_or globals.types.types (n - basis_count) value.Unit → FunctionIs script rows n kind
  define_function n w kind e g is = go (origin P w (means.function n) g)
    where
      go : Origin P w (means.function n) → FunctionIs script rows n kind
      go (of_basis f q h) = none_some f (sym e ∙ ap numbered (same_function n (number_of f) h) ∙ numbered_back f)
      go (of_none h) = not_function n h
      go (of_script b q first m) =
          let f = first_number (λ (b : Bound). b.name) w P.bound b first in
          let d = bound_is_define script 0 basis_count 0 f.0 n b f.1 m in
          let count = d.4 in
          let j : n - basis_count ≡ d.0 = omega arith in
          let t = known.types d.0 d.1 d.2 in
          let k : kind ≡ get_or globals.types.types d.0 value.Unit = is ∙ ap (λ j. get_or globals.types.types j value.Unit) j in
          record {
            type = ap (basis_or_define P n) e ∙ ap (λ j. declared P (slice_get P.defines j)) j ∙ ap (declared P) d.2 ∙ t.0 ∙ ap (λ k. Some (ty (meaning_in script) k)) (sym k);
            valid = subst (IsKind rows) (sym k) t.1;
          }

  pub variant_is : (k : ℕ) (w : Name) → global_of P w ≡ means.constructor k → VariantIs script rows k (get_or globals.declared.variants k no_variant)
  variant_is k w g = go (origin P w (means.constructor k) g)
    where
      go : Origin P w (means.constructor k) → VariantIs script rows k (get_or globals.declared.variants k no_variant)
      go (of_basis f q h) = absurd (let z : ◌≡◌ {A = ℕ} 0 1 = cc in omega arith)
      go (of_none h) = absurd (let z : ◌≡◌ {A = ℕ} 0 1 = cc in omega arith)
      go (of_script b q first m) =
          let f = first_number (λ (b : Bound). b.name) w P.bound b first in
          let v = bound_variant script 0 basis_count 0 0 f.0 k b f.1 m in
          let count = v.3 in
          let j : v.0 ≡ k = omega arith in
          let at : slice_get P.variants k ≡ Some v.1 = ap (slice_get P.variants) (sym j) ∙ v.2 in
          let is = known.named.variants k v.1 at in
          record {
            entry = v.1;
            at = at;
            datatype = is.datatype;
            fields = is.fields ∙ sym (count_types P v.1.fields);
            lie = types_lie P (types_listed script) rows (meaning_in script) known.has (script_meant P (types_listed script) known.few) v.1.fields _ _ (has_stands (types_listed script) _ (inners v.1.fields) is.types) (sym is.past);
          }

  some_by : {X : Type 0} (o : Option X) → is_some o ≡ true → (x : X) × (o ≡ Some x)
  some_by None e = absurd (let z : ◌≡◌ {A = Bool} false true = e in let o : ◌≡◌ {A = ℕ} 0 1 = cc in omega arith)
  some_by (Some x) e = (x, refl)

  main_is : Bool → Bool → Type 0
  main_is b r = told_main (cond b accepted (refused (refused_at refusal.NoMain 0))) r

  main_told : (b r : Bool) → r ≡ b → main_is b r
  unfolding main_is
  main_told b true e = ap (λ b. cond b accepted (refused (refused_at refusal.NoMain 0))) (sym e)
  main_told b false e = ap (λ b. cond b accepted (refused (refused_at refusal.NoMain 0))) (sym e)

  -- a function with the name main is a define, of the type that main is annotated with
  pub main_function : (n : ℕ) (kind : ValueType) (r : Bool) → global_of P (codes "main") ≡ means.function n → FunctionIs script rows n kind → r ≡ same_type (ty (meaning_in script) kind) (function no_types unit)
      → told_main (main_stands P (first_of (λ d. d.name) (codes "main") P.defines)) r
  unfolding main_is
  main_function n kind r g is same = go (origin P (codes "main") (means.function n) g)
    where
      go : Origin P (codes "main") (means.function n) → told_main (main_stands P (first_of (λ d. d.name) (codes "main") P.defines)) r
      go (of_basis f q h) = none_some f q
      go (of_none h) = not_function n h
      go (of_script b q first m) =
          let f = first_number (λ (b : Bound). b.name) (codes "main") P.bound b first in
          let d = bound_is_define script 0 basis_count 0 f.0 n b f.1 m in
          let count = d.4 in
          let j : n - basis_count ≡ d.0 = omega arith in
          let past : numbered n ≡ None = slice_get_past every_function n (omega arith) in
          let name : d.1.name.bytes ≡ codes "main" = ap (λ (x : Ident). x.bytes) d.3 ∙ f.2 in
          let annotation : annotation_of P (codes "main") ≡ Some (ty (meaning_in script) kind) =
          ap (annotation_of P) (sym name) ∙ sym (ap (basis_or_define P n) past ∙ ap (λ j. declared P (slice_get P.defines j)) j ∙ ap (declared P) d.2) ∙ is.type in
          let there = some_by (first_of (λ (d : Define). d.name) (codes "main") P.defines) (is_define script known.named.bound_once (codes "main") b n first m) in
          let fits : r ≡ is_main (annotation_of P (codes "main")) = same ∙ sym (ap is_main annotation) in
          subst (λ o. told_main (main_stands P o) r) (sym there.1) (main_told (is_main (annotation_of P (codes "main"))) r fits)

  -- without a function of that name there is no main
  pub no_main : ((n : ℕ) → global_of P (codes "main") ≡ means.function n → ⊥) → main_stands P (first_of (λ d. d.name) (codes "main") P.defines) ≡ refused (refused_at refusal.NoMain 0)
  no_main n = ap (main_stands P) (by_none (first_of (λ (d : Define). d.name) (codes "main") P.defines) (λ d e. let f = define_first script known.named.bound_once (codes "main") d e in n f.0 (ap type_meant f.1)))
    where
      by_none : (o : Option Define) → ((d : Define) → o ≡ Some d → ⊥) → o ≡ None
      by_none None h = refl
      by_none (Some d) h = absurd (h d refl)
