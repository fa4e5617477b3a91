-- A script is accepted exactly if the rules allow it.
use Rattle.std.proofs.Common.{◌≡◌, ℕ, ◌+◌, Bool, true, false, cond, List, [], ◌∷◌, ◌++◌, map, length, Some, None, codes, Option, sym, refl, ap, ◌∙◌, subst, arith}
use lib.ListN.{length-map}
use Rattle.std.specs.Str.{bytes_eq}
use Rattle.std.proofs.lemmas.Bool.{or_parts, or_from, eq-eqb, eqb-true}
use Rattle.script_refusals.specs.declared.refusal.Refusal.{Refusal}
use Rattle.grammar.specs.Trees as tree
use Rattle.grammar.specs.Trees.{Ident, TypeExpr, TypeExprs, PatternPart, bound, Expr, Constructor, Definition, datatype_definition, type_annotation, function_definition, val_binding, Script}
use Rattle.program.specs.Programs.{Name, Program, Bound, Define, program, basis_count, bound_variants, bound_from, annotations_of, datatypes_of}
use Rattle.typing.specs.Types.{Ty, int, bool, sym as symbol, unit, datum, function, Tys, no_types, count, annotation_of}
use Rattle.typing.specs.Contexts.{Context, BindsAll}
use Rattle.typing.specs.Judgement.{Typed}
use Rattle.typing.specs.Judging.{Judged, refused as refuses, judged}
use Rattle.typing.specs.Scripts.{Apart, apart_none, apart_more, Distinct, distinct_none, distinct_more, basis_names, bytes_of, KnownType, known_int, known_bool, known_sym, known_unit, known_datatype, known_function, KnownTypes, known_none, known_more, KnownFields, fields_none, fields_more, Stated, Paired, Each, Bodies, bodies_none, bodies_datatype, bodies_annotation, bodies_define, bodies_val, Allowed}
use Rattle.typing.specs.Verdict.{Verdict, accepted, refused, before, refusal_at, among_them, once, once_variants, once_all, found, known_type, known_types, known_fields, stated, paired, each, is_main, main_stands, concluded, judge_define, bodies, verdict}
use Rattle.typing.proofs.Complete.{complete, bound_all, as_many}
use Rattle.typing.proofs.Outcomes.{Holds, on_refusal, on_judged, then_holds, need_holds}
use Rattle.typing.proofs.Sound.{sound, bind_all}
use Rattle.typing.proofs.TypeRows.{same_type_law, type_same}

both_parts : (a b : Verdict) → before a b ≡ accepted → (a ≡ accepted) × (b ≡ accepted)
both_parts accepted b e = (refl, e)
both_parts (refused r) b e = (e, absurd (let z : ◌≡◌ {A = ℕ} 0 1 = cc in omega arith))

both_accepted : (a b : Verdict) → a ≡ accepted → b ≡ accepted → before a b ≡ accepted
both_accepted a b p q = rw p q

-- Names that stand once.
apart_by : (w : Name) (xs : List Name) → among_them w xs ≡ false → Apart w xs
apart_by w [] e = apart_none
apart_by w (x ∷ xs) e = let b = or_parts (bytes_eq w x) _ e in apart_more b.0 (apart_by w xs b.1)

not_among : {w : Name} {xs : List Name} → Apart w xs → among_them w xs ≡ false
not_among apart_none = refl
not_among {w} (apart_more {x = x} e a) = or_from (bytes_eq w x) _ e (not_among a)

new_by : (x : Ident) (seen : List Name) (next : Verdict) (b : Bool) → among_them x.bytes seen ≡ b → cond b (refusal_at Refusal.Repeated x.place) next ≡ accepted → Apart x.bytes seen × (next ≡ accepted)
new_by x seen next true q e = absurd (let z : ◌≡◌ {A = ℕ} 0 1 = cc in omega arith)
new_by x seen next false q e = (apart_by x.bytes seen q, e)

is_new : (x : Ident) (seen : List Name) (next : Verdict) → once x seen next ≡ accepted → Apart x.bytes seen × (next ≡ accepted)
is_new x seen next e = new_by x seen next _ refl e

new : (x : Ident) (seen : List Name) (next : Verdict) → Apart x.bytes seen → next ≡ accepted → once x seen next ≡ accepted
new x seen next a e = rw (not_among a) e

abbrev names_of : List Bound → List Name
names_of bs = map (λ b. b.name.bytes) bs

variants_new : (cs : List Constructor) (seen : List Name) (next : List Name → Verdict) → once_variants cs seen next ≡ accepted
    → (seen' : List Name) × (next seen' ≡ accepted) × ((c : ℕ) (rest : List Bound) → Distinct seen' (names_of rest) → Distinct seen (names_of (bound_variants c cs rest)))
variants_new [] seen next e = (seen, e, λ c rest d. d)
variants_new (k ∷ cs) seen next e =
    let h = is_new k.name seen _ e in
    let r = variants_new cs (k.name.bytes ∷ seen) next h.1 in
    (r.0, r.1, λ c rest d. distinct_more h.0 (r.2 (c + 1) rest d))

new_variants : (cs : List Constructor) (seen : List Name) (next : List Name → Verdict) (c : ℕ) (rest : List Bound) → ((seen' : List Name) → Distinct seen' (names_of rest) → next seen' ≡ accepted)
    → Distinct seen (names_of (bound_variants c cs rest)) → once_variants cs seen next ≡ accepted
new_variants [] seen next c rest n d = n seen d
new_variants (k ∷ cs) seen next c rest n (distinct_more a d) = new k.name seen _ a (new_variants cs _ next (c + 1) rest n d)

pub record AllOnce (bs ns ts : List Name) (c f v : ℕ) (ds : Script) : Type 0 where
  pub bound : Distinct bs (names_of (bound_from c f v ds))
  pub annotated : Distinct ns (map (λ a. a.name.bytes) (annotations_of ds))
  pub datatypes : Distinct ts (bytes_of (datatypes_of ds))

pub all_once : (ds : Script) (bs ns ts : List Name) (c f v : ℕ) → once_all bs ns ts ds ≡ accepted → AllOnce bs ns ts c f v ds
all_once [] bs ns ts c f v e = record { bound = distinct_none; annotated = distinct_none; datatypes = distinct_none }
all_once (datatype_definition p x cs ∷ ds) bs ns ts c f v e =
    let h = is_new x ts _ e in
    let r = variants_new cs bs _ h.1 in
    let o = all_once ds r.0 ns (x.bytes ∷ ts) (c + length cs) f v r.1 in
    record { bound = r.2 c _ o.bound; annotated = o.annotated; datatypes = distinct_more h.0 o.datatypes }
all_once (type_annotation p x t ∷ ds) bs ns ts c f v e =
    let h = is_new x ns _ e in
    let o = all_once ds bs (x.bytes ∷ ns) ts c f v h.1 in
    record { bound = o.bound; annotated = distinct_more h.0 o.annotated; datatypes = o.datatypes }
all_once (function_definition p x ps b ∷ ds) bs ns ts c f v e =
    let h = is_new x bs _ e in
    let o = all_once ds (x.bytes ∷ bs) ns ts c (f + 1) v h.1 in
    record { bound = distinct_more h.0 o.bound; annotated = o.annotated; datatypes = o.datatypes }
all_once (val_binding p x b ∷ ds) bs ns ts c f v e =
    let h = is_new x bs _ e in
    let o = all_once ds (x.bytes ∷ bs) ns ts c f (v + 1) h.1 in
    record { bound = distinct_more h.0 o.bound; annotated = o.annotated; datatypes = o.datatypes }

first_of : {x : Name} {before xs : List Name} → Distinct before (x ∷ xs) → Apart x before × Distinct (x ∷ before) xs
first_of (distinct_more a d) = (a, d)

once_all_law : (ds : Script) (bs ns ts : List Name) (c f v : ℕ) → Distinct bs (names_of (bound_from c f v ds)) → Distinct ns (map (λ a. a.name.bytes) (annotations_of ds)) → Distinct ts (bytes_of (datatypes_of ds))
    → once_all bs ns ts ds ≡ accepted
once_all_law [] bs ns ts c f v b n t = refl
once_all_law (datatype_definition p x cs ∷ ds) bs ns ts c f v b n t =
    new x ts _ (first_of t).0 (new_variants cs bs _ c (bound_from (c + length cs) f v ds) (λ seen d. once_all_law ds seen ns (x.bytes ∷ ts) (c + length cs) f v d n (first_of t).1) b)
once_all_law (type_annotation p x u ∷ ds) bs ns ts c f v b n t = new x ns _ (first_of n).0 (once_all_law ds bs (x.bytes ∷ ns) ts c f v b (first_of n).1 t)
once_all_law (function_definition p x ps e ∷ ds) bs ns ts c f v b n t = new x bs _ (first_of b).0 (once_all_law ds (x.bytes ∷ bs) ns ts c (f + 1) v (first_of b).1 n t)
once_all_law (val_binding p x e ∷ ds) bs ns ts c f v b n t = new x bs _ (first_of b).0 (once_all_law ds (x.bytes ∷ bs) ns ts c f (v + 1) (first_of b).1 n t)

-- What is looked for and found.
is_found : {X : Type 0} (r : Refusal) (p : ℕ) (o : Option X) → found r p o ≡ accepted → (x : X) × (o ≡ Some x)
is_found r p (Some x) e = (x, refl)
is_found r p None e = absurd (let z : ◌≡◌ {A = ℕ} 0 1 = cc in omega arith)

found_is : {X : Type 0} (r : Refusal) (p : ℕ) (o : Option X) (x : X) → o ≡ Some x → found r p o ≡ accepted
found_is r p o x e = rw e

module _ (P : Program) where
  mutual
    type_known : (t : TypeExpr) → known_type P t ≡ accepted → KnownType P t
    type_known (tree.int_type p) e = known_int
    type_known (tree.bool_type p) e = known_bool
    type_known (tree.sym_type p) e = known_sym
    type_known (tree.unit_type p) e = known_unit
    type_known (tree.datatype x) e = known_datatype (is_found _ _ _ e).1
    type_known (tree.function_type_rule p ts t) e = let b = both_parts (known_types P ts) (known_type P t) e in known_function (types_known ts b.0) (type_known t b.1)

    types_known : (ts : TypeExprs) → known_types P ts ≡ accepted → KnownTypes P ts
    types_known tree.no_types e = known_none
    types_known (tree.and_type t ts) e = let b = both_parts (known_type P t) (known_types P ts) e in known_more (type_known t b.0) (types_known ts b.1)

  mutual
    known_type_rule : {t : TypeExpr} → KnownType P t → known_type P t ≡ accepted
    known_type_rule known_int = refl
    known_type_rule known_bool = refl
    known_type_rule known_sym = refl
    known_type_rule known_unit = refl
    known_type_rule (known_datatype e) = found_is _ _ _ _ e
    known_type_rule (known_function ts t) = both_accepted _ _ (known_types_rule ts) (known_type_rule t)

    known_types_rule : {ts : TypeExprs} → KnownTypes P ts → known_types P ts ≡ accepted
    known_types_rule known_none = refl
    known_types_rule (known_more t ts) = both_accepted _ _ (known_type_rule t) (known_types_rule ts)

  fields_known : (cs : List Constructor) → known_fields P cs ≡ accepted → KnownFields P cs
  fields_known [] e = fields_none
  fields_known (c ∷ cs) e = let b = both_parts (known_types P c.fields) _ e in fields_more (types_known c.fields b.0) (fields_known cs b.1)

  known_fields_rule : {cs : List Constructor} → KnownFields P cs → known_fields P cs ≡ accepted
  known_fields_rule fields_none = refl
  known_fields_rule (fields_more t k) = both_accepted _ _ (known_types_rule t) (known_fields_rule k)

  is_stated : (d : Definition) → stated P d ≡ accepted → Stated P d
  is_stated (datatype_definition p x cs) e = fields_known cs e
  is_stated (type_annotation p x t) e = type_known t e
  is_stated (function_definition p x ps b) e = tt
  is_stated (val_binding p x b) e = tt

  stated_is : (d : Definition) → Stated P d → stated P d ≡ accepted
  stated_is (datatype_definition p x cs) s = known_fields_rule s
  stated_is (type_annotation p x t) s = known_type_rule s
  stated_is (function_definition p x ps b) s = refl
  stated_is (val_binding p x b) s = refl

  is_paired : (d : Definition) → paired P d ≡ accepted → Paired P d
  is_paired (datatype_definition p x cs) e = tt
  is_paired (type_annotation p x t) e = is_found _ _ _ e
  is_paired (function_definition p x ps b) e = is_found _ _ _ e
  is_paired (val_binding p x b) e = tt

  paired_is : (d : Definition) → Paired P d → paired P d ≡ accepted
  paired_is (datatype_definition p x cs) s = refl
  paired_is (type_annotation p x t) s = found_is _ _ _ _ s.1
  paired_is (function_definition p x ps b) s = found_is _ _ _ _ s.1
  paired_is (val_binding p x b) s = refl

each_holds : (f : Definition → Verdict) (Q : Definition → Type 0) → ((d : Definition) → f d ≡ accepted → Q d) → (ds : Script) → each f ds ≡ accepted → Each Q ds
each_holds f Q k [] e = tt
each_holds f Q k (d ∷ ds) e = let b = both_parts (f d) (each f ds) e in (k d b.0, each_holds f Q k ds b.1)

holds_each : (f : Definition → Verdict) (Q : Definition → Type 0) → ((d : Definition) → Q d → f d ≡ accepted) → (ds : Script) → Each Q ds → each f ds ≡ accepted
holds_each f Q k [] h = refl
holds_each f Q k (d ∷ ds) h = both_accepted _ _ (k d h.0) (holds_each f Q k ds h.1)

-- main
main_typed : (o : Option Ty) → is_main o ≡ true → o ≡ Some (function no_types unit)
main_typed None e = absurd (let z : ◌≡◌ {A = ℕ} 0 1 = cc in omega arith)
main_typed (Some τ) e = ap (λ (σ : Ty). Some σ) (same_type_law τ _ e)

module _ (P : Program) where
  main_by : (b : Bool) → is_main (annotation_of P (codes "main")) ≡ b → cond b accepted (refusal_at Refusal.NoMain 0) ≡ accepted → annotation_of P (codes "main") ≡ Some (function no_types unit)
  main_by true q e = main_typed _ q
  main_by false q e = absurd (let z : ◌≡◌ {A = ℕ} 0 1 = cc in omega arith)

  main_there : (o : Option Define) → main_stands P o ≡ accepted → ((d : Define) × (o ≡ Some d)) × (annotation_of P (codes "main") ≡ Some (function no_types unit))
  main_there None e = absurd (let z : ◌≡◌ {A = ℕ} 0 1 = cc in omega arith)
  main_there (Some d) e = ((d, refl), main_by _ refl e)

  there_main : (o : Option Define) (d : Define) → o ≡ Some d → annotation_of P (codes "main") ≡ Some (function no_types unit) → main_stands P o ≡ accepted
  there_main o d e m = rw (e, m)

  -- bodies
  record DefineTyped (V : List Ty) (ps : List Ident) (e : Expr) (o : Option Ty) : Type 0 where
    parameters : Tys
    result : Ty
    inside : Context
    after : Context
    annotation : o ≡ Some (function parameters result)
    binds : BindsAll P (map bound ps) parameters [] inside
    typed : Typed P V inside e result after

  define_holds : (V : List Ty) (p : ℕ) (ps : List Ident) (e : Expr) (o : Option Ty) → Holds (λ σ Γ. DefineTyped V ps e o) (judge_define P V p ps e o)
  define_holds V p ps e None = on_refusal
  define_holds V p ps e (Some int) = on_refusal
  define_holds V p ps e (Some bool) = on_refusal
  define_holds V p ps e (Some symbol) = on_refusal
  define_holds V p ps e (Some unit) = on_refusal
  define_holds V p ps e (Some (datum d)) = on_refusal
  define_holds V p ps e (Some (function τs τ)) =
      need_holds _ p (λ n. then_holds (bind_all P (map bound ps) τs [] (length-map ps bound ∙ eqb-true _ _ n)) (λ u Γ b. then_holds (sound P V e Γ) (λ σ Γ' t. need_holds _ p (λ s.
      on_judged (record {
        parameters = τs;
        result = τ;
        inside = Γ;
        after = Γ';
        annotation = refl;
        binds = b;
        typed = subst (λ (ρ : Ty). Typed P V Γ e ρ Γ') (same_type_law σ τ s) t;
      })))))

  concluded_holds : {X : Type 0} {Q : X → Context → Type 0} {j : Judged X} → Holds Q j → concluded j ≡ accepted → (x : X) × (Γ : Context) × Q x Γ
  concluded_holds on_refusal e = absurd (let z : ◌≡◌ {A = ℕ} 0 1 = cc in omega arith)
  concluded_holds (on_judged q) e = (_, _, q)

  val_holds : {Q : Ty → Context → Type 0} (V : List Ty) (ds : Script) {j : Judged Ty} → Holds Q j → elim j [ refuses r ↦ refused r | judged τ Γ ↦ bodies P (V ++ τ ∷ []) ds ] ≡ accepted
      → (τ : Ty) × (Γ : Context) × Q τ Γ × (bodies P (V ++ τ ∷ []) ds ≡ accepted)
  val_holds V ds on_refusal e = absurd (let z : ◌≡◌ {A = ℕ} 0 1 = cc in omega arith)
  val_holds V ds (on_judged q) e = (_, _, q, e)

  bodies_typed : (ds : Script) (V : List Ty) → bodies P V ds ≡ accepted → Bodies P V ds
  bodies_typed [] V e = bodies_none
  bodies_typed (datatype_definition p x cs ∷ ds) V e = bodies_datatype (bodies_typed ds V e)
  bodies_typed (type_annotation p x t ∷ ds) V e = bodies_annotation (bodies_typed ds V e)
  bodies_typed (function_definition p x ps b ∷ ds) V e =
      let h = both_parts (concluded (judge_define P V p ps b (annotation_of P x.bytes))) _ e in
      let d = (concluded_holds (define_holds V p ps b (annotation_of P x.bytes)) h.0).2 in
      bodies_define d.annotation d.binds d.typed (bodies_typed ds V h.1)
  bodies_typed (val_binding p x b ∷ ds) V e = let h = val_holds V ds (sound P V b []) e in bodies_val h.2 (bodies_typed ds (V ++ h.0 ∷ []) h.3)

  typed_define : {V : List Ty} (p : ℕ) (ps : List Ident) {e : Expr} {τs : Tys} {τ : Ty} {Γ Γ' : Context} → BindsAll P (map bound ps) τs [] Γ → Typed P V Γ e τ Γ'
      → concluded (judge_define P V p ps e (Some (function τs τ))) ≡ accepted
  typed_define {V} p ps {e} {τs} {τ} b t = rw (eq-eqb (length ps) (count τs) (sym (length-map ps bound) ∙ as_many P b), bound_all P b, complete P V t, type_same τ)

  typed_bodies : {ds : Script} {V : List Ty} → Bodies P V ds → bodies P V ds ≡ accepted
  typed_bodies bodies_none = refl
  typed_bodies (bodies_datatype k) = typed_bodies k
  typed_bodies (bodies_annotation k) = typed_bodies k
  typed_bodies (bodies_define {p = p} {ps = ps} a b t k) = both_accepted _ _ (rw a (typed_define p ps b t)) (typed_bodies k)
  typed_bodies (bodies_val {V = V} {ds = ds} t k) = ap (λ (j : Judged Ty). elim j [ refuses r ↦ refused r | judged τ Γ ↦ bodies P (V ++ τ ∷ []) ds ]) (complete P V t) ∙ typed_bodies k

-- the whole script
pub is_allowed : (script : Script) → verdict script ≡ accepted → Allowed script
is_allowed script e =
    let P = program script in
    let a = both_parts (once_all basis_names basis_names [] script) _ e in
    let b = both_parts (each (stated P) script) _ a.1 in
    let c = both_parts (each (paired P) script) _ b.1 in
    let d = both_parts (main_stands P _) _ c.1 in
    let o = all_once script basis_names basis_names [] 0 basis_count 0 a.0 in
    let m = main_there P _ d.0 in
    record {
      bound = o.bound;
      annotated = o.annotated;
      datatypes = o.datatypes;
      types = each_holds (stated P) (Stated P) (is_stated P) script b.0;
      pairs = each_holds (paired P) (Paired P) (is_paired P) script c.0;
      entry = m.0;
      main = m.1;
      bodies = bodies_typed P script [] d.1;
    }

pub allowed_is : (script : Script) → Allowed script → verdict script ≡ accepted
allowed_is script a =
    let P = program script in
    both_accepted _ _ (once_all_law script basis_names basis_names [] 0 basis_count 0 a.bound a.annotated a.datatypes)
    (both_accepted _ _ (holds_each (stated P) (Stated P) (stated_is P) script a.types)
    (both_accepted _ _ (holds_each (paired P) (Paired P) (paired_is P) script a.pairs)
    (both_accepted _ _ (there_main P _ _ a.entry.1 a.main) (typed_bodies P a.bodies))))
