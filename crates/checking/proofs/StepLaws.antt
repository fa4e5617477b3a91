-- One definition more of a script.
use Rattle.std.proofs.Common.{◌≡◌, ℕ, zero, suc, ◌+◌, ◌-◌, ◌<◌, ◌⊎◌, List, [], ◌∷◌, ◌++◌, map, length, take, get_or, set, Some, Ok, Err, inl, inr, sym, refl, ap, ◌∙◌, subst, add-zero, arith, length-set}
use Rattle.std.specs.Prelude.{min}
use Rattle.std.specs.List.{slice_get}
use Rattle.std.proofs.lemmas.Bool.{cases_eq}
use Rattle.std.proofs.lemmas.List.{get_or-set_same, get_or-set_other, take_more_set, map-append}
use Rattle.std.proofs.lemmas.Option.{same_Some}
use Rattle.checking.specs.Defining.{OnDefine, OnVal}
use Rattle.checking.specs.Drafting.{Setting, Underway, WithDefine, WithVal}
use Rattle.checking.specs.declared.draft.Draft.{Draft}
use Rattle.forms.specs.Progress.{puts}
use Rattle.forms.proofs.RowLaws.{puts-++}
use Rattle.globals.specs.Known.{meaning_in}
use Rattle.globals.specs.Lying.{DefinitionLies, datatype_lies, annotation_lies, define_lies, val_lies, definition_at, ParametersLie}
use Rattle.globals.specs.declared.whole.Globals.{Globals}
use Rattle.grammar.specs.Limits.{expr_nodes}
use Rattle.grammar.specs.Trees as tree
use Rattle.grammar.specs.Trees.{Ident, bound, Expr, datatype_definition, type_annotation, function_definition, val_binding, Script}
use Rattle.layout.specs.Decoding.{Stands}
use Rattle.layout.specs.Literals.{symbol_number}
use Rattle.layout.specs.Scripts.{DefinitionStands, d_define, d_val, DefinitionsStand, d_more}
use Rattle.layout.specs.Spelling.{Spells}
use Rattle.layout.specs.Tabling.{after}
use Rattle.layout.specs.Words.{word, word_at}
use Rattle.layout.specs.declared.counts.Counts.{Counts}
use Rattle.layout.specs.declared.definition.Annotation.{Annotation as AnnotationEntry}
use Rattle.layout.specs.declared.definition.Datatype.{Datatype as DatatypeEntry}
use Rattle.layout.specs.declared.definition.Define.{Define as DefineEntry}
use Rattle.layout.specs.declared.definition.Definition.{Definition}
use Rattle.layout.specs.declared.definition.Definition.TheVariants as definition
use Rattle.layout.specs.declared.definition.Val.{Val as ValEntry}
use Rattle.layout.specs.declared.node.Node.{Node}
use Rattle.layout.specs.declared.tables.Tables.{Tables}
use Rattle.layout.specs.declared.word.Word.{Word}
use Rattle.naming.specs.Judges as naming
use Rattle.naming.specs.declared.world.World.{World}
use Rattle.program.specs.Compiling.{compile}
use Rattle.program.specs.Programs.{Program, Define, program}
use Rattle.program.specs.Scopes.{bind_scope}
use Rattle.program.specs.Whole.{body_codes, function_codes, val_codes, owner_codes}
use Rattle.program.specs.declared.code.Code.{Code}
use Rattle.program.specs.declared.compiled.FunctionCode.{FunctionCode}
use Rattle.program.specs.declared.compiled.Owner.{Owner}
use Rattle.program.proofs.CodeLaws.{code_length}
use Rattle.script_refusals.specs.declared.refusal.Refused.{Refused}
use Rattle.type_rows.specs.Rows.{IsKind}
use Rattle.type_rows.specs.Shapes.{ty}
use Rattle.type_rows.specs.declared.value_type.ValueType.{ValueType}
use Rattle.type_rows.specs.declared.value_type.ValueType.TheVariants as value
use Rattle.typing.specs.Judging.{Judged, refused as refuses, judged, judge}
use Rattle.typing.specs.Types.{Ty, annotation_of}
use Rattle.typing.specs.Verdict.{Verdict, accepted, refused, before, concluded, judge_define, bodies}

-- what stands at the entry of a define and of a val
module _ (text : List ℕ) (number : List ℕ → ℕ) (ns : List Node) (tables : Tables) where
  stand_first : (d : tree.Definition) (ds : Script) (i j : ℕ) → DefinitionsStand text number ns tables (d ∷ ds) i j
      → DefinitionStands text number ns tables i (definition_at text tables i) d × DefinitionsStand text number ns tables ds (i + 1) j
  stand_first d ds i j (d_more low one more) = (one, more)

  define_body : (k : ℕ) (a : DefineEntry) (d : tree.Definition) (p : ℕ) (x : Ident) (ps : List Ident) (e : Expr) → DefinitionStands text number ns tables k (definition.Define a) d → d ≡ function_definition p x ps e → Stands text number ns e a.body
  define_body k a d p x ps e (d_define {e = e'} spelt names body) q = let s : e' ≡ e = cc in subst (λ e. Stands text number ns e a.body) s body

  val_body : (k : ℕ) (a : ValEntry) (d : tree.Definition) (p : ℕ) (x : Ident) (e : Expr) → DefinitionStands text number ns tables k (definition.Val a) d → d ≡ val_binding p x e → Stands text number ns e a.body
  val_body k a d p x e (d_val {e = e'} spelt body) q = let s : e' ≡ e = cc in subst (λ e. Stands text number ns e a.body) s body

spelt_word : (text : List ℕ) (w : Word) (x : Ident) → Spells text w x → w ≡ word x
spelt_word text w x s = ap (λ p. word_at p w.size) s.place_is ∙ ap (λ n. word_at x.place n) s.size_is

-- the entries of a list with one more behind
last_or_before : {X : Type 0} (xs : List X) (x y : X) (k : ℕ) → slice_get (xs ++ x ∷ []) k ≡ Some y → (slice_get xs k ≡ Some y) ⊎ (x ≡ y)
last_or_before [] x y zero e = inr (same_Some x y e)
last_or_before [] x y (suc k) e = inl e
last_or_before (z ∷ xs) x y zero e = inl e
last_or_before (z ∷ xs) x y (suc k) e = last_or_before xs x y k e

abbrev function_code : ℕ → ℕ → FunctionCode
function_code body arity = record { body = body; arity = arity }

abbrev owner_code : ℕ → Word → Owner
owner_code place name = record { place = place; name = name }

-- In a world of the script, with the types of the vals so far.
module _ (world : World) (tables : Tables) (script : Script) (c : Counts) (ds : Script) (old : Draft)
    (setting : Setting world.text.now world.nodes.now tables world.globals.now script) (vals : world.vals.now ≡ take (min old.val_count 256) old.kinds) where
  abbrev P : Program
  P = program script

  abbrev meant : ValueType → Ty
  meant kind = ty (meaning_in script) kind

  abbrev Along : Counts → Script → Draft → Type 0
  Along = Underway world.text.now world.nodes.now tables world.globals.now script

  same_vals : (d : tree.Definition) → Along c (d ∷ ds) old → world.vals.now ≡ take old.val_count old.kinds
  same_vals d u = let few = u.few in let q : min old.val_count 256 ≡ old.val_count = omega arith in vals ∙ ap (λ n. take n old.kinds) q

  world_set : (d : tree.Definition) → Along c (d ∷ ds) old → naming.Setting world script
  world_set d u = record {
    short = setting.short;
    few = setting.few;
    known = setting.known;
    vals = λ k kind e. u.kinds k kind (ap (λ l. slice_get l k) (sym (same_vals d u)) ∙ e);
    six = setting.six;
  }

  -- a define
  module _ (a : DefineEntry) (kind : ValueType) (is : kind ≡ get_or world.globals.now.types.types old.define_count value.Unit) (at : definition_at world.text.now tables c.definitions ≡ definition.Define a) where
    judge_here : List ValueType → Ident → List Ident → Expr → Verdict
    judge_here V x ps e = concluded (judge_define P (map meant V) a.place ps e (annotation_of P x.bytes))

    -- the type that is asked for is that of the annotation
    annotated : (x : Ident) (ps : List Ident) (e : Expr) → Along c (function_definition a.place x ps e ∷ ds) old → (annotation_of P x.bytes ≡ Some (meant kind)) × IsKind world.globals.now.rows.rows kind
    annotated x ps e u =
        let entry : Define = record { place = a.place; name = x; parameters = ps; body = e } in
        let found : slice_get P.defines old.define_count ≡ Some entry = ap (slice_get P.defines) (sym (add-zero old.define_count)) ∙ u.defines 0 in
        let t = setting.known.types old.define_count entry found in
        (t.0 ∙ ap (λ k. Some (meant k)) (sym is), subst (IsKind world.globals.now.rows.rows) (sym is) t.1)

    judged_so : (x : Ident) (ps : List Ident) (e : Expr) (v : Verdict) → Along c (function_definition a.place x ps e ∷ ds) old → concluded (judge_define P (naming.vals_of world script) a.place ps e (Some (meant kind))) ≡ v
        → judge_here (take old.val_count old.kinds) x ps e ≡ v
    unfolding judge_here
    judged_so x ps e v u h =
        ap (λ V. concluded (judge_define P (map meant V) a.place ps e (annotation_of P x.bytes))) (sym (same_vals (function_definition a.place x ps e) u))
        ∙ ap (λ o. concluded (judge_define P (naming.vals_of world script) a.place ps e o)) (annotated x ps e u).0 ∙ h

    pub define_refused : (d : tree.Definition) (r : Refused) (codes : List Code) → DefinitionLies world.text.now tables c d (definition.Define a) → Along c (d ∷ ds) old → OnDefine world tables a kind old.code (Err r) codes
        → bodies P [] script ≡ refused r
    unfolding judge_here
    define_refused d r codes (define_lies {x = x} {xs = ps} {e = e} spelt first past body parameters) u on =
        let st = stand_first world.text.now (symbol_number script) world.nodes.now tables _ _ _ _ u.stand in
        let here = define_body world.text.now (symbol_number script) world.nodes.now tables c.definitions a (function_definition a.place x ps e) a.place x ps e
        (subst (λ s. DefinitionStands world.text.now (symbol_number script) world.nodes.now tables c.definitions s (function_definition a.place x ps e)) at st.0) refl in
        let q : a.past ≡ a.first + length ps = omega arith in
        let h = on script ps e (world_set (function_definition a.place x ps e) u) (annotated x ps e u).1 (subst (λ i. ParametersLie world.text.now tables i ps) (sym first) parameters) q here in
        u.said ∙ ap (λ v. before v (bodies P (map meant (take old.val_count old.kinds)) ds)) (judged_so x ps e (refused r) u h)

    define_here : (d : tree.Definition) (codes : List Code) (new : Draft) → Along c (d ∷ ds) old → WithDefine (record old { code = codes }) a new → (new.define_count ≡ old.define_count + 1) × (new.val_count ≡ old.val_count) × (take new.val_count new.kinds ≡ take old.val_count old.kinds)
    define_here d codes new u w =
        let few = u.few in
        let counted = w.define_count in
        let n : new.define_count ≡ old.define_count + 1 = omega arith in
        (n, w.val_count, ap (λ n. take n new.kinds) w.val_count ∙ ap (take old.val_count) w.kinds)

    pub define_more : (d : tree.Definition) (codes : List Code) (new : Draft) → DefinitionLies world.text.now tables c d (definition.Define a) → Along c (d ∷ ds) old → OnDefine world tables a kind old.code (Ok tt) codes → WithDefine (record old { code = codes }) a new
        → Along (after c d) ds new
    unfolding judge_here
    define_more d codes new (define_lies {x = x} {xs = ps} {e = e} spelt first past body parameters) u on w =
        let d' : tree.Definition = function_definition a.place x ps e in
        let st = stand_first world.text.now (symbol_number script) world.nodes.now tables _ _ _ _ u.stand in
        let here = define_body world.text.now (symbol_number script) world.nodes.now tables c.definitions a d' a.place x ps e
        (subst (λ s. DefinitionStands world.text.now (symbol_number script) world.nodes.now tables c.definitions s d') at st.0) refl in
        let q : a.past ≡ a.first + length ps = omega arith in
        let h = on script ps e (world_set d' u) (annotated x ps e u).1 (subst (λ i. ParametersLie world.text.now tables i ps) (sym first) parameters) q here in
        let few = u.few in
        let counts = define_here d' codes new u w in
        let more : new.define_count ≡ old.define_count + 1 = counts.0 in
        let same : new.val_count ≡ old.val_count = counts.1 in
        let G = bind_scope (map bound ps) [] in
        let n = old.define_count in
        let owned = old.define_count + old.val_count in
        let arity : a.past - a.first ≡ length ps = omega arith in
        let low : min owned 18446744073709551615 ≡ owned = omega arith in
        let coded : new.code ≡ puts old.code c.nodes (compile P G c.nodes e) = w.code ∙ h.1 ∙ ap (λ i. puts old.code i (compile P G i e)) body in
        let functions_are : new.functions ≡ set old.functions n (function_code c.nodes (length ps)) =
        w.functions ∙ ap (λ b. set old.functions n (function_code b (a.past - a.first))) body ∙ ap (λ k. set old.functions n (function_code c.nodes k)) arity in
        let owners_are : new.owners ≡ set old.owners owned (owner_code a.place (word x)) =
        w.owners ∙ ap (λ k. set old.owners k (owner_code a.place a.name)) low ∙ ap (λ name. set old.owners owned (owner_code a.place name)) (spelt_word world.text.now a.name x spelt) in
        let both : owned + 1 ≡ new.define_count + new.val_count = omega arith in
        let total = u.owner_count in
        let entry : Define = record { place = a.place; name = x; parameters = ps; body = e } in
        record {
          lies = u.lies.1;
          stand = st.1;
          said = u.said ∙ ap (λ v. before v (bodies P (map meant (take old.val_count old.kinds)) ds)) (judged_so x ps e accepted u h.0) ∙ ap (λ V. bodies P (map meant V) ds) (sym counts.2);
          code = u.code ∙ puts-++ old.code c.nodes (compile P G c.nodes e) (body_codes P (c.nodes + expr_nodes e) ds)
              ∙ ap (λ l. puts (puts old.code c.nodes (compile P G c.nodes e)) (c.nodes + l) (body_codes P (c.nodes + expr_nodes e) ds)) (code_length P e G c.nodes)
              ∙ ap (λ z. puts z (c.nodes + expr_nodes e) (body_codes P (c.nodes + expr_nodes e) ds)) (sym coded);
          functions = u.functions ∙ ap (λ z. puts z (n + 1) (function_codes (c.nodes + expr_nodes e) ds)) (sym functions_are) ∙ ap (λ k. puts new.functions k (function_codes (c.nodes + expr_nodes e) ds)) (sym more);
          vals = u.vals ∙ ap (λ z. puts z old.val_count (val_codes (c.nodes + expr_nodes e) ds)) (sym w.vals) ∙ ap (λ k. puts new.vals k (val_codes (c.nodes + expr_nodes e) ds)) (sym same);
          owners = u.owners ∙ ap (λ z. puts z (owned + 1) (owner_codes ds)) (sym owners_are) ∙ ap (λ k. puts new.owners k (owner_codes ds)) both;
          owner_count = omega arith;
          kinds = λ k kind' e'. u.kinds k kind' (ap (λ l. slice_get l k) (sym counts.2) ∙ e');
          room = ap length w.kinds ∙ u.room;
          place_room = ap length w.places ∙ length-set old.places n a.place ∙ u.place_room;
          defines = λ j. let p : new.define_count + j ≡ old.define_count + suc j = omega arith in ap (slice_get P.defines) p ∙ u.defines (suc j);
          places = λ j z low found. placed entry new d' u (omega arith) w.places (ap (slice_get P.defines) (sym (add-zero n)) ∙ u.defines 0) j z (let p : j < old.define_count + 1 = omega arith in p) found;
          few = omega arith;
        }
      where
        placed : (entry : Define) (new : Draft) (d : tree.Definition) → Along c (d ∷ ds) old → old.define_count < 256 → new.places ≡ set old.places old.define_count entry.place → slice_get P.defines old.define_count ≡ Some entry → (j : ℕ) (z : Define) → j < old.define_count + 1
            → slice_get P.defines j ≡ Some z → get_or new.places j 0 ≡ z.place
        placed entry new d u fits are here j z low found = go (cases_eq j old.define_count)
          where
            go : (j ≡ old.define_count) ⊎ (j ≡ old.define_count → ⊥) → get_or new.places j 0 ≡ z.place
            go (inl e) =
                let room = u.place_room in
                let within : old.define_count < length old.places = omega arith in
                let s : entry ≡ z = same_Some entry z (sym here ∙ ap (slice_get P.defines) (sym e) ∙ found) in
                ap (λ l. get_or l j 0) are ∙ ap (λ i. get_or (set old.places old.define_count entry.place) i 0) e ∙ get_or-set_same old.places old.define_count entry.place 0 within ∙ ap (λ (z : Define). z.place) s
            go (inr e) = ap (λ l. get_or l j 0) are ∙ get_or-set_other old.places old.define_count j entry.place 0 e ∙ u.places j z (let p : j < old.define_count = omega arith in p) found

  -- a val
  module _ (a : ValEntry) (at : definition_at world.text.now tables c.definitions ≡ definition.Val a) where
    abbrev judged_val : Judged Ty → Verdict
    judged_val J = elim J [ refuses r ↦ refused r | judged τ Γ ↦ bodies P (map meant (take old.val_count old.kinds) ++ τ ∷ []) ds ]

    val_said : (x : Ident) (e : Expr) (J : Judged Ty) → Along c (val_binding a.place x e ∷ ds) old → judge P (naming.vals_of world script) e [] ≡ J → bodies P [] script ≡ judged_val J
    val_said x e J u h = u.said ∙ ap judged_val (ap (λ V. judge P (map meant V) e []) (sym (same_vals (val_binding a.place x e) u)) ∙ h)

    pub val_refused : (d : tree.Definition) (r : Refused) (codes : List Code) → DefinitionLies world.text.now tables c d (definition.Val a) → Along c (d ∷ ds) old → OnVal world a old.code (Err r) codes → bodies P [] script ≡ refused r
    val_refused d r codes (val_lies {x = x} {e = e} spelt body) u on =
        let d' : tree.Definition = val_binding a.place x e in
        let st = stand_first world.text.now (symbol_number script) world.nodes.now tables _ _ _ _ u.stand in
        let here = val_body world.text.now (symbol_number script) world.nodes.now tables c.definitions a d' a.place x e
        (subst (λ s. DefinitionStands world.text.now (symbol_number script) world.nodes.now tables c.definitions s d') at st.0) refl in
        val_said x e (refuses r) u (on script e (world_set d' u) here)

    pub val_more : (d : tree.Definition) (kind : ValueType) (codes : List Code) (new : Draft) → DefinitionLies world.text.now tables c d (definition.Val a) → Along c (d ∷ ds) old → OnVal world a old.code (Ok kind) codes → WithVal (record old { code = codes }) a kind new
        → Along (after c d) ds new
    val_more d kind codes new (val_lies {x = x} {e = e} spelt body) u on w =
        let d' : tree.Definition = val_binding a.place x e in
        let st = stand_first world.text.now (symbol_number script) world.nodes.now tables _ _ _ _ u.stand in
        let here = val_body world.text.now (symbol_number script) world.nodes.now tables c.definitions a d' a.place x e
        (subst (λ s. DefinitionStands world.text.now (symbol_number script) world.nodes.now tables c.definitions s d') at st.0) refl in
        let h = on script e (world_set d' u) here in
        let few = u.few in
        let room = u.room in
        let counted = w.val_count in
        let defined = w.define_count in
        let n = old.val_count in
        let more : new.val_count ≡ n + 1 = omega arith in
        let owned = old.define_count + old.val_count in
        let low : min owned 18446744073709551615 ≡ owned = omega arith in
        let both : owned + 1 ≡ new.define_count + new.val_count = omega arith in
        let total = u.owner_count in
        let within : n < length old.kinds = omega arith in
        let coded : new.code ≡ puts old.code c.nodes (compile P [] c.nodes e) = w.code ∙ h.noted ∙ ap (λ i. puts old.code i (compile P [] i e)) body in
        let vals_are : new.vals ≡ set old.vals n c.nodes = w.vals ∙ ap (set old.vals n) body in
        let owners_are : new.owners ≡ set old.owners owned (owner_code a.place (word x)) =
        w.owners ∙ ap (λ k. set old.owners k (owner_code a.place a.name)) low ∙ ap (λ name. set old.owners owned (owner_code a.place name)) (spelt_word world.text.now a.name x spelt) in
        let kinds_are : take new.val_count new.kinds ≡ take n old.kinds ++ kind ∷ [] = ap (λ k. take k new.kinds) more ∙ ap (take (n + 1)) w.kinds ∙ take_more_set old.kinds n kind within in
        let meant_are : map meant (take n old.kinds) ++ meant kind ∷ [] ≡ map meant (take new.val_count new.kinds) = sym (ap (map meant) kinds_are ∙ map-append meant (take n old.kinds) (kind ∷ [])) in
        record {
          lies = u.lies.1;
          stand = st.1;
          said = val_said x e (judged (meant kind) h.names) u h.type ∙ ap (λ V. bodies P V ds) meant_are;
          code = u.code ∙ puts-++ old.code c.nodes (compile P [] c.nodes e) (body_codes P (c.nodes + expr_nodes e) ds)
              ∙ ap (λ l. puts (puts old.code c.nodes (compile P [] c.nodes e)) (c.nodes + l) (body_codes P (c.nodes + expr_nodes e) ds)) (code_length P e [] c.nodes)
              ∙ ap (λ z. puts z (c.nodes + expr_nodes e) (body_codes P (c.nodes + expr_nodes e) ds)) (sym coded);
          functions = u.functions ∙ ap (λ z. puts z old.define_count (function_codes (c.nodes + expr_nodes e) ds)) (sym w.functions) ∙ ap (λ k. puts new.functions k (function_codes (c.nodes + expr_nodes e) ds)) (sym defined);
          vals = u.vals ∙ ap (λ z. puts z (n + 1) (val_codes (c.nodes + expr_nodes e) ds)) (sym vals_are) ∙ ap (λ k. puts new.vals k (val_codes (c.nodes + expr_nodes e) ds)) (sym more);
          owners = u.owners ∙ ap (λ z. puts z (owned + 1) (owner_codes ds)) (sym owners_are) ∙ ap (λ k. puts new.owners k (owner_codes ds)) both;
          owner_count = omega arith;
          kinds = λ k kind' e'. kind_of_one d' u kind h.valid k kind' (last_or_before (take n old.kinds) kind kind' k (ap (λ l. slice_get l k) (sym kinds_are) ∙ e'));
          room = ap length w.kinds ∙ length-set old.kinds n kind ∙ u.room;
          place_room = ap length w.places ∙ u.place_room;
          defines = λ j. ap (λ k. slice_get P.defines (k + j)) defined ∙ u.defines j;
          places = λ j z low found. ap (λ l. get_or l j 0) w.places ∙ u.places j z (let p : j < old.define_count = omega arith in p) found;
          few = omega arith;
        }
      where
        kind_of_one : (d : tree.Definition) → Along c (d ∷ ds) old → (kind : ValueType) → IsKind world.globals.now.rows.rows kind → (k : ℕ) (kind' : ValueType) → (slice_get (take old.val_count old.kinds) k ≡ Some kind') ⊎ (kind ≡ kind') → IsKind world.globals.now.rows.rows kind'
        kind_of_one d u kind valid k kind' (inl e) = u.kinds k kind' e
        kind_of_one d u kind valid k kind' (inr e) = subst (IsKind world.globals.now.rows.rows) e valid

-- an entry without a body
abbrev Bodiless : Definition → Type 0
Bodiless e = (e ≡ definition.Unused) ⊎ (((a : DatatypeEntry) × (e ≡ definition.Datatype a)) ⊎ ((a : AnnotationEntry) × (e ≡ definition.Annotation a)))

define_has : {X : Type 0} (a : DefineEntry) → Bodiless (definition.Define a) → X
define_has a (inl q) = absurd (let z : ◌≡◌ {A = ℕ} 0 1 = cc in omega arith)
define_has a (inr (inl (b, q))) = absurd (let z : ◌≡◌ {A = ℕ} 0 1 = cc in omega arith)
define_has a (inr (inr (b, q))) = absurd (let z : ◌≡◌ {A = ℕ} 0 1 = cc in omega arith)

val_has : {X : Type 0} (a : ValEntry) → Bodiless (definition.Val a) → X
val_has a (inl q) = absurd (let z : ◌≡◌ {A = ℕ} 0 1 = cc in omega arith)
val_has a (inr (inl (b, q))) = absurd (let z : ◌≡◌ {A = ℕ} 0 1 = cc in omega arith)
val_has a (inr (inr (b, q))) = absurd (let z : ◌≡◌ {A = ℕ} 0 1 = cc in omega arith)

module _ (text : List ℕ) (nodes : List Node) (tables : Tables) (globals : Globals) (script : Script) (c : Counts) (ds : Script) (old : Draft) where
  abbrev Still : Counts → Script → Type 0
  Still c left = Underway text nodes tables globals script c left old

  -- a definition without a body: what is to be done is what was
  pub no_body : (d : tree.Definition) (e : Definition) → DefinitionLies text tables c d e → Bodiless e → Still c (d ∷ ds) → Still (after c d) ds
  no_body d e (datatype_lies {x = x} {cs = cs} {m = a} spelt f p vs) b u =
      let same : c.nodes ≡ c.nodes + 0 = sym (add-zero c.nodes) in
      record {
        lies = u.lies.1;
        stand = (stand_first text (symbol_number script) nodes tables _ _ _ _ u.stand).1;
        said = u.said;
        code = u.code ∙ ap (λ n. puts old.code n (body_codes (program script) n ds)) same;
        functions = u.functions ∙ ap (λ n. puts old.functions old.define_count (function_codes n ds)) same;
        vals = u.vals ∙ ap (λ n. puts old.vals old.val_count (val_codes n ds)) same;
        owners = u.owners;
        owner_count = u.owner_count;
        kinds = u.kinds;
        room = u.room;
        place_room = u.place_room;
        defines = u.defines;
        places = u.places;
        few = u.few;
      }
  no_body d e (annotation_lies {x = x} {t = t} {m = a} spelt r) b u =
      let same : c.nodes ≡ c.nodes + 0 = sym (add-zero c.nodes) in
      record {
        lies = u.lies.1;
        stand = (stand_first text (symbol_number script) nodes tables _ _ _ _ u.stand).1;
        said = u.said;
        code = u.code ∙ ap (λ n. puts old.code n (body_codes (program script) n ds)) same;
        functions = u.functions ∙ ap (λ n. puts old.functions old.define_count (function_codes n ds)) same;
        vals = u.vals ∙ ap (λ n. puts old.vals old.val_count (val_codes n ds)) same;
        owners = u.owners;
        owner_count = u.owner_count;
        kinds = u.kinds;
        room = u.room;
        place_room = u.place_room;
        defines = u.defines;
        places = u.places;
        few = u.few;
      }
  no_body d e (define_lies {m = a} spelt f p b ps) none u = define_has a none
  no_body d e (val_lies {m = a} spelt b) none u = val_has a none
