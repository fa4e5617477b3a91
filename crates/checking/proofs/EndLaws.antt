-- The code of a whole script.
use Rattle.std.proofs.Common.{◌≡◌, ℕ, suc, ◌+◌, ◌-◌, ◌<◌, ◌≤◌, ◌⊎◌, List, [], ◌∷◌, map, length, take, get_or, codes, Some, Ok, inl, inr, sym, refl, ap, ◌∙◌, add-zero, arith, length-append}
use Rattle.std.specs.List.{slice_get}
use Rattle.std.proofs.lemmas.Bool.{cases_lt}
use Rattle.checking.specs.Drafting.{IsBlank, Underway, Finished}
use Rattle.checking.specs.Whole.{BodiesAnswer}
use Rattle.checking.specs.declared.draft.Draft.{Draft}
use Rattle.forms.specs.Progress.{puts}
use Rattle.globals.specs.Known.{meaning_in}
use Rattle.globals.specs.Lying.{definition_at, Laid}
use Rattle.globals.specs.declared.whole.Globals.{Globals}
use Rattle.globals.proofs.DefineLaws.{none_some}
use Rattle.grammar.specs.Limits.{expr_nodes}
use Rattle.grammar.specs.Trees as tree
use Rattle.grammar.specs.Trees.{bound, datatype_definition, type_annotation, function_definition, val_binding, Script}
use Rattle.layout.specs.Scripts.{ScriptStands}
use Rattle.layout.specs.Tabling.{none, after, after_all, filled}
use Rattle.layout.specs.declared.counts.Counts.{Counts}
use Rattle.layout.specs.declared.definition.Definition.{Definition}
use Rattle.layout.specs.declared.node.Node.{Node}
use Rattle.layout.specs.declared.tables.Tables.{Tables}
use Rattle.parser.proofs.TableLaws.{puts_filled}
use Rattle.program.specs.Compiling.{compile}
use Rattle.program.specs.Programs.{Program, Define, program, first_of, place_meant}
use Rattle.program.specs.Scopes.{bind_scope}
use Rattle.program.specs.Standing.{no_code, no_function, no_owner}
use Rattle.program.specs.Whole.{body_codes, function_codes, val_codes, owner_codes, define_number, compiled}
use Rattle.program.specs.declared.code.Code.{Code}
use Rattle.program.specs.declared.compiled.Compiled.{Compiled}
use Rattle.program.specs.declared.compiled.FunctionCode.{FunctionCode}
use Rattle.program.specs.declared.compiled.Owner.{Owner}
use Rattle.program.proofs.CodeLaws.{code_length}
use Rattle.script_refusals.specs.declared.refusal.Refused.{Refused}
use Rattle.type_rows.specs.Shapes.{ty}
use Rattle.typing.specs.Verdict.{accepted, refused, bodies, main_stands}
use Rattle.checking.proofs.MainLaws.{define_at, main_define}

-- as many entries as are counted
body_size : (P : Program) (i : ℕ) (c : Counts) (ds : Script) → c.nodes + length (body_codes P i ds) ≡ (after_all c ds).nodes
body_size P i c [] = add-zero c.nodes
body_size P i c (datatype_definition p x cs ∷ ds) = let h = body_size P i (after c (datatype_definition p x cs)) ds in omega arith
body_size P i c (type_annotation p x t ∷ ds) = let h = body_size P i (after c (type_annotation p x t)) ds in omega arith
body_size P i c (function_definition p x ps e ∷ ds) =
    let h = body_size P (i + expr_nodes e) (after c (function_definition p x ps e)) ds in
    let k = code_length P e (bind_scope (map bound ps) []) i in
    omega (arith, length-append (compile P (bind_scope (map bound ps) []) i e) (body_codes P (i + expr_nodes e) ds))
body_size P i c (val_binding p x e ∷ ds) =
    let h = body_size P (i + expr_nodes e) (after c (val_binding p x e)) ds in
    let k = code_length P e [] i in
    omega (arith, length-append (compile P [] i e) (body_codes P (i + expr_nodes e) ds))

binding_size : (i : ℕ) (c : Counts) (ds : Script) → (c.bindings + length (owner_codes ds) ≡ (after_all c ds).bindings) × (length (function_codes i ds) + length (val_codes i ds) ≡ length (owner_codes ds))
binding_size i c [] = (add-zero c.bindings, refl)
binding_size i c (datatype_definition p x cs ∷ ds) = let h = binding_size i (after c (datatype_definition p x cs)) ds in let n = h.0 in ((let q : c.bindings + length (owner_codes ds) ≡ (after_all (after c (datatype_definition p x cs)) ds).bindings = omega arith in q), h.1)
binding_size i c (type_annotation p x t ∷ ds) = let h = binding_size i (after c (type_annotation p x t)) ds in let n = h.0 in ((let q : c.bindings + length (owner_codes ds) ≡ (after_all (after c (type_annotation p x t)) ds).bindings = omega arith in q), h.1)
binding_size i c (function_definition p x ps e ∷ ds) =
    let h = binding_size (i + expr_nodes e) (after c (function_definition p x ps e)) ds in
    let n = h.0 in
    let m = h.1 in (
      (let q : c.bindings + suc (length (owner_codes ds)) ≡ (after_all (after c (function_definition p x ps e)) ds).bindings = omega arith in q),
      (let q : suc (length (function_codes (i + expr_nodes e) ds)) + length (val_codes (i + expr_nodes e) ds) ≡ suc (length (owner_codes ds)) = omega arith in q),
    )
binding_size i c (val_binding p x e ∷ ds) =
    let h = binding_size (i + expr_nodes e) (after c (val_binding p x e)) ds in
    let n = h.0 in
    let m = h.1 in (
      (let q : c.bindings + suc (length (owner_codes ds)) ≡ (after_all (after c (val_binding p x e)) ds).bindings = omega arith in q),
      (let q : length (function_codes (i + expr_nodes e) ds) + suc (length (val_codes (i + expr_nodes e) ds)) ≡ suc (length (owner_codes ds)) = omega arith in q),
    )

abbrev compiled_of : List Code → List FunctionCode → List ℕ → List Owner → ℕ → ℕ → ℕ → Compiled
compiled_of code functions vals owners owner_count main main_place = record { code = code; functions = functions; vals = vals; owners = owners; owner_count = owner_count; main = main; main_place = main_place }

-- in the midst of the definitions
pub record Going (text : List ℕ) (nodes : List Node) (tables : Tables) (globals : Globals) (script : Script) (k : ℕ) (draft : Draft) : Type 0 where
  pub counts : Counts
  pub left : Script
  pub here : k ≡ counts.definitions
  pub end : tables.counts.definitions ≡ k + length left
  pub along : Underway text nodes tables globals script counts left draft

module _ (text : List ℕ) (nodes : List Node) (tables : Tables) (globals : Globals) (script : Script) where
  abbrev P : Program
  P = program script

  pub going_start : (draft : Draft) → IsBlank draft → Laid text tables script → ScriptStands text nodes tables script → Going text nodes tables globals script 0 draft
  going_start draft b laid stands =
      let zero_defines = b.define_count in
      let zero_vals = b.val_count in
      let none_yet : 0 ≡ draft.define_count + draft.val_count = omega arith in
      let size = (binding_size 0 none script).0 in
      let few = laid.few.bindings in
      record {
        counts = none;
        left = script;
        here = refl;
        end = let count = laid.count in omega arith;
        along = record {
          lies = laid.lies;
          stand = stands;
          said = ap (λ n. bodies P (map (ty (meaning_in script)) (take n draft.kinds)) script) (sym b.val_count);
          code = ap (λ z. puts z 0 (body_codes P 0 script)) (sym b.code);
          functions = ap (λ z. puts z 0 (function_codes 0 script)) (sym b.functions) ∙ ap (λ n. puts draft.functions n (function_codes 0 script)) (sym b.define_count);
          vals = ap (λ z. puts z 0 (val_codes 0 script)) (sym b.vals) ∙ ap (λ n. puts draft.vals n (val_codes 0 script)) (sym b.val_count);
          owners = ap (λ z. puts z 0 (owner_codes script)) (sym b.owners) ∙ ap (λ n. puts draft.owners n (owner_codes script)) none_yet;
          owner_count = omega arith;
          kinds = λ k kind e. none_some kind (ap (λ n. slice_get (take n draft.kinds) k) (sym b.val_count) ∙ e);
          room = ap length b.kinds;
          place_room = ap length b.places;
          defines = λ j. let q : draft.define_count + j ≡ j = omega arith in ap (slice_get P.defines) q;
          places = λ j x low e. absurd (omega arith);
          few = omega arith;
        };
      }

  module _ (k : ℕ) (e : Definition) (old : Draft) (low : k < tables.counts.definitions) (is : e ≡ definition_at text tables k) where
    pub going_next : (new : Draft) → ((c : Counts) (d : tree.Definition) (ds : Script) → e ≡ definition_at text tables c.definitions → Underway text nodes tables globals script c (d ∷ ds) old → Underway text nodes tables globals script (after c d) ds new)
        → Going text nodes tables globals script k old → Going text nodes tables globals script (k + 1) new
    going_next new one g = go g.left g.end g.along
      where
        go : (left : Script) → tables.counts.definitions ≡ k + length left → Underway text nodes tables globals script g.counts left old → Going text nodes tables globals script (k + 1) new
        go [] end u = absurd (omega arith)
        go (d ∷ left) end u =
            let here = g.here in
            record {
              counts = after g.counts d;
              left = left;
              here = omega arith;
              end = omega arith;
              along = one g.counts d left (is ∙ ap (definition_at text tables) here) u;
            }

    pub going_refused : (r : Refused) → ((c : Counts) (d : tree.Definition) (ds : Script) → e ≡ definition_at text tables c.definitions → Underway text nodes tables globals script c (d ∷ ds) old → bodies P [] script ≡ refused r)
        → Going text nodes tables globals script k old → bodies P [] script ≡ refused r
    going_refused r one g = go g.left g.end g.along
      where
        go : (left : Script) → tables.counts.definitions ≡ k + length left → Underway text nodes tables globals script g.counts left old → bodies P [] script ≡ refused r
        go [] end u = absurd (omega arith)
        go (d ∷ left) end u = one g.counts d left (is ∙ ap (definition_at text tables) g.here) u

  pub going_end : (k : ℕ) (draft : Draft) → tables.counts.definitions ≤ k → Going text nodes tables globals script k draft → (c : Counts) × Underway text nodes tables globals script c [] draft
  going_end k draft high g = go g.left g.end g.along
    where
      go : (left : Script) → tables.counts.definitions ≡ k + length left → Underway text nodes tables globals script g.counts left draft → (c : Counts) × Underway text nodes tables globals script c [] draft
      go [] end u = (g.counts, u)
      go (d ∷ left) end u = absurd (omega arith)

  -- the code of the whole
  module _ (laid : Laid text tables script) (stands : main_stands P (first_of (λ d. d.name) (codes "main") P.defines) ≡ accepted) (draft : Draft) (c : Counts) (u : Underway text nodes tables globals script c [] draft) where
    abbrev number : ℕ
    number = define_number (codes "main") P.defines

    main_place_is : get_or draft.places number 0 ≡ place_meant (first_of (λ d. d.name) (codes "main") P.defines)
    main_place_is =
        let d = main_define P _ stands in
        let at = define_at (codes "main") P.defines d.0 d.1 in
        by d.0 at.0 (cases_lt number draft.define_count) ∙ sym (ap place_meant d.1)
      where
        by : (d : Define) → slice_get P.defines number ≡ Some d → (number < draft.define_count) ⊎ (draft.define_count ≤ number) → get_or draft.places number 0 ≡ d.place
        by d at (inl low) = u.places number d low at
        by d at (inr high) = let q : draft.define_count + (number - draft.define_count) ≡ number = omega arith in none_some d (sym (u.defines (number - draft.define_count)) ∙ ap (slice_get P.defines) q ∙ at)

    pub finished : (main : ℕ) (code : Compiled) → main ≡ number → Finished draft main code → BodiesAnswer script (Ok code)
    finished main code is f =
        let nodes_few = laid.few.nodes in
        let few = laid.few.bindings in
        let size = body_size P 0 none script in
        let sizes = binding_size 0 none script in
        let bound = sizes.0 in
        let both = sizes.1 in
        let total = u.owner_count in
        let low = u.few in
        let count : code.owner_count ≡ length (owner_codes script) = f.owner_count (omega arith) ∙ (let q : draft.define_count + draft.val_count ≡ length (owner_codes script) = omega arith in q) in
        let codes_are : code.code ≡ filled 4096 no_code (body_codes P 0 script) = f.code ∙ sym u.code ∙ puts_filled no_code 4096 (body_codes P 0 script) (omega arith) in
        let functions_are : code.functions ≡ filled 256 no_function (function_codes 0 script) = f.functions ∙ sym u.functions ∙ puts_filled no_function 256 (function_codes 0 script) (omega arith) in
        let vals_are : code.vals ≡ filled 256 0 (val_codes 0 script) = f.vals ∙ sym u.vals ∙ puts_filled 0 256 (val_codes 0 script) (omega arith) in
        let owners_are : code.owners ≡ filled 256 no_owner (owner_codes script) = f.owners ∙ sym u.owners ∙ puts_filled no_owner 256 (owner_codes script) (omega arith) in
        let main_is : code.main ≡ number = f.main ∙ is in
        let place_is : code.main_place ≡ place_meant (first_of (λ d. d.name) (codes "main") P.defines) = f.main_place ∙ ap (λ n. get_or draft.places n 0) is ∙ main_place_is in (
          u.said,
          ap (λ x. compiled_of x code.functions code.vals code.owners code.owner_count code.main code.main_place) codes_are
              ∙ ap (λ x. compiled_of (compiled script).code x code.vals code.owners code.owner_count code.main code.main_place) functions_are
              ∙ ap (λ x. compiled_of (compiled script).code (compiled script).functions x code.owners code.owner_count code.main code.main_place) vals_are
              ∙ ap (λ x. compiled_of (compiled script).code (compiled script).functions (compiled script).vals x code.owner_count code.main code.main_place) owners_are
              ∙ ap (λ x. compiled_of (compiled script).code (compiled script).functions (compiled script).vals (compiled script).owners x code.main code.main_place) count
              ∙ ap (λ x. compiled_of (compiled script).code (compiled script).functions (compiled script).vals (compiled script).owners (compiled script).owner_count x code.main_place) main_is
              ∙ ap (λ x. compiled_of (compiled script).code (compiled script).functions (compiled script).vals (compiled script).owners (compiled script).owner_count (compiled script).main x) place_is,
        )
