-- The code of a script that the rules allow is that script.
use Rattle.std.proofs.Common.{◌≡◌, ℕ, zero, suc, ◌+◌, Bool, true, false, cond, List, [], ◌∷◌, ◌++◌, map, length, get_or, Some, codes, refl, ap, ◌∙◌, subst, one-add, arith}
use Rattle.std.specs.List.{slice_get}
use Rattle.std.specs.Str.{bytes_eq}
use Rattle.grammar.specs.Limits.{expr_nodes}
use Rattle.grammar.specs.Trees.{bound, datatype_definition, type_annotation, function_definition, val_binding, Script}
use Rattle.layout.specs.Words.{word}
use Rattle.program.specs.Compiling.{compile}
use Rattle.program.specs.Programs.{Name, Program, Define, Val, Owner, program, defines_of, vals_of, owners_of, first_of}
use Rattle.program.specs.Scopes.{bind_scope}
use Rattle.program.specs.Standing.{no_function, no_owner, DefineStands, OwnerStands, StandsAt, Lays}
use Rattle.program.specs.Whole.{body_codes, function_codes, val_codes, owner_codes, define_number, compiled}
use Rattle.program.specs.declared.code.Code.{Code}
use Rattle.program.specs.declared.compiled.FunctionCode.{FunctionCode}
use Rattle.program.specs.declared.compiled.Owner.{Owner as OwnerCode}
use Rattle.program.proofs.CodeLaws.{code_length}
use Rattle.program.proofs.Sitting.{Sits, sits_left, sits_right, sits_first}
use Rattle.typing.specs.Types.{Ty}
use Rattle.typing.specs.Names.{lies_none}
use Rattle.typing.specs.Scripts.{Bodies, bodies_none, bodies_datatype, bodies_annotation, bodies_define, bodies_val, Allowed}
use Rattle.typing.proofs.Placed.{stands, lies_bound}

module _ (P : Program) (cs : List Code) where
  defines_stand : {V : List Ty} {ds : Script} → Bodies P V ds → (i : ℕ) → Sits cs i (body_codes P i ds) → (r : List FunctionCode) (n : ℕ) (d : Define) → slice_get (defines_of ds) n ≡ Some d
      → DefineStands P cs (get_or (function_codes i ds ++ r) n no_function) d
  defines_stand bodies_none i s r n d e = absurd (let z : ◌≡◌ {A = ℕ} 0 1 = cc in omega arith)
  defines_stand (bodies_datatype b) i s r n d e = defines_stand b i s r n d e
  defines_stand (bodies_annotation b) i s r n d e = defines_stand b i s r n d e
  defines_stand (bodies_define {V = V} {p = p} {x = x} {ps = ps} {e = e} {ds = ds} a t y b) i s r zero d q =
      let k : record { place = p; name = x; parameters = ps; body = e } ≡ d = cc in
      subst (DefineStands P cs (record { body = i; arity = length ps })) k (record {
        arity = refl;
        body = stands P V cs y (lies_bound P t lies_none) i (sits_left (compile P (bind_scope (map bound ps) []) i e) _ s);
      })
  defines_stand (bodies_define {ps = ps} {e = e} a t y b) i s r (suc n) d q =
      defines_stand b (i + expr_nodes e) (sits_right (compile P (bind_scope (map bound ps) []) i e) _ _ (ap (λ n. i + n) (code_length P e _ i)) s) r n d q
  defines_stand (bodies_val {e = e} y b) i s r n d q = defines_stand b (i + expr_nodes e) (sits_right (compile P [] i e) _ _ (ap (λ n. i + n) (code_length P e [] i)) s) r n d q

  vals_stand : {V : List Ty} {ds : Script} → Bodies P V ds → (i : ℕ) → Sits cs i (body_codes P i ds) → (r : List ℕ) (n : ℕ) (v : Val) → slice_get (vals_of ds) n ≡ Some v
      → StandsAt P cs [] v.expr (get_or (val_codes i ds ++ r) n 0)
  vals_stand bodies_none i s r n v e = absurd (let z : ◌≡◌ {A = ℕ} 0 1 = cc in omega arith)
  vals_stand (bodies_datatype b) i s r n v e = vals_stand b i s r n v e
  vals_stand (bodies_annotation b) i s r n v e = vals_stand b i s r n v e
  vals_stand (bodies_define {ps = ps} {e = e} a t y b) i s r n v q =
      vals_stand b (i + expr_nodes e) (sits_right (compile P (bind_scope (map bound ps) []) i e) _ _ (ap (λ n. i + n) (code_length P e _ i)) s) r n v q
  vals_stand (bodies_val {V = V} {p = p} {x = x} {e = e} y b) i s r zero v q =
      let k : record { place = p; name = x; expr = e } ≡ v = cc in
      subst (λ (v : Val). StandsAt P cs [] v.expr i) k (stands P V cs y lies_none i (sits_left (compile P [] i e) _ s))
  vals_stand (bodies_val {e = e} y b) i s r (suc n) v q = vals_stand b (i + expr_nodes e) (sits_right (compile P [] i e) _ _ (ap (λ n. i + n) (code_length P e [] i)) s) r n v q

owners_stand : (ds : Script) (r : List OwnerCode) (n : ℕ) (o : Owner) → slice_get (owners_of ds) n ≡ Some o → OwnerStands (get_or (owner_codes ds ++ r) n no_owner) o
owners_stand [] r n o e = absurd (let z : ◌≡◌ {A = ℕ} 0 1 = cc in omega arith)
owners_stand (datatype_definition p x cs ∷ ds) r n o e = owners_stand ds r n o e
owners_stand (type_annotation p x t ∷ ds) r n o e = owners_stand ds r n o e
owners_stand (function_definition p x ps b ∷ ds) r zero o e =
    let k : record { place = p; name = x } ≡ o = cc in subst (OwnerStands (record { place = p; name = word x })) k (record { place = refl; name = refl })
owners_stand (function_definition p x ps b ∷ ds) r (suc n) o e = owners_stand ds r n o e
owners_stand (val_binding p x b ∷ ds) r zero o e =
    let k : record { place = p; name = x } ≡ o = cc in subst (OwnerStands (record { place = p; name = word x })) k (record { place = refl; name = refl })
owners_stand (val_binding p x b ∷ ds) r (suc n) o e = owners_stand ds r n o e

owner_count_is : (ds : Script) → length (owner_codes ds) ≡ length (owners_of ds)
owner_count_is [] = refl
owner_count_is (datatype_definition p x cs ∷ ds) = owner_count_is ds
owner_count_is (type_annotation p x t ∷ ds) = owner_count_is ds
owner_count_is (function_definition p x ps b ∷ ds) = ap suc (owner_count_is ds)
owner_count_is (val_binding p x b ∷ ds) = ap suc (owner_count_is ds)

number_by : (w : Name) (d : Define) (ds : List Define) (e : Define) (b : Bool) → (first_of (λ d. d.name) w ds ≡ Some e → slice_get ds (define_number w ds) ≡ Some e)
    → cond b (Some d) (first_of (λ d. d.name) w ds) ≡ Some e → slice_get (d ∷ ds) (cond b 0 (1 + define_number w ds)) ≡ Some e
number_by w d ds e true k q = q
number_by w d ds e false k q = ap (slice_get (d ∷ ds)) (one-add (define_number w ds)) ∙ k q

define_number_law : (w : Name) (ds : List Define) (e : Define) → first_of (λ d. d.name) w ds ≡ Some e → slice_get ds (define_number w ds) ≡ Some e
define_number_law w [] e q = absurd (let z : ◌≡◌ {A = ℕ} 0 1 = cc in omega arith)
define_number_law w (d ∷ ds) e q = number_by w d ds e (bytes_eq w d.name.bytes) (define_number_law w ds e) q

pub lays : (script : Script) → Allowed script → Lays (compiled script) (program script)
lays script a = record {
  defines = λ n d e. defines_stand (program script) _ a.bodies 0 (sits_first _ _) _ n d e;
  vals = λ n v e. vals_stand (program script) _ a.bodies 0 (sits_first _ _) _ n v e;
  owners = λ n o e. owners_stand script _ n o e;
  owner_count_is = owner_count_is script;
  main = λ d e. define_number_law (codes "main") (defines_of script) d e;
  main_place_at = refl;
}
