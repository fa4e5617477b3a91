-- What an allowed script has: every define and every val is well typed, with the types of all vals known.
use Rattle.std.proofs.Common.{◌≡◌, ℕ, zero, suc, Bool, true, false, cond, List, [], ◌∷◌, ◌++◌, map, Some, codes, Option, sym, refl, ap, ◌∙◌, subst, append_assoc, arith}
use Rattle.std.proofs.lemmas.Slice.Eq.{bytes_eq-Decides}
use Rattle.std.specs.List.{slice_get}
use Rattle.std.specs.Str.{bytes_eq}
use Rattle.grammar.specs.Trees.{Ident, PatternPart, bound, Expr, Exprs, Bindings, Branches, Script}
use Rattle.program.specs.Programs.{Name, Program, Define, Val, program, defines_of, vals_of, first_of}
use Rattle.rules.specs.Runs.{main_of}
use Rattle.typing.specs.Contexts.{Context, BindsAll, binds_none}
use Rattle.typing.specs.Judgement as rule
use Rattle.typing.specs.Judgement.{Typed, TypedRow, TypedEach, TypedBindings, TypedBranches}
use Rattle.typing.specs.Scripts.{Bodies, bodies_none, bodies_datatype, bodies_annotation, bodies_define, bodies_val, Allowed}
use Rattle.typing.specs.Types.{Ty, unit, function, Tys, no_types, annotation_of}

nth_front : {X : Type 0} (xs ys : List X) (i : ℕ) (x : X) → slice_get xs i ≡ Some x → slice_get (xs ++ ys) i ≡ Some x
nth_front [] ys i x h = let z : ◌≡◌ {A = ℕ} 0 1 = cc in absurd (omega arith)
nth_front (y ∷ xs) ys zero x h = h
nth_front (y ∷ xs) ys (suc i) x h = nth_front xs ys i x h

-- More vals do not hurt.
module _ (P : Program) (V W : List Ty) where
  mutual
    wider : {Γ Γ' : Context} {e : Expr} {τ : Ty} → Typed P V Γ e τ Γ' → Typed P (V ++ W) Γ e τ Γ'
    wider rule.integer = rule.integer
    wider rule.symbol = rule.symbol
    wider rule.boolean = rule.boolean
    wider rule.unit_literal = rule.unit_literal
    wider (rule.local_name h) = rule.local_name h
    wider (rule.function_name a g t) = rule.function_name a g t
    wider (rule.val_name a g t) = rule.val_name a g (nth_front V W _ _ t)
    wider (rule.if_expression t a b e) = rule.if_expression (wider t) (wider a) (wider b) e
    wider (rule.begin_expression h r) = rule.begin_expression (wider h) (wider_row r)
    wider (rule.let_expression b h e) = rule.let_expression (wider_bindings b) (wider h) e
    wider (rule.case_expression h b) = rule.case_expression (wider h) (wider_branches b)
    wider (rule.dup_expression h) = rule.dup_expression h
    wider (rule.construct_expression a g n h) = rule.construct_expression a g n (wider_each h)
    wider (rule.apply_expression h r) = rule.apply_expression (wider h) (wider_each r)

    wider_row : {Γ Γ' : Context} {σ τ : Ty} {es : Exprs} → TypedRow P V Γ σ es τ Γ' → TypedRow P (V ++ W) Γ σ es τ Γ'
    wider_row rule.row_last = rule.row_last
    wider_row (rule.row_more h r) = rule.row_more (wider h) (wider_row r)

    wider_each : {Γ Γ' : Context} {es : Exprs} {τs : Tys} → TypedEach P V Γ es τs Γ' → TypedEach P (V ++ W) Γ es τs Γ'
    wider_each rule.each_none = rule.each_none
    wider_each (rule.each_more h r) = rule.each_more (wider h) (wider_each r)

    wider_bindings : {Γ Γ' : Context} {bs : Bindings} → TypedBindings P V Γ bs Γ' → TypedBindings P (V ++ W) Γ bs Γ'
    wider_bindings rule.bindings_none = rule.bindings_none
    wider_bindings (rule.bindings_more h f r) = rule.bindings_more (wider h) f (wider_bindings r)

    wider_branches : {Γ Γ' : Context} {d : ℕ} {bs : Branches} {τ : Ty} → TypedBranches P V Γ d bs τ Γ' → TypedBranches P (V ++ W) Γ d bs τ Γ'
    wider_branches (rule.branches_last p h e) = rule.branches_last p (wider h) e
    wider_branches (rule.branches_more p h r e) = rule.branches_more p (wider h) (wider_branches r) e

pub record DefineOk (P : Program) (V : List Ty) (d : Define) : Type 0 where
  pub parameters : Tys
  pub result : Ty
  pub inside : Context
  pub after : Context
  pub annotation : annotation_of P d.name.bytes ≡ Some (function parameters result)
  pub opens : BindsAll P (map bound d.parameters) parameters [] inside
  pub typed : Typed P V inside d.body result after

pub record ValOk (P : Program) (V : List Ty) (o : Option Val) (τ : Ty) : Type 0 where
  pub val : Val
  pub here : o ≡ Some val
  pub after : Context
  pub typed : Typed P V [] val.expr τ after

pub record ScriptOk (P : Program) (V : List Ty) : Type 0 where
  pub defines : (i : ℕ) (d : Define) → slice_get P.defines i ≡ Some d → DefineOk P V d
  pub vals : (i : ℕ) (τ : Ty) → slice_get V i ≡ Some τ → ValOk P V (slice_get P.vals i) τ

module _ (P : Program) where
  -- the types of the vals of these definitions
  val_types : {V : List Ty} {ds : Script} → Bodies P V ds → List Ty
  val_types bodies_none = []
  val_types (bodies_datatype b) = val_types b
  val_types (bodies_annotation b) = val_types b
  val_types (bodies_define a o t b) = val_types b
  val_types (bodies_val {τ = τ} t b) = τ ∷ val_types b

  -- with all types U in place of those known so far
  defines_ok : (U V : List Ty) (ds : Script) (b : Bodies P V ds) → V ++ val_types b ≡ U → (i : ℕ) (d : Define) → slice_get (defines_of ds) i ≡ Some d → DefineOk P U d
  unfolding val_types
  defines_ok U V _ bodies_none e i d h = let z : ◌≡◌ {A = ℕ} 0 1 = cc in absurd (omega arith)
  defines_ok U V _ (bodies_datatype b) e i d h = defines_ok U V _ b e i d h
  defines_ok U V _ (bodies_annotation b) e i d h = defines_ok U V _ b e i d h
  defines_ok U V _ (bodies_define {p = p} {x = x} {ps = ps} {e = body} {τs = τs} {τ = τ} {Γ = Γ} {Γ' = Γ'} a o t b) e zero d h =
      let same : ◌≡◌ {A = Define} (record { place = p; name = x; parameters = ps; body = body }) d = cc in
      subst (DefineOk P U) same
      (record { parameters = τs; result = τ; inside = Γ; after = Γ'; annotation = a; opens = o; typed = subst (λ (U : List Ty). Typed P U Γ body τ Γ') e (wider P V (val_types b) t) })
  defines_ok U V _ (bodies_define a o t b) e (suc i) d h = defines_ok U V _ b e i d h
  defines_ok U V _ (bodies_val {τ = τ} t b) e i d h = defines_ok U (V ++ τ ∷ []) _ b (append_assoc V (τ ∷ []) (val_types b) ∙ e) i d h

  vals_ok : (U V : List Ty) (ds : Script) (b : Bodies P V ds) → V ++ val_types b ≡ U → (i : ℕ) (τ : Ty) → slice_get (val_types b) i ≡ Some τ → ValOk P U (slice_get (vals_of ds) i) τ
  unfolding val_types
  vals_ok U V _ bodies_none e i τ h = let z : ◌≡◌ {A = ℕ} 0 1 = cc in absurd (omega arith)
  vals_ok U V _ (bodies_datatype b) e i τ h = vals_ok U V _ b e i τ h
  vals_ok U V _ (bodies_annotation b) e i τ h = vals_ok U V _ b e i τ h
  vals_ok U V _ (bodies_define a o t b) e i τ h = vals_ok U V _ b e i τ h
  vals_ok U V _ (bodies_val {e = x} {τ = σ} {Γ' = Γ'} t b) e zero τ h =
      let same : σ ≡ τ = cc in
      record { val = _; here = refl; after = Γ'; typed = subst (λ (τ : Ty). Typed P U [] x τ Γ') same (subst (λ (U : List Ty). Typed P U [] x σ Γ') e (wider P V (σ ∷ val_types b) t)) }
  vals_ok U V _ (bodies_val {τ = σ} t b) e (suc i) τ h = vals_ok U (V ++ σ ∷ []) _ b (append_assoc V (σ ∷ []) (val_types b) ∙ e) i τ h

-- the first of a list with a name stands somewhere in it, and has the name
pub record FoundAt {X : Type 0} (name : X → Ident) (w : Name) (xs : List X) (x : X) : Type 0 where
  pub at : ℕ
  pub there : slice_get xs at ≡ Some x
  pub same : w ≡ (name x).bytes

found_at : {X : Type 0} (name : X → Ident) (w : Name) (xs : List X) (x : X) → first_of name w xs ≡ Some x → FoundAt name w xs x
found_at name w [] x h = let z : ◌≡◌ {A = ℕ} 0 1 = cc in absurd (omega arith)
found_at {X} name w (y ∷ xs) x h = go (bytes_eq w (name y).bytes) refl h (found_at name w xs x)
  where
    go : (b : Bool) → bytes_eq w (name y).bytes ≡ b → cond b (Some y) (first_of name w xs) ≡ Some x → (first_of name w xs ≡ Some x → FoundAt name w xs x) → FoundAt name w (y ∷ xs) x
    go true e h next = let k : y ≡ x = cc in record { at = 0; there = h; same = (bytes_eq-Decides w (name y).bytes).0 e ∙ ap (λ (z : X). (name z).bytes) k }
    go false e h next = let f = next h in record { at = suc f.at; there = f.there; same = f.same }

pub record MainOk (P : Program) (V : List Ty) (main : Option Define) : Type 0 where
  pub define : Define
  pub here : main ≡ Some define
  pub after : Context
  pub typed : Typed P V [] define.body unit after

no_parameters : {P : Program} {xs : List PatternPart} {Γ Δ : Context} → BindsAll P xs no_types Γ Δ → Γ ≡ Δ
no_parameters binds_none = refl

module _ (script : Script) (ok : Allowed script) where
  pub types : List Ty
  types = val_types (program script) ok.bodies

  pub script_ok : ScriptOk (program script) types
  unfolding types
  script_ok = record { defines = defines_ok (program script) types [] script ok.bodies refl; vals = vals_ok (program script) types [] script ok.bodies refl }

  main_at : FoundAt (λ d. d.name) (codes "main") (program script).defines ok.entry.0
  main_at = found_at (λ d. d.name) (codes "main") (program script).defines ok.entry.0 ok.entry.1

  pub main_ok : MainOk (program script) types (main_of (program script))
  main_ok =
      let P = program script in
      let d = ok.entry.0 in
      let f = script_ok.defines main_at.at d main_at.there in
      let e : annotation_of P d.name.bytes ≡ Some (function no_types unit) = ap (annotation_of P) (sym main_at.same) ∙ ok.main in
      let τs : f.parameters ≡ no_types = cc (e, f.annotation) in
      let τ : f.result ≡ unit = cc (e, f.annotation) in
      let b : BindsAll P (map bound d.parameters) no_types [] f.inside = subst (λ (τs : Tys). BindsAll P (map bound d.parameters) τs [] f.inside) τs f.opens in
      record {
        define = d;
        here = ok.entry.1;
        after = f.after;
        typed = subst (λ (τ : Ty). Typed P types [] d.body τ f.after) τ (subst (λ (Γ : Context). Typed P types Γ d.body f.result f.after) (sym (no_parameters b)) f.typed);
      }
