-- A state is sound if what waits, what is held and what comes next agree in their types. Each step of a sound state leads to a sound
-- one, or meets a fault other than stuck.
use Rattle.std.proofs.Common.{◌≡◌, ℕ, zero, suc, ◌+◌, ◌-◌, Bool, true, false, cond, T as So, List, [], ◌∷◌, map, drop, ℤ, Some, None, Option, sym, refl, ap, ◌∙◌, subst, arith, eqb→eq}
use Rattle.std.specs.List.{slice_get}
use Rattle.basis.proofs.Typing.{gives as basis_gives}
use Rattle.basis.specs.Calls as basis_calls
use Rattle.basis.specs.CallLaws as laws
use Rattle.basis.specs.CallLaws.{Gives, Suits}
use Rattle.basis.specs.Numbers.{numbered}
use Rattle.basis.specs.Types.{parameter_types, result_of, listed}
use Rattle.basis.specs.declared.applied.Applied.{Applied}
use Rattle.basis.specs.declared.applied.Applied.TheVariants as applied
use Rattle.basis.specs.declared.basis_type.BasisType.{BasisType}
use Rattle.basis.specs.declared.basis_type.BasisType.TheVariants as basis
use Rattle.basis.specs.declared.fault.ArithmeticFault.{ArithmeticFault}
use Rattle.basis.specs.declared.fault.ArithmeticFault.TheVariants as arithmetic
use Rattle.basis.specs.declared.function.Basis.{Basis}
use Rattle.basis.specs.declared.plain.Plain.{Plain}
use Rattle.data.specs.Trees as value
use Rattle.data.specs.Trees.{Tree, built, Trees, none, more, cost, size}
use Rattle.grammar.specs.Trees as tree
use Rattle.grammar.specs.Trees.{Ident, PatternPart, bound, skipped, Pattern, wildcard, constructor, Expr, Exprs, no_exprs, and_expr, Bindings, no_bindings, and_binding, Branches, last_branch, and_branch}
use Rattle.program.specs.Compiling.{binding_count}
use Rattle.program.specs.Programs as means
use Rattle.program.specs.Programs.{Name, Program, Variant, Define, Val, Global, global_of, basis_count}
use Rattle.program.specs.Scopes.{names_inside, pattern_names}
use Rattle.typing.specs.Contexts.{local, Context, Plain as PlainType, plain_int, plain_bool, plain_sym, plain_unit, plain_function, Enters, enters_plain, enters_data, enters_later, Absent, absent_none, absent_more, BindsAll, binds_none, binds_name, binds_skipped, join}
use Rattle.typing.specs.Judgement as rule
use Rattle.typing.specs.Judgement.{PatternFits, fits_any, fits_constructor, Typed, TypedRow, TypedEach, TypedBindings, TypedBranches}
use Rattle.typing.specs.Types.{Ty, int, bool, sym as sym_type, unit, datum, function, Tys, no_types, and_type, count, types_of, type_of_basis, basis_types, signature, annotation_of, declared, basis_or_define, function_type}
use Rattle.rules.specs.declared.fault.FaultKind.{FaultKind}
use Rattle.rules.specs.declared.fault.FaultKind.TheVariants.{NoBranch, ZeroDivisor, BadShift, TooFewCells, StackFull, Stuck, AllowanceSpent}
use Rattle.rules.specs.States.{full, empty, argument, Environment, Target, builds, calls, Frame, if_test, if_arm, begin_part, let_binding, scope_end, case_test, head_value, next_argument, body_value, main_value, opened, enter, finished, over, Account, State, st}
use Rattle.rules.specs.Steps.{Outcome, goes, fails, stuck, Sizes, needs, Looked, got, absent, left, behind, look, Taken, took, more_by_one, take_arguments, Bound, binds, giving, bind_parts, leave_names, plain_of, and_plain, plains_of, fault_kind, is_constructor, rules, waits, build, answer, call_plain, call_basis, enter_body, call_define, call_number, apply, proceed, bind_next, val_entered, enter_global, enter_name, dup_entered, enter_construct, is_local, enter_named, enter_apply, enter_expr, test_handed, part_handed, enter_branch, try_branch, select_branch, tested_handed, head_handed, hand_end, hand, main_called, step}
use Rattle.rules.proofs.Advances.{OutcomeHas, Going, going_opened, going_enter, going_finished}
use Rattle.rules.proofs.Alike.{Alike, alike_none, alike_more, alike_sym, alike_trans, alike, alike_branches, behind_pattern, behind_then}
use Rattle.rules.proofs.Checked.{DefineOk, ValOk, ScriptOk, MainOk}

abbrev pub Unstuck : FaultKind → Type 0
Unstuck NoBranch = Unit {0}
Unstuck ZeroDivisor = Unit {0}
Unstuck BadShift = Unit {0}
Unstuck TooFewCells = Unit {0}
Unstuck StackFull = Unit {0}
Unstuck Stuck = ⊥
Unstuck AllowanceSpent = Unit {0}

-- Where names and arguments handed over lie among the entries: none for a name, an argument by its type. An expression leaves it as
-- it was, so that the judgement need not know of arguments.
abbrev Placement : Type 0
Placement = List (Option Ty)

-- n names in front
abbrev names : ℕ → Placement → Placement
names zero s = s
names (suc n) s = None ∷ names n s

-- arguments in front, the first of them below the others
abbrev hold : Tys → Placement → Placement
hold no_types s = s
hold (and_type τ τs) s = hold τs (Some τ ∷ s)

names_more : (n : ℕ) (s : Placement) → names n (None ∷ s) ≡ names (suc n) s
names_more zero s = refl
names_more (suc n) s = ap (λ (t : Placement). None ∷ t) (names_more n s)

module _ (P : Program) (V : List Ty) where
  mutual
    pub data Has : Tree → Ty → Type 0 where
      has_int : {z : ℤ} → Has (value.int z) int
      has_bool : {b : Bool} → Has (value.bool b) bool
      has_sym : {n : ℕ} → Has (value.symbol n) sym_type
      has_unit : Has value.unit unit
      has_function : {n : ℕ} {τs : Tys} {τ : Ty} → function_type P n ≡ Some (function τs τ) → Has (value.function n) (function τs τ)
      has_data : {c d : ℕ} {k : Variant} {vs : Trees} {τs : Tys} → slice_get P.variants c ≡ Some k → k.datatype ≡ d → types_of P k.fields ≡ τs → HasAll vs τs → Has (built c vs) (datum d)

    pub data HasAll : Trees → Tys → Type 0 where
      has_none : HasAll none no_types
      has_more : {v : Tree} {vs : Trees} {τ : Ty} {τs : Tys} → Has v τ → HasAll vs τs → HasAll (more v vs) (and_type τ τs)

  -- the entries, by where they lie and by the names in scope: a name that may be consumed may still be full
  pub data Filled : Placement → Context → Environment → Type 0 where
    filled_none : Filled [] [] []
    filled_full : {s : Placement} {x : Name} {τ : Ty} {b : Bool} {v : Tree} {Γ : Context} {env : Environment} → Has v τ → Filled s Γ env → Filled (None ∷ s) (local x τ b ∷ Γ) (full x v ∷ env)
    filled_empty : {s : Placement} {x : Name} {τ : Ty} {Γ : Context} {env : Environment} → Filled s Γ env → Filled (None ∷ s) (local x τ true ∷ Γ) (empty x ∷ env)
    filled_argument : {s : Placement} {τ : Ty} {v : Tree} {Γ : Context} {env : Environment} → Has v τ → Filled s Γ env → Filled (Some τ ∷ s) Γ (argument v ∷ env)

  pub record Weaker (s : Placement) (Γ Γ' : Context) : Type 0 where
    pub keeps : (env : Environment) → Filled s Γ env → Filled s Γ' env

  pub data TargetOk : Target → Tys → Ty → Type 0 where
    ok_builds : {c d : ℕ} {k : Variant} {τs : Tys} → slice_get P.variants c ≡ Some k → k.datatype ≡ d → types_of P k.fields ≡ τs → TargetOk (builds c) τs (datum d)
    ok_calls : {n : ℕ} {τs : Tys} {τ : Ty} → function_type P n ≡ Some (function τs τ) → TargetOk (calls n) τs τ

  -- these expressions wait for a value of the type, where the entries lie so and the names are these
  pub data Waiting : Placement → Context → Ty → List Frame → Type 0 where
    wait_test : {p : ℕ} {s : Placement} {Γ Γ₁ Γ₂ Γ' : Context} {a b : Expr} {ρ : Ty} {K : List Frame}
        → Typed P V Γ a ρ Γ₁ → Typed P V Γ b ρ Γ₂ → Γ' ≡ join Γ₁ Γ₂ → Waiting s Γ' ρ K → Waiting s Γ bool (if_test p a b ∷ K)
    wait_arm : {p : ℕ} {s : Placement} {Γ Γ' : Context} {τ : Ty} {K : List Frame} → Weaker s Γ Γ' → Waiting s Γ' τ K → Waiting s Γ τ (if_arm p ∷ K)
    wait_part : {p : ℕ} {s : Placement} {Γ Γ' : Context} {es : Exprs} {σ ρ : Ty} {K : List Frame} → TypedRow P V Γ σ es ρ Γ' → Waiting s Γ' ρ K → Waiting s Γ σ (begin_part p es ∷ K)
    wait_binding : {p n : ℕ} {s s₀ : Placement} {Γ Γ₁ Γ₂ Γ' : Context} {x : Ident} {bs : Bindings} {e : Expr} {σ ρ : Ty} {K : List Frame} (m : ℕ)
        → TypedBindings P V (local x.bytes σ false ∷ Γ) bs Γ₁ → Typed P V Γ₁ e ρ Γ₂ → Γ' ≡ drop n Γ₂ → s ≡ names m s₀ → binding_count bs + suc m ≡ n → Waiting s₀ Γ' ρ K
        → Waiting s Γ σ (let_binding p x bs e n ∷ K)
    wait_end : {p n : ℕ} {s s₀ : Placement} {Γ Γ₁ Γ' : Context} {τ : Ty} {K : List Frame}
        → s ≡ names n s₀ → Γ₁ ≡ drop n Γ → Weaker s₀ Γ₁ Γ' → Waiting s₀ Γ' τ K → Waiting s Γ τ (scope_end p n ∷ K)
    wait_tested : {p d : ℕ} {s : Placement} {Γ Γ' : Context} {bs : Branches} {ρ : Ty} {K : List Frame} → TypedBranches P V Γ d bs ρ Γ' → Waiting s Γ' ρ K → Waiting s Γ (datum d) (case_test p bs ∷ K)
    wait_head : {p : ℕ} {s : Placement} {Γ Γ' : Context} {es : Exprs} {τs : Tys} {ρ : Ty} {K : List Frame}
        → TypedEach P V Γ es τs Γ' → Waiting s Γ' ρ K → Waiting s Γ (function τs ρ) (head_value p es ∷ K)
    wait_argument : {p k : ℕ} {s s₀ : Placement} {Γ Γ' : Context} {t : Target} {es : Exprs} {τs τs' : Tys} {σ ρ : Ty} {K : List Frame}
        → TargetOk t τs ρ → TypedEach P V Γ es τs' Γ' → hold τs' (Some σ ∷ s) ≡ hold τs s₀ → k + 1 + count τs' ≡ count τs → Waiting s₀ Γ' ρ K → Waiting s Γ σ (next_argument p t k es ∷ K)
    wait_body : {p : ℕ} {s s' : Placement} {Γ Γ' : Context} {τ : Ty} {kept : Environment} {K : List Frame} → Filled s' Γ' kept → Waiting s' Γ' τ K → Waiting s Γ τ (body_value p kept ∷ K)
    wait_main : {p : ℕ} {s : Placement} {Γ : Context} {τ : Ty} {K : List Frame} → Waiting s Γ τ (main_value p ∷ K)

  pub data Sound : State → Type 0 where
    sound_opened : {a : Account} → Sound (st [] [] opened a)
    sound_enter : {s : Placement} {Γ Γ' : Context} {e : Expr} {τ : Ty} {K : List Frame} {env : Environment} {a : Account} → Filled s Γ env → Typed P V Γ e τ Γ' → Waiting s Γ' τ K → Sound (st K env (enter e) a)
    sound_finished : {s : Placement} {Γ : Context} {v : Tree} {τ : Ty} {K : List Frame} {env : Environment} {a : Account} → Has v τ → Filled s Γ env → Waiting s Γ τ K → Sound (st K env (finished v) a)
    sound_over : {K : List Frame} {env : Environment} {a : Account} → Sound (st K env over a)

  abbrev pub Good : Outcome → Type 0
  Good o = OutcomeHas Sound Unstuck o

  -- A name that is entered or dupped.
  data LookedOk (s : Placement) (Γ : Context) (τ : Ty) : Looked → Type 0 where
    looked_ok : {v : Tree} {env : Environment} → Has v τ → Filled s Γ env → LookedOk s Γ τ (got v env)

  behind_full : {s : Placement} {Γ : Context} {τ σ : Ty} {x : Name} {b : Bool} {v : Tree} {l : Looked} → Has v σ → LookedOk s Γ τ l → LookedOk (None ∷ s) (local x σ b ∷ Γ) τ (behind (full x v) l)
  behind_full w (looked_ok u r) = looked_ok u (filled_full w r)

  behind_empty : {s : Placement} {Γ : Context} {τ σ : Ty} {x : Name} {l : Looked} → LookedOk s Γ τ l → LookedOk (None ∷ s) (local x σ true ∷ Γ) τ (behind (empty x) l)
  behind_empty (looked_ok u r) = looked_ok u (filled_empty r)

  behind_argument : {s : Placement} {Γ : Context} {τ σ : Ty} {v : Tree} {l : Looked} → Has v σ → LookedOk s Γ τ l → LookedOk (Some σ ∷ s) Γ τ (behind (argument v) l)
  behind_argument w (looked_ok u r) = looked_ok u (filled_argument w r)

  left_plain : {s : Placement} {Γ : Context} {env : Environment} {x : Name} {τ : Ty} {v : Tree} → PlainType τ → Has v τ → Filled s Γ env → Filled (None ∷ s) (local x τ false ∷ Γ) (left x v ∷ env)
  left_plain plain_int has_int r = filled_full has_int r
  left_plain plain_bool has_bool r = filled_full has_bool r
  left_plain plain_sym has_sym r = filled_full has_sym r
  left_plain plain_unit has_unit r = filled_full has_unit r
  left_plain plain_function (has_function f) r = filled_full (has_function f) r

  left_data : {s : Placement} {Γ : Context} {env : Environment} {x : Name} {d : ℕ} {v : Tree} → Has v (datum d) → Filled s Γ env → Filled (None ∷ s) (local x (datum d) true ∷ Γ) (left x v ∷ env)
  left_data (has_data a b c h) r = filled_empty r

  look_ok : {w : Name} {s : Placement} {Γ Γ' : Context} {τ : Ty} {env : Environment} → Enters w Γ τ Γ' → Filled s Γ env → LookedOk s Γ' τ (look w env)
  look_ok (enters_plain e p) (filled_full w r) = rw e (looked_ok w (left_plain p w r))
  look_ok (enters_data e) (filled_full w r) = rw e (looked_ok w (left_data w r))
  look_ok (enters_later e u) (filled_full w r) = rw e (behind_full w (look_ok u r))
  look_ok (enters_later e u) (filled_empty r) = rw e (behind_empty (look_ok u r))
  look_ok (enters_plain e p) (filled_argument w r) = behind_argument w (look_ok (enters_plain e p) r)
  look_ok (enters_data e) (filled_argument w r) = behind_argument w (look_ok (enters_data e) r)
  look_ok (enters_later e u) (filled_argument w r) = behind_argument w (look_ok (enters_later e u) r)

  look_absent : {w : Name} {s : Placement} {Γ : Context} {env : Environment} → Absent w Γ → Filled s Γ env → look w env ≡ absent
  look_absent absent_none filled_none = refl
  look_absent absent_none (filled_argument w r) = ap (behind _) (look_absent absent_none r)
  look_absent (absent_more e h) (filled_full w r) = rw e (ap (behind _) (look_absent h r))
  look_absent (absent_more e h) (filled_empty r) = rw e (ap (behind _) (look_absent h r))
  look_absent (absent_more e h) (filled_argument w r) = ap (behind _) (look_absent (absent_more e h) r)

  -- What holds after one arm holds after both.
  join_left : {s : Placement} {Γ Δ : Context} {env : Environment} → Alike Γ Δ → Filled s Γ env → Filled s (join Γ Δ) env
  join_left alike_none r = r
  join_left (alike_more {a = true} h) (filled_full w r) = filled_full w (join_left h r)
  join_left (alike_more {a = false} h) (filled_full w r) = filled_full w (join_left h r)
  join_left (alike_more h) (filled_empty r) = filled_empty (join_left h r)
  join_left (alike_more h) (filled_argument w r) = filled_argument w (join_left (alike_more h) r)

  join_right : {s : Placement} {Γ Δ : Context} {env : Environment} → Alike Γ Δ → Filled s Δ env → Filled s (join Γ Δ) env
  join_right alike_none r = r
  join_right (alike_more h) (filled_full w r) = filled_full w (join_right h r)
  join_right (alike_more {a = true} h) (filled_empty r) = filled_empty (join_right h r)
  join_right (alike_more {a = false} h) (filled_empty r) = filled_empty (join_right h r)
  join_right (alike_more h) (filled_argument w r) = filled_argument w (join_right (alike_more h) r)

  same : (s : Placement) (Γ : Context) → Weaker s Γ Γ
  same s Γ = record { keeps = λ env r. r }

  weaker_left : {s : Placement} {Γ Δ Θ Γ' : Context} → Alike Γ Δ → Θ ≡ join Γ Δ → Weaker s Θ Γ' → Weaker s Γ Γ'
  weaker_left {s} h e f = record { keeps = λ env r. f.keeps env (subst (λ (Θ : Context). Filled s Θ env) (sym e) (join_left h r)) }

  weaker_right : {s : Placement} {Γ Δ Θ Γ' : Context} → Alike Γ Δ → Θ ≡ join Γ Δ → Weaker s Θ Γ' → Weaker s Δ Γ'
  weaker_right {s} h e f = record { keeps = λ env r. f.keeps env (subst (λ (Θ : Context). Filled s Θ env) (sym e) (join_right h r)) }

  -- Arguments that are taken, names that are bound and names that leave.
  data TakenOk (τs : Tys) (s : Placement) (Γ : Context) : Taken → Type 0 where
    taken_ok : {vs : Trees} {env : Environment} → HasAll vs τs → Filled s Γ env → TakenOk τs s Γ (took vs env)

  one_more_ok : {τ : Ty} {τs : Tys} {s : Placement} {Γ : Context} {t : Taken} → TakenOk τs (Some τ ∷ s) Γ t → TakenOk (and_type τ τs) s Γ (more_by_one t)
  one_more_ok (taken_ok ws (filled_argument w r)) = taken_ok (has_more w ws) r

  take_ok : (τs : Tys) {s : Placement} {Γ : Context} {env : Environment} (k : ℕ) → k ≡ count τs → Filled (hold τs s) Γ env → TakenOk τs s Γ (take_arguments k env)
  take_ok no_types zero e r = taken_ok has_none r
  take_ok no_types (suc k) e r = absurd (omega arith)
  take_ok (and_type τ τs) zero e r = absurd (omega arith)
  take_ok (and_type τ τs) (suc k) e r = one_more_ok (take_ok τs k (omega arith) r)

  data BoundOk (s : Placement) (Γ : Context) : Bound → Type 0 where
    bound_ok : {env : Environment} {n : ℕ} → Filled s Γ env → BoundOk s Γ (binds env n)

  giving_ok : {s : Placement} {Γ : Context} {b : Bound} (n : ℕ) → BoundOk s Γ b → BoundOk s Γ (giving n b)
  giving_ok n (bound_ok r) = bound_ok r

  bound_more : (n : ℕ) (s : Placement) (Γ : Context) (b : Bound) → BoundOk (names n (None ∷ s)) Γ b → BoundOk (names (suc n) s) Γ b
  bound_more n s Γ b h = subst (λ (s : Placement). BoundOk s Γ b) (names_more n s) h

  bind_ok : {xs : List PatternPart} {τs : Tys} {Γ Γ' : Context} {vs : Trees} {s : Placement} {env : Environment} (n : ℕ) → names_inside xs ≡ n → BindsAll P xs τs Γ Γ' → HasAll vs τs → Filled s Γ env
      → BoundOk (names n s) Γ' (bind_parts xs vs env)
  bind_ok zero e binds_none has_none r = bound_ok r
  bind_ok (suc n) e binds_none has_none r = absurd (omega arith)
  bind_ok zero e (binds_name f b) (has_more w ws) r = absurd (omega arith)
  bind_ok {Γ' = Γ'} {s = s} (suc n) e (binds_name f b) (has_more w ws) r = bound_more n s Γ' _ (bind_ok n (omega arith) b ws (filled_full w r))
  bind_ok n e (binds_skipped b) (has_more w ws) r = giving_ok _ (bind_ok n e b ws r)

  leave_ok : (n : ℕ) {s : Placement} {Γ : Context} {env : Environment} → Filled (names n s) Γ env → BoundOk s (drop n Γ) (leave_names n env)
  leave_ok zero r = bound_ok r
  leave_ok (suc n) (filled_full w r) = giving_ok _ (leave_ok n r)
  leave_ok (suc n) (filled_empty r) = leave_ok n r

  -- Plain values, as the basis takes them.
  data PlainOk (t : BasisType) : Option Plain → Type 0 where
    plain_ok : {v : Plain} → laws.type_of v ≡ t → PlainOk t (Some v)

  data PlainsOk (ts : List BasisType) : Option (List Plain) → Type 0 where
    plains_ok : {vs : List Plain} → map laws.type_of vs ≡ ts → PlainsOk ts (Some vs)

  plain_of_law : (t : BasisType) {v : Tree} → Has v (type_of_basis t) → PlainOk t (plain_of v)
  plain_of_law basis.Int has_int = plain_ok refl
  plain_of_law basis.Bool has_bool = plain_ok refl
  plain_of_law basis.Sym has_sym = plain_ok refl
  plain_of_law basis.Unit has_unit = plain_ok refl

  and_plains : {t : BasisType} {ts : List BasisType} {v : Option Plain} {vs : Option (List Plain)} → PlainOk t v → PlainsOk ts vs → PlainsOk (t ∷ ts) (and_plain v vs)
  and_plains (plain_ok e) (plains_ok f) = plains_ok (cc)

  plains_of_rule : (ts : List BasisType) {vs : Trees} → HasAll vs (basis_types ts) → PlainsOk ts (plains_of vs)
  plains_of_rule [] has_none = plains_ok refl
  plains_of_rule (t ∷ ts) (has_more w ws) = and_plains (plain_of_law t w) (plains_of_rule ts ws)

  needs_good : (kind : FaultKind) (b : Bool) (o : Outcome) → Unstuck kind → Good o → Good (needs kind b o)
  needs_good kind true (goes bytes s) u h = h
  needs_good kind false (goes bytes s) u h = u
  needs_good kind true (fails k f) u h = h
  needs_good kind false (fails k f) u h = u
  needs_good kind b stuck u h = h

  cond_good : (b : Bool) (x y : Outcome) → (So b → Good x) → Good y → Good (cond b x y)
  cond_good true x y f h = f tt
  cond_good false x y f h = h

  arithmetic_unstuck : (e : ArithmeticFault) → Unstuck (fault_kind e)
  arithmetic_unstuck arithmetic.ZeroDivisor = tt
  arithmetic_unstuck arithmetic.BadShift = tt

  module _ (ok : ScriptOk P V) (Z : Sizes) (p : ℕ) (a : Account) where
    waits_good : {s : Placement} {Γ Γ' : Context} {e : Expr} {τ : Ty} {f : Frame} {K : List Frame} {env : Environment} → Filled s Γ env → Typed P V Γ e τ Γ' → Waiting s Γ' τ (f ∷ K) → Good (waits P Z f e K env a)
    unfolding rules
    waits_good r t k = needs_good StackFull _ (goes [] (st _ _ (enter _) a)) tt (sound_enter r t k)

    dup_good : {s : Placement} {Γ Γ' : Context} {τ : Ty} {K : List Frame} {env : Environment} {l : Looked} → LookedOk s Γ' τ l → Filled s Γ env → Waiting s Γ τ K → Good (dup_entered P Z K env a l)
    unfolding rules
    dup_good (looked_ok w r') r k = needs_good TooFewCells _ (goes [] (st _ _ (finished _) _)) tt (sound_finished w r k)

    build_good : (c : ℕ) {v : Variant} {d : ℕ} {τs : Tys} {s : Placement} {Γ : Context} {K : List Frame} (all : Environment) {t : Taken} → slice_get P.variants c ≡ Some v → v.datatype ≡ d → types_of P v.fields ≡ τs
        → TakenOk τs s Γ t → Waiting s Γ (datum d) K → Good (build P Z c K all a t)
    unfolding rules
    build_good c all e q f (taken_ok ws r) k = needs_good TooFewCells _ (goes [] (st _ _ (finished _) _)) tt (sound_finished (has_data e q f ws) r k)

    answer_is_good : (f : Basis) (t : BasisType) (x : Applied) {s : Placement} {Γ : Context} {K : List Frame} {env : Environment} → Gives t x → Filled s Γ env → Waiting s Γ (type_of_basis t) K → Good (answer P Z f K env a x)
    unfolding rules
    answer_is_good f t (applied.Int z) {s} {Γ} {K} g r k = sound_finished has_int r (subst (λ (t : BasisType). Waiting s Γ (type_of_basis t) K) g k)
    answer_is_good f t (applied.Bool b) {s} {Γ} {K} g r k = sound_finished has_bool r (subst (λ (t : BasisType). Waiting s Γ (type_of_basis t) K) g k)
    answer_is_good f t (applied.Prints q) {s} {Γ} {K} g r k = sound_finished has_unit r (subst (λ (t : BasisType). Waiting s Γ (type_of_basis t) K) g k)
    answer_is_good f t applied.Reads {s} {Γ} {K} g r k = sound_finished has_int r (subst (λ (t : BasisType). Waiting s Γ (type_of_basis t) K) g k)
    answer_is_good f t (applied.Faults e) g r k = arithmetic_unstuck e
    answer_is_good f t applied.Mismatch g r k = absurd g

    plain_good : (f : Basis) {o : Option (List Plain)} {s : Placement} {Γ : Context} {K : List Frame} {env : Environment} → PlainsOk (listed (parameter_types f)) o → Filled s Γ env → Waiting s Γ (type_of_basis (result_of f)) K
        → Good (call_plain P Z f K env a o)
    unfolding rules
    plain_good f (plains_ok {vs = vs} e) r k = answer_is_good f (result_of f) (basis_calls.applied f vs) (basis_gives f vs e) r k

    basis_good : (f : Basis) {τs : Tys} {τ : Ty} {s : Placement} {Γ : Context} {K : List Frame} {t : Taken} → signature f ≡ function τs τ → TakenOk τs s Γ t → Waiting s Γ τ K → Good (call_basis P Z f K a t)
    unfolding rules
    basis_good f {τs} {τ} {s} {Γ} {K} e (taken_ok {vs = vs} ws r) k =
        let eτs : τs ≡ basis_types (listed (parameter_types f)) = cc in
        let eτ : τ ≡ type_of_basis (result_of f) = cc in
        plain_good f (plains_of_rule (listed (parameter_types f)) (subst (HasAll vs) eτs ws)) r (subst (λ (τ : Ty). Waiting s Γ τ K) eτ k)

    body_good : {e : Expr} {τ : Ty} {s s₀ : Placement} {Γ Γ' Γ₀ : Context} {K : List Frame} {env : Environment} {b : Bound} → BoundOk s Γ b → Typed P V Γ e τ Γ' → Filled s₀ Γ₀ env → Waiting s₀ Γ₀ τ K → Good (enter_body P Z p e K env a b)
    unfolding rules
    body_good (bound_ok i) t r k = sound_enter i t (wait_body r k)

    define_good : {d : Define} (o : DefineOk P V d) {s : Placement} {Γ : Context} {K : List Frame} {t : Taken} → TakenOk o.parameters s Γ t → Waiting s Γ o.result K → Good (call_define P Z p d K a t)
    unfolding rules
    define_good o (taken_ok ws r) k = body_good (bind_ok _ refl o.opens ws filled_none) o.typed r k

    -- a define with the number has the type that its annotation says
    define_typed : (d : Define) {τs : Tys} {τ : Ty} (i : ℕ) {s : Placement} {Γ : Context} {K : List Frame} {t : Taken} → slice_get P.defines i ≡ Some d → annotation_of P d.name.bytes ≡ Some (function τs τ)
        → TakenOk τs s Γ t → Waiting s Γ τ K → Good (call_define P Z p d K a t)
    define_typed d {τs} {τ} i {s} {Γ} {K} {t} there e w k =
        let o = ok.defines i d there in
        let eτs : τs ≡ o.parameters = cc (e, o.annotation) in
        let eτ : τ ≡ o.result = cc (e, o.annotation) in
        define_good o (subst (λ (τs : Tys). TakenOk τs s Γ t) eτs w) (subst (λ (τ : Ty). Waiting s Γ τ K) eτ k)

    number_good : (n k : ℕ) (env : Environment) (o : Option Basis) (d : Option Define) {τs : Tys} {τ : Ty} {s : Placement} {Γ : Context} {K : List Frame}
        → basis_or_define P n o ≡ Some (function τs τ) → slice_get P.defines (n - basis_count) ≡ d → TakenOk τs s Γ (take_arguments k env) → Waiting s Γ τ K → Good (call_number P Z p n k K env a o d)
    unfolding rules
    number_good n k env (Some f) d {τs} {τ} e there w q = let same : signature f ≡ function τs τ = cc in basis_good f same w q
    number_good n k env None (Some d) e there w q = define_typed d (n - basis_count) there (ap (declared P) (sym there) ∙ e) w q
    number_good n k env None None e there w q =
        let e' = ap (declared P) (sym there) ∙ e in
        let z : ◌≡◌ {A = ℕ} 0 1 = cc in absurd (omega arith)

    apply_good : {t : Target} {τs : Tys} {τ : Ty} {s : Placement} {Γ : Context} {K : List Frame} {env : Environment} (k : ℕ) → k ≡ count τs → TargetOk t τs τ → Filled (hold τs s) Γ env → Waiting s Γ τ K
        → Good (apply P Z p t k K env a)
    unfolding rules
    apply_good {τs = τs} {env = env} k e (ok_builds {c = c} v q f) r w = build_good c env v q f (take_ok τs k e r) w
    apply_good {τs = τs} {env = env} k e (ok_calls {n = n} f) r w = number_good n k env (numbered n) (slice_get P.defines (n - basis_count)) f refl (take_ok τs k e r) w

    proceed_good : {t : Target} {es : Exprs} {τs τs' : Tys} {τ : Ty} {s s₀ : Placement} {Γ Γ' : Context} {K : List Frame} {env : Environment} (k : ℕ) → k + count τs' ≡ count τs → hold τs' s ≡ hold τs s₀
        → TargetOk t τs τ → TypedEach P V Γ es τs' Γ' → Filled s Γ env → Waiting s₀ Γ' τ K → Good (proceed P Z p t k es K env a)
    unfolding rules
    proceed_good {Γ = Γ} {env = env} k e h t rule.each_none r w = apply_good k (omega arith) t (subst (λ (s : Placement). Filled s Γ env) h r) w
    proceed_good k e h t (rule.each_more x xs) r w = sound_enter r x (wait_argument t xs h (omega arith) w)

    head_good : {v : Tree} {es : Exprs} {τs : Tys} {τ : Ty} {s : Placement} {Γ Γ' : Context} {K : List Frame} {env : Environment} → Has v (function τs τ) → TypedEach P V Γ es τs Γ' → Filled s Γ env → Waiting s Γ' τ K
        → Good (head_handed P Z p es K env a v)
    unfolding rules
    head_good (has_function {n = n} f) xs r w = proceed_good 0 (omega arith) refl (ok_calls {n = n} f) xs r w

    bind_good : {bs : Bindings} {e : Expr} {τ : Ty} {s s₀ : Placement} {Γ Γ₁ Γ₂ Γ' : Context} {K : List Frame} {env : Environment} (n m : ℕ) → TypedBindings P V Γ bs Γ₁ → Typed P V Γ₁ e τ Γ₂ → Γ' ≡ drop n Γ₂
        → s ≡ names m s₀ → binding_count bs + m ≡ n → Filled s Γ env → Waiting s₀ Γ' τ K → Good (bind_next P Z p bs e n K env a)
    unfolding rules
    bind_good {s₀ = s₀} n m rule.bindings_none t d h e r w = let e' : m ≡ n = omega arith in sound_enter r t (wait_end (h ∙ ap (λ (m : ℕ). names m s₀) e') d (same _ _) w)
    bind_good n m (rule.bindings_more x f xs) t d h e r w = sound_enter r x (wait_binding m xs t d h (omega arith) w)

    val_good : {o : Option Val} {τ : Ty} {s : Placement} {Γ : Context} {K : List Frame} {env : Environment} → ValOk P V o τ → Filled s Γ env → Waiting s Γ τ K → Good (val_entered P Z p K env a o)
    unfolding rules
    val_good {K = K} {env = env} v r w = subst (λ (o : Option Val). Good (val_entered P Z p K env a o)) (sym v.here) (waits_good filled_none v.typed (wait_body r w))

    -- the names that an if chooses between
    test_good : {v : Tree} {x y : Expr} {ρ : Ty} {s : Placement} {Γ Γ₁ Γ₂ Γ' : Context} {K : List Frame} {env : Environment} → Has v bool → Typed P V Γ x ρ Γ₁ → Typed P V Γ y ρ Γ₂ → Γ' ≡ join Γ₁ Γ₂
        → Filled s Γ env → Waiting s Γ' ρ K → Good (test_handed P Z p x y K env a v)
    unfolding rules
    test_good (has_bool {b = true}) x y e r w = sound_enter r x (wait_arm (weaker_left (alike_trans (alike_sym (alike P V x)) (alike P V y)) e (same _ _)) w)
    test_good (has_bool {b = false}) x y e r w = sound_enter r y (wait_arm (weaker_right (alike_trans (alike_sym (alike P V x)) (alike P V y)) e (same _ _)) w)

    part_good : {v : Tree} {es : Exprs} {σ τ : Ty} {s : Placement} {Γ Γ' : Context} {K : List Frame} {env : Environment} → Has v σ → TypedRow P V Γ σ es τ Γ' → Filled s Γ env → Waiting s Γ' τ K → Good (part_handed P Z p es K env a v)
    unfolding rules
    part_good v rule.row_last r w = sound_finished v r w
    part_good v (rule.row_more x xs) r w = sound_enter r x (wait_part xs w)

    branch_good : {e : Expr} {ρ : Ty} {s s₀ : Placement} {Γ Γ₁ Γ' : Context} {K : List Frame} (env : Environment) {b : Bound} (n : ℕ) → s ≡ names n s₀ → BoundOk s Γ b → Typed P V Γ e ρ Γ₁ → Weaker s₀ (drop n Γ₁) Γ' → Waiting s₀ Γ' ρ K
        → Good (enter_branch P Z p n e K env a b)
    unfolding rules
    branch_good env n h (bound_ok r) t f w = needs_good StackFull _ (goes [] (st _ _ (enter _) _)) tt (sound_enter r t (wait_end h refl f w))

    end_good : {v : Tree} {τ : Ty} {s : Placement} {Γ Γ' : Context} {K : List Frame} {b : Bound} → Has v τ → BoundOk s Γ b → Weaker s Γ Γ' → Waiting s Γ' τ K → Good (hand_end P Z K a v b)
    unfolding rules
    end_good v (bound_ok r) f w = sound_finished v (f.keeps _ r) w

    -- branches: the first that fits
    module _ (c : ℕ) {v : Variant} {vs : Trees} (there : slice_get P.variants c ≡ Some v) (fields : HasAll vs (types_of P v.fields)) where
      try_good : {d : ℕ} {x : Pattern} {e : Expr} {ρ : Ty} {s : Placement} {Γ Γ₁ Γ₂ Γ' : Context} {K : List Frame} {env : Environment} (other : Outcome) → PatternFits P d x Γ Γ₁ → Typed P V Γ₁ e ρ Γ₂
          → Weaker s (drop (pattern_names x) Γ₂) Γ' → Filled s Γ env → Waiting s Γ' ρ K → Good other → Good (try_branch P Z p x e c vs K env a other)
      unfolding rules
      try_good other fits_any t f r w o = sound_enter r t (wait_end refl refl f w)
      try_good {e = e} {K = K} {env = env} other (fits_constructor {k = l} {c = k} {xs = xs} {v = u} h g n q b) t f r w o =
          cond_good (is_constructor c (global_of P k.bytes)) (enter_branch P Z p (names_inside xs) e K env a (giving (cost vs) (bind_parts xs vs env))) other
          (λ fits.
          let at : c ≡ l = eqb→eq c l (subst So (ap (is_constructor c) g) fits) in
          let same_variant : v ≡ u = cc in
          branch_good env (names_inside xs) refl (giving_ok (cost vs) (bind_ok (names_inside xs) refl b (subst (λ (v : Variant). HasAll vs (types_of P v.fields)) same_variant fields) r)) t f w)
          o

      select_good : {d : ℕ} {bs : Branches} {ρ : Ty} {s : Placement} {Γ Γ₁ Γ' : Context} {K : List Frame} {env : Environment} → TypedBranches P V Γ d bs ρ Γ₁ → Weaker s Γ₁ Γ' → Filled s Γ env → Waiting s Γ' ρ K
          → Good (select_branch P Z p bs c vs K env a)
      unfolding rules
      select_good {s = s} {Γ' = Γ'} (rule.branches_last x t e) f r w = try_good (fails NoBranch None) x t (subst (λ (Γ : Context). Weaker s Γ Γ') e f) r w tt
      select_good {K = K} {env = env} (rule.branches_more {bs = bs} x t xs e) f r w =
          let h = alike_trans (alike_sym (behind_then (behind_pattern x) (alike P V t))) (alike_branches P V xs) in
          try_good (select_branch P Z p bs c vs K env a) x t (weaker_left h e f) r w (select_good xs (weaker_right h e f) r w)

    tested_good : {v : Tree} {d : ℕ} {bs : Branches} {ρ : Ty} {s : Placement} {Γ Γ' : Context} {K : List Frame} {env : Environment} → Has v (datum d) → TypedBranches P V Γ d bs ρ Γ' → Filled s Γ env → Waiting s Γ' ρ K
        → Good (tested_handed P Z p bs K env a v)
    unfolding rules
    tested_good (has_data {c = c} {vs = vs} e q f ws) bs r w = select_good c e (subst (HasAll vs) (sym f) ws) bs (same _ _) r w

    -- an application
    construct_good : (c : ℕ) {d : ℕ} {v : Variant} {es : Exprs} {τs : Tys} {s : Placement} {Γ Γ' : Context} {K : List Frame} {env : Environment} → slice_get P.variants c ≡ Some v → v.datatype ≡ d → types_of P v.fields ≡ τs
        → TypedEach P V Γ es τs Γ' → Filled s Γ env → Waiting s Γ' (datum d) K → Good (enter_construct P Z p c es K env a)
    unfolding rules
    construct_good c {env = env} e q f rule.each_none r w = build_good c env e q f (taken_ok has_none r) w
    construct_good c e q f (rule.each_more x xs) r w = waits_good r x (wait_argument (ok_builds {c = c} e q f) xs refl (omega arith) w)

    module _ (es : Exprs) (K : List Frame) where
      local_good : {s : Placement} {Γ : Context} {τ : Ty} {l : Looked} (x y : Outcome) → LookedOk s Γ τ l → Good x → Good (cond (is_local P Z l) x y)
      unfolding rules
      local_good x y (looked_ok w r) h = h

      named_good : (q : ℕ) {w : Name} {s : Placement} {Γ : Context} {env : Environment} (g : Global) → Absent w Γ → global_of P w ≡ g → Filled s Γ env
          → Good (enter_named P Z p (tree.name q w) es K env a g) → Good (enter_apply P Z p (tree.name q w) es K env a)
      unfolding rules
      named_good q {w} {env = env} g h e r o =
          subst (λ (l : Looked). Good (cond (is_local P Z l) (waits P Z (head_value p es) (tree.name q w) K env a) (enter_named P Z p (tree.name q w) es K env a (global_of P w)))) (sym (look_absent h r))
          (subst (λ (g : Global). Good (enter_named P Z p (tree.name q w) es K env a g)) (sym e) o)

      -- a head that is no constructor is entered
      enters_head : {x : Expr} {σ : Ty} {s : Placement} {Γ Γ₁ : Context} {env : Environment} → Typed P V Γ x σ Γ₁ → Filled s Γ env → Good (waits P Z (head_value p es) x K env a) → Good (enter_apply P Z p x es K env a)
      unfolding rules
      enters_head rule.integer r o = o
      enters_head rule.symbol r o = o
      enters_head rule.boolean r o = o
      enters_head rule.unit_literal r o = o
      enters_head {env = env} (rule.local_name {p = q} {w = w} h) r o = local_good (waits P Z (head_value p es) (tree.name q w) K env a) (enter_named P Z p (tree.name q w) es K env a (global_of P w)) (look_ok h r) o
      enters_head (rule.function_name {p = q} {n = n} h g t) r o = named_good q (means.function n) h g r o
      enters_head (rule.val_name {p = q} {i = i} h g t) r o = named_good q (means.val i) h g r o
      enters_head (rule.if_expression t x y e) r o = o
      enters_head (rule.begin_expression h t) r o = o
      enters_head (rule.let_expression b h e) r o = o
      enters_head (rule.case_expression h b) r o = o
      enters_head (rule.dup_expression h) r o = o
      enters_head (rule.construct_expression h g n t) r o = o
      enters_head (rule.apply_expression h t) r o = o

    name_good : (w : Name) {τ : Ty} {s : Placement} {Γ : Context} {K : List Frame} (env : Environment) {l : Looked} → LookedOk s Γ τ l → Waiting s Γ τ K → Good (enter_name P Z p w K env a l)
    unfolding rules
    name_good w env (looked_ok v r) k = sound_finished v r k

    global_good : (w : Name) {s : Placement} {Γ : Context} (K : List Frame) {env : Environment} (g : Global) → Absent w Γ → global_of P w ≡ g → Filled s Γ env → Good (enter_global P Z p K env a g)
        → Good (enter_name P Z p w K env a (look w env))
    unfolding rules
    global_good w K {env} g h e r o = subst (λ (l : Looked). Good (enter_name P Z p w K env a l)) (sym (look_absent h r)) (subst (λ (g : Global). Good (enter_global P Z p K env a g)) (sym e) o)

  function_ok : ScriptOk P V → (n : ℕ) (τ : Ty) → function_type P n ≡ Some τ → Has (value.function n) τ
  function_ok ok n τ e = go (numbered n) (slice_get P.defines (n - basis_count)) refl refl
    where
      go : (o : Option Basis) (d : Option Define) → numbered n ≡ o → slice_get P.defines (n - basis_count) ≡ d → Has (value.function n) τ
      go (Some f) d h there =
          let k : signature f ≡ τ = cc (ap (basis_or_define P n) h) in
          subst (Has (value.function n)) k (has_function (ap (basis_or_define P n) h))
      go None (Some d) h there =
          let o = ok.defines (n - basis_count) d there in
          let f : function_type P n ≡ annotation_of P d.name.bytes = ap (basis_or_define P n) h ∙ ap (declared P) there in
          let k : function o.parameters o.result ≡ τ = cc (o.annotation, e, f) in
          subst (Has (value.function n)) k (has_function (f ∙ o.annotation))
      go None None h there =
          let f : function_type P n ≡ None = ap (basis_or_define P n) h ∙ ap (declared P) there in
          let z : ◌≡◌ {A = ℕ} 0 1 = cc in absurd (omega arith)

  module _ (ok : ScriptOk P V) (Z : Sizes) (a : Account) where
    enter_good : {e : Expr} {τ : Ty} {s : Placement} {Γ Γ' : Context} {K : List Frame} {env : Environment} → Typed P V Γ e τ Γ' → Filled s Γ env → Waiting s Γ' τ K → Good (enter_expr P Z K env a e)
    unfolding rules
    enter_good rule.integer r k = sound_finished has_int r k
    enter_good rule.symbol r k = sound_finished has_sym r k
    enter_good rule.boolean r k = sound_finished has_bool r k
    enter_good rule.unit_literal r k = sound_finished has_unit r k
    enter_good {env = env} (rule.local_name {p = p} {w = w} h) r k = name_good ok Z p a w env (look_ok h r) k
    enter_good {K = K} (rule.function_name {p = p} {n = n} {w = w} {τ = τ} h g t) r k = global_good ok Z p a w K (means.function n) h g r (sound_finished (function_ok ok n τ t) r k)
    enter_good {K = K} (rule.val_name {p = p} {i = i} {w = w} {τ = τ} h g t) r k = global_good ok Z p a w K (means.val i) h g r (val_good ok Z p a (ok.vals i τ t) r k)
    enter_good (rule.if_expression {p = p} t x y e) r k = waits_good ok Z p a r t (wait_test x y e k)
    enter_good (rule.begin_expression {p = p} x xs) r k = waits_good ok Z p a r x (wait_part xs k)
    enter_good {K = K} {env = env} (rule.let_expression {p = p} {bs = bs} {e = x} b t e) r k =
        needs_good StackFull _ (bind_next P Z p bs x (binding_count bs) K env a) tt (bind_good ok Z p a (binding_count bs) 0 b t e refl (omega arith) r k)
    enter_good (rule.case_expression {p = p} t bs) r k = waits_good ok Z p a r t (wait_tested bs k)
    enter_good (rule.dup_expression {p = p} h) r k = dup_good ok Z p a (look_ok h r) r k
    enter_good {K = K} (rule.construct_expression {p = p} {q = q} {k = c} {es = es} h g n t) r k = named_good ok Z p a es K q (means.constructor c) h g r (construct_good ok Z p a c n refl refl t r k)
    enter_good {K = K} (rule.apply_expression {p = p} {es = es} x xs) r k = enters_head ok Z p a es K x r (waits_good ok Z p a r x (wait_head xs k))

    hand_good : {v : Tree} {f : Frame} {τ : Ty} {s : Placement} {Γ : Context} {K : List Frame} {env : Environment} → Has v τ → Filled s Γ env → Waiting s Γ τ (f ∷ K) → Good (hand P Z f K env a v)
    unfolding rules
    hand_good v r (wait_test {p = p} x y e k) = test_good ok Z p a v x y e r k
    hand_good v r (wait_arm f k) = sound_finished v (f.keeps _ r) k
    hand_good v r (wait_part {p = p} xs k) = part_good ok Z p a v xs r k
    hand_good {v = v} {K = K} {env = env} w r (wait_binding {p = p} {n = n} {x = x} {bs = bs} {e = e} m xs t d h q k) =
        needs_good StackFull _ (bind_next P Z p bs e n K (full x.bytes v ∷ env) a) tt (bind_good ok Z p a n (suc m) xs t d (ap (λ (s : Placement). None ∷ s) h) q (filled_full w r) k)
    hand_good {Γ = Γ} {env = env} v r (wait_end {p = p} {n = n} {s₀ = s₀} h d f k) = end_good ok Z p a v (subst (λ (Γ : Context). BoundOk s₀ Γ (leave_names n env)) (sym d) (leave_ok n (subst (λ (s : Placement). Filled s Γ env) h r))) f k
    hand_good v r (wait_tested {p = p} bs k) = tested_good ok Z p a v bs r k
    hand_good v r (wait_head {p = p} xs k) = head_good ok Z p a v xs r k
    hand_good {v = v} {K = K} {env = env} w r (wait_argument {p = p} {k = n} {t = t} {es = es} o xs h q k) =
        needs_good StackFull _ (proceed P Z p t (n + 1) es K (argument v ∷ env) a) tt (proceed_good ok Z p a (n + 1) q h o xs (filled_argument w r) k)
    hand_good v r (wait_body r' k) = sound_finished v r' k
    hand_good v r wait_main = sound_over

    main_good : (main : Option Define) → MainOk P V main → Good (main_called P Z [] [] a main)
    unfolding rules
    main_good main o = subst (λ (main : Option Define). Good (main_called P Z [] [] a main)) (sym o.here) (waits_good ok Z 0 a {K = []} filled_none o.typed (wait_main {p = o.define.place}))

  pub step_good : ScriptOk P V → (Z : Sizes) (main : Option Define) → MainOk P V main → (s : State) → Going s → Sound s → Good (step P Z main s)
  unfolding rules
  step_good ok Z main m _ going_opened (sound_opened {a = a}) = main_good ok Z a main m
  step_good ok Z main m _ going_enter (sound_enter {a = a} r t k) = enter_good ok Z a t r k
  step_good ok Z main m _ (going_finished {K = []}) (sound_finished v r k) = elim k [ ]
  step_good ok Z main m _ (going_finished {K = f ∷ K}) (sound_finished {a = a} v r k) = hand_good ok Z a v r k
