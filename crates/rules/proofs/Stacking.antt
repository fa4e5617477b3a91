-- No run has more on its stacks than they have entries: each step keeps it.
use Rattle.std.proofs.Common.{◌≡◌, ℕ, zero, suc, ◌+◌, ◌-◌, ◌<◌, ◌≤◌, Bool, true, false, cond, ltb, leb, List, [], ◌∷◌, map, length, Some, None, Option, refl, arith}
use Rattle.std.proofs.lemmas.Bool.{ltb-true, leb-true}
use Rattle.std.specs.List.{slice_get}
use Rattle.std.specs.Str.{bytes_eq}
use Rattle.basis.specs.Calls as basis_calls
use Rattle.basis.specs.Numbers.{numbered}
use Rattle.basis.specs.declared.applied.Applied.{Applied}
use Rattle.basis.specs.declared.applied.Applied.TheVariants as applied
use Rattle.basis.specs.declared.function.Basis.{Basis}
use Rattle.basis.specs.declared.plain.Plain.{Plain}
use Rattle.data.specs.Trees.{Tree, int, bool, symbol, unit, function, built, Trees, none, more, cost, size}
use Rattle.grammar.specs.Trees as tree
use Rattle.grammar.specs.Trees.{Ident, PatternPart, bound, skipped, Pattern, wildcard, constructor, Expr, Exprs, no_exprs, and_expr, Bindings, no_bindings, and_binding, Branches, last_branch, and_branch}
use Rattle.program.specs.Compiling.{binding_count}
use Rattle.program.specs.Programs as means
use Rattle.program.specs.Programs.{Name, Program, Define, Val, Global, global_of, basis_count}
use Rattle.program.specs.Scopes.{names_inside}
use Rattle.rules.specs.declared.fault.FaultKind.{FaultKind}
use Rattle.rules.specs.declared.fault.FaultKind.TheVariants.{NoBranch, TooFewCells, StackFull}
use Rattle.rules.specs.Laws.{StacksHold}
use Rattle.rules.specs.Runs.{main_of, opened_run}
use Rattle.rules.specs.Stacks.{waiting, entered}
use Rattle.rules.specs.States.{Entry, full, empty, argument, Environment, Target, builds, calls, Frame, if_test, if_arm, begin_part, let_binding, scope_end, case_test, head_value, next_argument, body_value, main_value, opened, enter, finished, over, Account, State, st, takes, gives, saved, saved_count}
use Rattle.rules.specs.Steps.{Outcome, goes, fails, stuck, Sizes, needs, Looked, got, consumed, absent, left, behind, look, Taken, took, short, more_by_one, take_arguments, Bound, binds, unfit, giving, bind_parts, leave_names, plains_of, is_constructor, rules, waits, build, answer, call_plain, call_basis, enter_body, call_define, call_number, apply, proceed, bind_next, val_entered, enter_global, enter_name, dup_entered, enter_construct, is_local, enter_named, enter_apply, enter_expr, enter_branch, try_branch, select_branch, hand_end, hand, main_called, step}
use Rattle.rules.proofs.Accounting.{Any}
use Rattle.rules.proofs.Advances.{OutcomeHas, reached_has}

abbrev Fits : Sizes → List Frame → Environment → Type 0
Fits Z K env = (length K ≤ Z.frames) × (length env + saved_count K ≤ Z.entries)

-- one more may wait
abbrev Ready : Sizes → List Frame → Environment → Type 0
Ready Z K env = (length K < Z.frames) × (length env + saved_count K ≤ Z.entries)

abbrev FitsState : Sizes → State → Type 0
FitsState Z (st K env c a) = Fits Z K env

abbrev FitsOut : Sizes → Outcome → Type 0
FitsOut Z o = OutcomeHas (FitsState Z) Any o

-- entries are neither added nor removed when a name is entered
abbrev GotLength : ℕ → Looked → Type 0
GotLength n (got v env) = n ≡ length env
GotLength n consumed = Unit {0}
GotLength n absent = Unit {0}

behind_length : (s : Entry) (n : ℕ) (l : Looked) → GotLength n l → GotLength (suc n) (behind s l)
behind_length s n (got v env) h = omega arith
behind_length s n consumed h = tt
behind_length s n absent h = tt

cond_length : (b : Bool) (n : ℕ) (x y : Looked) → GotLength n x → GotLength n y → GotLength n (cond b x y)
cond_length true n x y h k = h
cond_length false n x y h k = k

look_length : (w : Name) (env : Environment) → GotLength (length env) (look w env)
look_length w [] = tt
look_length w (full x v ∷ env) = cond_length (bytes_eq w x) _ (got v (left x v ∷ env)) (behind (full x v) (look w env)) refl (behind_length (full x v) (length env) (look w env) (look_length w env))
look_length w (empty x ∷ env) = cond_length (bytes_eq w x) _ consumed (behind (empty x) (look w env)) tt (behind_length (empty x) (length env) (look w env) (look_length w env))
look_length w (argument v ∷ env) = behind_length (argument v) (length env) (look w env) (look_length w env)

-- arguments that are taken off
abbrev row_length : Trees → ℕ
row_length none = 0
row_length (more v vs) = 1 + row_length vs

abbrev TookLength : ℕ → Taken → Type 0
TookLength n (took vs env) = n ≡ row_length vs + length env
TookLength n short = Unit {0}

one_more_length : (n : ℕ) (t : Taken) → TookLength n t → TookLength n (more_by_one t)
one_more_length n (took vs []) h = tt
one_more_length n (took vs (full x v ∷ env)) h = tt
one_more_length n (took vs (empty x ∷ env)) h = tt
one_more_length n (took vs (argument v ∷ env)) h = omega arith
one_more_length n short h = tt

take_length : (k : ℕ) (env : Environment) → TookLength (length env) (take_arguments k env)
take_length zero env = omega arith
take_length (suc k) env = one_more_length (length env) (take_arguments k env) (take_length k env)

-- names that are bound, and names that leave
abbrev BoundLength : ℕ → Bound → Type 0
BoundLength n (binds env m) = length env ≤ n
BoundLength n unfit = Unit {0}

giving_length : (n m : ℕ) (b : Bound) → BoundLength n b → BoundLength n (giving m b)
giving_length n m (binds env l) h = h
giving_length n m unfit h = tt

bound_at : (n m : ℕ) (b : Bound) → n ≤ m → BoundLength n b → BoundLength m b
bound_at n m (binds env l) e h = omega arith
bound_at n m unfit e h = tt

bind_length : (xs : List PatternPart) (vs : Trees) (env : Environment) → BoundLength (names_inside xs + length env) (bind_parts xs vs env)
bind_length [] none env = omega arith
bind_length [] (more v vs) env = tt
bind_length (bound x ∷ xs) none env = tt
bind_length (skipped p ∷ xs) none env = tt
bind_length (bound x ∷ xs) (more v vs) env = bound_at (names_inside xs + length (full x.bytes v ∷ env)) _ (bind_parts xs vs (full x.bytes v ∷ env)) (omega arith) (bind_length xs vs (full x.bytes v ∷ env))
bind_length (skipped p ∷ xs) (more v vs) env = giving_length _ (size v) (bind_parts xs vs env) (bind_length xs vs env)

-- a function's names take the entries of its arguments
parameters_length : (xs : List Ident) (vs : Trees) (env : Environment) → BoundLength (row_length vs + length env) (bind_parts (map bound xs) vs env)
parameters_length [] none env = omega arith
parameters_length [] (more v vs) env = tt
parameters_length (x ∷ xs) none env = tt
parameters_length (x ∷ xs) (more v vs) env = bound_at (row_length vs + length (full x.bytes v ∷ env)) _ (bind_parts (map bound xs) vs (full x.bytes v ∷ env)) (omega arith) (parameters_length xs vs (full x.bytes v ∷ env))

leave_length : (n : ℕ) (env : Environment) → BoundLength (length env) (leave_names n env)
leave_length zero env = omega arith
leave_length (suc n) [] = tt
leave_length (suc n) (full x v ∷ env) = bound_at (length env) _ (giving (size v) (leave_names n env)) (omega arith) (giving_length (length env) (size v) (leave_names n env) (leave_length n env))
leave_length (suc n) (empty x ∷ env) = bound_at (length env) _ (leave_names n env) (omega arith) (leave_length n env)
leave_length (suc n) (argument v ∷ env) = tt

-- a step that needs something
needs_fits : (Z : Sizes) (kind : FaultKind) (b : Bool) (o : Outcome) → FitsOut Z o → FitsOut Z (needs kind b o)
needs_fits Z kind true (goes bytes s) h = h
needs_fits Z kind false (goes bytes s) h = tt
needs_fits Z kind true (fails k f) h = tt
needs_fits Z kind false (fails k f) h = tt
needs_fits Z kind b stuck h = tt

needed_fits : (Z : Sizes) (kind : FaultKind) (b : Bool) (o : Outcome) → (b ≡ true → FitsOut Z o) → FitsOut Z (needs kind b o)
needed_fits Z kind true o h = needs_fits Z kind true o (h refl)
needed_fits Z kind false (goes bytes s) h = tt
needed_fits Z kind false (fails k f) h = tt
needed_fits Z kind false stuck h = tt

cond_fits : (Z : Sizes) (b : Bool) (x y : Outcome) → FitsOut Z x → FitsOut Z y → FitsOut Z (cond b x y)
cond_fits Z true x y h k = h
cond_fits Z false x y h k = k

module _ (P : Program) (Z : Sizes) (a : Account) (K : List Frame) where
  waits_fits : (f : Frame) (x : Expr) (env : Environment) → length env + (length (saved f) + saved_count K) ≤ Z.entries → FitsOut Z (waits P Z f x K env a)
  unfolding rules
  waits_fits f x env h = needed_fits Z StackFull (ltb (length K) Z.frames) (goes [] (st (f ∷ K) env (enter x) a)) (λ e. let l = ltb-true (length K) Z.frames e in (omega arith, omega arith))

  build_fits : (c : ℕ) (all : Environment) (t : Taken) → Fits Z K all → TookLength (length all) t → FitsOut Z (build P Z c K all a t)
  unfolding rules
  build_fits c all (took vs env) f h = needs_fits Z TooFewCells _ (goes [] (st K env (finished (built c vs)) (takes (cost vs) a))) (omega arith)
  build_fits c all short f h = tt

  -- the call of a function, where one more may wait
  answer_fits : (f : Basis) (env : Environment) (r : Applied) → Fits Z K env → FitsOut Z (answer P Z f K env a r)
  unfolding rules
  answer_fits f env (applied.Int z) h = h
  answer_fits f env (applied.Bool b) h = h
  answer_fits f env (applied.Prints p) h = h
  answer_fits f env applied.Reads h = h
  answer_fits f env (applied.Faults k) h = tt
  answer_fits f env applied.Mismatch h = tt

  plain_fits : (f : Basis) (env : Environment) (vs : Option (List Plain)) → Fits Z K env → FitsOut Z (call_plain P Z f K env a vs)
  unfolding rules
  plain_fits f env None h = tt
  plain_fits f env (Some vs) h = answer_fits f env (basis_calls.applied f vs) h

  basis_fits : (f : Basis) (n : ℕ) (t : Taken) → length K ≤ Z.frames → n + saved_count K ≤ Z.entries → TookLength n t → FitsOut Z (call_basis P Z f K a t)
  unfolding rules
  basis_fits f n (took vs env) h k e = plain_fits f env (plains_of vs) (omega arith)
  basis_fits f n short h k e = tt

  body_fits : (p : ℕ) (x : Expr) (env : Environment) (n : ℕ) (b : Bound) → length K < Z.frames → n + (length env + saved_count K) ≤ Z.entries → BoundLength n b → FitsOut Z (enter_body P Z p x K env a b)
  unfolding rules
  body_fits p x env n (binds names m) h k e = (omega arith, omega arith)
  body_fits p x env n unfit h k e = tt

  define_fits : (p : ℕ) (d : Define) (n : ℕ) (t : Taken) → length K < Z.frames → n + saved_count K ≤ Z.entries → TookLength n t → FitsOut Z (call_define P Z p d K a t)
  unfolding rules
  define_fits p d n (took vs env) h k e = body_fits p d.body env (row_length vs + 0) (bind_parts (map bound d.parameters) vs []) h (omega arith) (parameters_length d.parameters vs [])
  define_fits p d n short h k e = tt

  module _ (env : Environment) (h : Ready Z K env) where
    number_fits : (p n k : ℕ) (f : Option Basis) (d : Option Define) → FitsOut Z (call_number P Z p n k K env a f d)
    unfolding rules
    number_fits p n k (Some f) d = basis_fits f (length env) (take_arguments k env) (omega arith) (omega arith) (take_length k env)
    number_fits p n k None (Some d) = define_fits p d (length env) (take_arguments k env) (omega arith) (omega arith) (take_length k env)
    number_fits p n k None None = tt

    apply_fits : (p : ℕ) (t : Target) (k : ℕ) → FitsOut Z (apply P Z p t k K env a)
    unfolding rules
    apply_fits p (builds c) k = build_fits c env (take_arguments k env) (omega arith) (take_length k env)
    apply_fits p (calls n) k = number_fits p n k (numbered n) (slice_get P.defines (n - basis_count))

    proceed_fits : (p : ℕ) (t : Target) (k : ℕ) (es : Exprs) → FitsOut Z (proceed P Z p t k es K env a)
    unfolding rules
    proceed_fits p t k no_exprs = apply_fits p t k
    proceed_fits p t k (and_expr x es) = (omega arith, omega arith)

    next_one_fits : (p : ℕ) (bs : Bindings) (x : Expr) (n : ℕ) → FitsOut Z (bind_next P Z p bs x n K env a)
    unfolding rules
    next_one_fits p no_bindings x n = (omega arith, omega arith)
    next_one_fits p (and_binding q y f bs) x n = (omega arith, omega arith)

  -- entering
  module _ (env : Environment) (h : Fits Z K env) where
    val_fits : (p : ℕ) (v : Option Val) → FitsOut Z (val_entered P Z p K env a v)
    unfolding rules
    val_fits p None = tt
    val_fits p (Some v) = waits_fits (body_value p env) v.expr [] (omega arith)

    global_fits : (p : ℕ) (g : Global) → FitsOut Z (enter_global P Z p K env a g)
    unfolding rules
    global_fits p (means.function n) = h
    global_fits p (means.constructor k) = tt
    global_fits p (means.val i) = val_fits p (slice_get P.vals i)
    global_fits p means.unbound = tt

    name_fits : (p : ℕ) (w : Name) (l : Looked) → GotLength (length env) l → FitsOut Z (enter_name P Z p w K env a l)
    unfolding rules
    name_fits p w (got v after) e = omega arith
    name_fits p w consumed e = tt
    name_fits p w absent e = global_fits p (global_of P w)

    dup_fits : (l : Looked) → FitsOut Z (dup_entered P Z K env a l)
    unfolding rules
    dup_fits (got v after) = needs_fits Z TooFewCells _ (goes [] (st K env (finished v) (takes (size v) a))) h
    dup_fits consumed = tt
    dup_fits absent = tt

    construct_fits : (p c : ℕ) (es : Exprs) → FitsOut Z (enter_construct P Z p c es K env a)
    unfolding rules
    construct_fits p c no_exprs = build_fits c env (took none env) h (omega arith)
    construct_fits p c (and_expr x es) = waits_fits (next_argument p (builds c) 0 es) x env (omega arith)

    named_fits : (p : ℕ) (x : Expr) (es : Exprs) (g : Global) → FitsOut Z (enter_named P Z p x es K env a g)
    unfolding rules
    named_fits p x es (means.function n) = waits_fits (head_value p es) x env (omega arith)
    named_fits p x es (means.constructor c) = construct_fits p c es
    named_fits p x es (means.val i) = waits_fits (head_value p es) x env (omega arith)
    named_fits p x es means.unbound = waits_fits (head_value p es) x env (omega arith)

    head_fits : (p : ℕ) (x : Expr) (es : Exprs) → FitsOut Z (enter_apply P Z p x es K env a)
    unfolding rules
    head_fits p (tree.name q w) es = cond_fits Z (is_local P Z (look w env)) _ _ (waits_fits (head_value p es) (tree.name q w) env (omega arith)) (named_fits p (tree.name q w) es (global_of P w))
    head_fits p (tree.integer q z) es = waits_fits (head_value p es) _ env (omega arith)
    head_fits p (tree.symbol q w) es = waits_fits (head_value p es) _ env (omega arith)
    head_fits p (tree.boolean q b) es = waits_fits (head_value p es) _ env (omega arith)
    head_fits p (tree.unit q) es = waits_fits (head_value p es) _ env (omega arith)
    head_fits p (tree.if_expr q x y z) es = waits_fits (head_value p es) _ env (omega arith)
    head_fits p (tree.begin_expr q x xs) es = waits_fits (head_value p es) _ env (omega arith)
    head_fits p (tree.let_expr q bs x) es = waits_fits (head_value p es) _ env (omega arith)
    head_fits p (tree.case_expr q x bs) es = waits_fits (head_value p es) _ env (omega arith)
    head_fits p (tree.dup_expr q x) es = waits_fits (head_value p es) _ env (omega arith)
    head_fits p (tree.apply_expr q x xs) es = waits_fits (head_value p es) _ env (omega arith)

    enter_fits : (x : Expr) → FitsOut Z (enter_expr P Z K env a x)
    unfolding rules
    enter_fits (tree.integer p z) = h
    enter_fits (tree.symbol p w) = h
    enter_fits (tree.boolean p b) = h
    enter_fits (tree.unit p) = h
    enter_fits (tree.name p w) = name_fits p w (look w env) (look_length w env)
    enter_fits (tree.dup_expr p x) = dup_fits (look x.bytes env)
    enter_fits (tree.if_expr p x y z) = waits_fits (if_test p y z) x env (omega arith)
    enter_fits (tree.begin_expr p x xs) = waits_fits (begin_part p xs) x env (omega arith)
    enter_fits (tree.let_expr p bs x) =
        needed_fits Z StackFull (ltb (length K) Z.frames) (bind_next P Z p bs x (binding_count bs) K env a) (λ e. let l = ltb-true (length K) Z.frames e in next_one_fits env (omega arith, omega arith) p bs x (binding_count bs))
    enter_fits (tree.case_expr p x bs) = waits_fits (case_test p bs) x env (omega arith)
    enter_fits (tree.apply_expr p x xs) = head_fits p x xs

    main_fits : (d : Option Define) → FitsOut Z (main_called P Z K env a d)
    unfolding rules
    main_fits None = tt
    main_fits (Some d) = waits_fits (main_value d.place) d.body env (omega arith)

  -- handing a value to what waited for it
  branch_fits : (p n : ℕ) (x : Expr) (env : Environment) (b : Bound) → length K < Z.frames → BoundLength (n + length env) b → FitsOut Z (enter_branch P Z p n x K env a b)
  unfolding rules
  branch_fits p n x env (binds after l) h e =
      needed_fits Z StackFull (leb (n + (length env + saved_count K)) Z.entries) (goes [] (st (scope_end p n ∷ K) after (enter x) (gives l a))) (λ q. let k = leb-true (n + (length env + saved_count K)) Z.entries q in (omega arith, omega arith))
  branch_fits p n x env unfit h e = tt

  module _ (p c : ℕ) (vs : Trees) (env : Environment) (h : Ready Z K env) where
    try_fits : (x : Pattern) (y : Expr) (other : Outcome) → FitsOut Z other → FitsOut Z (try_branch P Z p x y c vs K env a other)
    unfolding rules
    try_fits (wildcard q) y other o = (omega arith, omega arith)
    try_fits (constructor q k xs) y other o =
        cond_fits Z (is_constructor c (global_of P k.bytes)) (enter_branch P Z p (names_inside xs) y K env a (giving (cost vs) (bind_parts xs vs env))) other
        (branch_fits p (names_inside xs) y env (giving (cost vs) (bind_parts xs vs env)) h.0 (giving_length _ (cost vs) (bind_parts xs vs env) (bind_length xs vs env))) o

    select_fits : (bs : Branches) → FitsOut Z (select_branch P Z p bs c vs K env a)
    unfolding rules
    select_fits (last_branch q x y) = try_fits x y (fails NoBranch None) tt
    select_fits (and_branch q x y bs) = try_fits x y (select_branch P Z p bs c vs K env a) (select_fits bs)

  end_fits : (v : Tree) (n : ℕ) (b : Bound) → length K ≤ Z.frames → n + saved_count K ≤ Z.entries → BoundLength n b → FitsOut Z (hand_end P Z K a v b)
  unfolding rules
  end_fits v n (binds env m) h k e = (omega arith, omega arith)
  end_fits v n unfit h k e = tt

  -- an entry more
  entry_fits : (env : Environment) (o : Outcome) → (1 + (length env + saved_count K) ≤ Z.entries → FitsOut Z o) → FitsOut Z (needs StackFull (leb (1 + (length env + saved_count K)) Z.entries) o)
  entry_fits env o f = needed_fits Z StackFull (leb (1 + (length env + saved_count K)) Z.entries) o (λ q. f (leb-true (1 + (length env + saved_count K)) Z.entries q))

  hand_fits : (f : Frame) (env : Environment) (v : Tree) → Fits Z (f ∷ K) env → FitsOut Z (hand P Z f K env a v)
  unfolding rules
  hand_fits (if_test p x y) env (bool true) h = (omega arith, omega arith)
  hand_fits (if_test p x y) env (bool false) h = (omega arith, omega arith)
  hand_fits (if_test p x y) env (int z) h = tt
  hand_fits (if_test p x y) env (symbol n) h = tt
  hand_fits (if_test p x y) env unit h = tt
  hand_fits (if_test p x y) env (function n) h = tt
  hand_fits (if_test p x y) env (built c vs) h = tt
  hand_fits (if_arm p) env v h = (omega arith, omega arith)
  hand_fits (begin_part p no_exprs) env v h = (omega arith, omega arith)
  hand_fits (begin_part p (and_expr x xs)) env v h = (omega arith, omega arith)
  hand_fits (let_binding p x bs y n) env v h = entry_fits env (bind_next P Z p bs y n K (full x.bytes v ∷ env) a) (λ l. next_one_fits (full x.bytes v ∷ env) (omega arith, omega arith) p bs y n)
  hand_fits (scope_end p n) env v h = end_fits v (length env) (leave_names n env) (omega arith) (omega arith) (leave_length n env)
  hand_fits (case_test p bs) env (built c vs) h = select_fits p c vs env (omega arith, omega arith) bs
  hand_fits (case_test p bs) env (int z) h = tt
  hand_fits (case_test p bs) env (bool b) h = tt
  hand_fits (case_test p bs) env (symbol n) h = tt
  hand_fits (case_test p bs) env unit h = tt
  hand_fits (case_test p bs) env (function n) h = tt
  hand_fits (head_value p es) env (function n) h = proceed_fits env (omega arith, omega arith) p (calls n) 0 es
  hand_fits (head_value p es) env (int z) h = tt
  hand_fits (head_value p es) env (bool b) h = tt
  hand_fits (head_value p es) env (symbol n) h = tt
  hand_fits (head_value p es) env unit h = tt
  hand_fits (head_value p es) env (built c vs) h = tt
  hand_fits (next_argument p t k es) env v h = entry_fits env (proceed P Z p t (k + 1) es K (argument v ∷ env) a) (λ l. proceed_fits (argument v ∷ env) (omega arith, omega arith) p t (k + 1) es)
  hand_fits (body_value p kept) env v h = (omega arith, omega arith)
  hand_fits (main_value p) env v h = (omega arith, omega arith)

step_fits : (P : Program) (Z : Sizes) (main : Option Define) (s : State) → FitsState Z s → FitsOut Z (step P Z main s)
unfolding rules
step_fits P Z main (st K env opened a) h = main_fits P Z a K env h main
step_fits P Z main (st K env (enter x) a) h = enter_fits P Z a K env h x
step_fits P Z main (st [] env (finished v) a) h = tt
step_fits P Z main (st (f ∷ K) env (finished v) a) h = hand_fits P Z a K f env v h
step_fits P Z main (st K env over a) h = tt

stacked : (Z : Sizes) (s : State) → FitsState Z s → (waiting s ≤ Z.frames) × (entered s ≤ Z.entries)
stacked Z (st K env c a) h = h

pub stacks_hold : StacksHold
stacks_hold P Z allowance input cs =
    let h = reached_has P Z allowance (FitsState Z) Any tt (λ s g. step_fits P Z (main_of P) s) (opened_run input) cs (record { state = (omega arith, omega arith); fault = tt }) in
    let k = stacked Z _ h.state in
    record { frames = k.0; entries = k.1 }
