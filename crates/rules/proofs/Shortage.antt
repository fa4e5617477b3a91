-- A step and the same step with just enough cells: it needs what it takes, and it faults for want of cells exactly where that is more
-- than are free.
use Rattle.std.proofs.Common.{◌≡◌, ℕ, ◌+◌, ◌-◌, ◌<◌, ◌≤◌, Bool, true, false, cond, leb, List, [], ◌∷◌, map, Some, None, Option, sym, refl, arith}
use Rattle.std.proofs.lemmas.Bool.{leb-true, leb-false}
use Rattle.std.specs.List.{slice_get}
use Rattle.basis.specs.Calls as basis_calls
use Rattle.basis.specs.Numbers.{numbered}
use Rattle.basis.specs.declared.applied.Applied.{Applied}
use Rattle.basis.specs.declared.applied.Applied.TheVariants as applied
use Rattle.basis.specs.declared.fault.ArithmeticFault.{ArithmeticFault}
use Rattle.basis.specs.declared.fault.ArithmeticFault.TheVariants as arithmetic
use Rattle.basis.specs.declared.function.Basis.{Basis}
use Rattle.basis.specs.declared.plain.Plain.{Plain}
use Rattle.data.specs.Trees.{Tree, int, bool, symbol, unit, function, built, Trees, none, cost, size}
use Rattle.grammar.specs.Trees as tree
use Rattle.grammar.specs.Trees.{Ident, PatternPart, bound, Pattern, wildcard, constructor, Expr, Exprs, no_exprs, and_expr, Bindings, no_bindings, and_binding, Branches, last_branch, and_branch}
use Rattle.program.specs.Compiling.{binding_count}
use Rattle.program.specs.Programs as means
use Rattle.program.specs.Programs.{Name, Program, Define, Val, Global, global_of, basis_count}
use Rattle.program.specs.Scopes.{names_inside}
use Rattle.rules.specs.declared.fault.FaultKind.{FaultKind}
use Rattle.rules.specs.declared.fault.FaultKind.TheVariants.{NoBranch, TooFewCells, StackFull}
use Rattle.rules.specs.Cells.{for_copy, for_head, for_fields, for_last, for_call, for_entering, for_handing, needed_cells, with_cells}
use Rattle.rules.specs.Runs.{account_of}
use Rattle.rules.specs.States.{full, argument, Environment, Target, builds, calls, Frame, if_test, if_arm, begin_part, let_binding, scope_end, case_test, head_value, next_argument, body_value, main_value, opened, enter, finished, over, Account, State, st, environment_size, saved, saved_size, held}
use Rattle.rules.specs.Steps.{Outcome, goes, fails, stuck, Sizes, needs, Looked, got, consumed, absent, look, Taken, took, short, take_arguments, Bound, binds, unfit, giving, bind_parts, leave_names, plains_of, fault_kind, is_constructor, rules, waits, build, answer, call_plain, call_basis, enter_body, call_define, call_number, proceed, bind_next, val_entered, enter_global, enter_name, dup_entered, is_local, enter_named, enter_apply, enter_expr, test_handed, part_handed, enter_branch, try_branch, select_branch, tested_handed, head_handed, hand_end, hand, main_called, step}

-- a fault other than the want of cells
abbrev pub Other : FaultKind → Type 0
Other TooFewCells = ⊥
Other _ = Unit {0}

-- The outcome of a step that needs m cells where h are held, and t were taken before; and that of the same step with cells enough.
pub data Exact (cells m h t : ℕ) : Outcome → Outcome → Type 0 where
  exact_calm : {bytes : List ℕ} {s : State} → m ≡ 0 → (account_of s).taken ≡ t → Exact cells m h t (goes bytes s) (goes bytes s)
  exact_goes : {bytes : List ℕ} {s : State} → m + h ≤ cells → (account_of s).taken ≡ t + m → Exact cells m h t (goes bytes s) (goes bytes s)
  exact_short : {bytes : List ℕ} {s : State} → cells < m + h → Exact cells m h t (fails TooFewCells None) (goes bytes s)
  exact_fails : {kind : FaultKind} {f : Option Basis} → Other kind → Exact cells m h t (fails kind f) (fails kind f)
  exact_stuck : Exact cells m h t stuck stuck

-- the want of an entry comes before
needs_exact : {cells m h t : ℕ} (b : Bool) {o o' : Outcome} → Exact cells m h t o o' → Exact cells m h t (needs StackFull b o) (needs StackFull b o')
needs_exact true (exact_calm e k) = exact_calm e k
needs_exact false (exact_calm e k) = exact_fails tt
needs_exact true (exact_goes f e) = exact_goes f e
needs_exact false (exact_goes f e) = exact_fails tt
needs_exact true (exact_short l) = exact_short l
needs_exact false (exact_short l) = exact_fails tt
needs_exact true (exact_fails k) = exact_fails k
needs_exact false (exact_fails k) = exact_fails tt
needs_exact b exact_stuck = exact_stuck

cond_exact : {cells m h t : ℕ} (b : Bool) {o o' p p' : Outcome} → Exact cells m h t o o' → Exact cells m h t p p' → Exact cells m h t (cond b o p) (cond b o' p')
cond_exact true a b = a
cond_exact false a b = b

-- the want of cells itself, with n cells in the other step
cells_exact : (cells n m h t x : ℕ) (bytes : List ℕ) (s : State) → n ≡ m + h → x ≡ h → (account_of s).taken ≡ t + m
    → Exact cells m h t (needs TooFewCells (leb (m + x) cells) (goes bytes s)) (needs TooFewCells (leb (m + x) n) (goes bytes s))
cells_exact cells n m h t x bytes s e q k = go (leb (m + x) cells) (leb (m + x) n) refl refl
  where
    go : (b c : Bool) → leb (m + x) cells ≡ b → leb (m + x) n ≡ c → Exact cells m h t (needs TooFewCells b (goes bytes s)) (needs TooFewCells c (goes bytes s))
    go true true f g = let l = leb-true (m + x) cells f in exact_goes (omega arith) k
    go false true f g = let l = leb-false (m + x) cells f in exact_short (omega arith)
    go b false f g = let l = leb-false (m + x) n g in absurd (omega arith)

arithmetic_other : (e : ArithmeticFault) → Other (fault_kind e)
arithmetic_other arithmetic.ZeroDivisor = tt
arithmetic_other arithmetic.BadShift = tt

module _ (P : Program) (Z : Sizes) (n : ℕ) (K : List Frame) (a : Account) where
  -- the outcomes of one step, over the sizes and over those with n cells
  abbrev Steps : ℕ → ℕ → (Sizes → Outcome) → Type 0
  Steps m h f = Exact Z.cells m h a.taken (f Z) (f (with_cells n Z))

  -- rows that need no cell
  module _ (h : ℕ) where
    calm : (bytes : List ℕ) (s : State) → (account_of s).taken ≡ a.taken → Exact Z.cells 0 h a.taken (goes bytes s) (goes bytes s)
    calm bytes s e = exact_calm refl e

    waits_exact : (f : Frame) (x : Expr) (env : Environment) → Steps 0 h (λ Z. waits P Z f x K env a)
    unfolding rules
    waits_exact f x env = needs_exact _ (calm [] (st (f ∷ K) env (enter x) a) refl)

    answer_exact : (f : Basis) (env : Environment) (r : Applied) → Steps 0 h (λ Z. answer P Z f K env a r)
    unfolding rules
    answer_exact f env (applied.Int z) = calm [] _ refl
    answer_exact f env (applied.Bool b) = calm [] _ refl
    answer_exact f env (applied.Prints p) = calm _ _ refl
    answer_exact f env applied.Reads = calm [] _ refl
    answer_exact f env (applied.Faults k) = exact_fails (arithmetic_other k)
    answer_exact f env applied.Mismatch = exact_stuck

    plain_exact : (f : Basis) (env : Environment) (vs : Option (List Plain)) → Steps 0 h (λ Z. call_plain P Z f K env a vs)
    unfolding rules
    plain_exact f env None = exact_stuck
    plain_exact f env (Some vs) = answer_exact f env (basis_calls.applied f vs)

    basis_exact : (f : Basis) (t : Taken) → Steps 0 h (λ Z. call_basis P Z f K a t)
    unfolding rules
    basis_exact f (took vs env) = plain_exact f env (plains_of vs)
    basis_exact f short = exact_stuck

    body_exact : (p : ℕ) (x : Expr) (env : Environment) (b : Bound) → Steps 0 h (λ Z. enter_body P Z p x K env a b)
    unfolding rules
    body_exact p x env (binds names m) = calm [] _ refl
    body_exact p x env unfit = exact_stuck

    define_exact : (p : ℕ) (d : Define) (t : Taken) → Steps 0 h (λ Z. call_define P Z p d K a t)
    unfolding rules
    define_exact p d (took vs env) = body_exact p d.body env (bind_parts (map bound d.parameters) vs [])
    define_exact p d short = exact_stuck

    number_exact : (p m k : ℕ) (env : Environment) (f : Option Basis) (d : Option Define) → Steps 0 h (λ Z. call_number P Z p m k K env a f d)
    unfolding rules
    number_exact p m k env (Some f) d = basis_exact f (take_arguments k env)
    number_exact p m k env None (Some d) = define_exact p d (take_arguments k env)
    number_exact p m k env None None = exact_stuck

    bind_exact : (p : ℕ) (bs : Bindings) (x : Expr) (m : ℕ) (env : Environment) → Steps 0 h (λ Z. bind_next P Z p bs x m K env a)
    unfolding rules
    bind_exact p no_bindings x m env = calm [] _ refl
    bind_exact p (and_binding q y f bs) x m env = calm [] _ refl

    val_exact : (p : ℕ) (env : Environment) (v : Option Val) → Steps 0 h (λ Z. val_entered P Z p K env a v)
    unfolding rules
    val_exact p env None = exact_stuck
    val_exact p env (Some v) = waits_exact (body_value p env) v.expr []

    global_exact : (p : ℕ) (env : Environment) (g : Global) → Steps 0 h (λ Z. enter_global P Z p K env a g)
    unfolding rules
    global_exact p env (means.function m) = calm [] _ refl
    global_exact p env (means.constructor k) = exact_stuck
    global_exact p env (means.val i) = val_exact p env (slice_get P.vals i)
    global_exact p env means.unbound = exact_stuck

    name_exact : (p : ℕ) (w : Name) (env : Environment) (l : Looked) → Steps 0 h (λ Z. enter_name P Z p w K env a l)
    unfolding rules
    name_exact p w env (got v after) = calm [] _ refl
    name_exact p w env consumed = exact_stuck
    name_exact p w env absent = global_exact p env (global_of P w)

    branch_exact : (p m : ℕ) (x : Expr) (env : Environment) (b : Bound) → Steps 0 h (λ Z. enter_branch P Z p m x K env a b)
    unfolding rules
    branch_exact p m x env (binds after l) = needs_exact _ (calm [] _ refl)
    branch_exact p m x env unfit = exact_stuck

    try_exact : (p c : ℕ) (vs : Trees) (env : Environment) (x : Pattern) (y : Expr) (o : Sizes → Outcome) → Steps 0 h o → Steps 0 h (λ Z. try_branch P Z p x y c vs K env a (o Z))
    unfolding rules
    try_exact p c vs env (wildcard q) y o e = calm [] _ refl
    try_exact p c vs env (constructor q k xs) y o e = cond_exact (is_constructor c (global_of P k.bytes)) (branch_exact p (names_inside xs) y env (giving (cost vs) (bind_parts xs vs env))) e

    select_exact : (p c : ℕ) (vs : Trees) (env : Environment) (bs : Branches) → Steps 0 h (λ Z. select_branch P Z p bs c vs K env a)
    unfolding rules
    select_exact p c vs env (last_branch q x y) = try_exact p c vs env x y (λ Z. fails NoBranch None) (exact_fails tt)
    select_exact p c vs env (and_branch q x y bs) = try_exact p c vs env x y (λ Z. select_branch P Z p bs c vs K env a) (select_exact p c vs env bs)

    end_exact : (v : Tree) (b : Bound) → Steps 0 h (λ Z. hand_end P Z K a v b)
    unfolding rules
    end_exact v (binds env m) = calm [] _ refl
    end_exact v unfit = exact_stuck

    test_exact : (p : ℕ) (x y : Expr) (env : Environment) (v : Tree) → Steps 0 h (λ Z. test_handed P Z p x y K env a v)
    unfolding rules
    test_exact p x y env (bool true) = calm [] _ refl
    test_exact p x y env (bool false) = calm [] _ refl
    test_exact p x y env (int z) = exact_stuck
    test_exact p x y env (symbol m) = exact_stuck
    test_exact p x y env unit = exact_stuck
    test_exact p x y env (function m) = exact_stuck
    test_exact p x y env (built c vs) = exact_stuck

    part_exact : (p : ℕ) (es : Exprs) (env : Environment) (v : Tree) → Steps 0 h (λ Z. part_handed P Z p es K env a v)
    unfolding rules
    part_exact p no_exprs env v = calm [] _ refl
    part_exact p (and_expr e es) env v = calm [] _ refl

    tested_exact : (p : ℕ) (bs : Branches) (env : Environment) (v : Tree) → Steps 0 h (λ Z. tested_handed P Z p bs K env a v)
    unfolding rules
    tested_exact p bs env (built c vs) = select_exact p c vs env bs
    tested_exact p bs env (int z) = exact_stuck
    tested_exact p bs env (bool b) = exact_stuck
    tested_exact p bs env (symbol m) = exact_stuck
    tested_exact p bs env unit = exact_stuck
    tested_exact p bs env (function m) = exact_stuck

    head_exact : (p : ℕ) (es : Exprs) (env : Environment) (v : Tree) → Steps 0 h (λ Z. head_handed P Z p es K env a v)
    unfolding rules
    head_exact p no_exprs env (function m) = number_exact p m 0 env (numbered m) (slice_get P.defines (m - basis_count))
    head_exact p (and_expr e es) env (function m) = calm [] _ refl
    head_exact p es env (int z) = exact_stuck
    head_exact p es env (bool b) = exact_stuck
    head_exact p es env (symbol m) = exact_stuck
    head_exact p es env unit = exact_stuck
    head_exact p es env (built c vs) = exact_stuck

    main_exact : (env : Environment) (d : Option Define) → Steps 0 h (λ Z. main_called P Z K env a d)
    unfolding rules
    main_exact env None = exact_stuck
    main_exact env (Some d) = waits_exact (main_value d.place) d.body env

  -- rows that need cells, or may
  copy_exact : (h : ℕ) (env : Environment) (l : Looked) → h ≡ saved_size K + environment_size env → n ≡ for_copy l + h → Steps (for_copy l) h (λ Z. dup_entered P Z K env a l)
  unfolding rules
  copy_exact h env (got v after) e q = cells_exact Z.cells n (size v) h a.taken (saved_size K + environment_size env) [] _ q (sym e) refl
  copy_exact h env consumed e q = exact_stuck
  copy_exact h env absent e q = exact_stuck

  build_exact : (h c : ℕ) (all : Environment) (t : Taken) → h ≡ saved_size K + environment_size all → n ≡ for_fields t + h → Steps (for_fields t) h (λ Z. build P Z c K all a t)
  unfolding rules
  build_exact h c all (took vs env) e q = cells_exact Z.cells n (cost vs) h a.taken (saved_size K + environment_size all) [] _ q (sym e) refl
  build_exact h c all short e q = exact_stuck

  module _ (h : ℕ) (env : Environment) (all : h ≡ saved_size K + environment_size env) where
    proceed_exact : (p : ℕ) (t : Target) (k : ℕ) (es : Exprs) → n ≡ for_last t k es env + h → Steps (for_last t k es env) h (λ Z. proceed P Z p t k es K env a)
    unfolding rules
    proceed_exact p (builds c) k no_exprs q = build_exact h c env (take_arguments k env) all q
    proceed_exact p (calls m) k no_exprs q = number_exact h p m k env (numbered m) (slice_get P.defines (m - basis_count))
    proceed_exact p (builds c) k (and_expr e es) q = calm h [] _ refl
    proceed_exact p (calls m) k (and_expr e es) q = calm h [] _ refl

    named_exact : (p q : ℕ) (w : Name) (es : Exprs) (l : Looked) (g : Global) → n ≡ for_head l g es + h
        → Steps (for_head l g es) h (λ Z. cond (is_local P Z l) (waits P Z (head_value p es) (tree.name q w) K env a) (enter_named P Z p (tree.name q w) es K env a g))
    unfolding rules
    named_exact p q w es (got v after) g e = waits_exact h (head_value p es) (tree.name q w) env
    named_exact p q w es consumed g e = waits_exact h (head_value p es) (tree.name q w) env
    named_exact p q w es absent (means.function m) e = waits_exact h (head_value p es) (tree.name q w) env
    named_exact p q w no_exprs absent (means.constructor c) e = build_exact h c env (took none env) all e
    named_exact p q w (and_expr x es) absent (means.constructor c) e = waits_exact h (next_argument p (builds c) 0 es) x env
    named_exact p q w es absent (means.val i) e = waits_exact h (head_value p es) (tree.name q w) env
    named_exact p q w es absent means.unbound e = waits_exact h (head_value p es) (tree.name q w) env

    call_exact : (p : ℕ) (x : Expr) (es : Exprs) → n ≡ for_call P x es env + h → Steps (for_call P x es env) h (λ Z. enter_apply P Z p x es K env a)
    unfolding rules
    call_exact p (tree.name q w) es e = named_exact p q w es (look w env) (global_of P w) e
    call_exact p (tree.integer q z) es e = waits_exact h (head_value p es) _ env
    call_exact p (tree.symbol q w) es e = waits_exact h (head_value p es) _ env
    call_exact p (tree.boolean q b) es e = waits_exact h (head_value p es) _ env
    call_exact p (tree.unit q) es e = waits_exact h (head_value p es) _ env
    call_exact p (tree.if_expr q x y z) es e = waits_exact h (head_value p es) _ env
    call_exact p (tree.begin_expr q x xs) es e = waits_exact h (head_value p es) _ env
    call_exact p (tree.let_expr q bs x) es e = waits_exact h (head_value p es) _ env
    call_exact p (tree.case_expr q x bs) es e = waits_exact h (head_value p es) _ env
    call_exact p (tree.dup_expr q x) es e = waits_exact h (head_value p es) _ env
    call_exact p (tree.apply_expr q x xs) es e = waits_exact h (head_value p es) _ env

    enter_exact : (x : Expr) → n ≡ for_entering P x env + h → Steps (for_entering P x env) h (λ Z. enter_expr P Z K env a x)
    unfolding rules
    enter_exact (tree.integer p z) e = calm h [] _ refl
    enter_exact (tree.symbol p w) e = calm h [] _ refl
    enter_exact (tree.boolean p b) e = calm h [] _ refl
    enter_exact (tree.unit p) e = calm h [] _ refl
    enter_exact (tree.name p w) e = name_exact h p w env (look w env)
    enter_exact (tree.dup_expr p x) e = copy_exact h env (look x.bytes env) all e
    enter_exact (tree.if_expr p x y z) e = waits_exact h (if_test p y z) x env
    enter_exact (tree.begin_expr p x xs) e = waits_exact h (begin_part p xs) x env
    enter_exact (tree.let_expr p bs x) e = needs_exact _ (bind_exact h p bs x (binding_count bs) env)
    enter_exact (tree.case_expr p x bs) e = waits_exact h (case_test p bs) x env
    enter_exact (tree.apply_expr p x xs) e = call_exact p x xs e

  module _ (h : ℕ) (env : Environment) (v : Tree) where
    hand_exact : (f : Frame) → h ≡ environment_size (saved f) + saved_size K + environment_size env + size v → n ≡ for_handing P f v env + h → Steps (for_handing P f v env) h (λ Z. hand P Z f K env a v)
    unfolding rules
    hand_exact (if_test p x y) all e = test_exact h p x y env v
    hand_exact (if_arm p) all e = calm h [] _ refl
    hand_exact (begin_part p es) all e = part_exact h p es env v
    hand_exact (let_binding p x bs y m) all e = needs_exact _ (bind_exact h p bs y m (full x.bytes v ∷ env))
    hand_exact (scope_end p m) all e = end_exact h v (leave_names m env)
    hand_exact (case_test p bs) all e = tested_exact h p bs env v
    hand_exact (head_value p es) all e = head_exact h p es env v
    hand_exact (next_argument p t k es) all e = needs_exact _ (proceed_exact h (argument v ∷ env) (omega arith) p t (k + 1) es e)
    hand_exact (body_value p kept) all e = calm h [] _ refl
    hand_exact (main_value p) all e = calm h [] _ refl

pub step_exact : (P : Program) (Z : Sizes) (main : Option Define) (n : ℕ) (s : State) → n ≡ needed_cells P s + held s
    → Exact Z.cells (needed_cells P s) (held s) (account_of s).taken (step P Z main s) (step P (with_cells n Z) main s)
unfolding rules
step_exact P Z main n (st K env opened a) e = main_exact P Z n K a _ env main
step_exact P Z main n (st K env (enter x) a) e = enter_exact P Z n K a _ env (omega arith) x e
step_exact P Z main n (st [] env (finished v) a) e = exact_stuck
step_exact P Z main n (st (f ∷ K) env (finished v) a) e = hand_exact P Z n K a _ env v f refl e
step_exact P Z main n (st K env over a) e = exact_stuck
