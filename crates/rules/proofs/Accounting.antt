-- Cells taken are cells given back and cells held, and no more are held than were free: each step keeps it.
use Rattle.std.proofs.Common.{◌≡◌, ℕ, zero, suc, ◌+◌, ◌-◌, ◌≤◌, Bool, true, false, cond, T as So, leb, List, [], ◌∷◌, map, Some, None, Option, sym, refl, subst, arith, leb→le}
use Rattle.std.specs.List.{slice_get}
use Rattle.std.specs.Str.{bytes_eq}
use Rattle.basis.specs.Calls as calls
use Rattle.basis.specs.Numbers.{numbered}
use Rattle.basis.specs.declared.applied.Applied.{Applied}
use Rattle.basis.specs.declared.applied.Applied.TheVariants as applied
use Rattle.basis.specs.declared.function.Basis.{Basis}
use Rattle.basis.specs.declared.plain.Plain.{Plain}
use Rattle.data.specs.Trees.{Tree, int, bool, symbol, unit, function, built, Trees, none, more, cost, size, sizes}
use Rattle.grammar.specs.Trees as tree
use Rattle.grammar.specs.Trees.{Ident, PatternPart, bound, skipped, Pattern, wildcard, constructor, Expr, Exprs, no_exprs, and_expr, Bindings, no_bindings, and_binding, Branches, last_branch, and_branch}
use Rattle.program.specs.Compiling.{binding_count}
use Rattle.program.specs.Programs as means
use Rattle.program.specs.Programs.{Name, Program, Define, Val, Global, global_of, basis_count}
use Rattle.program.specs.Scopes.{names_inside}
use Rattle.rules.specs.declared.fault.FaultKind.{FaultKind}
use Rattle.rules.specs.declared.fault.FaultKind.TheVariants.{NoBranch, TooFewCells, StackFull}
use Rattle.rules.specs.Laws.{Accounts}
use Rattle.rules.specs.Runs.{main_of, opened_run, account_of}
use Rattle.rules.specs.States.{Entry, full, empty, argument, Environment, Target, builds, calls, Frame, if_test, if_arm, begin_part, let_binding, scope_end, case_test, head_value, next_argument, body_value, main_value, opened, enter, finished, over, Account, State, st, takes, gives, entry_size, environment_size, saved, saved_size, control_size, held}
use Rattle.rules.specs.Steps.{Outcome, goes, fails, stuck, Sizes, needs, Looked, got, consumed, absent, left, behind, look, Taken, took, short, more_by_one, take_arguments, Bound, binds, unfit, giving, bind_parts, leave_names, plain_of, and_plain, plains_of, is_constructor, rules, waits, finish, build, answer, call_plain, call_basis, enter_body, call_define, call_number, apply, proceed, bind_next, val_entered, enter_global, enter_name, dup_entered, enter_construct, is_local, enter_named, enter_apply, enter_expr, enter_branch, try_branch, select_branch, hand_end, hand, main_called, step}
use Rattle.rules.proofs.Advances.{OutcomeHas, reached_has}

-- n constructors are held
abbrev pub Even : ℕ → Account → ℕ → Type 0
Even cells a n = (a.taken ≡ a.given + n) × (n ≤ cells)

abbrev pub EvenState : ℕ → State → Type 0
EvenState cells (st K env c a) = Even cells a (saved_size K + environment_size env + control_size c)

abbrev pub Any : FaultKind → Type 0
Any kind = Unit {0}

abbrev pub EvenOut : ℕ → Outcome → Type 0
EvenOut cells o = OutcomeHas (EvenState cells) Any o

-- A name that is entered: its value was among the entries.
abbrev GotSize : ℕ → Looked → Type 0
GotSize n (got v env) = n ≡ size v + environment_size env
GotSize n consumed = Unit {0}
GotSize n absent = Unit {0}

behind_size : (s : Entry) (n : ℕ) (l : Looked) → GotSize n l → GotSize (entry_size s + n) (behind s l)
behind_size s n (got v env) h = omega arith
behind_size s n consumed h = tt
behind_size s n absent h = tt

left_size : (x : Name) (v : Tree) (env : Environment) → size v + environment_size env ≡ size v + (entry_size (left x v) + environment_size env)
left_size x (int z) env = omega arith
left_size x (bool b) env = omega arith
left_size x (symbol n) env = omega arith
left_size x unit env = omega arith
left_size x (function n) env = omega arith
left_size x (built c vs) env = omega arith

full_size : (b : Bool) (x : Name) (v : Tree) (env : Environment) (l : Looked) → GotSize (environment_size env) l → GotSize (size v + environment_size env) (cond b (got v (left x v ∷ env)) (behind (full x v) l))
full_size true x v env l h = left_size x v env
full_size false x v env l h = behind_size (full x v) (environment_size env) l h

empty_size : (b : Bool) (x : Name) (n : ℕ) (l : Looked) → GotSize n l → GotSize (0 + n) (cond b consumed (behind (empty x) l))
empty_size true x n l h = tt
empty_size false x n l h = behind_size (empty x) n l h

look_size : (w : Name) (env : Environment) → GotSize (environment_size env) (look w env)
look_size w [] = tt
look_size w (full x v ∷ env) = full_size (bytes_eq w x) x v env (look w env) (look_size w env)
look_size w (empty x ∷ env) = empty_size (bytes_eq w x) x (environment_size env) (look w env) (look_size w env)
look_size w (argument v ∷ env) = behind_size (argument v) (environment_size env) (look w env) (look_size w env)

-- Arguments that are taken off the entries.
abbrev TookSize : ℕ → Taken → Type 0
TookSize n (took vs env) = n ≡ sizes vs + environment_size env
TookSize n short = Unit {0}

one_more_size : (n : ℕ) (t : Taken) → TookSize n t → TookSize n (more_by_one t)
one_more_size n (took vs []) h = tt
one_more_size n (took vs (full x v ∷ env)) h = tt
one_more_size n (took vs (empty x ∷ env)) h = tt
one_more_size n (took vs (argument v ∷ env)) h = omega arith
one_more_size n short h = tt

take_size : (k : ℕ) (env : Environment) → TookSize (environment_size env) (take_arguments k env)
take_size zero env = omega arith
take_size (suc k) env = one_more_size (environment_size env) (take_arguments k env) (take_size k env)

-- Names that are bound or leave: what is no longer among the entries is given back.
abbrev BoundSize : ℕ → Bound → Type 0
BoundSize n (binds env m) = n ≡ m + environment_size env
BoundSize n unfit = Unit {0}

giving_size : (n m : ℕ) (b : Bound) → BoundSize n b → BoundSize (m + n) (giving m b)
giving_size n m (binds env l) h = omega arith
giving_size n m unfit h = tt

bound_as : (n m : ℕ) (b : Bound) → m ≡ n → BoundSize n b → BoundSize m b
bound_as n m b e h = subst (λ (x : ℕ). BoundSize x b) (sym e) h

bind_size : (xs : List PatternPart) (vs : Trees) (env : Environment) → BoundSize (sizes vs + environment_size env) (bind_parts xs vs env)
bind_size [] none env = refl
bind_size [] (more v vs) env = tt
bind_size (bound x ∷ xs) none env = tt
bind_size (skipped p ∷ xs) none env = tt
bind_size (bound x ∷ xs) (more v vs) env =
    bound_as (sizes vs + (size v + environment_size env)) _ (bind_parts xs vs (full x.bytes v ∷ env)) (omega arith) (bind_size xs vs (full x.bytes v ∷ env))
bind_size (skipped p ∷ xs) (more v vs) env =
    bound_as (size v + (sizes vs + environment_size env)) _ (giving (size v) (bind_parts xs vs env)) (omega arith) (giving_size _ (size v) (bind_parts xs vs env) (bind_size xs vs env))

-- a function's parameters are all bound, so that nothing is given back
abbrev Nothing : Bound → Type 0
Nothing (binds env m) = m ≡ 0
Nothing unfit = Unit {0}

parameters_size : (xs : List Ident) (vs : Trees) (env : Environment) → Nothing (bind_parts (map bound xs) vs env)
parameters_size [] none env = refl
parameters_size [] (more v vs) env = tt
parameters_size (x ∷ xs) none env = tt
parameters_size (x ∷ xs) (more v vs) env = parameters_size xs vs (full x.bytes v ∷ env)

leave_size : (n : ℕ) (env : Environment) → BoundSize (environment_size env) (leave_names n env)
leave_size zero env = omega arith
leave_size (suc n) [] = tt
leave_size (suc n) (full x v ∷ env) = giving_size (environment_size env) (size v) (leave_names n env) (leave_size n env)
leave_size (suc n) (empty x ∷ env) = bound_as (environment_size env) _ (leave_names n env) (omega arith) (leave_size n env)
leave_size (suc n) (argument v ∷ env) = tt

-- plain values hold no cell
abbrev Light : {X : Type 0} → ℕ → Option X → Type 0
Light n None = Unit {0}
Light n (Some x) = n ≡ 0

plain_light : (v : Tree) → Light (size v) (plain_of v)
plain_light (int z) = refl
plain_light (bool b) = refl
plain_light (symbol n) = refl
plain_light unit = refl
plain_light (function n) = tt
plain_light (built c vs) = tt

and_light : (n m : ℕ) (v : Option Plain) (vs : Option (List Plain)) → Light n v → Light m vs → Light (n + m) (and_plain v vs)
and_light n m None vs h k = tt
and_light n m (Some v) None h k = tt
and_light n m (Some v) (Some vs) h k = omega arith

plains_light : (vs : Trees) → Light (sizes vs) (plains_of vs)
plains_light none = refl
plains_light (more v vs) = and_light (size v) (sizes vs) (plain_of v) (plains_of vs) (plain_light v) (plains_light vs)

needs_even : (cells : ℕ) (kind : FaultKind) (b : Bool) (o : Outcome) → EvenOut cells o → EvenOut cells (needs kind b o)
needs_even cells kind true (goes bytes s) h = h
needs_even cells kind false (goes bytes s) h = tt
needs_even cells kind true (fails k f) h = tt
needs_even cells kind false (fails k f) h = tt
needs_even cells kind b stuck h = tt

cells_even : (cells n : ℕ) (o : Outcome) → (n ≤ cells → EvenOut cells o) → EvenOut cells (needs TooFewCells (leb n cells) o)
cells_even cells n (goes bytes s) h = go (leb n cells) (leb→le n cells)
  where
    go : (b : Bool) → (So b → n ≤ cells) → EvenOut cells (needs TooFewCells b (goes bytes s))
    go true f = h (f tt)
    go false f = tt
cells_even cells n (fails k f) h = needs_even cells TooFewCells (leb n cells) (fails k f) tt
cells_even cells n stuck h = tt

cond_even : (cells : ℕ) (b : Bool) (x y : Outcome) → EvenOut cells x → EvenOut cells y → EvenOut cells (cond b x y)
cond_even cells true x y h k = h
cond_even cells false x y h k = k

module _ (P : Program) (Z : Sizes) (p : ℕ) (a : Account) (K : List Frame) where
  name_even : (w : Name) (n : ℕ) (env : Environment) (l : Looked) → (EvenOut Z.cells (enter_global P Z p K env a (global_of P w))) → GotSize n l → Even Z.cells a (saved_size K + n + 0)
      → EvenOut Z.cells (enter_name P Z p w K env a l)
  unfolding rules
  name_even w n env (got v after) g h e = omega arith
  name_even w n env consumed g h e = tt
  name_even w n env absent g h e = g

  dup_even : (env : Environment) (l : Looked) → Even Z.cells a (saved_size K + environment_size env + 0) → EvenOut Z.cells (dup_entered P Z K env a l)
  unfolding rules
  dup_even env (got v after) e = cells_even Z.cells _ (finish P Z v K env (takes (size v) a)) (λ fits. omega arith)
  dup_even env consumed e = tt
  dup_even env absent e = tt

  build_even : (c : ℕ) (all : Environment) (t : Taken) → TookSize (environment_size all) t → Even Z.cells a (saved_size K + environment_size all + 0) → EvenOut Z.cells (build P Z c K all a t)
  unfolding rules
  build_even c all (took vs env) h e = cells_even Z.cells _ (finish P Z (built c vs) K env (takes (cost vs) a)) (λ fits. omega arith)
  build_even c all short h e = tt

  answer_even : (f : Basis) (n : ℕ) (env : Environment) (r : Applied) → n ≡ 0 → Even Z.cells a (saved_size K + (n + environment_size env) + 0) → EvenOut Z.cells (answer P Z f K env a r)
  unfolding rules
  answer_even f n env (applied.Int z) h e = omega arith
  answer_even f n env (applied.Bool b) h e = omega arith
  answer_even f n env (applied.Prints p) h e = omega arith
  answer_even f n env applied.Reads h e = omega arith
  answer_even f n env (applied.Faults k) h e = tt
  answer_even f n env applied.Mismatch h e = tt

  plain_even : (f : Basis) (n : ℕ) (env : Environment) (vs : Option (List Plain)) → Light n vs → Even Z.cells a (saved_size K + (n + environment_size env) + 0)
      → EvenOut Z.cells (call_plain P Z f K env a vs)
  unfolding rules
  plain_even f n env None h e = tt
  plain_even f n env (Some vs) h e = answer_even f n env (calls.applied f vs) h e

  basis_even : (f : Basis) (n : ℕ) (t : Taken) → TookSize n t → Even Z.cells a (saved_size K + n + 0) → EvenOut Z.cells (call_basis P Z f K a t)
  unfolding rules
  basis_even f n (took vs env) h e = plain_even f (sizes vs) env (plains_of vs) (plains_light vs) (omega arith)
  basis_even f n short h e = tt

  body_even : (x : Expr) (env : Environment) (n : ℕ) (b : Bound) → BoundSize n b → Nothing b → Even Z.cells a (saved_size K + (n + environment_size env) + 0) → EvenOut Z.cells (enter_body P Z p x K env a b)
  unfolding rules
  body_even x env n (binds names m) h z e = omega arith
  body_even x env n unfit h z e = tt

  define_even : (d : Define) (n : ℕ) (t : Taken) → TookSize n t → Even Z.cells a (saved_size K + n + 0) → EvenOut Z.cells (call_define P Z p d K a t)
  unfolding rules
  define_even d n (took vs env) h e =
      body_even d.body env (sizes vs + 0) (bind_parts (map bound d.parameters) vs []) (bind_size (map bound d.parameters) vs []) (parameters_size d.parameters vs []) (omega arith)
  define_even d n short h e = tt

  module _ (env : Environment) (e : Even Z.cells a (saved_size K + environment_size env + 0)) where
    number_even : (n k : ℕ) (f : Option Basis) (d : Option Define) → EvenOut Z.cells (call_number P Z p n k K env a f d)
    unfolding rules
    number_even n k (Some f) d = basis_even f (environment_size env) (take_arguments k env) (take_size k env) e
    number_even n k None (Some d) = define_even d (environment_size env) (take_arguments k env) (take_size k env) e
    number_even n k None None = tt

    apply_even : (t : Target) (k : ℕ) → EvenOut Z.cells (apply P Z p t k K env a)
    unfolding rules
    apply_even (builds c) k = build_even c env (take_arguments k env) (take_size k env) e
    apply_even (calls n) k = number_even n k (numbered n) (slice_get P.defines (n - basis_count))

    proceed_even : (t : Target) (k : ℕ) (es : Exprs) → EvenOut Z.cells (proceed P Z p t k es K env a)
    unfolding rules
    proceed_even t k no_exprs = apply_even t k
    proceed_even t k (and_expr x es) = omega arith

    bind_even : (bs : Bindings) (x : Expr) (n : ℕ) → EvenOut Z.cells (bind_next P Z p bs x n K env a)
    unfolding rules
    bind_even no_bindings x n = omega arith
    bind_even (and_binding q y f bs) x n = omega arith

    waits_even : (f : Frame) (x : Expr) → environment_size (saved f) ≡ 0 → EvenOut Z.cells (waits P Z f x K env a)
    unfolding rules
    waits_even f x h = needs_even Z.cells StackFull _ (goes [] (st (f ∷ K) env (enter x) a)) (omega arith)

    val_even : (v : Option Val) → EvenOut Z.cells (val_entered P Z p K env a v)
    unfolding rules
    val_even None = tt
    val_even (Some v) = needs_even Z.cells StackFull _ (goes [] (st (body_value p env ∷ K) [] (enter v.expr) a)) (omega arith)

    global_even : (g : Global) → EvenOut Z.cells (enter_global P Z p K env a g)
    unfolding rules
    global_even (means.function n) = e
    global_even (means.constructor k) = tt
    global_even (means.val i) = val_even (slice_get P.vals i)
    global_even means.unbound = tt

    construct_even : (c : ℕ) (es : Exprs) → EvenOut Z.cells (enter_construct P Z p c es K env a)
    unfolding rules
    construct_even c no_exprs = build_even c env (took none env) (omega arith) e
    construct_even c (and_expr x es) = waits_even (next_argument p (builds c) 0 es) x refl

    named_even : (x : Expr) (es : Exprs) (g : Global) → EvenOut Z.cells (enter_named P Z p x es K env a g)
    unfolding rules
    named_even x es (means.function n) = waits_even (head_value p es) x refl
    named_even x es (means.constructor c) = construct_even c es
    named_even x es (means.val i) = waits_even (head_value p es) x refl
    named_even x es means.unbound = waits_even (head_value p es) x refl

    head_even : (x : Expr) (es : Exprs) → EvenOut Z.cells (enter_apply P Z p x es K env a)
    unfolding rules
    head_even (tree.name q w) es = cond_even Z.cells (is_local P Z (look w env)) _ _ (waits_even (head_value p es) (tree.name q w) refl) (named_even (tree.name q w) es (global_of P w))
    head_even (tree.integer q z) es = waits_even (head_value p es) _ refl
    head_even (tree.symbol q w) es = waits_even (head_value p es) _ refl
    head_even (tree.boolean q b) es = waits_even (head_value p es) _ refl
    head_even (tree.unit q) es = waits_even (head_value p es) _ refl
    head_even (tree.if_expr q x y z) es = waits_even (head_value p es) _ refl
    head_even (tree.begin_expr q x xs) es = waits_even (head_value p es) _ refl
    head_even (tree.let_expr q bs x) es = waits_even (head_value p es) _ refl
    head_even (tree.case_expr q x bs) es = waits_even (head_value p es) _ refl
    head_even (tree.dup_expr q x) es = waits_even (head_value p es) _ refl
    head_even (tree.apply_expr q x xs) es = waits_even (head_value p es) _ refl

module _ (P : Program) (Z : Sizes) (a : Account) (K : List Frame) where
  enter_even : (env : Environment) (x : Expr) → Even Z.cells a (saved_size K + environment_size env + 0) → EvenOut Z.cells (enter_expr P Z K env a x)
  unfolding rules
  enter_even env (tree.integer p z) e = e
  enter_even env (tree.symbol p w) e = e
  enter_even env (tree.boolean p b) e = e
  enter_even env (tree.unit p) e = e
  enter_even env (tree.name p w) e = name_even P Z p a K w (environment_size env) env (look w env) (global_even P Z p a K env e (global_of P w)) (look_size w env) e
  enter_even env (tree.dup_expr p x) e = dup_even P Z p a K env (look x.bytes env) e
  enter_even env (tree.if_expr p x y z) e = waits_even P Z p a K env e (if_test p y z) x refl
  enter_even env (tree.begin_expr p x xs) e = waits_even P Z p a K env e (begin_part p xs) x refl
  enter_even env (tree.let_expr p bs x) e = needs_even Z.cells StackFull _ (bind_next P Z p bs x (binding_count bs) K env a) (bind_even P Z p a K env e bs x (binding_count bs))
  enter_even env (tree.case_expr p x bs) e = waits_even P Z p a K env e (case_test p bs) x refl
  enter_even env (tree.apply_expr p x xs) e = head_even P Z p a K env e x xs

  -- a branch whose names are bound
  branch_even : (p n m : ℕ) (x : Expr) (env : Environment) (b : Bound) → BoundSize m b → Even Z.cells a (saved_size K + m + 0) → EvenOut Z.cells (enter_branch P Z p n x K env a b)
  unfolding rules
  branch_even p n m x env (binds after l) h e = needs_even Z.cells StackFull _ (goes [] (st (scope_end p n ∷ K) after (enter x) (gives l a))) (omega arith)
  branch_even p n m x env unfit h e = tt

  module _ (p c : ℕ) (vs : Trees) (env : Environment) (e : Even Z.cells a (saved_size K + environment_size env + size (built c vs))) where
    try_even : (x : Pattern) (y : Expr) (other : Outcome) → EvenOut Z.cells other → EvenOut Z.cells (try_branch P Z p x y c vs K env a other)
    unfolding rules
    try_even (wildcard q) y other h = omega arith
    try_even (constructor q k xs) y other h =
        cond_even Z.cells (is_constructor c (global_of P k.bytes)) (enter_branch P Z p (names_inside xs) y K env a (giving (cost vs) (bind_parts xs vs env))) other
        (branch_even p (names_inside xs) (cost vs + (sizes vs + environment_size env)) y env (giving (cost vs) (bind_parts xs vs env)) (giving_size _ (cost vs) (bind_parts xs vs env) (bind_size xs vs env)) (omega arith)) h

    select_even : (bs : Branches) → EvenOut Z.cells (select_branch P Z p bs c vs K env a)
    unfolding rules
    select_even (last_branch q x y) = try_even x y (fails NoBranch None) tt
    select_even (and_branch q x y bs) = try_even x y (select_branch P Z p bs c vs K env a) (select_even bs)

  end_even : (v : Tree) (n : ℕ) (b : Bound) → BoundSize n b → Even Z.cells a (saved_size K + n + size v) → EvenOut Z.cells (hand_end P Z K a v b)
  unfolding rules
  end_even v n (binds env m) h e = omega arith
  end_even v n unfit h e = tt

  hand_even : (f : Frame) (env : Environment) (v : Tree) → Even Z.cells a (environment_size (saved f) + saved_size K + environment_size env + size v) → EvenOut Z.cells (hand P Z f K env a v)
  unfolding rules
  hand_even (if_test p x y) env (bool true) e = omega arith
  hand_even (if_test p x y) env (bool false) e = omega arith
  hand_even (if_test p x y) env (int z) e = tt
  hand_even (if_test p x y) env (symbol n) e = tt
  hand_even (if_test p x y) env unit e = tt
  hand_even (if_test p x y) env (function n) e = tt
  hand_even (if_test p x y) env (built c vs) e = tt
  hand_even (if_arm p) env v e = omega arith
  hand_even (begin_part p no_exprs) env v e = omega arith
  hand_even (begin_part p (and_expr x xs)) env v e = omega arith
  hand_even (let_binding p x bs y n) env v e =
      needs_even Z.cells StackFull _ (bind_next P Z p bs y n K (full x.bytes v ∷ env) a) (bind_even P Z p a K (full x.bytes v ∷ env) (omega arith) bs y n)
  hand_even (scope_end p n) env v e = end_even v (environment_size env) (leave_names n env) (leave_size n env) (omega arith)
  hand_even (case_test p bs) env (built c vs) e = select_even p c vs env (omega arith) bs
  hand_even (case_test p bs) env (int z) e = tt
  hand_even (case_test p bs) env (bool b) e = tt
  hand_even (case_test p bs) env (symbol n) e = tt
  hand_even (case_test p bs) env unit e = tt
  hand_even (case_test p bs) env (function n) e = tt
  hand_even (head_value p es) env (function n) e = proceed_even P Z p a K env (omega arith) (calls n) 0 es
  hand_even (head_value p es) env (int z) e = tt
  hand_even (head_value p es) env (bool b) e = tt
  hand_even (head_value p es) env (symbol n) e = tt
  hand_even (head_value p es) env unit e = tt
  hand_even (head_value p es) env (built c vs) e = tt
  hand_even (next_argument p t k es) env v e =
      needs_even Z.cells StackFull _ (proceed P Z p t (k + 1) es K (argument v ∷ env) a) (proceed_even P Z p a K (argument v ∷ env) (omega arith) t (k + 1) es)
  hand_even (body_value p kept) env v e = omega arith
  hand_even (main_value p) env v e = omega arith

  main_even : (env : Environment) (d : Option Define) → Even Z.cells a (saved_size K + environment_size env + 0) → EvenOut Z.cells (main_called P Z K env a d)
  unfolding rules
  main_even env None e = tt
  main_even env (Some d) e = waits_even P Z 0 a K env e (main_value d.place) d.body refl

pub step_even : (P : Program) (Z : Sizes) (main : Option Define) (s : State) → EvenState Z.cells s → EvenOut Z.cells (step P Z main s)
unfolding rules
step_even P Z main (st K env opened a) e = main_even P Z a K env main e
step_even P Z main (st K env (enter x) a) e = enter_even P Z a K env x e
step_even P Z main (st [] env (finished v) a) e = tt
step_even P Z main (st (f ∷ K) env (finished v) a) e = hand_even P Z a K f env v e
step_even P Z main (st K env over a) e = tt

even_account : (cells : ℕ) (s : State) → EvenState cells s → ((account_of s).taken ≡ (account_of s).given + held s) × (held s ≤ cells)
even_account cells (st K env c a) h = h

pub accounts : Accounts
accounts P Z allowance input cs =
    let h = reached_has P Z allowance (EvenState Z.cells) Any tt (λ s g. step_even P Z (main_of P) s) (opened_run input) cs (record { state = omega arith; fault = tt }) in
    let k = even_account Z.cells _ h.state in
    record { account = k.0; within = k.1; closed = k.0 }
