-- The want of an entry comes neither early nor late.
use Rattle.std.proofs.Common.{◌≡◌, ℕ, suc, ◌+◌, ◌-◌, ◌<◌, ◌≤◌, ◌≢◌, ◌⊎◌, Bool, true, false, cond, ltb, leb, List, [], ◌∷◌, map, length, Some, None, Option, refl, subst, arith, inl, inr}
use Rattle.std.proofs.lemmas.Bool.{ltb-true, ltb-false, leb-true, leb-false}
use Rattle.std.specs.List.{slice_get}
use Rattle.basis.specs.Calls as basis_calls
use Rattle.basis.specs.Numbers.{numbered}
use Rattle.basis.specs.declared.applied.Applied.{Applied}
use Rattle.basis.specs.declared.applied.Applied.TheVariants as applied
use Rattle.basis.specs.declared.fault.ArithmeticFault.{ArithmeticFault}
use Rattle.basis.specs.declared.fault.ArithmeticFault.TheVariants as arithmetic
use Rattle.basis.specs.declared.function.Basis.{Basis}
use Rattle.basis.specs.declared.plain.Plain.{Plain}
use Rattle.data.specs.Trees.{Tree, int, bool, symbol, unit, function, built, Trees, none, cost}
use Rattle.grammar.specs.Trees as tree
use Rattle.grammar.specs.Trees.{Ident, PatternPart, bound, Pattern, wildcard, constructor, Expr, Exprs, no_exprs, and_expr, Bindings, no_bindings, and_binding, Branches, last_branch, and_branch}
use Rattle.program.specs.Compiling.{binding_count}
use Rattle.program.specs.Programs as means
use Rattle.program.specs.Programs.{Name, Program, Define, Val, Global, global_of, basis_count}
use Rattle.program.specs.Scopes.{names_inside, pattern_names}
use Rattle.rules.specs.declared.fault.FaultKind.{FaultKind}
use Rattle.rules.specs.declared.fault.FaultKind.TheVariants.{NoBranch, TooFewCells, StackFull}
use Rattle.rules.specs.Histories.{reached}
use Rattle.rules.specs.Laws.{ShortOfEntries}
use Rattle.rules.specs.Runs.{main_of, opened_run}
use Rattle.rules.specs.Stacks.{waiting, entered, for_name, for_applied, for_head, for_waiting, fitting, for_branches, for_tested, for_frame, Lacks}
use Rattle.rules.specs.States.{full, argument, Environment, Target, builds, calls, Frame, if_test, if_arm, begin_part, let_binding, scope_end, case_test, head_value, next_argument, body_value, main_value, opened, enter, finished, over, Account, State, st, gives, saved, saved_count}
use Rattle.rules.specs.Steps.{Outcome, goes, fails, stuck, Sizes, needs, Looked, got, consumed, absent, look, Taken, took, short, take_arguments, Bound, binds, unfit, giving, bind_parts, leave_names, plains_of, fault_kind, is_constructor, rules, waits, build, answer, call_plain, call_basis, enter_body, call_define, call_number, apply, proceed, bind_next, val_entered, enter_global, enter_name, dup_entered, is_local, enter_named, enter_apply, enter_expr, test_handed, part_handed, enter_branch, try_branch, select_branch, tested_handed, head_handed, hand_end, hand, main_called, step}
use Rattle.rules.proofs.Stacking.{stacks_hold as stacks}

-- a fault that comes after the want of an entry
abbrev Later : FaultKind → Type 0
Later NoBranch = ⊥
Later StackFull = ⊥
Later _ = Unit {0}

-- neither stuck nor without a branch
abbrev Loose : Outcome → Type 0
Loose (goes bytes s) = Unit {0}
Loose (fails NoBranch f) = ⊥
Loose (fails _ f) = Unit {0}
Loose stuck = ⊥

-- The outcomes of a step over some sizes, where L says that an entry is lacking, and over others.
data Row (L : Type 0) : Outcome → Outcome → Type 0 where
  row_stuck : Row L stuck stuck
  row_branch : Row L (fails NoBranch None) (fails NoBranch None)
  row_full : {y : Outcome} → L → Loose y → Row L (fails StackFull None) y
  row_goes : {bytes : List ℕ} {s : State} {y : Outcome} → (L → ⊥) → Loose y → Row L (goes bytes s) y
  row_fails : {kind : FaultKind} {f : Option Basis} {y : Outcome} → Later kind → (L → ⊥) → Loose y → Row L (fails kind f) y

-- those of what needs no entry
data Plainly : Outcome → Outcome → Type 0 where
  plain_stuck : Plainly stuck stuck
  plain_goes : {bytes : List ℕ} {s : State} {y : Outcome} → Loose y → Plainly (goes bytes s) y
  plain_fails : {kind : FaultKind} {f : Option Basis} {y : Outcome} → Later kind → Loose y → Plainly (fails kind f) y

plainly : {L : Type 0} {x y : Outcome} → (L → ⊥) → Plainly x y → Row L x y
plainly n plain_stuck = row_stuck
plainly n (plain_goes y) = row_goes n y
plainly n (plain_fails k y) = row_fails k n y

loose_full : (c : Bool) (y : Outcome) → Loose y → Loose (needs StackFull c y)
loose_full true (goes bytes s) h = tt
loose_full false (goes bytes s) h = tt
loose_full true (fails k f) h = h
loose_full false (fails k f) h = tt
loose_full c stuck h = h

full_row : {L : Type 0} {x y : Outcome} (b c : Bool) → (b ≡ false → L) → (b ≡ true → L → ⊥) → Plainly x y → Row L (needs StackFull b x) (needs StackFull c y)
full_row b c f n plain_stuck = row_stuck
full_row true c f n (plain_goes {y = y} h) = row_goes (n refl) (loose_full c y h)
full_row false c f n (plain_goes {y = y} h) = row_full (f refl) (loose_full c y h)
full_row true c f n (plain_fails {y = y} k h) = row_fails k (n refl) (loose_full c y h)
full_row false c f n (plain_fails {y = y} k h) = row_full (f refl) (loose_full c y h)

cells_row : (b c : Bool) (bytes : List ℕ) (s : State) → Plainly (needs TooFewCells b (goes bytes s)) (needs TooFewCells c (goes bytes s))
cells_row true true bytes s = plain_goes tt
cells_row true false bytes s = plain_goes tt
cells_row false true bytes s = plain_fails tt tt
cells_row false false bytes s = plain_fails tt tt

cond_row : {L : Type 0} (b : Bool) {x x' y y' : Outcome} → Row L x x' → Row L y y' → Row L (cond b x y) (cond b x' y')
cond_row true h k = h
cond_row false h k = k

arithmetic_later : (f : Basis) (e : ArithmeticFault) → Plainly (fails (fault_kind e) (Some f)) (fails (fault_kind e) (Some f))
arithmetic_later f arithmetic.ZeroDivisor = plain_fails tt tt
arithmetic_later f arithmetic.BadShift = plain_fails tt tt

-- so many entries are lacking
abbrev Wants : Sizes → ℕ → ℕ → Type 0
Wants Z frames entries = (Z.frames < frames) ⊎ (Z.entries < entries)

none_wanted : (Z : Sizes) (m n : ℕ) → m ≤ Z.frames → n ≤ Z.entries → Wants Z m n → ⊥
none_wanted Z m n h k w = omega arith

module _ (P : Program) (Z Y : Sizes) (K : List Frame) (a : Account) where
  -- rows that need no entry
  answer_plain : (f : Basis) (env : Environment) (r : Applied) → Plainly (answer P Z f K env a r) (answer P Y f K env a r)
  unfolding rules
  answer_plain f env (applied.Int z) = plain_goes tt
  answer_plain f env (applied.Bool b) = plain_goes tt
  answer_plain f env (applied.Prints p) = plain_goes tt
  answer_plain f env applied.Reads = plain_goes tt
  answer_plain f env (applied.Faults k) = arithmetic_later f k
  answer_plain f env applied.Mismatch = plain_stuck

  called_plain : (f : Basis) (env : Environment) (vs : Option (List Plain)) → Plainly (call_plain P Z f K env a vs) (call_plain P Y f K env a vs)
  unfolding rules
  called_plain f env None = plain_stuck
  called_plain f env (Some vs) = answer_plain f env (basis_calls.applied f vs)

  basis_plain : (f : Basis) (t : Taken) → Plainly (call_basis P Z f K a t) (call_basis P Y f K a t)
  unfolding rules
  basis_plain f (took vs env) = called_plain f env (plains_of vs)
  basis_plain f short = plain_stuck

  body_plain : (p : ℕ) (x : Expr) (env : Environment) (b : Bound) → Plainly (enter_body P Z p x K env a b) (enter_body P Y p x K env a b)
  unfolding rules
  body_plain p x env (binds names m) = plain_goes tt
  body_plain p x env unfit = plain_stuck

  define_plain : (p : ℕ) (d : Define) (t : Taken) → Plainly (call_define P Z p d K a t) (call_define P Y p d K a t)
  unfolding rules
  define_plain p d (took vs env) = body_plain p d.body env (bind_parts (map bound d.parameters) vs [])
  define_plain p d short = plain_stuck

  number_plain : (p m k : ℕ) (env : Environment) (f : Option Basis) (d : Option Define) → Plainly (call_number P Z p m k K env a f d) (call_number P Y p m k K env a f d)
  unfolding rules
  number_plain p m k env (Some f) d = basis_plain f (take_arguments k env)
  number_plain p m k env None (Some d) = define_plain p d (take_arguments k env)
  number_plain p m k env None None = plain_stuck

  build_plain : (c : ℕ) (all : Environment) (t : Taken) → Plainly (build P Z c K all a t) (build P Y c K all a t)
  unfolding rules
  build_plain c all (took vs env) = cells_row _ _ [] _
  build_plain c all short = plain_stuck

  apply_plain : (p : ℕ) (t : Target) (k : ℕ) (env : Environment) → Plainly (apply P Z p t k K env a) (apply P Y p t k K env a)
  unfolding rules
  apply_plain p (builds c) k env = build_plain c env (take_arguments k env)
  apply_plain p (calls m) k env = number_plain p m k env (numbered m) (slice_get P.defines (m - basis_count))

  proceed_plain : (p : ℕ) (t : Target) (k : ℕ) (es : Exprs) (env : Environment) → Plainly (proceed P Z p t k es K env a) (proceed P Y p t k es K env a)
  unfolding rules
  proceed_plain p t k no_exprs env = apply_plain p t k env
  proceed_plain p t k (and_expr e es) env = plain_goes tt

  bind_plain : (p : ℕ) (bs : Bindings) (x : Expr) (m : ℕ) (env : Environment) → Plainly (bind_next P Z p bs x m K env a) (bind_next P Y p bs x m K env a)
  unfolding rules
  bind_plain p no_bindings x m env = plain_goes tt
  bind_plain p (and_binding q y f bs) x m env = plain_goes tt

  copy_plain : (env : Environment) (l : Looked) → Plainly (dup_entered P Z K env a l) (dup_entered P Y K env a l)
  unfolding rules
  copy_plain env (got v after) = cells_row _ _ [] _
  copy_plain env consumed = plain_stuck
  copy_plain env absent = plain_stuck

  end_plain : (v : Tree) (b : Bound) → Plainly (hand_end P Z K a v b) (hand_end P Y K a v b)
  unfolding rules
  end_plain v (binds env m) = plain_goes tt
  end_plain v unfit = plain_stuck

  test_plain : (p : ℕ) (x y : Expr) (env : Environment) (v : Tree) → Plainly (test_handed P Z p x y K env a v) (test_handed P Y p x y K env a v)
  unfolding rules
  test_plain p x y env (bool true) = plain_goes tt
  test_plain p x y env (bool false) = plain_goes tt
  test_plain p x y env (int z) = plain_stuck
  test_plain p x y env (symbol m) = plain_stuck
  test_plain p x y env unit = plain_stuck
  test_plain p x y env (function m) = plain_stuck
  test_plain p x y env (built c vs) = plain_stuck

  part_plain : (p : ℕ) (es : Exprs) (env : Environment) (v : Tree) → Plainly (part_handed P Z p es K env a v) (part_handed P Y p es K env a v)
  unfolding rules
  part_plain p no_exprs env v = plain_goes tt
  part_plain p (and_expr e es) env v = plain_goes tt

  head_plain : (p : ℕ) (es : Exprs) (env : Environment) (v : Tree) → Plainly (head_handed P Z p es K env a v) (head_handed P Y p es K env a v)
  unfolding rules
  head_plain p es env (function m) = proceed_plain p (calls m) 0 es env
  head_plain p es env (int z) = plain_stuck
  head_plain p es env (bool b) = plain_stuck
  head_plain p es env (symbol m) = plain_stuck
  head_plain p es env unit = plain_stuck
  head_plain p es env (built c vs) = plain_stuck

  -- rows that let an expression wait
  module _ (n : ℕ) (k : n ≤ Z.entries) (h : length K ≤ Z.frames) where
    abbrev Frames : ℕ → Outcome → Outcome → Type 0
    Frames m x y = Row (Wants Z (m + length K) n) x y

    one_row : {x y : Outcome} → Plainly x y → Frames 1 (needs StackFull (ltb (length K) Z.frames) x) (needs StackFull (ltb (length K) Y.frames) y)
    one_row x =
        full_row (ltb (length K) Z.frames) (ltb (length K) Y.frames)
        (λ e. let l = ltb-false (length K) Z.frames e in inl (omega arith)) (λ e w. let l = ltb-true (length K) Z.frames e in none_wanted Z (1 + length K) n (omega arith) k w) x

    no_row : {x y : Outcome} → Plainly x y → Frames 0 x y
    no_row x = plainly (none_wanted Z (0 + length K) n (omega arith) k) x

    waits_row : (f : Frame) (x : Expr) (env : Environment) → Frames 1 (waits P Z f x K env a) (waits P Y f x K env a)
    unfolding rules
    waits_row f x env = one_row {y = goes [] (st (f ∷ K) env (enter x) a)} (plain_goes tt)

    val_row : (p : ℕ) (env : Environment) (v : Option Val) → Frames 1 (val_entered P Z p K env a v) (val_entered P Y p K env a v)
    unfolding rules
    val_row p env None = row_stuck
    val_row p env (Some v) = waits_row (body_value p env) v.expr []

    name_row : (p : ℕ) (w : Name) (env : Environment) (l : Looked) (g : Global) → global_of P w ≡ g → Frames (for_name l g) (enter_name P Z p w K env a l) (enter_name P Y p w K env a l)
    unfolding rules
    name_row p w env (got v after) g e = no_row (plain_goes tt)
    name_row p w env consumed g e = row_stuck
    name_row p w env absent g e = subst (λ (g : Global). Frames (for_name absent g) (enter_global P Z p K env a (global_of P w)) (enter_global P Y p K env a (global_of P w))) e (global_row (global_of P w))
      where
        global_row : (g : Global) → Frames (for_name absent g) (enter_global P Z p K env a g) (enter_global P Y p K env a g)
        global_row (means.function m) = no_row (plain_goes tt)
        global_row (means.constructor c) = row_stuck
        global_row (means.val i) = val_row p env (slice_get P.vals i)
        global_row means.unbound = row_stuck

    named_row : (p q : ℕ) (w : Name) (es : Exprs) (env : Environment) (l : Looked) (g : Global)
        → Frames (for_applied l g es) (cond (is_local P Z l) (waits P Z (head_value p es) (tree.name q w) K env a) (enter_named P Z p (tree.name q w) es K env a g))
        (cond (is_local P Y l) (waits P Y (head_value p es) (tree.name q w) K env a) (enter_named P Y p (tree.name q w) es K env a g))
    unfolding rules
    named_row p q w es env (got v after) g = waits_row (head_value p es) (tree.name q w) env
    named_row p q w es env consumed g = waits_row (head_value p es) (tree.name q w) env
    named_row p q w es env absent (means.function m) = waits_row (head_value p es) (tree.name q w) env
    named_row p q w no_exprs env absent (means.constructor c) = no_row (build_plain c env (took none env))
    named_row p q w (and_expr x es) env absent (means.constructor c) = waits_row (next_argument p (builds c) 0 es) x env
    named_row p q w es env absent (means.val i) = waits_row (head_value p es) (tree.name q w) env
    named_row p q w es env absent means.unbound = waits_row (head_value p es) (tree.name q w) env

    call_row : (p : ℕ) (x : Expr) (es : Exprs) (env : Environment) → Frames (for_head P x es env) (enter_apply P Z p x es K env a) (enter_apply P Y p x es K env a)
    unfolding rules
    call_row p (tree.name q w) es env = named_row p q w es env (look w env) (global_of P w)
    call_row p (tree.integer q z) es env = waits_row (head_value p es) _ env
    call_row p (tree.symbol q w) es env = waits_row (head_value p es) _ env
    call_row p (tree.boolean q b) es env = waits_row (head_value p es) _ env
    call_row p (tree.unit q) es env = waits_row (head_value p es) _ env
    call_row p (tree.if_expr q x y z) es env = waits_row (head_value p es) _ env
    call_row p (tree.begin_expr q x xs) es env = waits_row (head_value p es) _ env
    call_row p (tree.let_expr q bs x) es env = waits_row (head_value p es) _ env
    call_row p (tree.case_expr q x bs) es env = waits_row (head_value p es) _ env
    call_row p (tree.dup_expr q x) es env = waits_row (head_value p es) _ env
    call_row p (tree.apply_expr q x xs) es env = waits_row (head_value p es) _ env

    enter_row : (x : Expr) (env : Environment) → Frames (for_waiting P x env) (enter_expr P Z K env a x) (enter_expr P Y K env a x)
    unfolding rules
    enter_row (tree.integer p z) env = no_row (plain_goes tt)
    enter_row (tree.symbol p w) env = no_row (plain_goes tt)
    enter_row (tree.boolean p b) env = no_row (plain_goes tt)
    enter_row (tree.unit p) env = no_row (plain_goes tt)
    enter_row (tree.name p w) env = name_row p w env (look w env) (global_of P w) refl
    enter_row (tree.dup_expr p x) env = no_row (copy_plain env (look x.bytes env))
    enter_row (tree.if_expr p x y z) env = waits_row (if_test p y z) x env
    enter_row (tree.begin_expr p x xs) env = waits_row (begin_part p xs) x env
    enter_row (tree.let_expr p bs x) env = one_row (bind_plain p bs x (binding_count bs) env)
    enter_row (tree.case_expr p x bs) env = waits_row (case_test p bs) x env
    enter_row (tree.apply_expr p x xs) env = call_row p x xs env

    main_row : (env : Environment) (d : Option Define) → Frames 1 (main_called P Z K env a d) (main_called P Y K env a d)
    unfolding rules
    main_row env None = row_stuck
    main_row env (Some d) = waits_row (main_value d.place) d.body env

  -- rows that bind names or hold an argument
  module _ (m : ℕ) (h : m ≤ Z.frames) (env : Environment) where
    abbrev Entries : ℕ → Outcome → Outcome → Type 0
    Entries n x y = Row (Wants Z m (n + (length env + saved_count K))) x y

    entries_row : (n : ℕ) {x y : Outcome} → Plainly x y → Entries n (needs StackFull (leb (n + (length env + saved_count K)) Z.entries) x) (needs StackFull (leb (n + (length env + saved_count K)) Y.entries) y)
    entries_row n x =
        full_row (leb (n + (length env + saved_count K)) Z.entries) (leb (n + (length env + saved_count K)) Y.entries)
        (λ e. let l = leb-false (n + (length env + saved_count K)) Z.entries e in inr (omega arith))
        (λ e w. let l = leb-true (n + (length env + saved_count K)) Z.entries e in none_wanted Z m (n + (length env + saved_count K)) h l w) x

    branch_row : (p n : ℕ) (x : Expr) (b : Bound) → Entries n (enter_branch P Z p n x K env a b) (enter_branch P Y p n x K env a b)
    unfolding rules
    branch_row p n x (binds after l) = entries_row n {y = goes [] (st (scope_end p n ∷ K) after (enter x) (gives l a))} (plain_goes tt)
    branch_row p n x unfit = row_stuck

    module _ (k : length env + saved_count K ≤ Z.entries) (p c : ℕ) (vs : Trees) where
      try_row : (x : Pattern) (y : Expr) (n : ℕ) {o o' : Outcome} → Entries n o o' → Entries (cond (fitting P c x) (pattern_names x) n) (try_branch P Z p x y c vs K env a o) (try_branch P Y p x y c vs K env a o')
      unfolding rules
      try_row (wildcard q) y n o = plainly (none_wanted Z m (0 + (length env + saved_count K)) h (omega arith)) (plain_goes tt)
      try_row (constructor q i xs) y n {o} {o'} e = go (is_constructor c (global_of P i.bytes)) e
        where
          go : (b : Bool) → Entries n o o' → Entries (cond b (names_inside xs) n) (cond b (enter_branch P Z p (names_inside xs) y K env a (giving (cost vs) (bind_parts xs vs env))) o) (cond b (enter_branch P Y p (names_inside xs) y K env a (giving (cost vs) (bind_parts xs vs env))) o')
          go true e = branch_row p (names_inside xs) y (giving (cost vs) (bind_parts xs vs env))
          go false e = e

      select_row : (bs : Branches) → Entries (for_branches P c bs) (select_branch P Z p bs c vs K env a) (select_branch P Y p bs c vs K env a)
      unfolding rules
      select_row (last_branch q x y) = try_row x y 0 row_branch
      select_row (and_branch q x y bs) = try_row x y (for_branches P c bs) (select_row bs)

    tested_row : length env + saved_count K ≤ Z.entries → (p : ℕ) (bs : Branches) (v : Tree) → Entries (for_tested P bs v) (tested_handed P Z p bs K env a v) (tested_handed P Y p bs K env a v)
    unfolding rules
    tested_row k p bs (built c vs) = select_row k p c vs bs
    tested_row k p bs (int z) = row_stuck
    tested_row k p bs (bool b) = row_stuck
    tested_row k p bs (symbol i) = row_stuck
    tested_row k p bs unit = row_stuck
    tested_row k p bs (function i) = row_stuck

  row_there : {m n n' : ℕ} {x y : Outcome} → n ≡ n' → Row (Wants Z m n) x y → Row (Wants Z m n') x y
  row_there {m} {x = x} {y = y} e r = subst (λ (n : ℕ). Row (Wants Z m n) x y) e r

  hand_row : (f : Frame) (env : Environment) (v : Tree) → 1 + length K ≤ Z.frames → length env + (length (saved f) + saved_count K) ≤ Z.entries
      → Row (Wants Z (0 + suc (length K)) (for_frame P f v + (length env + (length (saved f) + saved_count K)))) (hand P Z f K env a v) (hand P Y f K env a v)
  unfolding rules
  hand_row (if_test p x y) env v h k = plainly (none_wanted Z _ _ (omega arith) (omega arith)) (test_plain p x y env v)
  hand_row (if_arm p) env v h k = plainly (none_wanted Z _ _ (omega arith) (omega arith)) (plain_goes tt)
  hand_row (begin_part p es) env v h k = plainly (none_wanted Z _ _ (omega arith) (omega arith)) (part_plain p es env v)
  hand_row (let_binding p x bs y n) env v h k = row_there (omega arith) (entries_row _ (omega arith) env 1 (bind_plain p bs y n (full x.bytes v ∷ env)))
  hand_row (scope_end p n) env v h k = plainly (none_wanted Z _ _ (omega arith) (omega arith)) (end_plain v (leave_names n env))
  hand_row (case_test p bs) env v h k = row_there {n = for_tested P bs v + (length env + saved_count K)} (omega arith) (tested_row _ (omega arith) env (omega arith) p bs v)
  hand_row (head_value p es) env v h k = plainly (none_wanted Z _ _ (omega arith) (omega arith)) (head_plain p es env v)
  hand_row (next_argument p t c es) env v h k = row_there (omega arith) (entries_row _ (omega arith) env 1 (proceed_plain p t (c + 1) es (argument v ∷ env)))
  hand_row (body_value p kept) env v h k = plainly (none_wanted Z _ _ (omega arith) (omega arith)) (plain_goes tt)
  hand_row (main_value p) env v h k = plainly (none_wanted Z _ _ (omega arith) (omega arith)) (plain_goes tt)

step_row : (P : Program) (Z Y : Sizes) (main : Option Define) (s : State) → waiting s ≤ Z.frames → entered s ≤ Z.entries → Row (Lacks P Z s) (step P Z main s) (step P Y main s)
unfolding rules
step_row P Z Y main (st K env opened a) h k = main_row P Z Y K a _ (omega arith) h env main
step_row P Z Y main (st K env (enter x) a) h k = enter_row P Z Y K a _ (omega arith) h x env
step_row P Z Y main (st [] env (finished v) a) h k = row_stuck
step_row P Z Y main (st (f ∷ K) env (finished v) a) h k = hand_row P Z Y K a f env v (omega arith) k
step_row P Z Y main (st K env over a) h k = row_stuck

-- what the two outcomes say
stuck_too : {L : Type 0} {x y : Outcome} → Row L x y → x ≡ stuck → y ≡ stuck
stuck_too row_stuck e = refl
stuck_too row_branch e = e
stuck_too (row_full l y) e = let z : ◌≡◌ {A = ℕ} 0 1 = cc in absurd (omega arith)
stuck_too (row_goes n y) e = let z : ◌≡◌ {A = ℕ} 0 1 = cc in absurd (omega arith)
stuck_too (row_fails k n y) e = let z : ◌≡◌ {A = ℕ} 0 1 = cc in absurd (omega arith)

branch_too : {L : Type 0} {x y : Outcome} → Row L x y → x ≡ fails NoBranch None → y ≡ fails NoBranch None
branch_too row_stuck e = e
branch_too row_branch e = refl
branch_too (row_full l y) e = let z : ◌≡◌ {A = ℕ} 0 1 = cc in absurd (omega arith)
branch_too (row_goes n y) e = let z : ◌≡◌ {A = ℕ} 0 1 = cc in absurd (omega arith)
branch_too (row_fails {kind = kind} k n y) e = let same : kind ≡ NoBranch = cc in absurd (subst Later same k)

lacks_it : {L : Type 0} {x y : Outcome} → Row L x y → x ≡ fails StackFull None → L
lacks_it row_stuck e = let z : ◌≡◌ {A = ℕ} 0 1 = cc in absurd (omega arith)
lacks_it row_branch e = let z : ◌≡◌ {A = ℕ} 0 1 = cc in absurd (omega arith)
lacks_it (row_full l y) e = l
lacks_it (row_goes n y) e = let z : ◌≡◌ {A = ℕ} 0 1 = cc in absurd (omega arith)
lacks_it (row_fails {kind = kind} k n y) e = let same : kind ≡ StackFull = cc in absurd (subst Later same k)

full_it : {L : Type 0} {x y : Outcome} → Row L x y → L → x ≢ stuck → x ≢ fails NoBranch None → x ≡ fails StackFull None
full_it row_stuck l n o = absurd (n refl)
full_it row_branch l n o = absurd (o refl)
full_it (row_full k y) l n o = refl
full_it (row_goes k y) l n o = absurd (k l)
full_it (row_fails j k y) l n o = absurd (k l)

pub short_of_entries : ShortOfEntries
short_of_entries P Z allowance input cs =
    let s = (reached P Z allowance (opened_run input) cs).state in
    let h = stacks P Z allowance input cs in
    record {
      nothing = λ Y. stuck_too (step_row P Z Y (main_of P) s h.frames h.entries);
      branch = λ Y. branch_too (step_row P Z Y (main_of P) s h.frames h.entries);
      lacks = lacks_it (step_row P Z Z (main_of P) s h.frames h.entries);
      faults = full_it (step_row P Z Z (main_of P) s h.frames h.entries);
    }
