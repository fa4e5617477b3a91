-- Each step keeps to the symbols that a state holds, and to the literals.
use Rattle.std.proofs.Common.{◌≡◌, ℕ, zero, suc, ◌+◌, ◌-◌, Bool, true, false, cond, List, [], ◌∷◌, map, Some, None, Option, refl}
use Rattle.std.specs.List.{slice_get}
use Rattle.std.specs.Str.{bytes_eq}
use Rattle.basis.specs.Calls as calls
use Rattle.basis.specs.Numbers.{numbered}
use Rattle.basis.specs.declared.applied.Applied.{Applied}
use Rattle.basis.specs.declared.applied.Applied.TheVariants as applied
use Rattle.basis.specs.declared.function.Basis.{Basis}
use Rattle.basis.specs.declared.plain.Plain.{Plain}
use Rattle.data.specs.Trees.{Tree, int, bool, symbol, unit, function, built, Trees, none, more, cost, size}
use Rattle.grammar.specs.Trees as tree
use Rattle.grammar.specs.Trees.{PatternPart, bound, skipped, Pattern, wildcard, constructor, Expr, Exprs, no_exprs, and_expr, Bindings, no_bindings, and_binding, Branches, last_branch, and_branch}
use Rattle.layout.specs.Literals.{place_of_first}
use Rattle.program.specs.Compiling.{binding_count}
use Rattle.program.specs.Programs as means
use Rattle.program.specs.Programs.{Name, Program, Define, Val, Global, global_of, basis_count}
use Rattle.program.specs.Scopes.{names_inside}
use Rattle.rules.specs.declared.fault.FaultKind.{FaultKind}
use Rattle.rules.specs.declared.fault.FaultKind.TheVariants.{NoBranch, TooFewCells, StackFull}
use Rattle.rules.specs.States.{Entry, full, empty, argument, Environment, Target, builds, calls, Frame, if_test, if_arm, begin_part, let_binding, scope_end, case_test, head_value, next_argument, body_value, main_value, opened, enter, finished, over, Account, State, st, takes, gives, saved}
use Rattle.rules.specs.Steps.{Outcome, goes, fails, stuck, Sizes, needs, Looked, got, consumed, absent, left, behind, look, Taken, took, short, more_by_one, take_arguments, Bound, binds, unfit, giving, bind_parts, leave_names, plains_of, is_constructor, rules, waits, finish, build, answer, call_plain, call_basis, enter_body, call_define, call_number, apply, proceed, bind_next, val_entered, enter_global, enter_name, dup_entered, enter_construct, is_local, enter_named, enter_apply, enter_expr, enter_branch, try_branch, select_branch, hand_end, hand, main_called, step}
use Rattle.stepping.specs.Speaking.{SymbolsIn, SymbolsInAll, SymbolsInEntry, SymbolsInEntries, SymbolsInFrames, SymbolsHeld}

module _ (Q : ℕ → Type 0) where
  -- the state that a step leads to, if it leads to one
  abbrev pub Leads : Outcome → Type 0
  Leads (goes bytes s) = SymbolsHeld Q s
  Leads (fails kind f) = Unit {0}
  Leads stuck = Unit {0}

  needs_leads : (kind : FaultKind) (b : Bool) (o : Outcome) → Leads o → Leads (needs kind b o)
  needs_leads kind true (goes bytes s) h = h
  needs_leads kind false (goes bytes s) h = tt
  needs_leads kind true (fails k f) h = tt
  needs_leads kind false (fails k f) h = tt
  needs_leads kind b stuck h = tt

  cond_leads : (b : Bool) (x y : Outcome) → Leads x → Leads y → Leads (cond b x y)
  cond_leads true x y h k = h
  cond_leads false x y h k = k

  -- a name that is entered
  abbrev InLooked : Looked → Type 0
  InLooked (got v env) = SymbolsIn Q v × SymbolsInEntries Q env
  InLooked consumed = Unit {0}
  InLooked absent = Unit {0}

  behind_in : (s : Entry) (l : Looked) → SymbolsInEntry Q s → InLooked l → InLooked (behind s l)
  behind_in s (got v env) h k = (k.0, (h, k.1))
  behind_in s consumed h k = tt
  behind_in s absent h k = tt

  left_in : (x : Name) (v : Tree) → SymbolsIn Q v → SymbolsInEntry Q (left x v)
  left_in x (int z) h = tt
  left_in x (bool b) h = tt
  left_in x (symbol n) h = h
  left_in x unit h = tt
  left_in x (function n) h = tt
  left_in x (built c vs) h = tt

  full_in : (b : Bool) (x : Name) (v : Tree) (env : Environment) (l : Looked) → SymbolsIn Q v → SymbolsInEntries Q env → InLooked l → InLooked (cond b (got v (left x v ∷ env)) (behind (full x v) l))
  full_in true x v env l h k i = (h, (left_in x v h, k))
  full_in false x v env l h k i = behind_in (full x v) l h i

  empty_in : (b : Bool) (x : Name) (l : Looked) → InLooked l → InLooked (cond b consumed (behind (empty x) l))
  empty_in true x l i = tt
  empty_in false x l i = behind_in (empty x) l tt i

  look_in : (w : Name) (env : Environment) → SymbolsInEntries Q env → InLooked (look w env)
  look_in w [] h = tt
  look_in w (full x v ∷ env) h = full_in (bytes_eq w x) x v env (look w env) h.0 h.1 (look_in w env h.1)
  look_in w (empty x ∷ env) h = empty_in (bytes_eq w x) x (look w env) (look_in w env h.1)
  look_in w (argument v ∷ env) h = behind_in (argument v) (look w env) h.0 (look_in w env h.1)

  -- arguments that are taken off the entries
  abbrev InTaken : Taken → Type 0
  InTaken (took vs env) = SymbolsInAll Q vs × SymbolsInEntries Q env
  InTaken short = Unit {0}

  one_more_in : (t : Taken) → InTaken t → InTaken (more_by_one t)
  one_more_in (took vs []) h = tt
  one_more_in (took vs (full x v ∷ env)) h = tt
  one_more_in (took vs (empty x ∷ env)) h = tt
  one_more_in (took vs (argument v ∷ env)) h = ((h.1.0, h.0), h.1.1)
  one_more_in short h = tt

  take_in : (k : ℕ) (env : Environment) → SymbolsInEntries Q env → InTaken (take_arguments k env)
  take_in zero env h = (tt, h)
  take_in (suc k) env h = one_more_in (take_arguments k env) (take_in k env h)

  -- names that are bound or leave
  abbrev InBound : Bound → Type 0
  InBound (binds env m) = SymbolsInEntries Q env
  InBound unfit = Unit {0}

  giving_in : (m : ℕ) (b : Bound) → InBound b → InBound (giving m b)
  giving_in m (binds env n) h = h
  giving_in m unfit h = tt

  bind_in : (xs : List PatternPart) (vs : Trees) (env : Environment) → SymbolsInAll Q vs → SymbolsInEntries Q env → InBound (bind_parts xs vs env)
  bind_in [] none env h k = k
  bind_in [] (more v vs) env h k = tt
  bind_in (x ∷ xs) none env h k = tt
  bind_in (bound x ∷ xs) (more v vs) env h k = bind_in xs vs (full x.bytes v ∷ env) h.1 (h.0, k)
  bind_in (skipped p ∷ xs) (more v vs) env h k = giving_in (size v) (bind_parts xs vs env) (bind_in xs vs env h.1 k)

  leave_in : (n : ℕ) (env : Environment) → SymbolsInEntries Q env → InBound (leave_names n env)
  leave_in zero env h = h
  leave_in (suc n) [] h = tt
  leave_in (suc n) (full x v ∷ env) h = giving_in (size v) (leave_names n env) (leave_in n env h.1)
  leave_in (suc n) (empty x ∷ env) h = leave_in n env h.1
  leave_in (suc n) (argument v ∷ env) h = tt

  module _ (P : Program) (Z : Sizes) (p : ℕ) (a : Account) (K : List Frame) (f : SymbolsInFrames Q K) where
    name_leads : (w : Name) (env : Environment) (l : Looked) → Leads (enter_global P Z p K env a (global_of P w)) → InLooked l → Leads (enter_name P Z p w K env a l)
    unfolding rules
    name_leads w env (got v after) g h = (f, h.1, h.0)
    name_leads w env consumed g h = tt
    name_leads w env absent g h = g

    dup_leads : (env : Environment) (l : Looked) → InLooked l → SymbolsInEntries Q env → Leads (dup_entered P Z K env a l)
    unfolding rules
    dup_leads env (got v after) h k = needs_leads TooFewCells _ (finish P Z v K env (takes (size v) a)) (f, k, h.0)
    dup_leads env consumed h k = tt
    dup_leads env absent h k = tt

    build_leads : (c : ℕ) (all : Environment) (t : Taken) → InTaken t → Leads (build P Z c K all a t)
    unfolding rules
    build_leads c all (took vs env) h = needs_leads TooFewCells _ (finish P Z (built c vs) K env (takes (cost vs) a)) (f, h.1, h.0)
    build_leads c all short h = tt

    answer_leads : (b : Basis) (env : Environment) (r : Applied) → SymbolsInEntries Q env → Leads (answer P Z b K env a r)
    unfolding rules
    answer_leads b env (applied.Int z) h = (f, h, tt)
    answer_leads b env (applied.Bool x) h = (f, h, tt)
    answer_leads b env (applied.Prints q) h = (f, h, tt)
    answer_leads b env applied.Reads h = (f, h, tt)
    answer_leads b env (applied.Faults k) h = tt
    answer_leads b env applied.Mismatch h = tt

    plain_leads : (b : Basis) (env : Environment) (vs : Option (List Plain)) → SymbolsInEntries Q env → Leads (call_plain P Z b K env a vs)
    unfolding rules
    plain_leads b env None h = tt
    plain_leads b env (Some vs) h = answer_leads b env (calls.applied b vs) h

    basis_leads : (b : Basis) (t : Taken) → InTaken t → Leads (call_basis P Z b K a t)
    unfolding rules
    basis_leads b (took vs env) h = plain_leads b env (plains_of vs) h.1
    basis_leads b short h = tt

    body_leads : (x : Expr) (env : Environment) (b : Bound) → InBound b → SymbolsInEntries Q env → Leads (enter_body P Z p x K env a b)
    unfolding rules
    body_leads x env (binds names m) h k = ((k, f), h, tt)
    body_leads x env unfit h k = tt

    define_leads : (d : Define) (t : Taken) → InTaken t → Leads (call_define P Z p d K a t)
    unfolding rules
    define_leads d (took vs env) h = body_leads d.body env (bind_parts (map bound d.parameters) vs []) (bind_in (map bound d.parameters) vs [] h.0 tt) h.1
    define_leads d short h = tt

    module _ (env : Environment) (e : SymbolsInEntries Q env) where
      number_leads : (n k : ℕ) (b : Option Basis) (d : Option Define) → Leads (call_number P Z p n k K env a b d)
      unfolding rules
      number_leads n k (Some b) d = basis_leads b (take_arguments k env) (take_in k env e)
      number_leads n k None (Some d) = define_leads d (take_arguments k env) (take_in k env e)
      number_leads n k None None = tt

      apply_leads : (t : Target) (k : ℕ) → Leads (apply P Z p t k K env a)
      unfolding rules
      apply_leads (builds c) k = build_leads c env (take_arguments k env) (take_in k env e)
      apply_leads (calls n) k = number_leads n k (numbered n) (slice_get P.defines (n - basis_count))

      proceed_leads : (t : Target) (k : ℕ) (es : Exprs) → Leads (proceed P Z p t k es K env a)
      unfolding rules
      proceed_leads t k no_exprs = apply_leads t k
      proceed_leads t k (and_expr x es) = ((tt, f), e, tt)

      bind_leads : (bs : Bindings) (x : Expr) (n : ℕ) → Leads (bind_next P Z p bs x n K env a)
      unfolding rules
      bind_leads no_bindings x n = ((tt, f), e, tt)
      bind_leads (and_binding q y g bs) x n = ((tt, f), e, tt)

      waits_leads : (g : Frame) (x : Expr) → SymbolsInEntries Q (saved g) → Leads (waits P Z g x K env a)
      unfolding rules
      waits_leads g x h = needs_leads StackFull _ (goes [] (st (g ∷ K) env (enter x) a)) ((h, f), e, tt)

      val_leads : (v : Option Val) → Leads (val_entered P Z p K env a v)
      unfolding rules
      val_leads None = tt
      val_leads (Some v) = needs_leads StackFull _ (goes [] (st (body_value p env ∷ K) [] (enter v.expr) a)) ((e, f), tt, tt)

      global_leads : (g : Global) → Leads (enter_global P Z p K env a g)
      unfolding rules
      global_leads (means.function n) = (f, e, tt)
      global_leads (means.constructor k) = tt
      global_leads (means.val i) = val_leads (slice_get P.vals i)
      global_leads means.unbound = tt

      construct_leads : (c : ℕ) (es : Exprs) → Leads (enter_construct P Z p c es K env a)
      unfolding rules
      construct_leads c no_exprs = build_leads c env (took none env) (tt, e)
      construct_leads c (and_expr x es) = waits_leads (next_argument p (builds c) 0 es) x tt

      named_leads : (x : Expr) (es : Exprs) (g : Global) → Leads (enter_named P Z p x es K env a g)
      unfolding rules
      named_leads x es (means.function n) = waits_leads (head_value p es) x tt
      named_leads x es (means.constructor c) = construct_leads c es
      named_leads x es (means.val i) = waits_leads (head_value p es) x tt
      named_leads x es means.unbound = waits_leads (head_value p es) x tt

      head_leads : (x : Expr) (es : Exprs) → Leads (enter_apply P Z p x es K env a)
      unfolding rules
      head_leads (tree.name q w) es = cond_leads (is_local P Z (look w env)) _ _ (waits_leads (head_value p es) (tree.name q w) tt) (named_leads (tree.name q w) es (global_of P w))
      head_leads (tree.integer q z) es = waits_leads (head_value p es) _ tt
      head_leads (tree.symbol q w) es = waits_leads (head_value p es) _ tt
      head_leads (tree.boolean q b) es = waits_leads (head_value p es) _ tt
      head_leads (tree.unit q) es = waits_leads (head_value p es) _ tt
      head_leads (tree.if_expr q x y z) es = waits_leads (head_value p es) _ tt
      head_leads (tree.begin_expr q x xs) es = waits_leads (head_value p es) _ tt
      head_leads (tree.let_expr q bs x) es = waits_leads (head_value p es) _ tt
      head_leads (tree.case_expr q x bs) es = waits_leads (head_value p es) _ tt
      head_leads (tree.dup_expr q x) es = waits_leads (head_value p es) _ tt
      head_leads (tree.apply_expr q x xs) es = waits_leads (head_value p es) _ tt

  module _ (P : Program) (Z : Sizes) (a : Account) (K : List Frame) (f : SymbolsInFrames Q K) where
    -- a literal's symbol has the property
    enter_leads : (env : Environment) (x : Expr) → ((p : ℕ) (w : List ℕ) → x ≡ tree.symbol p w → Q (place_of_first P.literals w)) → SymbolsInEntries Q env → Leads (enter_expr P Z K env a x)
    unfolding rules
    enter_leads env (tree.integer p z) q e = (f, e, tt)
    enter_leads env (tree.symbol p w) q e = (f, e, q p w refl)
    enter_leads env (tree.boolean p b) q e = (f, e, tt)
    enter_leads env (tree.unit p) q e = (f, e, tt)
    enter_leads env (tree.name p w) q e = name_leads P Z p a K f w env (look w env) (global_leads P Z p a K f env e (global_of P w)) (look_in w env e)
    enter_leads env (tree.dup_expr p x) q e = dup_leads P Z p a K f env (look x.bytes env) (look_in x.bytes env e) e
    enter_leads env (tree.if_expr p x y z) q e = waits_leads P Z p a K f env e (if_test p y z) x tt
    enter_leads env (tree.begin_expr p x xs) q e = waits_leads P Z p a K f env e (begin_part p xs) x tt
    enter_leads env (tree.let_expr p bs x) q e = needs_leads StackFull _ (bind_next P Z p bs x (binding_count bs) K env a) (bind_leads P Z p a K f env e bs x (binding_count bs))
    enter_leads env (tree.case_expr p x bs) q e = waits_leads P Z p a K f env e (case_test p bs) x tt
    enter_leads env (tree.apply_expr p x xs) q e = head_leads P Z p a K f env e x xs

    branch_leads : (p n : ℕ) (x : Expr) (env : Environment) (b : Bound) → InBound b → Leads (enter_branch P Z p n x K env a b)
    unfolding rules
    branch_leads p n x env (binds after m) h = needs_leads StackFull _ (goes [] (st (scope_end p n ∷ K) after (enter x) (gives m a))) ((tt, f), h, tt)
    branch_leads p n x env unfit h = tt

    module _ (p c : ℕ) (vs : Trees) (env : Environment) (h : SymbolsInAll Q vs) (e : SymbolsInEntries Q env) where
      try_leads : (x : Pattern) (y : Expr) (other : Outcome) → Leads other → Leads (try_branch P Z p x y c vs K env a other)
      unfolding rules
      try_leads (wildcard q) y other k = ((tt, f), e, tt)
      try_leads (constructor q g xs) y other k =
          cond_leads (is_constructor c (global_of P g.bytes)) (enter_branch P Z p (names_inside xs) y K env a (giving (cost vs) (bind_parts xs vs env))) other
          (branch_leads p (names_inside xs) y env (giving (cost vs) (bind_parts xs vs env)) (giving_in (cost vs) (bind_parts xs vs env) (bind_in xs vs env h e))) k

      select_leads : (bs : Branches) → Leads (select_branch P Z p bs c vs K env a)
      unfolding rules
      select_leads (last_branch q x y) = try_leads x y (fails NoBranch None) tt
      select_leads (and_branch q x y bs) = try_leads x y (select_branch P Z p bs c vs K env a) (select_leads bs)

    end_leads : (v : Tree) (b : Bound) → SymbolsIn Q v → InBound b → Leads (hand_end P Z K a v b)
    unfolding rules
    end_leads v (binds env m) h k = (f, k, h)
    end_leads v unfit h k = tt

    hand_leads : (g : Frame) (env : Environment) (v : Tree) → SymbolsInEntries Q (saved g) → SymbolsInEntries Q env → SymbolsIn Q v → Leads (hand P Z g K env a v)
    unfolding rules
    hand_leads (if_test p x y) env (bool true) s e h = ((tt, f), e, tt)
    hand_leads (if_test p x y) env (bool false) s e h = ((tt, f), e, tt)
    hand_leads (if_test p x y) env (int z) s e h = tt
    hand_leads (if_test p x y) env (symbol n) s e h = tt
    hand_leads (if_test p x y) env unit s e h = tt
    hand_leads (if_test p x y) env (function n) s e h = tt
    hand_leads (if_test p x y) env (built c vs) s e h = tt
    hand_leads (if_arm p) env v s e h = (f, e, h)
    hand_leads (begin_part p no_exprs) env v s e h = (f, e, h)
    hand_leads (begin_part p (and_expr x xs)) env v s e h = ((tt, f), e, tt)
    hand_leads (let_binding p x bs y n) env v s e h = needs_leads StackFull _ (bind_next P Z p bs y n K (full x.bytes v ∷ env) a) (bind_leads P Z p a K f (full x.bytes v ∷ env) (h, e) bs y n)
    hand_leads (scope_end p n) env v s e h = end_leads v (leave_names n env) h (leave_in n env e)
    hand_leads (case_test p bs) env (built c vs) s e h = select_leads p c vs env h e bs
    hand_leads (case_test p bs) env (int z) s e h = tt
    hand_leads (case_test p bs) env (bool b) s e h = tt
    hand_leads (case_test p bs) env (symbol n) s e h = tt
    hand_leads (case_test p bs) env unit s e h = tt
    hand_leads (case_test p bs) env (function n) s e h = tt
    hand_leads (head_value p es) env (function n) s e h = proceed_leads P Z p a K f env e (calls n) 0 es
    hand_leads (head_value p es) env (int z) s e h = tt
    hand_leads (head_value p es) env (bool b) s e h = tt
    hand_leads (head_value p es) env (symbol n) s e h = tt
    hand_leads (head_value p es) env unit s e h = tt
    hand_leads (head_value p es) env (built c vs) s e h = tt
    hand_leads (next_argument p t k es) env v s e h = needs_leads StackFull _ (proceed P Z p t (k + 1) es K (argument v ∷ env) a) (proceed_leads P Z p a K f (argument v ∷ env) (h, e) t (k + 1) es)
    hand_leads (body_value p kept) env v s e h = (f, s, h)
    hand_leads (main_value p) env v s e h = (f, tt, tt)

    main_leads : (env : Environment) (d : Option Define) → SymbolsInEntries Q env → Leads (main_called P Z K env a d)
    unfolding rules
    main_leads env None e = tt
    main_leads env (Some d) e = waits_leads P Z 0 a K f env e (main_value d.place) d.body tt

  -- a state whose next expression is a literal's symbol
  abbrev pub Literals : Program → State → Type 0
  Literals P (st K env opened a) = Unit {0}
  Literals P (st K env (enter x) a) = (p : ℕ) (w : List ℕ) → x ≡ tree.symbol p w → Q (place_of_first P.literals w)
  Literals P (st K env (finished v) a) = Unit {0}
  Literals P (st K env over a) = Unit {0}

  pub step_leads : (P : Program) (Z : Sizes) (main : Option Define) (s : State) → Literals P s → SymbolsHeld Q s → Leads (step P Z main s)
  unfolding rules
  step_leads P Z main (st K env opened a) q h = main_leads P Z a K h.0 env main h.1
  step_leads P Z main (st K env (enter x) a) q h = enter_leads P Z a K h.0 env x q h.1
  step_leads P Z main (st [] env (finished v) a) q h = tt
  step_leads P Z main (st (f ∷ K) env (finished v) a) q h = hand_leads P Z a K h.0.1 f env v h.0.0 h.1 h.2
  step_leads P Z main (st K env over a) q h = tt
