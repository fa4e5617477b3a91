-- The steps of a run, one by one. A step enters an expression, or hands a finished value to the expression that waits for it.
use Rattle.std.specs.Prelude.{ℕ, zero, suc, ◌+◌, ◌-◌, Bool, true, false, cond, List, [], ◌∷◌, map, length, ℤ, pos, negsuc, Some, None, Option, ◌==◌, nat_le, nat_lt}
use Rattle.std.specs.List.{slice_get}
use Rattle.std.specs.Str.{bytes_eq}
use Rattle.basis.specs.Calls.{applied}
use Rattle.basis.specs.Numbers.{numbered}
use Rattle.basis.specs.Printing.{printed}
use Rattle.basis.specs.declared.applied.Applied.{Applied}
use Rattle.basis.specs.declared.applied.Applied.TheVariants as applied
use Rattle.basis.specs.declared.fault.ArithmeticFault.{ArithmeticFault}
use Rattle.basis.specs.declared.fault.ArithmeticFault.TheVariants as arithmetic
use Rattle.basis.specs.declared.function.Basis.{Basis}
use Rattle.basis.specs.declared.plain.Plain.{Plain}
use Rattle.basis.specs.declared.plain.Plain.TheVariants as plain
use Rattle.basis.specs.declared.print.Print.{Print}
use Rattle.basis.specs.declared.print.Print.TheVariants as print
use Rattle.data.specs.Trees.{Tree, int, bool, symbol, unit, function, built, Trees, none, more, cost, size}
use Rattle.layout.specs.Literals.{Literal, place_of_first}
use Rattle.grammar.specs.Trees as tree
use Rattle.grammar.specs.Trees.{Ident, PatternPart, bound, skipped, Pattern, wildcard, constructor, Expr, Exprs, no_exprs, and_expr, Bindings, no_bindings, and_binding, Branches, last_branch, and_branch, place_of}
use Rattle.program.specs.Programs as means
use Rattle.program.specs.Programs.{Name, Program, Variant, Define, Val, Global, global_of, basis_count, first_of}
use Rattle.program.specs.Compiling.{binding_count}
use Rattle.program.specs.Scopes.{names_inside}
use Rattle.rules.specs.declared.fault.FaultKind.{FaultKind}
use Rattle.rules.specs.declared.fault.FaultKind.TheVariants.{NoBranch, ZeroDivisor, BadShift, TooFewCells, StackFull}
use Rattle.rules.specs.States.{Entry, full, empty, argument, Environment, Target, builds, calls, Frame, if_test, if_arm, begin_part, let_binding, scope_end, case_test, head_value, next_argument, body_value, main_value, opened, enter, finished, over, Account, State, st, takes, gives, leaves, environment_size, saved_size, saved_count}

-- What a step comes to: it prints these bytes and leads to this state; or it faults, for arithmetic in this function of the basis;
-- or the rules have nothing for it.
pub data Outcome : Type 0 where
  goes : List ℕ → State → Outcome
  fails : FaultKind → Option Basis → Outcome
  stuck : Outcome

-- what a run is given: the cells free at opening, and the sizes of the two stacks
pub record Sizes : Type 0 where
  pub cells : ℕ
  pub frames : ℕ
  pub entries : ℕ

-- a step that needs something; to be stuck comes before every fault
abbrev pub needs : FaultKind → Bool → Outcome → Outcome
needs kind b (goes bytes s) = cond b (goes bytes s) (fails kind None)
needs kind b (fails k f) = cond b (fails k f) (fails kind None)
needs kind b stuck = stuck

-- Entering a local name: its value, and the entries afterwards. Data leaves the name empty.
pub data Looked : Type 0 where
  got : Tree → Environment → Looked
  consumed : Looked
  absent : Looked

abbrev pub left : Name → Tree → Entry
left x (int z) = full x (int z)
left x (bool b) = full x (bool b)
left x (symbol n) = full x (symbol n)
left x unit = full x unit
left x (function n) = full x (function n)
left x (built c vs) = empty x

abbrev pub behind : Entry → Looked → Looked
behind s (got v env) = got v (s ∷ env)
behind s consumed = consumed
behind s absent = absent

abbrev pub look : Name → Environment → Looked
look w [] = absent
look w (full x v ∷ env) = cond (bytes_eq w x) (got v (left x v ∷ env)) (behind (full x v) (look w env))
look w (empty x ∷ env) = cond (bytes_eq w x) consumed (behind (empty x) (look w env))
look w (argument v ∷ env) = behind (argument v) (look w env)

-- The newest arguments, the oldest of them first, and the entries below.
pub data Taken : Type 0 where
  took : Trees → Environment → Taken
  short : Taken

abbrev pub more_by_one : Taken → Taken
more_by_one (took vs []) = short
more_by_one (took vs (full x v ∷ env)) = short
more_by_one (took vs (empty x ∷ env)) = short
more_by_one (took vs (argument v ∷ env)) = took (more v vs) env
more_by_one short = short

abbrev pub take_arguments : ℕ → Environment → Taken
take_arguments zero env = took none env
take_arguments (suc n) env = more_by_one (take_arguments n env)

-- Entries after names were bound or left, and the cells given back by it.
pub data Bound : Type 0 where
  binds : Environment → ℕ → Bound
  unfit : Bound

abbrev pub giving : ℕ → Bound → Bound
giving n (binds env m) = binds env (n + m)
giving n unfit = unfit

-- the fields of data bound to the names of a pattern; those under _ are dropped
abbrev pub bind_parts : List PatternPart → Trees → Environment → Bound
bind_parts [] none env = binds env 0
bind_parts [] (more v vs) env = unfit
bind_parts (x ∷ xs) none env = unfit
bind_parts (bound x ∷ xs) (more v vs) env = bind_parts xs vs (full x.bytes v ∷ env)
bind_parts (skipped p ∷ xs) (more v vs) env = giving (size v) (bind_parts xs vs env)

-- the newest names leave, and those still full are dropped
abbrev pub leave_names : ℕ → Environment → Bound
leave_names zero env = binds env 0
leave_names (suc n) [] = unfit
leave_names (suc n) (full x v ∷ env) = giving (size v) (leave_names n env)
leave_names (suc n) (empty x ∷ env) = leave_names n env
leave_names (suc n) (argument v ∷ env) = unfit

-- a plain value, as the basis takes it
abbrev pub plain_of : Tree → Option Plain
plain_of (int z) = Some (plain.Int z)
plain_of (bool b) = Some (plain.Bool b)
plain_of (symbol n) = Some (plain.Sym n)
plain_of unit = Some plain.Unit
plain_of (function n) = None
plain_of (built c vs) = None

abbrev pub and_plain : Option Plain → Option (List Plain) → Option (List Plain)
and_plain None vs = None
and_plain (Some v) None = None
and_plain (Some v) (Some vs) = Some (v ∷ vs)

abbrev pub plains_of : Trees → Option (List Plain)
plains_of none = Some []
plains_of (more v vs) = and_plain (plain_of v) (plains_of vs)

abbrev pub fault_kind : ArithmeticFault → FaultKind
fault_kind arithmetic.ZeroDivisor = ZeroDivisor
fault_kind arithmetic.BadShift = BadShift

-- the next byte of the input, -1 at its end, and what is left
abbrev pub first_byte : List ℕ → ℤ
first_byte [] = negsuc 0
first_byte (b ∷ bs) = pos b

abbrev pub later_bytes : List ℕ → List ℕ
later_bytes [] = []
later_bytes (b ∷ bs) = bs

-- the bytes of the literal at a place
abbrev pub bytes_at : ℕ → List Literal → List ℕ
bytes_at n [] = []
bytes_at n (l ∷ ls) = cond (n == l.place) l.bytes (bytes_at n ls)

-- the bytes between the quotes of a symbol's literal
abbrev pub symbol_body : List Literal → Print → List ℕ
symbol_body ls (print.Int n) = []
symbol_body ls (print.Bool b) = []
symbol_body ls (print.Sym n) = bytes_at n ls
symbol_body ls print.Unit = []
symbol_body ls print.Newline = []
symbol_body ls (print.Byte b) = []

-- whether the head of a pattern or of an application names this constructor
abbrev pub is_constructor : ℕ → Global → Bool
is_constructor c (means.function n) = false
is_constructor c (means.constructor k) = c == k
is_constructor c (means.val i) = false
is_constructor c means.unbound = false

module _ (P : Program) (Z : Sizes) where
  -- one more expression waits
  unfoldable pub waits : Frame → Expr → List Frame → Environment → Account → Outcome
  waits f e K env a = needs StackFull (nat_lt (length K) Z.frames) (goes [] (st (f ∷ K) env (enter e) a))

  -- a value is finished
  unfoldable pub finish : Tree → List Frame → Environment → Account → Outcome
  finish v K env a = goes [] (st K env (finished v) a)

  -- n entries more, beside those there are
  unfoldable pub has_entries : ℕ → List Frame → Environment → Bool
  has_entries n K env = nat_le (n + (length env + saved_count K)) Z.entries

  -- n cells more, beside those held in entries
  unfoldable pub has_cells : ℕ → List Frame → Environment → Bool
  has_cells n K env = nat_le (n + (saved_size K + environment_size env)) Z.cells

  -- The call of a function, or data is built: the arguments are all there.
  unfoldable pub build : ℕ → List Frame → Environment → Account → Taken → Outcome
  build c K all a short = stuck
  build c K all a (took vs env) = needs TooFewCells (has_cells (cost vs) K all) (finish (built c vs) K env (takes (cost vs) a))

  unfoldable pub answer : Basis → List Frame → Environment → Account → Applied → Outcome
  answer f K env a (applied.Int z) = finish (int z) K env a
  answer f K env a (applied.Bool b) = finish (bool b) K env a
  answer f K env a (applied.Prints p) = goes (printed p (symbol_body P.literals p)) (st K env (finished unit) a)
  answer f K env a applied.Reads = finish (int (first_byte a.input)) K env (leaves (later_bytes a.input) a)
  answer f K env a (applied.Faults e) = fails (fault_kind e) (Some f)
  answer f K env a applied.Mismatch = stuck

  unfoldable pub call_plain : Basis → List Frame → Environment → Account → Option (List Plain) → Outcome
  call_plain f K env a None = stuck
  call_plain f K env a (Some vs) = answer f K env a (applied f vs)

  unfoldable pub call_basis : Basis → List Frame → Account → Taken → Outcome
  call_basis f K a short = stuck
  call_basis f K a (took vs env) = call_plain f K env a (plains_of vs)

  -- the arguments become the function's names, in the same entries, and its body is next
  unfoldable pub enter_body : ℕ → Expr → List Frame → Environment → Account → Bound → Outcome
  enter_body p e K env a unfit = stuck
  enter_body p e K env a (binds names n) = goes [] (st (body_value p env ∷ K) names (enter e) a)

  unfoldable pub call_define : ℕ → Define → List Frame → Account → Taken → Outcome
  call_define p d K a short = stuck
  call_define p d K a (took vs env) = enter_body p d.body K env a (bind_parts (map bound d.parameters) vs [])

  unfoldable pub call_number : ℕ → ℕ → ℕ → List Frame → Environment → Account → Option Basis → Option Define → Outcome
  call_number p n k K env a (Some f) d = call_basis f K a (take_arguments k env)
  call_number p n k K env a None (Some d) = call_define p d K a (take_arguments k env)
  call_number p n k K env a None None = stuck

  -- an application at p with all its k arguments, the newest entries
  unfoldable pub apply : ℕ → Target → ℕ → List Frame → Environment → Account → Outcome
  apply p (builds c) k K env a = build c K env a (take_arguments k env)
  apply p (calls n) k K env a = call_number p n k K env a (numbered n) (slice_get P.defines (n - basis_count))

  -- an application that has k arguments goes on: with the next one, or with what it does
  unfoldable pub proceed : ℕ → Target → ℕ → Exprs → List Frame → Environment → Account → Outcome
  proceed p t k no_exprs K env a = apply p t k K env a
  proceed p t k (and_expr e es) K env a = goes [] (st (next_argument p t k es ∷ K) env (enter e) a)

  -- a let goes on: with the next binding, or with its body
  unfoldable pub bind_next : ℕ → Bindings → Expr → ℕ → List Frame → Environment → Account → Outcome
  bind_next p no_bindings e n K env a = goes [] (st (scope_end p n ∷ K) env (enter e) a)
  bind_next p (and_binding q x f bs) e n K env a = goes [] (st (let_binding p x bs e n ∷ K) env (enter f) a)

  -- Entering an expression.
  unfoldable pub val_entered : ℕ → List Frame → Environment → Account → Option Val → Outcome
  val_entered p K env a None = stuck
  val_entered p K env a (Some v) = waits (body_value p env) v.expr K [] a

  unfoldable pub enter_global : ℕ → List Frame → Environment → Account → Global → Outcome
  enter_global p K env a (means.function n) = finish (function n) K env a
  enter_global p K env a (means.constructor k) = stuck
  enter_global p K env a (means.val i) = val_entered p K env a (slice_get P.vals i)
  enter_global p K env a means.unbound = stuck

  unfoldable pub enter_name : ℕ → Name → List Frame → Environment → Account → Looked → Outcome
  enter_name p w K env a (got v after) = finish v K after a
  enter_name p w K env a consumed = stuck
  enter_name p w K env a absent = enter_global p K env a (global_of P w)

  -- a deep copy, one cell for each constructor
  unfoldable pub dup_entered : List Frame → Environment → Account → Looked → Outcome
  dup_entered K env a (got v after) = needs TooFewCells (has_cells (size v) K env) (finish v K env (takes (size v) a))
  dup_entered K env a consumed = stuck
  dup_entered K env a absent = stuck

  -- an application of a constructor: without fields it is done, else its first argument is next
  unfoldable pub enter_construct : ℕ → ℕ → Exprs → List Frame → Environment → Account → Outcome
  enter_construct p c no_exprs K env a = build c K env a (took none env)
  enter_construct p c (and_expr e es) K env a = waits (next_argument p (builds c) 0 es) e K env a

  unfoldable pub is_local : Looked → Bool
  is_local (got v env) = true
  is_local consumed = true
  is_local absent = false

  -- by what the name at the head means
  unfoldable pub enter_named : ℕ → Expr → Exprs → List Frame → Environment → Account → Global → Outcome
  enter_named p e es K env a (means.function n) = waits (head_value p es) e K env a
  enter_named p e es K env a (means.constructor c) = enter_construct p c es K env a
  enter_named p e es K env a (means.val i) = waits (head_value p es) e K env a
  enter_named p e es K env a means.unbound = waits (head_value p es) e K env a

  unfoldable pub enter_apply : ℕ → Expr → Exprs → List Frame → Environment → Account → Outcome
  enter_apply p (tree.name q w) es K env a = cond (is_local (look w env)) (waits (head_value p es) (tree.name q w) K env a) (enter_named p (tree.name q w) es K env a (global_of P w))
  enter_apply p (tree.integer q z) es K env a = waits (head_value p es) (tree.integer q z) K env a
  enter_apply p (tree.symbol q w) es K env a = waits (head_value p es) (tree.symbol q w) K env a
  enter_apply p (tree.boolean q b) es K env a = waits (head_value p es) (tree.boolean q b) K env a
  enter_apply p (tree.unit q) es K env a = waits (head_value p es) (tree.unit q) K env a
  enter_apply p (tree.if_expr q x y z) es K env a = waits (head_value p es) (tree.if_expr q x y z) K env a
  enter_apply p (tree.begin_expr q x xs) es K env a = waits (head_value p es) (tree.begin_expr q x xs) K env a
  enter_apply p (tree.let_expr q bs x) es K env a = waits (head_value p es) (tree.let_expr q bs x) K env a
  enter_apply p (tree.case_expr q x bs) es K env a = waits (head_value p es) (tree.case_expr q x bs) K env a
  enter_apply p (tree.dup_expr q x) es K env a = waits (head_value p es) (tree.dup_expr q x) K env a
  enter_apply p (tree.apply_expr q x xs) es K env a = waits (head_value p es) (tree.apply_expr q x xs) K env a

  unfoldable pub enter_expr : List Frame → Environment → Account → Expr → Outcome
  enter_expr K env a (tree.integer p z) = finish (int z) K env a
  enter_expr K env a (tree.symbol p w) = finish (symbol (place_of_first P.literals w)) K env a
  enter_expr K env a (tree.boolean p b) = finish (bool b) K env a
  enter_expr K env a (tree.unit p) = finish unit K env a
  enter_expr K env a (tree.name p w) = enter_name p w K env a (look w env)
  enter_expr K env a (tree.dup_expr p x) = dup_entered K env a (look x.bytes env)
  enter_expr K env a (tree.if_expr p x y z) = waits (if_test p y z) x K env a
  enter_expr K env a (tree.begin_expr p x xs) = waits (begin_part p xs) x K env a
  enter_expr K env a (tree.let_expr p bs x) = needs StackFull (nat_lt (length K) Z.frames) (bind_next p bs x (binding_count bs) K env a)
  enter_expr K env a (tree.case_expr p x bs) = waits (case_test p bs) x K env a
  enter_expr K env a (tree.apply_expr p x xs) = enter_apply p x xs K env a

  -- Handing a value over.
  unfoldable pub test_handed : ℕ → Expr → Expr → List Frame → Environment → Account → Tree → Outcome
  test_handed p x y K env a (bool true) = goes [] (st (if_arm p ∷ K) env (enter x) a)
  test_handed p x y K env a (bool false) = goes [] (st (if_arm p ∷ K) env (enter y) a)
  test_handed p x y K env a (int z) = stuck
  test_handed p x y K env a (symbol n) = stuck
  test_handed p x y K env a unit = stuck
  test_handed p x y K env a (function n) = stuck
  test_handed p x y K env a (built c vs) = stuck

  -- the first part of a begin, or the last one's value
  unfoldable pub part_handed : ℕ → Exprs → List Frame → Environment → Account → Tree → Outcome
  part_handed p no_exprs K env a v = finish v K env a
  part_handed p (and_expr e es) K env a v = goes [] (st (begin_part p es ∷ K) env (enter e) (gives (size v) a))

  -- a branch whose names are bound: it is next
  unfoldable pub enter_branch : ℕ → ℕ → Expr → List Frame → Environment → Account → Bound → Outcome
  enter_branch p n e K env a unfit = stuck
  enter_branch p n e K env a (binds after m) = needs StackFull (has_entries n K env) (goes [] (st (scope_end p n ∷ K) after (enter e) (gives m a)))

  -- a branch for the data (c vs), unless its pattern does not fit
  unfoldable pub try_branch : ℕ → Pattern → Expr → ℕ → Trees → List Frame → Environment → Account → Outcome → Outcome
  try_branch p (wildcard q) e c vs K env a other = goes [] (st (scope_end p 0 ∷ K) env (enter e) (gives (size (built c vs)) a))
  try_branch p (constructor q k xs) e c vs K env a other =
      cond (is_constructor c (global_of P k.bytes)) (enter_branch p (names_inside xs) e K env a (giving (cost vs) (bind_parts xs vs env))) other

  unfoldable pub select_branch : ℕ → Branches → ℕ → Trees → List Frame → Environment → Account → Outcome
  select_branch p (last_branch q x e) c vs K env a = try_branch p x e c vs K env a (fails NoBranch None)
  select_branch p (and_branch q x e bs) c vs K env a = try_branch p x e c vs K env a (select_branch p bs c vs K env a)

  unfoldable pub tested_handed : ℕ → Branches → List Frame → Environment → Account → Tree → Outcome
  tested_handed p bs K env a (built c vs) = select_branch p bs c vs K env a
  tested_handed p bs K env a (int z) = stuck
  tested_handed p bs K env a (bool b) = stuck
  tested_handed p bs K env a (symbol n) = stuck
  tested_handed p bs K env a unit = stuck
  tested_handed p bs K env a (function n) = stuck

  unfoldable pub head_handed : ℕ → Exprs → List Frame → Environment → Account → Tree → Outcome
  head_handed p es K env a (function n) = proceed p (calls n) 0 es K env a
  head_handed p es K env a (int z) = stuck
  head_handed p es K env a (bool b) = stuck
  head_handed p es K env a (symbol n) = stuck
  head_handed p es K env a unit = stuck
  head_handed p es K env a (built c vs) = stuck

  -- the names of a let or branch leave
  unfoldable pub hand_end : List Frame → Account → Tree → Bound → Outcome
  hand_end K a v unfit = stuck
  hand_end K a v (binds env m) = finish v K env (gives m a)

  -- a value is handed to what waits for it
  unfoldable pub hand : Frame → List Frame → Environment → Account → Tree → Outcome
  hand (if_test p x y) K env a v = test_handed p x y K env a v
  hand (if_arm p) K env a v = finish v K env a
  hand (begin_part p es) K env a v = part_handed p es K env a v
  hand (let_binding p x bs e n) K env a v = needs StackFull (has_entries 1 K env) (bind_next p bs e n K (full x.bytes v ∷ env) a)
  hand (scope_end p n) K env a v = hand_end K a v (leave_names n env)
  hand (case_test p bs) K env a v = tested_handed p bs K env a v
  hand (head_value p es) K env a v = head_handed p es K env a v
  hand (next_argument p t k es) K env a v = needs StackFull (has_entries 1 K env) (proceed p t (k + 1) es K (argument v ∷ env) a)
  hand (body_value p kept) K env a v = finish v K kept (gives (environment_size env) a)
  hand (main_value p) K env a v = goes [] (st K [] over (gives (environment_size env + size v) a))

  -- main is called
  unfoldable pub main_called : List Frame → Environment → Account → Option Define → Outcome
  main_called K env a None = stuck
  main_called K env a (Some d) = waits (main_value d.place) d.body K env a

  unfoldable pub step : Option Define → State → Outcome
  step main (st K env opened a) = main_called K env a main
  step main (st K env (enter e) a) = enter_expr K env a e
  step main (st [] env (finished v) a) = stuck
  step main (st (f ∷ K) env (finished v) a) = hand f K env a v
  step main (st K env over a) = stuck

-- all rules of a step, opened together
unfoldable pub rules : Unit {0}
unfolding waits finish has_entries has_cells build answer call_plain call_basis enter_body call_define call_number apply proceed bind_next val_entered enter_global enter_name dup_entered enter_construct is_local enter_named enter_apply enter_expr test_handed part_handed enter_branch try_branch select_branch tested_handed head_handed hand_end hand main_called step
rules = tt

-- the place of what a frame waits for
abbrev pub place_of_frame : Frame → ℕ
place_of_frame (if_test p x y) = p
place_of_frame (if_arm p) = p
place_of_frame (begin_part p es) = p
place_of_frame (let_binding p x bs e n) = p
place_of_frame (scope_end p n) = p
place_of_frame (case_test p bs) = p
place_of_frame (head_value p es) = p
place_of_frame (next_argument p t k es) = p
place_of_frame (body_value p env) = p
place_of_frame (main_value p) = p

abbrev pub define_place : Option Define → ℕ
define_place None = 0
define_place (Some d) = d.place

-- the place of the expression that the next step enters or hands to
abbrev pub step_place : Option Define → State → ℕ
step_place main (st K env opened a) = define_place main
step_place main (st K env (enter e) a) = place_of e
step_place main (st [] env (finished v) a) = 0
step_place main (st (f ∷ K) env (finished v) a) = place_of_frame f
step_place main (st K env over a) = 0
