-- What the relation derives, a run with room enough does.
use Rattle.std.proofs.Common.{◌≡◌, ℕ, suc, ◌+◌, ◌-◌, ◌<◌, ◌≤◌, Bool, true, false, cond, List, [], ◌∷◌, map, length, Some, None, Option, sym, refl, ap, ◌∙◌, subst, arith}
use Rattle.std.proofs.lemmas.Bool.{le-leb, lt-ltb}
use Rattle.std.specs.List.{slice_get}
use Rattle.basis.specs.Calls as basis_calls
use Rattle.basis.specs.Numbers.{numbered}
use Rattle.basis.specs.Printing.{printed}
use Rattle.basis.specs.declared.applied.Applied.{Applied}
use Rattle.basis.specs.declared.function.Basis.{Basis}
use Rattle.basis.specs.declared.plain.Plain.{Plain}
use Rattle.data.specs.Trees.{Tree, built, Trees, cost, size}
use Rattle.grammar.specs.Trees as tree
use Rattle.grammar.specs.Trees.{Ident, PatternPart, bound, Pattern, wildcard, constructor, Expr, Exprs, no_exprs, and_expr, Bindings, no_bindings, and_binding, Branches, last_branch, and_branch}
use Rattle.program.specs.Compiling.{binding_count}
use Rattle.program.specs.Programs as means
use Rattle.program.specs.Programs.{Name, Program, Define, Val, Global, global_of, basis_count}
use Rattle.program.specs.Scopes.{names_inside, pattern_names}
use Rattle.rules.specs.declared.fault.FaultKind.TheVariants.{NoBranch, TooFewCells, StackFull}
use Rattle.rules.specs.States.{full, argument, Environment, Target, builds, calls, Frame, if_test, if_arm, begin_part, let_binding, scope_end, case_test, head_value, next_argument, body_value, enter, finished, Account, State, st, takes, gives, environment_size, saved_size, saved_count}
use Rattle.rules.specs.Steps.{Outcome, fails, Sizes, Looked, got, absent, look, Taken, took, take_arguments, Bound, binds, giving, bind_parts, leave_names, plains_of, symbol_body, is_constructor, rules, waits, build, answer, call_plain, call_basis, enter_body, call_define, call_number, apply, proceed, bind_next, val_entered, enter_global, enter_name, dup_entered, enter_construct, is_local, enter_named, enter_apply, enter_branch, try_branch, select_branch, hand_end}
use Rattle.rules.proofs.Accounting.{Even}
use Rattle.evaluation.specs.Evaluation as rule
use Rattle.evaluation.specs.Evaluation.{Course, step, take, give, prints, Gives, gives_int, gives_bool, gives_print, gives_byte, fits, First, only, here, later, Opens, opens_any, opens_fields, Evaluates, EvaluatesRow, row_last, row_more, EvaluatesBindings, bindings_none, bindings_more, EvaluatesEach, each_none, each_more, Applies, applies_basis, applies_define}
use Rattle.evaluation.proofs.Leading.{From, Onward, on_step_rule, on_print, on_quiet, on_needs, on_waits, has_entries_rule, Enough}
use Rattle.evaluation.proofs.Weaving.{Shape, woven, names, hold, names_more, names_length, woven_length, woven_looked, look_woven, woven_bound, bind_woven, leave_woven, counted, take_held}

module _ (P : Program) where
  -- what a derivation gives, for each kind: how much room it wants, and where it leads
  pub record Goes (ρ : Environment) (h : Course) (e : Expr) (v : Tree) (ρ' : Environment) (h' : Course) : Type 0 where
    pub room : ℕ
    pub leads : (Z : Sizes) (K : List Frame) (s : Shape) → Enough room Z K s → (T : State) (H : Course)
        → From P Z T H (st K (woven s ρ') (finished v) h'.account) h' → From P Z T H (st K (woven s ρ) (enter e) h.account) h

  record GoesRow (ρ : Environment) (h : Course) (u : Tree) (es : Exprs) (v : Tree) (ρ' : Environment) (h' : Course) : Type 0 where
    room : ℕ
    leads : (Z : Sizes) (K : List Frame) (s : Shape) (p : ℕ) → Enough room Z K s → (T : State) (H : Course)
        → From P Z T H (st K (woven s ρ') (finished v) h'.account) h' → From P Z T H (st (begin_part p es ∷ K) (woven s ρ) (finished u) h.account) h

  record GoesBindings (ρ : Environment) (h : Course) (bs : Bindings) (ρ' : Environment) (h' : Course) : Type 0 where
    room : ℕ
    leads : (Z : Sizes) (K : List Frame) (s : Shape) (p : ℕ) (e : Expr) (n m : ℕ) → m ≡ binding_count bs → Enough room Z K s → (T : State) (H : Course)
        → From P Z T H (st (scope_end p n ∷ K) (woven (names m s) ρ') (enter e) h'.account) h' → Onward P Z T H (bind_next P Z p bs e n K (woven s ρ) h.account) h

  -- the arguments that an application holds, beside all else
  abbrev Held : Sizes → List Frame → Environment → Account → Type 0
  Held Z K env a = Even Z.cells a (saved_size K + environment_size env + 0)

  record GoesEach (ρ : Environment) (h : Course) (es : Exprs) (vs : Trees) (ρ' : Environment) (h' : Course) : Type 0 where
    room : ℕ
    leads : (Z : Sizes) (K : List Frame) (s : Shape) (p : ℕ) (t : Target) (k k' : ℕ) → k' ≡ k + counted vs → Enough room Z K s → (T : State) (H : Course)
        → (Held Z K (woven (hold vs s) ρ') h'.account → Onward P Z T H (apply P Z p t k' K (woven (hold vs s) ρ') h'.account) h')
        → Held Z K (woven s ρ) h.account → Onward P Z T H (proceed P Z p t k es K (woven s ρ) h.account) h

  record GoesApplied (ρ : Environment) (n : ℕ) (vs : Trees) (h : Course) (v : Tree) (h' : Course) : Type 0 where
    room : ℕ
    leads : (Z : Sizes) (K : List Frame) (s : Shape) (p k : ℕ) → k ≡ counted vs → Enough room Z K s → (T : State) (H : Course)
        → From P Z T H (st K (woven s ρ) (finished v) h'.account) h' → Onward P Z T H (apply P Z p (calls n) k K (woven (hold vs s) ρ) h.account) h

  module _ (Z : Sizes) (T : State) (H : Course) where
    abbrev F : State → Course → Type 0
    F = From P Z T H

    abbrev O : Outcome → Course → Type 0
    O = Onward P Z T H

    on_name : (p : ℕ) (w : Name) (K : List Frame) (env : Environment) (a : Account) (h : Course) {v : Tree} {after : Environment} → look w env ≡ got v after → F (st K after (finished v) a) h → O (enter_name P Z p w K env a (look w env)) h
    unfolding rules
    on_name p w K env a h e n = subst (λ (l : Looked). O (enter_name P Z p w K env a l) h) (sym e) (on_quiet P Z T H h n)

    on_global : (p : ℕ) (w : Name) (K : List Frame) (env : Environment) (a : Account) (h : Course) {g : Global} → look w env ≡ absent → global_of P w ≡ g → O (enter_global P Z p K env a g) h → O (enter_name P Z p w K env a (look w env)) h
    unfolding rules
    on_global p w K env a h e q n = subst (λ (l : Looked). O (enter_name P Z p w K env a l) h) (sym e) (subst (λ (g : Global). O (enter_global P Z p K env a g) h) (sym q) n)

    on_val : (p i : ℕ) (K : List Frame) (env : Environment) (a : Account) (h : Course) {d : Val} → slice_get P.vals i ≡ Some d → length K < Z.frames → F (st (body_value p env ∷ K) [] (enter d.expr) a) h → O (enter_global P Z p K env a (means.val i)) h
    unfolding rules
    on_val p i K env a h {d} e l n = subst (λ (o : Option Val). O (val_entered P Z p K env a o) h) (sym e) (on_waits P Z T H (body_value p env) d.expr K [] a h l n)

    on_copy : (K : List Frame) (env : Environment) (a : Account) (h : Course) {l : Looked} {v : Tree} {after : Environment} → l ≡ got v after → size v + (saved_size K + environment_size env) ≤ Z.cells → F (st K env (finished v) (takes (size v) a)) h
        → O (dup_entered P Z K env a l) h
    unfolding rules
    on_copy K env a h {l} {v} e fits n = subst (λ (l : Looked). O (dup_entered P Z K env a l) h) (sym e) (on_needs P Z T H TooFewCells _ _ h (le-leb _ Z.cells fits) (on_quiet P Z T H h n))

    on_build : (c : ℕ) (K : List Frame) (all env : Environment) (a : Account) (h : Course) {t : Taken} {vs : Trees} → t ≡ took vs env → cost vs + (saved_size K + environment_size all) ≤ Z.cells → F (st K env (finished (built c vs)) (takes (cost vs) a)) h
        → O (build P Z c K all a t) h
    unfolding rules
    on_build c K all env a h {t} {vs} e fits n = subst (λ (t : Taken). O (build P Z c K all a t) h) (sym e) (on_needs P Z T H TooFewCells _ _ h (le-leb _ Z.cells fits) (on_quiet P Z T H h n))

    on_answer : (f : Basis) (K : List Frame) (env : Environment) {h h' : Course} {r : Applied} {v : Tree} → Gives P h r v h' → F (st K env (finished v) h'.account) h' → O (answer P Z f K env h.account r) h
    unfolding rules
    on_answer f K env {h} gives_int n = on_quiet P Z T H h n
    on_answer f K env {h} gives_bool n = on_quiet P Z T H h n
    on_answer f K env {h} (gives_print {p = p}) n = on_print P Z T H (printed p (symbol_body P.literals p)) h n
    on_answer f K env {h} gives_byte n = on_quiet P Z T H h n

    -- the call of a function of the basis, and that of a define
    on_basis : (f : Basis) (K : List Frame) (env : Environment) {h h' : Course} {t : Taken} {vs : Trees} {ps : List Plain} {v : Tree} → t ≡ took vs env → plains_of vs ≡ Some ps → Gives P h (basis_calls.applied f ps) v h'
        → F (st K env (finished v) h'.account) h' → O (call_basis P Z f K h.account t) h
    unfolding rules
    on_basis f K env {h} e q g n =
        subst (λ (t : Taken). O (call_basis P Z f K h.account t) h) (sym e) (subst (λ (o : Option (List Plain)). O (call_plain P Z f K env h.account o) h) (sym q) (on_answer f K env g n))

    on_define : (p : ℕ) (d : Define) (K : List Frame) (env ρ : Environment) (a : Account) (h : Course) {m : ℕ} {t : Taken} {vs : Trees} → t ≡ took vs env → bind_parts (map bound d.parameters) vs [] ≡ binds ρ m
        → F (st (body_value p env ∷ K) ρ (enter d.body) a) h → O (call_define P Z p d K a t) h
    unfolding rules
    on_define p d K env ρ a h e q n =
        subst (λ (t : Taken). O (call_define P Z p d K a t) h) (sym e) (subst (λ (b : Bound). O (enter_body P Z p d.body K env a b) h) (sym q) (on_quiet P Z T H h n))

    on_number : (p n k : ℕ) (K : List Frame) (env : Environment) (a : Account) (h : Course) {f : Option Basis} → numbered n ≡ f → O (call_number P Z p n k K env a f (slice_get P.defines (n - basis_count))) h → O (apply P Z p (calls n) k K env a) h
    unfolding rules
    on_number p n k K env a h e x = subst (λ (f : Option Basis). O (call_number P Z p n k K env a f (slice_get P.defines (n - basis_count))) h) (sym e) x

    on_defined : (p n k : ℕ) (K : List Frame) (env : Environment) (a : Account) (h : Course) {d : Define} → slice_get P.defines (n - basis_count) ≡ Some d → O (call_define P Z p d K a (take_arguments k env)) h
        → O (call_number P Z p n k K env a None (slice_get P.defines (n - basis_count))) h
    unfolding rules
    on_defined p n k K env a h e x = subst (λ (d : Option Define). O (call_number P Z p n k K env a None d) h) (sym e) x

    -- an application of a constructor
    on_construct : (p c : ℕ) (es : Exprs) (K : List Frame) (env : Environment) (a : Account) (h : Course) → length K < Z.frames → O (proceed P Z p (builds c) 0 es K env a) h → O (enter_construct P Z p c es K env a) h
    unfolding rules
    on_construct p c no_exprs K env a h l n = n
    on_construct p c (and_expr e es) K env a h l n = on_needs P Z T H StackFull _ _ h (lt-ltb (length K) Z.frames l) n

    on_named : (p q c : ℕ) (w : Name) (es : Exprs) (K : List Frame) (env : Environment) (a : Account) (h : Course) → look w env ≡ absent → global_of P w ≡ means.constructor c → O (enter_construct P Z p c es K env a) h
        → O (enter_apply P Z p (tree.name q w) es K env a) h
    unfolding rules
    on_named p q c w es K env a h e g n =
        subst (λ (l : Looked). O (cond (is_local P Z l) (waits P Z (head_value p es) (tree.name q w) K env a) (enter_named P Z p (tree.name q w) es K env a (global_of P w))) h) (sym e)
        (subst (λ (g : Global). O (enter_named P Z p (tree.name q w) es K env a g) h) (sym g) n)

    -- a head that is evaluated is entered
    on_local : (p q : ℕ) (w : Name) (es : Exprs) (K : List Frame) (env : Environment) (a : Account) (h : Course) {v : Tree} {after : Environment} → look w env ≡ got v after → O (waits P Z (head_value p es) (tree.name q w) K env a) h
        → O (enter_apply P Z p (tree.name q w) es K env a) h
    unfolding rules
    on_local p q w es K env a h e n = subst (λ (l : Looked). O (cond (is_local P Z l) (waits P Z (head_value p es) (tree.name q w) K env a) (enter_named P Z p (tree.name q w) es K env a (global_of P w))) h) (sym e) n

    on_head : (p q : ℕ) (w : Name) (es : Exprs) (K : List Frame) (env : Environment) (a : Account) (h : Course) (g : Global) → look w env ≡ absent → global_of P w ≡ g
        → O (enter_named P Z p (tree.name q w) es K env a g) h → O (enter_apply P Z p (tree.name q w) es K env a) h
    unfolding rules
    on_head p q w es K env a h g e k n =
        subst (λ (l : Looked). O (cond (is_local P Z l) (waits P Z (head_value p es) (tree.name q w) K env a) (enter_named P Z p (tree.name q w) es K env a (global_of P w))) h) (sym e)
        (subst (λ (g : Global). O (enter_named P Z p (tree.name q w) es K env a g) h) (sym k) n)

    -- branches
    on_branch : (p m n : ℕ) (f : Expr) (K : List Frame) (env ρ : Environment) (a : Account) (h : Course) {b : Bound} → b ≡ binds ρ m → n + (length env + saved_count K) ≤ Z.entries → F (st (scope_end p n ∷ K) ρ (enter f) (gives m a)) h
        → O (enter_branch P Z p n f K env a b) h
    unfolding rules
    on_branch p m n f K env ρ a h e l k = subst (λ (b : Bound). O (enter_branch P Z p n f K env a b) h) (sym e) (on_needs P Z T H StackFull _ _ h (le-leb _ Z.entries l) (on_quiet P Z T H h k))

    on_if : (b : Bool) (x y : Outcome) (h : Course) → b ≡ true → O x h → O (cond b x y) h
    on_if b x y h e n = subst (λ (b : Bool). O (cond b x y) h) (sym e) n

    on_else : (b : Bool) (x y : Outcome) (h : Course) → b ≡ false → O y h → O (cond b x y) h
    on_else b x y h e n = subst (λ (b : Bool). O (cond b x y) h) (sym e) n

  module _ (Z : Sizes) (T : State) (H : Course) (p c : ℕ) (vs : Trees) (K : List Frame) (s : Shape) (ρ : Environment) (a : Account) (h : Course) (rooms : length s + length ρ + saved_count K ≤ Z.entries) where
    on_try : (x : Pattern) (f : Expr) (m : ℕ) (ρ' : Environment) (other : Outcome) → fits P c x ≡ true → Opens P c vs ρ x ρ' m → pattern_names x + (length s + length ρ + saved_count K) ≤ Z.entries
        → From P Z T H (st (scope_end p (pattern_names x) ∷ K) (woven (names (pattern_names x) s) ρ') (enter f) (gives m a)) h
        → Onward P Z T H (try_branch P Z p x f c vs K (woven s ρ) a other) h
    unfolding rules
    on_try _ f m ρ' other e opens_any l n = on_quiet P Z T H h n
    on_try _ f m ρ' other e (opens_fields {k = k} {xs = xs} b) l n = on_if Z T H (is_constructor c (global_of P k.bytes)) _ _ h e (on_branch Z T H p m (names_inside xs) f K (woven s ρ) (woven (names (names_inside xs) s) ρ') a h
        (ap (giving (cost vs)) (bind_woven (names_inside xs) xs vs s ρ refl ∙ ap (woven_bound (names (names_inside xs) s)) b)) (omega (arith, woven_length s ρ)) n)

    on_select : (bs : Branches) (x : Pattern) (f : Expr) (m : ℕ) (ρ' : Environment) → First P c bs x f → Opens P c vs ρ x ρ' m → pattern_names x + (length s + length ρ + saved_count K) ≤ Z.entries
        → From P Z T H (st (scope_end p (pattern_names x) ∷ K) (woven (names (pattern_names x) s) ρ') (enter f) (gives m a)) h
        → Onward P Z T H (select_branch P Z p bs c vs K (woven s ρ) a) h
    unfolding rules
    on_select _ x f m ρ' (only e) o l n = on_try x f m ρ' (fails NoBranch None) e o l n
    on_select _ x f m ρ' (here {bs = bs} e) o l n = on_try x f m ρ' (select_branch P Z p bs c vs K (woven s ρ) a) e o l n
    on_select _ x f m ρ' (later {x = wildcard q} e i) o l n = let z : ◌≡◌ {A = ℕ} 0 1 = cc in absurd (omega arith)
    on_select _ x f m ρ' (later {x = constructor q k xs} {bs = bs} e i) o l n = on_else Z T H (is_constructor c (global_of P k.bytes)) _ _ h e (on_select bs x f m ρ' i o l n)

  -- the names of a let or a branch leave
  on_end_rule : (Z : Sizes) (T : State) (H : Course) (n : ℕ) (K : List Frame) (s : Shape) (ρ ρ' : Environment) (m : ℕ) (a : Account) (v : Tree) (h : Course) → leave_names n ρ ≡ binds ρ' m
      → From P Z T H (st K (woven s ρ') (finished v) (gives m a)) h → Onward P Z T H (hand_end P Z K a v (leave_names n (woven (names n s) ρ))) h
  unfolding rules
  on_end_rule Z T H n K s ρ ρ' m a v h e k =
      subst (λ (b : Bound). Onward P Z T H (hand_end P Z K a v b) h) (sym (leave_woven n s ρ ∙ ap (woven_bound s) e)) (on_quiet P Z T H h k)

  looked : (w : Name) (ρ : Environment) {l : Looked} (s : Shape) → look w ρ ≡ l → look w (woven s ρ) ≡ woven_looked s l
  looked w ρ s e = look_woven w s ρ ∙ ap (woven_looked s) e

  -- an application whose head is evaluated enters it
  heads : (Z : Sizes) (T : State) (H : Course) {ρ : Environment} {h : Course} {e : Expr} {v : Tree} {ρ' : Environment} {h' : Course} (g : Course) (p : ℕ) (es : Exprs) (K : List Frame) (s : Shape) (a : Account)
      → Evaluates P ρ h e v ρ' h' → Onward P Z T H (waits P Z (head_value p es) e K (woven s ρ) a) g → Onward P Z T H (enter_apply P Z p e es K (woven s ρ) a) g
  unfolding rules
  heads Z T H g p es K s a rule.integer n = n
  heads Z T H g p es K s a rule.symbol_literal n = n
  heads Z T H g p es K s a rule.boolean n = n
  heads Z T H g p es K s a rule.unit_literal n = n
  heads Z T H {ρ} g p es K s a (rule.local_name {p = q} {w = w} e) n = on_local Z T H p q w es K (woven s ρ) a g (looked w ρ s e) n
  heads Z T H {ρ} g p es K s a (rule.function_name {p = q} {n = i} {w = w} e k) n = on_head Z T H p q w es K (woven s ρ) a g (means.function i) (looked w ρ s e) k n
  heads Z T H {ρ} g p es K s a (rule.val_name {p = q} {i = i} {w = w} e k l b) n = on_head Z T H p q w es K (woven s ρ) a g (means.val i) (looked w ρ s e) k n
  heads Z T H g p es K s a (rule.dup_expression e) n = n
  heads Z T H g p es K s a (rule.if_it_is_true x y) n = n
  heads Z T H g p es K s a (rule.if_it_is_false x y) n = n
  heads Z T H g p es K s a (rule.begin_expression x y) n = n
  heads Z T H g p es K s a (rule.let_expression x y z) n = n
  heads Z T H g p es K s a (rule.case_expression x y z w u) n = n
  heads Z T H g p es K s a (rule.construct_expression x y z) n = n
  heads Z T H g p es K s a (rule.apply_expression x y z) n = n

  mutual
    unfolding rules

    pub evaluates : {ρ : Environment} {h : Course} {e : Expr} {v : Tree} {ρ' : Environment} {h' : Course} → Evaluates P ρ h e v ρ' h' → Goes ρ h e v ρ' h'
    evaluates {h = h} rule.integer = record { room = 0; leads = λ Z K s en T H k. on_step_rule P Z T H h (on_quiet P Z T H (step h) k) }
    evaluates {h = h} rule.symbol_literal = record { room = 0; leads = λ Z K s en T H k. on_step_rule P Z T H h (on_quiet P Z T H (step h) k) }
    evaluates {h = h} rule.boolean = record { room = 0; leads = λ Z K s en T H k. on_step_rule P Z T H h (on_quiet P Z T H (step h) k) }
    evaluates {h = h} rule.unit_literal = record { room = 0; leads = λ Z K s en T H k. on_step_rule P Z T H h (on_quiet P Z T H (step h) k) }
    evaluates {ρ} {h = h} (rule.local_name {p = p} {w = w} e) = record { room = 0; leads = λ Z K s en T H k. on_step_rule P Z T H h (on_name Z T H p w K (woven s ρ) h.account (step h) (looked w ρ s e) k) }
    evaluates {ρ} {h = h} (rule.function_name {p = p} {w = w} e g) = record { room = 0; leads = λ Z K s en T H k. on_step_rule P Z T H h (on_global Z T H p w K (woven s ρ) h.account (step h) (looked w ρ s e) g (on_quiet P Z T H (step h) k)) }
    evaluates {ρ} {h = h} (rule.val_name {ρ' = ρ₁} {h' = h₁} {p = p} {i = i} {w = w} e g l b) =
        let B = evaluates b in
        record {
          room = 1 + B.room + length ρ;
          leads = λ Z K s en T H k.
              on_step_rule P Z T H h (on_global Z T H p w K (woven s ρ) h.account (step h) (looked w ρ s e) g (on_val Z T H p i K (woven s ρ) h.account (step h) l (omega arith)
              (B.leads Z (body_value p (woven s ρ) ∷ K) [] (omega (arith, woven_length s ρ)) T H (on_step_rule P Z T H h₁ (on_quiet P Z T H (step h₁) k)))));
        }
    evaluates {ρ} {h = h} (rule.dup_expression {p = p} {x = x} {v = v} e) =
        record {
          room = size v + h.account.taken;
          leads = λ Z K s en T H k even. on_step_rule P Z T H h (on_copy Z T H K (woven s ρ) h.account (step h) (looked x.bytes ρ s e) (omega arith) k) even;
        }
    evaluates {h = h} (rule.if_it_is_true {h₁ = h₁} {h' = h'} {p = p} {x = x} {y = y} a b) =
        let A = evaluates a in
        let B = evaluates b in
        record {
          room = 1 + A.room + B.room;
          leads = λ Z K s en T H k.
              on_step_rule P Z T H h (on_waits P Z T H (if_test p x y) _ K _ h.account (step h) (omega arith)
              (A.leads Z (if_test p x y ∷ K) s (omega arith) T H (on_step_rule P Z T H h₁ (on_quiet P Z T H (step h₁)
              (B.leads Z (if_arm p ∷ K) s (omega arith) T H (on_step_rule P Z T H h' (on_quiet P Z T H (step h') k)))))));
        }
    evaluates {h = h} (rule.if_it_is_false {h₁ = h₁} {h' = h'} {p = p} {x = x} {y = y} a b) =
        let A = evaluates a in
        let B = evaluates b in
        record {
          room = 1 + A.room + B.room;
          leads = λ Z K s en T H k.
              on_step_rule P Z T H h (on_waits P Z T H (if_test p x y) _ K _ h.account (step h) (omega arith)
              (A.leads Z (if_test p x y ∷ K) s (omega arith) T H (on_step_rule P Z T H h₁ (on_quiet P Z T H (step h₁)
              (B.leads Z (if_arm p ∷ K) s (omega arith) T H (on_step_rule P Z T H h' (on_quiet P Z T H (step h') k)))))));
        }
    evaluates {ρ} {h = h} (rule.begin_expression {p = p} {es = es} a b) =
        let A = evaluates a in
        let B = evaluates_row b in
        record {
          room = 1 + A.room + B.room;
          leads = λ Z K s en T H k.
              on_step_rule P Z T H h (on_waits P Z T H (begin_part p es) _ K (woven s ρ) h.account (step h) (omega arith)
              (A.leads Z (begin_part p es ∷ K) s (omega arith) T H (B.leads Z K s p (omega arith) T H k)));
        }
    evaluates {ρ} {h = h} (rule.let_expression {ρ₂ = ρ₂} {ρ' = ρ'} {h' = h'} {p = p} {m = m} {bs = bs} {e = e} {v = v} a b q) =
        let A = evaluates_bindings a in
        let B = evaluates b in
        let n = binding_count bs in
        record {
          room = 1 + A.room + B.room + n;
          leads = λ Z K s en T H k.
              on_step_rule P Z T H h (on_needs P Z T H StackFull _ (bind_next P Z p bs e n K (woven s ρ) h.account) (step h) (lt-ltb (length K) Z.frames (omega arith))
              (A.leads Z K s p e n n refl (omega arith) T H
              (B.leads Z (scope_end p n ∷ K) (names n s) (omega (arith, names_length n s)) T H (on_step_rule P Z T H h' (on_end_rule Z T H n K s ρ₂ ρ' m h'.account v (step h') q k)))));
        }
    evaluates {ρ} {h = h} (rule.case_expression {ρ₁ = ρ₁} {ρ₂ = ρ₂} {ρ₃ = ρ₃} {ρ' = ρ'} {h₁ = h₁} {h' = h'} {p = p} {c = c} {m = m} {n = n} {f = f} {bs = bs} {x = x} {vs = vs} {v = v} a i o b q) =
        let A = evaluates a in
        let B = evaluates b in
        let l = pattern_names x in
        record {
          room = 1 + A.room + B.room + l + length ρ₁;
          leads = λ Z K s en T H k.
              on_step_rule P Z T H h (on_waits P Z T H (case_test p bs) _ K (woven s ρ) h.account (step h) (omega arith)
              (A.leads Z (case_test p bs ∷ K) s (omega arith) T H (on_step_rule P Z T H h₁ (on_select Z T H p c vs K s ρ₁ h₁.account (step h₁) (omega arith) bs x f m ρ₂ i o (omega arith)
              (B.leads Z (scope_end p l ∷ K) (names l s) (omega (arith, names_length l s)) T H (on_step_rule P Z T H h' (on_end_rule Z T H l K s ρ₃ ρ' n h'.account v (step h') q k)))))));
        }
    evaluates {ρ} {h = h} (rule.construct_expression {ρ' = ρ'} {h' = h'} {p = p} {q = q} {c = c} {w = w} {es = es} {vs = vs} e g a) =
        let A = evaluates_each a in
        record {
          room = 1 + A.room + cost vs + h'.account.taken;
          leads = λ Z K s en T H k even.
              on_step_rule P Z T H h (on_named Z T H p q c w es K (woven s ρ) h.account (step h) (looked w ρ s e) g (on_construct Z T H p c es K (woven s ρ) h.account (step h) (omega arith)
              (A.leads Z K s p (builds c) 0 (counted vs) (omega arith) (omega arith) T H
              (λ held. on_build Z T H c K (woven (hold vs s) ρ') (woven s ρ') h'.account h' (take_held (counted vs) vs s ρ' refl) (omega arith) k) (omega arith)))) even;
        }
    evaluates {ρ} {h = h} (rule.apply_expression {ρ₁ = ρ₁} {ρ' = ρ'} {h₁ = h₁} {p = p} {n = n} {es = es} {vs = vs} a b c) =
        let A = evaluates a in
        let B = evaluates_each b in
        let C = evaluates_applied ρ' c in
        record {
          room = 1 + A.room + B.room + C.room;
          leads = λ Z K s en T H k.
              on_step_rule P Z T H h (heads Z T H (step h) p es K s h.account a (on_waits P Z T H (head_value p es) _ K (woven s ρ) h.account (step h) (omega arith)
              (A.leads Z (head_value p es ∷ K) s (omega arith) T H
              (λ even. on_step_rule P Z T H h₁ (B.leads Z K s p (calls n) 0 (counted vs) (omega arith) (omega arith) T H (λ held. C.leads Z K s p (counted vs) refl (omega arith) T H k) (omega arith)) even))));
        }

    evaluates_row : {ρ : Environment} {h : Course} {u : Tree} {es : Exprs} {v : Tree} {ρ' : Environment} {h' : Course} → EvaluatesRow P ρ h u es v ρ' h' → GoesRow ρ h u es v ρ' h'
    evaluates_row {h = h} row_last = record { room = 0; leads = λ Z K s p en T H k. on_step_rule P Z T H h (on_quiet P Z T H (step h) k) }
    evaluates_row {h = h} (row_more {u = u} {es = es} a b) =
        let A = evaluates a in
        let B = evaluates_row b in
        record {
          room = 1 + A.room + B.room;
          leads = λ Z K s p en T H k. on_step_rule P Z T H h (on_quiet P Z T H (step h) (A.leads Z (begin_part p es ∷ K) s (omega arith) T H (B.leads Z K s p (omega arith) T H k)));
        }

    evaluates_bindings : {ρ : Environment} {h : Course} {bs : Bindings} {ρ' : Environment} {h' : Course} → EvaluatesBindings P ρ h bs ρ' h' → GoesBindings ρ h bs ρ' h'
    evaluates_bindings {ρ} {h} bindings_none =
        record {
          room = 0;
          leads = λ Z K s p e n m q en T H k.
              let z : m ≡ 0 = omega arith in
              on_quiet P Z T H h (subst (λ (m : ℕ). From P Z T H (st (scope_end p n ∷ K) (woven (names m s) ρ) (enter e) h.account) h) z k);
        }
    evaluates_bindings {ρ} {h} (bindings_more {ρ₁ = ρ₁} {ρ' = ρ'} {h₁ = h₁} {h' = h'} {x = x} {e = f} {bs = bs} {v = v} a b) =
        let A = evaluates a in
        let B = evaluates_bindings b in
        record {
          room = 1 + A.room + B.room + length ρ₁;
          leads = λ Z K s p e n m q en T H k.
              let z : m ≡ suc (binding_count bs) = omega arith in
              let k' = subst (λ (t : Shape). From P Z T H (st (scope_end p n ∷ K) (woven t ρ') (enter e) h'.account) h') (sym (names_more (binding_count bs) s)) (subst (λ (m : ℕ). From P Z T H (st (scope_end p n ∷ K) (woven (names m s) ρ') (enter e) h'.account) h') z k) in
              on_quiet P Z T H h (A.leads Z (let_binding p x bs e n ∷ K) s (omega arith) T H (on_step_rule P Z T H h₁
              (on_needs P Z T H StackFull _ (bind_next P Z p bs e n K (full x.bytes v ∷ woven s ρ₁) h₁.account) (step h₁) (has_entries_rule P Z T H 1 K s ρ₁ (omega arith))
              (B.leads Z K (None ∷ s) p e n (binding_count bs) refl (omega arith) T H k'))));
        }

    evaluates_each : {ρ : Environment} {h : Course} {es : Exprs} {vs : Trees} {ρ' : Environment} {h' : Course} → EvaluatesEach P ρ h es vs ρ' h' → GoesEach ρ h es vs ρ' h'
    evaluates_each {ρ} {h} each_none =
        record {
          room = 0;
          leads = λ Z K s p t k k' q en T H next held.
              let z : k' ≡ k = omega arith in
              subst (λ (k : ℕ). Onward P Z T H (apply P Z p t k K (woven s ρ) h.account) h) z (next held);
        }
    evaluates_each {ρ} {h} (each_more {ρ₁ = ρ₁} {h₁ = h₁} {es = es} {v = v} a b) =
        let A = evaluates a in
        let B = evaluates_each b in
        record {
          room = 1 + A.room + B.room + length ρ₁;
          leads = λ Z K s p t k k' q en T H next held.
              on_quiet P Z T H h (A.leads Z (next_argument p t k es ∷ K) s (omega arith) T H (λ even. on_step_rule P Z T H h₁
              (on_needs P Z T H StackFull _ (proceed P Z p t (k + 1) es K (argument v ∷ woven s ρ₁) h₁.account) (step h₁) (has_entries_rule P Z T H 1 K s ρ₁ (omega arith))
              (B.leads Z K (Some v ∷ s) p t (k + 1) k' (omega arith) (omega arith) T H next (omega arith))) even));
        }

    evaluates_applied : {n : ℕ} {vs : Trees} {h : Course} {v : Tree} {h' : Course} (ρ : Environment) → Applies P n vs h v h' → GoesApplied ρ n vs h v h'
    evaluates_applied {n} {vs} {h} ρ (applies_basis {f = f} e q g) =
        record {
          room = 0;
          leads = λ Z K s p k z en T H next.
              on_number Z T H p n k K (woven (hold vs s) ρ) h.account h e (on_basis Z T H f K (woven s ρ) (take_held k vs s ρ z) q g next);
        }
    evaluates_applied {n} {vs} {h} ρ (applies_define {d = d} {ρ = ρ₁} {h' = h'} e q b a) =
        let A = evaluates a in
        record {
          room = 1 + A.room + length ρ;
          leads = λ Z K s p k z en T H next.
              on_number Z T H p n k K (woven (hold vs s) ρ) h.account h e (on_defined Z T H p n k K (woven (hold vs s) ρ) h.account h q
              (on_define Z T H p d K (woven s ρ) ρ₁ h.account h (take_held k vs s ρ z) b
              (A.leads Z (body_value p (woven s ρ) ∷ K) [] (omega (arith, woven_length s ρ)) T H (on_step_rule P Z T H h' (on_quiet P Z T H (step h') next)))));
        }
