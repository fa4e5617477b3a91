-- What a run does that ends, the relation derives: by the number of steps that are left.
use Rattle.std.proofs.Common.{◌≡◌, ℕ, zero, suc, ◌+◌, ◌-◌, ◌<◌, ◌≤◌, Bool, true, false, cond, List, [], ◌∷◌, ◌++◌, map, Some, None, Option, refl, ◌∙◌, subst, arith, append-nil}
use Rattle.std.specs.List.{slice_get}
use Rattle.basis.specs.Calls as basis_calls
use Rattle.basis.specs.Numbers.{numbered}
use Rattle.basis.specs.Printing.{printed}
use Rattle.basis.specs.declared.applied.Applied.{Applied}
use Rattle.basis.specs.declared.applied.Applied.TheVariants as applied
use Rattle.basis.specs.declared.function.Basis.{Basis}
use Rattle.basis.specs.declared.plain.Plain.{Plain}
use Rattle.data.specs.Trees.{Tree, int, bool, symbol, unit, function, built, Trees, none, more, cost, size}
use Rattle.grammar.specs.Trees as tree
use Rattle.grammar.specs.Trees.{Ident, PatternPart, bound, Pattern, wildcard, constructor, Expr, Exprs, no_exprs, and_expr, Bindings, no_bindings, and_binding, Branches, last_branch, and_branch}
use Rattle.program.specs.Compiling.{binding_count}
use Rattle.program.specs.Programs as means
use Rattle.program.specs.Programs.{Name, Program, Define, Val, Global, global_of, basis_count}
use Rattle.program.specs.Scopes.{names_inside, pattern_names}
use Rattle.rules.specs.declared.fault.FaultKind.{FaultKind}
use Rattle.rules.specs.declared.fault.FaultKind.TheVariants.{NoBranch}
use Rattle.rules.specs.Runs.{main_of}
use Rattle.rules.specs.States.{full, argument, Environment, Target, builds, calls, Frame, if_test, if_arm, begin_part, let_binding, scope_end, case_test, head_value, next_argument, body_value, enter, finished, Account, State, st, takes, gives, environment_size}
use Rattle.rules.specs.Steps as rules_step
use Rattle.rules.specs.Steps.{Outcome, goes, fails, stuck, Sizes, needs, Looked, got, consumed, absent, look, Taken, took, short, take_arguments, Bound, binds, unfit, giving, bind_parts, leave_names, plains_of, symbol_body, is_constructor, rules, waits, build, answer, call_plain, call_basis, enter_body, call_define, call_number, apply, proceed, bind_next, val_entered, enter_global, enter_name, dup_entered, enter_construct, is_local, enter_named, enter_apply, enter_expr, test_handed, enter_branch, try_branch, select_branch, tested_handed, head_handed, hand_end}
use Rattle.rules.proofs.Advances.{Going, going_enter, going_finished}
use Rattle.rules.proofs.Walking.{Walk, stop, go, Ahead, ahead}
use Rattle.evaluation.specs.Evaluation as rule
use Rattle.evaluation.specs.Evaluation.{Course, step, take, give, prints, reads, Gives, gives_int, gives_bool, gives_print, gives_byte, fits, First, only, here, later, Opens, opens_any, opens_fields, Evaluates, EvaluatesRow, row_last, row_more, EvaluatesBindings, bindings_none, bindings_more, EvaluatesEach, each_none, each_more, Applies, applies_basis, applies_define}
use Rattle.evaluation.proofs.Weaving.{Shape, woven, names, hold, names_more, woven_looked, look_woven, woven_bound, bind_woven, leave_woven, counted, take_held}

-- a step that is taken
pub record Next (P : Program) (Z : Sizes) (k : ℕ) (s : State) (o : List ℕ) (T : State) (O : List ℕ) : Type 0 where
  pub left : ℕ
  pub more : k ≡ suc left
  pub ahead : Ahead P Z left (rules_step.step P Z (main_of P) s) o T O

pub next_step : (P : Program) (Z : Sizes) {k : ℕ} {s : State} {o : List ℕ} {T : State} {O : List ℕ} → (Going T → ⊥) → Going s → Walk P Z k s o T O → Next P Z k s o T O
next_step P Z last g stop = absurd (last g)
next_step P Z last g (go {k = k} a) = record { left = k; more = refl; ahead = a }

-- A run that reaches a state T from which no step goes, with the output O.
module _ (P : Program) (Z : Sizes) (T : State) (O : List ℕ) (last : Going T → ⊥) where
  abbrev pub W : ℕ → State → List ℕ → Type 0
  W k s o = Walk P Z k s o T O

  abbrev pub A : ℕ → Outcome → List ℕ → Type 0
  A k x o = Ahead P Z k x o T O

  pub handed : {k : ℕ} {K : List Frame} {env : Environment} {v : Tree} {a : Account} {o : List ℕ} → W k (st K env (finished v) a) o → Next P Z k (st K env (finished v) a) o T O
  handed w = next_step P Z last going_finished w

  -- what a step came to that was taken
  pub quiet : {k : ℕ} {s : State} {o : List ℕ} → A k (goes [] s) o → W k s o
  quiet {k} {s} {o} (ahead {o₁ = o₁} e w) = let same : o₁ ≡ o = e ∙ append-nil o in subst (λ (o : List ℕ). W k s o) same w

  printing : {k : ℕ} {bytes : List ℕ} {s : State} {o : List ℕ} → A k (goes bytes s) o → W k s (o ++ bytes)
  printing {k} {bytes} {s} {o} (ahead {o₁ = o₁} e w) = subst (λ (o : List ℕ). W k s o) e w

  met : {k : ℕ} (kind : FaultKind) (b : Bool) (x : Outcome) {o : List ℕ} → A k (needs kind b x) o → A k x o
  met kind true (goes bytes s) a = a
  met kind false (goes bytes s) a = elim a [ ]
  met kind true (fails k f) a = a
  met kind false (fails k f) a = elim a [ ]
  met kind b stuck a = a

  pub waited : {k : ℕ} (f : Frame) (e : Expr) (K : List Frame) (env : Environment) (a : Account) {o : List ℕ} → A k (waits P Z f e K env a) o → W k (st (f ∷ K) env (enter e) a) o
  unfolding rules
  waited f e K env a x = quiet (met _ _ (goes [] (st (f ∷ K) env (enter e) a)) x)

  -- What is derived from such a run, and the rest of it.
  pub record Gave (k : ℕ) (K : List Frame) (s : Shape) (ρ : Environment) (h : Course) (e : Expr) : Type 0 where
    pub value : Tree
    pub after : Environment
    pub course : Course
    pub left : ℕ
    pub derived : Evaluates P ρ h e value after course
    pub rest : W left (st K (woven s after) (finished value) course.account) course.output
    pub shorter : left < k
    pub steps : course.steps + left ≡ h.steps + k

  record GaveRow (k : ℕ) (K : List Frame) (s : Shape) (ρ : Environment) (h : Course) (u : Tree) (es : Exprs) : Type 0 where
    value : Tree
    after : Environment
    course : Course
    left : ℕ
    derived : EvaluatesRow P ρ h u es value after course
    rest : W left (st K (woven s after) (finished value) course.account) course.output
    shorter : left < k
    steps : course.steps + left ≡ h.steps + k

  record GaveBindings (k p n m : ℕ) (e : Expr) (K : List Frame) (s : Shape) (ρ : Environment) (h : Course) (bs : Bindings) : Type 0 where
    after : Environment
    course : Course
    left : ℕ
    derived : EvaluatesBindings P ρ h bs after course
    rest : W left (st (scope_end p n ∷ K) (woven (names m s) after) (enter e) course.account) course.output
    shorter : left ≤ k
    steps : course.steps + left ≡ h.steps + k

  record GaveEach (k p : ℕ) (t : Target) (c : ℕ) (K : List Frame) (s : Shape) (ρ : Environment) (h : Course) (es : Exprs) : Type 0 where
    values : Trees
    after : Environment
    course : Course
    left : ℕ
    held : ℕ
    derived : EvaluatesEach P ρ h es values after course
    rest : A left (apply P Z p t held K (woven (hold values s) after) course.account) course.output
    all : held ≡ c + counted values
    shorter : left ≤ k
    steps : course.steps + left ≡ h.steps + k

  record GaveApplied (k n : ℕ) (vs : Trees) (K : List Frame) (s : Shape) (ρ : Environment) (h : Course) : Type 0 where
    value : Tree
    course : Course
    left : ℕ
    derived : Applies P n vs h value course
    rest : W left (st K (woven s ρ) (finished value) course.account) course.output
    shorter : left ≤ k
    steps : course.steps + left ≡ h.steps + k

  record Chosen (k p c : ℕ) (vs : Trees) (K : List Frame) (s : Shape) (ρ : Environment) (h : Course) (bs : Branches) : Type 0 where
    pattern' : Pattern
    body : Expr
    inside : Environment
    given : ℕ
    first : First P c bs pattern' body
    opens : Opens P c vs ρ pattern' inside given
    rest : W k (st (scope_end p (pattern_names pattern') ∷ K) (woven (names (pattern_names pattern') s) inside) (enter body) (gives given h.account)) h.output

  -- an expression that is entered with at most m steps left
  abbrev Back : ℕ → Type 0
  Back m = (k : ℕ) (K : List Frame) (s : Shape) (ρ : Environment) (h : Course) (e : Expr) → k ≤ m → W k (st K (woven s ρ) (enter e) h.account) h.output → Gave k K s ρ h e

  module _ (m : ℕ) (back : Back m) where
    row_back : (es : Exprs) (k p : ℕ) (K : List Frame) (s : Shape) (ρ : Environment) (h : Course) (u : Tree) → k ≤ m → W k (st (begin_part p es ∷ K) (woven s ρ) (finished u) h.account) h.output → GaveRow k K s ρ h u es
    unfolding rules
    row_back no_exprs k p K s ρ h u l w =
        let n = handed w in
        record { value = u; after = ρ; course = step h; left = n.left; derived = row_last; rest = quiet n.ahead; shorter = omega (arith, n.more); steps = omega (arith, n.more) }
    row_back (and_expr e es) k p K s ρ h u l w =
        let n = handed w in
        let a = back n.left (begin_part p es ∷ K) s ρ (step (give (size u) h)) e (omega (arith, n.more)) (quiet n.ahead) in
        let b = row_back es a.left p K s a.after a.course a.value (omega (arith, n.more, a.shorter)) a.rest in
        record { value = b.value; after = b.after; course = b.course; left = b.left; derived = row_more a.derived b.derived; rest = b.rest; shorter = omega (arith, n.more, a.shorter, b.shorter); steps = omega (arith, n.more, a.steps, b.steps) }

    bindings_back : (bs : Bindings) (k p n c : ℕ) (e : Expr) (K : List Frame) (s : Shape) (ρ : Environment) (h : Course) → c ≡ binding_count bs → k ≤ m → A k (bind_next P Z p bs e n K (woven s ρ) h.account) h.output
        → GaveBindings k p n c e K s ρ h bs
    unfolding rules
    bindings_back no_bindings k p n c e K s ρ h q l a =
        let z : 0 ≡ c = omega arith in
        record { after = ρ; course = h; left = k; derived = bindings_none; rest = subst (λ (c : ℕ). W k (st (scope_end p n ∷ K) (woven (names c s) ρ) (enter e) h.account) h.output) z (quiet a); shorter = omega arith; steps = refl }
    bindings_back (and_binding q x f bs) k p n c e K s ρ h z l a =
        let b = back k (let_binding p x bs e n ∷ K) s ρ h f l (quiet a) in
        let i = handed b.rest in
        let d = bindings_back bs i.left p n (binding_count bs) e K (None ∷ s) (full x.bytes b.value ∷ b.after) (step b.course) refl (omega (arith, i.more, b.shorter))
        (met _ _ (bind_next P Z p bs e n K (full x.bytes b.value ∷ woven s b.after) b.course.account) i.ahead) in
        let same : suc (binding_count bs) ≡ c = omega arith in
        let r = subst (λ (t : Shape). W d.left (st (scope_end p n ∷ K) (woven t d.after) (enter e) d.course.account) d.course.output) (names_more (binding_count bs) s) d.rest in
        record {
          after = d.after;
          course = d.course;
          left = d.left;
          derived = bindings_more b.derived d.derived;
          rest = subst (λ (c : ℕ). W d.left (st (scope_end p n ∷ K) (woven (names c s) d.after) (enter e) d.course.account) d.course.output) same r;
          shorter = omega (arith, b.shorter, i.more, d.shorter);
          steps = omega (arith, b.steps, i.more, d.steps);
        }

    each_back : (es : Exprs) (k p : ℕ) (t : Target) (c : ℕ) (K : List Frame) (s : Shape) (ρ : Environment) (h : Course) → k ≤ m → A k (proceed P Z p t c es K (woven s ρ) h.account) h.output → GaveEach k p t c K s ρ h es
    unfolding rules
    each_back no_exprs k p t c K s ρ h l a =
        record { values = none; after = ρ; course = h; left = k; held = c; derived = each_none; rest = a; all = omega arith; shorter = omega arith; steps = refl }
    each_back (and_expr e es) k p t c K s ρ h l a =
        let b = back k (next_argument p t c es ∷ K) s ρ h e l (quiet a) in
        let i = handed b.rest in
        let d = each_back es i.left p t (c + 1) K (Some b.value ∷ s) b.after (step b.course) (omega (arith, i.more, b.shorter))
        (met _ _ (proceed P Z p t (c + 1) es K (argument b.value ∷ woven s b.after) b.course.account) i.ahead) in
        record {
          values = more b.value d.values;
          after = d.after;
          course = d.course;
          left = d.left;
          held = d.held;
          derived = each_more b.derived d.derived;
          rest = d.rest;
          all = omega (arith, d.all);
          shorter = omega (arith, b.shorter, i.more, d.shorter);
          steps = omega (arith, b.steps, i.more, d.steps);
        }

    -- a call of a function of the basis
    record GaveBasis (k : ℕ) (r : Applied) (K : List Frame) (env : Environment) (h : Course) : Type 0 where
      value : Tree
      course : Course
      gives : Gives P h r value course
      rest : W k (st K env (finished value) course.account) course.output
      same : course.steps ≡ h.steps

    answer_back : (k : ℕ) (f : Basis) (r : Applied) (K : List Frame) (env : Environment) (h : Course) → A k (answer P Z f K env h.account r) h.output → GaveBasis k r K env h
    unfolding rules
    answer_back k f (applied.Int z) K env h a = record { value = int z; course = h; gives = gives_int; rest = quiet a; same = refl }
    answer_back k f (applied.Bool b) K env h a = record { value = bool b; course = h; gives = gives_bool; rest = quiet a; same = refl }
    answer_back k f (applied.Prints p) K env h a = record { value = unit; course = prints (printed p (symbol_body P.literals p)) h; gives = gives_print; rest = printing a; same = refl }
    answer_back k f applied.Reads K env h a = record { value = int (rules_step.first_byte h.account.input); course = reads h; gives = gives_byte; rest = quiet a; same = refl }
    answer_back k f (applied.Faults e) K env h a = elim a [ ]
    answer_back k f applied.Mismatch K env h a = elim a [ ]

    module _ (k p n : ℕ) (vs : Trees) (K : List Frame) (s : Shape) (ρ : Environment) (h : Course) (l : k ≤ m) where
      plain_back : (f : Basis) (o : Option (List Plain)) → numbered n ≡ Some f → plains_of vs ≡ o → A k (call_plain P Z f K (woven s ρ) h.account o) h.output → GaveApplied k n vs K s ρ h
      unfolding rules
      plain_back f None e q a = elim a [ ]
      plain_back f (Some ps) e q a =
          let g = answer_back k f (basis_calls.applied f ps) K (woven s ρ) h a in
          record { value = g.value; course = g.course; left = k; derived = applies_basis e q g.gives; rest = g.rest; shorter = omega arith; steps = omega (arith, g.same) }

      body_back : (d : Define) (b : Bound) → numbered n ≡ None → slice_get P.defines (n - basis_count) ≡ Some d → bind_parts (map bound d.parameters) vs [] ≡ b → A k (enter_body P Z p d.body K (woven s ρ) h.account b) h.output
          → GaveApplied k n vs K s ρ h
      unfolding rules
      body_back d (binds ρ₀ i) e q b a =
          let g = back k (body_value p (woven s ρ) ∷ K) [] ρ₀ h d.body l (quiet a) in
          let j = handed g.rest in
          record {
            value = g.value;
            course = step (give (environment_size g.after) g.course);
            left = j.left;
            derived = applies_define e q b g.derived;
            rest = quiet j.ahead;
            shorter = omega (arith, j.more, g.shorter);
            steps = omega (arith, j.more, g.steps);
          }
      body_back d unfit e q b a = elim a [ ]

      called_back : (c : ℕ) → c ≡ counted vs → (f : Option Basis) (d : Option Define) → numbered n ≡ f → slice_get P.defines (n - basis_count) ≡ d → A k (call_number P Z p n c K (woven (hold vs s) ρ) h.account f d) h.output
          → GaveApplied k n vs K s ρ h
      unfolding rules
      called_back c z (Some f) d e q a =
          plain_back f (plains_of vs) e refl (subst (λ (t : Taken). A k (call_basis P Z f K h.account t) h.output) (take_held c vs s ρ z) a)
      called_back c z None (Some d) e q a =
          body_back d (bind_parts (map bound d.parameters) vs []) e q refl (subst (λ (t : Taken). A k (call_define P Z p d K h.account t) h.output) (take_held c vs s ρ z) a)
      called_back c z None None e q a = elim a [ ]

      applied_back : (c : ℕ) → c ≡ counted vs → A k (apply P Z p (calls n) c K (woven (hold vs s) ρ) h.account) h.output → GaveApplied k n vs K s ρ h
      unfolding rules
      applied_back c z a = called_back c z (numbered n) (slice_get P.defines (n - basis_count)) refl refl a

    -- branches
    module _ (k p c : ℕ) (vs : Trees) (K : List Frame) (s : Shape) (ρ : Environment) (h : Course) where
      fields_back : (q : ℕ) (i : Ident) (xs : List PatternPart) (f : Expr) (bs : Branches) (b : Bound) → First P c bs (constructor q i xs) f → bind_parts xs vs ρ ≡ b
          → A k (enter_branch P Z p (names_inside xs) f K (woven s ρ) h.account (giving (cost vs) (woven_bound (names (names_inside xs) s) b))) h.output → Chosen k p c vs K s ρ h bs
      unfolding rules
      fields_back q i xs f bs (binds ρ' g) o e a =
          record { pattern' = constructor q i xs; body = f; inside = ρ'; given = cost vs + g; first = o; opens = opens_fields e; rest = quiet (met _ _ (goes [] (st (scope_end p (names_inside xs) ∷ K) (woven (names (names_inside xs) s) ρ') (enter f) (gives (cost vs + g) h.account))) a) }
      fields_back q i xs f bs unfit o e a = elim a [ ]

      try_back : (x : Pattern) (f : Expr) (bs : Branches) (other : Outcome) → (fits P c x ≡ true → First P c bs x f) → (fits P c x ≡ false → A k other h.output → Chosen k p c vs K s ρ h bs)
          → A k (try_branch P Z p x f c vs K (woven s ρ) h.account other) h.output → Chosen k p c vs K s ρ h bs
      unfolding rules
      try_back (wildcard q) f bs other yes' no' a =
          record { pattern' = wildcard q; body = f; inside = ρ; given = size (built c vs); first = yes' refl; opens = opens_any; rest = quiet a }
      try_back (constructor q i xs) f bs other yes' no' a = go (is_constructor c (global_of P i.bytes)) refl a
        where
          go : (b : Bool) → is_constructor c (global_of P i.bytes) ≡ b → A k (cond b (enter_branch P Z p (names_inside xs) f K (woven s ρ) h.account (giving (cost vs) (bind_parts xs vs (woven s ρ)))) other) h.output → Chosen k p c vs K s ρ h bs
          go true e a =
              fields_back q i xs f bs (bind_parts xs vs ρ) (yes' e) refl
              (subst (λ (b : Bound). A k (enter_branch P Z p (names_inside xs) f K (woven s ρ) h.account (giving (cost vs) b)) h.output) (bind_woven (names_inside xs) xs vs s ρ refl) a)
          go false e a = no' e a

      chosen_later : (q : ℕ) (x : Pattern) (f : Expr) (bs : Branches) → fits P c x ≡ false → Chosen k p c vs K s ρ h bs → Chosen k p c vs K s ρ h (and_branch q x f bs)
      chosen_later q x f bs e i = record { pattern' = i.pattern'; body = i.body; inside = i.inside; given = i.given; first = later e i.first; opens = i.opens; rest = i.rest }

      select_back : (bs : Branches) → A k (select_branch P Z p bs c vs K (woven s ρ) h.account) h.output → Chosen k p c vs K s ρ h bs
      unfolding rules
      select_back (last_branch q x f) a = try_back x f (last_branch q x f) (fails NoBranch None) only (λ e a. elim a [ ]) a
      select_back (and_branch q x f bs) a = try_back x f (and_branch q x f bs) (select_branch P Z p bs c vs K (woven s ρ) h.account) here (λ e a. chosen_later q x f bs e (select_back bs a)) a

    -- From here on k steps are left after the one that is made, and h is the course before that.
    module _ (k : ℕ) (K : List Frame) (s : Shape) (ρ : Environment) (h : Course) (l : k ≤ m) where
      -- the names of a let or a branch leave
      record Left (b : Bound) (v : Tree) (g : Course) (j : ℕ) : Type 0 where
        after : Environment
        given : ℕ
        is : b ≡ binds after given
        rest : W j (st K (woven s after) (finished v) (gives given g.account)) g.output

      left_back : (b : Bound) (v : Tree) (g : Course) (j : ℕ) → A j (hand_end P Z K g.account v (woven_bound s b)) g.output → Left b v g j
      unfolding rules
      left_back (binds ρ' i) v g j a = record { after = ρ'; given = i; is = refl; rest = quiet a }
      left_back unfit v g j a = elim a [ ]

      left_names : (n : ℕ) (ρ' : Environment) (v : Tree) (g : Course) (j : ℕ) → A j (hand_end P Z K g.account v (leave_names n (woven (names n s) ρ'))) g.output → Left (leave_names n ρ') v g j
      left_names n ρ' v g j a = left_back (leave_names n ρ') v g j (subst (λ (b : Bound). A j (hand_end P Z K g.account v b) g.output) (leave_woven n s ρ') a)

      -- names
      val_back : (p i : ℕ) (w : Name) (o : Option Val) → look w ρ ≡ absent → global_of P w ≡ means.val i → slice_get P.vals i ≡ o → A k (val_entered P Z p K (woven s ρ) h.account o) h.output → Gave (suc k) K s ρ h (tree.name p w)
      unfolding rules
      val_back p i w None e g q a = elim a [ ]
      val_back p i w (Some d) e g q a =
          let b = back k (body_value p (woven s ρ) ∷ K) [] [] (step h) d.expr l (waited (body_value p (woven s ρ)) d.expr K [] h.account a) in
          let j = handed b.rest in
          record {
            value = b.value;
            after = ρ;
            course = step (give (environment_size b.after) b.course);
            left = j.left;
            derived = rule.val_name e g q b.derived;
            rest = quiet j.ahead;
            shorter = omega (arith, j.more, b.shorter);
            steps = omega (arith, j.more, b.steps);
          }

      global_back : (p : ℕ) (w : Name) (g : Global) → look w ρ ≡ absent → global_of P w ≡ g → A k (enter_global P Z p K (woven s ρ) h.account g) h.output → Gave (suc k) K s ρ h (tree.name p w)
      unfolding rules
      global_back p w (means.function n) e g a =
          record { value = function n; after = ρ; course = step h; left = k; derived = rule.function_name e g; rest = quiet a; shorter = omega arith; steps = omega arith }
      global_back p w (means.constructor c) e g a = elim a [ ]
      global_back p w (means.val i) e g a = val_back p i w (slice_get P.vals i) e g refl a
      global_back p w means.unbound e g a = elim a [ ]

      name_back : (p : ℕ) (w : Name) (o : Looked) → look w ρ ≡ o → A k (enter_name P Z p w K (woven s ρ) h.account (woven_looked s o)) h.output → Gave (suc k) K s ρ h (tree.name p w)
      unfolding rules
      name_back p w (got v ρ') e a =
          record { value = v; after = ρ'; course = step h; left = k; derived = rule.local_name e; rest = quiet a; shorter = omega arith; steps = omega arith }
      name_back p w consumed e a = elim a [ ]
      name_back p w absent e a = global_back p w (global_of P w) e refl a

      dup_back : (p : ℕ) (x : Ident) (o : Looked) → look x.bytes ρ ≡ o → A k (dup_entered P Z K (woven s ρ) h.account (woven_looked s o)) h.output → Gave (suc k) K s ρ h (tree.dup_expr p x)
      unfolding rules
      dup_back p x (got v ρ') e a =
          record { value = v; after = ρ; course = step (take (size v) h); left = k; derived = rule.dup_expression e; rest = quiet (met _ _ (goes [] (st K (woven s ρ) (finished v) (takes (size v) h.account))) a); shorter = omega arith; steps = omega arith }
      dup_back p x consumed e a = elim a [ ]
      dup_back p x absent e a = elim a [ ]

      -- if
      arm_back : (p : ℕ) (e x y z : Expr) (ρ₁ : Environment) (g : Course) (j : ℕ) → suc j ≤ k → g.steps + suc j ≡ h.steps + suc k → W j (st (if_arm p ∷ K) (woven s ρ₁) (enter z) g.account) g.output
          → ((v : Tree) (ρ' : Environment) (g' : Course) → Evaluates P ρ₁ (step g) z v ρ' g' → Evaluates P ρ h (tree.if_expr p e x y) v ρ' (step g')) → Gave (suc k) K s ρ h (tree.if_expr p e x y)
      unfolding rules
      arm_back p e x y z ρ₁ g j f q w d =
          let b = back j (if_arm p ∷ K) s ρ₁ (step g) z (omega arith) w in
          let i = handed b.rest in
          record { value = b.value; after = b.after; course = step b.course; left = i.left; derived = d b.value b.after b.course b.derived; rest = quiet i.ahead; shorter = omega (arith, i.more, b.shorter); steps = omega (arith, i.more, b.steps) }

      test_back : (p : ℕ) (e x y : Expr) (v : Tree) (ρ₁ : Environment) (g : Course) (j : ℕ) → Evaluates P ρ (step h) e v ρ₁ g → suc j ≤ k → g.steps + suc j ≡ h.steps + suc k → A j (test_handed P Z p x y K (woven s ρ₁) g.account v) g.output
          → Gave (suc k) K s ρ h (tree.if_expr p e x y)
      unfolding rules
      test_back p e x y (bool true) ρ₁ g j d f q a = arm_back p e x y x ρ₁ g j f q (quiet a) (λ v ρ' g'. rule.if_it_is_true d)
      test_back p e x y (bool false) ρ₁ g j d f q a = arm_back p e x y y ρ₁ g j f q (quiet a) (λ v ρ' g'. rule.if_it_is_false d)
      test_back p e x y (int z) ρ₁ g j d f q a = elim a [ ]
      test_back p e x y (symbol z) ρ₁ g j d f q a = elim a [ ]
      test_back p e x y unit ρ₁ g j d f q a = elim a [ ]
      test_back p e x y (function z) ρ₁ g j d f q a = elim a [ ]
      test_back p e x y (built c vs) ρ₁ g j d f q a = elim a [ ]

      -- case
      tested_back : (p : ℕ) (e : Expr) (bs : Branches) (v : Tree) (ρ₁ : Environment) (g : Course) (j : ℕ) → Evaluates P ρ (step h) e v ρ₁ g → suc j ≤ k → g.steps + suc j ≡ h.steps + suc k → A j (tested_handed P Z p bs K (woven s ρ₁) g.account v) g.output
          → Gave (suc k) K s ρ h (tree.case_expr p e bs)
      unfolding rules
      tested_back p e bs (built c vs) ρ₁ g j d f q a =
          let t = select_back j p c vs K s ρ₁ g bs a in
          let n = pattern_names t.pattern' in
          let b = back j (scope_end p n ∷ K) (names n s) t.inside (step (give t.given g)) t.body (omega arith) t.rest in
          let i = handed b.rest in
          let x = left_names n b.after b.value b.course i.left i.ahead in
          record {
            value = b.value;
            after = x.after;
            course = step (give x.given b.course);
            left = i.left;
            derived = rule.case_expression d t.first t.opens b.derived x.is;
            rest = x.rest;
            shorter = omega (arith, i.more, b.shorter);
            steps = omega (arith, i.more, b.steps);
          }
      tested_back p e bs (int z) ρ₁ g j d f q a = elim a [ ]
      tested_back p e bs (bool z) ρ₁ g j d f q a = elim a [ ]
      tested_back p e bs (symbol z) ρ₁ g j d f q a = elim a [ ]
      tested_back p e bs unit ρ₁ g j d f q a = elim a [ ]
      tested_back p e bs (function z) ρ₁ g j d f q a = elim a [ ]

      -- applications
      headed_back : (p : ℕ) (e : Expr) (es : Exprs) (v : Tree) (ρ₁ : Environment) (g : Course) (j : ℕ) → Evaluates P ρ (step h) e v ρ₁ g → suc j ≤ k → g.steps + suc j ≡ h.steps + suc k → A j (head_handed P Z p es K (woven s ρ₁) g.account v) g.output
          → Gave (suc k) K s ρ h (tree.apply_expr p e es)
      unfolding rules
      headed_back p e es (function n) ρ₁ g j d f q a =
          let b = each_back es j p (calls n) 0 K s ρ₁ (step g) (omega arith) a in
          let c = applied_back b.left p n b.values K s b.after b.course (omega (arith, b.shorter)) b.held (omega (arith, b.all)) b.rest in
          record {
            value = c.value;
            after = b.after;
            course = c.course;
            left = c.left;
            derived = rule.apply_expression d b.derived c.derived;
            rest = c.rest;
            shorter = omega (arith, b.shorter, c.shorter);
            steps = omega (arith, b.steps, c.steps);
          }
      headed_back p e es (int z) ρ₁ g j d f q a = elim a [ ]
      headed_back p e es (bool z) ρ₁ g j d f q a = elim a [ ]
      headed_back p e es (symbol z) ρ₁ g j d f q a = elim a [ ]
      headed_back p e es unit ρ₁ g j d f q a = elim a [ ]
      headed_back p e es (built c vs) ρ₁ g j d f q a = elim a [ ]

      head_back : (p : ℕ) (e : Expr) (es : Exprs) → A k (waits P Z (head_value p es) e K (woven s ρ) h.account) h.output → Gave (suc k) K s ρ h (tree.apply_expr p e es)
      unfolding rules
      head_back p e es a =
          let b = back k (head_value p es ∷ K) s ρ (step h) e l (waited (head_value p es) e K (woven s ρ) h.account a) in
          let i = handed b.rest in
          headed_back p e es b.value b.after b.course i.left b.derived (omega (arith, i.more, b.shorter)) (omega (arith, i.more, b.steps)) i.ahead

      proceeds : (p c : ℕ) (es : Exprs) → A k (enter_construct P Z p c es K (woven s ρ) h.account) h.output → A k (proceed P Z p (builds c) 0 es K (woven s ρ) h.account) h.output
      unfolding rules
      proceeds p c no_exprs a = a
      proceeds p c (and_expr e es) a = met _ _ (goes [] (st (next_argument p (builds c) 0 es ∷ K) (woven s ρ) (enter e) h.account)) a

      construct_back : (p q c : ℕ) (w : Name) (es : Exprs) → look w ρ ≡ absent → global_of P w ≡ means.constructor c → A k (enter_construct P Z p c es K (woven s ρ) h.account) h.output → Gave (suc k) K s ρ h (tree.apply_expr p (tree.name q w) es)
      unfolding rules
      construct_back p q c w es e g a =
          let b = each_back es k p (builds c) 0 K s ρ (step h) l (proceeds p c es a) in
          let z : b.held ≡ counted b.values = omega (arith, b.all) in
          let r = subst (λ (t : Taken). A b.left (build P Z c K (woven (hold b.values s) b.after) b.course.account t) b.course.output) (take_held b.held b.values s b.after z) b.rest in
          record {
            value = built c b.values;
            after = b.after;
            course = take (cost b.values) b.course;
            left = b.left;
            derived = rule.construct_expression e g b.derived;
            rest = quiet (met _ _ (goes [] (st K (woven s b.after) (finished (built c b.values)) (takes (cost b.values) b.course.account))) r);
            shorter = omega (arith, b.shorter);
            steps = omega (arith, b.steps);
          }

      meant_back : (p q : ℕ) (w : Name) (es : Exprs) (g : Global) → look w ρ ≡ absent → global_of P w ≡ g → A k (enter_named P Z p (tree.name q w) es K (woven s ρ) h.account g) h.output → Gave (suc k) K s ρ h (tree.apply_expr p (tree.name q w) es)
      unfolding rules
      meant_back p q w es (means.function n) e g a = head_back p (tree.name q w) es a
      meant_back p q w es (means.constructor c) e g a = construct_back p q c w es e g a
      meant_back p q w es (means.val i) e g a = head_back p (tree.name q w) es a
      meant_back p q w es means.unbound e g a = head_back p (tree.name q w) es a

      named_back : (p q : ℕ) (w : Name) (es : Exprs) (o : Looked) → look w ρ ≡ o
          → A k (cond (is_local P Z (woven_looked s o)) (waits P Z (head_value p es) (tree.name q w) K (woven s ρ) h.account) (enter_named P Z p (tree.name q w) es K (woven s ρ) h.account (global_of P w))) h.output
          → Gave (suc k) K s ρ h (tree.apply_expr p (tree.name q w) es)
      unfolding rules
      named_back p q w es (got v ρ') e a = head_back p (tree.name q w) es a
      named_back p q w es consumed e a = head_back p (tree.name q w) es a
      named_back p q w es absent e a = meant_back p q w es (global_of P w) e refl a

      apply_back : (p : ℕ) (e : Expr) (es : Exprs) → A k (enter_apply P Z p e es K (woven s ρ) h.account) h.output → Gave (suc k) K s ρ h (tree.apply_expr p e es)
      unfolding rules
      apply_back p (tree.name q w) es a =
          named_back p q w es (look w ρ) refl
          (subst (λ (o : Looked). A k (cond (is_local P Z o) (waits P Z (head_value p es) (tree.name q w) K (woven s ρ) h.account) (enter_named P Z p (tree.name q w) es K (woven s ρ) h.account (global_of P w))) h.output) (look_woven w s ρ) a)
      apply_back p (tree.integer q z) es a = head_back p _ es a
      apply_back p (tree.symbol q w) es a = head_back p _ es a
      apply_back p (tree.boolean q b) es a = head_back p _ es a
      apply_back p (tree.unit q) es a = head_back p _ es a
      apply_back p (tree.if_expr q x y z) es a = head_back p _ es a
      apply_back p (tree.begin_expr q x xs) es a = head_back p _ es a
      apply_back p (tree.let_expr q bs x) es a = head_back p _ es a
      apply_back p (tree.case_expr q x bs) es a = head_back p _ es a
      apply_back p (tree.dup_expr q x) es a = head_back p _ es a
      apply_back p (tree.apply_expr q x xs) es a = head_back p _ es a

      -- every form
      enter_back : (e : Expr) → A k (enter_expr P Z K (woven s ρ) h.account e) h.output → Gave (suc k) K s ρ h e
      unfolding rules
      enter_back (tree.integer p z) a = record { value = int z; after = ρ; course = step h; left = k; derived = rule.integer; rest = quiet a; shorter = omega arith; steps = omega arith }
      enter_back (tree.symbol p w) a = record { value = _; after = ρ; course = step h; left = k; derived = rule.symbol_literal; rest = quiet a; shorter = omega arith; steps = omega arith }
      enter_back (tree.boolean p b) a = record { value = bool b; after = ρ; course = step h; left = k; derived = rule.boolean; rest = quiet a; shorter = omega arith; steps = omega arith }
      enter_back (tree.unit p) a = record { value = unit; after = ρ; course = step h; left = k; derived = rule.unit_literal; rest = quiet a; shorter = omega arith; steps = omega arith }
      enter_back (tree.name p w) a = name_back p w (look w ρ) refl (subst (λ (o : Looked). A k (enter_name P Z p w K (woven s ρ) h.account o) h.output) (look_woven w s ρ) a)
      enter_back (tree.dup_expr p x) a = dup_back p x (look x.bytes ρ) refl (subst (λ (o : Looked). A k (dup_entered P Z K (woven s ρ) h.account o) h.output) (look_woven x.bytes s ρ) a)
      enter_back (tree.if_expr p e x y) a =
          let b = back k (if_test p x y ∷ K) s ρ (step h) e l (waited (if_test p x y) e K (woven s ρ) h.account a) in
          let i = handed b.rest in
          test_back p e x y b.value b.after b.course i.left b.derived (omega (arith, i.more, b.shorter)) (omega (arith, i.more, b.steps)) i.ahead
      enter_back (tree.begin_expr p e es) a =
          let b = back k (begin_part p es ∷ K) s ρ (step h) e l (waited (begin_part p es) e K (woven s ρ) h.account a) in
          let c = row_back es b.left p K s b.after b.course b.value (omega (arith, b.shorter)) b.rest in
          record { value = c.value; after = c.after; course = c.course; left = c.left; derived = rule.begin_expression b.derived c.derived; rest = c.rest; shorter = omega (arith, b.shorter, c.shorter); steps = omega (arith, b.steps, c.steps) }
      enter_back (tree.let_expr p bs e) a =
          let n = binding_count bs in
          let b = bindings_back bs k p n n e K s ρ (step h) refl l (met _ _ (bind_next P Z p bs e n K (woven s ρ) h.account) a) in
          let c = back b.left (scope_end p n ∷ K) (names n s) b.after b.course e (omega (arith, b.shorter)) b.rest in
          let i = handed c.rest in
          let x = left_names n c.after c.value c.course i.left i.ahead in
          record {
            value = c.value;
            after = x.after;
            course = step (give x.given c.course);
            left = i.left;
            derived = rule.let_expression b.derived c.derived x.is;
            rest = x.rest;
            shorter = omega (arith, b.shorter, i.more, c.shorter);
            steps = omega (arith, b.steps, i.more, c.steps);
          }
      enter_back (tree.case_expr p e bs) a =
          let b = back k (case_test p bs ∷ K) s ρ (step h) e l (waited (case_test p bs) e K (woven s ρ) h.account a) in
          let i = handed b.rest in
          tested_back p e bs b.value b.after b.course i.left b.derived (omega (arith, i.more, b.shorter)) (omega (arith, i.more, b.steps)) i.ahead
      enter_back (tree.apply_expr p e es) a = apply_back p e es a

  pub goes_back : (m : ℕ) → Back m
  unfolding rules
  goes_back zero k K s ρ h e l w = let n = next_step P Z last going_enter w in absurd (omega (arith, n.more))
  goes_back (suc m) k K s ρ h e l w =
      let n = next_step P Z last going_enter w in
      let same : suc n.left ≡ k = omega (arith, n.more) in
      subst (λ (k : ℕ). Gave k K s ρ h e) same (enter_back m (goes_back m) n.left K s ρ h (omega (arith, n.more)) e n.ahead)
