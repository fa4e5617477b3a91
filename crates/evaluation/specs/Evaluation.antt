-- The evaluation of expressions, as the language's manual words it. In an environment an expression gives a value; afterwards the
-- environment has the same names, and those that were consumed are empty. Beside it goes the course of the run: the input left, what
-- is printed so far, the steps, and the cells taken and given back so far.
use Rattle.std.specs.Prelude.{◌≡◌, ℕ, ◌+◌, ◌-◌, Bool, true, false, List, [], ◌∷◌, ◌++◌, map, ℤ, Some, None}
use Rattle.std.specs.List.{slice_get}
use Rattle.basis.specs.Calls.{applied}
use Rattle.basis.specs.Numbers.{numbered}
use Rattle.basis.specs.Printing.{printed}
use Rattle.basis.specs.declared.applied.Applied.{Applied}
use Rattle.basis.specs.declared.applied.Applied.TheVariants as applied
use Rattle.basis.specs.declared.function.Basis.{Basis}
use Rattle.basis.specs.declared.plain.Plain.{Plain}
use Rattle.basis.specs.declared.print.Print.{Print}
use Rattle.data.specs.Trees.{Tree, int, bool, symbol, unit, function, built, Trees, none, more, cost, size}
use Rattle.layout.specs.Literals.{place_of_first}
use Rattle.grammar.specs.Trees as tree
use Rattle.grammar.specs.Trees.{Ident, PatternPart, bound, Pattern, wildcard, constructor, Expr, Exprs, no_exprs, and_expr, Bindings, no_bindings, and_binding, Branches, last_branch, and_branch}
use Rattle.program.specs.Compiling.{binding_count}
use Rattle.program.specs.Programs as means
use Rattle.program.specs.Programs.{Name, Program, Define, Val, global_of, basis_count}
use Rattle.program.specs.Scopes.{pattern_names}
use Rattle.rules.specs.States.{full, Environment, Account, takes, gives, leaves, environment_size}
use Rattle.rules.specs.Steps.{look, got, absent, bind_parts, leave_names, binds, plains_of, first_byte, later_bytes, symbol_body, is_constructor}

-- The course of a run so far.
pub record Course : Type 0 where
  pub account : Account
  pub output : List ℕ
  pub steps : ℕ

-- one step more
abbrev pub step : Course → Course
step h = record { account = h.account; output = h.output; steps = h.steps + 1 }

-- n cells more are taken, or given back
abbrev pub take : ℕ → Course → Course
take n h = record { account = takes n h.account; output = h.output; steps = h.steps }

abbrev pub give : ℕ → Course → Course
give n h = record { account = gives n h.account; output = h.output; steps = h.steps }

-- these bytes are printed
abbrev pub prints : List ℕ → Course → Course
prints bytes h = record { account = h.account; output = h.output ++ bytes; steps = h.steps }

-- the next byte of the input is read
abbrev pub reads : Course → Course
reads h = record { account = leaves (later_bytes h.account.input) h.account; output = h.output; steps = h.steps }

module _ (P : Program) where
  -- What a function of the basis gives, and what it prints or reads. A call that faults gives nothing.
  pub data Gives (h : Course) : Applied → Tree → Course → Type 0 where
    gives_int : {z : ℤ} → Gives h (applied.Int z) (int z) h
    gives_bool : {b : Bool} → Gives h (applied.Bool b) (bool b) h
    gives_print : {p : Print} → Gives h (applied.Prints p) unit (prints (printed p (symbol_body P.literals p)) h)
    gives_byte : Gives h applied.Reads (int (first_byte h.account.input)) (reads h)

  -- a pattern that is a wildcard, or is prefixed by the constructor
  abbrev pub fits : ℕ → Pattern → Bool
  fits c (wildcard p) = true
  fits c (constructor p k xs) = is_constructor c (global_of P k.bytes)

  -- the first branch whose pattern fits the constructor
  pub data First (c : ℕ) : Branches → Pattern → Expr → Type 0 where
    only : {p : ℕ} {x : Pattern} {e : Expr} → fits c x ≡ true → First c (last_branch p x e) x e
    here : {p : ℕ} {x : Pattern} {e : Expr} {bs : Branches} → fits c x ≡ true → First c (and_branch p x e bs) x e
    later : {p : ℕ} {x y : Pattern} {e f : Expr} {bs : Branches} → fits c x ≡ false → First c bs y f → First c (and_branch p x e bs) y f

  -- The names of a pattern bound to the fields of (c vs), and the cells given back by it: that of the constructor, and those of fields
  -- under a wildcard.
  pub data Opens (c : ℕ) (vs : Trees) (ρ : Environment) : Pattern → Environment → ℕ → Type 0 where
    opens_any : {p : ℕ} → Opens c vs ρ (wildcard p) ρ (size (built c vs))
    opens_fields : {p m : ℕ} {k : Ident} {xs : List PatternPart} {ρ' : Environment} → bind_parts xs vs ρ ≡ binds ρ' m → Opens c vs ρ (constructor p k xs) ρ' (cost vs + m)

  mutual
    -- In the environment ρ the expression e gives the value v.
    pub data Evaluates : Environment → Course → Expr → Tree → Environment → Course → Type 0 where
      integer : {ρ : Environment} {h : Course} {p : ℕ} {z : ℤ} → Evaluates ρ h (tree.integer p z) (int z) ρ (step h)
      symbol_literal : {ρ : Environment} {h : Course} {p : ℕ} {w : List ℕ} → Evaluates ρ h (tree.symbol p w) (symbol (place_of_first P.literals w)) ρ (step h)
      boolean : {ρ : Environment} {h : Course} {p : ℕ} {b : Bool} → Evaluates ρ h (tree.boolean p b) (bool b) ρ (step h)
      unit_literal : {ρ : Environment} {h : Course} {p : ℕ} → Evaluates ρ h (tree.unit p) unit ρ (step h)
      -- a local name gives its value, and is empty afterwards if that is data
      local_name : {ρ ρ' : Environment} {h : Course} {p : ℕ} {w : Name} {v : Tree} → look w ρ ≡ got v ρ' → Evaluates ρ h (tree.name p w) v ρ' (step h)
      function_name : {ρ : Environment} {h : Course} {p n : ℕ} {w : Name} → look w ρ ≡ absent → global_of P w ≡ means.function n → Evaluates ρ h (tree.name p w) (function n) ρ (step h)
      -- the expression of a val is evaluated at each reference, and sees no local name
      val_name : {ρ ρ' : Environment} {h h' : Course} {p i : ℕ} {w : Name} {d : Val} {v : Tree}
          → look w ρ ≡ absent → global_of P w ≡ means.val i → slice_get P.vals i ≡ Some d → Evaluates [] (step h) d.expr v ρ' h'
          → Evaluates ρ h (tree.name p w) v ρ (step (give (environment_size ρ') h'))
      -- a deep copy of a name's value; the name keeps its own
      dup_expression : {ρ ρ' : Environment} {h : Course} {p : ℕ} {x : Ident} {v : Tree} → look x.bytes ρ ≡ got v ρ' → Evaluates ρ h (tree.dup_expr p x) v ρ (step (take (size v) h))
      if_it_is_true : {ρ ρ₁ ρ' : Environment} {h h₁ h' : Course} {p : ℕ} {e x y : Expr} {v : Tree}
          → Evaluates ρ (step h) e (bool true) ρ₁ h₁ → Evaluates ρ₁ (step h₁) x v ρ' h' → Evaluates ρ h (tree.if_expr p e x y) v ρ' (step h')
      if_it_is_false : {ρ ρ₁ ρ' : Environment} {h h₁ h' : Course} {p : ℕ} {e x y : Expr} {v : Tree}
          → Evaluates ρ (step h) e (bool false) ρ₁ h₁ → Evaluates ρ₁ (step h₁) y v ρ' h' → Evaluates ρ h (tree.if_expr p e x y) v ρ' (step h')
      -- the parts of a begin in order, and the value of the last
      begin_expression : {ρ ρ₁ ρ' : Environment} {h h₁ h' : Course} {p : ℕ} {e : Expr} {es : Exprs} {u v : Tree}
          → Evaluates ρ (step h) e u ρ₁ h₁ → EvaluatesRow ρ₁ h₁ u es v ρ' h' → Evaluates ρ h (tree.begin_expr p e es) v ρ' h'
      -- the bindings in order, and then the body, where they are all bound; what is left in the names is dropped
      let_expression : {ρ ρ₁ ρ₂ ρ' : Environment} {h h₁ h' : Course} {p m : ℕ} {bs : Bindings} {e : Expr} {v : Tree}
          → EvaluatesBindings ρ (step h) bs ρ₁ h₁ → Evaluates ρ₁ h₁ e v ρ₂ h' → leave_names (binding_count bs) ρ₂ ≡ binds ρ' m
          → Evaluates ρ h (tree.let_expr p bs e) v ρ' (step (give m h'))
      -- the first branch that fits, in the environment with the fields bound to its names
      case_expression : {ρ ρ₁ ρ₂ ρ₃ ρ' : Environment} {h h₁ h' : Course} {p c m n : ℕ} {e f : Expr} {bs : Branches} {x : Pattern} {vs : Trees} {v : Tree}
          → Evaluates ρ (step h) e (built c vs) ρ₁ h₁ → First c bs x f → Opens c vs ρ₁ x ρ₂ m → Evaluates ρ₂ (step (give m h₁)) f v ρ₃ h' → leave_names (pattern_names x) ρ₃ ≡ binds ρ' n
          → Evaluates ρ h (tree.case_expr p e bs) v ρ' (step (give n h'))
      -- the constructor at the head is not evaluated; applying it takes a cell
      construct_expression : {ρ ρ' : Environment} {h h' : Course} {p q c : ℕ} {w : Name} {es : Exprs} {vs : Trees}
          → look w ρ ≡ absent → global_of P w ≡ means.constructor c → EvaluatesEach ρ (step h) es vs ρ' h'
          → Evaluates ρ h (tree.apply_expr p (tree.name q w) es) (built c vs) ρ' (take (cost vs) h')
      -- the head gives a function, which is applied to the values of the arguments
      apply_expression : {ρ ρ₁ ρ' : Environment} {h h₁ h₂ h' : Course} {p n : ℕ} {e : Expr} {es : Exprs} {vs : Trees} {v : Tree}
          → Evaluates ρ (step h) e (function n) ρ₁ h₁ → EvaluatesEach ρ₁ (step h₁) es vs ρ' h₂ → Applies n vs h₂ v h'
          → Evaluates ρ h (tree.apply_expr p e es) v ρ' h'

    -- the further parts of a begin, behind one that gave u: a value is dropped where another part follows
    pub data EvaluatesRow : Environment → Course → Tree → Exprs → Tree → Environment → Course → Type 0 where
      row_last : {ρ : Environment} {h : Course} {u : Tree} → EvaluatesRow ρ h u no_exprs u ρ (step h)
      row_more : {ρ ρ₁ ρ' : Environment} {h h₁ h' : Course} {u w v : Tree} {e : Expr} {es : Exprs}
          → Evaluates ρ (step (give (size u) h)) e w ρ₁ h₁ → EvaluatesRow ρ₁ h₁ w es v ρ' h' → EvaluatesRow ρ h u (and_expr e es) v ρ' h'

    -- each binding in the environment with those before it
    pub data EvaluatesBindings : Environment → Course → Bindings → Environment → Course → Type 0 where
      bindings_none : {ρ : Environment} {h : Course} → EvaluatesBindings ρ h no_bindings ρ h
      bindings_more : {ρ ρ₁ ρ' : Environment} {h h₁ h' : Course} {p : ℕ} {x : Ident} {e : Expr} {bs : Bindings} {v : Tree}
          → Evaluates ρ h e v ρ₁ h₁ → EvaluatesBindings (full x.bytes v ∷ ρ₁) (step h₁) bs ρ' h' → EvaluatesBindings ρ h (and_binding p x e bs) ρ' h'

    -- the arguments in order
    pub data EvaluatesEach : Environment → Course → Exprs → Trees → Environment → Course → Type 0 where
      each_none : {ρ : Environment} {h : Course} → EvaluatesEach ρ h no_exprs none ρ h
      each_more : {ρ ρ₁ ρ' : Environment} {h h₁ h' : Course} {e : Expr} {es : Exprs} {v : Tree} {vs : Trees}
          → Evaluates ρ h e v ρ₁ h₁ → EvaluatesEach ρ₁ (step h₁) es vs ρ' h' → EvaluatesEach ρ h (and_expr e es) (more v vs) ρ' h'

    -- the function with the number n applied to these values: one of the basis, or a define, whose body is evaluated where its names
    -- have these values; what is left in them is dropped
    pub data Applies : ℕ → Trees → Course → Tree → Course → Type 0 where
      applies_basis : {n : ℕ} {f : Basis} {ps : List Plain} {vs : Trees} {v : Tree} {h h' : Course}
          → numbered n ≡ Some f → plains_of vs ≡ Some ps → Gives h (applied f ps) v h' → Applies n vs h v h'
      applies_define : {n m : ℕ} {d : Define} {vs : Trees} {v : Tree} {ρ ρ' : Environment} {h h' : Course}
          → numbered n ≡ None → slice_get P.defines (n - basis_count) ≡ Some d → bind_parts (map bound d.parameters) vs [] ≡ binds ρ m → Evaluates ρ h d.body v ρ' h'
          → Applies n vs h v (step (give (environment_size ρ') h'))

-- A whole run: main is called, and its body gives a value, which is dropped.
pub data Runs (P : Program) (main : Define) (input : List ℕ) : Course → Type 0 where
  runs : {ρ : Environment} {v : Tree} {h : Course} → Evaluates P [] (step (record { account = record { input = input; taken = 0; given = 0 }; output = []; steps = 0 })) main.body v ρ h
      → Runs P main input (step (give (environment_size ρ + size v) h))
