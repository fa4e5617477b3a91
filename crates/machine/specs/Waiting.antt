-- The frames of a machine stand for the waiting expressions of the rules, one by one.
use Rattle.std.specs.Prelude.{◌≡◌, ℕ, suc, ◌+◌, zero, List, [], ◌∷◌, length, drop, Some, None}
use Rattle.cells.specs.declared.values.Value.{Value}
use Rattle.data.specs.Trees.{Tree, Trees, none, more}
use Rattle.grammar.specs.Trees.{Ident, Expr, Exprs, Bindings, Branches}
use Rattle.machine.specs.Holding.{names}
use Rattle.machine.specs.declared.control.Control.{Control as Ahead}
use Rattle.machine.specs.declared.control.Control.TheVariants as ahead
use Rattle.machine.specs.declared.frame.Frame.{Frame as Waiting}
use Rattle.machine.specs.declared.frame.Frame.TheVariants as waiting
use Rattle.machine.specs.declared.frame.Held.{Held}
use Rattle.machine.specs.declared.frame.Held.TheVariants as held
use Rattle.program.specs.Compiling.{argument_count, binding_count, let_scope}
use Rattle.program.specs.Programs.{Program, Define}
use Rattle.program.specs.Scopes.{Scope}
use Rattle.program.specs.Standing.{at, past, StandsAt, StandsRow, StandsArguments, StandsBindings, StandsBranches}
use Rattle.program.specs.declared.code.Code.{Code}
use Rattle.program.specs.declared.code.Op.TheVariants as op
use Rattle.rules.specs.Runs.{main_of}
use Rattle.rules.specs.States.{Environment, builds, calls, Frame, if_test, if_arm, begin_part, let_binding, scope_end, case_test, head_value, next_argument, body_value, main_value, Control, opened, enter, finished, over}

abbrev pub held_of : ℕ → Held
held_of zero = held.None
held_of (suc zero) = held.One
held_of (suc (suc n)) = held.More

module _ (P : Program) (cs : List Code) where
  -- node i stands for an expression at the place p
  abbrev pub PlacedAt : ℕ → ℕ → Type 0
  PlacedAt i p = (at P cs i).place ≡ p

  -- what waits, where a value is handed over among the entries G
  pub data Waits : Scope → List Frame → List Waiting → Type 0 where
    waits_none : {G : Scope} → Waits G [] []
    waits_test : {G : Scope} {i p : ℕ} {x y : Expr} {K : List Frame} {fs : List Waiting} → PlacedAt i p
        → StandsAt P cs G x (past P cs (i + 1)) → StandsAt P cs G y (past P cs (past P cs (i + 1)))
        → Waits G K fs → Waits G (if_test p x y ∷ K) (waiting.Test i ∷ fs)
    waits_arm : {G : Scope} {i p : ℕ} {K : List Frame} {fs : List Waiting} → PlacedAt i p
        → Waits G K fs → Waits G (if_arm p ∷ K) (waiting.Arm i ∷ fs)
    waits_part : {G : Scope} {i j p : ℕ} {es : Exprs} {K : List Frame} {fs : List Waiting} → PlacedAt i p
        → StandsRow P cs G es j (past P cs i)
        → Waits G K fs → Waits G (begin_part p es ∷ K) (waiting.Part i j ∷ fs)
    -- m names are bound already
    waits_binding : {G : Scope} {i j k p n : ℕ} (m : ℕ) {x : Ident} {bs : Bindings} {e : Expr} {K : List Frame} {fs : List Waiting} → PlacedAt i p
        → n ≡ m + (1 + binding_count bs)
        → StandsBindings P cs (Some x.bytes ∷ G) bs j k → StandsAt P cs (let_scope bs (Some x.bytes ∷ G)) e k
        → Waits (drop m G) K fs → Waits G (let_binding p x bs e n ∷ K) (waiting.Binding i j n ∷ fs)
    waits_leaving : {G : Scope} {i p n : ℕ} {K : List Frame} {fs : List Waiting} → PlacedAt i p
        → Waits (drop n G) K fs → Waits G (scope_end p n ∷ K) (waiting.Leaving i n ∷ fs)
    waits_tested : {G : Scope} {i p : ℕ} {bs : Branches} {K : List Frame} {fs : List Waiting} → PlacedAt i p
        → StandsBranches P cs G bs (past P cs (i + 1)) (past P cs i)
        → Waits G K fs → Waits G (case_test p bs ∷ K) (waiting.Tested i ∷ fs)
    waits_head : {G : Scope} {i p : ℕ} {es : Exprs} {K : List Frame} {fs : List Waiting} → PlacedAt i p
        → StandsArguments P cs G es (past P cs (i + 1)) (past P cs i)
        → Waits G K fs → Waits G (head_value p es ∷ K) (waiting.Head i ∷ fs)
    waits_argument : {G : Scope} {i j p n k : ℕ} {h : Held} {es : Exprs} {K : List Frame} {fs : List Waiting} → PlacedAt i p
        → h ≡ held_of k → StandsArguments P cs (None ∷ G) es j (past P cs i)
        → Waits (drop k G) K fs → Waits G (next_argument p (calls n) k es ∷ K) (waiting.Argument i j h n ∷ fs)
    waits_field : {G : Scope} {i j p c n k : ℕ} {es : Exprs} {K : List Frame} {fs : List Waiting} → PlacedAt i p
        → (at P cs i).op ≡ op.Build c n → n ≡ k + (1 + argument_count es) → StandsArguments P cs (None ∷ G) es j (past P cs i)
        → Waits (drop k G) K fs → Waits G (next_argument p (builds c) k es ∷ K) (waiting.Field i j ∷ fs)
    waits_body : {G : Scope} {i p n : ℕ} {env : Environment} {K : List Frame} {fs : List Waiting} → PlacedAt i p
        → length G ≡ n
        → Waits (names env) K fs → Waits G (body_value p env ∷ K) (waiting.Body i n ∷ fs)
    waits_main : {p : ℕ} {d : Define} {K : List Frame} {fs : List Waiting} → main_of P ≡ Some d → p ≡ d.place
        → Waits [] K fs → Waits [] (main_value p ∷ K) (waiting.Main ∷ fs)

  -- what comes next, among the entries G
  pub data Next : Scope → Control → Ahead → Type 0 where
    next_opened : Next [] opened ahead.Opened
    next_enter : {G : Scope} {i : ℕ} {e : Expr} → StandsAt P cs G e i → Next G (enter e) (ahead.Enter i)
    next_finished : {G : Scope} {t : Tree} {v : Value} → Next G (finished t) (ahead.Finished v)
    next_over : {G : Scope} → Next G over ahead.Over

-- the value just finished
abbrev pub value_in_hand : Ahead → List Value
value_in_hand ahead.Opened = []
value_in_hand (ahead.Enter i) = []
value_in_hand (ahead.Finished v) = v ∷ []
value_in_hand ahead.Over = []

abbrev pub handed : Control → Trees
handed opened = none
handed (enter e) = none
handed (finished t) = more t none
handed over = none
