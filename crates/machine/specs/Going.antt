-- How an expression goes on with its next part.
use Rattle.std.specs.Prelude.{◌≡◌, ℕ, ◌+◌, List, [], ◌∷◌, drop}
use Rattle.grammar.specs.Trees.{Expr, Bindings}
use Rattle.machine.specs.Holding.{names}
use Rattle.machine.specs.Waiting.{Waits}
use Rattle.machine.specs.declared.frame.Frame.{Frame as Waiting}
use Rattle.machine.specs.declared.onward.Onward.{Onward}
use Rattle.program.specs.Compiling.{binding_count}
use Rattle.program.specs.Programs.{Program}
use Rattle.program.specs.Standing.{StandsAt}
use Rattle.program.specs.declared.code.Code.{Code}
use Rattle.rules.specs.States.{Environment, Frame, saved, enter, Account, st}
use Rattle.rules.specs.Steps.{goes, Sizes, bind_next}

-- A let at the place p goes on with these bindings, and then with the body e, where it binds n names in all: what waits from now on,
-- and the part that comes next.
pub record LetGoes (P : Program) (cs : List Code) (p : ℕ) (bs : Bindings) (e : Expr) (n : ℕ) (env : Environment) (on : Onward) : Type 0 where
  pub frame : Frame
  pub part : Expr
  pub is : (Z : Sizes) (K : List Frame) (a : Account) → bind_next P Z p bs e n K env a ≡ goes [] (st (frame ∷ K) env (enter part) a)
  pub keeps_none : saved frame ≡ []
  pub stands : StandsAt P cs (names env) part on.node
  -- m names are bound already
  pub waits : (m : ℕ) (K : List Frame) (fs : List Waiting) → n ≡ m + binding_count bs → Waits P cs (drop m (names env)) K fs → Waits P cs (names env) (frame ∷ K) (on.frame ∷ fs)
