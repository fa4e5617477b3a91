-- The branch of a case that fits data.
use Rattle.std.specs.Prelude.{◌≡◌, ℕ, ◌+◌, ◌<◌, List, ◌∷◌, [], None, Some, Option}
use Rattle.data.specs.Trees.{Trees, cost, size, built}
use Rattle.grammar.specs.Trees.{PatternPart, Expr, Branches}
use Rattle.handing.specs.declared.choice.Choice.{Choice}
use Rattle.handing.specs.declared.choice.Choice.TheVariants as choice
use Rattle.program.specs.Programs.{Program}
use Rattle.program.specs.Scopes.{Scope, bind_scope, bits, names_inside}
use Rattle.program.specs.Standing.{at, StandsAt}
use Rattle.program.specs.declared.code.Code.{Code}
use Rattle.program.specs.declared.code.Op.TheVariants as op
use Rattle.rules.specs.States.{Environment, Frame, Account, st, enter, gives, scope_end}
use Rattle.rules.specs.Steps.{goes, fails, Sizes, giving, bind_parts, enter_branch, select_branch}
use Rattle.rules.specs.declared.fault.FaultKind.TheVariants.{NoBranch}

module _ (P : Program) (cs : List Code) (G : Scope) (bs : Branches) (c : ℕ) where
  -- the rules choose a branch with this pattern of fields and expression, which stands at node i
  pub record ChosenFields (i mask : ℕ) : Type 0 where
    pub parts : List PatternPart
    pub expr : Expr
    pub is : (Z : Sizes) (p : ℕ) (vs : Trees) (K : List Frame) (env : Environment) (a : Account)
        → select_branch P Z p bs c vs K env a ≡ enter_branch P Z p (names_inside parts) expr K env a (giving (cost vs) (bind_parts parts vs env))
    pub within : i < 4096
    pub mask_is : mask ≡ bits parts
    pub op_is : (at P cs i).op ≡ op.Branch c mask
    pub stands : StandsAt P cs (bind_scope parts G) expr (i + 1)

  pub record ChosenAny (i : ℕ) : Type 0 where
    pub expr : Expr
    pub is : (Z : Sizes) (p : ℕ) (vs : Trees) (K : List Frame) (env : Environment) (a : Account)
        → select_branch P Z p bs c vs K env a ≡ goes [] (st (scope_end p 0 ∷ K) env (enter expr) (gives (size (built c vs)) a))
    pub within : i < 4096
    pub op_is : (at P cs i).op ≡ op.Any
    pub stands : StandsAt P cs G expr (i + 1)

  pub record ChosenNone : Type 0 where
    pub is : (Z : Sizes) (p : ℕ) (vs : Trees) (K : List Frame) (env : Environment) (a : Account) → select_branch P Z p bs c vs K env a ≡ fails NoBranch None

  abbrev pub Chosen : Option Choice → Type 0
  Chosen None = ChosenNone
  Chosen (Some (choice.Any i)) = ChosenAny i
  Chosen (Some (choice.Fields i mask)) = ChosenFields i mask
