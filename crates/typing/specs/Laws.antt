-- The check and the rules say the same, and the code of a script is that script.
use Rattle.std.specs.Prelude.{◌≡◌, ℕ, true, List, ◌++◌, drop, Some}
use Rattle.std.specs.List.{slice_get}
use Rattle.grammar.specs.Trees.{PatternPart, Pattern, Expr, Bindings, Script}
use Rattle.program.specs.Compiling.{compile}
use Rattle.program.specs.Programs.{Name, Program, program}
use Rattle.program.specs.Scopes.{Scope, distance}
use Rattle.program.specs.Standing.{StandsAt, Lays}
use Rattle.program.specs.Whole.{compiled}
use Rattle.program.specs.declared.code.Code.{Code}
use Rattle.typing.specs.Types.{Ty, Tys, same_type}
use Rattle.typing.specs.Contexts.{Context, BindsAll}
use Rattle.typing.specs.Judgement.{PatternFits, Typed, TypedBindings}
use Rattle.typing.specs.Judging.{judged, judge}
use Rattle.typing.specs.Names.{Later, Lies, Fresh}
use Rattle.typing.specs.Scripts.{Allowed}
use Rattle.typing.specs.Verdict.{accepted, verdict}

-- Two types are told apart exactly if they differ.
pub record TellsTypes (τ σ : Ty) : Type 0 where
  pub same : same_type τ σ ≡ true → τ ≡ σ
  pub equal : τ ≡ σ → same_type τ σ ≡ true

-- Judging an expression finds exactly the type that the rules give it, and exactly their names afterwards.
pub record JudgesTypes (P : Program) (V : List Ty) (e : Expr) (Γ : Context) (τ : Ty) (Γ' : Context) : Type 0 where
  pub sound : judge P V e Γ ≡ judged τ Γ' → Typed P V Γ e τ Γ'
  pub complete : Typed P V Γ e τ Γ' → judge P V e Γ ≡ judged τ Γ'

-- An expression has one type, and leaves the names in one way.
pub record OneType (P : Program) (V : List Ty) (e : Expr) (Γ : Context) (τ σ : Ty) (Γ₁ Γ₂ : Context) : Type 0 where
  pub type : Typed P V Γ e τ Γ₁ → Typed P V Γ e σ Γ₂ → τ ≡ σ
  pub names : Typed P V Γ e τ Γ₁ → Typed P V Γ e σ Γ₂ → Γ₁ ≡ Γ₂

-- A script is accepted exactly if the rules allow it.
pub record AcceptsAllowed (script : Script) : Type 0 where
  pub sound : verdict script ≡ accepted → Allowed script
  pub complete : Allowed script → verdict script ≡ accepted

pub record Rules : Type 0 where
  pub types : (τ σ : Ty) → TellsTypes τ σ
  pub expressions : (P : Program) (V : List Ty) (e : Expr) (Γ : Context) (τ : Ty) (Γ' : Context) → JudgesTypes P V e Γ τ Γ'
  pub once : (P : Program) (V : List Ty) (e : Expr) (Γ : Context) (τ σ : Ty) (Γ₁ Γ₂ : Context) → OneType P V e Γ τ σ Γ₁ Γ₂
  pub scripts : (script : Script) → AcceptsAllowed script

-- Local names: an expression only adds marks, and whatever binds names keeps them fresh.
pub record Naming (P : Program) (V : List Ty) (Γ Γ' : Context) : Type 0 where
  pub marks : {e : Expr} {τ : Ty} → Typed P V Γ e τ Γ' → Later Γ Γ'
  pub after : {e : Expr} {τ : Ty} → Typed P V Γ e τ Γ' → Fresh P Γ → Fresh P Γ'
  pub bindings : {bs : Bindings} → TypedBindings P V Γ bs Γ' → Fresh P Γ → Fresh P Γ'
  pub patterns : {d : ℕ} {x : Pattern} → PatternFits P d x Γ Γ' → Fresh P Γ → Fresh P Γ'
  pub parameters : {xs : List PatternPart} {τs : Tys} → BindsAll P xs τs Γ Γ' → Fresh P Γ → Fresh P Γ'

-- A name's entry is the one that has the name, and among fresh names it is the only one.
pub record OneEntry (P : Program) (Γ : Context) (G : Scope) (w : Name) (d : ℕ) : Type 0 where
  pub found : distance w G ≡ Some d → slice_get G d ≡ Some (Some w)
  pub only : Fresh P Γ → Lies Γ G → slice_get G d ≡ Some (Some w) → distance w G ≡ Some d

-- The code: where it stands from node i on, the expression stands at i; and the code of a script that the rules allow is that script.
pub record Coding : Type 0 where
  pub names : (P : Program) (V : List Ty) (Γ Γ' : Context) → Naming P V Γ Γ'
  pub entries : (P : Program) (Γ : Context) (G : Scope) (w : Name) (d : ℕ) → OneEntry P Γ G w d
  pub expressions : (P : Program) (V : List Ty) (e : Expr) (Γ : Context) (τ : Ty) (Γ' : Context) (G : Scope) (cs : List Code) (i : ℕ) (rest : List Code)
      → Typed P V Γ e τ Γ' → Lies Γ G → drop i cs ≡ compile P G i e ++ rest → StandsAt P cs G e i
  pub scripts : (script : Script) → Allowed script → Lays (compiled script) (program script)
