-- The local names before and after, and the entries of a run that they are.
use Rattle.std.specs.Prelude.{◌≡◌, Bool, true, [], ◌∷◌, Some, None}
use Rattle.program.specs.Programs.{Name, Program, unbound, global_of}
use Rattle.program.specs.Scopes.{Scope}
use Rattle.typing.specs.Types.{Ty}
use Rattle.typing.specs.Contexts.{Context, local, Absent}

-- the same names with the same types, and what was consumed stays consumed
pub data Later : Context → Context → Type 0 where
  later_none : Later [] []
  later_more : {x : Name} {τ : Ty} {a b : Bool} {Γ Δ : Context} → (a ≡ true → b ≡ true) → Later Γ Δ → Later (local x τ a ∷ Γ) (local x τ b ∷ Δ)

-- the local names lie among these entries, in their order; the other entries are arguments
pub data Lies : Context → Scope → Type 0 where
  lies_none : Lies [] []
  lies_name : {x : Name} {τ : Ty} {b : Bool} {Γ : Context} {G : Scope} → Lies Γ G → Lies (local x τ b ∷ Γ) (Some x ∷ G)
  lies_argument : {Γ : Context} {G : Scope} → Lies Γ G → Lies Γ (None ∷ G)

-- no two local names are the same, and nothing in the whole script has the name of one
pub data Fresh (P : Program) : Context → Type 0 where
  fresh_none : Fresh P []
  fresh_more : {x : Name} {τ : Ty} {b : Bool} {Γ : Context} → Absent x Γ → global_of P x ≡ unbound → Fresh P Γ → Fresh P (local x τ b ∷ Γ)
