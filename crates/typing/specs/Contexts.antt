-- The local names in scope, the newest first, with their types and whether they are consumed.
use Rattle.std.specs.Prelude.{◌≡◌, ℕ, ◌<◌, Bool, true, false, cond, ◌||◌, List, [], ◌∷◌, length, Some, None, Option}
use Rattle.std.specs.Str.{bytes_eq}
use Rattle.grammar.specs.Trees.{Ident, PatternPart, bound, skipped}
use Rattle.program.specs.Programs.{Name, Program, unbound, global_of}
use Rattle.typing.specs.Types.{Ty, int, bool, sym, unit, datum, function, Tys, no_types, and_type}

-- a local name, its type, and whether it is consumed
pub data Local : Type 0 where
  local : Name → Ty → Bool → Local

abbrev pub Context : Type 0
Context = List Local

-- the most names in scope
abbrev pub most_locals : ℕ
most_locals = 64

-- types whose values are not consumed: all but datatypes
pub data Plain : Ty → Type 0 where
  plain_int : Plain int
  plain_bool : Plain bool
  plain_sym : Plain sym
  plain_unit : Plain unit
  plain_function : {ts : Tys} {t : Ty} → Plain (function ts t)

-- Entering a local name needs it unconsumed; it consumes a name of datatype type.
pub data Enters (w : Name) : Context → Ty → Context → Type 0 where
  enters_plain : {x : Name} {τ : Ty} {Γ : Context} → bytes_eq w x ≡ true → Plain τ → Enters w (local x τ false ∷ Γ) τ (local x τ false ∷ Γ)
  enters_data : {x : Name} {d : ℕ} {Γ : Context} → bytes_eq w x ≡ true → Enters w (local x (datum d) false ∷ Γ) (datum d) (local x (datum d) true ∷ Γ)
  enters_later : {x : Name} {σ τ : Ty} {b : Bool} {Γ Γ' : Context} → bytes_eq w x ≡ false → Enters w Γ τ Γ' → Enters w (local x σ b ∷ Γ) τ (local x σ b ∷ Γ')

-- no local in scope has the name
pub data Absent (w : Name) : Context → Type 0 where
  absent_none : Absent w []
  absent_more : {x : Name} {σ : Ty} {b : Bool} {Γ : Context} → bytes_eq w x ≡ false → Absent w Γ → Absent w (local x σ b ∷ Γ)

-- a name may be bound: there is room for one more, and no local in scope and nothing in the whole script has it
pub record Free (P : Program) (w : Name) (Γ : Context) : Type 0 where
  pub room : length Γ < most_locals
  pub absent : Absent w Γ
  pub fresh : global_of P w ≡ unbound

-- the names among the parts of a pattern, or of a parameter list, bound from the left
pub data BindsAll (P : Program) : List PatternPart → Tys → Context → Context → Type 0 where
  binds_none : {Γ : Context} → BindsAll P [] no_types Γ Γ
  binds_name : {x : Ident} {xs : List PatternPart} {τ : Ty} {τs : Tys} {Γ Γ' : Context} → Free P x.bytes Γ → BindsAll P xs τs (local x.bytes τ false ∷ Γ) Γ' → BindsAll P (bound x ∷ xs) (and_type τ τs) Γ Γ'
  binds_skipped : {p : ℕ} {xs : List PatternPart} {τ : Ty} {τs : Tys} {Γ Γ' : Context} → BindsAll P xs τs Γ Γ' → BindsAll P (skipped p ∷ xs) (and_type τ τs) Γ Γ'

-- a name is consumed afterwards if some arm consumed it
abbrev pub join : Context → Context → Context
join [] Δ = []
join (local x τ a ∷ Γ) [] = []
join (local x τ a ∷ Γ) (local y σ b ∷ Δ) = local x τ (a || b) ∷ join Γ Δ

-- the local that a name is
abbrev pub local_named : Name → Context → Option Local
local_named w [] = None
local_named w (local x τ b ∷ Γ) = cond (bytes_eq w x) (Some (local x τ b)) (local_named w Γ)

abbrev pub consume : Name → Context → Context
consume w [] = []
consume w (local x τ b ∷ Γ) = cond (bytes_eq w x) (local x τ true ∷ Γ) (local x τ b ∷ consume w Γ)
