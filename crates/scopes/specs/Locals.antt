-- The names in scope, as the check keeps them.
use Rattle.std.specs.Prelude.{◌≡◌, ℕ, zero, suc, ◌+◌, ◌<◌, ◌≤◌, Bool, true, false, List, [], ◌∷◌, length, Some, None, Ok, Err, Option, Result, slice_set, slice_index_or}
use Rattle.std.specs.Str.{bytes_eq}
use Rattle.layout.specs.Words.{word_at}
use Rattle.names.specs.Parts.{part_of}
use Rattle.program.specs.Scopes as placed
use Rattle.scopes.specs.declared.local.Local.{Local as LocalCode}
use Rattle.scopes.specs.declared.scope.Scope.{Scope}
use Rattle.stack.specs.declared.full.Full.{Full}
use Rattle.type_rows.specs.Rows.{IsKind}
use Rattle.type_rows.specs.Shapes.{ty}
use Rattle.type_rows.specs.declared.row.Row.{Row}
use Rattle.type_rows.specs.declared.value_type.ValueType.TheVariants as value
use Rattle.typing.specs.Contexts.{local, Context}
use Rattle.typing.specs.Types.{Ty}

-- what is read where there is no local
abbrev pub no_local : LocalCode
no_local = record { name = word_at 0 0; kind = value.Unit; height = 0 }

abbrev pub local_in : List LocalCode → ℕ → LocalCode
local_in locals k = slice_index_or locals k no_local

abbrev pub name_in : List ℕ → List LocalCode → ℕ → List ℕ
name_in text locals k = part_of text (local_in locals k).name

-- The newest of the first n locals that has a name.
pub record Newest (text : List ℕ) (locals : List LocalCode) (w : List ℕ) (n k : ℕ) : Type 0 where
  pub below : k < n
  pub same : bytes_eq w (name_in text locals k) ≡ true
  pub newer : (j : ℕ) → k < j → j < n → bytes_eq w (name_in text locals j) ≡ false

abbrev pub FindsLocal : List ℕ → List LocalCode → List ℕ → ℕ → Option ℕ → Type 0
FindsLocal text locals w n (Some k) = Newest text locals w n k
FindsLocal text locals w n None = (j : ℕ) → j < n → bytes_eq w (name_in text locals j) ≡ false

-- the first n locals are the same ones
abbrev pub SameBelow : ℕ → List LocalCode → List LocalCode → Type 0
SameBelow n old new = (j : ℕ) → j < n → local_in new j ≡ local_in old j

-- a name was added, unless all room was used
pub record Added (old : Scope) (locals : List LocalCode) (x : LocalCode) (new : Scope) (after : List LocalCode) : Type 0 where
  pub room : old.depth < length locals
  pub depth : new.depth ≡ old.depth + 1
  pub marks : new.marks ≡ slice_set old.marks old.depth false
  pub locals_are : after ≡ slice_set locals old.depth x

abbrev pub Pushed : Scope → List LocalCode → LocalCode → Result (Unit {0}) Full → Scope → List LocalCode → Type 0
Pushed old locals x (Ok u) new after = Added old locals x new after
Pushed old locals x (Err e) new after = (length locals ≤ old.depth) × (new ≡ old) × (after ≡ locals)

module _ (text : List ℕ) (m : ℕ → Ty) (locals : List LocalCode) (marks : List Bool) where
  -- the first n locals as the judgement has them, the newest first
  abbrev pub context : ℕ → Context
  context zero = []
  context (suc n) = local (name_in text locals n) (ty m (local_in locals n).kind) (slice_index_or marks n false) ∷ context n

-- the types of the first n locals are types
abbrev pub KindsBelow : List Row → List LocalCode → ℕ → Type 0
KindsBelow rows locals n = (j : ℕ) → j < n → IsKind rows (local_in locals j).kind

-- The first n locals are the names among these entries, each at its height.
abbrev pub Placed : List ℕ → List LocalCode → ℕ → placed.Scope → Type 0
Placed text locals n [] = n ≡ 0
Placed text locals n (None ∷ G) = Placed text locals n G
Placed text locals n (Some x ∷ G) = (k : ℕ) × (n ≡ suc k) × (x ≡ name_in text locals k) × ((local_in locals k).height ≡ length G) × Placed text locals k G
