-- What stands at an application's head, and what of its type its arguments are held against.
use Rattle.std.specs.Prelude.{◌≡◌, ℕ, nat_lt, ◌&&◌, Bool, List, Some, None, Option}
use Rattle.bodies.specs.declared.signature.Signature.{Signature}
use Rattle.grammar.specs.Trees.{Expr, Script}
use Rattle.layout.specs.Decoding.{node_found}
use Rattle.naming.specs.Judges.{Setting, Ready, Coded, Desk, names}
use Rattle.naming.specs.declared.world.World.{World}
use Rattle.program.specs.Programs.{program}
use Rattle.type_rows.specs.Rows.{kind_at, TypesLie, RowsMean, IsKind}
use Rattle.type_rows.specs.Shapes.{ty}
use Rattle.type_rows.specs.declared.row.Row.{Row}
use Rattle.type_rows.specs.declared.value_type.ValueType.{ValueType}
use Rattle.typing.specs.Judging.{head_constructor}
use Rattle.typing.specs.Types.{Ty, Tys, function, same_type}

abbrev pub OnHead : World → ℕ → Desk → Option ℕ → Type 0
OnHead world i old result =
    (script : Script) (e : Expr) → Setting world script → Ready world script old → Coded world script (node_found world.nodes.now i).form e i → head_constructor (program script) e (names world script old) ≡ result

-- a function's parameter types lie from a row up to another, and its result is of this type; anything else has none
abbrev pub Signs : List Row → (ℕ → Ty) → ValueType → Signature → Option ValueType → Type 0
Signs rows m kind s None = (σs : Tys) (σ : Ty) → ty m kind ≡ function σs σ → ⊥
Signs rows m kind s (Some result) = (σs : Tys) × (ty m kind ≡ function σs (ty m result)) × IsKind rows result × TypesLie rows m s.first s.past σs

abbrev pub IsSignature : List Row → ValueType → Signature → Type 0
IsSignature rows kind s = (m : ℕ → Ty) → RowsMean rows m → IsKind rows kind → Signs rows m kind s s.result

-- there is a row left of those up to another, and a type is that in the row
abbrev pub IsNext : List Row → ℕ → ℕ → ValueType → Bool → Type 0
IsNext rows row last kind b = (m : ℕ → Ty) → RowsMean rows m → IsKind rows kind → b ≡ (nat_lt row last && same_type (ty m (kind_at rows row)) (ty m kind))
