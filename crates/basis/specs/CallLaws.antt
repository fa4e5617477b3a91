-- What the type of a function tells of its calls.
use Rattle.std.specs.Prelude.{◌≡◌, List, map}
use Rattle.basis.specs.Types.{parameter_types, listed}
use Rattle.basis.specs.declared.applied.Applied.{Applied}
use Rattle.basis.specs.declared.applied.Applied.TheVariants.{Int, Bool, Prints, Reads, Faults, Mismatch}
use Rattle.basis.specs.declared.basis_type.BasisType.{BasisType}
use Rattle.basis.specs.declared.basis_type.BasisType.TheVariants as type
use Rattle.basis.specs.declared.function.Basis.{Basis}
use Rattle.basis.specs.declared.plain.Plain.{Plain}
use Rattle.basis.specs.declared.plain.Plain.TheVariants as plain

abbrev pub type_of : Plain → BasisType
type_of (plain.Int n) = type.Int
type_of (plain.Bool b) = type.Bool
type_of (plain.Sym n) = type.Sym
type_of plain.Unit = type.Unit

-- what a call comes to gives a result of this type, or a fault in place of an int
abbrev pub Gives : BasisType → Applied → Type 0
Gives t (Int n) = t ≡ type.Int
Gives t (Bool b) = t ≡ type.Bool
Gives t (Prints p) = t ≡ type.Unit
Gives t Reads = t ≡ type.Int
Gives t (Faults f) = t ≡ type.Int
Gives t Mismatch = ⊥

-- arguments of the parameters' types
abbrev pub Suits : Basis → List Plain → Type 0
Suits b s = map type_of s ≡ listed (parameter_types b)
