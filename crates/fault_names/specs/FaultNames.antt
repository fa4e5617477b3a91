-- The name of the function that a fault names, and where it stands.
use Rattle.std.specs.Prelude.{ℕ, List}
use Rattle.std.specs.Str.Iter.{HasSubslice}
use Rattle.basis.specs.Names as basis
use Rattle.basis.specs.Names.{span_of}
use Rattle.names.specs.Parts as text
use Rattle.rules.specs.declared.fault.Named.{Named}
use Rattle.rules.specs.declared.fault.Named.TheVariants.{Basis, Text}

-- a part of the list of the basis' names, or a part of the text
abbrev pub name_in : List ℕ → List ℕ → Named → List ℕ
name_in names script (Basis b) = basis.part_of (span_of b) names
name_in names script (Text w) = text.part_of script w

-- the name itself
abbrev pub name_of : List ℕ → Named → List ℕ
name_of script (Basis b) = basis.name_of b
name_of script (Text w) = text.part_of script w

-- a name of the basis stands in the list of its names, any other in the text
abbrev pub IsFromItsSource : List ℕ → List ℕ → Named → List ℕ → Type 0
IsFromItsSource names script (Basis b) name = HasSubslice names name
IsFromItsSource names script (Text w) name = HasSubslice script name
