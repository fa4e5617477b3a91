-- Functions of the basis on the values that a machine holds.
use Rattle.std.specs.Prelude.{ℕ, List, [], Some, None, Option}
use Rattle.basis.specs.Calls.{applied as applied_to}
use Rattle.basis.specs.declared.applied.Applied.{Applied}
use Rattle.basis.specs.declared.applied.Applied.TheVariants.{Mismatch}
use Rattle.basis.specs.declared.applied.Applied.TheVariants as applied
use Rattle.basis.specs.declared.print.Print.{Print}
use Rattle.basis.specs.declared.print.Print.TheVariants as print
use Rattle.basis.specs.declared.function.Basis.{Basis}
use Rattle.basis.specs.declared.plain.Plain.{Plain}
use Rattle.basis.specs.declared.plain.Plain.TheVariants as plain
use Rattle.cells.specs.declared.values.Value.{Value}
use Rattle.cells.specs.declared.values.Value.TheVariants.{Int, Bool as Truth, Sym, Unit as Nothing, Function, Cell}
use Rattle.machine.specs.Ready.{Quoted}
use Rattle.machine.specs.declared.frame.Held.{Held}
use Rattle.machine.specs.declared.frame.Held.TheVariants as held
use Rattle.program.specs.Programs.{Program}
use Rattle.rules.specs.Steps.{and_plain}

abbrev pub plain_value : Value → Option Plain
plain_value (Int i) = Some (plain.Int i)
plain_value (Truth b) = Some (plain.Bool b)
plain_value (Sym n) = Some (plain.Sym n)
plain_value Nothing = Some plain.Unit
plain_value (Function n) = None
plain_value (Cell n) = None

abbrev pub plain_in : Option Value → Option Plain
plain_in None = None
plain_in (Some v) = plain_value v

abbrev pub on_plains : Basis → Option (List Plain) → Applied
on_plains f None = Mismatch
on_plains f (Some vs) = applied_to f vs

-- the function on the arguments held, of which u is the newest, and the last one
abbrev pub last_applied : Basis → Held → Option Value → Value → Applied
last_applied f held.None u v = on_plains f (and_plain (plain_value v) (Some []))
last_applied f held.One u v = on_plains f (and_plain (plain_in u) (and_plain (plain_value v) (Some [])))
last_applied f held.More u v = Mismatch

-- what is printed of a symbol is what the text quotes at its place
abbrev pub Says : Program → List ℕ → Print → Type 0
Says P text (print.Int n) = Unit {0}
Says P text (print.Bool b) = Unit {0}
Says P text (print.Sym n) = Quoted text P n
Says P text print.Unit = Unit {0}
Says P text print.Newline = Unit {0}
Says P text (print.Byte b) = Unit {0}

abbrev pub SaysApplied : Program → List ℕ → Applied → Type 0
SaysApplied P text (applied.Int n) = Unit {0}
SaysApplied P text (applied.Bool b) = Unit {0}
SaysApplied P text (applied.Prints p) = Says P text p
SaysApplied P text applied.Reads = Unit {0}
SaysApplied P text (applied.Faults e) = Unit {0}
SaysApplied P text Mismatch = Unit {0}

-- how many arguments lie on the slots for a function of the basis
abbrev pub held_count : Held → ℕ
held_count held.None = 0
held_count held.One = 1
held_count held.More = 0
