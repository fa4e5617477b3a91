-- The number of each arithmetic fault.
use Rattle.std.specs.Prelude.{ℕ}
use Rattle.basis.specs.declared.fault.ArithmeticFault.{ArithmeticFault}
use Rattle.basis.specs.declared.fault.ArithmeticFault.TheVariants.{ZeroDivisor, BadShift}

abbrev pub fault_number : ArithmeticFault → ℕ
fault_number ZeroDivisor = 32
fault_number BadShift = 33
