use Rattle.std.proofs.Common.{◌≡◌, ◌++◌, string_bytes}
use Rattle.case_files.specs.Repeated.{repeated}
use Rattle.case_files.proofs.case.Case.add_times.Given as goal

abbrev pub invariant-loop : goal.invariant-loop
invariant-loop l = (l.self.text.items ≡ l.fn.self.text.items ++ repeated l.counter l.bytes) × (string_bytes l.self.listing ≡ string_bytes l.fn.self.listing)
