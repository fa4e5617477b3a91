use Rattle.std.proofs.Common.{◌≡◌, ◌++◌, length, string_bytes}
use Rattle.case_files.specs.Hex.{hex_bytes}
use Rattle.case_files.proofs.case.Case.add_hex.Given as goal

abbrev pub invariant-loop-rest : goal.invariant-loop-rest
invariant-loop-rest l = (l.self.text.items ++ hex_bytes l.rest ≡ l.fn.self.text.items ++ hex_bytes l.fn.digits) × (string_bytes l.self.listing ≡ string_bytes l.fn.self.listing)

abbrev pub decreases-loop-rest : goal.decreases-loop-rest
decreases-loop-rest l = length l.rest
