use Rattle.std.proofs.Common.{◌≤◌, arith, rules}
use Rattle.std.proofs.lemmas.Option.{slice_get_past}
use Rattle.basis.specs.Numbers.{every_function}
use Rattle.basis.proofs.function.BasisTryFromU32.try_from.Goals as goal

pub returns-in-33-to-4294967295 : goal.returns-in-33-to-4294967295
returns-in-33-to-4294967295 c = let h : 33 ≤ c.args.n = omega arith in (slice_get_past every_function c.args.n h, search rules, h)
