-- What the check of all bodies answers: the code of the script, or the first refusal.
use Rattle.std.specs.Prelude.{◌≡◌, [], Ok, Err, Result}
use Rattle.grammar.specs.Trees.{Script}
use Rattle.program.specs.Programs.{program}
use Rattle.program.specs.Whole.{compiled}
use Rattle.program.specs.declared.compiled.Compiled.{Compiled}
use Rattle.script_refusals.specs.declared.refusal.Refused.{Refused}
use Rattle.typing.specs.Verdict.{accepted, refused, bodies}

abbrev pub BodiesAnswer : Script → Result Compiled Refused → Type 0
BodiesAnswer script (Ok code) = (bodies (program script) [] script ≡ accepted) × (code ≡ compiled script)
BodiesAnswer script (Err r) = bodies (program script) [] script ≡ refused r
