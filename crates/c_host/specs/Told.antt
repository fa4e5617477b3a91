-- What became of a script, as a host in another language is told it.
use Rattle.std.specs.Prelude.{◌≡◌, ℕ, min, List, ◌++◌, length, drop, replicate, None, Ok, Err, Result}
use Rattle.basis.specs.Numbers.{number_of as basis_number}
use Rattle.c_host.specs.declared.answer.Answer.{Answer}
use Rattle.c_host.specs.declared.sizes.Sizes.{Sizes}
use Rattle.cells.specs.Meaning.{Cells}
use Rattle.grammar.specs.Trees.{Script}
use Rattle.rules.specs.declared.answers.End.{End}
use Rattle.rules.specs.declared.answers.End.TheVariants.{Ended, Faulted, Paused, OutputFull}
use Rattle.rules.specs.declared.fault.Named.{Named}
use Rattle.rules.specs.declared.fault.Named.TheVariants.{Basis, Text}
use Rattle.rules.specs.Faults.{number_of as fault_number}
use Rattle.rules.specs.Runs as rules
use Rattle.run.specs.Openings.{Opening, opening, answer_of}
use Rattle.script_refusals.specs.declared.refusal.Refused.{Refused}
use Rattle.script_refusals.specs.Refusals.{number_of as refusal_number}

-- the largest number of 32 bits
abbrev pub most : ℕ
most = 4294967295

abbrev pub without : ℕ → Answer
without kind = record { kind = kind; number = 0; place = 0; basis = 0; name = 0; name_size = 0; steps = 0; bytes = 0; taken = 0; given_back = 0 }

-- an accepted script, and a heap that has no more memory
abbrev pub accepted : Answer
accepted = without 0

abbrev pub no_memory : Answer
no_memory = without 5

abbrev pub refused : Refused → Answer
refused r = record { kind = 1; number = refusal_number r.refusal; place = min r.place most; basis = 0; name = 0; name_size = 0; steps = 0; bytes = 0; taken = 0; given_back = 0 }

-- the end of a run, how many bytes it wrote, and its counts
abbrev pub ended : ℕ → ℕ → ℕ → ℕ → ℕ → Answer
ended kind bytes steps taken given = record { kind = kind; number = 0; place = 0; basis = 0; name = 0; name_size = 0; steps = steps; bytes = bytes; taken = taken; given_back = given }

abbrev pub faulted : ℕ → ℕ → Named → ℕ → ℕ → ℕ → ℕ → Answer
faulted number place (Basis f) bytes steps taken given = record { kind = 3; number = number; place = place; basis = 1; name = basis_number f; name_size = 0; steps = steps; bytes = bytes; taken = taken; given_back = given }
faulted number place (Text w) bytes steps taken given = record { kind = 3; number = number; place = place; basis = 0; name = w.place; name_size = w.size; steps = steps; bytes = bytes; taken = taken; given_back = given }

abbrev pub closed : End → ℕ → ℕ → ℕ → ℕ → Answer
closed Ended = ended 2
closed OutputFull = ended 4
closed Paused = ended 4
closed (Faulted f) = faulted (fault_number f.kind) f.place f.function

-- A text that is read and checked.
abbrev pub checked : Result Script Refused → Answer
checked (Ok s) = accepted
checked (Err r) = refused r

-- A text that is run: the rules' answer to one advance, opened over cells of which none is live, and their counts at its close. What it
-- writes stands at the front of the output, and the rest is as it was.
abbrev pub fresh : ℕ → Cells
fresh cells = replicate (min cells 65535) None

abbrev pub opened : Script → List ℕ → Sizes → Opening
opened s input z = opening s (fresh z.cells) input z.first z.second z.allowance

abbrev pub advanced : Script → List ℕ → Sizes → ℕ → rules.Answer
advanced s input z room = answer_of (opened s input z) (rules.opened_run input) most room

abbrev pub told : rules.Answer → Answer
told a = closed a.end (min (length a.bytes) most) (rules.close a.run).steps (rules.close a.run).taken (rules.close a.run).given

abbrev pub Ran : List ℕ → Sizes → List ℕ → Result Script Refused → Answer → List ℕ → Type 0
Ran input z out (Ok s) answer new = (answer ≡ told (advanced s input z (length out))) × (new ≡ (advanced s input z (length out)).bytes ++ drop (length (advanced s input z (length out)).bytes) out)
Ran input z out (Err r) answer new = (answer ≡ refused r) × (new ≡ out)
