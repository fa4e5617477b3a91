-- What becomes of a text: it is refused by the reading or by the check, or it runs, and then ends or faults.
use Rattle.std.specs.Prelude.{ℕ, List, [], take, drop, Ok, Err, Result}
use Rattle.basis.specs.Names.{name_of}
use Rattle.text.specs.Refusals as reading_refusals
use Rattle.script_refusals.specs.Refusals.{number_of as refusal_number}
use Rattle.text.specs.declared.refusal.Refused.{Refused}
use Rattle.grammar.specs.Reading.{reading}
use Rattle.grammar.specs.Trees.{Script}
use Rattle.program.specs.Programs.{program}
use Rattle.typing.specs.Verdict.{Verdict, accepted, refused as refuses, verdict}
use Rattle.rules.specs.declared.answers.End.{End}
use Rattle.rules.specs.declared.answers.End.TheVariants.{Ended, Faulted, Paused, OutputFull}
use Rattle.rules.specs.declared.fault.Named.{Named}
use Rattle.rules.specs.declared.fault.Named.TheVariants as named
use Rattle.rules.specs.Faults.{number_of as fault_number}
use Rattle.rules.specs.Runs.{Answer, opened_run, advance}
use Rattle.rules.specs.Steps.{Sizes}

pub data Fate : Type 0 where
  -- by its number, at a place
  refused : ℕ → ℕ → Fate
  -- with the bytes that were printed, after so many steps
  ended : List ℕ → ℕ → Fate
  -- by its number, at a place, in the function of this name
  faulted : ℕ → ℕ → List ℕ → Fate
  unfinished : Fate

-- the name that a fault gives is one of the basis, or a part of the text
abbrev pub name_in : List ℕ → Named → List ℕ
name_in text (named.Basis f) = name_of f
name_in text (named.Text w) = take w.size (drop w.place text)

abbrev pub fate_at : List ℕ → Answer → End → Fate
fate_at text o Ended = ended o.bytes o.steps
fate_at text o (Faulted f) = faulted (fault_number f.kind) f.place (name_in text f.function)
fate_at text o Paused = unfinished
fate_at text o OutputFull = unfinished

-- one advance that may take a thousand steps and print a thousand bytes, with no input
abbrev pub whole : Sizes → Script → Answer
whole Z script = advance (program script) Z 1000 1000 1000 (opened_run [])

abbrev pub fate_of : List ℕ → Answer → Fate
fate_of text o = fate_at text o o.end

abbrev pub on_verdict : Sizes → List ℕ → Script → Verdict → Fate
on_verdict Z text script (refuses r) = refused (refusal_number r.refusal) r.place
on_verdict Z text script accepted = fate_of text (whole Z script)

abbrev pub on_reading : Sizes → List ℕ → Result Script Refused → Fate
on_reading Z text (Err r) = refused (reading_refusals.number_of r.refusal) r.place
on_reading Z text (Ok script) = on_verdict Z text script (verdict script)

-- Read into 4096 nodes, checked, and run over so many cells, with a thousand entries on each stack.
abbrev pub fate : ℕ → List ℕ → Fate
fate cells text = on_reading (record { cells = cells; frames = 1000; entries = 1000 }) text (reading text 4096)
