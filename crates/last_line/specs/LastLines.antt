-- The last line, by what became of the script. Numbers are decimal; the newline at the end belongs to the line.
use Rattle.std.specs.Prelude.{ℕ, List, ◌++◌, codes, decimal}
use Rattle.fault_names.specs.FaultNames.{name_of}
use Rattle.rules.specs.Faults as faults
use Rattle.rules.specs.declared.fault.Fault.{Fault}
use Rattle.script_refusals.specs.Refusals as refusals
use Rattle.script_refusals.specs.declared.refusal.Refused.{Refused}
use Rattle.last_line.specs.declared.outcome.Outcome.{Outcome}
use Rattle.last_line.specs.declared.outcome.Outcome.TheVariants as became

-- refused N at PLACE
abbrev pub refused_line : Refused → List ℕ
refused_line r = codes "refused " ++ (decimal (refusals.number_of r.refusal) ++ (codes " at " ++ (decimal r.place ++ codes "\n")))

-- fault N at PLACE in NAME
abbrev pub fault_front : Fault → List ℕ
fault_front f = codes "fault " ++ (decimal (faults.number_of f.kind) ++ (codes " at " ++ (decimal f.place ++ codes " in ")))

abbrev pub fault_line : List ℕ → Fault → List ℕ
fault_line text f = fault_front f ++ (name_of text f.function ++ codes "\n")

-- ended STEPS
abbrev pub ended_line : ℕ → List ℕ
ended_line steps = codes "ended " ++ (decimal steps ++ codes "\n")

abbrev pub line_of : List ℕ → Outcome → List ℕ
line_of text (became.Refused r) = refused_line r
line_of text (became.Faulted f) = fault_line text f
line_of text (became.Ended steps) = ended_line steps
