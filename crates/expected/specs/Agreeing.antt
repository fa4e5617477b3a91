-- When an answer is what a case expects.
use Rattle.std.specs.Prelude.{◌≡◌, ℕ, ⊤, false, List, Option, Some, None, Ok, Err, Result}
use Rattle.cases.specs.declared.case.Advance.{Advance}
use Rattle.cases.specs.declared.case.Close.{Close}
use Rattle.cases.specs.declared.case.End as told
use Rattle.cases.specs.declared.case.End.TheVariants as told_end
use Rattle.cases.specs.declared.case.Fault as told_fault
use Rattle.cases.specs.declared.case.Refused as told_refusal
use Rattle.fault_names.specs.FaultNames.{name_of}
use Rattle.rules.specs.Faults as faults
use Rattle.rules.specs.declared.answers.Advanced.{Advanced}
use Rattle.rules.specs.declared.answers.Closed.{Closed}
use Rattle.rules.specs.declared.answers.End as answered
use Rattle.rules.specs.declared.answers.End.TheVariants as end
use Rattle.rules.specs.declared.fault.Fault as run_fault
use Rattle.script_refusals.specs.Refusals as refusals
use Rattle.script_refusals.specs.declared.refusal.Refused.{Refused}

-- accepted, or refused with that number at that place
abbrev pub VerdictAgrees : Result (Unit {0}) told_refusal.Refused → Option Refused → Type 0
VerdictAgrees (Ok _) None = ⊤
VerdictAgrees (Ok _) (Some r) = ⊥
VerdictAgrees (Err told) None = ⊥
VerdictAgrees (Err told) (Some r) = (told.number ≡ refusals.number_of r.refusal) × (told.place ≡ r.place)

-- the same number and place, and the same name
abbrev pub FaultAgrees : List ℕ → told_fault.Fault → run_fault.Fault → Type 0
FaultAgrees text told f = (told.number ≡ faults.number_of f.kind) × (told.place ≡ f.place) × (told.name.now ≡ name_of text f.function)

abbrev pub EndAgrees : List ℕ → told.End → answered.End → Type 0
EndAgrees text told_end.Ended end.Ended = ⊤
EndAgrees text told_end.Ended (end.Faulted f) = ⊥
EndAgrees text told_end.Ended end.Paused = ⊥
EndAgrees text told_end.Ended end.OutputFull = ⊥
EndAgrees text told_end.Paused end.Ended = ⊥
EndAgrees text told_end.Paused (end.Faulted f) = ⊥
EndAgrees text told_end.Paused end.Paused = ⊤
EndAgrees text told_end.Paused end.OutputFull = ⊥
EndAgrees text told_end.Full end.Ended = ⊥
EndAgrees text told_end.Full (end.Faulted f) = ⊥
EndAgrees text told_end.Full end.Paused = ⊥
EndAgrees text told_end.Full end.OutputFull = ⊤
EndAgrees text (told_end.Faulted t) end.Ended = ⊥
EndAgrees text (told_end.Faulted t) (end.Faulted f) = FaultAgrees text t f
EndAgrees text (told_end.Faulted t) end.Paused = ⊥
EndAgrees text (told_end.Faulted t) end.OutputFull = ⊥

abbrev pub AdvanceAgrees : List ℕ → Advance → Advanced → List ℕ → Type 0
AdvanceAgrees text told a written = EndAgrees text told.end a.end × (told.steps ≡ a.steps) × (told.bytes.now ≡ written)

-- the same counts, and nothing was stuck
abbrev pub CloseAgrees : Close → Closed → Type 0
CloseAgrees told c = (told.steps ≡ c.steps) × (told.taken ≡ c.taken) × (told.given_back ≡ c.given_back) × (c.stuck ≡ false)
