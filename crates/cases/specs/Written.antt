-- How a case is written, and behind it what follows it in the file. A space is 32, and the newline that ends a line is 10.
use Rattle.std.specs.Prelude.{ℕ, ◌≢◌, ⊤, List, [], ◌∷◌, ◌++◌, length, codes, decimal, All, Ok, Err, Result}
use Rattle.cases.specs.declared.case.Advance.{Advance}
use Rattle.cases.specs.declared.case.Case.{Case}
use Rattle.cases.specs.declared.case.Case.TheVariants.{Check, Run}
use Rattle.cases.specs.declared.case.CheckCase.{CheckCase}
use Rattle.cases.specs.declared.case.Close.{Close}
use Rattle.cases.specs.declared.case.End.{End}
use Rattle.cases.specs.declared.case.End.TheVariants.{Ended, Paused, Full, Faulted}
use Rattle.cases.specs.declared.case.Fault.{Fault}
use Rattle.cases.specs.declared.case.Refused.{Refused}
use Rattle.cases.specs.declared.case.RunCase.{RunCase}
use Rattle.cases.specs.declared.case.Sizes.{Sizes}

-- a known word, and a number
abbrev pub numbered : List ℕ → ℕ → List ℕ → List ℕ
numbered word n rest = word ++ (decimal n ++ rest)

-- a block, on the line behind its length
abbrev pub told_block : List ℕ → List ℕ → List ℕ → List ℕ
told_block word bytes rest = numbered word (length bytes) (10 ∷ (bytes ++ 10 ∷ rest))

-- refused NUMBER PLACE, or accepted
abbrev pub verdict_then : Result (Unit {0}) Refused → List ℕ → List ℕ
verdict_then (Ok _) rest = codes "accepted\n" ++ rest
verdict_then (Err r) rest = numbered (codes "refused ") r.number (numbered (codes " ") r.place (10 ∷ rest))

-- text LENGTH, the text, nodes COUNT, the verdict
abbrev pub check_then : CheckCase → List ℕ → List ℕ
check_then c rest = told_block (codes "text ") c.text.now (numbered (codes "nodes ") c.nodes (10 ∷ verdict_then c.verdict rest))

-- sizes CELLS FIRST SECOND ALLOWANCE
abbrev pub sizes_then : Sizes → List ℕ → List ℕ
sizes_then s rest = numbered (codes "sizes ") s.cells (numbered (codes " ") s.first (numbered (codes " ") s.second (numbered (codes " ") s.allowance (10 ∷ rest))))

-- behind the counts of a fault: NUMBER PLACE NAME
abbrev pub fault_then : Fault → List ℕ → List ℕ
fault_then f rest = numbered (codes " ") f.number (numbered (codes " ") f.place (codes " " ++ (f.name.now ++ 10 ∷ rest)))

-- ended, paused, full or fault, with STEPS and LENGTH
abbrev pub end_then : End → ℕ → ℕ → List ℕ → List ℕ
end_then Ended steps size rest = numbered (codes "ended ") steps (numbered (codes " ") size (10 ∷ rest))
end_then Paused steps size rest = numbered (codes "paused ") steps (numbered (codes " ") size (10 ∷ rest))
end_then Full steps size rest = numbered (codes "full ") steps (numbered (codes " ") size (10 ∷ rest))
end_then (Faulted f) steps size rest = numbered (codes "fault ") steps (numbered (codes " ") size (fault_then f rest))

-- a name ends where its line does
abbrev pub HasName : End → Type 0
HasName Ended = ⊤
HasName Paused = ⊤
HasName Full = ⊤
HasName (Faulted f) = All (λ b. b ≢ 10) f.name.now

-- advance COUNT ROOM, how it ended, what it wrote
abbrev pub advance_then : Advance → List ℕ → List ℕ
advance_then a rest = numbered (codes "advance ") a.count (numbered (codes " ") a.room (10 ∷ end_then a.end a.steps (length a.bytes.now) (a.bytes.now ++ 10 ∷ rest)))

abbrev pub advances_then : List Advance → List ℕ → List ℕ
advances_then [] rest = rest
advances_then (a ∷ more) rest = advance_then a (advances_then more rest)

abbrev pub AdvancesHaveNames : List Advance → Type 0
AdvancesHaveNames advances = All (λ a. HasName a.end) advances

-- close STEPS TAKEN GIVEN-BACK
abbrev pub close_then : Close → List ℕ → List ℕ
close_then c rest = numbered (codes "close ") c.steps (numbered (codes " ") c.taken (numbered (codes " ") c.given_back (10 ∷ rest)))

-- behind the text: input LENGTH, the input, the sizes, the advances, the close
abbrev pub rest_of_run : RunCase → List ℕ → List ℕ
rest_of_run c rest = told_block (codes "input ") c.input.now (sizes_then c.sizes (advances_then c.advances.items (close_then c.close rest)))

abbrev pub case_then : Case → List ℕ → List ℕ
case_then (Check c) rest = check_then c rest
case_then (Run c) rest = told_block (codes "text ") c.text.now (rest_of_run c rest)

-- a fault's name ends where its line does
abbrev pub CaseHasNames : Case → Type 0
CaseHasNames (Check c) = ⊤
CaseHasNames (Run c) = AdvancesHaveNames c.advances.items
