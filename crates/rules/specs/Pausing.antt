-- What a list of advances comes to as a whole.
use Rattle.std.specs.Prelude.{ℕ, ◌+◌, List, [], ◌∷◌, ◌++◌, Some, None, Option}
use Rattle.program.specs.Programs.{Program}
use Rattle.rules.specs.declared.answers.End.{End}
use Rattle.rules.specs.declared.answers.End.TheVariants.{Faulted}
use Rattle.rules.specs.declared.fault.Fault.{Fault}
use Rattle.rules.specs.Histories.{Call, answer}
use Rattle.rules.specs.Runs.{Run, Answer, is_over}
use Rattle.rules.specs.Steps.{Sizes}

-- an advance and the next one as if they were one
abbrev pub joined : Answer → Answer → Answer
joined o p = record { end = p.end; steps = o.steps + p.steps; bytes = o.bytes ++ p.bytes; run = p.run }

abbrev pub end_by : Option Fault → Option End → Option End
end_by (Some f) e = Some (Faulted f)
end_by None e = e

module _ (P : Program) (Z : Sizes) (allowance : ℕ) where
  -- the bytes that the advances of a list write, one after another
  abbrev pub written : Run → List Call → List ℕ
  written r [] = []
  written r (c ∷ cs) = (answer P Z allowance r c).bytes ++ written (answer P Z allowance r c).run cs

  -- the steps that they take
  abbrev pub counted : Run → List Call → ℕ
  counted r [] = 0
  counted r (c ∷ cs) = (answer P Z allowance r c).steps + counted (answer P Z allowance r c).run cs

  -- the end of a run that has ended or faulted
  abbrev pub end_of : Run → Option End
  end_of r = end_by r.fault (is_over P Z allowance r.state)
