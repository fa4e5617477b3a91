-- Runs and the evaluation agree.
use Rattle.std.specs.Prelude.{◌≡◌, ℕ, ◌≤◌, List, length, Some}
use Rattle.program.specs.Programs.{Program, Define}
use Rattle.rules.specs.declared.answers.End.{End}
use Rattle.rules.specs.declared.answers.End.TheVariants.{Ended}
use Rattle.rules.specs.Histories.{Call, reached}
use Rattle.rules.specs.Pausing.{written, end_of}
use Rattle.rules.specs.Runs.{Run, main_of, opened_run, advance, close}
use Rattle.rules.specs.Steps.{Sizes}
use Rattle.evaluation.specs.Evaluation.{Course, Runs}

-- n cells at least are free at opening, and each stack has as many entries
pub record Room (n : ℕ) (Z : Sizes) : Type 0 where
  pub cells : n ≤ Z.cells
  pub frames : n ≤ Z.frames
  pub entries : n ≤ Z.entries

-- a run, with the bytes that it has written, has come to this
pub record Comes (r : Run) (output : List ℕ) (h : Course) : Type 0 where
  pub steps : r.steps ≡ h.steps
  pub bytes : output ≡ h.output
  pub taken : (close r).taken ≡ h.account.taken
  pub given : (close r).given ≡ h.account.given

-- what every run over sizes with room for n comes to whose main gives the course h
pub record Ends (P : Program) (input : List ℕ) (h : Course) (n : ℕ) : Type 0 where
  -- one advance that has steps and room enough ends
  pub ends : (Z : Sizes) → Room n Z → (allowance count room : ℕ) → h.steps ≤ allowance → h.steps ≤ count → length h.output ≤ room → (advance P Z allowance count room (opened_run input)).end ≡ Ended
  -- and so does every list of advances that brings the run to an end or a fault, with this output, these steps and these counts of cells
  pub end : (Z : Sizes) → Room n Z → (allowance : ℕ) → h.steps ≤ allowance → (cs : List Call) (r : Run) → reached P Z allowance (opened_run input) cs ≡ r → (e : End) → end_of P Z allowance r ≡ Some e → e ≡ Ended
  pub comes : (Z : Sizes) → Room n Z → (allowance : ℕ) → h.steps ≤ allowance → (cs : List Call) (r : Run) → reached P Z allowance (opened_run input) cs ≡ r → (e : End) → end_of P Z allowance r ≡ Some e
      → Comes r (written P Z allowance (opened_run input) cs) h

pub record Agrees (P : Program) (main : Define) (input : List ℕ) : Type 0 where
  -- what the evaluation derives, a run with room enough does
  pub derived : (h : Course) → Runs P main input h → (n : ℕ) × Ends P input h n
  -- what a run does that ends, the evaluation derives, over any sizes
  pub ended : (Z : Sizes) (allowance : ℕ) (cs : List Call) (r : Run) → reached P Z allowance (opened_run input) cs ≡ r → end_of P Z allowance r ≡ Some Ended
      → (h : Course) × Runs P main input h × Comes r (written P Z allowance (opened_run input) cs) h
  -- and it derives one course at most
  pub one : (g h : Course) → Runs P main input g → Runs P main input h → g ≡ h

-- For every script with a main, checked or not, and every input. A run that faults gives no value, and has no derivation.
abbrev pub RunsAgree : Type 0
RunsAgree = (P : Program) (main : Define) (input : List ℕ) → main_of P ≡ Some main → Agrees P main input
