-- Why an advance ends: what is tested before each step, in its order.
use Rattle.std.specs.Prelude.{◌≡◌, ℕ, ◌<◌, ◌≤◌, List, length, Some, None, Option}
use Rattle.basis.specs.declared.function.Basis.{Basis}
use Rattle.program.specs.Programs.{Program}
use Rattle.rules.specs.declared.answers.End.{End}
use Rattle.rules.specs.declared.answers.End.TheVariants.{Ended, Faulted, Paused, OutputFull}
use Rattle.rules.specs.declared.fault.Fault.{Fault}
use Rattle.rules.specs.declared.fault.FaultKind.{FaultKind}
use Rattle.rules.specs.declared.fault.FaultKind.TheVariants.{Stuck, AllowanceSpent}
use Rattle.rules.specs.Runs.{main_of, fault_there, is_over}
use Rattle.rules.specs.States.{State}
use Rattle.rules.specs.Steps.{goes, fails, stuck, Sizes, step, step_place}

module _ (P : Program) (Z : Sizes) (allowance : ℕ) where
  -- a fault at the place of the next step
  abbrev pub fault_here : State → FaultKind → Option Basis → Fault
  fault_here s kind f = fault_there P (step_place (main_of P) s) kind f

  -- a state that has not ended, where steps are left of the count
  pub record Counted (left : ℕ) (s : State) : Type 0 where
    pub going : is_over P Z allowance s ≡ None
    pub some : 0 < left

  -- and of the allowance
  pub record Due (left : ℕ) (s : State) (steps : ℕ) : Type 0 where
    pub counted : Counted left s
    pub allowed : steps < allowance

  -- In a state after so many steps of the run, with so many steps and so much room left of an advance: the run has ended; the count's steps
  -- are taken; the allowance is spent; the step faults, or the rules have nothing for it; it prints more than still fits.
  pub data Reason (left room : ℕ) (s : State) (steps : ℕ) : End → Type 0 where
    run_ended : is_over P Z allowance s ≡ Some Ended → Reason left room s steps Ended
    steps_taken : is_over P Z allowance s ≡ None → left ≡ 0 → Reason left room s steps Paused
    allowance_spent : Counted left s → allowance ≤ steps → Reason left room s steps (Faulted (fault_here s AllowanceSpent None))
    step_faults : {kind : FaultKind} {f : Option Basis} → Due left s steps → step P Z (main_of P) s ≡ fails kind f → Reason left room s steps (Faulted (fault_here s kind f))
    step_stuck : Due left s steps → step P Z (main_of P) s ≡ stuck → Reason left room s steps (Faulted (fault_here s Stuck None))
    output_full : {bytes : List ℕ} {t : State} → Due left s steps → step P Z (main_of P) s ≡ goes bytes t → room < length bytes → Reason left room s steps OutputFull
