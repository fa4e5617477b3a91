-- Open, advance and close, on trees.
use Rattle.std.specs.Prelude.{ℕ, zero, suc, ◌+◌, ◌-◌, min, cond, List, [], ◌++◌, length, Some, None, codes, Option, ◌==◌, nat_le}
use Rattle.basis.specs.declared.function.Basis.{Basis}
use Rattle.grammar.specs.Trees.{Ident}
use Rattle.layout.specs.Words.{word}
use Rattle.program.specs.Programs.{Program, Define, first_of, owner_found}
use Rattle.rules.specs.declared.answers.End.{End}
use Rattle.rules.specs.declared.answers.End.TheVariants.{Ended, Faulted, Paused, OutputFull}
use Rattle.rules.specs.declared.fault.Fault.{Fault}
use Rattle.rules.specs.declared.fault.FaultKind.{FaultKind}
use Rattle.rules.specs.declared.fault.FaultKind.TheVariants.{Stuck, AllowanceSpent}
use Rattle.rules.specs.declared.fault.Named.{Named}
use Rattle.rules.specs.declared.fault.Named.TheVariants as named
use Rattle.rules.specs.States.{opened, enter, finished, over, Account, State, st, held}
use Rattle.rules.specs.Steps.{Outcome, goes, fails, stuck, Sizes, step, step_place}

-- A run: its state, the steps taken, and its fault if it has one.
pub record Run : Type 0 where
  pub state : State
  pub steps : ℕ
  pub fault : Option Fault

-- the define main
abbrev pub main_of : Program → Option Define
main_of P = first_of (λ d. d.name) (codes "main") P.defines

-- at opening nothing waits, is held or is counted
abbrev pub opened_run : List ℕ → Run
opened_run input = record { state = st [] [] opened (record { input = input; taken = 0; given = 0 }); steps = 0; fault = None }

-- the function that a fault at a place names: for arithmetic the function of the basis, else the define or val around the place
abbrev pub text_name : Ident → Named
text_name x = named.Text (word x)

abbrev pub naming : Program → ℕ → Option Basis → Named
naming P p (Some f) = named.Basis f
naming P p None = text_name (owner_found P p)

abbrev pub fault_there : Program → ℕ → FaultKind → Option Basis → Fault
fault_there P p kind f = record { kind = kind; place = p; function = naming P p f }

abbrev pub with_fault : Fault → Run → Run
with_fault f r = record { state = r.state; steps = r.steps; fault = Some f }

abbrev pub stepped : State → Run → Run
stepped s r = record { state = s; steps = r.steps + 1; fault = None }

-- Before each step: the advance ends so, with this run; or the step is taken, prints these bytes and leads to this run.
pub data Turn : Type 0 where
  ends : End → Run → Turn
  moves : List ℕ → Run → Turn

module _ (P : Program) (Z : Sizes) (allowance : ℕ) where
  -- the place of the next step
  abbrev pub next_place : Run → ℕ
  next_place r = step_place (main_of P) r.state

  abbrev pub faulted : FaultKind → Option Basis → Run → Turn
  faulted kind f r = ends (Faulted (fault_there P (next_place r) kind f)) (with_fault (fault_there P (next_place r) kind f) r)

  -- a step's own faults come before the want of room in the output
  abbrev pub on_step : ℕ → Run → Outcome → Turn
  on_step room r (goes bytes s) = cond (nat_le (length bytes) room) (moves bytes (stepped s r)) (ends OutputFull r)
  on_step room r (fails kind f) = faulted kind f r
  on_step room r stuck = faulted Stuck None r

  abbrev pub is_over : State → Option End
  is_over (st K env opened a) = None
  is_over (st K env (enter e) a) = None
  is_over (st K env (finished v) a) = None
  is_over (st K env over a) = Some Ended

  -- so many steps are left of the count, and of the allowance
  abbrev pub on_count : ℕ → ℕ → Run → Turn
  on_count left room r =
      cond (left == 0) (ends Paused r)
      (cond (nat_le allowance r.steps) (faulted AllowanceSpent None r)
      (on_step room r (step P Z (main_of P) r.state)))

  abbrev pub on_end : ℕ → ℕ → Run → Option End → Turn
  on_end left room r (Some e) = ends e r
  on_end left room r None = on_count left room r

  abbrev pub on_fault : ℕ → ℕ → Run → Option Fault → Turn
  on_fault left room r (Some f) = ends (Faulted f) r
  on_fault left room r None = on_end left room r (is_over r.state)

  -- the tests before a step: ended or faulted, the count, the allowance, the step's faults, room in the output
  abbrev pub turn : ℕ → ℕ → Run → Turn
  turn left room r = on_fault left room r r.fault

-- what an advance answers, and the run afterwards
pub record Answer : Type 0 where
  pub end : End
  pub steps : ℕ
  pub bytes : List ℕ
  pub run : Run

abbrev pub stopped : End → Run → Answer
stopped e r = record { end = e; steps = 0; bytes = []; run = r }

-- a step before the rest of an advance
abbrev pub after : List ℕ → Answer → Answer
after bytes o = record { end = o.end; steps = 1 + o.steps; bytes = bytes ++ o.bytes; run = o.run }

-- An advance of at most so many steps, with room for so many bytes.
unfoldable pub advance : Program → Sizes → ℕ → ℕ → ℕ → Run → Answer
advance P Z allowance zero room r = elim (turn P Z allowance 0 room r) [ ends e n ↦ stopped e n | moves bytes n ↦ stopped Paused r ]
advance P Z allowance (suc k) room r = elim (turn P Z allowance (suc k) room r) [ ends e n ↦ stopped e n | moves bytes n ↦ after bytes (advance P Z allowance k (room - length bytes) n) ]

-- the allowance that counts
abbrev pub allowed : ℕ → ℕ
allowed n = min n 1000000000

-- what a close answers: all that is held is dropped
pub record Counts : Type 0 where
  pub steps : ℕ
  pub taken : ℕ
  pub given : ℕ

abbrev pub account_of : State → Account
account_of (st K env c a) = a

abbrev pub close : Run → Counts
close r = record { steps = r.steps; taken = (account_of r.state).taken; given = (account_of r.state).given + held r.state }
