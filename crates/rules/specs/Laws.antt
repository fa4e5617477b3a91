-- What holds of every run.
use Rattle.std.specs.Prelude.{◌≡◌, ℕ, ◌+◌, ◌-◌, ◌<◌, ◌≤◌, ◌≢◌, List, length, Some, None}
use Rattle.std.specs.List.{slice_get}
use Rattle.grammar.specs.Trees.{Script}
use Rattle.program.specs.Programs.{Program, program}
use Rattle.typing.specs.Scripts.{Allowed}
use Rattle.rules.specs.declared.answers.End.{End}
use Rattle.rules.specs.declared.answers.End.TheVariants.{Faulted, Paused, OutputFull}
use Rattle.rules.specs.declared.fault.Fault.{Fault}
use Rattle.rules.specs.declared.fault.FaultKind.TheVariants.{NoBranch, StackFull, Stuck, TooFewCells}
use Rattle.rules.specs.Cells.{needed_cells, free_cells, with_cells}
use Rattle.rules.specs.Histories.{Call, answer, answers, reached}
use Rattle.rules.specs.Pausing.{joined, written, counted, end_of}
use Rattle.rules.specs.Reasons.{Reason}
use Rattle.rules.specs.Runs.{Run, main_of, opened_run, is_over, Answer, stopped, advance, account_of, close}
use Rattle.rules.specs.States.{State, held}
use Rattle.rules.specs.Stacks.{waiting, entered, Lacks}
use Rattle.rules.specs.Steps.{goes, fails, stuck, Sizes, step}

-- No advance meets the fault that the rules have nothing for a step, and the run has no such fault.
pub record Unstuck (P : Program) (Z : Sizes) (allowance : ℕ) (input : List ℕ) (calls : List Call) : Type 0 where
  pub answers : (i : ℕ) (o : Answer) (f : Fault) → slice_get (answers P Z allowance (opened_run input) calls) i ≡ Some o → o.end ≡ Faulted f → f.kind ≢ Stuck
  pub run : (f : Fault) → (reached P Z allowance (opened_run input) calls).fault ≡ Some f → f.kind ≢ Stuck

-- For every script that the check allows, all sizes, any allowance and input, and every list of advances.
abbrev pub NeverStuck : Type 0
NeverStuck = (script : Script) → Allowed script → (Z : Sizes) (allowance : ℕ) (input : List ℕ) (calls : List Call) → Unstuck (program script) Z allowance input calls

-- The cells of a run are accounted for: those taken are those given back and those held, no more are held than were free at opening,
-- and once the run is closed all that were taken are given back.
pub record Balanced (Z : Sizes) (r : Run) : Type 0 where
  pub account : (account_of r.state).taken ≡ (account_of r.state).given + held r.state
  pub within : held r.state ≤ Z.cells
  pub closed : (close r).taken ≡ (close r).given

-- For every script, checked or not, and every list of advances.
abbrev pub Accounts : Type 0
Accounts = (P : Program) (Z : Sizes) (allowance : ℕ) (input : List ℕ) (calls : List Call) → Balanced Z (reached P Z allowance (opened_run input) calls)

pub record Stacked (Z : Sizes) (r : Run) : Type 0 where
  pub frames : waiting r.state ≤ Z.frames
  pub entries : entered r.state ≤ Z.entries

-- No run has more on its stacks than they have entries.
abbrev pub StacksHold : Type 0
StacksHold = (P : Program) (Z : Sizes) (allowance : ℕ) (input : List ℕ) (calls : List Call) → Stacked Z (reached P Z allowance (opened_run input) calls)

-- The faults of a step that come before 34: whether the rules have something for it, and whether a branch fits, depends on no size.
pub record ExactlyFull (P : Program) (Z : Sizes) (s : State) : Type 0 where
  pub nothing : (Y : Sizes) → step P Z (main_of P) s ≡ stuck → step P Y (main_of P) s ≡ stuck
  pub branch : (Y : Sizes) → step P Z (main_of P) s ≡ fails NoBranch None → step P Y (main_of P) s ≡ fails NoBranch None
  -- not early: a step that faults for want of an entry lacks one
  pub lacks : step P Z (main_of P) s ≡ fails StackFull None → Lacks P Z s
  -- not late: a step that lacks an entry faults so, unless it is stuck or finds no branch
  pub faults : Lacks P Z s → step P Z (main_of P) s ≢ stuck → step P Z (main_of P) s ≢ fails NoBranch None → step P Z (main_of P) s ≡ fails StackFull None

-- For every script, checked or not, after every list of advances.
abbrev pub ShortOfEntries : Type 0
ShortOfEntries = (P : Program) (Z : Sizes) (allowance : ℕ) (input : List ℕ) (calls : List Call) → ExactlyFull P Z (reached P Z allowance (opened_run input) calls).state

-- In a state after so many steps, with so many left of an advance, nothing that is tested before the want of cells stops the next step:
-- the run has not ended, steps are left of the count and of the allowance, and over some number of cells the step is taken.
pub record Unhindered (P : Program) (Z : Sizes) (allowance left : ℕ) (s : State) (steps : ℕ) : Type 0 where
  pub going : is_over P Z allowance s ≡ None
  pub counted : 0 < left
  pub allowed : steps < allowance
  pub cells : ℕ
  pub bytes : List ℕ
  pub next : State
  pub taken : step P (with_cells cells Z) (main_of P) s ≡ goes bytes next

-- What an advance o of a run r that has not faulted says of cells.
pub record ExactlyShort (P : Program) (Z : Sizes) (allowance : ℕ) (r : Run) (c : Call) (o : Answer) : Type 0 where
  -- not early: where it faults with too few cells, the next step is stopped by nothing else, and it needs more cells than are free
  pub hindered : (f : Fault) → r.fault ≡ None → o.end ≡ Faulted f → f.kind ≡ TooFewCells → Unhindered P Z allowance (c.count - o.steps) o.run.state o.run.steps
  pub short : (f : Fault) → r.fault ≡ None → o.end ≡ Faulted f → f.kind ≡ TooFewCells → free_cells Z o.run.state < needed_cells P o.run.state
  -- not late: where the next step is stopped by nothing else and needs more cells than are free, it faults so
  pub faults : r.fault ≡ None → Unhindered P Z allowance (c.count - o.steps) o.run.state o.run.steps → free_cells Z o.run.state < needed_cells P o.run.state
      → (f : Fault) × (o.end ≡ Faulted f) × (f.kind ≡ TooFewCells)
  -- and a step that is taken takes the cells that it needs, no more than are free
  pub takes : (bytes : List ℕ) (s : State) → step P Z (main_of P) r.state ≡ goes bytes s → (account_of s).taken ≡ (account_of r.state).taken + needed_cells P r.state
  pub enough : (bytes : List ℕ) (s : State) → step P Z (main_of P) r.state ≡ goes bytes s → needed_cells P r.state ≤ free_cells Z r.state

-- Too few cells, exactly: for every script, checked or not, and every advance after every list of advances.
abbrev pub ShortOfCells : Type 0
ShortOfCells = (P : Program) (Z : Sizes) (allowance : ℕ) (input : List ℕ) (calls : List Call) (c : Call) (r : Run) → reached P Z allowance (opened_run input) calls ≡ r → ExactlyShort P Z allowance r c (answer P Z allowance r c)

-- What the end o.end of an advance of a run r says.
pub record InOrder (P : Program) (Z : Sizes) (allowance : ℕ) (r : Run) (c : Call) (o : Answer) : Type 0 where
  -- there is a reason for it where the advance stops, and in the order of the tests there is one reason at most
  pub reason : r.fault ≡ None → Reason P Z allowance (c.count - o.steps) (c.room - length o.bytes) o.run.state o.run.steps o.end
  pub one : (left room : ℕ) (s : State) (steps : ℕ) (e e' : End) → Reason P Z allowance left room s steps e → Reason P Z allowance left room s steps e' → e ≡ e'
  -- a run that faults has that fault from then on
  pub fault : (f : Fault) → o.end ≡ Faulted f → o.run.fault ≡ Some f

-- For every script, any run of it, and every advance.
abbrev pub TestsInOrder : Type 0
TestsInOrder = (P : Program) (Z : Sizes) (allowance : ℕ) (r : Run) (c : Call) → InOrder P Z allowance r c (answer P Z allowance r c)

-- How an advance of a run may be cut.
pub record Cuts (P : Program) (Z : Sizes) (allowance : ℕ) (r : Run) : Type 0 where
  -- an advance of m + n steps is one of m steps and then one of n
  pub cut : (m n room more : ℕ) (o : Answer) → advance P Z allowance m room r ≡ o → o.end ≢ OutputFull → advance P Z allowance (m + n) (length o.bytes + more) r ≡ joined o (advance P Z allowance n more o.run)
  -- where the output is full, the next advance goes on with another slice
  pub full : (m n room more : ℕ) (o : Answer) → advance P Z allowance m room r ≡ o → o.end ≡ OutputFull → advance P Z allowance (o.steps + n) (length o.bytes + more) r ≡ joined o (advance P Z allowance n more o.run)
  -- more room changes nothing where the room sufficed
  pub roomy : (m room more : ℕ) (o : Answer) → advance P Z allowance m room r ≡ o → o.end ≢ OutputFull → advance P Z allowance m (room + more) r ≡ o
  -- an advance that finds the run ended or faulted, or brings it there, leaves it so
  pub ends : (m room : ℕ) (o : Answer) → advance P Z allowance m room r ≡ o → o.end ≢ Paused → o.end ≢ OutputFull → end_of P Z allowance o.run ≡ Some o.end
  -- and so it stays, with nothing more done
  pub stays : (m room : ℕ) (e : End) → end_of P Z allowance r ≡ Some e → advance P Z allowance m room r ≡ stopped e r

-- Two lists of advances from the opening, and the runs that they leave.
pub record OneCourse (P : Program) (Z : Sizes) (allowance : ℕ) (input : List ℕ) (cs ds : List Call) (r s : Run) : Type 0 where
  -- the steps of a run are those that its advances answer
  pub counted : r.steps ≡ counted P Z allowance (opened_run input) cs
  -- after as many steps they have written the same bytes, and closing answers the same counts
  pub bytes : r.steps ≡ s.steps → written P Z allowance (opened_run input) cs ≡ written P Z allowance (opened_run input) ds
  pub counts : r.steps ≡ s.steps → close r ≡ close s
  -- where both have ended or faulted, they have taken as many steps, and the end is the same
  pub steps : (e e' : End) → end_of P Z allowance r ≡ Some e → end_of P Z allowance s ≡ Some e' → r.steps ≡ s.steps
  pub end : (e e' : End) → end_of P Z allowance r ≡ Some e → end_of P Z allowance s ≡ Some e' → e ≡ e'

-- Pausing changes nothing: not how the steps are cut into advances, and not the lengths of slices that suffice.
pub record PausingChangesNothing : Type 0 where
  pub cuts : (P : Program) (Z : Sizes) (allowance : ℕ) (r : Run) → Cuts P Z allowance r
  pub courses : (P : Program) (Z : Sizes) (allowance : ℕ) (input : List ℕ) (cs ds : List Call) (r s : Run)
      → reached P Z allowance (opened_run input) cs ≡ r → reached P Z allowance (opened_run input) ds ≡ s → OneCourse P Z allowance input cs ds r s
