-- How a run and its store stand to the rules, after every history of advances.
use Rattle.std.specs.Prelude.{◌≡◌, ℕ, ◌≢◌, false, List, [], ◌∷◌, ◌++◌, map, length}
use Rattle.cells.specs.Meaning.{Cells}
use Rattle.cells.specs.declared.values.Value.{Value}
use Rattle.data.proofs.Outs.{join}
use Rattle.data.specs.Standing.{Keeps}
use Rattle.data.specs.Trees.{Trees}
use Rattle.machine.specs.Holding.{values_in, trees_in, kept}
use Rattle.machine.specs.Waiting.{value_in_hand, handed}
use Rattle.machine.specs.declared.machine.Machine.{Machine}
use Rattle.program.specs.Programs.{program}
use Rattle.rules.specs.declared.answers.Closed.{Closed}
use Rattle.rules.specs.declared.answers.End.{End}
use Rattle.rules.specs.declared.answers.End.TheVariants.{Faulted}
use Rattle.rules.specs.declared.fault.Fault.{Fault}
use Rattle.rules.specs.declared.fault.FaultKind.TheVariants.{Stuck}
use Rattle.rules.specs.Cells.{free_cells}
use Rattle.rules.specs.Laws.{ExactlyShort}
use Rattle.rules.specs.Runs as rules
use Rattle.rules.specs.Runs.{Answer, allowed, close}
use Rattle.rules.specs.States.{State, st}
use Rattle.run.specs.Insides.{Inside}
use Rattle.run.specs.Openings.{Opening, free, Made, asked, sizes_of, answers_of, run_after}
use Rattle.run.specs.declared.runs.Run.{Run}
use Rattle.stack.specs.Items.{tops}

-- the data that a state of the rules holds: the value just finished, those of names and arguments, the newest first, and those of callers
abbrev pub data_held : State → Trees
data_held (st K env c a) = join (handed c) (trees_in (env ++ kept K))

-- the values in a run that stand for them
abbrev pub values_of : Machine → List Value
values_of r = value_in_hand r.control ++ values_in (tops r.slots)

abbrev pub values_held : Run → List Value
values_held run = values_of run.machine

-- what an advance says: how it ended, its own steps, and what it wrote
pub record Said : Type 0 where
  pub end : End
  pub steps : ℕ
  pub written : ℕ
  pub bytes : List ℕ

abbrev pub said : Answer → Said
said o = record { end = o.end; steps = o.steps; written = length o.bytes; bytes = o.bytes }

abbrev pub told : Made → Said
told c = record { end = c.answer.end; steps = c.answer.steps; written = c.answer.bytes; bytes = c.bytes }

-- an advance that was made, as an answer of the rules that leaves this run
abbrev pub as_answer : Made → rules.Run → Answer
as_answer c r = record { end = c.answer.end; steps = c.answer.steps; bytes = c.bytes; run = r }

module _ (o : Opening) (h : List Made) where
  -- The store holds what it held at opening, unchanged, and one cell for each constructor in the data that the rules' run holds, filled with
  -- it and its fields; every other cell is free.
  abbrev pub CellsHeld : List Value → Cells → Type 0
  CellsHeld values m = Keeps o.cells m values (data_held (run_after o h).state)

  -- The answers are the rules' answers to the same advances.
  abbrev pub AnswersAgree : Type 0
  AnswersAgree = map told h ≡ map said (answers_of o h)

  -- None of them was stuck.
  abbrev pub NoneStuck : Type 0
  NoneStuck = (before after : List Made) (c : Made) (f : Fault) → h ≡ before ++ c ∷ after → c.answer.end ≡ Faulted f → f.kind ≢ Stuck

  -- Too few cells was answered exactly where the next step, stopped by nothing that is tested before, needed more cells than were free.
  abbrev pub ShortExactly : Type 0
  ShortExactly = (before after : List Made) (c : Made) → h ≡ before ++ c ∷ after
      → ExactlyShort (program o.script) (sizes_of o) (allowed o.allowance) (run_after o before) (asked c) (as_answer c (run_after o (before ++ c ∷ [])))

  -- How a run that was opened so and its store stand after these advances.
  pub record Stands (run : Run) (m : Cells) : Type 0 where
    pub cells : CellsHeld (values_held run) m
    -- so many cells are free as the rules say
    pub free_is : free m ≡ free_cells (sizes_of o) (run_after o h).state
    pub answers : AnswersAgree
    pub sound : NoneStuck
    pub short : ShortExactly
    -- what ties the run's own fields to the rules' run
    pub inside : Inside o (run_after o h) run m

  -- After its close: the store means what it meant at opening, the counts are the rules', all cells taken were given back, and nothing was
  -- stuck.
  pub record Finished (closed : Closed) (m : Cells) : Type 0 where
    pub cells : m ≡ o.cells
    pub steps : closed.steps ≡ (close (run_after o h)).steps
    pub taken : closed.taken ≡ (close (run_after o h)).taken
    pub given : closed.given_back ≡ (close (run_after o h)).given
    pub equal : closed.taken ≡ closed.given_back
    pub sound : closed.stuck ≡ false
