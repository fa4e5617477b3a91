-- What a run is opened with, the advances that were made of it, and the rules' run after them.
use Rattle.std.specs.Prelude.{◌≡◌, ℕ, ◌-◌, List, map, length}
use Rattle.cells.specs.Meaning.{Cells, count_live}
use Rattle.checking.specs.declared.checks.Checked.{Checked}
use Rattle.grammar.specs.Grammar.{Derives}
use Rattle.grammar.specs.Limits.{SixInScript}
use Rattle.grammar.specs.Trees.{Script}
use Rattle.program.specs.Programs.{program}
use Rattle.program.specs.Whole.{compiled}
use Rattle.rules.specs.declared.answers.Advanced.{Advanced}
use Rattle.rules.specs.Histories.{Call, answers, reached}
use Rattle.rules.specs.Runs.{Run, opened_run, Turn, turn, Answer, advance, allowed}
use Rattle.rules.specs.Steps.{Sizes}
use Rattle.typing.specs.Scripts.{Allowed}

-- A checked script is this script: the grammar derives it from the text, within the limits, the rules allow it, and the code is its code.
pub record Means (c : Checked) (script : Script) : Type 0 where
  pub derived : Derives c.text.now script
  pub six : SixInScript script
  pub allowed : Allowed script
  pub code : c.code ≡ compiled script

-- what a run is opened with: a script, a store by what it means then, the input, the entries of two stacks, and an allowance of steps
pub record Opening : Type 0 where
  pub script : Script
  pub cells : Cells
  pub input : List ℕ
  pub frames : ℕ
  pub entries : ℕ
  pub allowance : ℕ

abbrev pub opening : Script → Cells → List ℕ → ℕ → ℕ → ℕ → Opening
opening s m input frames entries allowance = record { script = s; cells = m; input = input; frames = frames; entries = entries; allowance = allowance }

-- how many cells of a store are free
abbrev pub free : Cells → ℕ
free m = length m - count_live m

-- An advance that was made: at most so many steps were asked for, a slice of so many bytes was lent, this was answered, and these bytes were
-- written to the front of the slice.
pub record Made : Type 0 where
  pub count : ℕ
  pub room : ℕ
  pub answer : Advanced
  pub bytes : List ℕ

abbrev pub made : ℕ → ℕ → Advanced → List ℕ → Made
made count room answer bytes = record { count = count; room = room; answer = answer; bytes = bytes }

abbrev pub asked : Made → Call
asked c = record { count = c.count; room = c.room }

module _ (o : Opening) where
  abbrev pub sizes_of : Sizes
  sizes_of = record { cells = free o.cells; frames = o.frames; entries = o.entries }

  -- what the rules say before a step, with so many steps left of the count and so much room in the output
  abbrev pub turn_of : ℕ → ℕ → Run → Turn
  turn_of left room r = turn (program o.script) sizes_of (allowed o.allowance) left room r

  -- what the rules answer to an advance
  abbrev pub answer_of : Run → ℕ → ℕ → Answer
  answer_of r count room = advance (program o.script) sizes_of (allowed o.allowance) count room r

  -- what they answer to a history of advances
  abbrev pub answers_of : List Made → List Answer
  answers_of h = answers (program o.script) sizes_of (allowed o.allowance) (opened_run o.input) (map asked h)

  -- the rules' run after them
  abbrev pub run_after : List Made → Run
  run_after h = reached (program o.script) sizes_of (allowed o.allowance) (opened_run o.input) (map asked h)
