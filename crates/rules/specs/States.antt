-- The state of a run on trees: what waits, what is held, and what comes next.
use Rattle.std.specs.Prelude.{ℕ, ◌+◌, List, [], ◌∷◌, length}
use Rattle.data.specs.Trees.{Tree, size}
use Rattle.grammar.specs.Trees.{Ident, Expr, Exprs, Bindings, Branches}
use Rattle.program.specs.Programs.{Name}

-- An entry: a bound name with its value, one whose data is consumed, or an argument handed to a waiting application.
pub data Entry : Type 0 where
  full : Name → Tree → Entry
  empty : Name → Entry
  argument : Tree → Entry

-- the entries of a function's body, the newest first
abbrev pub Environment : Type 0
Environment = List Entry

-- what an application makes of its arguments: data with a constructor, or the call of a function
pub data Target : Type 0 where
  builds : ℕ → Target
  calls : ℕ → Target

-- A waiting expression, by its place and what it has still to do.
pub data Frame : Type 0 where
  -- an if that waits for its test, with both arms
  if_test : ℕ → Expr → Expr → Frame
  -- an if that waits for the arm chosen
  if_arm : ℕ → Frame
  -- a begin, with the parts that follow
  begin_part : ℕ → Exprs → Frame
  -- a let that waits for the value of a name, with the further bindings, the body, and how many names it binds in all
  let_binding : ℕ → Ident → Bindings → Expr → ℕ → Frame
  -- a let or a case that waits for its body or branch, with how many names leave then
  scope_end : ℕ → ℕ → Frame
  -- a case that waits for its tested value
  case_test : ℕ → Branches → Frame
  -- an application that waits for its head's function, with its arguments
  head_value : ℕ → Exprs → Frame
  -- an application that waits for an argument, with what it will do, how many arguments it has, and those that follow
  next_argument : ℕ → Target → ℕ → Exprs → Frame
  -- a call that waits for the function's body, or a val name for its expression, with the entries of the caller
  body_value : ℕ → Environment → Frame
  -- main's call
  main_value : ℕ → Frame

pub data Control : Type 0 where
  -- main is called next
  opened : Control
  -- this expression is entered next
  enter : Expr → Control
  -- this value is finished, and is handed over next
  finished : Tree → Control
  -- the run has ended
  over : Control

-- the input left, and the counts of cells taken and given back
pub record Account : Type 0 where
  pub input : List ℕ
  pub taken : ℕ
  pub given : ℕ

-- what waits (the newest first), the entries, what comes next, and the account
pub data State : Type 0 where
  st : List Frame → Environment → Control → Account → State

abbrev pub takes : ℕ → Account → Account
takes n a = record { input = a.input; taken = a.taken + n; given = a.given }

abbrev pub gives : ℕ → Account → Account
gives n a = record { input = a.input; taken = a.taken; given = a.given + n }

abbrev pub leaves : List ℕ → Account → Account
leaves input a = record { input = input; taken = a.taken; given = a.given }

-- the constructors held: in entries, in those of callers, and in the value just finished
abbrev pub entry_size : Entry → ℕ
entry_size (full x v) = size v
entry_size (empty x) = 0
entry_size (argument v) = size v

abbrev pub environment_size : Environment → ℕ
environment_size [] = 0
environment_size (s ∷ env) = entry_size s + environment_size env

-- the entries that a waiting expression keeps for when it is done
abbrev pub saved : Frame → Environment
saved (if_test p a b) = []
saved (if_arm p) = []
saved (begin_part p es) = []
saved (let_binding p x bs e n) = []
saved (scope_end p n) = []
saved (case_test p bs) = []
saved (head_value p es) = []
saved (next_argument p t n es) = []
saved (body_value p env) = env
saved (main_value p) = []

abbrev pub saved_size : List Frame → ℕ
saved_size [] = 0
saved_size (f ∷ K) = environment_size (saved f) + saved_size K

abbrev pub control_size : Control → ℕ
control_size opened = 0
control_size (enter e) = 0
control_size (finished v) = size v
control_size over = 0

abbrev pub held : State → ℕ
held (st K env c a) = saved_size K + environment_size env + control_size c

-- the entries on the second stack
abbrev pub saved_count : List Frame → ℕ
saved_count [] = 0
saved_count (f ∷ K) = length (saved f) + saved_count K
