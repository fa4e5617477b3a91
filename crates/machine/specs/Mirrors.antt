-- A machine and a store mirror a state of the rules.
use Rattle.std.specs.Prelude.{◌≡◌, ℕ, ◌+◌, ◌<◌, ◌≤◌, List, [], ◌∷◌, ◌++◌, map, length, drop, None, Option, Result, Ok, Err, ⊤}
use Rattle.basis.specs.declared.function.Basis.{Basis}
use Rattle.cells.specs.Meaning.{Cells, count_live}
use Rattle.cells.specs.declared.values.Value.{Value}
use Rattle.data.proofs.Outs.{join}
use Rattle.data.specs.Taking.{Out}
use Rattle.data.specs.Trees.{Tree, int, bool, symbol, unit, function, built, Trees}
use Rattle.machine.specs.Holding.{values_in, is_full, trees_in, holds, names, kept, capped}
use Rattle.machine.specs.Ready.{Ready, Quoted}
use Rattle.machine.specs.Waiting.{Waits, Next, value_in_hand, handed}
use Rattle.grammar.specs.Trees.{Expr}
use Rattle.machine.specs.declared.control.Control.TheVariants.{Finished}
use Rattle.machine.specs.declared.frame.Frame.{Frame as Waiting}
use Rattle.machine.specs.declared.machine.Machine.{Machine}
use Rattle.machine.specs.declared.halt.Halt.{Halt}
use Rattle.machine.specs.declared.halt.Halt.TheVariants.{Failed, OutputFull}
use Rattle.program.specs.Programs.{Program}
use Rattle.program.specs.Standing.{StandsAt}
use Rattle.rules.specs.declared.fault.FaultKind.{FaultKind}
use Rattle.rules.specs.States.{Environment, Frame, Control, finished, Account, State, st}
use Rattle.rules.specs.Steps.{Outcome, goes, fails, stuck, Sizes}
use Rattle.stack.specs.Items.{tops, room_of}

-- Of a script P, a run with stacks of the sizes Z, over a store that meant m₀ at opening.
module _ (P : Program) (Z : Sizes) (m₀ : Cells) where
  -- All but what comes next: the expressions that wait, the entries, and the account; beside the data held stand the values vs, for the trees ts.
  pub record Rests (K : List Frame) (env : Environment) (a : Account) (vs : List Value) (ts : Trees) (r : Machine) (m : Cells) : Type 0 where
    pub ready : Ready r.script.now r.text.now P
    pub frames_room : room_of r.frames ≡ Z.frames
    pub slots_room : room_of r.slots ≡ Z.entries
    pub frames : Waits P r.script.now.code (names env) K (tops r.frames)
    pub full : map is_full (tops r.slots) ≡ map holds (env ++ kept K)
    pub data_held : Out m (vs ++ values_in (tops r.slots)) (join ts (trees_in (env ++ kept K))) m₀
    -- the cells free at opening
    pub cells : count_live m₀ + Z.cells ≡ length m₀
    pub input : r.input.now ≡ a.input
    pub taken : r.taken ≡ capped a.taken
    pub given : r.given ≡ capped a.given

  pub data Mirrors : State → Machine → Cells → Type 0 where
    mirrors : {K : List Frame} {env : Environment} {c : Control} {a : Account} {r : Machine} {m : Cells}
        → Rests K env a (value_in_hand r.control) (handed c) r m → Next P r.script.now.code (names env) c r.control → Mirrors (st K env c a) r m

  -- What a step that never prints does to a machine that mirrored s, by what the rules say of the step.
  pub data Moved (s : State) : Outcome → Result ⊤ FaultKind → Machine → Cells → Type 0 where
    -- the step is taken
    moved_on : {s' : State} {r : Machine} {m : Cells} → Mirrors s' r m → Moved s (goes [] s') (Ok tt) r m
    -- a step that faults changes nothing
    moved_not : {kind : FaultKind} {r : Machine} {m : Cells} → Mirrors s r m → Moved s (fails kind None) (Err kind) r m
    -- for what the rules do not allow nothing is said
    moved_any : {t : Result ⊤ FaultKind} {r : Machine} {m : Cells} → Moved s stuck t r m

  -- The same for a step that may print: the slice that is lent for the output holds these bytes before and after. What is printed goes to
  -- its front, whole or not at all, and the rest is as it was.
  pub data Printed (s : State) (old : List ℕ) : Outcome → Result ℕ Halt → Machine → Cells → List ℕ → Type 0 where
    printed_on : {bytes new : List ℕ} {n : ℕ} {s' : State} {r : Machine} {m : Cells} → n ≡ length bytes → length bytes ≤ length old → new ≡ bytes ++ drop (length bytes) old
        → Mirrors s' r m → Printed s old (goes bytes s') (Ok n) r m new
    printed_full : {bytes new : List ℕ} {s' : State} {r : Machine} {m : Cells} → length old < length bytes → new ≡ old → Mirrors s r m → Printed s old (goes bytes s') (Err OutputFull) r m new
    printed_not : {new : List ℕ} {kind : FaultKind} {f : Option Basis} {r : Machine} {m : Cells} → new ≡ old → Mirrors s r m → Printed s old (fails kind f) (Err (Failed kind f)) r m new
    printed_any : {new : List ℕ} {t : Result ℕ Halt} {r : Machine} {m : Cells} → Printed s old stuck t r m new

  -- All but what comes next, below the newest frame and the newest n slots; nothing is in hand.
  pub record Under (n : ℕ) (K : List Frame) (env : Environment) (a : Account) (r : Machine) (m : Cells) : Type 0 where
    pub ready : Ready r.script.now r.text.now P
    pub frames_room : room_of r.frames ≡ Z.frames
    pub slots_room : room_of r.slots ≡ Z.entries
    pub frames : Waits P r.script.now.code (names env) K (drop 1 (tops r.frames))
    pub full : map is_full (drop n (tops r.slots)) ≡ map holds (env ++ kept K)
    pub data_held : Out m (values_in (drop n (tops r.slots))) (trees_in (env ++ kept K)) m₀
    pub cells : count_live m₀ + Z.cells ≡ length m₀
    pub input : r.input.now ≡ a.input
    pub taken : r.taken ≡ capped a.taken
    pub given : r.given ≡ capped a.given

-- A value is handed to the newest frame, which stands for the expression f.
pub record Hands (P : Program) (Z : Sizes) (m₀ : Cells) (f : Frame) (K : List Frame) (env : Environment) (a : Account) (t : Tree) (frame : Waiting) (v : Value) (r : Machine) (m : Cells) : Type 0 where
  pub mirrored : Mirrors P Z m₀ (st (f ∷ K) env (finished t) a) r m
  pub value : r.control ≡ Finished v
  pub others : List Waiting
  pub stacked : tops r.frames ≡ frame ∷ others

-- One more expression waits, f, and its part e is next: the frame stands for f, and e stands at the node. The entries are as they were.
pub record Onto (P : Program) (K : List Frame) (env env' : Environment) (f : Frame) (e : Expr) (frame : Waiting) (node : ℕ) (r : Machine) : Type 0 where
  pub stands : StandsAt P r.script.now.code (names env') e node
  pub waits : (fs : List Waiting) → Waits P r.script.now.code (names env) K fs → Waits P r.script.now.code (names env') (f ∷ K) (frame ∷ fs)
  pub same : env' ++ kept (f ∷ K) ≡ env ++ kept K

-- the counts do not fall. It compares a machine with itself before the call, so no ghost field can say it; and it holds where `Moved` says nothing.
pub record Steady (old new : Machine) : Type 0 where
  pub taken : old.taken ≤ new.taken
  pub given : old.given ≤ new.given

-- how many bytes a step printed
abbrev pub printed_bytes : Result ℕ Halt → ℕ
printed_bytes (Ok n) = n
printed_bytes (Err h) = 0

-- what a step that prints nothing came to, where a step may print
abbrev pub as_printing : Result ⊤ FaultKind → Result ℕ Halt
as_printing (Ok u) = Ok 0
as_printing (Err kind) = Err (Failed kind None)

-- Past the bytes printed a lent slice is as it was, and so it is as a whole where none are.
pub record Spares (t : Result ℕ Halt) (old new : List ℕ) : Type 0 where
  pub within : printed_bytes t ≤ length old
  pub past : drop (printed_bytes t) new ≡ drop (printed_bytes t) old
  pub long : length new ≡ length old

-- what the rules print of a symbol is what the text quotes at its place
abbrev pub Speaks : Program → List ℕ → Tree → Type 0
Speaks P text (int z) = Unit {0}
Speaks P text (bool b) = Unit {0}
Speaks P text (symbol n) = Quoted text P n
Speaks P text unit = Unit {0}
Speaks P text (function n) = Unit {0}
Speaks P text (built c vs) = Unit {0}
