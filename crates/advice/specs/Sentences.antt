-- The advice for each refusal and each fault. The words are the constants of the code; where something ran out, the number of what there
-- was stands among them.
use Rattle.std.specs.Prelude.{ℕ, Bool, false, ◌&&◌, List, [], ◌∷◌, ◌++◌, decimal, ◌==◌, nat_le}
use Rattle.cells.specs.declared.refusals.StoreRefusal.{StoreRefusal}
use Rattle.cells.specs.declared.refusals.StoreRefusal.TheVariants.{DeadCell, NoFreeCell}
use Rattle.script_refusals.specs.declared.refusal.Refusal.{Refusal}
use Rattle.script_refusals.specs.declared.refusal.Refusal.TheVariants.{Symbol, Integer, Bracket, Form, Limit, Repeated, Unknown, Unpaired, Mismatch, Consumed, NoMain, NodeList, Changed}
use Rattle.rules.specs.declared.fault.FaultKind.{FaultKind}
use Rattle.rules.specs.declared.fault.FaultKind.TheVariants.{NoBranch, ZeroDivisor, BadShift, TooFewCells, StackFull, Stuck, AllowanceSpent}
use Rattle.advice.specs.declared.faults.TheConstants.{NO_BRANCH, ZERO_DIVISOR, BAD_SHIFT, STUCK, CELLS, HOLD_LESS, STACKS, WAITING, NEST_LESS, STEPS, COME_TO_AN_END}
use Rattle.advice.specs.declared.refusals.TheConstants.{SYMBOL, INTEGER, BRACKET, FORM, LIMIT, REPEATED, UNKNOWN, UNPAIRED, MISMATCH, CONSUMED, NO_MAIN, NODE_LIST, CHANGED, DEAD_CELL, NO_FREE_CELL}
use Rattle.advice.specs.declared.lent.Lent.{Lent}

-- printable ASCII on one line, with a full stop at its end
abbrev pub is_sentence : List ℕ → Bool
is_sentence [] = false
is_sentence (b ∷ []) = b == 46
is_sentence (b ∷ (a ∷ s)) = nat_le 32 b && (nat_le b 126 && is_sentence (a ∷ s))

abbrev pub refusal_sentence : Refusal → List ℕ
refusal_sentence Symbol = SYMBOL.now
refusal_sentence Integer = INTEGER.now
refusal_sentence Bracket = BRACKET.now
refusal_sentence Form = FORM.now
refusal_sentence Limit = LIMIT.now
refusal_sentence Repeated = REPEATED.now
refusal_sentence Unknown = UNKNOWN.now
refusal_sentence Unpaired = UNPAIRED.now
refusal_sentence Mismatch = MISMATCH.now
refusal_sentence Consumed = CONSUMED.now
refusal_sentence NoMain = NO_MAIN.now
refusal_sentence NodeList = NODE_LIST.now
refusal_sentence Changed = CHANGED.now

abbrev pub store_sentence : StoreRefusal → List ℕ
store_sentence DeadCell = DEAD_CELL.now
store_sentence NoFreeCell = NO_FREE_CELL.now

abbrev pub cells_sentence : ℕ → List ℕ
cells_sentence cells = CELLS.now ++ (decimal cells ++ HOLD_LESS.now)

abbrev pub entries_sentence : ℕ → ℕ → List ℕ
entries_sentence first second = STACKS.now ++ (decimal first ++ (WAITING.now ++ (decimal second ++ NEST_LESS.now)))

abbrev pub steps_sentence : ℕ → List ℕ
steps_sentence steps = STEPS.now ++ (decimal steps ++ COME_TO_AN_END.now)

abbrev pub fault_sentence : FaultKind → Lent → List ℕ
fault_sentence NoBranch lent = NO_BRANCH.now
fault_sentence ZeroDivisor lent = ZERO_DIVISOR.now
fault_sentence BadShift lent = BAD_SHIFT.now
fault_sentence TooFewCells lent = cells_sentence lent.cells
fault_sentence StackFull lent = entries_sentence lent.first lent.second
fault_sentence Stuck lent = STUCK.now
fault_sentence AllowanceSpent lent = steps_sentence lent.allowance
