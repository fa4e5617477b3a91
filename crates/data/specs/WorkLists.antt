-- The work list of a walk, threaded through the spare numbers of the cells.
use Rattle.std.specs.Prelude.{◌≡◌, ℕ, ◌+◌, ◌<◌, Bool, false, not, ◌||◌, ◌⊎◌, List, [], ◌∷◌, length, Some, None, Ok, Err, Result, ◌==◌, slice_set}
use Rattle.cells.specs.declared.values.Value.{Value}
use Rattle.cells.specs.declared.values.Value.TheVariants.{Unit as Nothing, Cell}
use Rattle.cells.specs.declared.records.CellRecord.{CellRecord}
use Rattle.cells.specs.Values.{is_cell}
use Rattle.cells.specs.Records.{row}
use Rattle.cells.specs.Meaning.{Cells, at, count_live}
use Rattle.data.specs.declared.refusals.WalkRefusal.{WalkRefusal}
use Rattle.data.specs.declared.refusals.WalkRefusal.TheVariants.{Stuck}
use Rattle.data.specs.declared.todo.Todo.{Todo}
use Rattle.data.specs.declared.visit.Visit.{Visit}
use Rattle.data.specs.Trees.{Trees, sizes}
use Rattle.data.specs.Standing.{less, Among}
use Rattle.data.specs.Reaching.{HasCell, Reached, Untouched}
use Rattle.data.specs.Taking.{Out}
use Rattle.data.specs.Alike.{Respared}
use Rattle.data.specs.Refusals.{OnlyStuck, Okay}

-- a cell's record, looked up by a 32-bit number
abbrev pub Looks : Cells → ℕ → Result CellRecord WalkRefusal → Type 0
Looks cs n (Ok r) = (at cs n ≡ Some r) × (n < 65535)
Looks cs n (Err e) = (e ≡ Stuck) × (at cs n ≡ None)

-- from the head the spare numbers link the roots of trees that take k cells in all; the last store is the first less their cells
pub data Work : Cells → ℕ → ℕ → Cells → Type 0 where
  work_end : {cs : Cells} {head k : ℕ} → head ≡ 65535 → k ≡ 0 → Work cs head k cs
  work_on : {cs mid after : Cells} {head k left : ℕ} {fields : Trees} (r : CellRecord) → head < 65535 → at cs head ≡ Some r
      → Out (slice_set cs head None) (row r) fields mid → Work mid r.spare left after → k ≡ 1 + sizes fields + left → Work cs head k after

-- what is ahead of a walk: the value at hand, then the work list from head, k cells in all
pub record Ahead (cs : Cells) (v : Value) (head k : ℕ) (after : Cells) : Type 0 where
  pub trees : Trees
  pub mid : Cells
  pub left : ℕ
  pub first : Out cs (v ∷ []) trees mid
  pub work : Work mid head left after
  pub counts : k ≡ sizes trees + left

-- whether anything is ahead
abbrev pub open_value : Todo → Bool
open_value todo = is_cell todo.value || not (todo.rest == 65535)

-- the cell that comes next: the value's, or else the first of the work list
pub data Found (cs : Cells) (todo : Todo) (visit : Visit) : Type 0 where
  by_value : todo.value ≡ Cell visit.cell → at cs visit.cell ≡ Some visit.contents → visit.rest ≡ todo.rest → Found cs todo visit
  by_list : is_cell todo.value ≡ false → todo.rest ≡ visit.cell → at cs visit.cell ≡ Some visit.contents → visit.rest ≡ visit.contents.spare → Found cs todo visit

-- there is no such cell
pub data Lost (cs : Cells) (todo : Todo) : Type 0 where
  value_lost : (n : ℕ) → todo.value ≡ Cell n → at cs n ≡ None → Lost cs todo
  list_lost : is_cell todo.value ≡ false → at cs todo.rest ≡ None → Lost cs todo

abbrev pub Visits : Cells → Todo → Result Visit WalkRefusal → Type 0
Visits cs todo (Ok visit) = Found cs todo visit
Visits cs todo (Err e) = (e ≡ Stuck) × Lost cs todo

-- On any store, where the value may stand for no tree:

-- a number that ends the list, or is on it
abbrev pub On : List ℕ → ℕ → Type 0
On list head = (head ≡ 65535) ⊎ Among head list

-- a walk that began in the store m at root, with the value v at hand and the work list from head: it can reach what is
-- ahead, it has linked the cells of list, and it has changed no cell that it cannot reach, and no fields
pub record Roams (m : Cells) (root : Value) (cs : Cells) (v : Value) (head : ℕ) : Type 0 where
  pub far : (i : ℕ) → (Reached m root i → ⊥) → at cs i ≡ at m i
  pub kin : (i : ℕ) (r : CellRecord) → at cs i ≡ Some r → (q : CellRecord) × (at m i ≡ Some q) × (row r ≡ row q)
  pub list : List ℕ
  pub listed : (i : ℕ) → Among i list → Reached m root i
  pub links : (i : ℕ) (r : CellRecord) → Among i list → at cs i ≡ Some r → On list r.spare
  pub start : On list head
  pub hand : (n : ℕ) → v ≡ Cell n → Reached m root n

-- each of the values can be reached
pub record CanReach (m : Cells) (root : Value) (vs : List Value) : Type 0 where
  pub each : (n : ℕ) → HasCell n vs → Reached m root n

-- what is held beside the cells that a walk has left behind stays what it is
abbrev pub Stands : Cells → Cells → Cells → Type 0
Stands entry exit after = (ws : List Value) (ts : Trees) → Out entry ws ts after → Out exit ws ts after

-- the values vs, which are not yet on the work list, and the work list from head; done are the cells that the walk has left behind
pub record Pushed (done : List ℕ) (entry exit : Cells) (vs : List Value) (ts : Trees) (head k : ℕ) (after : Cells) : Type 0 where
  pub mid : Cells
  pub rest : Out (less done exit) vs ts mid
  pub work : Work mid head k after
  pub stands : Stands entry exit after

-- what a push of a value does: only a spare number changes, and data is put on the work list
pub record Pushes (entry : Cells) (v : Value) (head : ℕ) (r : Result ℕ WalkRefusal) (exit : Cells) : Type 0 where
  pub long : length exit ≡ length entry
  pub live : count_live exit ≡ count_live entry
  pub same : Respared entry exit
  pub stuck : OnlyStuck r
  pub far : (m : Cells) (root : Value) → Roams m root entry v head → Untouched m root exit
  pub roams : (m : Cells) (root : Value) (h : ℕ) → r ≡ Ok h → Roams m root entry v head → Roams m root exit v h
  pub puts : (done : List ℕ) (vs : List Value) (ts us : Trees) (m mid after : Cells) (k : ℕ) → Out (less done entry) vs ts m → Out m (v ∷ []) us mid → Work mid head k after
      → Okay r (λ h. Pushed done entry exit vs ts h (sizes us + k) after)

-- the values vs, which are not yet ahead, and what is ahead
pub record Added (done : List ℕ) (entry exit : Cells) (vs : List Value) (ts : Trees) (v : Value) (head k : ℕ) (after : Cells) : Type 0 where
  pub mid : Cells
  pub rest : Out (less done exit) vs ts mid
  pub ahead : Ahead mid v head k after
  pub stands : Stands entry exit after

-- what it does to put one more value ahead
pub record Adds (entry : Cells) (field : Value) (todo : Todo) (r : Result Todo WalkRefusal) (exit : Cells) : Type 0 where
  pub long : length exit ≡ length entry
  pub live : count_live exit ≡ count_live entry
  pub same : Respared entry exit
  pub stuck : OnlyStuck r
  pub far : (m : Cells) (root : Value) → Roams m root entry todo.value todo.rest → Untouched m root exit
  pub roams : (m : Cells) (root : Value) (new : Todo) → r ≡ Ok new → Roams m root entry todo.value todo.rest → CanReach m root (field ∷ []) → Roams m root exit new.value new.rest
  pub puts : (done : List ℕ) (vs : List Value) (ts us : Trees) (m mid after : Cells) (k : ℕ) → Out (less done entry) vs ts m → Out m (field ∷ []) us mid → Ahead mid todo.value todo.rest k after
      → Okay r (λ new. Added done entry exit vs ts new.value new.rest (sizes us + k) after)

-- all of the row is ahead
pub record Listed (done : List ℕ) (entry exit : Cells) (todo : Todo) (k : ℕ) (after : Cells) : Type 0 where
  pub ahead : Ahead (less done exit) todo.value todo.rest k after
  pub stands : Stands entry exit after

-- what it does to put a row of values ahead of the work list from head
pub record AddsAll (entry : Cells) (vs : List Value) (head : ℕ) (r : Result Todo WalkRefusal) (exit : Cells) : Type 0 where
  pub long : length exit ≡ length entry
  pub live : count_live exit ≡ count_live entry
  pub same : Respared entry exit
  pub stuck : OnlyStuck r
  pub far : (m : Cells) (root : Value) → Roams m root entry Nothing head → CanReach m root vs → Untouched m root exit
  pub roams : (m : Cells) (root : Value) (new : Todo) → r ≡ Ok new → Roams m root entry Nothing head → CanReach m root vs → Roams m root exit new.value new.rest
  pub puts : (done : List ℕ) (ts : Trees) (mid after : Cells) (k : ℕ) → Out (less done entry) vs ts mid → Work mid head k after
      → Okay r (λ todo. Listed done entry exit todo (sizes ts + k) after)
