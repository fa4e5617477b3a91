-- What the work list's functions do, step by step.
use Rattle.std.specs.Prelude.{◌≡◌, ℕ, ◌<◌, true, false, List, [], ◌∷◌, ◌++◌, Some, None, Ok, Err, Result, slice_set}
use Rattle.cells.specs.declared.values.Value.{Value}
use Rattle.cells.specs.declared.values.Value.TheVariants.{Unit as Nothing, Cell}
use Rattle.cells.specs.declared.records.CellRecord.{CellRecord}
use Rattle.cells.specs.Values.{is_cell}
use Rattle.cells.specs.Meaning.{Cells, at}
use Rattle.data.specs.declared.refusals.WalkRefusal.{WalkRefusal}
use Rattle.data.specs.declared.refusals.WalkRefusal.TheVariants.{Stuck}
use Rattle.data.specs.declared.todo.Todo.{Todo}
use Rattle.data.specs.Alike.{Alike}

-- from the head the spare numbers link these cells, and the last of them leads to the number of no cell
pub data Links (cs : Cells) : ℕ → List ℕ → Type 0 where
  links_end : {head : ℕ} → head ≡ 65535 → Links cs head []
  links_on : {head : ℕ} {ns : List ℕ} (r : CellRecord) → head < 65535 → at cs head ≡ Some r → Links cs r.spare ns → Links cs head (head ∷ ns)

-- the cell that comes next: the value's, or else the first of the work list
abbrev pub next_of : Value → ℕ → ℕ
next_of (Cell n) rest = n
next_of v rest = rest

-- the work list behind it, where its spare number is this one
abbrev pub rest_of : Value → ℕ → ℕ → ℕ
rest_of (Cell n) rest spare = rest
rest_of v rest spare = spare

-- a value put on the work list: a link is written for data, and nothing for a plain value
pub data ValuePushed (entry : Cells) (v : Value) (head top : ℕ) (exit : Cells) : Type 0 where
  push_nothing : is_cell v ≡ false → top ≡ head → exit ≡ entry → ValuePushed entry v head top exit
  push_data : (r q : CellRecord) → v ≡ Cell top → top < 65535 → at entry top ≡ Some r → Alike r q → q.spare ≡ head → exit ≡ slice_set entry top (Some q) → ValuePushed entry v head top exit

-- the value is data whose cell is not live
pub record Astray (cs : Cells) (v : Value) : Type 0 where
  pub number : ℕ
  pub is : v ≡ Cell number
  pub dead : at cs number ≡ None

abbrev pub PushSteps : Cells → Value → ℕ → Result ℕ WalkRefusal → Cells → Type 0
PushSteps entry v head (Ok top) exit = ValuePushed entry v head top exit
PushSteps entry v head (Err e) exit = (e ≡ Stuck) × (exit ≡ entry) × Astray entry v

-- a field put ahead: data is then at hand, and the value that was at hand is pushed
pub data FieldAdded (entry : Cells) (field v : Value) (head : ℕ) (w : Value) (top : ℕ) (exit : Cells) : Type 0 where
  add_nothing : is_cell field ≡ false → w ≡ v → top ≡ head → exit ≡ entry → FieldAdded entry field v head w top exit
  add_data : is_cell field ≡ true → w ≡ field → ValuePushed entry v head top exit → FieldAdded entry field v head w top exit

abbrev pub AddSteps : Cells → Value → Value → ℕ → Result Todo WalkRefusal → Cells → Type 0
AddSteps entry field v head (Ok todo) exit = FieldAdded entry field v head todo.value todo.rest exit
AddSteps entry field v head (Err e) exit = (e ≡ Stuck) × (exit ≡ entry) × Astray entry v

-- the fields put ahead, the last of them first
pub data RowAdded (entry : Cells) (v : Value) (head : ℕ) : List Value → Value → ℕ → Cells → Type 0 where
  added_none : RowAdded entry v head [] v head entry
  added_more : {f w x : Value} {fs : List Value} {top up : ℕ} {mid exit : Cells} → RowAdded entry v head fs w top mid → FieldAdded mid f w top x up exit → RowAdded entry v head (f ∷ fs) x up exit

-- only the last fields put ahead: then the value at hand was astray
pub record Halted (entry : Cells) (v : Value) (head : ℕ) (fields : List Value) (exit : Cells) : Type 0 where
  pub before : List Value
  pub after : List Value
  pub w : Value
  pub top : ℕ
  pub whole : fields ≡ before ++ after
  pub added : RowAdded entry v head after w top exit
  pub astray : Astray exit w

abbrev pub RowSteps : Cells → List Value → ℕ → Result Todo WalkRefusal → Cells → Type 0
RowSteps entry fields head (Ok todo) exit = RowAdded entry Nothing head fields todo.value todo.rest exit
RowSteps entry fields head (Err e) exit = (e ≡ Stuck) × Halted entry Nothing head fields exit
