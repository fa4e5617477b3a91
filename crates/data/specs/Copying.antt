-- A copy under way. New cells wait, linked through their spare numbers, until their fields are copied, too; those that are
-- finished are linked in the same way.
use Rattle.std.specs.Prelude.{◌≡◌, ℕ, ◌+◌, ◌<◌, ◌≤◌, true, false, ◌⊎◌, List, [], ◌∷◌, ◌++◌, length, Some, None, Ok, Err, Result, slice_set}
use Rattle.cells.specs.declared.values.Value.{Value}
use Rattle.cells.specs.declared.values.Value.TheVariants.{Cell}
use Rattle.cells.specs.declared.records.CellRecord.{CellRecord}
use Rattle.cells.specs.Values.{is_cell}
use Rattle.cells.specs.Records.{row}
use Rattle.cells.specs.Meaning.{Cells, at, is_live, count_live, TakenAt}
use Rattle.data.specs.declared.refusals.WalkRefusal.{WalkRefusal}
use Rattle.data.specs.declared.refusals.WalkRefusal.TheVariants.{NoFreeCell, Stuck}
use Rattle.data.specs.declared.unfinished.Unfinished.{Unfinished}
use Rattle.data.specs.Trees.{Tree, Trees, none, more, size, sizes}
use Rattle.data.specs.Standing.{less, Keeps}
use Rattle.data.specs.Taking.{Out}
use Rattle.data.specs.Alike.{Alike, Respared}
use Rattle.data.specs.Reaching.{Untouched}
use Rattle.data.specs.Refusals.{Okay}
use Rattle.data.specs.Steps.{Links}

-- what is live in the first store is the same in the second
abbrev pub Within : Cells → Cells → Type 0
Within a b = (i : ℕ) (r : CellRecord) → at a i ≡ Some r → at b i ≡ Some r

-- the record of the cell n copied, with another spare number, into the cell m, which was free
pub record CellCopied (entry : Cells) (n head m : ℕ) (exit : Cells) : Type 0 where
  pub from : CellRecord
  pub new : CellRecord
  pub source : at entry n ≡ Some from
  pub alike : Alike from new
  pub link : new.spare ≡ head
  pub took : TakenAt entry new m exit

-- the cell n is dead, or every cell is live
abbrev pub NoCopy : Cells → ℕ → Type 0
NoCopy cs n = (at cs n ≡ None) ⊎ ((k : ℕ) → k < length cs → is_live cs k ≡ true)

abbrev pub CopiesCell : Cells → ℕ → ℕ → Result ℕ WalkRefusal → Cells → Type 0
CopiesCell entry n head (Ok m) exit = CellCopied entry n head m exit
CopiesCell entry n head (Err e) exit = (e ≡ Stuck) × (exit ≡ entry) × NoCopy entry n

-- the values vs copied as far as their cells, the last of them first: ws are the copies, and the new cells ms wait before
-- those that waited
pub data RowCopied (entry : Cells) (head : ℕ) : List Value → List Value → List ℕ → ℕ → Cells → Type 0 where
  row_none : RowCopied entry head [] [] [] head entry
  row_plain : {v : Value} {vs ws : List Value} {ms : List ℕ} {top : ℕ} {exit : Cells} → is_cell v ≡ false → RowCopied entry head vs ws ms top exit → RowCopied entry head (v ∷ vs) (v ∷ ws) ms top exit
  row_data : {n m top : ℕ} {vs ws : List Value} {ms : List ℕ} {mid exit : Cells} → RowCopied entry head vs ws ms top mid → CellCopied mid n top m exit → RowCopied entry head (Cell n ∷ vs) (Cell m ∷ ws) (m ∷ ms) m exit

-- what becomes of the fields of a record: all are copied, or, as an error, only those after one that cannot be
pub data FieldsCopied (entry : Cells) (old : CellRecord) (head : ℕ) (new : CellRecord) (exit : Cells) : Result ℕ ℕ → Type 0 where
  copied_whole : {ms : List ℕ} {top : ℕ} → new.constructor ≡ old.constructor → RowCopied entry head (row old) (row new) ms top exit → FieldsCopied entry old head new exit (Ok top)
  copied_part : {top : ℕ} {ws : List Value} {ms : List ℕ} (before : List Value) (n : ℕ) (vs : List Value) → row old ≡ before ++ Cell n ∷ vs → RowCopied entry head vs ws ms top exit → NoCopy exit n → FieldsCopied entry old head new exit (Err top)

-- the cell n, which waited first, is finished, with its fields copied as far as the turn says
pub record Turned (entry : Cells) (n finished : ℕ) (turn : Result ℕ ℕ) (exit : Cells) : Type 0 where
  pub old : CellRecord
  pub new : CellRecord
  pub put : CellRecord
  pub mid : Cells
  pub is : at entry n ≡ Some old
  pub fields : FieldsCopied entry old old.spare new mid turn
  pub alike : Alike new put
  pub link : put.spare ≡ finished
  pub after : exit ≡ slice_set mid n (Some put)

-- the new cells of a copy that cannot go on are those in its two lists: less them the store is as it was
pub record LeftBy (u : Unfinished) (entry exit : Cells) : Type 0 where
  pub ns : List ℕ
  pub ds : List ℕ
  pub waiting : Links exit u.waiting ns
  pub finished : Links (less ns exit) u.finished ds
  pub rest : less ds (less ns exit) ≡ entry

-- where the value stands for trees and enough cells are free: the answer stands for the same trees, in cells that were free,
-- and no other cell is changed. On any store what was live is as it was, and what a copy that cannot go on leaves is known.
pub record CopiesCells (entry : Cells) (v : Value) (r : Result Value Unfinished) (exit : Cells) : Type 0 where
  pub long : length exit ≡ length entry
  pub keeps : Within entry exit
  pub left : {u : Unfinished} → r ≡ Err u → LeftBy u entry exit
  pub copies : (ts : Trees) (m₀ : Cells) → Out entry (v ∷ []) ts m₀ → count_live entry + sizes ts ≤ length entry → Okay r (λ w. Out exit (w ∷ []) ts entry)

-- whether a copy of the tree t has room
abbrev pub RoomSays : {U : Type 0} → Cells → Tree → Result U WalkRefusal → Type 0
RoomSays entry t (Ok u) = count_live entry + size t ≤ length entry
RoomSays entry t (Err e) = (e ≡ NoFreeCell) × (length entry < count_live entry + size t)

-- whether enough cells are free; only spare numbers change
pub record Rooms {U : Type 0} (entry : Cells) (v : Value) (r : Result U WalkRefusal) (exit : Cells) : Type 0 where
  pub long : length exit ≡ length entry
  pub live : count_live exit ≡ count_live entry
  pub same : Respared entry exit
  pub far : Untouched entry v exit
  pub tells : (t : Tree) (m₀ : Cells) → Keeps m₀ entry (v ∷ []) (more t none) → RoomSays entry t r × Keeps m₀ exit (v ∷ []) (more t none)
