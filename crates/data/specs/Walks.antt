-- What the walks over a value do.
use Rattle.std.specs.Prelude.{◌≡◌, ℕ, ◌+◌, ◌<◌, ◌≤◌, [], ◌∷◌, length, Some, Ok, Err, Result}
use Rattle.cells.specs.declared.values.Value.{Value}
use Rattle.cells.specs.declared.records.CellRecord.{CellRecord}
use Rattle.cells.specs.Meaning.{Cells, at, count_live}
use Rattle.data.specs.declared.refusals.WalkRefusal.{WalkRefusal}
use Rattle.data.specs.declared.refusals.WalkRefusal.TheVariants.{NoFreeCell}
use Rattle.data.specs.Trees.{Tree, none, more, size}
use Rattle.data.specs.Standing.{Keeps}
use Rattle.data.specs.Alike.{Respared, Kept}
use Rattle.data.specs.Reaching.{Reached, Untouched}
use Rattle.data.specs.Refusals.{OnlyStuck}

-- size: on any store only spare numbers change, of cells that can be reached from the value. Where the value stands for
-- a tree, the answer is the tree's size, and the value stands for it as before; all else is as it was, spare numbers
-- included.
pub record Sizes (entry : Cells) (v : Value) (r : Result ℕ WalkRefusal) (exit : Cells) : Type 0 where
  pub long : length exit ≡ length entry
  pub live : count_live exit ≡ count_live entry
  pub same : Respared entry exit
  pub stuck : OnlyStuck r
  pub far : Untouched entry v exit
  pub counts : (t : Tree) (m₀ : Cells) → Keeps m₀ entry (v ∷ []) (more t none) → (r ≡ Ok (size t)) × Keeps m₀ exit (v ∷ []) (more t none)

-- drop: on any store no cell changes that cannot be reached from the value, and what is live afterwards is as it was but
-- for its spare number. Where the value stands for a tree, its cells are free, as many as the answer says, and all else is
-- as it was.
pub record Drops (entry : Cells) (v : Value) (r : Result ℕ WalkRefusal) (exit : Cells) : Type 0 where
  pub long : length exit ≡ length entry
  pub stuck : OnlyStuck r
  pub far : Untouched entry v exit
  pub left : Kept exit entry
  pub frees : (t : Tree) (m₀ : Cells) → Keeps m₀ entry (v ∷ []) (more t none) → (r ≡ Ok (size t)) × (exit ≡ m₀)

-- copy, where the value stands for the tree t and m₀ is the rest of the store: enough cells were free, and the store
-- keeps the copy and the old value beside all else
pub record Copied (entry : Cells) (v : Value) (t : Tree) (m₀ : Cells) (w : Value) (exit : Cells) : Type 0 where
  pub room : count_live entry + size t ≤ length entry
  pub both : Keeps m₀ exit (w ∷ v ∷ []) (more t (more t none))

-- copy refused: too few cells were free, none was taken, and the value stands as before
pub record NoRoom (entry : Cells) (v : Value) (t : Tree) (m₀ : Cells) (e : WalkRefusal) (exit : Cells) : Type 0 where
  pub number : e ≡ NoFreeCell
  pub short : length entry < count_live entry + size t
  pub still : Keeps m₀ exit (v ∷ []) (more t none)
  pub same : Respared entry exit

abbrev pub CopySays : Cells → Value → Tree → Cells → Result Value WalkRefusal → Cells → Type 0
CopySays entry v t m₀ (Ok w) exit = Copied entry v t m₀ w exit
CopySays entry v t m₀ (Err e) exit = NoRoom entry v t m₀ e exit

-- on any store every record that was live is as it was but for its spare number, which changes only where the value can
-- reach it, and a refusal for want of room takes no cell
pub record Copies (entry : Cells) (v : Value) (r : Result Value WalkRefusal) (exit : Cells) : Type 0 where
  pub long : length exit ≡ length entry
  pub refused : r ≡ Err NoFreeCell → Respared entry exit
  pub kept : Kept entry exit
  pub far : (i : ℕ) (q : CellRecord) → at entry i ≡ Some q → (Reached entry v i → ⊥) → at exit i ≡ Some q
  pub copies : (t : Tree) (m₀ : Cells) → Keeps m₀ entry (v ∷ []) (more t none) → CopySays entry v t m₀ r exit
