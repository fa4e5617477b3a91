-- What a copy does that leaves nothing behind.
use Rattle.std.specs.Prelude.{◌≡◌, Err, Result}
use Rattle.cells.specs.declared.values.Value.{Value}
use Rattle.cells.specs.Meaning.{Cells}
use Rattle.data.specs.declared.refusals.WalkRefusal.{WalkRefusal}
use Rattle.data.specs.Alike.{Respared}
use Rattle.data.specs.Walks.{Copies}

-- a copy, and a refusal takes no cell, whatever its reason
pub record CleanCopies (entry : Cells) (v : Value) (r : Result Value WalkRefusal) (exit : Cells) : Type 0 where
  pub copy : Copies entry v r exit
  pub refused : {e : WalkRefusal} → r ≡ Err e → Respared entry exit
