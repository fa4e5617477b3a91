-- Where a file is malformed, it is so within what is left of it.
use Rattle.std.specs.Prelude.{ℕ, ◌≤◌, ⊤, List, length}
use Rattle.cases.specs.declared.unread.Unread.{Unread}
use Rattle.cases.specs.declared.unread.Unread.TheVariants.{Malformed, OutOfMemory}

abbrev pub IsWithin : Unread → List ℕ → Type 0
IsWithin (Malformed e) left = e.left ≤ length left
IsWithin (OutOfMemory e) left = ⊤
