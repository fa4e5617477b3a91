-- The slots of the chain store: what each means, and how the free ones are linked.
use Rattle.std.specs.Prelude.{ℕ, zero, suc, Bool, true, false, ◌&&◌, List, length, Some, None, Option, ◌==◌, nat_lt, slice_index_or}
use Rattle.cells.specs.declared.records.CellRecord.{CellRecord}
use Rattle.chain.specs.declared.slots.ChainSlot.{ChainSlot}
use Rattle.chain.specs.declared.slots.ChainSlot.TheVariants.{Free, Live}

-- the cell that a slot means
abbrev pub chain_cell : ChainSlot → Option CellRecord
chain_cell (Free n) = None
chain_cell (Live r) = Some r

-- whether a slot is free
abbrev pub is_free : ChainSlot → Bool
is_free (Free n) = true
is_free (Live r) = false

-- the number that a free slot is linked to; a live one is linked to nothing, and 0 stands in
abbrev pub next : ChainSlot → ℕ
next (Free n) = n
next (Live r) = 0

-- the slot at a number; past the end a free one stands in
abbrev pub slot_at : List ChainSlot → ℕ → ChainSlot
slot_at s i = slice_index_or s i (Free 0)

-- from h, n links lead through free slots to the end, which is the number of slots
abbrev pub chained : ℕ → List ChainSlot → ℕ → Bool
chained zero s h = h == length s
chained (suc n) s h = nat_lt h (length s) && (is_free (slot_at s h) && chained n s (next (slot_at s h)))
