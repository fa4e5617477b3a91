-- What a stack means to those who use it.
use Rattle.std.specs.Prelude.{ℕ, List, reverse, length, take}
use Rattle.std.specs.Borrow.{GName}
use Rattle.stack.specs.declared.Stack.{Stack}

-- what the whole lent slice holds, used or not
abbrev pub slice_of : {T : Type 0} → Stack T → List T
slice_of s = s.lent.now

-- what is stacked, the bottom first
abbrev pub items : {T : Type 0} → Stack T → List T
items s = take s.len (slice_of s)

-- what is stacked, the top first
abbrev pub tops : {T : Type 0} → Stack T → List T
tops s = reverse (items s)

-- how many entries there is place for in all
abbrev pub room_of : {T : Type 0} → Stack T → ℕ
room_of s = length (slice_of s)

-- which loan the stack writes to: while this stays, what the stack's slice holds is what the lender gets back
abbrev pub loan_of : {T : Type 0} → Stack T → GName
loan_of s = s.lent.ghost_name
