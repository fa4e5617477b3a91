-- What slots hold, and what the entries of the rules hold: slots stand for entries one by one.
use Rattle.std.specs.Prelude.{ℕ, Bool, true, false, List, [], ◌∷◌, ◌++◌, map, min, Some, None, Option}
use Rattle.cells.specs.declared.values.Value.{Value}
use Rattle.cells.specs.declared.values.Value.TheVariants.{Int, Bool as Truth, Sym, Unit as Nothing, Function, Cell}
use Rattle.data.specs.Trees.{Tree, Trees, unit, none, more}
use Rattle.program.specs.Scopes.{Scope}
use Rattle.rules.specs.States.{Entry, full, empty, argument, Environment, Frame, saved}

-- an entry of the second stack: a value, or none where a name's data is consumed
abbrev pub Slot : Type 0
Slot = Option Value

-- the value in a slot; unit in an empty one
abbrev pub value_in : Slot → Value
value_in (Some v) = v
value_in None = Nothing

abbrev pub is_full : Slot → Bool
is_full (Some v) = true
is_full None = false

-- what a slot holds after its value was read: data is consumed
abbrev pub slot_left : Value → Slot
slot_left (Int i) = Some (Int i)
slot_left (Truth b) = Some (Truth b)
slot_left (Sym n) = Some (Sym n)
slot_left Nothing = Some Nothing
slot_left (Function n) = Some (Function n)
slot_left (Cell n) = None

-- the value of a full slot
abbrev pub full_value : Option Slot → Option Value
full_value None = None
full_value (Some (Some v)) = Some v
full_value (Some None) = None

abbrev pub values_in : List Slot → List Value
values_in ss = map value_in ss

-- the value in an entry; unit in one whose data is consumed
abbrev pub tree_in : Entry → Tree
tree_in (full x v) = v
tree_in (empty x) = unit
tree_in (argument v) = v

abbrev pub holds : Entry → Bool
holds (full x v) = true
holds (empty x) = false
holds (argument v) = true

abbrev pub trees_in : Environment → Trees
trees_in [] = none
trees_in (s ∷ env) = more (tree_in s) (trees_in env)

-- the entries by their names alone
abbrev pub names : Environment → Scope
names [] = []
names (full x v ∷ env) = Some x ∷ names env
names (empty x ∷ env) = Some x ∷ names env
names (argument v ∷ env) = None ∷ names env

-- the entries of all callers
abbrev pub kept : List Frame → Environment
kept [] = []
kept (f ∷ K) = saved f ++ kept K

-- a count, as far as it goes
abbrev pub capped : ℕ → ℕ
capped n = min n 18446744073709551615
