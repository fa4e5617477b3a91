-- The kinds of values, by number.
use Rattle.std.specs.Prelude.{ℕ, cond, Some, None, Option, ◌==◌}
use Rattle.cells.specs.declared.kinds.Kind.{Kind}
use Rattle.cells.specs.declared.kinds.Kind.TheVariants.{Int, Bool as Truth, Sym, Unit as Nothing, Function, Cell}

-- the number of a kind
abbrev pub kind_number : Kind → ℕ
kind_number Int = 0
kind_number Truth = 1
kind_number Sym = 2
kind_number Nothing = 3
kind_number Function = 4
kind_number Cell = 5

-- the kind with a number, if there is one
abbrev pub kind_at : ℕ → Option Kind
kind_at n =
    cond (n == 0) (Some Int)
    (cond (n == 1) (Some Truth)
    (cond (n == 2) (Some Sym)
    (cond (n == 3) (Some Nothing)
    (cond (n == 4) (Some Function)
    (cond (n == 5) (Some Cell) None)))))
