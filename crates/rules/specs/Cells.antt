-- The cells that a step needs, and those that are free: one for a constructor that is applied, as many as the value has constructors
-- for a dup, and none for any other step.
use Rattle.std.specs.Prelude.{ℕ, ◌+◌, ◌-◌, ◌∷◌}
use Rattle.data.specs.Trees.{Tree, none, cost, size}
use Rattle.grammar.specs.Trees as tree
use Rattle.grammar.specs.Trees.{Expr, Exprs, no_exprs, and_expr}
use Rattle.program.specs.Programs as means
use Rattle.program.specs.Programs.{Program, Global, global_of}
use Rattle.rules.specs.States.{Environment, argument, Target, builds, Frame, next_argument, enter, finished, State, st, held}
use Rattle.rules.specs.Steps.{Sizes, Looked, got, absent, look, Taken, took, take_arguments}

-- a dup copies the whole value
abbrev pub for_copy : Looked → ℕ
for_copy (got v env) = size v
for_copy _ = 0

-- a constructor's name at the head, without arguments
abbrev pub for_head : Looked → Global → Exprs → ℕ
for_head absent (means.constructor c) no_exprs = cost none
for_head _ _ _ = 0

-- a constructor applied to these arguments
abbrev pub for_fields : Taken → ℕ
for_fields (took vs env) = cost vs
for_fields _ = 0

-- the last argument is handed over
abbrev pub for_last : Target → ℕ → Exprs → Environment → ℕ
for_last (builds c) k no_exprs env = for_fields (take_arguments k env)
for_last _ k es env = 0

module _ (P : Program) where
  abbrev pub for_call : Expr → Exprs → Environment → ℕ
  for_call (tree.name q w) es env = for_head (look w env) (global_of P w) es
  for_call _ es env = 0

  abbrev pub for_entering : Expr → Environment → ℕ
  for_entering (tree.dup_expr p x) env = for_copy (look x.bytes env)
  for_entering (tree.apply_expr p e es) env = for_call e es env
  for_entering _ env = 0

  abbrev pub for_handing : Frame → Tree → Environment → ℕ
  for_handing (next_argument p t k es) v env = for_last t (k + 1) es (argument v ∷ env)
  for_handing _ v env = 0

  abbrev pub needed_cells : State → ℕ
  needed_cells (st K env (enter e) a) = for_entering e env
  needed_cells (st (f ∷ K) env (finished v) a) = for_handing f v env
  needed_cells _ = 0

-- the cells free at opening less one for each constructor held
abbrev pub free_cells : Sizes → State → ℕ
free_cells Z s = Z.cells - held s

-- the same sizes with another number of cells
abbrev pub with_cells : ℕ → Sizes → Sizes
with_cells n Z = record { cells = n; frames = Z.frames; entries = Z.entries }
