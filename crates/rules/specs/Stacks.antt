-- The entries that a step needs on the two stacks: on the first one more where an expression begins to wait, on the second one for
-- each name that it binds and each argument that it is handed.
use Rattle.std.specs.Prelude.{ℕ, ◌+◌, ◌<◌, ◌⊎◌, Bool, true, cond, ◌∷◌, length}
use Rattle.data.specs.Trees.{Tree, built}
use Rattle.grammar.specs.Trees as tree
use Rattle.grammar.specs.Trees.{Pattern, wildcard, constructor, Expr, Exprs, no_exprs, Branches, last_branch, and_branch}
use Rattle.program.specs.Programs as means
use Rattle.program.specs.Programs.{Program, Global, global_of}
use Rattle.program.specs.Scopes.{pattern_names}
use Rattle.rules.specs.States.{Environment, Frame, let_binding, case_test, next_argument, opened, enter, finished, State, st, saved_count}
use Rattle.rules.specs.Steps.{Sizes, Looked, absent, look, is_constructor}

-- what stands on the two stacks
abbrev pub waiting : State → ℕ
waiting (st K env c a) = length K

abbrev pub entered : State → ℕ
entered (st K env c a) = length env + saved_count K

-- the name of a val waits for its expression
abbrev pub for_name : Looked → Global → ℕ
for_name absent (means.val i) = 1
for_name _ _ = 0

-- an application waits, but for that of a constructor without fields
abbrev pub for_applied : Looked → Global → Exprs → ℕ
for_applied absent (means.constructor c) no_exprs = 0
for_applied _ _ _ = 1

module _ (P : Program) where
  abbrev pub for_head : Expr → Exprs → Environment → ℕ
  for_head (tree.name q w) es env = for_applied (look w env) (global_of P w) es
  for_head _ es env = 1

  abbrev pub for_waiting : Expr → Environment → ℕ
  for_waiting (tree.integer p z) env = 0
  for_waiting (tree.symbol p w) env = 0
  for_waiting (tree.boolean p b) env = 0
  for_waiting (tree.unit p) env = 0
  for_waiting (tree.name p w) env = for_name (look w env) (global_of P w)
  for_waiting (tree.dup_expr p x) env = 0
  for_waiting (tree.if_expr p x y z) env = 1
  for_waiting (tree.begin_expr p x xs) env = 1
  for_waiting (tree.let_expr p bs x) env = 1
  for_waiting (tree.case_expr p x bs) env = 1
  for_waiting (tree.apply_expr p x xs) env = for_head x xs env

  abbrev pub needed_frames : State → ℕ
  needed_frames (st K env opened a) = 1
  needed_frames (st K env (enter e) a) = for_waiting e env
  needed_frames _ = 0

  -- the names of the first branch that fits
  abbrev pub fitting : ℕ → Pattern → Bool
  fitting c (wildcard p) = true
  fitting c (constructor p k xs) = is_constructor c (global_of P k.bytes)

  abbrev pub for_branches : ℕ → Branches → ℕ
  for_branches c (last_branch p x e) = cond (fitting c x) (pattern_names x) 0
  for_branches c (and_branch p x e bs) = cond (fitting c x) (pattern_names x) (for_branches c bs)

  abbrev pub for_tested : Branches → Tree → ℕ
  for_tested bs (built c vs) = for_branches c bs
  for_tested bs _ = 0

  abbrev pub for_frame : Frame → Tree → ℕ
  for_frame (let_binding p x bs e n) v = 1
  for_frame (next_argument p t k es) v = 1
  for_frame (case_test p bs) v = for_tested bs v
  for_frame _ v = 0

  abbrev pub needed_entries : State → ℕ
  needed_entries (st K env (enter e) a) = 0
  needed_entries (st (f ∷ K) env (finished v) a) = for_frame f v
  needed_entries _ = 0

  -- a stack has too few entries for the next step, counted before the step frees any
  abbrev pub Lacks : Sizes → State → Type 0
  Lacks Z s = (Z.frames < needed_frames s + waiting s) ⊎ (Z.entries < needed_entries s + entered s)
