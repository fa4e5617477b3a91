-- The cells that are held, and those that are free.
use Rattle.std.proofs.Common.{◌≡◌, ℕ, ◌+◌, List, [], ◌∷◌, ◌++◌, length, min, refl, ap, arith}
use Rattle.cells.specs.Meaning.{Cells, count_live}
use Rattle.cells.specs.declared.values.Value.{Value}
use Rattle.data.proofs.Outs.{join, sizes_join, out_count, out_long}
use Rattle.data.specs.Trees.{Trees, more, size, sizes}
use Rattle.machine.specs.Holding.{tree_in, trees_in, kept, capped}
use Rattle.machine.specs.Mirrors.{Rests}
use Rattle.machine.specs.declared.machine.Machine.{Machine}
use Rattle.program.specs.Programs.{Program}
use Rattle.rules.specs.States.{Entry, full, empty, argument, Environment, Frame, saved, Account, entry_size, environment_size, saved_size}
use Rattle.rules.specs.Steps.{Sizes}

entry_size_law : (s : Entry) → size (tree_in s) ≡ entry_size s
entry_size_law (full x t) = refl
entry_size_law (empty x) = refl
entry_size_law (argument t) = refl

-- the constructors in a row of entries
pub row_size : (env : Environment) → sizes (trees_in env) ≡ environment_size env
row_size [] = refl
row_size (s ∷ env) = omega (arith, entry_size_law s, row_size env)

pub row_append : (env es : Environment) → trees_in (env ++ es) ≡ join (trees_in env) (trees_in es)
row_append [] es = refl
row_append (s ∷ env) es = ap (more (tree_in s)) (row_append env es)

kept_size : (K : List Frame) → sizes (trees_in (kept K)) ≡ saved_size K
kept_size [] = refl
kept_size (f ∷ K) =
    omega (arith, ap sizes (row_append (saved f) (kept K)), sizes_join (trees_in (saved f)) (trees_in (kept K)), row_size (saved f), kept_size K)

pub entries_size : (env : Environment) (K : List Frame) → sizes (trees_in (env ++ kept K)) ≡ saved_size K + environment_size env
entries_size env K = omega (arith, ap sizes (row_append env (kept K)), sizes_join (trees_in env) (trees_in (kept K)), row_size env, kept_size K)

pub capped_add : (a n : ℕ) → min (capped a + n) 18446744073709551615 ≡ capped (a + n)
capped_add a n = omega arith

module _ {P : Program} {Z : Sizes} {m₀ m : Cells} {K : List Frame} {env : Environment} {a : Account} {vs : List Value} {ts : Trees} {r : Machine} (R : Rests P Z m₀ K env a vs ts r m) where
  -- live are those that were live at opening, and one for each constructor held
  pub live_cells : count_live m + Z.cells ≡ length m + (sizes ts + (saved_size K + environment_size env))
  live_cells =
      omega (arith, out_count R.data_held, out_long R.data_held, R.cells, sizes_join ts (trees_in (env ++ kept K)), entries_size env K)
