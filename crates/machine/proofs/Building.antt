-- A constructor is applied: its arguments become the fields of a new cell.
use Rattle.std.proofs.Common.{◌≡◌, ℕ, ◌+◌, ◌-◌, ◌<◌, ◌≤◌, List, ◌∷◌, ◌++◌, length, take, replicate, sym, ap, ◌∙◌, subst, arith}
use Rattle.std.proofs.Math.Seq.{take-append_seam}
use Rattle.cells.proofs.Calls.{taken_count, full_counted, taken_capacity}
use Rattle.cells.proofs.CellLaws.{count_le}
use Rattle.cells.specs.Meaning.{Cells, TakenAt, Full}
use Rattle.cells.specs.Records.{row, Made}
use Rattle.cells.specs.declared.records.CellRecord.{CellRecord}
use Rattle.cells.specs.declared.refusals.StoreRefusal.{StoreRefusal}
use Rattle.cells.specs.declared.values.Value.{Value}
use Rattle.cells.specs.declared.values.Value.TheVariants.{Cell, Unit as Nothing}
use Rattle.data.proofs.Moves.{build}
use Rattle.data.proofs.Outs.{join, tally}
use Rattle.data.specs.Taking.{Out}
use Rattle.data.specs.Trees.{Trees, more, built, sizes}
use Rattle.machine.proofs.Cells.{live_cells}
use Rattle.machine.specs.Mirrors.{Rests}
use Rattle.machine.specs.declared.machine.Machine.{Machine}
use Rattle.program.specs.Programs.{Program}
use Rattle.rules.specs.States.{Environment, Frame, Account, environment_size, saved_size}
use Rattle.rules.specs.Steps.{Sizes}

-- a record made from values has them as its row
pub made_row : {c : ℕ} {vs : List Value} {r : CellRecord} → Made c vs r → row r ≡ vs
made_row {vs = vs} {r} made =
    ap (λ n. take n r.fields) made.used_is ∙ (ap (take (length vs)) made.fields_are ∙ take-append_seam vs (replicate (6 - length vs) Nothing))

-- the cell stands for the constructor with its fields
pub built_out : {c n : ℕ} {vs rest : List Value} {fields ts : Trees} {r : CellRecord} {m m' m₀ : Cells} → Made c vs r → TakenAt m r n m' → tally fields ≡ length vs
    → Out m (vs ++ rest) (join fields ts) m₀ → Out m' (Cell n ∷ rest) (more (built c fields) ts) m₀
built_out {c} {n} {vs} {rest} {fields} {ts} {r} {m} {m'} {m₀} made took count o =
    let is = made_row made in
    subst (λ c. Out m' (Cell n ∷ rest) (more (built c fields) ts) m₀) made.constructor_is
    (build m m' m₀ n r rest fields ts took (count ∙ ap length (sym is)) (subst (λ q. Out m (q ++ rest) (join fields ts) m₀) (sym is) o))

module _ {P : Program} {Z : Sizes} {m₀ m : Cells} {K : List Frame} {env : Environment} {a : Account} {vs : List Value} {ts : Trees} {r : Machine} (R : Rests P Z m₀ K env a vs ts r m) where
  -- a cell was free
  pub cell_free : {q : CellRecord} {i : ℕ} {m' : Cells} → TakenAt m q i m' → 1 + (sizes ts + (saved_size K + environment_size env)) ≤ Z.cells
  cell_free {m' = m'} took = omega (arith, live_cells R, taken_count took, taken_capacity took, count_le m')

  -- no cell was free
  pub cells_full : {e : StoreRefusal} {m' : Cells} → Full m e m' → Z.cells < 1 + (sizes ts + (saved_size K + environment_size env))
  cells_full full = omega (arith, live_cells R, full_counted full)
