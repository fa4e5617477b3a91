use Rattle.std.proofs.Common.{◌≡◌, ℕ, ◌<◌, ◌≤◌, length}
use Rattle.basis.specs.Numbers.{number_of}
use Rattle.basis.specs.declared.function.Basis.{Basis}
use Rattle.type_rows.specs.Rows.{shape_at}
use Rattle.type_rows.specs.declared.shape.Shape.TheVariants as shape
use Rattle.type_rows.specs.Signatures.{StandRows, root_of, signature_rows}
use Rattle.type_rows.proofs.rows.Rows.new.Given as goal

abbrev pub invariant-loop-n : goal.invariant-loop-n
invariant-loop-n l = record {
  long : length l.rows.rows ≡ 644;
  signed : (f : Basis) → number_of f < l.n → StandRows l.rows.rows (root_of f) (signature_rows f);
  only : (k n : ℕ) → 0 ≤ k → shape_at l.rows.rows k ≡ shape.Function n → (f : Basis) × (k ≡ root_of f);
}
