use Rattle.std.proofs.Common.{◌≡◌, ℕ, ◌≤◌, length, sym, refl, ap, ◌∙◌, subst, arith, rules}
use Rattle.basis.specs.declared.function.Basis.{Basis}
use Rattle.type_rows.specs.Rows.{shape_at}
use Rattle.type_rows.specs.declared.shape.Shape.TheVariants as shape
use Rattle.type_rows.specs.Signatures.{StandRows, root_of, signature_rows, stored}
use Rattle.type_rows.proofs.SignatureLaws.{signed_more, only_more, blank_shape, length_stored}
use Rattle.type_rows.proofs.rows.Rows.new.Goals as goal
use Rattle.type_rows.proofs.rows.Rows.new.Goals.{in-Ok, in_default}

pub loop-n-init : goal.loop-n-init
loop-n-init c = record { long = refl; signed = λ f low. absurd (omega arith); only = λ k n from s. blank_shape 644 k n s }

pub loop-n-preserved : goal.loop-n-preserved
loop-n-preserved c = elim c.match-try_from.branch [
  | in-Ok w ↦
      let b = w.in-Ok.basis in
      let rows = c.loop-n.rows.rows in
      let e : c.match-try_from.rows.rows ≡ stored rows (root_of b) (signature_rows b) = search rules in
      record {
        long = ap length e ∙ length_stored (signature_rows b) rows (root_of b) ∙ c.loop-n.invariant.long;
        signed = λ f low. subst (λ rs. StandRows rs (root_of f) (signature_rows f)) (sym e) (signed_more rows b c.loop-n.n c.loop-n.invariant.long w.in-Ok.ensures.1 c.loop-n.invariant.signed f low);
        only = subst (λ rs. (k n : ℕ) → 0 ≤ k → shape_at rs k ≡ shape.Function n → (f : Basis) × (k ≡ root_of f)) (sym e) (only_more rows b 0 c.loop-n.invariant.long c.loop-n.invariant.only);
      }
  | in_default w ↦
      let past : 33 ≤ c.loop-n.n = w.in_default.ensures.2 in
      absurd (omega arith)
]
