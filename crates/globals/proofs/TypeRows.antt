-- The rows of type expressions, one by one.
use Rattle.std.proofs.Common.{◌≡◌, ℕ, ◌+◌, ◌<◌, ◌≤◌, ◌⊎◌, List, length, drop, slice_set, inl, inr, sym, ap, ◌∙◌, subst, arith, length-set}
use Rattle.std.proofs.lemmas.Bool.{cases_eq}
use Rattle.std.proofs.lemmas.List.{drop_more, drop_all, get_or-set_same, get_or-set_other}
use Rattle.globals.specs.Types.{known_head, known_all}
use Rattle.grammar.specs.Trees.{TypeExpr}
use Rattle.program.specs.Programs.{Program}
use Rattle.type_rows.specs.Rows.{no_row, row_at}
use Rattle.type_rows.specs.Signatures.{root_of, signature_rows, HasBasis}
use Rattle.type_rows.specs.TypeExprs.{no_type, expr_at, row_of, HasRows}
use Rattle.type_rows.specs.declared.row.Row.{Row}
use Rattle.type_rows.proofs.SignatureLaws.{stand_on}
use Rattle.typing.specs.Verdict.{accepted, before}

-- the first k rows are written
pub record Resolving (P : Program) (ts : List TypeExpr) (k : ℕ) (rows : List Row) : Type 0 where
  pub long : length rows ≡ 644
  pub known : known_all P ts ≡ known_all P (drop k ts)
  pub written : (j : ℕ) → j < k → row_at rows j ≡ row_of P j (expr_at ts j)
  pub basis : HasBasis rows k

-- a row below those of the basis is written
basis_on : (rows : List Row) (k : ℕ) (r : Row) → k < 512 → HasBasis rows k → HasBasis (slice_set rows k r) (k + 1)
basis_on rows k r low b = record {
  signed = λ f. stand_on (signature_rows f) rows _ (root_of f) (λ j from past. get_or-set_other rows k j r no_row (λ e. let e : j ≡ k = e in omega arith)) (b.signed f);
  only = λ j n from s. b.only j n (omega arith) (ap (λ (r : Row). r.shape) (sym (get_or-set_other rows k j r no_row (λ e. let e : j ≡ k = e in omega arith))) ∙ s);
}

module _ (P : Program) (ts : List TypeExpr) (k : ℕ) (rows : List Row) where
  known_here : k < length ts → known_all P (drop k ts) ≡ before (known_head P (expr_at ts k)) (known_all P (drop (k + 1) ts))
  known_here low = ap (known_all P) (drop_more ts k no_type low)

  pub resolving_next : (r : Row) → k < length ts → length ts ≤ 512 → r ≡ row_of P k (expr_at ts k) → known_head P (expr_at ts k) ≡ accepted → Resolving P ts k rows → Resolving P ts (k + 1) (slice_set rows k r)
  resolving_next r low few is known g = record {
    long = length-set rows k r ∙ g.long;
    known = g.known ∙ known_here low ∙ ap (λ v. before v (known_all P (drop (k + 1) ts))) known;
    written = λ j below. go j below (cases_eq j k);
    basis = basis_on rows k r (omega arith) g.basis;
  }
    where
      go : (j : ℕ) → j < k + 1 → (j ≡ k) ⊎ (j ≡ k → ⊥) → row_at (slice_set rows k r) j ≡ row_of P j (expr_at ts j)
      go j below (inl e) = ap (row_at (slice_set rows k r)) e ∙ get_or-set_same rows k r no_row (let l = g.long in omega arith) ∙ is ∙ ap (λ i. row_of P i (expr_at ts i)) (sym e)
      go j below (inr n) = get_or-set_other rows k j r no_row n ∙ g.written j (omega arith)

  pub resolving_end : length ts ≤ k → k ≤ length ts → Resolving P ts k rows → (known_all P ts ≡ accepted) × HasRows P ts rows × HasBasis rows (length ts)
  resolving_end high low g = (g.known ∙ ap (known_all P) (drop_all k ts high), λ j below. g.written j (omega arith), subst (HasBasis rows) (let e : k ≡ length ts = omega arith in e) g.basis)
