-- The rows of a function of the basis are its type.
use Rattle.std.proofs.Common.{◌≡◌, ℕ, zero, suc, ◌+◌, ◌<◌, List, [], ◌∷◌, ◌++◌, map, length, get_or, sym, refl, ap, ◌∙◌, arith}
use Rattle.std.proofs.lemmas.List.{get_or-map, length-map}
use Rattle.basis.specs.Types.{parameter_types, result_of, listed}
use Rattle.basis.specs.declared.basis_type.BasisType.{BasisType}
use Rattle.basis.specs.declared.basis_type.BasisType.TheVariants as basis
use Rattle.basis.specs.declared.function.Basis.{Basis}
use Rattle.basis.specs.declared.parameters.Parameters.{Parameters}
use Rattle.basis.specs.declared.parameters.Parameters.TheVariants.{Zero, One, Two}
use Rattle.type_rows.specs.Rows.{no_row, row_at, shape_at, kind_at, TypesLie, no_rows, and_row, FunctionLies}
use Rattle.type_rows.specs.Shapes.{shapes, kind_of, ty}
use Rattle.type_rows.specs.Signatures.{basis_shape, plain_row, signed, StandRows, root_of, HasBasis}
use Rattle.type_rows.specs.declared.row.Row.{Row}
use Rattle.type_rows.specs.declared.shape.Shape.TheVariants as shape
use Rattle.typing.specs.Types.{Ty, function, count, type_of_basis, basis_types, signature}

stand_at : (rs : List Row) (rows : List Row) (k d : ℕ) → StandRows rows k rs → d < length rs → row_at rows (k + d) ≡ get_or rs d no_row
stand_at [] rows k d s low = absurd (omega arith)
stand_at (r ∷ rs) rows k zero s low = let e : k + 0 ≡ k = omega arith in ap (row_at rows) e ∙ s.0
stand_at (r ∷ rs) rows k (suc d) s low = let e : k + suc d ≡ k + 1 + d = omega arith in ap (row_at rows) e ∙ stand_at rs rows (k + 1) d s.1 (omega arith)

shape_of_law : (t : BasisType) → shapes (type_of_basis t) ≡ basis_shape t ∷ []
shape_of_law basis.Int = refl
shape_of_law basis.Bool = refl
shape_of_law basis.Sym = refl
shape_of_law basis.Unit = refl

kind_of_law : (m : ℕ → Ty) (k : ℕ) (t : BasisType) → ty m (kind_of k (basis_shape t)) ≡ type_of_basis t
kind_of_law m k basis.Int = refl
kind_of_law m k basis.Bool = refl
kind_of_law m k basis.Sym = refl
kind_of_law m k basis.Unit = refl

abbrev typed : Parameters → BasisType → Ty
typed ps r = function (basis_types (listed ps)) (type_of_basis r)

shapes_signed : (k : ℕ) (ps : Parameters) (r : BasisType) → map (λ (r : Row). r.shape) (signed k ps r) ≡ shapes (typed ps r)
shapes_signed k Zero r = ap (λ l. shape.Function 0 ∷ l) (sym (shape_of_law r))
shapes_signed k (One t) r = sym (ap (λ l. shape.Function 1 ∷ ((l ++ []) ++ shapes (type_of_basis r))) (shape_of_law t) ∙ ap (λ l. shape.Function 1 ∷ basis_shape t ∷ l) (shape_of_law r))
shapes_signed k (Two t u) r =
    sym (ap (λ l. shape.Function 2 ∷ ((l ++ (shapes (type_of_basis u) ++ [])) ++ shapes (type_of_basis r))) (shape_of_law t) ∙ ap (λ l. shape.Function 2 ∷ basis_shape t ∷ ((l ++ []) ++ shapes (type_of_basis r))) (shape_of_law u) ∙ ap (λ l. shape.Function 2 ∷ basis_shape t ∷ basis_shape u ∷ l) (shape_of_law r))

module _ (rows : List Row) (m : ℕ → Ty) where
  kind_in : (k past : ℕ) (t : BasisType) → row_at rows k ≡ plain_row past t → ty m (kind_at rows k) ≡ type_of_basis t
  kind_in k past t e = ap (λ (r : Row). ty m (kind_of k r.shape)) e ∙ kind_of_law m k t

  lie_signed : (k : ℕ) (ps : Parameters) (r : BasisType) → StandRows rows k (signed k ps r) → TypesLie rows m (k + 1) (row_at rows k).result (basis_types (listed ps)) × (ty m (kind_at rows (row_at rows k).result) ≡ type_of_basis r)
  lie_signed k Zero r s =
      let e = ap (λ (r : Row). r.result) s.0 in
      (no_rows (sym e), ap (λ j. ty m (kind_at rows j)) e ∙ kind_in (k + 1) _ r s.1.0)
  lie_signed k (One t) r s =
      let e : (row_at rows k).result ≡ k + 2 = ap (λ (r : Row). r.result) s.0 in
      let p : (row_at rows (k + 1)).past ≡ k + 2 = ap (λ (r : Row). r.past) s.1.0 in (
        and_row (omega arith) (kind_in (k + 1) _ t s.1.0) (no_rows (p ∙ sym e)),
        ap (λ j. ty m (kind_at rows j)) (let f : (row_at rows k).result ≡ k + 1 + 1 = omega arith in f) ∙ kind_in (k + 1 + 1) _ r s.1.1.0,
      )
  lie_signed k (Two t u) r s =
      let e : (row_at rows k).result ≡ k + 3 = ap (λ (r : Row). r.result) s.0 in
      let p : (row_at rows (k + 1)).past ≡ k + 2 = ap (λ (r : Row). r.past) s.1.0 in
      let q : (row_at rows (k + 1 + 1)).past ≡ k + 3 = ap (λ (r : Row). r.past) s.1.1.0 in
      let at_u : (row_at rows (k + 1)).past ≡ k + 1 + 1 = omega arith in
      let past_u : (row_at rows (row_at rows (k + 1)).past).past ≡ k + 3 = ap (λ j. (row_at rows j).past) at_u ∙ q in (
        and_row (omega arith) (kind_in (k + 1) _ t s.1.0) (and_row (omega arith) (ap (λ j. ty m (kind_at rows j)) at_u ∙ kind_in (k + 1 + 1) _ u s.1.1.0) (no_rows (past_u ∙ sym e))),
        ap (λ j. ty m (kind_at rows j)) (let f : (row_at rows k).result ≡ k + 1 + 1 + 1 = omega arith in f) ∙ kind_in (k + 1 + 1 + 1) _ r s.1.1.1.0,
      )

  arity_signed : (k : ℕ) (ps : Parameters) (r : BasisType) → StandRows rows k (signed k ps r) → shape_at rows k ≡ shape.Function (count (basis_types (listed ps)))
  arity_signed k Zero r s = ap (λ (r : Row). r.shape) s.0
  arity_signed k (One t) r s = ap (λ (r : Row). r.shape) s.0
  arity_signed k (Two t u) r s = ap (λ (r : Row). r.shape) s.0

  past_signed : (k : ℕ) (ps : Parameters) (r : BasisType) → StandRows rows k (signed k ps r) → (row_at rows k).past ≡ k + length (signed k ps r)
  past_signed k Zero r s = ap (λ (r : Row). r.past) s.0
  past_signed k (One t) r s = ap (λ (r : Row). r.past) s.0
  past_signed k (Two t u) r s = ap (λ (r : Row). r.past) s.0

  pub basis_lies : (from : ℕ) → HasBasis rows from → (f : Basis) → m (root_of f) ≡ signature f → FunctionLies rows m (root_of f)
  basis_lies from b f e =
      let k = root_of f in
      let ps = parameter_types f in
      let r = result_of f in
      let s = b.signed f in
      let l = lie_signed k ps r s in
      let all : map (λ (r : Row). r.shape) (signed k ps r) ≡ shapes (typed ps r) = shapes_signed k ps r in
      let long : length (signed k ps r) ≡ length (shapes (typed ps r)) = sym (length-map (signed k ps r) (λ (r : Row). r.shape)) ∙ ap length all in
      record {
        parameters = basis_types (listed ps);
        value = type_of_basis r;
        meant = e;
        arity = arity_signed k ps r s;
        lie = l.0;
        last = l.1;
        size = past_signed k ps r s ∙ ap (λ n. k + n) long;
        spelt = λ d low. ap (λ (r : Row). r.shape) (stand_at (signed k ps r) rows k d s (omega arith)) ∙ sym (get_or-map (λ (r : Row). r.shape) (signed k ps r) d no_row shape.Unit (omega arith)) ∙ ap (λ l. get_or l d shape.Unit) all;
      }
