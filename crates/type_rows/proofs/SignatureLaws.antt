-- Rows that were written stand, and the others are as they were.
use Rattle.std.proofs.Common.{◌≡◌, ℕ, zero, suc, replicate, ◌+◌, ◌<◌, ◌≤◌, ◌⊎◌, List, [], ◌∷◌, length, set, Some, sym, subst, refl, ap, ◌∙◌, arith, length-set, inl, inr}
use Rattle.std.proofs.lemmas.List.{get_or-set_same, get_or-set_other}
use Rattle.std.proofs.lemmas.Bool.{cases_eq, cases_lt}
use Rattle.basis.specs.Numbers.{number_of, numbered}
use Rattle.basis.specs.Types.{parameter_types, result_of}
use Rattle.basis.specs.declared.basis_type.BasisType.{BasisType}
use Rattle.basis.specs.declared.basis_type.BasisType.TheVariants as basis
use Rattle.basis.specs.declared.function.Basis.{Basis}
use Rattle.basis.specs.declared.function.Basis.TheVariants.{EqualInt, EqualBool, EqualSym, EqualUnit, Add, Subtract, Multiply, Divide, Remainder, UnsignedDivide, UnsignedRemainder, Negate, Greater, Less, GreaterOrEqual, LessOrEqual, Not, And, Or, Xor, BitAnd, BitOr, BitXor, ShiftLeft, ShiftRight, Complement, PrintInt, PrintBool, PrintSym, PrintUnit, PrintNewline, PrintAscii, Input}
use Rattle.basis.specs.declared.parameters.Parameters.{Parameters}
use Rattle.basis.specs.declared.parameters.Parameters.TheVariants.{Zero, One, Two}
use Rattle.type_rows.specs.Rows.{no_row, row_at, shape_at}
use Rattle.type_rows.specs.Signatures.{basis_shape, plain_row, signed, stored, StandRows, root_of, signature_rows}
use Rattle.type_rows.specs.declared.row.Row.{Row}
use Rattle.type_rows.specs.declared.shape.Shape.TheVariants as shape

pub number_below : (f : Basis) → number_of f < 33
number_below EqualInt = omega arith
number_below EqualBool = omega arith
number_below EqualSym = omega arith
number_below EqualUnit = omega arith
number_below Add = omega arith
number_below Subtract = omega arith
number_below Multiply = omega arith
number_below Divide = omega arith
number_below Remainder = omega arith
number_below UnsignedDivide = omega arith
number_below UnsignedRemainder = omega arith
number_below Negate = omega arith
number_below Greater = omega arith
number_below Less = omega arith
number_below GreaterOrEqual = omega arith
number_below LessOrEqual = omega arith
number_below Not = omega arith
number_below And = omega arith
number_below Or = omega arith
number_below Xor = omega arith
number_below BitAnd = omega arith
number_below BitOr = omega arith
number_below BitXor = omega arith
number_below ShiftLeft = omega arith
number_below ShiftRight = omega arith
number_below Complement = omega arith
number_below PrintInt = omega arith
number_below PrintBool = omega arith
number_below PrintSym = omega arith
number_below PrintUnit = omega arith
number_below PrintNewline = omega arith
number_below PrintAscii = omega arith
number_below Input = omega arith

pub numbered_back : (f : Basis) → numbered (number_of f) ≡ Some f
numbered_back EqualInt = refl
numbered_back EqualBool = refl
numbered_back EqualSym = refl
numbered_back EqualUnit = refl
numbered_back Add = refl
numbered_back Subtract = refl
numbered_back Multiply = refl
numbered_back Divide = refl
numbered_back Remainder = refl
numbered_back UnsignedDivide = refl
numbered_back UnsignedRemainder = refl
numbered_back Negate = refl
numbered_back Greater = refl
numbered_back Less = refl
numbered_back GreaterOrEqual = refl
numbered_back LessOrEqual = refl
numbered_back Not = refl
numbered_back And = refl
numbered_back Or = refl
numbered_back Xor = refl
numbered_back BitAnd = refl
numbered_back BitOr = refl
numbered_back BitXor = refl
numbered_back ShiftLeft = refl
numbered_back ShiftRight = refl
numbered_back Complement = refl
numbered_back PrintInt = refl
numbered_back PrintBool = refl
numbered_back PrintSym = refl
numbered_back PrintUnit = refl
numbered_back PrintNewline = refl
numbered_back PrintAscii = refl
numbered_back Input = refl

pub one_number : (f g : Basis) → number_of f ≡ number_of g → f ≡ g
one_number f g e = let a = numbered_back f in let b = numbered_back g in let c : numbered (number_of f) ≡ numbered (number_of g) = ap numbered e in cc

pub length_stored : (rs : List Row) (rows : List Row) (k : ℕ) → length (stored rows k rs) ≡ length rows
length_stored [] rows k = refl
length_stored (r ∷ rs) rows k = length_stored rs (set rows k r) (k + 1) ∙ length-set rows k r

-- rows below and behind those that are written
stored_below : (rs : List Row) (rows : List Row) (k j : ℕ) → j < k → row_at (stored rows k rs) j ≡ row_at rows j
stored_below [] rows k j low = refl
stored_below (r ∷ rs) rows k j low = stored_below rs (set rows k r) (k + 1) j (omega arith) ∙ get_or-set_other rows k j r no_row (λ e. let e : j ≡ k = e in omega arith)

stored_behind : (rs : List Row) (rows : List Row) (k j : ℕ) → k + length rs ≤ j → row_at (stored rows k rs) j ≡ row_at rows j
stored_behind [] rows k j high = refl
stored_behind (r ∷ rs) rows k j high = stored_behind rs (set rows k r) (k + 1) j (omega arith) ∙ get_or-set_other rows k j r no_row (λ e. let e : j ≡ k = e in omega arith)

stored_stand : (rs : List Row) (rows : List Row) (k : ℕ) → k + length rs ≤ length rows → StandRows (stored rows k rs) k rs
stored_stand [] rows k h = tt
stored_stand (r ∷ rs) rows k h =
    let l = length-set rows k r in
    (stored_below rs (set rows k r) (k + 1) k (omega arith) ∙ get_or-set_same rows k r no_row (omega arith), stored_stand rs (set rows k r) (k + 1) (omega arith))

pub stand_on : (rs : List Row) (rows new : List Row) (k : ℕ) → ((j : ℕ) → k ≤ j → j < k + length rs → row_at new j ≡ row_at rows j) → StandRows rows k rs → StandRows new k rs
stand_on [] rows new k e s = tt
stand_on (r ∷ rs) rows new k e s = (e k (omega arith) (omega arith) ∙ s.0, stand_on rs rows new (k + 1) (λ j low high. e j (omega arith) (omega arith)) s.1)

signed_short : (k : ℕ) (ps : Parameters) (r : BasisType) → length (signed k ps r) ≤ 4
signed_short k Zero r = omega arith
signed_short k (One t) r = omega arith
signed_short k (Two t u) r = omega arith

pub signatures_short : (f : Basis) → length (signature_rows f) ≤ 4
signatures_short f = signed_short (root_of f) (parameter_types f) (result_of f)

-- a function's rows are written behind those of the functions before it
pub signed_on : (rows : List Row) (f : Basis) → length rows ≡ 644 → (g : Basis) → number_of g < number_of f → StandRows rows (root_of g) (signature_rows g) → StandRows (stored rows (root_of f) (signature_rows f)) (root_of g) (signature_rows g)
signed_on rows f long g low s =
    let short = signatures_short g in
    stand_on (signature_rows g) rows _ (root_of g) (λ j from past. stored_below (signature_rows f) rows (root_of f) j (omega arith)) s

pub signed_here : (rows : List Row) (f : Basis) → length rows ≡ 644 → StandRows (stored rows (root_of f) (signature_rows f)) (root_of f) (signature_rows f)
signed_here rows f long =
    let short = signatures_short f in
    let low = number_below f in
    stored_stand (signature_rows f) rows (root_of f) (omega arith)

pub signed_more : (rows : List Row) (g : Basis) (n : ℕ) → length rows ≡ 644 → number_of g ≡ n → ((f : Basis) → number_of f < n → StandRows rows (root_of f) (signature_rows f))
    → (f : Basis) → number_of f < n + 1 → StandRows (stored rows (root_of g) (signature_rows g)) (root_of f) (signature_rows f)
signed_more rows g n long e before f low = go (cases_eq (number_of f) n)
  where
    go : (number_of f ≡ n) ⊎ (number_of f ≡ n → ⊥) → StandRows (stored rows (root_of g) (signature_rows g)) (root_of f) (signature_rows f)
    go (inl q) = subst (λ h. StandRows (stored rows (root_of g) (signature_rows g)) (root_of h) (signature_rows h)) (one_number g f (e ∙ sym q)) (signed_here rows g long)
    go (inr q) = signed_on rows g long f (omega arith) (before f (omega arith))

plain_shape : (t : BasisType) (n : ℕ) → basis_shape t ≡ shape.Function n → ⊥
plain_shape basis.Int n e = let z : ◌≡◌ {A = ℕ} 0 1 = cc in omega arith
plain_shape basis.Bool n e = let z : ◌≡◌ {A = ℕ} 0 1 = cc in omega arith
plain_shape basis.Sym n e = let z : ◌≡◌ {A = ℕ} 0 1 = cc in omega arith
plain_shape basis.Unit n e = let z : ◌≡◌ {A = ℕ} 0 1 = cc in omega arith

-- of the rows of a function of the basis, the first alone is a function type
plain_at : (rows : List Row) (j k past n : ℕ) (t : BasisType) → j ≡ k → row_at rows j ≡ plain_row past t → shape_at rows k ≡ shape.Function n → ⊥
plain_at rows j k past n t e p s = plain_shape t n (sym (ap (λ (r : Row). r.shape) p) ∙ ap (shape_at rows) e ∙ s)

signed_first : (rows : List Row) (root k n : ℕ) (ps : Parameters) (r : BasisType) → StandRows rows root (signed root ps r) → root ≤ k → k < root + length (signed root ps r) → shape_at rows k ≡ shape.Function n → k ≡ root
signed_first rows root k n ps r s low high f = go (cases_eq k root)
  where
    parts : (ps : Parameters) → StandRows rows root (signed root ps r) → root < k → k < root + length (signed root ps r) → ⊥
    parts Zero s low high = plain_at rows (root + 1) k _ n r (omega arith) s.1.0 f
    parts (One t) s low high = two (cases_eq k (root + 1))
      where
        two : (k ≡ root + 1) ⊎ (k ≡ root + 1 → ⊥) → ⊥
        two (inl e) = plain_at rows (root + 1) k _ n t (sym e) s.1.0 f
        two (inr e) = plain_at rows (root + 1 + 1) k _ n r (omega arith) s.1.1.0 f
    parts (Two t u) s low high = three (cases_eq k (root + 1)) (cases_eq k (root + 2))
      where
        three : (k ≡ root + 1) ⊎ (k ≡ root + 1 → ⊥) → (k ≡ root + 2) ⊎ (k ≡ root + 2 → ⊥) → ⊥
        three (inl e) x = plain_at rows (root + 1) k _ n t (sym e) s.1.0 f
        three (inr e) (inl x) = plain_at rows (root + 1 + 1) k _ n u (omega arith) s.1.1.0 f
        three (inr e) (inr x) = plain_at rows (root + 1 + 1 + 1) k _ n r (omega arith) s.1.1.1.0 f

    go : (k ≡ root) ⊎ (k ≡ root → ⊥) → k ≡ root
    go (inl e) = e
    go (inr e) = absurd (parts ps s (omega arith) high)

pub only_more : (rows : List Row) (g : Basis) (from : ℕ) → length rows ≡ 644 → ((k n : ℕ) → from ≤ k → shape_at rows k ≡ shape.Function n → (f : Basis) × (k ≡ root_of f))
    → (k n : ℕ) → from ≤ k → shape_at (stored rows (root_of g) (signature_rows g)) k ≡ shape.Function n → (f : Basis) × (k ≡ root_of f)
only_more rows g from long before k n high s = go (cases_lt k (root_of g)) (cases_lt k (root_of g + length (signature_rows g)))
  where
    go : (k < root_of g) ⊎ (root_of g ≤ k) → (k < root_of g + length (signature_rows g)) ⊎ (root_of g + length (signature_rows g) ≤ k) → (f : Basis) × (k ≡ root_of f)
    go (inl low) b = before k n high (ap (λ (r : Row). r.shape) (sym (stored_below (signature_rows g) rows (root_of g) k low)) ∙ s)
    go (inr up) (inr b) = before k n high (ap (λ (r : Row). r.shape) (sym (stored_behind (signature_rows g) rows (root_of g) k b)) ∙ s)
    go (inr up) (inl b) = (g, signed_first _ (root_of g) k n (parameter_types g) (result_of g) (signed_here rows g long) up b s)

-- no unused row is a function type
blank : (n k : ℕ) → row_at (replicate n no_row) k ≡ no_row
blank zero k = refl
blank (suc n) zero = refl
blank (suc n) (suc k) = blank n k

pub blank_shape : {X : Type 0} (n k p : ℕ) → shape_at (replicate n no_row) k ≡ shape.Function p → X
blank_shape n k p e = let s = ap (λ (r : Row). r.shape) (sym (blank n k)) ∙ e in absurd (let z : ◌≡◌ {A = ℕ} 0 1 = cc in omega arith)
