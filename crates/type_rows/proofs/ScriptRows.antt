-- The rows of a script's type expressions are their types.
use Rattle.std.proofs.Common.{◌≡◌, ℕ, zero, suc, ◌+◌, ◌-◌, ◌/◌, ◌<◌, ◌≤◌, ◌⊎◌, cond, List, [], ◌∷◌, ◌++◌, map, length, get_or, drop, inl, inr, sym, refl, ap, ◌∙◌, subst, append_assoc, arith}
use Rattle.std.proofs.lemmas.Bool.{cases_lt, lt-ltb}
use Rattle.std.proofs.Math.Seq.{drop-append-add}
use Rattle.std.proofs.lemmas.List.{append-nil, length-append, get_or_append_left, get_or-append_right, get_or-map, get_or-drop, length-map, length-drop, map-append, drop-append-le}
use Rattle.basis.specs.Numbers.{numbered}
use Rattle.basis.specs.declared.function.Basis.{Basis}
use Rattle.basis.specs.declared.function.Basis.TheVariants.{EqualInt, EqualBool, EqualSym, EqualUnit, Add, Subtract, Multiply, Divide, Remainder, UnsignedDivide, UnsignedRemainder, Negate, Greater, Less, GreaterOrEqual, LessOrEqual, Not, And, Or, Xor, BitAnd, BitOr, BitXor, ShiftLeft, ShiftRight, Complement, PrintInt, PrintBool, PrintSym, PrintUnit, PrintNewline, PrintAscii, Input}
use Rattle.grammar.specs.Limits.{type_count, types_count, types_length, fields_count}
use Rattle.grammar.specs.Trees as tree
use Rattle.grammar.specs.Trees.{TypeExpr, TypeExprs, Constructor, datatype_definition, type_annotation, function_definition, val_binding, Script}
use Rattle.layout.proofs.Lists.{Has, has_first, has_others, has_front, has_back}
use Rattle.layout.proofs.Standing.{type_some}
use Rattle.program.specs.Programs.{Program}
use Rattle.type_rows.specs.Rows.{row_at, kind_at, TypesLie, no_rows, and_row, FunctionLies, RowsMean}
use Rattle.type_rows.specs.Shapes.{shapes, shapes_all, kind_of, ty}
use Rattle.type_rows.specs.Signatures.{root_of, HasBasis}
use Rattle.type_rows.specs.TypeExprs.{inner, inners, field_types, types_listed, head_shape, row_of_result, no_type, expr_at, HasRows, basis_meaning, meaning}
use Rattle.type_rows.specs.declared.row.Row.{Row}
use Rattle.type_rows.specs.declared.shape.Shape.TheVariants as shape
use Rattle.typing.specs.Types.{Ty, count, type_of, types_of, signature}
use Rattle.type_rows.proofs.BasisRows.{basis_lies}

-- as many as are counted
mutual
  pub length_inner : (t : TypeExpr) → length (inner t) ≡ type_count t
  length_inner (tree.int_type p) = refl
  length_inner (tree.bool_type p) = refl
  length_inner (tree.sym_type p) = refl
  length_inner (tree.unit_type p) = refl
  length_inner (tree.datatype x) = refl
  length_inner (tree.function_type_rule p ts t) = omega (arith, length-append (inners ts) (inner t), length_inners ts, length_inner t)

  pub length_inners : (ts : TypeExprs) → length (inners ts) ≡ types_count ts
  length_inners tree.no_types = refl
  length_inners (tree.and_type t ts) = omega (arith, length-append (inner t) (inners ts), length_inner t, length_inners ts)

pub length_fields : (cs : List Constructor) → length (field_types cs) ≡ fields_count cs
length_fields [] = refl
length_fields (c ∷ cs) = omega (arith, length-append (inners c.fields) (field_types cs), length_inners c.fields, length_fields cs)

-- a type expression stands before all that it holds
pub inner_first : (t : TypeExpr) → (r : List TypeExpr) × (inner t ≡ t ∷ r)
inner_first (tree.int_type p) = ([], refl)
inner_first (tree.bool_type p) = ([], refl)
inner_first (tree.sym_type p) = ([], refl)
inner_first (tree.unit_type p) = ([], refl)
inner_first (tree.datatype x) = ([], refl)
inner_first (tree.function_type_rule p ts t) = (inners ts ++ inner t, refl)

-- From each place of a list on stands all that the type expression there holds.
abbrev pub InOrder : List TypeExpr → Type 0
InOrder ts = (k : ℕ) → k < length ts → Has ts k (inner (expr_at ts k))

order_append : (xs ys : List TypeExpr) → InOrder xs → InOrder ys → InOrder (xs ++ ys)
order_append xs ys p q k low = go (cases_lt k (length xs))
  where
    front : k < length xs → Has (xs ++ ys) k (inner (expr_at xs k))
    front h = let a = p k h in record { rest = a.rest ++ ys; is = drop-append-le k xs ys (omega arith) ∙ ap (λ l. l ++ ys) a.is ∙ append_assoc (inner (expr_at xs k)) a.rest ys }

    back : length xs ≤ k → Has (xs ++ ys) k (inner (expr_at ys (k - length xs)))
    back h =
        let size = length-append xs ys in
        let a = q (k - length xs) (omega arith) in
        let e : length xs + (k - length xs) ≡ k = omega arith in
        record { rest = a.rest; is = ap (λ j. drop j (xs ++ ys)) (sym e) ∙ drop-append-add xs ys (k - length xs) ∙ a.is }

    go : (k < length xs) ⊎ (length xs ≤ k) → Has (xs ++ ys) k (inner (expr_at (xs ++ ys) k))
    go (inl h) = subst (λ t. Has (xs ++ ys) k (inner t)) (sym (get_or_append_left xs ys no_type k h)) (front h)
    go (inr h) = subst (λ t. Has (xs ++ ys) k (inner t)) (sym (get_or-append_right xs ys (length xs) k no_type refl h)) (back h)

order_cons : (t : TypeExpr) (ts : List TypeExpr) → inner t ≡ t ∷ ts → InOrder ts → InOrder (t ∷ ts)
order_cons t ts e p zero low = record { rest = []; is = sym e ∙ sym (append-nil (inner t)) }
order_cons t ts e p (suc k) low = let a = p k (omega arith) in record { rest = a.rest; is = a.is }

order_none : InOrder []
order_none k low = absurd (omega arith)

order_one : (t : TypeExpr) → inner t ≡ t ∷ [] → InOrder (t ∷ [])
order_one t e = order_cons t [] e order_none

mutual
  pub order_inner : (t : TypeExpr) → InOrder (inner t)
  order_inner (tree.int_type p) = order_one (tree.int_type p) refl
  order_inner (tree.bool_type p) = order_one (tree.bool_type p) refl
  order_inner (tree.sym_type p) = order_one (tree.sym_type p) refl
  order_inner (tree.unit_type p) = order_one (tree.unit_type p) refl
  order_inner (tree.datatype x) = order_one (tree.datatype x) refl
  order_inner (tree.function_type_rule p ts t) = order_cons (tree.function_type_rule p ts t) (inners ts ++ inner t) refl (order_append (inners ts) (inner t) (order_inners ts) (order_inner t))

  pub order_inners : (ts : TypeExprs) → InOrder (inners ts)
  order_inners tree.no_types = order_none
  order_inners (tree.and_type t ts) = order_append (inner t) (inners ts) (order_inner t) (order_inners ts)

order_fields : (cs : List Constructor) → InOrder (field_types cs)
order_fields [] = order_none
order_fields (c ∷ cs) = order_append (inners c.fields) (field_types cs) (order_inners c.fields) (order_fields cs)

pub order_script : (ds : Script) → InOrder (types_listed ds)
order_script [] = order_none
order_script (datatype_definition p x cs ∷ ds) = order_append (field_types cs) (types_listed ds) (order_fields cs) (order_script ds)
order_script (type_annotation p x t ∷ ds) = order_append (inner t) (types_listed ds) (order_inner t) (order_script ds)
order_script (function_definition p x ps e ∷ ds) = order_script ds
order_script (val_binding p x e ∷ ds) = order_script ds

-- The shapes of a type expression are those of its type.
pub count_types : (P : Program) (ts : TypeExprs) → count (types_of P ts) ≡ types_length ts
count_types P tree.no_types = refl
count_types P (tree.and_type t ts) = ap (λ n. 1 + n) (count_types P ts)

mutual
  pub shapes_of : (P : Program) (t : TypeExpr) → map (head_shape P) (inner t) ≡ shapes (type_of P t)
  shapes_of P (tree.int_type p) = refl
  shapes_of P (tree.bool_type p) = refl
  shapes_of P (tree.sym_type p) = refl
  shapes_of P (tree.unit_type p) = refl
  shapes_of P (tree.datatype x) = refl
  shapes_of P (tree.function_type_rule p ts t) =
      ap (λ n. shape.Function n ∷ map (head_shape P) (inners ts ++ inner t)) (sym (count_types P ts))
      ∙ ap (λ l. shape.Function (count (types_of P ts)) ∷ l) (map-append (head_shape P) (inners ts) (inner t) ∙ ap (λ l. l ++ map (head_shape P) (inner t)) (shapes_all_of P ts) ∙ ap (λ l. shapes_all (types_of P ts) ++ l) (shapes_of P t))

  pub shapes_all_of : (P : Program) (ts : TypeExprs) → map (head_shape P) (inners ts) ≡ shapes_all (types_of P ts)
  shapes_all_of P tree.no_types = refl
  shapes_all_of P (tree.and_type t ts) = map-append (head_shape P) (inner t) (inners ts) ∙ ap (λ l. l ++ map (head_shape P) (inners ts)) (shapes_of P t) ∙ ap (λ l. shapes (type_of P t) ++ l) (shapes_all_of P ts)

-- how many stand from a place on
pub has_size : {E : Type 0} {xs : List E} {i : ℕ} (ys : List E) → Has xs i ys → 0 < length ys → i + length ys ≤ length xs
has_size {xs = xs} {i = i} ys h some = let d = length-drop i xs in let a = length-append ys h.rest in let e = ap length h.is in omega arith

pub has_at : {E : Type 0} {xs : List E} {i : ℕ} (ys : List E) → Has xs i ys → (k : ℕ) (d : E) → k < length ys → get_or xs (i + k) d ≡ get_or ys k d
has_at {xs = xs} {i = i} ys h k d low = sym (get_or-drop i xs k d) ∙ ap (λ l. get_or l k d) h.is ∙ get_or_append_left ys h.rest d k low

module _ (P : Program) (all : List TypeExpr) (rows : List Row) (m : ℕ → Ty) (has : HasRows P all rows) (m_is : (k : ℕ) → k < length all → m k ≡ type_of P (expr_at all k)) where
  -- the kind in a row is the type expression's
  kind_is : (i : ℕ) (t : TypeExpr) → i < length all → expr_at all i ≡ t → ty m (kind_at rows i) ≡ type_of P t
  kind_is i t low e = ap (λ (r : Row). ty m (kind_of i r.shape)) (has i low) ∙ ap (λ t. ty m (kind_of i (head_shape P t))) e ∙ go t (m_is i low ∙ ap (type_of P) e)
    where
      go : (t : TypeExpr) → m i ≡ type_of P t → ty m (kind_of i (head_shape P t)) ≡ type_of P t
      go (tree.int_type p) e = refl
      go (tree.bool_type p) e = refl
      go (tree.sym_type p) e = refl
      go (tree.unit_type p) e = refl
      go (tree.datatype x) e = refl
      go (tree.function_type_rule p ts t) e = e

  pub kind_here : (i : ℕ) (t : TypeExpr) → Has all i (inner t) → (i < length all) × (expr_at all i ≡ t) × (ty m (kind_at rows i) ≡ type_of P t) × ((row_at rows i).past ≡ i + type_count t)
  kind_here i t h =
      let f = inner_first t in
      let e : expr_at all i ≡ t = has_first (subst (Has all i) f.1 h) no_type in
      let n = length_inner t in
      let k = type_some t in
      let low = has_size (inner t) h (omega arith) in
      let below : i < length all = omega arith in
      (below, e, kind_is i t below e, ap (λ (r : Row). r.past) (has i below) ∙ ap (λ t. i + type_count t) e)

  pub types_lie : (ts : TypeExprs) (i j : ℕ) → Has all i (inners ts) → i + types_count ts ≡ j → TypesLie rows m i j (types_of P ts)
  types_lie tree.no_types i j h e = no_rows (omega arith)
  types_lie (tree.and_type t ts) i j h e =
      let k = type_some t in
      let here = kind_here i t (has_front (inner t) (inners ts) h) in
      let past = here.3 in
      and_row (omega arith) here.2 (subst (λ n. TypesLie rows m n j (types_of P ts)) (sym past) (types_lie ts (i + type_count t) j (has_back (inner t) (inners ts) (type_count t) (length_inner t) h) (omega arith)))

  pub script_lies : (k p : ℕ) (ts : TypeExprs) (t : TypeExpr) → Has all k (inner (tree.function_type_rule p ts t)) → FunctionLies rows m k
  script_lies k p ts t h =
      let whole = tree.function_type_rule p ts t in
      let here = kind_here k whole h in
      let row = has k here.0 in
      let e = here.1 in
      let parts = has_others h in
      let value = kind_here (k + 1 + types_count ts) t (has_back (inners ts) (inner t) (types_count ts) (length_inners ts) parts) in
      let at : (row_at rows k).result ≡ k + 1 + types_count ts = ap (λ (r : Row). r.result) row ∙ ap (row_of_result k) e in
      let sizes : length (shapes (type_of P whole)) ≡ length (inner whole) = ap length (sym (shapes_of P whole)) ∙ length-map (inner whole) (head_shape P) in
      let size : length (inner whole) ≡ type_count whole = length_inner whole in
      let within = has_size (inner whole) h (omega arith) in
      record {
        parameters = types_of P ts;
        value = type_of P t;
        meant = m_is k here.0 ∙ ap (type_of P) e;
        arity = ap (λ (r : Row). r.shape) row ∙ ap (head_shape P) e ∙ ap shape.Function (sym (count_types P ts));
        lie = types_lie ts (k + 1) (row_at rows k).result (has_front (inners ts) (inner t) parts) (sym at);
        last = ap (λ j. ty m (kind_at rows j)) at ∙ value.2;
        size = here.3 ∙ ap (λ n. k + n) (sym (sizes ∙ size));
        spelt = λ d low.
            let below : d < length (inner whole) = omega arith in
            ap (λ (r : Row). r.shape) (has (k + d) (omega arith)) ∙ ap (head_shape P) (has_at (inner whole) h d no_type below)
            ∙ sym (get_or-map (head_shape P) (inner whole) d no_type shape.Unit below) ∙ ap (λ l. get_or l d shape.Unit) (shapes_of P whole);
      }

-- Behind the script's type expressions each row means the type of its function of the basis.
pub basis_meant : (P : Program) (all : List TypeExpr) (f : Basis) → meaning P all (root_of f) ≡ signature f
basis_meant P all EqualInt = refl
basis_meant P all EqualBool = refl
basis_meant P all EqualSym = refl
basis_meant P all EqualUnit = refl
basis_meant P all Add = refl
basis_meant P all Subtract = refl
basis_meant P all Multiply = refl
basis_meant P all Divide = refl
basis_meant P all Remainder = refl
basis_meant P all UnsignedDivide = refl
basis_meant P all UnsignedRemainder = refl
basis_meant P all Negate = refl
basis_meant P all Greater = refl
basis_meant P all Less = refl
basis_meant P all GreaterOrEqual = refl
basis_meant P all LessOrEqual = refl
basis_meant P all Not = refl
basis_meant P all And = refl
basis_meant P all Or = refl
basis_meant P all Xor = refl
basis_meant P all BitAnd = refl
basis_meant P all BitOr = refl
basis_meant P all BitXor = refl
basis_meant P all ShiftLeft = refl
basis_meant P all ShiftRight = refl
basis_meant P all Complement = refl
basis_meant P all PrintInt = refl
basis_meant P all PrintBool = refl
basis_meant P all PrintSym = refl
basis_meant P all PrintUnit = refl
basis_meant P all PrintNewline = refl
basis_meant P all PrintAscii = refl
basis_meant P all Input = refl

pub script_meant : (P : Program) (all : List TypeExpr) → length all ≤ 512 → (k : ℕ) → k < length all → meaning P all k ≡ type_of P (expr_at all k)
script_meant P all few k low = ap (λ b. cond b (type_of P (expr_at all k)) (basis_meaning (numbered ((k - 512) / 4)))) (lt-ltb k 512 (omega arith))

-- The table means the types of the script and of the basis.
pub rows_mean : (P : Program) (all : List TypeExpr) (rows : List Row) → length all ≤ 512 → InOrder all → HasRows P all rows → HasBasis rows (length all) → RowsMean rows (meaning P all)
rows_mean P all rows few order has basis k n s = go (cases_lt k (length all))
  where
    at_type : (t : TypeExpr) → Has all k (inner t) → head_shape P t ≡ shape.Function n → FunctionLies rows (meaning P all) k
    at_type (tree.int_type p) h e = absurd (let z : ◌≡◌ {A = ℕ} 0 1 = cc in omega arith)
    at_type (tree.bool_type p) h e = absurd (let z : ◌≡◌ {A = ℕ} 0 1 = cc in omega arith)
    at_type (tree.sym_type p) h e = absurd (let z : ◌≡◌ {A = ℕ} 0 1 = cc in omega arith)
    at_type (tree.unit_type p) h e = absurd (let z : ◌≡◌ {A = ℕ} 0 1 = cc in omega arith)
    at_type (tree.datatype x) h e = absurd (let z : ◌≡◌ {A = ℕ} 0 1 = cc in omega arith)
    at_type (tree.function_type_rule p ts t) h e = script_lies P all rows (meaning P all) has (script_meant P all few) k p ts t h

    go : (k < length all) ⊎ (length all ≤ k) → FunctionLies rows (meaning P all) k
    go (inl low) = at_type (expr_at all k) (order k low) (ap (λ (r : Row). r.shape) (sym (has k low)) ∙ s)
    go (inr high) =
        let f = basis.only k n high s in
        subst (FunctionLies rows (meaning P all)) (sym f.1) (basis_lies rows (meaning P all) (length all) basis f.0 (basis_meant P all f.0))
