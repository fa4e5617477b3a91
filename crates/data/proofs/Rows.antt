-- The used fields of a record, from one place on: a walk goes through them from the last to the first.
use Rattle.std.proofs.Common.{◌≡◌, ℕ, ◌+◌, ◌-◌, ◌<◌, ◌≤◌, [], ◌∷◌, get_or, take, drop, ap, ◌∙◌, arith}
use Rattle.std.proofs.lemmas.List.{drop_more, drop_all, drop-set-lt, get_or-take, get_or-set_same}
use Rattle.std.proofs.Math.Seq.{take-set-lt}
use Rattle.cells.specs.declared.values.Value.{Value}
use Rattle.cells.specs.declared.records.CellRecord.{CellRecord}
use Rattle.cells.specs.Records.{row, FieldPut}
use Rattle.cells.proofs.RecordLaws.{length_row}

-- from past the last one on there are none
pub row_end : (r : CellRecord) (i : ℕ) → r.used ≤ i → drop i (row r) ≡ []
row_end r i h = drop_all i (row r) (omega (arith, length_row r))

-- from the first one on there are all
pub row_all : (r : CellRecord) (i : ℕ) → i ≤ 0 → drop i (row r) ≡ row r
row_all r i h = let z : i ≡ 0 = omega arith in ap (λ n. drop n (row r)) z

-- one field more
pub row_back : (r : CellRecord) (i : ℕ) (d : Value) → 0 < i → i ≤ r.used → drop (i - 1) (row r) ≡ get_or r.fields (i - 1) d ∷ drop i (row r)
row_back r i d p l =
    let s : i - 1 + 1 ≡ i = omega arith in
    drop_more (row r) (i - 1) d (omega (arith, length_row r))
    ∙ (ap (λ v. v ∷ drop (i - 1 + 1) (row r)) (get_or-take r.used r.fields (i - 1) d (omega arith)) ∙ ap (λ n. get_or r.fields (i - 1) d ∷ drop n (row r)) s)

-- one field more, after it was replaced
pub row_put : (r q : CellRecord) (i : ℕ) (v : Value) → FieldPut r (i - 1) v q → 0 < i → i ≤ r.used → drop (i - 1) (row q) ≡ v ∷ drop i (row r)
row_put r q i v put p l =
    let here : get_or q.fields (i - 1) v ≡ v = ap (λ vs. get_or vs (i - 1) v) put.fields_are ∙ get_or-set_same r.fields (i - 1) v v (omega (arith, r.six, r.few)) in
    let later : drop i (row q) ≡ drop i (row r) =
    ap (λ n. drop i (take n q.fields)) put.used_is ∙ (ap (λ vs. drop i (take r.used vs)) put.fields_are ∙ (ap (λ vs. drop i vs) (take-set-lt r.used r.fields (i - 1) v (omega arith)) ∙ drop-set-lt i (row r) (i - 1) v (omega arith))) in
    row_back q i v p (omega (arith, put.used_is)) ∙ (ap (λ x. x ∷ drop i (row q)) here ∙ ap (λ vs. v ∷ vs) later)
