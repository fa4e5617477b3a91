-- The fields of a record: values filled in, and how many are used.
use Rattle.std.proofs.Common.{◌≡◌, ℕ, zero, suc, ◌-◌, ◌≤◌, true, List, [], ◌∷◌, ◌++◌, length, drop, replicate, refl, ap, ◌∙◌, arith}
use Rattle.std.proofs.lemmas.List.{drop-replicate, length-take-le, length-append, length-replicate}
use Rattle.cells.specs.declared.values.Value.{Value}
use Rattle.cells.specs.declared.values.Value.TheVariants.{Unit as Nothing}
use Rattle.cells.specs.declared.records.CellRecord.{CellRecord}
use Rattle.cells.specs.Values.{all_unit}
use Rattle.cells.specs.Records.{row}

-- values copied to the front of six units
pub filled : (front vs : List Value) → front ≡ vs → front ++ drop (length vs) (replicate 6 Nothing) ≡ vs ++ replicate (6 - length vs) Nothing
filled front vs e = ap (λ f. f ++ drop (length vs) (replicate 6 Nothing)) e ∙ ap (λ rest. vs ++ rest) (drop-replicate (length vs) 6 Nothing)

pub filled_six : (vs : List Value) → length vs ≤ 6 → length (vs ++ replicate (6 - length vs) Nothing) ≡ 6
filled_six vs few = length-append vs (replicate (6 - length vs) Nothing) ∙ omega (arith, length-replicate (6 - length vs) Nothing)

all_unit_law : (n : ℕ) → all_unit (replicate n Nothing) ≡ true
all_unit_law zero = refl
all_unit_law (suc n) = all_unit_law n

past : (vs us : List Value) → drop (length vs) (vs ++ us) ≡ us
past [] us = refl
past (v ∷ vs) us = past vs us

-- what is left is unit
pub filled_rest : (vs : List Value) → all_unit (drop (length vs) (vs ++ replicate (6 - length vs) Nothing)) ≡ true
filled_rest vs = ap all_unit (past vs (replicate (6 - length vs) Nothing)) ∙ all_unit_law (6 - length vs)

-- a record uses as many fields as it says
pub length_row : (r : CellRecord) → length (row r) ≡ r.used
length_row r = length-take-le r.used r.fields (omega (arith, r.few, r.six))
