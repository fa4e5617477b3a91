-- The refusals of a walk, by number.
use Rattle.std.specs.Prelude.{◌≡◌, ℕ, Ok, Err, Result}
use Rattle.data.specs.declared.refusals.WalkRefusal.{WalkRefusal}
use Rattle.data.specs.declared.refusals.WalkRefusal.TheVariants.{NoFreeCell, Stuck}

abbrev pub refusal_number : WalkRefusal → ℕ
refusal_number NoFreeCell = 22
refusal_number Stuck = 36

-- no refusal but to be stuck
abbrev pub OnlyStuck : {X : Type 0} → Result X WalkRefusal → Type 0
OnlyStuck (Ok x) = Unit {0}
OnlyStuck (Err e) = e ≡ Stuck

-- what holds of an answer that is not a refusal; none is
abbrev pub Okay : {X E : Type 0} → Result X E → (X → Type 0) → Type 0
Okay (Ok x) P = P x
Okay (Err e) P = ⊥
