-- One advance more.
use Rattle.std.proofs.Common.{◌≡◌, ℕ, List, [], ◌∷◌, ◌++◌, refl, ap}
use Rattle.cases.specs.declared.case.Advance.{Advance}
use Rattle.cases.specs.Written.{advance_then, advances_then}

pub advances_then_more : (advances : List Advance) (a : Advance) (rest : List ℕ) → advances_then (advances ++ a ∷ []) rest ≡ advances_then advances (advance_then a rest)
advances_then_more [] a rest = refl
advances_then_more (b ∷ advances) a rest = ap (advance_then b) (advances_then_more advances a rest)
