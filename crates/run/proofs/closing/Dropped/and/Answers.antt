use Rattle.std.proofs.Common.{◌≡◌, refl, arith}
use Rattle.data.proofs.Moves.{drop_held}
use Rattle.data.specs.Trees.{size}
use Rattle.run.proofs.closing.Dropped.and.Goals as goal

pub returns-in-Ok-clause-law : goal.returns-in-Ok-clause-law
returns-in-Ok-clause-law g c = λ m₀ vs t ts O.
    let h = drop_held c.in-Ok.ensures O in
    let is = h.0 in
    let number : c.in-Ok.count ≡ size t = cc in
    (record { given = omega (arith, c.saturating_add.ensures, number); stuck = refl }, h.1)

pub returns-in-Err-clause-law : goal.returns-in-Err-clause-law
returns-in-Err-clause-law g c = λ m₀ vs t ts O. absurd (let h = (drop_held c.in-Err.ensures O).0 in cc)
