use Rattle.std.proofs.Common.{◌≡◌, ◌+◌, ◌-◌, ◌≤◌, min, arith}
use Rattle.std.proofs.lemmas.Bool.{eqb-true, eq-eqb}
use Rattle.rules.specs.Runs.{allowed}
use Rattle.run.proofs.Settling.{stands_faulted, inside_at_first, settled, steady_settled}
use Rattle.run.specs.Openings.{run_after}
use Rattle.run.proofs.advances.advance.Goals as goal

pub returns-in-Some-clause-law : goal.returns-in-Some-clause-law
returns-in-Some-clause-law g c = λ o h S. stands_faulted o h S c.args.count _ c.in-Some.fault c.in-Some.is

pub returns-clause-steady : goal.returns-clause-steady
returns-clause-steady g c = steady_settled c.end_by.ensures (omega (arith, c.saturating_add-run.ensures)) c.go_on-stretch.ensures.steady

pub returns-clause-law : goal.returns-clause-law
returns-clause-law g c =
    λ o h S.
    let stretch = c.go_on-stretch.result in
    let limit : c.min.result ≡ min c.args.count (c.args.run.now.allowance - c.args.run.now.steps) = omega (arith, c.min.ensures, c.saturating_sub-left.ensures) in
    let within : (run_after o h).steps + c.min.result ≤ allowed o.allowance = omega (arith, limit, S.inside.allowance, S.inside.steps, S.inside.within) in
    let n : c.saturating_add-run.result ≡ c.args.run.now.steps + stretch.steps = omega (arith, c.saturating_add-run.ensures, limit, S.inside.allowance, S.inside.steps, S.inside.within, c.go_on-stretch.ensures.within) in
    settled o h S c.args.count c.in_default.is c.min.result c.saturating_add-run.result limit c.args.out.now _ stretch c.go_on-stretch.new.out c.go_on-stretch.new.machine (g.S.CellStore.cells c.go_on-stretch.new.store)
    (c.go_on-stretch.ensures.law o (run_after o h) c.args.count (inside_at_first o h S c.args.count c.in_default.is) within (omega (arith, limit))) n (λ b. eqb-true stretch.steps c.args.count b) (λ e. eq-eqb stretch.steps c.args.count e) c.end_by.ensures
