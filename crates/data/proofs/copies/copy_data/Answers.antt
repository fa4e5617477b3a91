use borrow.Author.Tests.{tests}
use Rattle.std.proofs.Common.{◌≡◌, Ok, Err, MatchResult, refl, arith, rules}
use Rattle.data.proofs.Outs.{out_count}
use Rattle.data.proofs.Copying.{cell_copied, cell_refused, copying_start, copying_turn, copying_stopped, never_stopped, copying_open, copies_refused, nothing_new, root_copied, copies_whole, turn_told, turn_whole, turn_stopped}
use Rattle.data.proofs.copies.copy_data.Goals as goal

pub walk-init : goal.walk-init
walk-init g c =
    let told : MatchResult c.copy_cell.result (λ k. c.map_err.result ≡ Ok k) (λ _. c.map_err.result ≡ Err (record { waiting = 65535; finished = 65535 })) = search (rules, tests) in
    copying_start (g.S.CellStore.small c.args.store.now) (cell_copied c.args.number 65535 (record { waiting = 65535; finished = 65535 }) _ _ told c.in_ok-first.was c.copy_cell.ensures)

pub returns-in_err-first : goal.returns-in_err-first
returns-in_err-first g c =
    let told : MatchResult c.copy_cell.result (λ k. c.map_err.result ≡ Ok k) (λ _. c.map_err.result ≡ Err (record { waiting = 65535; finished = 65535 })) = search (rules, tests) in
    let refused = cell_refused c.args.number 65535 (record { waiting = 65535; finished = 65535 }) _ _ told c.in_err-first.was c.copy_cell.ensures in
    let answer : c.from_residual.result ≡ Err c.in_err-first.field-0.0 = search rules in
    rw (answer, refused.0, refused.1) (copies_refused (nothing_new _) refl refl (λ ts m₀ o room. root_copied ts m₀ refused.2 o room))

pub returns-then-count-limit : goal.returns-then-count-limit
returns-then-count-limit g c =
    copies_refused c.walk.invariant.parts refl refl
    (λ ts m₀ o room. omega (arith, copying_open ts m₀ c.walk-test.true c.walk.invariant o, out_count o, c.live_count-limit.ensures, c.if-count-limit.true))

pub returns-in_err-top : goal.returns-in_err-top
returns-in_err-top g c =
    let small = g.S.CellStore.small c.walk.store in
    let told = turn_told c.walk.waiting c.copy_turn.result c.map_err-in-walk.result (search (rules, tests)) in
    let stopped = turn_stopped told c.in_err-top.was in
    let does = rw stopped.0 at c.copy_turn.ensures in
    let answer : c.from_residual-in_err-top.result ≡ Err c.in_err-top.field-0.0 = search rules in
    rw answer
    (copies_refused (copying_stopped small c.walk-test.true does c.walk.invariant) refl stopped.1
    (λ ts m₀ o room. never_stopped ts m₀ small c.walk-test.true does c.walk.invariant o room))

pub walk-preserved : goal.walk-preserved
walk-preserved g c =
    let told = turn_told c.walk.waiting c.copy_turn.result c.map_err-in-walk.result (search (rules, tests)) in
    let whole = turn_whole told c.in_ok-top.was in
    copying_turn (g.S.CellStore.small c.walk.store) c.walk-test.true (rw whole at c.copy_turn.ensures) c.walk.invariant

pub returns : goal.returns
returns g c = copies_whole _ (cc) c.walk-test.false c.walk.invariant
