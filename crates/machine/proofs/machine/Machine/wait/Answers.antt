use Rattle.std.proofs.Common.{sym, refl, subst, arith}
use Rattle.machine.specs.Holding.{names}
use Rattle.machine.specs.Waiting.{Waits}
use Rattle.machine.proofs.Needs.{waits_fit, waits_full}
use Rattle.machine.proofs.Resting.{reframed, waiting_count, unmoved, by_rule, faulted}
use Rattle.machine.proofs.machine.Machine.wait.Goals as goal

pub returns-in_err-push-clause-law : goal.returns-in_err-push-clause-law
returns-in_err-push-clause-law c = λ P Z m₀ m s K env env' a f e M R O.
    let count = waiting_count R in
    let room = R.frames_room in
    let same = c.in_err-push.ensures in
    by_rule (waits_full P Z f e K env' a (omega arith)) (faulted c.from_residual.result c.from_residual.ensures.1 (unmoved M c.push.new.self c.args.self.now.slots same.room same.tops refl refl))

pub returns-clause-law : goal.returns-clause-law
returns-clause-law c = λ P Z m₀ m s K env env' a f e M R O.
    let count = waiting_count R in
    let room = R.frames_room in
    let pushed = c.in_ok-push.ensures in
    let r = c.args.self.now in
    by_rule (waits_fit P Z f e K env' a (omega arith))
    (c.go.ensures.law P Z m₀ m s _ env' a e (reframed R c.push.new.self pushed.room (subst (Waits P r.script.now.code (names env') _) (sym pushed.tops) (O.waits _ R.frames)) O.same) (search O.stands))
