use Rattle.std.proofs.Common.{[], sym, refl, subst}
use Rattle.std.specs.List.{slice_get}
use Rattle.entering.proofs.Views.{val_as}
use Rattle.machine.proofs.Resting.{entered}
use Rattle.machine.specs.Mirrors.{Moved, moved_any}
use Rattle.machine.specs.Waiting.{waits_body}
use Rattle.program.specs.Standing.{StandsAt}
use Rattle.rules.specs.States.{body_value, st, enter}
use Rattle.entering.proofs.lookups.enter_val.Goals as goal

pub returns-clause-law : goal.returns-clause-law
returns-clause-law c = λ P Z m₀ m K env a e p M at.
    let R = entered M in
    let r = c.args.machine.now in
    val_as P Z p K env a (λ o. Moved P Z m₀ (st K env (enter e) a) o c.wait.result c.wait.new.self m) (slice_get P.vals c.args.number) moved_any
    (λ v is. c.wait.ensures.law P Z m₀ m (st K env (enter e) a) K env [] a (body_value p env) v.expr M R (record {
      stands = subst (StandsAt P r.script.now.code [] v.expr) (sym c.val_at-node.ensures) (R.ready.lays.vals c.args.number v is);
      waits = λ fs w. waits_body at refl w;
      same = refl;
    }))
