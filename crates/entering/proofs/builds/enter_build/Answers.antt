use Rattle.std.proofs.Common.{◌≡◌, ◌+◌, None, ◌∷◌, sym, refl, ap, subst, arith}
use Rattle.entering.proofs.Views.{construct_none, construct_some}
use Rattle.machine.proofs.Resting.{entered}
use Rattle.machine.specs.Holding.{names}
use Rattle.machine.specs.Mirrors.{Moved}
use Rattle.machine.specs.Waiting.{waits_field}
use Rattle.program.specs.Standing.{past, StandsArguments}
use Rattle.program.specs.declared.code.Code.{Code}
use Rattle.rules.specs.States.{st, enter, next_argument, builds}
use Rattle.entering.proofs.builds.enter_build.Goals as goal

pub returns-then-count-eq0-clause-law : goal.returns-then-count-eq0-clause-law
returns-then-count-eq0-clause-law g c = λ P Z m₀ K env a e p es M here op count S.
    construct_none P Z p c.args.constructor K env a (λ o. Moved P Z m₀ (st K env (enter e) a) o c.build_bare.result c.build_bare.new.machine (g.S.CellStore.cells c.build_bare.new.store)) es (omega arith)
    (c.build_bare.ensures.law P Z m₀ K env a e M)

pub returns-clause-law : goal.returns-clause-law
returns-clause-law g c = λ P Z m₀ K env a e p es M here op count S.
    let cs = c.args.machine.now.script.now.code in
    let at = c.args.at in
    let k = c.args.constructor in
    let first : c.code_at-first.result.past ≡ past P cs (at + 1) = ap (λ (x : Code). x.past) c.code_at-first.ensures.code in
    let next : c.code_at-next.result.past ≡ past P cs c.code_at-first.result.past = ap (λ (x : Code). x.past) c.code_at-next.ensures.code in
    construct_some P Z p k K env a (λ o. Moved P Z m₀ (st K env (enter e) a) o c.wait.result c.wait.new.self (g.S.CellStore.cells c.args.store.now))
    (subst (λ i. StandsArguments P cs (names env) es i (past P cs at)) (sym first) S) (omega arith)
    (λ x xs n l X r. c.wait.ensures.law P Z m₀ _ (st K env (enter e) a) K env env a (next_argument p (builds k) 0 xs) x M (entered M) (record {
      stands = X;
      waits = λ fs w. waits_field here op (omega arith) (subst (λ j. StandsArguments P cs (None ∷ names env) xs j (past P cs at)) (sym next) r) w;
      same = refl;
    }))
