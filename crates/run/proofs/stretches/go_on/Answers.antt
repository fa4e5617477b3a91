use Rattle.std.proofs.Common.{rules, ◌≡◌, ◌-◌, ◌<◌, ◌≤◌, ◌≢◌, length, take, drop, Ok, Err, inl, inr, refl, subst, arith}
use Rattle.machine.specs.Mirrors.{Printed}
use Rattle.machine.specs.declared.control.Control.TheVariants.{Over}
use Rattle.program.specs.Programs.{program}
use Rattle.rules.specs.Runs.{main_of}
use Rattle.rules.specs.Steps.{step}
use Rattle.run.proofs.Advancing.{up_to_end, spares_more, steady_then, underway_more}
use Rattle.run.proofs.Tests.{has_stepped}
use Rattle.run.specs.Insides.{Underway, rested, halted, Spares}
use Rattle.run.specs.Openings.{sizes_of}
use Rattle.run.proofs.stretches.go_on.Goals as goal

pub returns-then-is_over-clause-law : goal.returns-then-is_over-clause-law
returns-then-is_over-clause-law g c =
    let over : c.loop-steps.machine.control ≡ Over = search rules in
    let spares = c.loop-steps.invariant.0 in
    λ o r count I w m. rested (c.loop-steps.invariant.2 o r count I w m) spares.long (omega (arith, spares.within, spares.long)) (inl over)

pub returns-clause-law : goal.returns-clause-law
returns-clause-law g c =
    let spares = c.loop-steps.invariant.0 in
    let all : c.loop-steps.steps ≡ c.args.most = omega arith in
    λ o r count I w m.
    rested (subst (λ n. Underway o r count (length c.args.out.now) n c.loop-steps.bytes c.loop-steps.out c.loop-steps.machine (g.S.CellStore.cells c.loop-steps.store)) all (c.loop-steps.invariant.2 o r count I w m)) spares.long
    (omega (arith, spares.within, spares.long)) (inr refl)

pub returns-in-Err-clause-law : goal.returns-in-Err-clause-law
returns-in-Err-clause-law g c =
    let going : c.loop-steps.machine.control ≢ Over = search rules in
    let spares = c.loop-steps.invariant.0 in
    let some : c.loop-steps.steps < c.args.most = omega arith in
    λ o r count I w m.
    let P = program o.script in
    let U = c.loop-steps.invariant.2 o r count I w m in
    let printed = subst (λ p. Printed P (sizes_of o) o.cells U.here.state p (step P (sizes_of o) (main_of P) U.here.state) (Err c.in-Err.halt) c.step.new.machine (g.S.CellStore.cells c.step.new.store) c.step.new.out) (up_to_end c.loop-steps.bytes c.loop-steps.out)
    (c.in-Err.ensures.law P (sizes_of o) o.cells U.here.state U.inside.mirrored U.inside.spoken) in
    halted U spares.long (omega (arith, spares.within, spares.long)) some going printed refl

pub loop-steps-preserved : goal.loop-steps-preserved
loop-steps-preserved g c =
    let going : c.loop-steps.machine.control ≢ Over = search rules in
    let out = c.loop-steps.out in
    let bytes = c.loop-steps.bytes in
    let steps = c.loop-steps.steps in
    let J = c.loop-steps.invariant in
    let within : bytes ≤ length out = omega (arith, J.0.within, J.0.long) in
    let some : steps < c.args.most = omega arith in
    let spares : Spares c.in-Ok.printed (take (length out - bytes) (drop bytes out)) c.step.new.out = record { within = c.in-Ok.ensures.spares.within; past = c.in-Ok.ensures.spares.past; long = c.in-Ok.ensures.spares.long } in
    let part = subst (λ p. Spares c.in-Ok.printed p c.step.new.out) (up_to_end bytes out) spares in (
      spares_more bytes (length out - bytes) c.in-Ok.printed c.args.out.now out c.step.new.out (omega arith) J.0 spares,
      steady_then J.1 c.in-Ok.ensures.steady,
      λ o r count I w m.
          let P = program o.script in
          let U = J.2 o r count I w m in
          let printed = subst (λ p. Printed P (sizes_of o) o.cells U.here.state p (step P (sizes_of o) (main_of P) U.here.state) (Ok c.in-Ok.printed) c.step.new.machine (g.S.CellStore.cells c.step.new.store) c.step.new.out) (up_to_end bytes out)
          (c.in-Ok.ensures.law P (sizes_of o) o.cells U.here.state U.inside.mirrored U.inside.spoken) in
          let left : count - steps ≢ 0 = λ e. absurd (omega (arith, e, some, m)) in
          let T = has_stepped o U.inside (count - steps) (drop bytes out) refl going left (omega (arith, U.counted, some, w)) refl printed in
          underway_more o r count (length c.args.out.now) steps bytes out J.0.long within U (g.S.CellStore.cells c.step.new.store) c.step.new.machine (omega (arith, some, m)) part.long (omega (arith, part.within, part.long)) T,
    )
