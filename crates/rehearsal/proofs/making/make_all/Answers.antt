use Rattle.std.proofs.Common.{◌≡◌, ◌+◌, ◌-◌, ◌<◌, ◌≤◌, length, take, drop, min, get_or, None, sym, refl, ap, ◌∙◌, subst₂, arith}
use Rattle.std.proofs.lemmas.List.{take_all, length-set, drop-set-lt, drop-drop}
use Rattle.rehearsal.proofs.Growing.{partly_none, partly_more}
use Rattle.rehearsal.specs.Asking.{MadeAll}
use Rattle.rehearsal.specs.declared.asks.Ask.{Ask}
use Rattle.run.proofs.Advancing.{spares_more}
use Rattle.rehearsal.proofs.making.make_all.Goals as goal

pub loop-ask-init : goal.loop-ask-init
loop-ask-init g c = (omega arith, refl, refl, refl, λ o S. partly_none S)

pub slice_bounds-advance-count : goal.slice_bounds-advance-count
slice_bounds-advance-count g c = omega (arith, c.loop-ask.invariant.0)

pub slice_bounds-advance-start : goal.slice_bounds-advance-start
slice_bounds-advance-start g c = omega (arith, c.loop-ask.invariant.0)

pub overflow_sub-ask : goal.overflow_sub-ask
overflow_sub-ask g c = omega (arith, c.loop-ask.invariant.0)

pub loop-ask-preserved : goal.loop-ask-preserved
loop-ask-preserved g c =
    let i = c.loop-ask.ask-index in
    let written = c.loop-ask.written in
    let out = c.loop-ask.out in
    let now = c.loop-ask.asks in
    let I = c.loop-ask.invariant in
    let k = c.min-end.result - written in
    let d : Ask = record { count = 0; room = 0; answer = None } in
    let there : i < length c.args.asks.now = omega (arith, I.2, c.loop-ask-test.true) in
    let fits : written + k ≤ length out = omega (arith, I.0, c.min-end.ensures) in
    let lent : k ≡ min (get_or now i d).room (length out - written) = omega (arith, I.0, c.min-end.ensures, c.saturating_add.ensures) in
    let s = c.advance-answer.ensures.spares in
    let behind = spares_more written k c.advance-answer.result.bytes out out c.advance-answer.new.out fits (record { within = I.0; past = refl; long = refl }) s in (
      omega (arith, behind.within, behind.long),
      behind.long ∙ I.1,
      length-set now i _ ∙ I.2,
      drop-set-lt (i + 1) now i _ (omega arith) ∙ (sym (drop-drop 1 i now) ∙ (ap (drop 1) I.3 ∙ drop-drop 1 i c.args.asks.now)),
      λ o S. partly_more o c.args.asks.now now i written k c.args.out.now out c.advance-answer.new.out c.advance-answer.result d there I.2 I.3 fits I.1 lent s (λ h. c.advance-answer.ensures.law o h) (I.4 o S),
    )

pub returns : goal.returns
returns g c = λ o S.
    let I = c.loop-ask.invariant in
    let P = I.4 o S in
    let all : take c.loop-ask.ask-index c.args.asks.now ≡ c.args.asks.now = take_all c.loop-ask.ask-index c.args.asks.now (omega (arith, I.2)) in
    let all' : take c.loop-ask.ask-index c.loop-ask.asks ≡ c.loop-ask.asks = take_all c.loop-ask.ask-index c.loop-ask.asks (omega arith) in
    (P.history, subst₂ (λ asks after. MadeAll asks after c.args.out.now c.loop-ask.out P.history) all all' P.all, P.stands)
