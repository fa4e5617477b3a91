use Rattle.std.proofs.Common.{◌≡◌, ◌+◌, ◌<◌, ◌≤◌, ◌∷◌, set, None, sym, refl, ap, ◌∙◌, subst}
use Rattle.handing.proofs.Tests.{no_head, tree_function}
use Rattle.handing.proofs.Views.{HandedOut, in_hand, waiting_for, on_head, arguments_next, arguments_done}
use Rattle.machine.proofs.Resting.{renewed, silent, by_printing, in_hand_law}
use Rattle.machine.specs.Holding.{names}
use Rattle.machine.specs.Mirrors.{Printed, printed_any}
use Rattle.machine.specs.Waiting.{Waits, waits_argument}
use Rattle.machine.specs.declared.frame.Frame.TheVariants.{Argument}
use Rattle.machine.specs.declared.frame.Held.TheVariants as held
use Rattle.program.specs.Standing.{past, StandsArguments}
use Rattle.program.specs.declared.code.Code.{Code}
use Rattle.rules.specs.States.{st, finished, head_value, next_argument, calls}
use Rattle.rules.specs.Steps.{hand, head_handed, proceed}
use Rattle.handing.proofs.arguments.hand_head.Goals as goal

pub returns-in_default-clause-law : goal.returns-in_default-clause-law
unfolding hand
returns-in_default-clause-law c = λ P Z m₀ m f K env a t H.
    let r = c.args.machine.now in
    let out = c.args.out.now in
    on_head (HandedOut P Z m₀ K env a t r m out _ r m out) (waiting_for H)
    (λ p es here A w M. by_printing (no_head P Z p K env a es t c.in_default.not-Function (in_hand H.value M).data_held) printed_any) H.mirrored

pub returns-then-first-past-clause-law : goal.returns-then-first-past-clause-law
unfolding hand head_handed proceed
returns-then-first-past-clause-law c = λ P Z m₀ m f K env a t H.
    let r = c.args.machine.now in
    let cs = r.script.now.code in
    let out = c.args.out.now in
    let n = c.in-Function.function in
    let put = c.replace_top.ensures in
    let past_is : c.code_at-past.result.past ≡ past P cs c.args.at = ap (λ (x : Code). x.past) c.code_at-past.ensures.code in
    let first_is : c.code_at-first.result.past ≡ past P cs (c.args.at + 1) = ap (λ (x : Code). x.past) c.code_at-first.ensures.code in
    let next_is : c.code_at-next.result.past ≡ past P cs c.code_at-first.result.past = ap (λ (x : Code). x.past) c.code_at-next.ensures.code in
    on_head (HandedOut P Z m₀ K env a t r m out c.unprinted.result c.go.new.self m out) (waiting_for H)
    (λ p es here A w M.
    let R = in_hand H.value M in
    let d = tree_function c.in-Function.is R.data_held in
    by_printing (ap (head_handed P Z p es K env a) d.0)
    (arguments_next (λ xs. Printed P Z m₀ (st (head_value p es ∷ K) env (finished t) a) out (proceed P Z p (calls n) 0 xs K env a) c.unprinted.result c.go.new.self m out)
    (subst (λ i. StandsArguments P cs (names env) es i (past P cs c.args.at)) (sym first_is) A) (subst (λ i. c.code_at-first.result.past < i) past_is c.if-first-past.true)
    (λ e es X A. silent c.unprinted.ensures.same refl (c.go.ensures.law P Z m₀ m _ (next_argument p (calls n) 0 es ∷ K) env a e
    (renewed R c.replace_top.new.self r.slots r.taken r.given put.room refl
    (subst (Waits P cs (names env) (next_argument p (calls n) 0 es ∷ K)) (sym (put.tops ∙ ap (λ q. set q 0 (Argument c.args.at c.code_at-next.result.past held.None n)) H.stacked))
    (waits_argument here refl (subst (λ j. StandsArguments P cs (None ∷ names env) es j (past P cs c.args.at)) (sym next_is) A) w)) R.full d.1 R.input R.taken R.given) X)))) H.mirrored

pub returns-clause-law : goal.returns-clause-law
unfolding hand head_handed proceed
returns-clause-law c = λ P Z m₀ m f K env a t H.
    let r = c.args.machine.now in
    let cs = r.script.now.code in
    let out = c.args.out.now in
    let n = c.in-Function.function in
    let past_is : c.code_at-past.result.past ≡ past P cs c.args.at = ap (λ (x : Code). x.past) c.code_at-past.ensures.code in
    let first_is : c.code_at-first.result.past ≡ past P cs (c.args.at + 1) = ap (λ (x : Code). x.past) c.code_at-first.ensures.code in
    on_head (HandedOut P Z m₀ K env a t r m out c.call_bare.result c.call_bare.new.machine m c.call_bare.new.out) (waiting_for H)
    (λ p es here A w M.
    let R = in_hand H.value M in
    let d = tree_function c.in-Function.is R.data_held in
    by_printing (ap (head_handed P Z p es K env a) d.0)
    (arguments_done (λ xs. Printed P Z m₀ (st (head_value p es ∷ K) env (finished t) a) out (proceed P Z p (calls n) 0 xs K env a) c.call_bare.result c.call_bare.new.machine m c.call_bare.new.out)
    (subst (λ i. StandsArguments P cs (names env) es i (past P cs c.args.at)) (sym first_is) A) (subst (λ i. i ≤ c.code_at-first.result.past) past_is c.if-first-past.false)
    (c.call_bare.ensures.law P Z m₀ m _ K env a p es t _ H.others M (in_hand_law (sym c.in-Function.is) R) H.stacked w here))) H.mirrored
