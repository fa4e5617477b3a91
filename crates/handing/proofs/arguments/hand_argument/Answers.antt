use Rattle.machine.specs.declared.halt.Halt.TheVariants.{Failed}
use Rattle.std.proofs.Common.{Err, ◌≡◌, ◌+◌, ◌<◌, ◌≤◌, suc, inl, inr, true, ◌∷◌, ◌++◌, map, set, drop, None, sym, refl, ap, ◌∙◌, subst, arith}
use Rattle.data.specs.Taking.{Out}
use Rattle.data.specs.Trees.{more}
use Rattle.handing.proofs.Views.{HandedOut, in_hand, waiting_for, on_argument, arguments_next, arguments_done}
use Rattle.machine.proofs.Needs.{entries_fit, no_entries}
use Rattle.machine.proofs.Resting.{renewed, slots_count, silent, by_printing}
use Rattle.machine.specs.Holding.{names, kept, is_full, values_in, trees_in}
use Rattle.machine.specs.Mirrors.{Printed, printed_any, printed_not}
use Rattle.machine.specs.Waiting.{Waits, waits_argument}
use Rattle.machine.specs.declared.frame.Frame.TheVariants.{Argument}
use Rattle.program.specs.Standing.{past, StandsArguments}
use Rattle.program.specs.declared.code.Code.{Code}
use Rattle.rules.specs.States.{st, finished, next_argument, calls, argument}
use Rattle.rules.specs.Steps.{hand, proceed}
use Rattle.rules.specs.declared.fault.FaultKind.TheVariants.{StackFull}
use Rattle.handing.proofs.arguments.hand_argument.Goals as goal

pub returns-then-len-room-clause-law : goal.returns-then-len-room-clause-law
unfolding hand
returns-then-len-room-clause-law c = λ P Z m₀ m f K env a t H speaks.
    let r = c.args.machine.now in
    let out = c.args.out.now in
    subst (λ h. Printed P Z m₀ (st (f ∷ K) env (finished t) a) out (hand P Z f K env a t) (Err h) r m out) (sym c.from.ensures)
    (on_argument (HandedOut P Z m₀ K env a t r m out (Err (Failed StackFull None)) r m out) (waiting_for H)
    (λ p k es here h A w M.
    let R = in_hand H.value M in
    elim (no_entries P Z K env a 1 (proceed P Z p (calls c.args.function) (k + 1) es K (argument t ∷ env) a) (omega (arith, slots_count R, R.slots_room, c.if-len-room.true, c.len.ensures.tops))) [
      | inl e ↦ by_printing e printed_any
      | inr e ↦ by_printing e (printed_not refl M)
    ]) H.mirrored)

pub returns-then-next-past-clause-law : goal.returns-then-next-past-clause-law
unfolding hand proceed
returns-then-next-past-clause-law c = λ P Z m₀ m f K env a t H speaks.
    let r = c.args.machine.now in
    let cs = r.script.now.code in
    let out = c.args.out.now in
    let n = c.args.function in
    let inner = argument t ∷ env in
    let pushed = c.in_ok-push.ensures in
    let put = c.replace_top.ensures in
    let past_is : c.code_at-past.result.past ≡ past P cs c.args.at = ap (λ (x : Code). x.past) c.code_at-past.ensures.code in
    let later_is : c.code_at-later.result.past ≡ past P cs c.args.next = ap (λ (x : Code). x.past) c.code_at-later.ensures.code in
    on_argument (HandedOut P Z m₀ K env a t r m out c.unprinted.result c.go.new.self m out) (waiting_for H)
    (λ p k es here h A w M.
    let R = in_hand H.value M in
    let one : suc k ≡ k + 1 = omega arith in
    let below : Waits P cs (drop (k + 1) (names inner)) K H.others = subst (λ i. Waits P cs (drop i (names inner)) K H.others) one w in
    by_printing (entries_fit P Z K env a 1 (proceed P Z p (calls n) (k + 1) es K inner a) (omega (arith, slots_count R, R.slots_room, pushed.fits)))
    (arguments_next (λ xs. Printed P Z m₀ (st (next_argument p (calls n) k es ∷ K) env (finished t) a) out (proceed P Z p (calls n) (k + 1) xs K inner a) c.unprinted.result c.go.new.self m out)
    A (subst (λ i. c.args.next < i) past_is c.if-next-past.true)
    (λ e xs X A. silent c.unprinted.ensures.same refl (c.go.ensures.law P Z m₀ m _ (next_argument p (calls n) (k + 1) xs ∷ K) inner a e
    (renewed R c.replace_top.new.self c.push.new.self r.taken r.given put.room pushed.room
    (subst (Waits P cs (names inner) (next_argument p (calls n) (k + 1) xs ∷ K)) (sym (put.tops ∙ ap (λ q. set q 0 (Argument c.args.at c.code_at-later.result.past c.one_more.result n)) H.stacked))
    (waits_argument here (c.one_more.ensures k h) (subst (λ j. StandsArguments P cs (None ∷ names inner) xs j (past P cs c.args.at)) (sym later_is) A) below))
    (ap (map is_full) pushed.tops ∙ ap (λ q. true ∷ q) R.full)
    (subst (λ q. Out m (values_in q) (more t (trees_in (env ++ kept K))) m₀) (sym pushed.tops) R.data_held) R.input R.taken R.given) X)))) H.mirrored

pub returns-clause-law : goal.returns-clause-law
unfolding hand proceed
returns-clause-law c = λ P Z m₀ m f K env a t H speaks.
    let r = c.args.machine.now in
    let cs = r.script.now.code in
    let out = c.args.out.now in
    let n = c.args.function in
    let past_is : c.code_at-past.result.past ≡ past P cs c.args.at = ap (λ (x : Code). x.past) c.code_at-past.ensures.code in
    on_argument (HandedOut P Z m₀ K env a t r m out c.call.result c.call.new.machine m c.call.new.out) (waiting_for H)
    (λ p k es here h A w M.
    let R = in_hand H.value M in
    by_printing (entries_fit P Z K env a 1 (proceed P Z p (calls n) (k + 1) es K (argument t ∷ env) a) (omega (arith, slots_count R, R.slots_room, c.if-len-room.false, c.len.ensures.tops, c.room.ensures)))
    (arguments_done (λ xs. Printed P Z m₀ (st (next_argument p (calls n) k es ∷ K) env (finished t) a) out (proceed P Z p (calls n) (k + 1) xs K (argument t ∷ env) a) c.call.result c.call.new.machine m c.call.new.out)
    A (subst (λ i. i ≤ c.args.next) past_is c.if-next-past.false)
    (c.call.ensures.law P Z m₀ m _ k K env a p es t _ H.others M R H.stacked w here h (omega (arith, c.if-len-room.false, c.len.ensures.tops, c.room.ensures)) speaks))) H.mirrored
