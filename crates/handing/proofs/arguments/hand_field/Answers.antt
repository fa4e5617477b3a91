use Rattle.std.proofs.Common.{Err, ◌≡◌, ◌+◌, ◌-◌, ◌<◌, ◌≤◌, suc, inl, inr, true, ◌∷◌, ◌++◌, [], map, set, drop, None, sym, ap, ◌∙◌, subst, arith}
use Rattle.std.specs.Option.{SomeIff}
use Rattle.data.specs.Taking.{Out}
use Rattle.data.specs.Trees.{none, more}
use Rattle.handing.proofs.Views.{HandedBy, in_hand, waiting_for, on_field, arguments_next, arguments_done}
use Rattle.machine.proofs.Needs.{entries_fit, no_entries}
use Rattle.machine.proofs.Resting.{renewed, slots_count, by_rule}
use Rattle.machine.specs.Holding.{names, kept, is_full, values_in, trees_in}
use Rattle.machine.specs.Mirrors.{Rests, Moved, moved_any, moved_not}
use Rattle.machine.specs.Waiting.{Waits, waits_field}
use Rattle.machine.specs.declared.frame.Frame.TheVariants.{Field}
use Rattle.program.specs.Compiling.{argument_count}
use Rattle.program.specs.Standing.{past, StandsArguments}
use Rattle.program.specs.declared.code.Code.{Code}
use Rattle.rules.specs.States.{st, finished, next_argument, builds, argument}
use Rattle.rules.specs.Steps.{hand, proceed, apply}
use Rattle.rules.specs.declared.fault.FaultKind.TheVariants.{StackFull}
use Rattle.handing.proofs.arguments.hand_field.Goals as goal

pub returns-then-len-room-clause-law : goal.returns-then-len-room-clause-law
unfolding hand
returns-then-len-room-clause-law g c = λ P Z m₀ f K env a t H.
    let r = c.args.machine.now in
    let m = g.S.CellStore.cells c.args.store.now in
    on_field (HandedBy P Z m₀ K env a t r m (Err StackFull) r m) (waiting_for H)
    (λ p q n k es here o count A w M.
    let R = in_hand H.value M in
    elim (no_entries P Z K env a 1 (proceed P Z p (builds q) (k + 1) es K (argument t ∷ env) a) (omega (arith, slots_count R, R.slots_room, c.if-len-room.true, c.len.ensures.tops))) [
      | inl e ↦ by_rule e moved_any
      | inr e ↦ by_rule e (moved_not M)
    ]) H.mirrored

pub returns-then-next-code-clause-law : goal.returns-then-next-code-clause-law
unfolding hand proceed
returns-then-next-code-clause-law g c = λ P Z m₀ f K env a t H.
    let r = c.args.machine.now in
    let cs = r.script.now.code in
    let m = g.S.CellStore.cells c.args.store.now in
    let inner = argument t ∷ env in
    let pushed = c.in_ok-push.ensures in
    let put = c.replace_top.ensures in
    let past_is : c.code_at-code.result.past ≡ past P cs c.args.at = ap (λ (x : Code). x.past) c.code_at-code.ensures.code in
    let later_is : c.code_at-later.result.past ≡ past P cs c.args.next = ap (λ (x : Code). x.past) c.code_at-later.ensures.code in
    on_field (HandedBy P Z m₀ K env a t r m c.go.result c.go.new.self m) (waiting_for H)
    (λ p q n k es here o count A w M.
    let R = in_hand H.value M in
    let one : suc k ≡ k + 1 = omega arith in
    let below : Waits P cs (drop (k + 1) (names inner)) K H.others = subst (λ i. Waits P cs (drop i (names inner)) K H.others) one w in
    by_rule (entries_fit P Z K env a 1 (proceed P Z p (builds q) (k + 1) es K inner a) (omega (arith, slots_count R, R.slots_room, pushed.fits)))
    (arguments_next (λ xs. n ≡ k + (1 + argument_count xs) → Moved P Z m₀ (st (next_argument p (builds q) k es ∷ K) env (finished t) a) (proceed P Z p (builds q) (k + 1) xs K inner a) c.go.result c.go.new.self m)
    A (subst (λ i. c.args.next < i) past_is c.if-next-code.true)
    (λ e xs X A count. c.go.ensures.law P Z m₀ m _ (next_argument p (builds q) (k + 1) xs ∷ K) inner a e
    (renewed R c.replace_top.new.self c.push.new.self r.taken r.given put.room pushed.room
    (subst (Waits P cs (names inner) (next_argument p (builds q) (k + 1) xs ∷ K)) (sym (put.tops ∙ ap (λ q. set q 0 (Field c.args.at c.code_at-later.result.past)) H.stacked))
    (waits_field here o (omega (arith, count)) (subst (λ j. StandsArguments P cs (None ∷ names inner) xs j (past P cs c.args.at)) (sym later_is) A) below))
    (ap (map is_full) pushed.tops ∙ ap (λ q. true ∷ q) R.full)
    (subst (λ q. Out m (values_in q) (more t (trees_in (env ++ kept K))) m₀) (sym pushed.tops) R.data_held) R.input R.taken R.given) X) count)) H.mirrored

pub returns-in_default : goal.returns-in_default
returns-in_default g c = record {
  steady = record { taken = omega arith; given = omega arith };
  law = λ P Z m₀ f K env a t H.
      let r = c.args.machine.now in
      let m = g.S.CellStore.cells c.args.store.now in
      let code = c.code_at-code.ensures.code in
      on_field (HandedBy P Z m₀ K env a t r m _ r m) (waiting_for H)
      (λ p q n k es here o count A w M. absurd (c.in_default.not-Build q n (ap (λ (x : Code). x.op) code ∙ o))) H.mirrored;
}

pub returns-in_err-held-clause-law : goal.returns-in_err-held-clause-law
returns-in_err-held-clause-law g c = λ P Z m₀ f K env a t H.
    let r = c.args.machine.now in
    let m = g.S.CellStore.cells c.args.store.now in
    let code = c.code_at-code.ensures.code in
    let op = ap (λ (x : Code). x.op) (sym code) ∙ c.in-Build.is in
    let none_held = subst (λ h. SomeIff h (1 ≤ c.in-Build.count) (c.in-Build.count - 1)) c.in_err-held.ensures.ok_part c.checked_sub.ensures in
    on_field (HandedBy P Z m₀ K env a t r m _ r m) (waiting_for H)
    (λ p q n k es here o count A w M. let is : n ≡ c.in-Build.count = cc in absurd (omega (arith, count, is, none_held))) H.mirrored

pub returns-clause-law : goal.returns-clause-law
unfolding hand proceed
returns-clause-law g c = λ P Z m₀ f K env a t H.
    let r = c.args.machine.now in
    let cs = r.script.now.code in
    let m = g.S.CellStore.cells c.args.store.now in
    let m' = g.S.CellStore.cells c.build_last.new.store in
    let code = c.code_at-code.ensures.code in
    let op = ap (λ (x : Code). x.op) (sym code) ∙ c.in-Build.is in
    let past_is : c.code_at-code.result.past ≡ past P cs c.args.at = ap (λ (x : Code). x.past) code in
    let held = c.in_ok-held.held in
    let one_less = subst (λ h. SomeIff h (1 ≤ c.in-Build.count) (c.in-Build.count - 1)) c.in_ok-held.ensures.ok_part c.checked_sub.ensures in
    on_field (HandedBy P Z m₀ K env a t r m c.build_last.result c.build_last.new.machine m') (waiting_for H)
    (λ p q n k es here o count A w M.
    let R = in_hand H.value M in
    let inner = argument t ∷ env in
    let number : n ≡ c.in-Build.count = cc in
    let constructor : q ≡ c.in-Build.constructor = cc in
    by_rule (entries_fit P Z K env a 1 (proceed P Z p (builds q) (k + 1) es K inner a) (omega (arith, slots_count R, R.slots_room, c.if-len-room.false, c.len.ensures.tops, c.room.ensures)))
    (arguments_done (λ xs. n ≡ k + (1 + argument_count xs) → Moved P Z m₀ (st (next_argument p (builds q) k es ∷ K) env (finished t) a) (proceed P Z p (builds q) (k + 1) xs K inner a) c.build_last.result c.build_last.new.machine m')
    A (subst (λ i. i ≤ c.args.next) past_is c.if-next-code.false)
    (λ last.
    let all : k ≡ held = omega (arith, last, number, one_less) in
    let few : held < 6 = omega (arith, R.ready.few c.args.at q n o, last, number) in
    by_rule (ap (λ k. apply P Z p (builds q) (k + 1) K inner a) all ∙ ap (λ q. apply P Z p (builds q) (held + 1) K inner a) constructor)
    (c.build_last.ensures.law P Z m₀ _ K env a p es t _ H.others M
    (subst (λ q. Rests P Z m₀ (next_argument p (builds q) held es ∷ K) env a (c.args.value ∷ []) (more t none) r m) constructor (subst (λ k. Rests P Z m₀ (next_argument p (builds q) k es ∷ K) env a (c.args.value ∷ []) (more t none) r m) all R))
    H.stacked (subst (λ k. Waits P cs (drop k (names env)) K H.others) all w) few)) count)) H.mirrored
