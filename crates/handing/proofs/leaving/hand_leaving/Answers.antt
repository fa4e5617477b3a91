use Rattle.data.specs.Trees.{more, none, sizes}
use Rattle.handing.proofs.Ends.{body_left, gone, left_rests, names_drop, names_length, scope_left}
use Rattle.handing.proofs.Views.{HandedBy, in_hand, on_body, on_leaving, waiting_for}
use Rattle.machine.proofs.Resting.{by_rule, changed}
use Rattle.machine.specs.Holding.{capped, kept, names, trees_in}
use Rattle.machine.specs.Mirrors.{moved_any}
use Rattle.machine.specs.Waiting.{Waits}
use Rattle.rules.specs.States.{body_value, environment_size, gives}
use Rattle.rules.specs.Steps.{finish, hand, hand_end}
use Rattle.std.proofs.Common.{[], ap, arith, drop, inl, inr, min, refl, subst, sym, take, ◌++◌, ◌+◌, ◌∙◌, ◌∷◌, ◌≡◌}
use Rattle.std.proofs.lemmas.List.{length-append}
use Rattle.handing.proofs.leaving.hand_leaving.Goals as goal

pub returns-in_err-number-clause-law : goal.returns-in_err-number-clause-law
unfolding hand hand_end
returns-in_err-number-clause-law g c = λ P Z m₀ f K env a t H.
    let r = c.args.machine.now in
    let m = g.S.CellStore.cells c.args.store.now in
    on_leaving (HandedBy P Z m₀ K env a t r m _ (changed r r.frames c.leave.new.slots r.control r.taken r.given) (g.S.CellStore.cells c.leave.new.store)) (waiting_for H)
    (λ p here w M. elim (gone c.args.count env) [
      | inl e ↦ by_rule (ap (hand_end P Z K a t) e) moved_any
      | inr q ↦
          let L = c.leave.ensures.law m₀ (c.args.value ∷ []) (more t none) (env ++ kept K) (omega (arith, q.within, length-append env (kept K))) refl (in_hand H.value M).data_held in
          let is = L.given in
          let none = c.in_err-number.ensures.ok_part in
          absurd (cc)
    ]) H.mirrored

pub returns-clause-law : goal.returns-clause-law
unfolding hand hand_end finish
returns-clause-law g c = λ P Z m₀ f K env a t H.
    let r = c.args.machine.now in
    let cs = r.script.now.code in
    let m = g.S.CellStore.cells c.args.store.now in
    let m' = g.S.CellStore.cells c.leave.new.store in
    let n = c.args.count in
    let cut = c.cut.ensures in
    on_leaving (HandedBy P Z m₀ K env a t r m c.finish.result c.finish.new.self m') (waiting_for H)
    (λ p here w M. elim (gone n env) [
      | inl e ↦ by_rule (ap (hand_end P Z K a t) e) moved_any
      | inr q ↦
          let R = in_hand H.value M in
          let number = sizes (trees_in (take n env)) in
          let L = c.leave.ensures.law m₀ (c.args.value ∷ []) (more t none) (env ++ kept K) (omega (arith, q.within, length-append env (kept K))) refl R.data_held in
          let S = scope_left n env K q.within in
          let is = L.given in
          let there = c.in_ok-number.ensures.ok_part in
          let count : c.in_ok-number.number ≡ capped (sizes (trees_in (take n (env ++ kept K)))) = cc in
          let added : c.saturating_add-machine.result ≡ min (r.given + c.in_ok-number.number) 18446744073709551615 = search c.saturating_add-machine.ensures in
          by_rule (ap (hand_end P Z K a t) q.is)
          (c.finish.ensures.law P Z m₀ m' _ K (drop n env) (gives number a) t
          (left_rests R n (drop n env) number c.cut.new.self c.leave.new.slots c.saturating_add-machine.result S.0 S.1 L c.leave.ensures.room cut.room
          (subst (Waits P cs (names (drop n env)) K) (sym (cut.tops ∙ ap (drop 1) H.stacked)) (subst (λ G. Waits P cs G K H.others) (sym (names_drop n env)) w))
          (added ∙ ap (λ x. min (r.given + x) 18446744073709551615) (count ∙ ap capped S.1))))
    ]) H.mirrored

pub returns-in_err-number-clause-body : goal.returns-in_err-number-clause-body
unfolding hand
returns-in_err-number-clause-body g c = λ P Z m₀ f K env a t H.
    let r = c.args.machine.now in
    let m = g.S.CellStore.cells c.args.store.now in
    on_body (HandedBy P Z m₀ K env a t r m _ (changed r r.frames c.leave.new.slots r.control r.taken r.given) (g.S.CellStore.cells c.leave.new.store)) (waiting_for H)
    (λ p outer here n w M.
    let L = c.leave.ensures.law m₀ (c.args.value ∷ []) (more t none) (env ++ kept (body_value p outer ∷ K)) (omega (arith, n, names_length env, length-append env (kept (body_value p outer ∷ K)))) refl (in_hand H.value M).data_held in
    let is = L.given in
    let none = c.in_err-number.ensures.ok_part in
    absurd (cc)) H.mirrored

pub returns-clause-body : goal.returns-clause-body
unfolding hand finish
returns-clause-body g c = λ P Z m₀ f K env a t H.
    let r = c.args.machine.now in
    let cs = r.script.now.code in
    let m = g.S.CellStore.cells c.args.store.now in
    let m' = g.S.CellStore.cells c.leave.new.store in
    let n = c.args.count in
    let cut = c.cut.ensures in
    on_body (HandedBy P Z m₀ K env a t r m c.finish.result c.finish.new.self m') (waiting_for H)
    (λ p outer here many w M.
    let R = in_hand H.value M in
    let es = env ++ kept (body_value p outer ∷ K) in
    let L = c.leave.ensures.law m₀ (c.args.value ∷ []) (more t none) es (omega (arith, many, names_length env, length-append env (kept (body_value p outer ∷ K)))) refl R.data_held in
    let S = body_left n p env outer K (sym (names_length env) ∙ many) in
    let is = L.given in
    let there = c.in_ok-number.ensures.ok_part in
    let count : c.in_ok-number.number ≡ capped (sizes (trees_in (take n es))) = cc in
    let added : c.saturating_add-machine.result ≡ min (r.given + c.in_ok-number.number) 18446744073709551615 = search c.saturating_add-machine.ensures in
    c.finish.ensures.law P Z m₀ m' _ K outer (gives (environment_size env) a) t
    (left_rests R n outer (environment_size env) c.cut.new.self c.leave.new.slots c.saturating_add-machine.result S.0 S.1 L c.leave.ensures.room cut.room
    (subst (Waits P cs (names outer) K) (sym (cut.tops ∙ ap (drop 1) H.stacked)) w)
    (added ∙ ap (λ x. min (r.given + x) 18446744073709551615) (count ∙ ap capped S.1)))) H.mirrored
