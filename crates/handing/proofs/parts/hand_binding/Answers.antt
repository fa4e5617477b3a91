use Rattle.std.proofs.Common.{◌≡◌, ◌+◌, suc, ◌∷◌, ◌++◌, [], true, set, drop, map, sym, refl, ap, ◌∙◌, subst, arith}
use Rattle.data.specs.Taking.{Out}
use Rattle.handing.proofs.Views.{HandedBy, in_hand, waiting_for, on_binding}
use Rattle.machine.proofs.Needs.{entries_fit, entries_lack}
use Rattle.handing.proofs.Tests.{let_goes}
use Rattle.machine.proofs.Resting.{changed, renewed, unmoved, faulted, slots_count, by_rule}
use Rattle.machine.specs.Holding.{names, is_full, holds, values_in, trees_in, kept}
use Rattle.machine.specs.Waiting.{Waits}
use Rattle.rules.specs.States.{full, st, enter}
use Rattle.rules.specs.Steps.{goes, needs, has_entries, hand}
use Rattle.rules.specs.declared.fault.FaultKind.TheVariants.{StackFull}
use Rattle.stack.specs.Items.{tops}
use Rattle.handing.proofs.parts.hand_binding.Goals as goal

pub returns-in_err-push-clause-law : goal.returns-in_err-push-clause-law
unfolding hand
returns-in_err-push-clause-law c = λ P Z m₀ m f K env a t H.
    let r = c.args.machine.now in
    let same = c.in_err-push.ensures in
    on_binding (HandedBy P Z m₀ K env a t r m c.from_residual.result (changed r r.frames c.push.new.self r.control r.taken r.given) m) (waiting_for H)
    (λ p k b x bs e here n B E w M.
    let R = in_hand H.value M in
    let g = let_goes P Z p bs e c.args.count K (full x.bytes t ∷ env) a in
    by_rule (ap (needs StackFull (has_entries P Z 1 K env)) g.1 ∙ entries_lack P Z K env a 1 [] g.0 (omega (arith, slots_count R, R.slots_room, same.fits)))
    (faulted c.from_residual.result c.from_residual.ensures.1 (unmoved M r.frames c.push.new.self refl refl same.room same.tops))) H.mirrored

pub returns-clause-law : goal.returns-clause-law
unfolding hand
returns-clause-law c = λ P Z m₀ m f K env a t H.
    let r = c.args.machine.now in
    let cs = r.script.now.code in
    let pushed = c.in_ok-push.ensures in
    let put = c.replace_top.ensures in
    let on = c.bind_next-on.result in
    on_binding (HandedBy P Z m₀ K env a t r m c.go.result c.go.new.self m) (waiting_for H)
    (λ p k b x bs e here n B E w M.
    let R = in_hand H.value M in
    let inner = full x.bytes t ∷ env in
    let L = c.bind_next-on.ensures P inner p k bs e here B E in
    let one : suc b ≡ b + 1 = omega arith in
    let below : Waits P cs (drop (b + 1) (names inner)) K H.others = subst (λ i. Waits P cs (drop i (names inner)) K H.others) one w in
    let waits : Waits P cs (names inner) (L.frame ∷ K) (on.frame ∷ H.others) = L.waits (b + 1) K H.others (omega arith) below in
    let same : inner ++ kept (L.frame ∷ K) ≡ inner ++ kept K = ap (λ s. inner ++ (s ++ kept K)) L.keeps_none in
    by_rule (ap (needs StackFull (has_entries P Z 1 K env)) (L.is Z K a) ∙ entries_fit P Z K env a 1 (goes [] (st (L.frame ∷ K) inner (enter L.part) a)) (omega (arith, slots_count R, R.slots_room, pushed.fits)))
    (c.go.ensures.law P Z m₀ m _ (L.frame ∷ K) inner a L.part
    (renewed R c.replace_top.new.self c.push.new.self r.taken r.given put.room pushed.room
    (subst (Waits P cs (names inner) (L.frame ∷ K)) (sym (put.tops ∙ ap (λ q. set q 0 on.frame) H.stacked)) waits)
    (ap (map is_full) pushed.tops ∙ (ap (λ q. true ∷ q) R.full ∙ ap (map holds) (sym same)))
    (subst (λ q. Out m (values_in q) (trees_in (inner ++ kept (L.frame ∷ K))) m₀) (sym pushed.tops) (subst (λ q. Out m (c.args.value ∷ values_in (tops r.slots)) (trees_in q) m₀) (sym same) R.data_held))
    R.input R.taken R.given) L.stands)) H.mirrored
