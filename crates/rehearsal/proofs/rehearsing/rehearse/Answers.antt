use Rattle.std.proofs.Common.{rules, ◌≡◌, [], length, Err, sym, subst}
use Rattle.grammar.specs.Trees.{Script}
use Rattle.rehearsal.proofs.Judgements.{was_read, refused_in_check, judged_refused, judged_found}
use Rattle.rehearsal.proofs.Rehearsed.{rehearsed}
use Rattle.run.specs.Openings.{Means, opening}
use Rattle.run.specs.Stands.{Stands}
use Rattle.rehearsal.proofs.rehearsing.rehearse.Goals as goal

pub returns-in_err-checked-clause-cells : goal.returns-in_err-checked-clause-cells
returns-in_err-checked-clause-cells g c =
    let r = c.in_err-checked.field-0.0 in
    let left : c.from_residual-in_err-checked.result ≡ Err r = search rules in
    let W = was_read c.args.text.now (length c.args.nodes.now) c.read.new.nodes c.in_ok-script.script c.in_ok-script.ensures.answers c.in_ok-script.ensures.law in
    judged_refused _ r (refused_in_check c.args.text.now (length c.args.nodes.now) c.read.new.nodes c.in_ok-script.script W r c.in_err-checked.ensures) left

pub returns-in_err-checked-clause-answers : goal.returns-in_err-checked-clause-answers
returns-in_err-checked-clause-answers g c =
    let r = c.in_err-checked.field-0.0 in
    let left : c.from_residual-in_err-checked.result ≡ Err r = search rules in
    let W = was_read c.args.text.now (length c.args.nodes.now) c.read.new.nodes c.in_ok-script.script c.in_ok-script.ensures.answers c.in_ok-script.ensures.law in
    judged_refused _ r (refused_in_check c.args.text.now (length c.args.nodes.now) c.read.new.nodes c.in_ok-script.script W r c.in_err-checked.ensures) left

pub returns-in_err-checked-clause-sound : goal.returns-in_err-checked-clause-sound
returns-in_err-checked-clause-sound g c =
    let r = c.in_err-checked.field-0.0 in
    let left : c.from_residual-in_err-checked.result ≡ Err r = search rules in
    let W = was_read c.args.text.now (length c.args.nodes.now) c.read.new.nodes c.in_ok-script.script c.in_ok-script.ensures.answers c.in_ok-script.ensures.law in
    judged_refused _ r (refused_in_check c.args.text.now (length c.args.nodes.now) c.read.new.nodes c.in_ok-script.script W r c.in_err-checked.ensures) left

pub returns-in_err-checked-clause-short : goal.returns-in_err-checked-clause-short
returns-in_err-checked-clause-short g c =
    let r = c.in_err-checked.field-0.0 in
    let left : c.from_residual-in_err-checked.result ≡ Err r = search rules in
    let W = was_read c.args.text.now (length c.args.nodes.now) c.read.new.nodes c.in_ok-script.script c.in_ok-script.ensures.answers c.in_ok-script.ensures.law in
    judged_refused _ r (refused_in_check c.args.text.now (length c.args.nodes.now) c.read.new.nodes c.in_ok-script.script W r c.in_err-checked.ensures) left

pub returns-in_err-checked-clause-run : goal.returns-in_err-checked-clause-run
returns-in_err-checked-clause-run g c =
    let r = c.in_err-checked.field-0.0 in
    let left : c.from_residual-in_err-checked.result ≡ Err r = search rules in
    let W = was_read c.args.text.now (length c.args.nodes.now) c.read.new.nodes c.in_ok-script.script c.in_ok-script.ensures.answers c.in_ok-script.ensures.law in
    judged_refused _ r (refused_in_check c.args.text.now (length c.args.nodes.now) c.read.new.nodes c.in_ok-script.script W r c.in_err-checked.ensures) left

pub returns-clause-made : goal.returns-clause-made
returns-clause-made g c =
    let m₀ = g.S.CellStore.cells c.args.store.now in
    let frames = length c.args.frames.now in
    let slots = length c.args.slots.now in
    let opened : (s : Script) → Means c.insert.result.now s → Stands (opening s m₀ c.args.input.now frames slots c.args.allowance) [] c.open-run.result.0 m₀ = search rules in
    let R = rehearsed c.args.text.now (length c.args.nodes.now) m₀ c.args.input.now frames slots c.args.allowance c.args.asks.now c.make_all.new.asks c.args.out.now c.make_all.new.out
    c.make_all.new.run (g.S.CellStore.cells c.make_all.new.store) c.read.new.nodes c.in_ok-script.script c.in_ok-checked.checked c.in_ok-script.ensures.answers c.in_ok-script.ensures.law c.in_ok-checked.ensures
    (λ s M. c.make_all.ensures (opening s m₀ c.args.input.now frames slots c.args.allowance) (opened s (subst (λ k. Means k s) (sym c.insert.ensures.value) M))) in
    R.made

pub returns-clause-cells : goal.returns-clause-cells
returns-clause-cells g c =
    let m₀ = g.S.CellStore.cells c.args.store.now in
    let frames = length c.args.frames.now in
    let slots = length c.args.slots.now in
    let opened : (s : Script) → Means c.insert.result.now s → Stands (opening s m₀ c.args.input.now frames slots c.args.allowance) [] c.open-run.result.0 m₀ = search rules in
    let R = rehearsed c.args.text.now (length c.args.nodes.now) m₀ c.args.input.now frames slots c.args.allowance c.args.asks.now c.make_all.new.asks c.args.out.now c.make_all.new.out
    c.make_all.new.run (g.S.CellStore.cells c.make_all.new.store) c.read.new.nodes c.in_ok-script.script c.in_ok-checked.checked c.in_ok-script.ensures.answers c.in_ok-script.ensures.law c.in_ok-checked.ensures
    (λ s M. c.make_all.ensures (opening s m₀ c.args.input.now frames slots c.args.allowance) (opened s (subst (λ k. Means k s) (sym c.insert.ensures.value) M))) in
    judged_found _ R.script R.judged R.stands.cells

pub returns-clause-answers : goal.returns-clause-answers
returns-clause-answers g c =
    let m₀ = g.S.CellStore.cells c.args.store.now in
    let frames = length c.args.frames.now in
    let slots = length c.args.slots.now in
    let opened : (s : Script) → Means c.insert.result.now s → Stands (opening s m₀ c.args.input.now frames slots c.args.allowance) [] c.open-run.result.0 m₀ = search rules in
    let R = rehearsed c.args.text.now (length c.args.nodes.now) m₀ c.args.input.now frames slots c.args.allowance c.args.asks.now c.make_all.new.asks c.args.out.now c.make_all.new.out
    c.make_all.new.run (g.S.CellStore.cells c.make_all.new.store) c.read.new.nodes c.in_ok-script.script c.in_ok-checked.checked c.in_ok-script.ensures.answers c.in_ok-script.ensures.law c.in_ok-checked.ensures
    (λ s M. c.make_all.ensures (opening s m₀ c.args.input.now frames slots c.args.allowance) (opened s (subst (λ k. Means k s) (sym c.insert.ensures.value) M))) in
    judged_found _ R.script R.judged R.stands.answers

pub returns-clause-sound : goal.returns-clause-sound
returns-clause-sound g c =
    let m₀ = g.S.CellStore.cells c.args.store.now in
    let frames = length c.args.frames.now in
    let slots = length c.args.slots.now in
    let opened : (s : Script) → Means c.insert.result.now s → Stands (opening s m₀ c.args.input.now frames slots c.args.allowance) [] c.open-run.result.0 m₀ = search rules in
    let R = rehearsed c.args.text.now (length c.args.nodes.now) m₀ c.args.input.now frames slots c.args.allowance c.args.asks.now c.make_all.new.asks c.args.out.now c.make_all.new.out
    c.make_all.new.run (g.S.CellStore.cells c.make_all.new.store) c.read.new.nodes c.in_ok-script.script c.in_ok-checked.checked c.in_ok-script.ensures.answers c.in_ok-script.ensures.law c.in_ok-checked.ensures
    (λ s M. c.make_all.ensures (opening s m₀ c.args.input.now frames slots c.args.allowance) (opened s (subst (λ k. Means k s) (sym c.insert.ensures.value) M))) in
    judged_found _ R.script R.judged R.stands.sound

pub returns-clause-short : goal.returns-clause-short
returns-clause-short g c =
    let m₀ = g.S.CellStore.cells c.args.store.now in
    let frames = length c.args.frames.now in
    let slots = length c.args.slots.now in
    let opened : (s : Script) → Means c.insert.result.now s → Stands (opening s m₀ c.args.input.now frames slots c.args.allowance) [] c.open-run.result.0 m₀ = search rules in
    let R = rehearsed c.args.text.now (length c.args.nodes.now) m₀ c.args.input.now frames slots c.args.allowance c.args.asks.now c.make_all.new.asks c.args.out.now c.make_all.new.out
    c.make_all.new.run (g.S.CellStore.cells c.make_all.new.store) c.read.new.nodes c.in_ok-script.script c.in_ok-checked.checked c.in_ok-script.ensures.answers c.in_ok-script.ensures.law c.in_ok-checked.ensures
    (λ s M. c.make_all.ensures (opening s m₀ c.args.input.now frames slots c.args.allowance) (opened s (subst (λ k. Means k s) (sym c.insert.ensures.value) M))) in
    judged_found _ R.script R.judged R.stands.short

pub returns-clause-run : goal.returns-clause-run
returns-clause-run g c =
    let m₀ = g.S.CellStore.cells c.args.store.now in
    let frames = length c.args.frames.now in
    let slots = length c.args.slots.now in
    let opened : (s : Script) → Means c.insert.result.now s → Stands (opening s m₀ c.args.input.now frames slots c.args.allowance) [] c.open-run.result.0 m₀ = search rules in
    let R = rehearsed c.args.text.now (length c.args.nodes.now) m₀ c.args.input.now frames slots c.args.allowance c.args.asks.now c.make_all.new.asks c.args.out.now c.make_all.new.out
    c.make_all.new.run (g.S.CellStore.cells c.make_all.new.store) c.read.new.nodes c.in_ok-script.script c.in_ok-checked.checked c.in_ok-script.ensures.answers c.in_ok-script.ensures.law c.in_ok-checked.ensures
    (λ s M. c.make_all.ensures (opening s m₀ c.args.input.now frames slots c.args.allowance) (opened s (subst (λ k. Means k s) (sym c.insert.ensures.value) M))) in
    judged_found _ R.script R.judged R.stands
