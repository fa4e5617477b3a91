use Rattle.std.proofs.Common.{◌≡◌, ◌+◌, min, map, length, get_or, replicate, None, ap, ◌∙◌, arith, rules}
use Rattle.std.proofs.lemmas.Slice.{drop-append-drop}
use Rattle.cells.proofs.LentLaws.{front_refilled, none_meant}
use Rattle.cells.proofs.lent.free_slots.Goals as goal

pub returns-clause-freed : goal.returns-clause-freed
returns-clause-freed g c k d h =
    let ys = c.free_each.new.slots in
    let sized : c.min-count.result ≡ min (length c.args.slots.now) 65535 = search c.min-count.ensures in
    let long : length c.free_each.new.slots ≡ c.min-count.result = search rules in
    ap (λ xs. get_or xs k d) (front_refilled c.args.slots.now ys c.min-count.result sized long) ∙ c.free_each.ensures k d (search rules)

pub returns-clause-empty : goal.returns-clause-empty
returns-clause-empty g c =
    let ys = c.free_each.new.slots in
    let sized : c.min-count.result ≡ min (length c.args.slots.now) 65535 = search c.min-count.ensures in
    let long : length c.free_each.new.slots ≡ c.min-count.result = search rules in
    ap (map g.T.Slot.cell) (front_refilled c.args.slots.now ys c.min-count.result sized long)
    ∙ none_meant g.T.Slot.cell ys (λ k d h. ap g.T.Slot.cell (c.free_each.ensures k d (search rules)) ∙ g.met.T.Slot.empty (k + 1))
    ∙ ap (λ n. replicate n None) (long ∙ sized)

pub returns-clause-past : goal.returns-clause-past
returns-clause-past g c =
    let sized : c.min-count.result ≡ min (length c.args.slots.now) 65535 = search c.min-count.ensures in
    let long : length c.free_each.new.slots ≡ c.min-count.result = search rules in
    drop-append-drop c.min-count.result c.args.slots.now c.free_each.new.slots 65535 (omega (arith, sized)) long
