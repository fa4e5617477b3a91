use Rattle.std.proofs.Common.{◌++◌, [], ◌∷◌, take, sym, ap, ◌∙◌, arith}
use Rattle.std.proofs.lemmas.List.{length-map, take_more, take_more_set}
use Rattle.cells.specs.declared.values.Value.TheVariants.{Unit as Nothing}
use Rattle.calling.proofs.Gathered.{slot_value}
use Rattle.machine.specs.Holding.{value_in, values_in}
use Rattle.stack.specs.Items.{tops}
use Rattle.calling.proofs.builds.read_newest.Goals as goal

pub loop-depth-preserved : goal.loop-depth-preserved
loop-depth-preserved c =
    let ss = tops c.args.slots.now in
    let i = c.loop-depth.depth in
    let v = c.in_ok-value.field-0 in
    let h = c.loop-depth.invariant in
    let slot = slot_value ss i v c.in_ok-value.ensures in
    let put = take_more_set c.loop-depth.row i v (omega arith) in
    let grown = take_more (values_in ss) i Nothing (omega (arith, slot.0, length-map ss value_in)) in
    (omega (arith, slot.0), put ∙ (ap (λ q. q ++ v ∷ []) h.1 ∙ (ap (λ x. take i (values_in ss) ++ x ∷ []) (sym slot.1) ∙ sym grown)))
