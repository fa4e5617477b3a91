use Rattle.std.proofs.Common.{◌≡◌, Some, sym, ap, ◌∙◌, rules}
use Rattle.globals.specs.Tallies.{meaning_of}
use Rattle.globals.specs.declared.global.Global.TheVariants as machine
use Rattle.naming.specs.Judges.{text_of}
use Rattle.naming.proofs.LeafLaws.{enters_function, enters_val}
use Rattle.naming.proofs.leaves.global_name.Goals as goal

pub returns-in-Function : goal.returns-in-Function
returns-in-Function c script set =
    let n = c.in-Function.n in
    let is : c.named.result ≡ Some (machine.Function n) = search rules in
    let e = sym (c.named.ensures script set.known) ∙ ap meaning_of is in
    enters_function c.args.world.now script set c.args.name.now c.args.i c.args.node c.args.codes.now n c.function_type.result c.note.new.codes e
    (c.function_type.ensures (text_of c.args.world.now script) script c.args.name.now set.known e) c.note.ensures

pub returns-in_ok-kind-in-Val : goal.returns-in_ok-kind-in-Val
returns-in_ok-kind-in-Val c script set =
    let k = c.in-Val.k in
    let is : c.named.result ≡ Some (machine.Val k) = search rules in
    let there : c.val_at.result ≡ Some c.in_ok-kind-in-Val.kind = search rules in
    enters_val c.args.world.now script set c.args.name.now c.args.i c.args.node c.args.codes.now k c.in_ok-kind-in-Val.kind c.note-in-Val.new.codes
    (sym (c.named.ensures script set.known) ∙ ap meaning_of is) (sym c.val_at.ensures ∙ there) c.note-in-Val.ensures
