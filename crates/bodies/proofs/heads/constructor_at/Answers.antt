use Rattle.std.proofs.Common.{◌≡◌, true, false, Some, None, sym, ap, ◌∙◌, subst, rules}
use Rattle.std.specs.Option.{is_some}
use Rattle.bodies.proofs.HeadLaws.{head_other, head_local, head_global}
use Rattle.layout.specs.declared.node.Node.{Node}
use Rattle.naming.specs.Judges.{desk, text_of, Coded}
use Rattle.naming.proofs.BindLaws.{some_local, no_local_has}
use Rattle.scopes.specs.Locals.{FindsLocal}
use Rattle.typing.specs.Judging.{constructor_at}
use Rattle.globals.specs.Tallies.{meaning_of}
use Rattle.bodies.proofs.heads.constructor_at.Goals as goal

pub returns-in_default : goal.returns-in_default
returns-in_default c script e set ready stands =
    let is = ap (λ (n : Node). n.form) c.node_at-node.ensures in
    head_other c.args.world.now script (desk c.args.scope.now c.args.locals.now) c.args.i stands (λ n h. c.in_default.not-Name n (is ∙ h))

pub returns-then-is_some : goal.returns-then-is_some
returns-then-is_some c script e set ready stands =
    let world = c.args.world.now in
    let name = c.part-name.result.now in
    let found : FindsLocal (text_of world script) c.args.locals.now name c.args.scope.now.depth c.find.result = search rules in
    let there : is_some c.find.result ≡ true = search rules in
    let local = some_local (text_of world script) c.args.locals.now name c.args.scope.now.depth c.find.result found there in
    let here = subst (λ f. Coded world script f e c.args.i) (sym (ap (λ (n : Node). n.form) c.node_at-node.ensures) ∙ c.in-Name.is) stands in
    head_local world script (desk c.args.scope.now c.args.locals.now) c.args.i c.in-Name.size c.node_at-node.result c.node_at-node.ensures name c.part-name.ensures local.0 here local.1

pub returns-in-Some-Constructor : goal.returns-in-Some-Constructor
returns-in-Some-Constructor c script e set ready stands =
    let world = c.args.world.now in
    let name = c.part-name.result.now in
    let found : FindsLocal (text_of world script) c.args.locals.now name c.args.scope.now.depth c.find.result = search rules in
    let none : is_some c.find.result ≡ false = search rules in
    let free = no_local_has (text_of world script) c.args.locals.now name c.args.scope.now.depth c.find.result found none in
    let here = subst (λ f. Coded world script f e c.args.i) (sym (ap (λ (n : Node). n.form) c.node_at-node.ensures) ∙ c.in-Name.is) stands in
    head_global world script (desk c.args.scope.now c.args.locals.now) c.args.i c.in-Name.size c.node_at-node.result c.node_at-node.ensures name c.part-name.ensures
    (Some c.in-Some-Constructor.field-0) here free (c.in-Some-Constructor.ensures script set.known) ∙ ap (λ g. constructor_at None (meaning_of (Some g))) c.in-Some-Constructor.field-0-is

pub returns-in-Some-Function : goal.returns-in-Some-Function
returns-in-Some-Function c script e set ready stands =
    let world = c.args.world.now in
    let name = c.part-name.result.now in
    let found : FindsLocal (text_of world script) c.args.locals.now name c.args.scope.now.depth c.find.result = search rules in
    let none : is_some c.find.result ≡ false = search rules in
    let free = no_local_has (text_of world script) c.args.locals.now name c.args.scope.now.depth c.find.result found none in
    let here = subst (λ f. Coded world script f e c.args.i) (sym (ap (λ (n : Node). n.form) c.node_at-node.ensures) ∙ c.in-Name.is) stands in
    head_global world script (desk c.args.scope.now c.args.locals.now) c.args.i c.in-Name.size c.node_at-node.result c.node_at-node.ensures name c.part-name.ensures
    (Some c.in-Some-Function.field-0) here free (c.in-Some-Function.ensures script set.known) ∙ ap (λ g. constructor_at None (meaning_of (Some g))) c.in-Some-Function.field-0-is

pub returns-in-Some-Val : goal.returns-in-Some-Val
returns-in-Some-Val c script e set ready stands =
    let world = c.args.world.now in
    let name = c.part-name.result.now in
    let found : FindsLocal (text_of world script) c.args.locals.now name c.args.scope.now.depth c.find.result = search rules in
    let none : is_some c.find.result ≡ false = search rules in
    let free = no_local_has (text_of world script) c.args.locals.now name c.args.scope.now.depth c.find.result found none in
    let here = subst (λ f. Coded world script f e c.args.i) (sym (ap (λ (n : Node). n.form) c.node_at-node.ensures) ∙ c.in-Name.is) stands in
    head_global world script (desk c.args.scope.now c.args.locals.now) c.args.i c.in-Name.size c.node_at-node.result c.node_at-node.ensures name c.part-name.ensures
    (Some c.in-Some-Val.field-0) here free (c.in-Some-Val.ensures script set.known) ∙ ap (λ g. constructor_at None (meaning_of (Some g))) c.in-Some-Val.field-0-is

pub returns-in-None : goal.returns-in-None
returns-in-None c script e set ready stands =
    let world = c.args.world.now in
    let name = c.part-name.result.now in
    let found : FindsLocal (text_of world script) c.args.locals.now name c.args.scope.now.depth c.find.result = search rules in
    let none : is_some c.find.result ≡ false = search rules in
    let free = no_local_has (text_of world script) c.args.locals.now name c.args.scope.now.depth c.find.result found none in
    let here = subst (λ f. Coded world script f e c.args.i) (sym (ap (λ (n : Node). n.form) c.node_at-node.ensures) ∙ c.in-Name.is) stands in
    head_global world script (desk c.args.scope.now c.args.locals.now) c.args.i c.in-Name.size c.node_at-node.result c.node_at-node.ensures name c.part-name.ensures
    None here free (c.in-None.ensures script set.known)
