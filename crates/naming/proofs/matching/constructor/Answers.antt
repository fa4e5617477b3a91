use Rattle.std.proofs.Common.{◌≡◌, true, false, Err, slice_set, sym, subst, rules}
use Rattle.std.specs.Option.{is_some}
use Rattle.grammar.specs.Trees.{constructor}
use Rattle.naming.specs.Binding.{MatchesAnswers}
use Rattle.program.specs.Compiling.{code}
use Rattle.program.specs.declared.code.Op.TheVariants as op
use Rattle.naming.specs.Judges.{desk, text_of}
use Rattle.naming.proofs.BindLaws.{some_local, no_local_has}
use Rattle.naming.proofs.MatchLaws.{matched_local, matched_head, matched_unlike, matched_names, matched}
use Rattle.naming.proofs.matching.constructor.Goals as goal

pub returns-then-is_some-clause-matched : goal.returns-then-is_some-clause-matched
returns-then-is_some-clause-matched c script x xs set ready spells at =
    let h = c.args.head in
    let world = c.args.world.now in
    let text = text_of world script in
    let locals = c.args.locals.now in
    let depth = c.args.scope.now.depth in
    let old = desk c.args.scope.now locals in
    let there : is_some c.find.result ≡ true = search rules in
    let local = some_local text locals c.part-name.result.now depth c.find.result c.find.ensures there in
    matched_local world script set old ready c.args.datatype c.args.i c.args.height c.args.codes.now h.place h.name x xs c.part-name.result.now spells c.part-name.ensures
    local.0 c.unlike.result local.1 c.unlike.ensures

pub returns-then-not-fits-clause-matched : goal.returns-then-not-fits-clause-matched
returns-then-not-fits-clause-matched c script x xs set ready spells at =
    let h = c.args.head in
    let world = c.args.world.now in
    let text = text_of world script in
    let locals = c.args.locals.now in
    let depth = c.args.scope.now.depth in
    let old = desk c.args.scope.now locals in
    let none : is_some c.find.result ≡ false = search rules in
    let free = no_local_has text locals c.part-name.result.now depth c.find.result c.find.ensures none in
    let k = c.in_ok-k.k in
    let global = c.in_ok-k.ensures script set in
    let variant = c.variant-variant.ensures text script c.part-name.result.now set.known global in
    matched_unlike world script set old ready c.args.datatype c.args.i c.args.height c.args.codes.now h.place h.name x xs c.part-name.result.now spells c.part-name.ensures
    free k global c.variant-variant.result variant c.fits.result (c.fits.ensures xs set.short at) c.if-not-fits.true c.unlike-then-not-fits.result c.unlike-then-not-fits.ensures

pub returns-clause-matched : goal.returns-clause-matched
returns-clause-matched c script x xs set ready spells at =
    let h = c.args.head in
    let world = c.args.world.now in
    let text = text_of world script in
    let locals = c.args.locals.now in
    let depth = c.args.scope.now.depth in
    let old = desk c.args.scope.now locals in
    let none : is_some c.find.result ≡ false = search rules in
    let free = no_local_has text locals c.part-name.result.now depth c.find.result c.find.ensures none in
    let k = c.in_ok-k.k in
    let global = c.in_ok-k.ensures script set in
    let variant = c.variant-variant.ensures text script c.part-name.result.now set.known global in
    let node = c.node_at.result in
    let noted : c.note.new.codes ≡ slice_set c.args.codes.now c.args.i (code (op.Branch k c.in_ok-bits.bits) node.place node.past) = search rules in
    matched world script set old ready c.args.datatype c.args.i c.args.height c.args.codes.now h.place h.name x xs c.part-name.result.now spells c.part-name.ensures
    free k global c.variant-variant.result variant c.fits.result (c.fits.ensures xs set.short at) c.if-not-fits.false h.inside at c.in_ok-bits.bits (desk c.bind_parts.new.scope c.bind_parts.new.locals) c.in_ok-bits.ensures.bound
    node c.note.new.codes c.node_at.ensures noted

pub returns-in_err-bits-clause-matched : goal.returns-in_err-bits-clause-matched
returns-in_err-bits-clause-matched c script x xs set ready spells at =
    let h = c.args.head in
    let world = c.args.world.now in
    let text = text_of world script in
    let locals = c.args.locals.now in
    let depth = c.args.scope.now.depth in
    let old = desk c.args.scope.now locals in
    let none : is_some c.find.result ≡ false = search rules in
    let free = no_local_has text locals c.part-name.result.now depth c.find.result c.find.ensures none in
    let k = c.in_ok-k.k in
    let global = c.in_ok-k.ensures script set in
    let variant = c.variant-variant.ensures text script c.part-name.result.now set.known global in
    let r = c.in_err-bits.field-0.0 in
    let left : c.from_residual-in_err-bits.result ≡ Err r = search rules in
    let new = desk c.bind_parts.new.scope c.bind_parts.new.locals in
    subst (λ y. MatchesAnswers world script c.args.datatype (constructor h.place x xs) c.args.i c.args.height old c.args.codes.now y new c.args.codes.now) (sym left)
    (matched_names world script set old ready c.args.datatype c.args.i c.args.height c.args.codes.now h.place h.name x xs c.part-name.result.now spells c.part-name.ensures
    free k global c.variant-variant.result variant c.fits.result (c.fits.ensures xs set.short at) c.if-not-fits.false h.inside at r new c.in_err-bits.ensures.bound)

pub returns-in_err-k-clause-matched : goal.returns-in_err-k-clause-matched
returns-in_err-k-clause-matched c script x xs set ready spells at =
    let h = c.args.head in
    let world = c.args.world.now in
    let text = text_of world script in
    let locals = c.args.locals.now in
    let depth = c.args.scope.now.depth in
    let old = desk c.args.scope.now locals in
    let none : is_some c.find.result ≡ false = search rules in
    let free = no_local_has text locals c.part-name.result.now depth c.find.result c.find.ensures none in
    let r = c.in_err-k.field-0.0 in
    let left : c.from_residual.result ≡ Err r = search rules in
    let new = old in
    subst (λ y. MatchesAnswers world script c.args.datatype (constructor h.place x xs) c.args.i c.args.height old c.args.codes.now y new c.args.codes.now) (sym left)
    (matched_head world script set old ready c.args.datatype c.args.i c.args.height c.args.codes.now h.place h.name x xs c.part-name.result.now spells c.part-name.ensures
    free r (c.in_err-k.ensures script set))
