use Rattle.std.proofs.Common.{◌≡◌, Ok, sym, ◌∙◌, subst, rules}
use Rattle.globals.specs.Known.{meaning_in}
use Rattle.naming.specs.Judges.{text_of}
use Rattle.program.specs.Programs.{program}
use Rattle.scopes.specs.Locals.{context}
use Rattle.typing.specs.Judging.{is_fresh}
use Rattle.naming.proofs.BindLaws.{name_bound, name_repeated}
use Rattle.scopes.specs.Locals.{Pushed}
use Rattle.naming.proofs.binding.bind.Goals as goal

pub returns-then-is_fresh-clause-bound : goal.returns-then-is_fresh-clause-bound
returns-then-is_fresh-clause-bound c script x set ready valid spells =
    let room : c.push.result ≡ Ok c.in_ok-map_err.field-0 = search rules in
    let pushed = subst (λ r. Pushed c.args.scope.now c.args.locals.now (record { name = c.args.word; kind = c.args.kind; height = c.args.height }) r c.push.new.scope c.push.new.locals) room c.push.ensures in
    let fresh : c.is_fresh.result ≡ is_fresh (program script) c.part.result.now (context (text_of c.args.world.now script) (meaning_in script) c.push.new.locals c.args.scope.now.marks c.args.scope.now.depth) = search (rules, c.is_fresh.ensures script c.args.scope.now.marks set) in
    name_bound c.args.world.now script set c.args.scope.now c.push.new.scope c.args.locals.now c.push.new.locals c.args.word c.args.kind c.args.height pushed ready x spells
    c.part.result.now c.part.ensures (sym c.if-is_fresh.true ∙ fresh) valid

pub returns-clause-bound : goal.returns-clause-bound
returns-clause-bound c script x set ready valid spells next =
    let room : c.push.result ≡ Ok c.in_ok-map_err.field-0 = search rules in
    let pushed = subst (λ r. Pushed c.args.scope.now c.args.locals.now (record { name = c.args.word; kind = c.args.kind; height = c.args.height }) r c.push.new.scope c.push.new.locals) room c.push.ensures in
    let fresh : c.is_fresh.result ≡ is_fresh (program script) c.part.result.now (context (text_of c.args.world.now script) (meaning_in script) c.push.new.locals c.args.scope.now.marks c.args.scope.now.depth) = search (rules, c.is_fresh.ensures script c.args.scope.now.marks set) in
    name_repeated c.args.world.now script set c.args.scope.now c.push.new.scope c.args.locals.now c.push.new.locals c.args.word c.args.kind c.args.height pushed ready x spells
    c.part.result.now c.part.ensures (sym c.if-is_fresh.false ∙ fresh) c.refused.result c.refused.ensures next
