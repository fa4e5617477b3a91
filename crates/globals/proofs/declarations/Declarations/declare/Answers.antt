use Rattle.std.proofs.Common.{Ok, sym, subst}
use Rattle.globals.specs.Tallies.{Declared}
use Rattle.globals.proofs.DeclaringLaws.{annotation_told, unused_declared}
use Rattle.globals.proofs.declarations.Declarations.declare.Goals as goal

pub returns-in-Annotation : goal.returns-in-Annotation
returns-in-Annotation c =
    let old = c.args.self.now in
    let new = c.annotate.new.self in
    subst (λ m. Declared c.args.parsed.now.text.now c.args.parsed.now.tables.now m old c.annotate.result new) (sym c.in-Annotation.is)
    (annotation_told c.args.parsed.now.text.now c.args.parsed.now.tables.now c.in-Annotation.annotation old new c.annotate.result c.annotate.ensures.told c.annotate.ensures.holds)

pub returns-in-Unused : goal.returns-in-Unused
returns-in-Unused c =
    let old = c.args.self.now in
    subst (λ m. Declared c.args.parsed.now.text.now c.args.parsed.now.tables.now m old (Ok tt) old) (sym c.in-Unused.is) (unused_declared c.args.parsed.now.text.now c.args.parsed.now.tables.now old old (Ok tt))
