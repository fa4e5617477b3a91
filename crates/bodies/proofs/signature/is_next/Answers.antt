use Rattle.std.proofs.Common.{◌&&◌, sym, ap, ◌∙◌, subst}
use Rattle.std.proofs.lemmas.Bool.{lt-ltb}
use Rattle.globals.proofs.PairLaws.{kind_valid}
use Rattle.type_rows.specs.Rows.{kind_at, IsKind}
use Rattle.type_rows.specs.Shapes.{ty}
use Rattle.typing.specs.Types.{same_type}
use Rattle.bodies.proofs.signature.is_next.Goals as goal

pub returns-then-row-last : goal.returns-then-row-last
returns-then-row-last c m mean valid =
    let rows = c.args.rows.now.rows in
    let is = c.kind.ensures in
    c.same.ensures m mean (subst (IsKind rows) (sym is) (kind_valid rows c.args.row)) valid
    ∙ ap (λ kind. same_type (ty m kind) (ty m c.args.kind)) is
    ∙ ap (λ b. b && same_type (ty m (kind_at rows c.args.row)) (ty m c.args.kind)) (sym (lt-ltb c.args.row c.args.last c.if-row-last.true))
