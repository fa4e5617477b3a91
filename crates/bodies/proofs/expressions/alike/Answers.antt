use Rattle.std.proofs.Common.{◌≡◌, ℕ, Some, None, sym, ◌∙◌, subst, rules}
use Rattle.bodies.proofs.TypeLaws.{same_in, alike_same, alike_other, alike_none}
use Rattle.bodies.specs.Parts.{AlikeAnswers}
use Rattle.type_rows.specs.Rows.{IsKind, RowsMean}
use Rattle.type_rows.specs.Shapes.{ty}
use Rattle.typing.specs.Types.{Ty, same_type}
use Rattle.bodies.proofs.expressions.alike.Goals as goal

pub returns-in-Some : goal.returns-in-Some
returns-in-Some c script set =
    let world = c.args.world.now in
    let other = c.in-Some.other in
    let rows = c.rows.result.now.rows in
    let same : (m : ℕ → Ty) → RowsMean rows m → IsKind rows c.args.kind → IsKind rows other → c.same.result ≡ same_type (ty m c.args.kind) (ty m other) = search rules in
    subst (λ o. AlikeAnswers world script c.args.kind o (Some c.args.kind)) (sym c.in-Some.is)
    (alike_same world script set c.args.kind other (λ a b. sym c.if-same.true ∙ same_in world script set c.rows.result.now c.rows.ensures c.args.kind other c.same.result same a b))

pub returns-in_default : goal.returns-in_default
returns-in_default c script set =
    let world = c.args.world.now in
    let other = c.in-Some.other in
    let rows = c.rows.result.now.rows in
    let same : (m : ℕ → Ty) → RowsMean rows m → IsKind rows c.args.kind → IsKind rows other → c.same.result ≡ same_type (ty m c.args.kind) (ty m other) = search rules in
    subst (λ o. AlikeAnswers world script c.args.kind o None) (sym c.in-Some.is)
    (alike_other world script set c.args.kind other (λ a b. sym c.if-same.false ∙ same_in world script set c.rows.result.now c.rows.ensures c.args.kind other c.same.result same a b))

pub returns-in_default-2 : goal.returns-in_default-2
returns-in_default-2 c script set =
    let world = c.args.world.now in
    subst (λ o. AlikeAnswers world script c.args.kind o None) (sym c.in_default.is) (alike_none world script set c.args.kind)
