use Rattle.std.proofs.Common.{◌≡◌, length, true, false, Ok, Err, subst}
use Rattle.std.proofs.lemmas.Result.{err_from_is_err_and}
use Rattle.grammar.specs.Reading.{read_definition}
use Rattle.parser.specs.Defining.{AtEnd, OnDefinition}
use Rattle.parser.proofs.WholeLaws.{all_end, all_stop, all_next}
use Rattle.parser.proofs.definitions.definitions.Goals as goal

pub returns-then-is_end-clause-told : goal.returns-then-is_end-clause-told
returns-then-is_end-clause-told c =
    let text = c.args.source.now.text.now in
    let end : AtEnd text c.definitions.at true = subst (AtEnd text c.definitions.at) c.if-is_end.true c.is_end.ensures in
    c.definitions.invariant.carries _ _ _ (all_end text (length c.args.nodes.now) c.definitions.at c.definitions.tables c.definitions.nodes end)

pub definitions-preserved : goal.definitions-preserved
definitions-preserved c =
    let inv = c.definitions.invariant in
    let text = c.args.source.now.text.now in
    let more : AtEnd text c.definitions.at false = subst (AtEnd text c.definitions.at) c.if-is_end.false c.is_end.ensures in
    let long : length c.definitions.nodes ≡ length c.args.nodes.now = c.definitions.auto.nodes in
    let told = subst (λ k. OnDefinition text c.definitions.at c.definitions.tables c.definitions.nodes (read_definition k) (Ok c.in_ok-at.at) c.definition.new.tables c.definition.new.nodes) long c.in_ok-at.ensures.told in
    record {
      bounded = c.in_ok-at.ensures.goes.2;
      carries = λ r t' ns' h. inv.carries r t' ns' (all_next text (length c.args.nodes.now) c.definitions.at c.definitions.tables c.definitions.nodes more inv.bounded c.in_ok-at.at c.definition.new.tables c.definition.new.nodes told r t' ns' h);
    }

pub returns-in_err-at-clause-told : goal.returns-in_err-at-clause-told
returns-in_err-at-clause-told c =
    let inv = c.definitions.invariant in
    let text = c.args.source.now.text.now in
    let more : AtEnd text c.definitions.at false = subst (AtEnd text c.definitions.at) c.if-is_end.false c.is_end.ensures in
    let long : length c.definitions.nodes ≡ length c.args.nodes.now = c.definitions.auto.nodes in
    let told = subst (λ k. OnDefinition text c.definitions.at c.definitions.tables c.definitions.nodes (read_definition k) (Err c.in_err-at.field-0.0) c.definition.new.tables c.definition.new.nodes) long c.in_err-at.ensures.told in
    let e = err_from_is_err_and c.from_residual.result c.from_residual.ensures.1 in
    rw (e.1, e.2) (inv.carries _ _ _ (all_stop text (length c.args.nodes.now) c.definitions.at c.definitions.tables c.definitions.nodes more c.in_err-at.field-0.0 c.definition.new.tables c.definition.new.nodes told))
