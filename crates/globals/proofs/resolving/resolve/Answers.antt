use Rattle.std.proofs.Common.{◌≡◌, ◌+◌, ◌<◌, length, slice_set, sym, ap, ◌∙◌, subst, rules, arith}
use Rattle.grammar.specs.Limits.{type_count}
use Rattle.layout.specs.declared.type_node.TypeNode.{TypeNode}
use Rattle.type_rows.specs.TypeExprs.{types_listed, row_of, expr_at, head_shape}
use Rattle.type_rows.specs.declared.row.Row.{Row}
use Rattle.globals.proofs.TypeRows.{Resolving, resolving_next, resolving_end}
use Rattle.globals.proofs.TypeShapes.{past_of}
use Rattle.globals.proofs.resolving.resolve.Goals as goal

pub loop-k-preserved : goal.loop-k-preserved
loop-k-preserved c = λ P script laid datatypes.
    let k = c.loop-k.k in
    let all = types_listed script in
    let count = laid.count in
    let few = laid.few in
    let low : k < length all = omega arith in
    let here = c.in_ok-shape_of.ensures P script laid datatypes low in
    let row : Row = record { shape = c.in_ok-shape_of.field-0; past = c.type_at.result.past; result = c.result_row.result } in
    let past : c.type_at.result.past ≡ k + type_count (expr_at all k) = ap (λ (n : TypeNode). n.past) c.type_at.ensures ∙ past_of c.args.parsed.now.text.now c.args.parsed.now.tables.now script laid k low in
    let result = c.result_row.ensures c.args.parsed.now.text.now script laid low in
    let is : row ≡ row_of P k (expr_at all k) =
    ap (λ s. record { shape = s; past = c.type_at.result.past; result = c.result_row.result }) here.0
    ∙ ap (λ p. record { shape = head_shape P (expr_at all k); past = p; result = c.result_row.result }) past
    ∙ ap (λ r. record { shape = head_shape P (expr_at all k); past = k + type_count (expr_at all k); result = r }) result in
    let put : c.put.new.self.rows ≡ slice_set c.loop-k.rows.rows k row = search rules in
    subst (Resolving P all (k + 1)) (sym put) (resolving_next P all k c.loop-k.rows.rows row low few is here.1 (c.loop-k.invariant P script laid datatypes))

pub returns : goal.returns
returns c = λ P script laid datatypes.
    let count = laid.count in
    let few = laid.few in
    let end = c.loop-k.auto.k-end in
    resolving_end P (types_listed script) c.loop-k.k c.loop-k.rows.rows (omega arith) (omega arith) (c.loop-k.invariant P script laid datatypes)
