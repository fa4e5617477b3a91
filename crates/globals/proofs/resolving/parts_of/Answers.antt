use Rattle.std.proofs.Common.{◌≡◌, ◌+◌, ◌≤◌, ◌<◌, subst, arith, rules}
use Rattle.globals.specs.Lying.{type_at}
use Rattle.type_rows.specs.TypeExprs.{types_listed}
use Rattle.globals.proofs.TypeNodes.{PartsLeft, parts_start, parts_end, parts_next}
use Rattle.globals.proofs.resolving.parts_of.Goals as goal

pub parts-init : goal.parts-init
parts-init c = record {
  few = omega arith;
  left = λ text script p ts t laid low is.
      let few = laid.few in
      let next : c.args.k + 1 ≡ c.saturating_add-at.result = omega (arith, c.saturating_add-at.ensures) in
      subst (λ at. PartsLeft (types_listed script) c.args.k ts t at 0) next (parts_start text c.args.tables.now script laid c.args.k p ts t low is);
}

pub returns-then-next-past : goal.returns-then-next-past
returns-then-next-past c = λ text script p ts t laid low is.
    let high : (type_at c.args.tables.now c.args.k).past ≤ c.after-next.result = search rules in
    let e = parts_end text c.args.tables.now script laid c.args.k p ts t low is c.parts.at c.parts.count c.after-next.result (c.parts.invariant.left text script p ts t laid low is) c.after-next.ensures.value high in
    record { count = e.0; result = e.1 }

pub parts-preserved : goal.parts-preserved
parts-preserved c = record {
  few = let rises = c.after-next.ensures.rises in let few = c.parts.invariant.few in omega arith;
  left = λ text script p ts t laid low is.
      let below : c.after-next.result < (type_at c.args.tables.now c.args.k).past = search rules in
      parts_next text c.args.tables.now script laid c.args.k p ts t low is c.parts.at c.parts.count c.after-next.result (c.parts.invariant.left text script p ts t laid low is) c.after-next.ensures.value below;
}
