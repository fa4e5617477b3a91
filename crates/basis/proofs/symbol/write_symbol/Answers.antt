use Rattle.std.proofs.Common.{◌+◌, leb, ◌++◌, length, drop, Some, None, sym, ap, ◌∙◌, subst, arith}
use Rattle.std.proofs.lemmas.Bool.{cond-true, cond-false, le-leb, lt-leb}
use Rattle.basis.specs.Printing.{unescaped}
use Rattle.basis.proofs.Symbols.{Unescaping, skipped, place, written, end, unescapes}
use Rattle.basis.proofs.symbol.write_symbol.Goals as goal
use Rattle.basis.proofs.symbol.write_symbol.Goals.{then-not-escaped, else-not-escaped}

pub returns-then-size-out : goal.returns-then-size-out
returns-then-size-out c =
    let text = unescaped c.args.body.now in
    let out = c.args.out.now in
    let e = lt-leb (length text) (length out) (omega (arith, c.if-size-out.true, c.symbol_len-size.ensures)) in
    record {
      count = sym (cond-false (leb (length text) (length out)) (Some (length text)) None e);
      after = sym (cond-false (leb (length text) (length out)) (text ++ drop (length text) out) out e);
      law = unescapes c.args.body.now;
    }

pub bounds-out-at : goal.bounds-out-at
bounds-out-at c =
    let p = place _ _ _ _ _ _ _ c.loop-b.invariant c.loop-b-test.true _ c.goes-escaped.ensures c.if-not-escaped.true in
    omega (arith, c.loop-b.invariant.room)

pub loop-b-preserved : goal.loop-b-preserved
loop-b-preserved c =
    let body = c.args.body.now in
    let t = c.goes-escaped.result in
    let i = c.loop-b.b-index in
    let n = c.symbol_len-size.result in
    let before = c.args.out.now in
    let u = c.loop-b.invariant in
    let lt = c.loop-b-test.true in
    let g = c.goes-escaped.ensures in
    elim c.if-not-escaped.branch [
      | then-not-escaped w ↦ subst (λ at. Unescaping body n before t (i + 1) at c.if-not-escaped.out) (sym w.at-is)
          (subst (λ out. Unescaping body n before t (i + 1) (c.loop-b.at + 1) out) (sym w.out-is) (written _ _ _ _ _ _ _ u lt _ g w.if-not-escaped.true))
      | else-not-escaped w ↦ subst (λ at. Unescaping body n before t (i + 1) at c.if-not-escaped.out) (sym w.at-is)
          (subst (λ out. Unescaping body n before t (i + 1) c.loop-b.at out) (sym w.out-is) (skipped _ _ _ _ _ _ _ u lt _ g w.if-not-escaped.false))
    ]

pub returns : goal.returns
returns c =
    let text = unescaped c.args.body.now in
    let out = c.args.out.now in
    let size = c.symbol_len-size.ensures in
    let e = le-leb (length text) (length out) (omega (arith, c.if-size-out.false, size)) in
    record {
      count = ap Some size ∙ sym (cond-true (leb (length text) (length out)) (Some (length text)) None e);
      after = end _ _ _ _ _ _ _ c.loop-b.invariant c.loop-b-test.false ∙ ap (λ n. text ++ drop n out) size ∙ sym (cond-true (leb (length text) (length out)) (text ++ drop (length text) out) out e);
      law = unescapes c.args.body.now;
    }
