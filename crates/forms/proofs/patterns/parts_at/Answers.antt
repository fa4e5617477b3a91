use Rattle.std.proofs.Common.{sym, arith}
use Rattle.forms.proofs.PatternLaws.{parts_next, parts_other, parts_list, parts_close, parts_end}
use Rattle.forms.proofs.patterns.parts_at.Goals as goal

pub parts-preserved : goal.parts-preserved
parts-preserved c =
    let sees = c.in-Atom.ensures in
    let forward = sees.1.forward in
    let inv = c.parts.invariant in
    let from = inv.0 in (
      omega arith,
      λ r h. inv.1 r (parts_next c.args.text.now c.parts.at c.in-Atom.kind sees.0 c.in-Atom.here c.in-Atom.after sees.1 sees.2 (sym c.if-not-is_part.ensures) r h),
    )

pub returns-then-not-is_part : goal.returns-then-not-is_part
returns-then-not-is_part c =
    let sees = c.in-Atom.ensures in
    record {
      goes = tt;
      told = c.parts.invariant.1 _ (parts_other c.args.text.now c.parts.at c.in-Atom.kind sees.0 c.in-Atom.here c.in-Atom.after _ sees.1 sees.2 (sym c.if-not-is_part.ensures) c.wrong.ensures);
    }

pub returns-in-Open : goal.returns-in-Open
returns-in-Open c =
    let sees = c.in-Open.ensures in
    record { goes = tt; told = c.parts.invariant.1 _ (parts_list c.args.text.now c.parts.at sees.0 sees.1.0 _ _ _ sees.1.1 c.wrong-in-Open.ensures) }

pub returns-in-Close : goal.returns-in-Close
returns-in-Close c =
    let sees = c.in-Close.ensures in
    let forward = sees.1.1.forward in
    let from = c.parts.invariant.0 in
    record { goes = (omega arith, sees.1.1.within); told = c.parts.invariant.1 _ (parts_close c.args.text.now c.parts.at sees.0 sees.1.0 _ _ sees.1.1) }

pub returns-in-End : goal.returns-in-End
returns-in-End c = record { goes = tt; told = c.parts.invariant.1 _ (parts_end c.args.text.now c.parts.at c.in-End.ensures _) }
