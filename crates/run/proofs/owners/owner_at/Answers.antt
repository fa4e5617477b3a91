use Rattle.run.proofs.Owning.{owning_first, owner_behind, owner_before}
use Rattle.run.proofs.owners.owner_at.Goals as goal

pub loop-i-init : goal.loop-i-init
loop-i-init c = λ P L. owning_first P c.args.place

pub returns-then-owner-place : goal.returns-then-owner-place
returns-then-owner-place c = λ P L. owner_behind c.owner_of-owner.result L c.loop-i-test.true c.owner_of-owner.ensures c.if-owner-place.true (c.loop-i.invariant P L)

pub loop-i-preserved : goal.loop-i-preserved
loop-i-preserved c = λ P L. owner_before c.owner_of-owner.result L c.loop-i-test.true c.owner_of-owner.ensures c.if-owner-place.false (c.loop-i.invariant P L)
