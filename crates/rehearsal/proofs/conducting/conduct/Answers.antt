use Rattle.std.proofs.Common.{length}
use Rattle.grammar.specs.Trees.{Script}
use Rattle.rehearsal.proofs.Judgements.{judged_so, judged_then}
use Rattle.rehearsal.specs.Asking.{history_of}
use Rattle.rehearsal.specs.Judged.{judgement}
use Rattle.rules.specs.declared.answers.Closed.{Closed}
use Rattle.run.specs.Openings.{opening}
use Rattle.run.specs.Stands.{Stands, Finished}
use Rattle.run.specs.declared.runs.OpenRun.{OpenRun}
use Rattle.run.specs.declared.runs.Run.{Run}
use Rattle.rehearsal.proofs.conducting.conduct.Goals as goal

pub returns-clause-cells : goal.returns-clause-cells
returns-clause-cells g c =
    let o = λ (s : Script). opening s (g.S.CellStore.cells c.args.store.now) c.args.input.now (length c.args.frames.now) (length c.args.slots.now) c.args.allowance in
    let h = history_of c.rehearse.new.asks c.rehearse.new.out in
    judged_so (judgement c.args.text.now (length c.args.nodes.now)) (λ s (x : Run × OpenRun). Stands (o s) h x.0 (g.S.CellStore.cells c.rehearse.new.store)) c.in_ok-run.ensures.run (λ s S. (c.close.ensures.law (o s) h S).cells)

pub returns-clause-counts : goal.returns-clause-counts
returns-clause-counts g c =
    let o = λ (s : Script). opening s (g.S.CellStore.cells c.args.store.now) c.args.input.now (length c.args.frames.now) (length c.args.slots.now) c.args.allowance in
    let h = history_of c.rehearse.new.asks c.rehearse.new.out in
    judged_then (judgement c.args.text.now (length c.args.nodes.now)) (λ s (x : Run × OpenRun). Stands (o s) h x.0 (g.S.CellStore.cells c.rehearse.new.store))
    (λ s (x : Closed). Finished (o s) h x (g.S.CellStore.cells c.close.new.store)) c.in_ok-run.ensures.run (λ s S. c.close.ensures.law (o s) h S)
