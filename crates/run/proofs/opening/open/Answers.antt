use Rattle.std.proofs.Common.{length, sym, refl, ◌∙◌, subst₂, ◌≡◌, arith}
use Rattle.machine.specs.Ready.{Ready}
use Rattle.program.specs.Programs.{program}
use Rattle.rules.specs.Runs.{allowed}
use Rattle.run.proofs.Following.{stands_none}
use Rattle.run.proofs.Loading.{ready}
use Rattle.run.proofs.Starting.{opened_inside}
use Rattle.run.specs.Openings.{opening}
use Rattle.run.proofs.opening.open.Goals as goal

pub returns : goal.returns
returns g c = λ s M.
    let o = opening s (g.S.CellStore.cells c.args._store.now) c.args.input.now (length c.args.frames.now) (length c.args.slots.now) c.args.allowance in
    let here = subst₂ (λ l t. Ready l t (program s)) (sym (c.code.ensures ∙ M.code)) (sym c.text.ensures) (ready s c.args.script.now.text.now M.derived M.six M.allowed) in
    let most : c.min.result ≡ allowed c.args.allowance = omega (arith, c.min.ensures) in
    stands_none o (opened_inside o _ c.min.result M.allowed here c.new.ensures.room c.new-2.ensures.room c.new.ensures.tops c.new-2.ensures.tops refl refl refl refl most (g.S.CellStore.small c.args._store.now))
