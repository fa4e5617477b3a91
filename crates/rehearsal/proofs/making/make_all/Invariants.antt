use Rattle.std.proofs.Common.{◌≡◌, ◌≤◌, [], length, drop}
use Rattle.rehearsal.proofs.Growing.{Partly}
use Rattle.run.specs.Openings.{Opening}
use Rattle.run.specs.Stands.{Stands}
use Rattle.rehearsal.proofs.making.make_all.Given as goal

abbrev pub invariant-loop-ask : goal.invariant-loop-ask
invariant-loop-ask g l =
    (l.written ≤ length l.out) × (length l.out ≡ length l.initial.out) × (length l.asks ≡ length l.initial.asks) × (drop l.ask-index l.asks ≡ drop l.ask-index l.initial.asks)
    × ((o : Opening) → Stands o [] l.initial.run (g.S.CellStore.cells l.initial.store)
    → Partly o l.initial.asks l.asks l.ask-index l.written l.initial.out l.out l.run (g.S.CellStore.cells l.store))
