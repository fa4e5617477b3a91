-- What is handed over is dropped.
use Rattle.std.specs.Prelude.{Err}
use Rattle.std.proofs.Common.{List}
use Rattle.cells.specs.Meaning.{Cells}
use Rattle.cells.specs.declared.values.Value.{Value}
use Rattle.data.proofs.Moves.{drop_held}
use Rattle.data.specs.Trees.{Tree}
use Rattle.data.specs.Walks.{Drops}
use Rattle.data.specs.declared.refusals.WalkRefusal.{WalkRefusal}
use Rattle.handing.proofs.Views.{in_hand}
use Rattle.machine.specs.Mirrors.{Hands}
use Rattle.machine.specs.declared.frame.Frame.{Frame as Waiting}
use Rattle.machine.specs.declared.machine.Machine.{Machine}
use Rattle.program.specs.Programs.{Program}
use Rattle.rules.specs.States.{Environment, Frame, Account}
use Rattle.rules.specs.Steps.{Sizes}

-- it stands for a tree, so no store refuses it
pub drop_never_refused : {P : Program} {Z : Sizes} {m₀ entry exit : Cells} {f : Frame} {K : List Frame} {env : Environment} {a : Account} {t : Tree} {frame : Waiting} {v : Value} {r : Machine} {e : WalkRefusal}
    → Hands P Z m₀ f K env a t frame v r entry → Drops entry v (Err e) exit → ⊥
drop_never_refused H does =
    let h = drop_held does (in_hand H.value H.mirrored).data_held in
    let is = h.0 in
    absurd (cc)
