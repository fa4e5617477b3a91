-- A run that was just opened stands for the run of the rules.
use Rattle.std.proofs.Common.{◌≡◌, ℕ, ◌≤◌, [], ◌++◌, map, length, None, sym, refl, ap, subst, arith}
use Rattle.cells.proofs.CellLaws.{count_le}
use Rattle.data.specs.Taking.{Out, out_none}
use Rattle.data.specs.Trees.{none}
use Rattle.machine.specs.Holding.{is_full, values_in}
use Rattle.machine.specs.Mirrors.{mirrors}
use Rattle.machine.specs.Ready.{Ready}
use Rattle.machine.specs.Waiting.{Waits, waits_none, Next, next_opened, value_in_hand}
use Rattle.machine.specs.declared.control.Control.TheVariants.{Opened}
use Rattle.machine.specs.declared.machine.Machine.{Machine}
use Rattle.program.specs.Programs.{program}
use Rattle.rules.specs.Runs.{opened_run, allowed}
use Rattle.rules.specs.States.{opened}
use Rattle.rules.proofs.Soundness.{sound_opened}
use Rattle.run.specs.Insides.{Inside}
use Rattle.run.specs.Openings.{Opening}
use Rattle.stack.specs.Items.{tops, room_of}
use Rattle.typing.specs.Scripts.{Allowed}

pub opened_inside : (o : Opening) (r : Machine) (n : ℕ) → Allowed o.script → Ready r.script.now r.text.now (program o.script) → room_of r.frames ≡ o.frames → room_of r.slots ≡ o.entries → tops r.frames ≡ [] → tops r.slots ≡ []
    → r.control ≡ Opened → r.input.now ≡ o.input → r.taken ≡ 0 → r.given ≡ 0 → n ≡ allowed o.allowance → length o.cells ≤ 65535
    → Inside o (opened_run o.input) (record { machine = r; allowance = n; steps = 0; fault = None }) o.cells
opened_inside o r n ok ready frames entries no_frames no_slots control input taken given allowance small = record {
  lawful = ok;
  mirrored = mirrors (record {
    ready = ready;
    frames_room = frames;
    slots_room = entries;
    frames = subst (Waits (program o.script) r.script.now.code [] []) (sym no_frames) waits_none;
    full = ap (map is_full) no_slots;
    data_held = nothing_held;
    cells = omega (arith, count_le o.cells);
    input = input;
    taken = taken;
    given = given;
  }) (subst (Next (program o.script) r.script.now.code [] opened) (sym control) next_opened);
  spoken = (tt, tt, tt);
  small = small;
  sound = sound_opened;
  allowance = allowance;
  steps = refl;
  fault = refl;
  within = omega arith;
  few = omega arith;
}
  where
    nothing_held : Out o.cells (value_in_hand r.control ++ values_in (tops r.slots)) none o.cells
    nothing_held = rw (control, no_slots) out_none
