-- The node of what waits.
use Rattle.std.specs.Prelude.{ℕ, Some, None, Option}
use Rattle.machine.specs.declared.frame.Frame.{Frame}
use Rattle.machine.specs.declared.frame.Frame.TheVariants.{Test, Arm, Part, Binding, Leaving, Tested, Head, Argument, Field, Body, Main}

-- none for main's call
abbrev pub node_meant : Frame → Option ℕ
node_meant (Test i) = Some i
node_meant (Arm i) = Some i
node_meant (Part i j) = Some i
node_meant (Binding i j n) = Some i
node_meant (Leaving i n) = Some i
node_meant (Tested i) = Some i
node_meant (Head i) = Some i
node_meant (Argument i j h n) = Some i
node_meant (Field i j) = Some i
node_meant (Body i n) = Some i
node_meant Main = None
