use Rattle.std.proofs.Common.{◌-◌, length}
use Rattle.naming.proofs.binding.+bind_parts.Given as goal

abbrev pub decreases-bind_parts : goal.decreases-bind_parts
decreases-bind_parts l = length l.world.now.text.now - l.place
