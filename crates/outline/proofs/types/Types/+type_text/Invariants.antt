use Rattle.std.proofs.Common.{◌+◌, ◌*◌}
use Rattle.outline.proofs.types.Types.+type_text.Given as goal

abbrev pub decreases-push : goal.decreases-push
decreases-push l = 2 * l.depth + 0

abbrev pub decreases-push_all : goal.decreases-push_all
decreases-push_all l = 2 * l.depth + 1
