use Rattle.std.proofs.Common.{refl}
use Rattle.forms.proofs.CountingLaws.{unknown, told_none}
use Rattle.forms.proofs.source.Source.new.Goals as goal

pub count_lists-requires : goal.count_lists-requires
count_lists-requires c = told_none c.args.text.now 65536 unknown refl
