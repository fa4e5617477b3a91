use Rattle.data.proofs.Stores.{some_none}
use Rattle.data.proofs.Spares.{alike_put}
use Rattle.data.proofs.Copying.{fields_within}
use Rattle.data.proofs.copies.copy_turn.Goals as goal

pub unreachable-requires-in_default-write : goal.unreachable-requires-in_default-write
unreachable-requires-in_default-write g c = some_none (fields_within c.copy_fields-turn.ensures c.args.cell c.in-Ok.contents c.in-Ok.ensures.0) c.in_default-write.ensures.dead

pub returns : goal.returns
returns g c = record {
  old = c.in-Ok.contents;
  new = c.copy_fields-turn.new.contents;
  put = c.with_spare.result;
  mid = g.S.CellStore.cells c.copy_fields-turn.new.store;
  is = c.in-Ok.ensures.0;
  fields = c.copy_fields-turn.ensures;
  alike = alike_put c.with_spare.ensures;
  link = c.with_spare.ensures.spare_is;
  after = c.in-Ok-write.ensures.after;
}
