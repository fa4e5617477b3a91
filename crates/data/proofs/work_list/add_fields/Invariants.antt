use Rattle.cells.specs.Records.{row}
use Rattle.data.proofs.Walking.{Adding}
use Rattle.data.proofs.work_list.add_fields.Given as goal

abbrev pub invariant-loop-field : goal.invariant-loop-field
invariant-loop-field g l =
    let cells = g.S.CellStore.cells in
    Adding (cells l.initial.store) l.initial.todo.value l.initial.todo.rest (row l.fn.contents) l.field-iterator.iter.rest.now l.todo.value l.todo.rest (cells l.store)
