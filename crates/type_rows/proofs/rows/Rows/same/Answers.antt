use Rattle.std.proofs.Common.{rules}
use Rattle.type_rows.proofs.ShapeLaws.{function_other, plain_same}
use Rattle.type_rows.proofs.rows.Rows.same.Goals as goal
use Rattle.type_rows.proofs.rows.Rows.same.Goals.{in_default-via-in-Function+in_default, in_default-via-in_default}

pub returns-in_default : goal.returns-in_default
returns-in_default c = λ m means j k. elim c.in_default.branch [
  | in_default-via-in-Function+in_default w ↦
      function_other c.args.self.now.rows m means c.args.a c.args.b w.in_default.field-0-0 w.in_default.is-0 j w.in_default.not-Function-1 c.eq.result (search rules, search rules)
  | in_default-via-in_default w ↦ plain_same c.args.self.now.rows m means c.args.a c.args.b w.in_default.not-Function-0 k c.eq.result (search rules, search rules)
]
