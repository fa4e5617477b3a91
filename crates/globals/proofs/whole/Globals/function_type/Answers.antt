use Rattle.std.proofs.Common.{sym, subst, rules}
use Rattle.globals.specs.Known.{FunctionIs}
use Rattle.globals.proofs.WholeLaws.{basis_function, define_function}
use Rattle.globals.proofs.whole.Globals.function_type.Goals as goal

pub returns-in-Ok : goal.returns-in-Ok
returns-in-Ok c = λ text script w known g.
    subst (FunctionIs script c.args.self.now.rows.rows c.args.n) (sym c.basis_type.ensures) (basis_function text c.args.self.now script known c.args.n c.in-Ok.basis c.in-Ok.ensures.0)

pub returns-in-Err : goal.returns-in-Err
returns-in-Err c = λ text script w known g.
    define_function text c.args.self.now script known c.args.n w c.define_type.result c.in-Err.ensures.0 g (search rules)
