use Rattle.std.proofs.Common.{◌<◌, ◌∙◌, sym, ap, arith}
use Rattle.program.specs.declared.code.Code.{Code}
use Rattle.machine.proofs.LetLaws.{goes_further, goes_in}
use Rattle.machine.proofs.lets.bind_next.Goals as goal

pub returns-in-Binding : goal.returns-in-Binding
returns-in-Binding c = λ P env p k bs e here B S.
    let code = c.code_at-code.ensures.code in
    let is = c.in-Binding.is in
    let few : c.args.next < 4096 = c.code_at-code.ensures.used (λ e. cc) in
    goes_further p c.args.at c.args.count here B S (ap (λ (x : Code). x.op) (sym code) ∙ is) (c.after.ensures (omega arith)) (ap (λ (x : Code). x.past) code)

pub returns-in_default : goal.returns-in_default
returns-in_default c = λ P env p k bs e here B S.
    goes_in p c.args.at c.args.count here B S (λ b. c.in_default.not-Binding (ap (λ (x : Code). x.op) c.code_at-code.ensures.code ∙ b))
