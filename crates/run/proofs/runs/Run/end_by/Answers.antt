use Rattle.std.proofs.Common.{rules, ◌≡◌, ◌≢◌, sym, ap, ◌∙◌, subst}
use Rattle.machine.specs.declared.control.Control.TheVariants.{Over}
use Rattle.rules.specs.declared.answers.End.TheVariants.{Ended, Paused, OutputFull}
use Rattle.run.specs.Insides.{Settled, settled_full, settled_failed, settled_over, settled_paused, settled_spent}
use Rattle.run.specs.declared.stretches.Stop.TheVariants.{Halted}
use Rattle.run.proofs.runs.Run.end_by.Goals as goal

pub returns-in-OutputFull : goal.returns-in-OutputFull
returns-in-OutputFull c =
    subst (λ s. Settled c.args.self.now s c.args.counted OutputFull c.args.self.now) (sym (c.in-Halted.is ∙ ap (λ h. Halted h) c.in-OutputFull.is)) settled_full

pub returns-in-Failed : goal.returns-in-Failed
returns-in-Failed c =
    subst (λ s. Settled c.args.self.now s c.args.counted c.fail.result c.fail.new.self) (sym (c.in-Halted.is ∙ ap (λ h. Halted h) c.in-Failed.is)) (settled_failed c.fail.ensures)

pub returns-in-Rested : goal.returns-in-Rested
returns-in-Rested c =
    let over : c.args.self.now.machine.control ≡ Over = search rules in
    subst (λ s. Settled c.args.self.now s c.args.counted Ended c.args.self.now) (sym c.in-Rested.is) (settled_over over)

pub returns-in-Rested-2 : goal.returns-in-Rested-2
returns-in-Rested-2 c =
    let going : c.args.self.now.machine.control ≢ Over = search rules in
    subst (λ s. Settled c.args.self.now s c.args.counted Paused c.args.self.now) (sym c.in-Rested-2.is) (settled_paused going (search rules))

pub returns-in-Rested-3 : goal.returns-in-Rested-3
returns-in-Rested-3 c =
    let going : c.args.self.now.machine.control ≢ Over = search rules in
    subst (λ s. Settled c.args.self.now s c.args.counted c.fail-in-Rested-3.result c.fail-in-Rested-3.new.self) (sym c.in-Rested-3.is) (settled_spent going (search rules) c.fail-in-Rested-3.ensures)
