use Rattle.std.proofs.Common.{Some, sym, ap, ◌∙◌, arith}
use Rattle.globals.specs.Tallies.{meaning_of}
use Rattle.checking.proofs.MainLaws.{main_global, main_number, not_unbound, not_other}
use Rattle.checking.proofs.whole.main_of.Goals as goal

pub returns-in-Function : goal.returns-in-Function
returns-in-Function c = λ script known stands.
    let named = sym (ap meaning_of (c.in-Some.is ∙ ap Some c.in-Function.is)) ∙ c.named.ensures script known in
    let number = main_number c.args.parsed.now.text.now c.args.parsed.now.globals.now script known stands c.in-Function.n named in
    let less = c.saturating_sub.ensures in
    omega arith

pub returns-in_default : goal.returns-in_default
returns-in_default c = λ script known stands.
    not_unbound _ (sym (ap meaning_of c.in_default.is) ∙ c.named.ensures script known ∙ main_global c.args.parsed.now.text.now c.args.parsed.now.globals.now script known stands)

pub returns-in-Constructor : goal.returns-in-Constructor
returns-in-Constructor c = λ script known stands.
    not_other c.in-Some.main _ c.in-Constructor.is (sym (ap meaning_of c.in-Some.is) ∙ c.named.ensures script known ∙ main_global c.args.parsed.now.text.now c.args.parsed.now.globals.now script known stands)
