use mir.Val.{SFits}
use mir.Syntax.{w32}
use Rattle.std.proofs.Common.{Some, sym, refl, ap, ◌∙◌, subst, rules}
use Rattle.std.proofs.lemmas.Int.{to_z-of_z}
use Rattle.calling.specs.Applying.{SaysApplied}
use Rattle.cells.specs.declared.values.Value.TheVariants.{Int}
use Rattle.data.specs.Standing.{Plain, plain_int, plain_bool}
use Rattle.data.specs.Trees.{int, bool}
use Rattle.machine.proofs.Resting.{silent, by_printing}
use Rattle.machine.specs.Mirrors.{printed_not, printed_any}
use Rattle.rules.specs.Steps.{answer, finish, fails}
use Rattle.calling.proofs.concluding.conclude.Goals as goal

pub returns-in-Int-clause-law : goal.returns-in-Int-clause-law
unfolding answer finish
returns-in-Int-clause-law c = λ P Z m₀ m s K env a M U says.
    let n = c.in-Int.number in
    let fits : SFits w32 n = search rules in
    by_printing (ap (answer P Z c.args.basis K env a) c.in-Int.is)
    (silent c.unprinted.ensures.same refl (c.give.ensures.law P Z m₀ m s K env a (int n) U (subst (λ z. Plain (Int z) (int n)) (sym (to_z-of_z w32 n fits)) plain_int)))

pub returns-in-Bool-clause-law : goal.returns-in-Bool-clause-law
unfolding answer finish
returns-in-Bool-clause-law c = λ P Z m₀ m s K env a M U says.
    by_printing (ap (answer P Z c.args.basis K env a) c.in-Bool.is) (silent c.unprinted-in-Bool.ensures.same refl (c.give-in-Bool.ensures.law P Z m₀ m s K env a (bool c.in-Bool.truth) U plain_bool))

pub returns-in-Prints-clause-law : goal.returns-in-Prints-clause-law
unfolding answer
returns-in-Prints-clause-law c = λ P Z m₀ m s K env a M U says.
    by_printing (ap (answer P Z c.args.basis K env a) c.in-Prints.is) (c.put.ensures.law P Z m₀ m s K env a M U (subst (SaysApplied P c.args.machine.now.text.now) c.in-Prints.is says))

pub returns-in-Reads-clause-law : goal.returns-in-Reads-clause-law
unfolding answer
returns-in-Reads-clause-law c = λ P Z m₀ m s K env a M U says.
    by_printing (ap (answer P Z c.args.basis K env a) c.in-Reads.is) (silent c.unprinted-in-Reads.ensures.same refl (c.take_byte.ensures.law P Z m₀ m s K env a U))

pub returns-in-Faults-clause-law : goal.returns-in-Faults-clause-law
unfolding answer
returns-in-Faults-clause-law c = λ P Z m₀ m s K env a M U says.
    search (by_printing {old = c.args.out.now} {new = c.args.out.now} (ap (answer P Z c.args.basis K env a) c.in-Faults.is ∙ ap (λ k. fails k (Some c.args.basis)) (sym c.from.ensures)) (printed_not {kind = c.from.result} {f = Some c.args.basis} refl M))

pub returns-in-Mismatch-clause-law : goal.returns-in-Mismatch-clause-law
unfolding answer
returns-in-Mismatch-clause-law c = λ P Z m₀ m s K env a M U says. by_printing (ap (answer P Z c.args.basis K env a) c.in-Mismatch.is) printed_any
