use mir.Val.{SFits, to_z}
use mir.Syntax.{w32}
use Rattle.std.proofs.Common.{rules, ◌≡◌, [], ◌∷◌, pos, negsuc, sym, ap, ◌∙◌, subst}
use Rattle.std.proofs.lemmas.Int.{to_z-of_z}
use Rattle.std.proofs.lemmas.List.{nil_from_length}
use Rattle.calling.proofs.Exchange.{under_read}
use Rattle.cells.specs.declared.values.Value.TheVariants.{Int}
use Rattle.data.specs.Standing.{Plain, plain_int}
use Rattle.data.specs.Trees.{int}
use Rattle.machine.proofs.Needs.{finishes}
use Rattle.machine.proofs.Resting.{by_rule}
use Rattle.rules.specs.States.{leaves}
use Rattle.rules.specs.Steps.{first_byte, later_bytes}
use Rattle.calling.proofs.concluding.take_byte.Goals as goal

pub returns-in_default-clause-law : goal.returns-in_default-clause-law
returns-in_default-clause-law c = λ P Z m₀ m s K env a U.
    let r = c.args.machine.now in
    let none = nil_from_length r.input.now c.in_default.ensures.cases in
    let left : a.input ≡ [] = sym U.input ∙ none in
    by_rule (finishes P Z K env (leaves (later_bytes a.input) a) (int (first_byte a.input)))
    (c.give.ensures.law P Z m₀ m s K env (leaves (later_bytes a.input) a) (int (first_byte a.input)) (under_read U r.input (later_bytes a.input) (none ∙ ap later_bytes (sym left)))
    (subst (λ z. Plain (Int (negsuc 0)) (int z)) (ap first_byte (sym left)) plain_int))

pub returns-clause-law : goal.returns-clause-law
returns-clause-law c = λ P Z m₀ m s K env a U.
    let n = c.in-Some.byte.now in
    let left : a.input ≡ n ∷ c.in-Some.rest.now = sym U.input ∙ c.in-Some.ensures.cases.0 in
    let fits : SFits w32 (pos n) = search rules in
    let is : to_z w32 n ≡ pos n = to_z-of_z w32 (pos n) fits in
    by_rule (finishes P Z K env (leaves (later_bytes a.input) a) (int (first_byte a.input)))
    (c.give-2.ensures.law P Z m₀ m s K env (leaves (later_bytes a.input) a) (int (first_byte a.input)) (search (under_read U c.in-Some.rest (later_bytes a.input) (ap later_bytes (sym left))))
    (subst (λ z. Plain (Int (to_z w32 n)) (int z)) (is ∙ ap first_byte (sym left)) plain_int))
