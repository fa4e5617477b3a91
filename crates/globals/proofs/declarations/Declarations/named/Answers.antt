use Rattle.std.proofs.Common.{◌≡◌, sym, ap, ◌∙◌, rules}
use Rattle.globals.specs.Tallies.{meaning_of}
use Rattle.program.specs.Programs.{basis_or, unbound}
use Rattle.globals.proofs.GlobalLaws.{bound_means, unbound_means, basis_means}
use Rattle.globals.proofs.declarations.Declarations.named.Goals as goal

pub returns-in-Some : goal.returns-in-Some
returns-in-Some c = λ script n. search (rules, bound_means c.args.text.now c.args.self.now script n c.args.name.now c.in-Some.k (c.in-Some.ensures.found n.bound))

pub returns-in-None : goal.returns-in-None
returns-in-None c = λ script n.
    let made : meaning_of c.map.result ≡ basis_or c.find-in-None.result unbound = basis_means c.find-in-None.result c.map.result (search rules) in
    made ∙ sym (unbound_means c.args.text.now c.args.self.now script n c.args.name.now (c.in-None.ensures.found n.bound) ∙ ap (λ o. basis_or o unbound) (sym c.find-in-None.ensures.value))
