use Rattle.std.proofs.Common.{◌≡◌, ℕ, get_or, Some, None, sym, ap, ◌∙◌, rules}
use Rattle.globals.specs.Tallies.{meaning_of}
use Rattle.globals.specs.declared.global.Global.TheVariants as machine
use Rattle.globals.proofs.DefineLaws.{is_define, no_define, not_define}
use Rattle.globals.proofs.GlobalLaws.{is_bound, not_bound, not_function, nothing_named}
use Rattle.globals.proofs.declarations.Declarations.has_define.Goals as goal

pub returns-in-Some-Function : goal.returns-in-Some-Function
returns-in-Some-Function c = λ script n.
    let b = is_bound c.args.text.now c.args.self.now script n c.args.name.now c.in-Some.k (c.in-Some.ensures.found n.bound) in
    let g = c.in-Some-Function.field-0-0 in
    let is : get_or c.args.self.now.meanings c.in-Some.k None ≡ Some (machine.Function g) = search rules in
    sym (is_define script n.bound_once c.args.name.now b.entry g b.first (sym b.meaning ∙ ap meaning_of is))

pub returns-in_default-matches : goal.returns-in_default-matches
returns-in_default-matches c = λ script n.
    let b = is_bound c.args.text.now c.args.self.now script n c.args.name.now c.in-Some.k (c.in-Some.ensures.found n.bound) in
    let g = c.in_default-matches.field-0 in
    let other : (k : ℕ) → g ≡ machine.Function k → ⊥ = search rules in
    sym (no_define script n.bound_once c.args.name.now b.entry b.first (not_function g b.entry.meaning (sym (ap meaning_of c.in_default-matches.is) ∙ b.meaning) other))

pub returns-in_default-matches-2 : goal.returns-in_default-matches-2
returns-in_default-matches-2 c = λ script n.
    let b = is_bound c.args.text.now c.args.self.now script n c.args.name.now c.in-Some.k (c.in-Some.ensures.found n.bound) in
    sym (no_define script n.bound_once c.args.name.now b.entry b.first (nothing_named b.entry.meaning (sym (ap meaning_of c.in_default-matches.is) ∙ b.meaning)))

pub returns-in_default : goal.returns-in_default
returns-in_default c = λ script n. sym (not_define script n.bound_once c.args.name.now (not_bound c.args.text.now c.args.self.now script n c.args.name.now (c.in_default.ensures.found n.bound)))
