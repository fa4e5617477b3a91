use Rattle.std.proofs.Common.{◌≡◌, Err, sym, subst, rules}
use Rattle.globals.specs.Tallies.{Declared}
use Rattle.globals.proofs.DeclaringLaws.{define_refused, define_made}
use Rattle.layout.specs.declared.definition.Definition.TheVariants as definition
use Rattle.globals.proofs.declarations.Declarations.define.Goals as goal

pub returns-in_err-bind : goal.returns-in_err-bind
returns-in_err-bind c =
    let r = c.in_err-bind.field-0.0 in
    let is : c.from_residual.result ≡ Err r = search rules in
    subst (λ x. Declared c.args.parsed.now.text.now c.args.parsed.now.tables.now (definition.Define c.args.define) c.args.self.now x c.bind.new.self) (sym is)
    (define_refused c.args.parsed.now.text.now c.args.parsed.now.tables.now c.args.define c.args.self.now c.bind.new.self r c.in_err-bind.ensures.told)

pub returns : goal.returns
returns c =
    define_made c.args.parsed.now.text.now c.args.parsed.now.tables.now c.args.define c.args.self.now c.bind.new.self c.args.self.now.functions c.saturating_add-self.result (search rules) c.in_ok-bind.ensures.told c.in_ok-bind.ensures.holds (search rules)
