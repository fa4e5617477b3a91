use Rattle.std.proofs.Common.{◌≡◌, length, Err, sym, ap, ◌∙◌, subst, rules}
use Rattle.globals.specs.Tallies.{Declared}
use Rattle.layout.specs.declared.definition.Definition.TheVariants as definition
use Rattle.std.proofs.lemmas.List.{length-map}
use Rattle.grammar.specs.Trees.{Ident}
use Rattle.globals.proofs.DeclaringLaws.{datatype_refused, datatype_made}
use Rattle.globals.proofs.declarations.Declarations.datatype.Goals as goal

pub returns-in_err-name_datatype : goal.returns-in_err-name_datatype
returns-in_err-name_datatype c =
    let r = c.in_err-name_datatype.field-0.0 in
    let is : c.from_residual.result ≡ Err r = search rules in
    subst (λ x. Declared c.args.parsed.now.text.now c.args.parsed.now.tables.now (definition.Datatype c.args.datatype) c.args.self.now x c.name_datatype.new.self) (sym is)
    (datatype_refused c.args.parsed.now.text.now c.args.parsed.now.tables.now c.args.datatype c.args.self.now c.name_datatype.new.self r c.in_err-name_datatype.ensures.told)

pub returns : goal.returns
returns c =
    datatype_made c.args.parsed.now.text.now c.args.parsed.now.tables.now c.args.datatype c.args.self.now c.name_datatype.new.self c.constructors.new.self c.count-number.result c.constructors.result
    (λ t h. c.count-number.ensures.names c.args.parsed.now.text.now h.datatypes ∙ ap length h.datatypes_are ∙ length-map t.datatypes (λ (x : Ident). x.bytes)) c.in_ok-name_datatype.ensures.told c.in_ok-name_datatype.ensures.holds c.constructors.ensures.told c.constructors.ensures.holds
