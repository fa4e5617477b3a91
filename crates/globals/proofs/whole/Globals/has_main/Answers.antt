use Rattle.std.proofs.Common.{◌≡◌, ℕ, Some, codes, sym, ap, ◌∙◌, subst, rules}
use Rattle.basis.specs.declared.function.Basis.TheVariants.{PrintNewline}
use Rattle.globals.specs.Known.{meaning_in}
use Rattle.globals.specs.Tallies.{meaning_of}
use Rattle.globals.specs.declared.global.Global.TheVariants as machine
use Rattle.program.specs.Programs.{program}
use Rattle.type_rows.specs.Rows.{IsKind}
use Rattle.type_rows.specs.Signatures.{root_of}
use Rattle.type_rows.specs.declared.value_type.ValueType.TheVariants as value
use Rattle.type_rows.specs.Shapes.{ty}
use Rattle.type_rows.specs.TypeExprs.{types_listed}
use Rattle.type_rows.proofs.ScriptRows.{basis_meant}
use Rattle.typing.specs.Types.{same_type}
use Rattle.globals.proofs.GlobalLaws.{not_function, nothing_named}
use Rattle.globals.proofs.WholeLaws.{basis_valid, main_function, no_main}
use Rattle.globals.proofs.whole.Globals.has_main.Goals as goal

pub returns : goal.returns
returns c = λ script known.
    let g = c.args.self.now in
    let text = c.args.text.now in
    let m = meaning_in script in
    let main : c.named.result ≡ Some (machine.Function c.in-Some-Function.n) = search rules in
    let means-n = sym (c.named.ensures script known) ∙ ap meaning_of main in
    let is = c.function_type.ensures text script (codes "main") known means-n in
    let newline : c.basis_type.result ≡ value.Function (root_of PrintNewline) = search rules in
    main_function text g script known c.in-Some-Function.n c.function_type.result c.same.result means-n is
    (c.same.ensures m known.mean is.valid (subst (IsKind g.rows.rows) (sym newline) (basis_valid text g script known PrintNewline))
    ∙ ap (λ k. same_type (ty m c.function_type.result) (ty m k)) newline ∙ ap (same_type (ty m c.function_type.result)) (basis_meant (program script) (types_listed script) PrintNewline))

pub returns-in_default : goal.returns-in_default
returns-in_default c = λ script known.
    let g = c.in_default.field-0 in
    let other : (n : ℕ) → g ≡ machine.Function n → ⊥ = search rules in
    no_main c.args.text.now c.args.self.now script known (not_function g _ (sym (ap meaning_of c.in_default.is) ∙ c.named.ensures script known) other)

pub returns-in_default-2 : goal.returns-in_default-2
returns-in_default-2 c = λ script known.
    no_main c.args.text.now c.args.self.now script known (nothing_named _ (sym (ap meaning_of c.in_default.is) ∙ c.named.ensures script known))
