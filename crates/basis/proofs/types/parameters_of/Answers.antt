use Rattle.std.proofs.Common.{◌≡◌, sym, ap, ◌∙◌, rules}
use Rattle.basis.specs.Types.{parameter_types, listed}
use Rattle.basis.specs.declared.basis_type.BasisType.TheVariants.{Int}
use Rattle.basis.specs.declared.parameters.Parameters.TheVariants.{Two}
use Rattle.basis.proofs.Typing.{mismatch}
use Rattle.basis.proofs.types.parameters_of.Goals as goal

pub returns-in-EqualInt : goal.returns-in-EqualInt
returns-in-EqualInt c =
    let e : Two Int Int ≡ parameter_types c.args.basis = search rules in
    record { value = e; law = λ s h. mismatch c.args.basis s (λ k. h (k ∙ ap listed (sym e))) }
