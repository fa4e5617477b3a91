use Rattle.std.proofs.Common.{◌≡◌, sym, subst, rules}
use Rattle.std.specs.Prelude.{slice_index_or}
use Rattle.globals.specs.Known.{VariantIs}
use Rattle.globals.specs.Names.{no_variant}
use Rattle.globals.proofs.WholeLaws.{variant_is}
use Rattle.globals.proofs.whole.Globals.variant.Goals as goal

pub returns : goal.returns
returns c = λ text script w known g.
    let is : c.variant_at.result ≡ slice_index_or c.args.self.now.declared.variants c.args.k no_variant = search rules in
    subst (VariantIs script c.args.self.now.rows.rows c.args.k) (sym is) (variant_is text c.args.self.now script known c.args.k w g)
