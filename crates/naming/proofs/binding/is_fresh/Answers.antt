use Rattle.std.proofs.Common.{◌≡◌, ◌&&◌, true, sym, ap, ◌∙◌, rules}
use Rattle.std.specs.Option.{is_some, is_none}
use Rattle.naming.specs.Judges.{text_of}
use Rattle.naming.proofs.BindLaws.{some_local, fresh_local, fresh_found}
use Rattle.naming.proofs.binding.is_fresh.Goals as goal

pub returns-then-is_none : goal.returns-then-is_none
returns-then-is_none c script marks set =
    let first : is_none c.find.result ≡ true = search rules in
    let second : c.is_none-then-is_none.result ≡ is_none c.named.result = search rules in
    second ∙ sym (ap (λ b. b && is_none c.named.result) first) ∙ fresh_found c.args.world.now script c.args.locals.now marks c.args.name.now c.args.depth c.find.result c.named.result c.find.ensures (c.named.ensures script set.known)

pub returns-else-is_none : goal.returns-else-is_none
returns-else-is_none c script marks set =
    let there : is_some c.find.result ≡ true = search rules in
    let local = some_local (text_of c.args.world.now script) c.args.locals.now c.args.name.now c.args.depth c.find.result c.find.ensures there in
    c.if-is_none.false ∙ sym (fresh_local c.args.world.now script c.args.locals.now marks c.args.name.now c.args.depth local.0 local.1)
