use Rattle.std.proofs.Common.{◌≡◌, ◌-◌, ◌+◌, rules, arith}
use Rattle.std.proofs.lemmas.Iterator.{cases_from_all, YieldsList-from_range, YieldsList-from_zip}
use borrow.Author.Tests.{tests}
use Rattle.type_rows.specs.Rows.{row_at}
use Rattle.type_rows.proofs.LookLaws.{Alike, Unlike, looks}
use Rattle.type_rows.proofs.rows.Rows.look_same.Goals as goal

pub returns : goal.returns
returns c =
    let rows = c.args.self.now.rows in
    let x = c.args.x in
    let y = c.args.y in
    let n = c.saturating_sub-size.result in
    let sx : (row_at rows x).past - x ≡ n = search rules in
    let sy : (row_at rows y).past - y ≡ n = search rules in
    looks rows x y n sx sy c.all.result
    (cases_from_all c.all.new.self _ c.all.result (Alike rows) (Unlike rows) c.all.ensures.ran (YieldsList-from_zip (YieldsList-from_range x (x + n) n (search rules) (omega arith)) (YieldsList-from_range y (y + n) n (search rules) (omega arith)))
    (λ p q k. search (rules, tests)) (λ p q k. search (rules, tests)))
