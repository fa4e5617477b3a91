use Rattle.std.proofs.Common.{◌≡◌, ℕ, List, length, sym, ap, ◌∙◌, arith, rules}
use Rattle.std.proofs.lemmas.List.{get_or-set_same, set-set}
use Rattle.layout.specs.Tabling.{unused_function}
use Rattle.layout.specs.declared.function.Function.{Function}
use Rattle.layout.specs.declared.function.Functions.{Functions}
use Rattle.parser.specs.Noting.{fits_word, given_word, bare_word}
use Rattle.parser.proofs.FunctionLaws.{table_hit, table_hit_length, table_miss, table_miss_length}
use Rattle.parser.proofs.functions.Given.note.Goals as goal

abbrev table : ℕ → List Function → Functions
table n xs = record { count = n; entries = xs }

both : (n m : ℕ) (xs ys : List Function) → n ≡ m → xs ≡ ys → table n xs ≡ table m ys
both n m xs ys p q = ap (λ n. table n xs) p ∙ ap (table m) q

pub returns-then-i-count : goal.returns-then-i-count
returns-then-i-count c =
    let f = c.args.functions.now in
    let long : length f.entries ≡ 768 = search rules in
    let fits = fits_word c.args.self.now.text.now c.args.self.now.half c.args.self.now.name in
    let give = given_word c.args.self.now.half c.args.number in
    let new = bare_word c.args.self.now.name in
    both _ _ _ _ (table_hit_length fits give new f.entries f.count c.find-i.result unused_function (omega arith) c.find-i.ensures c.if-i-count.true)
    (sym (table_hit fits give new f.entries f.count c.find-i.result _ _ (omega arith) c.find-i.ensures c.if-i-count.true c.fill.ensures))

pub returns : goal.returns
returns c =
    let f = c.args.functions.now in
    let long : length f.entries ≡ 768 = search rules in
    let fits = fits_word c.args.self.now.text.now c.args.self.now.half c.args.self.now.name in
    let give = given_word c.args.self.now.half c.args.number in
    let new = bare_word c.args.self.now.name in
    both _ _ _ _ (table_miss_length fits give new f.entries f.count c.find-i.result (omega arith) c.find-i.ensures c.if-i-count.false)
    (set-set f.entries f.count new _
    ∙ sym (table_miss fits give new f.entries f.count c.find-i.result _ (omega arith) c.find-i.ensures c.if-i-count.false (c.fill-2.ensures ∙ ap give (get_or-set_same f.entries f.count new _ (omega arith)))))
