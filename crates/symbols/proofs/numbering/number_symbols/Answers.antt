use Rattle.std.proofs.Common.{◌≡◌, ◌++◌, min, [], length, take, drop, ap, ◌∙◌, arith}
use Rattle.std.proofs.lemmas.List.{take_min, drop_min}
use Rattle.symbols.specs.Numbering.{numbered}
use Rattle.symbols.proofs.numbering.number_symbols.Goals as goal

pub returns : goal.returns
returns c =
    let text = c.args.text.now in
    let old = c.args.nodes.now in
    let count : c.min-count.result ≡ min 4096 (length old) = omega arith in
    ap (λ xs. xs ++ drop c.min-count.result old) c.number_each.ensures ∙ ap (λ m. numbered text [] (take m old) ++ drop m old) count
    ∙ ap (λ xs. numbered text [] xs ++ drop (min 4096 (length old)) old) (take_min 4096 old) ∙ ap (λ xs. numbered text [] (take 4096 old) ++ xs) (drop_min 4096 old)
