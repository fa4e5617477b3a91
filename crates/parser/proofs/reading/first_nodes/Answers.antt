use Rattle.std.proofs.Common.{◌≡◌, length, min, take, ap, ◌∙◌, arith}
use Rattle.std.proofs.lemmas.List.{take_min, take_all, take-append-le, length-take}
use Rattle.parser.proofs.reading.first_nodes.Goals as goal

pub returns : goal.returns
returns c =
    let ns = c.args.nodes.now in
    let m = min (length ns) 4096 in
    let copied : c.copy_from_slice.new.self ≡ take c.min-count.result ns = c.copy_from_slice.ensures.after in
    let size = length-take c.min-count.result ns in
    let long = ap length copied in
    let most : c.min-count.result ≡ min 4096 (length ns) = omega arith in
    take-append-le m c.copy_from_slice.new.self _ (omega arith) ∙ take_all m c.copy_from_slice.new.self (omega arith) ∙ copied ∙ ap (λ k. take k ns) most ∙ take_min 4096 ns
