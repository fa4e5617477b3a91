use Rattle.std.proofs.Common.{rules, ◌≡◌, min, length, replicate, None, ap, subst, ◌∙◌}
use Rattle.c_host.proofs.Telling.{ran}
use Rattle.c_host.specs.Told.{Ran, fresh, opened}
use Rattle.cells.specs.Lent.{meant}
use Rattle.cells.specs.Meaning.{Cells}
use Rattle.chain.specs.Chains.{chain_cell}
use Rattle.grammar.specs.Trees.{Script}
use Rattle.rehearsal.specs.Asking.{history_of}
use Rattle.rehearsal.specs.Judged.{judgement}
use Rattle.run.specs.Openings.{Opening, opening}
use Rattle.shelf.specs.Shelves.{less}
use Rattle.c_host.proofs.whole.run_so.Goals as goal

pub returns-in-Ok-clause-ran : goal.returns-in-Ok-clause-ran
returns-in-Ok-clause-ran c =
    let z = c.args.sizes in
    let input = c.args.input.now in
    let cells : length c.deref_mut.result.now ≡ z.cells = search rules in
    let nodes : length c.deref_mut-2.result.now ≡ z.nodes = search rules in
    let first : length c.deref_mut-3.result.now ≡ z.first = search rules in
    let second : length c.deref_mut-4.result.now ≡ z.second = search rules in
    let m₀ : Cells = less c.new-store.result.kept (meant chain_cell c.new-store.result.below.now.slots.now) in
    let empty : m₀ ≡ fresh z.cells = c.new-store.ensures.means ∙ (c.new-chain.ensures.empty ∙ ap (λ n. replicate (min n 65535) None) cells) in
    let opens : Script → Opening = λ s. opening s m₀ input (length c.deref_mut-3.result.now) (length c.deref_mut-4.result.now) z.allowance in
    let same : (s : Script) → opens s ≡ opened s input z = λ s.
    ap (λ m. opening s m input (length c.deref_mut-3.result.now) (length c.deref_mut-4.result.now) z.allowance) empty
    ∙ (ap (λ n. opening s (fresh z.cells) input n (length c.deref_mut-4.result.now) z.allowance) first ∙ ap (λ n. opening s (fresh z.cells) input z.first n z.allowance) second) in
    let h = history_of c.conduct.new.asks c.conduct.new.out in
    let m : Cells = less c.conduct.new.store.kept (meant chain_cell c.conduct.new.store.below.now.slots.now) in
    subst (λ n. Ran input z c.args.out.now (judgement c.args.text.now n) c.closed.result c.conduct.new.out) nodes
    (ran (judgement c.args.text.now (length c.deref_mut-2.result.now)) opens input z c.args.out.now c.conduct.new.out c.conduct.new.asks h c.in-Ok.closed m c.in-Some.advanced c.closed.result
    same c.in-Ok.ensures.answers c.in-Ok.ensures.counts c.in-Ok.ensures.made c.in-Some.is c.closed.ensures)
