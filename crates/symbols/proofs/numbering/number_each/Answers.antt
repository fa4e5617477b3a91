use Rattle.std.proofs.Common.{◌≡◌, ◌+◌, get_or, set, refl, sym, ap, ◌∙◌, subst, arith}
use Rattle.std.proofs.lemmas.List.{set-get_or}
use Rattle.layout.specs.Encoding.{node, unused}
use Rattle.layout.specs.declared.node.NodeForm.TheVariants as form
use Rattle.symbols.specs.Numbering.{symbol_place}
use Rattle.symbols.proofs.Firsts.{none_held}
use Rattle.symbols.proofs.Passing.{Passing, no_symbol, passing_start, passing_symbol, passing_other, passing_end}
use Rattle.symbols.proofs.numbering.number_each.Goals as goal
use Rattle.symbols.proofs.numbering.number_each.Goals.{in-Symbol, in_default}

pub loop-node-init : goal.loop-node-init
loop-node-init c =
    let text = c.args.text.now in
    passing_start text c.args.nodes.now c.new-index.result (c.new-index.ensures.index text) c.new-index.ensures.empty (none_held text c.new-index.result c.new-index.ensures.empty)

pub loop-node-preserved : goal.loop-node-preserved
loop-node-preserved c =
    let text = c.args.text.now in
    let old = c.args.nodes.now in
    let i = c.loop-node.node-index in
    let s = c.loop-node.invariant in
    let long = s.long in
    elim c.match-node.branch [
      | in-Symbol w ↦
          let made = w.first_place-first in
          let n = get_or c.loop-node.nodes i unused in
          let v = node (form.Symbol made.result) n.place n.past in
          let done = passing_symbol text old i c.loop-node.index c.loop-node.nodes (omega arith) s w.in-Symbol.place made.result made.new.index v (ap symbol_place w.in-Symbol.is) made.ensures.index made.ensures.few made.ensures.first made.ensures.holds refl in
          let put : c.match-node.nodes ≡ set c.loop-node.nodes i v = search w.nodes-is in
          subst (λ ix. Passing text old (i + 1) ix c.match-node.nodes) (sym w.index-is) (subst (λ ns. Passing text old (i + 1) made.new.index ns) (sym put) done)
      | in_default w ↦
          let done = passing_other text old i c.loop-node.index c.loop-node.nodes (omega arith) s (no_symbol _ w.in_default.not-Symbol) in
          subst (λ ix. Passing text old (i + 1) ix c.match-node.nodes) (sym w.index-is) (subst (λ ns. Passing text old (i + 1) c.loop-node.index ns) (sym (w.nodes-is ∙ set-get_or c.loop-node.nodes i unused)) done)
    ]

pub returns : goal.returns
returns c = passing_end c.args.text.now c.args.nodes.now c.loop-node.node-index c.loop-node.index c.loop-node.nodes (omega arith) c.loop-node.invariant
