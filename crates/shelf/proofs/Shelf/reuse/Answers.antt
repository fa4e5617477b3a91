use Rattle.std.proofs.Common.{◌<◌, length, sym, ap, ◌∙◌, subst, arith}
use Rattle.std.proofs.lemmas.Bool.{true≢false}
use Rattle.cells.specs.Meaning.{at, is_live, TakenAt, Written}
use Rattle.shelf.specs.Shelves.{less, among}
use Rattle.shelf.proofs.ShelfLaws.{among_at, among_none, less_none, emptied, not_live, live_number, popped_hit, popped_miss}
use Rattle.shelf.proofs.Shelf.reuse.Goals as goal

pub returns-then-is_ok-clause-found : goal.returns-then-is_ok-clause-found
returns-then-is_ok-clause-found g c =
    let s = c.loop-top.self in
    let t = c.pop.new.self in
    let top = c.in-Some.top in
    let cells = g.S.CellStore.cells in
    let after = cells c.write.new.self in
    let p = c.in-Some.ensures in
    let held = c.loop-top.invariant in
    let within : c.pop.new.self.count < length c.loop-top.self.kept = omega (arith, s.few, s.sixteen, p.0) in
    let written = subst (λ below. Written (cells below.now) top c.args.contents c.write.result after) p.3 c.write.ensures in
    let hit = popped_hit s.kept t.kept t.count top (cells s.below.now) after c.args.contents c.write.result (g.S.CellStore.small s.below.now) within s.once p.1 p.2 (sym c.if-is_ok.ensures.value) written in (
      subst (λ cs. TakenAt cs c.args.contents top (less t.kept after)) held.1 hit.0,
      sym (held.2 top (ap (λ cs. is_live cs top) (sym held.0) ∙ hit.1)) ∙ ap (among s.kept) p.1 ∙ among_at s.kept t.count 0 within,
    )

pub loop-top-preserved : goal.loop-top-preserved
loop-top-preserved g c =
    let s = c.loop-top.self in
    let t = c.pop.new.self in
    let cells = g.S.CellStore.cells in
    let after = cells c.write.new.self in
    let p = c.in-Some.ensures in
    let held = c.loop-top.invariant in
    let within : c.pop.new.self.count < length c.loop-top.self.kept = omega (arith, s.few, s.sixteen, p.0) in
    let written = subst (λ below. Written (cells below.now) c.in-Some.top c.args.contents c.write.result after) p.3 c.write.ensures in
    let miss = popped_miss s.kept t.kept t.count c.in-Some.top (cells s.below.now) after c.args.contents c.write.result (g.S.CellStore.small s.below.now) within p.1 p.2 (sym c.if-is_ok.ensures.value) written in (
      miss.0 ∙ held.0,
      miss.1 ∙ held.1,
      λ k live. miss.2 k (ap (λ cs. is_live cs k) held.0 ∙ live) ∙ held.2 k live,
      ap (λ below. below.ghost_name) p.3 ∙ held.3,
    )

pub returns-clause-found : goal.returns-clause-found
returns-clause-found g c =
    let s = c.loop-top.self in
    let cells = g.S.CellStore.cells in
    let entry = cells c.args.self.now.below.now in
    let small = g.S.CellStore.small c.args.self.now.below.now in
    let held = c.loop-top.invariant in
    let end = c.in_default.ensures in
    let none = emptied s.kept s.count (omega (arith, end.0)) s.bare in (
      ap (λ shelf. cells shelf.below.now) end.1
          ∙ sym (ap (λ ks. less ks (cells s.below.now)) none ∙ less_none 16 (cells s.below.now) (g.S.CellStore.small s.below.now))
          ∙ held.1,
      ap (λ shelf. shelf.kept) end.1 ∙ none,
      λ k on. not_live (at entry k) (λ live. true≢false (sym on ∙ sym (held.2 k live) ∙ ap (λ ks. among ks k) none ∙ among_none 16 k (live_number entry k small live))),
    )
