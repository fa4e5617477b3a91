use Rattle.std.proofs.Common.{◌≡◌, Some, None, ap, ◌∙◌, subst}
use Rattle.symbols.specs.Indexing.{Finds, Adds}
use Rattle.symbols.specs.Numbering.{literal_at}
use Rattle.symbols.specs.Parts.{quoted}
use Rattle.symbols.proofs.Firsts.{known_place, known_holds, new_place, new_holds}
use Rattle.symbols.proofs.numbering.first_place.Goals as goal

pub returns-in-Some-clause-first : goal.returns-in-Some-clause-first
returns-in-Some-clause-first c =
    let text = c.args.text.now in
    let l = literal_at text c.args.place in
    let same : c.between.result.now ≡ l.bytes = c.between.ensures ∙ ap (quoted text) c.literal-literal.ensures in
    λ seen h. search (known_place text c.args.index.now seen h l c.in-Some.first (subst (λ w. Finds text c.args.index.now w (Some c.in-Some.first)) same c.in-Some.ensures))

pub returns-in-Some-clause-holds : goal.returns-in-Some-clause-holds
returns-in-Some-clause-holds c =
    let text = c.args.text.now in
    let l = literal_at text c.args.place in
    let same : c.between.result.now ≡ l.bytes = c.between.ensures ∙ ap (quoted text) c.literal-literal.ensures in
    λ seen h. known_holds text c.args.index.now seen h l c.in-Some.first (subst (λ w. Finds text c.args.index.now w (Some c.in-Some.first)) same c.in-Some.ensures)

pub returns-in-None-clause-first : goal.returns-in-None-clause-first
returns-in-None-clause-first c =
    let text = c.args.text.now in
    let l = literal_at text c.args.place in
    let same : c.between.result.now ≡ l.bytes = c.between.ensures ∙ ap (quoted text) c.literal-literal.ensures in
    λ seen h. new_place text c.args.index.now seen h l (subst (λ w. Finds text c.args.index.now w None) same c.in-None.ensures)

pub returns-in-None-clause-holds : goal.returns-in-None-clause-holds
returns-in-None-clause-holds c =
    let text = c.args.text.now in
    let l = literal_at text c.args.place in
    let is = c.literal-literal.ensures in
    let same : c.between.result.now ≡ l.bytes = c.between.ensures ∙ ap (quoted text) is in
    let adds : Adds text c.args.index.now c.add.new.self c.literal-literal.result = search c.add.ensures.adds in
    λ seen h. new_holds text c.args.index.now seen h l (subst (λ w. Finds text c.args.index.now w None) same c.in-None.ensures) c.add.new.self c.literal-literal.result adds (ap (quoted text) is) (ap (λ w. w.place) is)
