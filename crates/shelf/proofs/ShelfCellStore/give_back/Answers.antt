use Rattle.std.proofs.Common.{◌≡◌, suc, ◌+◌, ◌-◌, ◌<◌, length, set, replicate, is_some, Err, sym, refl, ap, ◌∙◌, subst, arith, rules}
use Rattle.std.proofs.lemmas.List.{length-set, get_or-set_same}
use Rattle.std.proofs.lemmas.Bool.{false≢true}
use Rattle.cells.proofs.Calls.{read_some, read_none}
use Rattle.cells.specs.Meaning.{GivenBack}
use Rattle.shelf.specs.Shelves.{less, among}
use Rattle.shelf.proofs.ShelfLaws.{at_beside, among_at, apart_on, bare_at, bare_on, dead_among, dead_beside, given_beside, less_on}
use Rattle.shelf.proofs.ShelfCellStore.give_back.Goals as goal

pub returns-then-has : goal.returns-then-has
returns-then-has g c =
    let s = c.args.self.now in
    record {
      means = dead_among s.kept (g.S.CellStore.cells s.below.now) c.args.cell (sym c.if-has.ensures);
      keeps = λ few. (λ ok. absurd (false≢true ok), refl);
      full = λ e. refl;
      lent = refl;
    }

pub returns-then-self-ge-PLACES : goal.returns-then-self-ge-PLACES
returns-then-self-ge-PLACES g c =
    let s = c.args.self.now in
    let cells = g.S.CellStore.cells in
    record {
      means = given_beside s.kept (cells s.below.now) (cells c.give_back.new.self) c.args.cell c.give_back.result (sym c.if-has.ensures) c.give_back.ensures;
      keeps = λ few. absurd (omega (arith, few, c.if-self-ge-PLACES.true));
      full = λ e. refl;
      lent = refl;
    }

pub invariant_of-self-2 : goal.invariant_of-self-2
invariant_of-self-2 g c =
    let s = c.args.self.now in
    let bare = bare_on s.kept s.count c.args.cell c.if-self-ge-PLACES.false s.sixteen s.bare in
    record {
      sixteen = length-set s.kept s.count _ ∙ s.sixteen;
      few = omega (arith, c.if-self-ge-PLACES.false);
      bare = search rules;
      once = apart_on s.kept s.count c.args.cell (sym c.if-has.ensures) s.once;
    }

pub returns : goal.returns
returns g c =
    let s = c.args.self.now in
    let cs = g.S.CellStore.cells s.below.now in
    let within : c.args.self.now.count < length c.args.self.now.kept = omega (arith, s.sixteen, c.if-self-ge-PLACES.false) in
    let left : 16 - c.args.self.now.count ≡ suc (16 - (c.args.self.now.count + 1)) = omega (arith, c.if-self-ge-PLACES.false) in
    let none = bare_at s.kept s.count (16 - (s.count + 1)) within (s.bare ∙ ap (λ k. replicate k 65535) left) in
    record {
      means = record {
        live = ap is_some (at_beside s.kept cs c.args.cell (sym c.if-has.ensures) ∙ read_some cs c.args.cell _ (sym c.in_ok-read.ensures));
        after = less_on s.kept s.count c.args.cell cs (g.S.CellStore.small s.below.now) within none;
      };
      keeps = λ few. (
        λ ok.
            ap (λ k. among (set s.kept s.count c.args.cell) k) (sym (get_or-set_same s.kept s.count c.args.cell 0 within))
            ∙ among_at (set s.kept s.count c.args.cell) s.count 0 (simp length-set within),
        refl,
      );
      full = λ e. absurd (omega (arith, e, c.if-self-ge-PLACES.false));
      lent = refl;
    }

pub returns-in_err-read-clause-means : goal.returns-in_err-read-clause-means
returns-in_err-read-clause-means g c =
    let s = c.args.self.now in
    let cs = g.S.CellStore.cells s.below.now in
    let e = c.in_err-read.field-0.0 in
    let is : c.from_residual.result ≡ Err e = search rules in
    subst (λ r. GivenBack (less s.kept cs) c.args.cell r (less s.kept cs)) (sym is) (dead_beside s.kept cs cs c.args.cell e (read_none cs c.args.cell e (sym c.in_err-read.ensures)))
