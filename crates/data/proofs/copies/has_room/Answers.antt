use Rattle.std.proofs.Common.{◌≡◌, is_ok, refl, ap, arith}
use Rattle.std.proofs.lemmas.Bool.{false≢true}
use Rattle.cells.proofs.CellLaws.{count_le}
use Rattle.data.specs.Trees.{size}
use Rattle.data.proofs.Outs.{out_count}
use Rattle.data.proofs.Keeping.{out_from_keeps}
use Rattle.data.proofs.Spares.{respared_none}
use Rattle.data.proofs.copies.has_room.Goals as goal

pub overflow_sub-free : goal.overflow_sub-free
overflow_sub-free g c = omega (arith, count_le (g.S.CellStore.cells c.args.store.now), c.live_count-live.ensures, c.capacity.ensures)

pub returns-then-free-live : goal.returns-then-free-live
returns-then-free-live g c =
    let entry = g.S.CellStore.cells c.args.store.now in
    record {
      long = refl;
      live = refl;
      same = respared_none _;
      far = record { each = λ i d. refl };
      tells = λ t m₀ k. (omega (arith, out_count (out_from_keeps m₀ entry _ _ k), c.live_count-live.ensures, c.capacity.ensures, c.if-free-live.true), k);
    }

pub returns-in_err-count : goal.returns-in_err-count
returns-in_err-count g c =
    let sized = c.in_err-count.ensures in
    record {
      long = sized.long;
      live = sized.live;
      same = sized.same;
      far = sized.far;
      tells = λ t m₀ k. absurd (false≢true (ap is_ok (sized.counts t m₀ k).0));
    }

pub returns-then-count-free : goal.returns-then-count-free
returns-then-count-free g c =
    let entry = g.S.CellStore.cells c.args.store.now in
    let sized = c.in_ok-count.ensures in
    record {
      long = sized.long;
      live = sized.live;
      same = sized.same;
      far = sized.far;
      tells = λ t m₀ k.
          let z = sized.counts t m₀ k in
          let count_is : c.in_ok-count.count ≡ size t = let y = z.0 in cc in
          ((refl, omega (arith, count_is, count_le entry, c.live_count-live.ensures, c.capacity.ensures, c.if-count-free.true)), z.1);
    }

pub returns : goal.returns
returns g c =
    let entry = g.S.CellStore.cells c.args.store.now in
    let sized = c.in_ok-count.ensures in
    record {
      long = sized.long;
      live = sized.live;
      same = sized.same;
      far = sized.far;
      tells = λ t m₀ k.
          let z = sized.counts t m₀ k in
          let count_is : c.in_ok-count.count ≡ size t = let y = z.0 in cc in
          (omega (arith, count_is, count_le entry, c.live_count-live.ensures, c.capacity.ensures, c.if-count-free.false), z.1);
    }
