-- A size under way.
use Rattle.std.proofs.Common.{◌≡◌, ℕ, ◌+◌, ◌≤◌, false, List, [], ◌∷◌, length, Ok, Result, refl, ap, ◌∙◌, arith}
use Rattle.cells.specs.declared.values.Value.{Value}
use Rattle.cells.specs.declared.values.Value.TheVariants.{Unit as Nothing}
use Rattle.cells.specs.declared.records.CellRecord.{CellRecord}
use Rattle.cells.specs.Records.{row}
use Rattle.cells.specs.Meaning.{Cells}
use Rattle.data.specs.declared.refusals.WalkRefusal.{WalkRefusal}
use Rattle.data.specs.declared.todo.Todo.{Todo}
use Rattle.data.specs.Trees.{Tree, none, more, size}
use Rattle.data.specs.Standing.{less}
use Rattle.data.specs.Taking.{Out}
use Rattle.data.specs.Alike.{Respared}
use Rattle.data.specs.Refusals.{OnlyStuck}
use Rattle.data.specs.Walks.{Sizes}
use Rattle.data.specs.WorkLists.{open_value, Roams, Stands}
use Rattle.data.specs.Steps.{RowAdded, Halted}
use Rattle.data.proofs.Keeping.{keeps_from_out, out_from_keeps}
use Rattle.data.proofs.Spares.{respared_none, respared_more, respared_count}
use Rattle.data.proofs.Roaming.{roams_start, roams_untouched, roams_next, added_roams, added_same, halted_untouched}
use Rattle.data.proofs.Walking.{Ahead, Comes, walk_start, walk_turn, walk_halted, walk_done}

-- a walk that has counted some of the k cells and left them where they are
pub record Counted (entry current : Cells) (v : Value) (head count k : ℕ) (after : Cells) : Type 0 where
  pub done : List ℕ
  pub left : ℕ
  pub ahead : Ahead (less done current) (v ∷ []) head left after
  pub counts : count + left ≡ k
  pub stands : Stands entry current after

-- a size that began in the store entry at root, with the value v at hand and the work list from head
pub record Sizing (entry : Cells) (root : Value) (current : Cells) (v : Value) (head count : ℕ) : Type 0 where
  pub long : length current ≡ length entry
  pub same : Respared entry current
  pub roams : Roams entry root current v head
  pub counted : (t : Tree) (m₀ : Cells) → Out entry (root ∷ []) (more t none) m₀ → Counted entry current v head count (size t) m₀

pub sizing_start : (entry : Cells) (root : Value) → Sizing entry root entry root 65535 0
sizing_start entry root = record {
  long = refl;
  same = respared_none entry;
  roams = roams_start entry root;
  counted = λ t m₀ o. record { done = []; left = size t; ahead = walk_start root t o; counts = omega arith; stands = λ ws g p. p };
}

pub sizing_turn : {entry cs cs₁ : Cells} {root w : Value} {todo : Todo} {n rest top count next : ℕ} {r : CellRecord} → next ≡ count + 1 → length cs ≤ 65535 → Comes cs todo n r rest → RowAdded cs Nothing rest (row r) w top cs₁
    → Sizing entry root cs todo.value todo.rest count → Sizing entry root cs₁ w top next
sizing_turn {cs = cs} {cs₁} {n = n} one_more small f does z =
    let a = added_same does in
    let m = roams_next small f z.roams in
    record {
      long = a.0 ∙ z.long;
      same = respared_more z.same a.1;
      roams = added_roams does m.fields m.after;
      counted = λ t m₀ o.
          let d = z.counted t m₀ o in
          let u = walk_turn cs cs cs₁ m₀ d.done (n ∷ d.done) f refl does d.ahead in
          record { done = n ∷ d.done; left = u.left; ahead = u.onward.ahead; counts = omega (arith, one_more, d.counts, u.counts); stands = λ ws g p. u.onward.stands ws g (d.stands ws g p) };
    }

-- refused: then the value stands for no tree
pub sizing_refused : {entry cs : Cells} {root v : Value} {head count : ℕ} (r : Result ℕ WalkRefusal) → OnlyStuck r → Sizing entry root cs v head count
    → ((t : Tree) (m₀ : Cells) → Out entry (root ∷ []) (more t none) m₀ → Counted entry cs v head count (size t) m₀ → ⊥) → Sizes entry root r cs
sizing_refused {entry} {cs} {root} r stuck z never = record {
  long = z.long;
  live = respared_count entry cs z.long z.same;
  same = z.same;
  stuck = stuck;
  far = roams_untouched z.roams;
  counts = λ t m₀ k. let o = out_from_keeps m₀ entry (root ∷ []) (more t none) k in absurd (never t m₀ o (z.counted t m₀ o));
}

pub sizing_halted : {entry cs cs₁ : Cells} {root : Value} {todo : Todo} {n rest count : ℕ} {r : CellRecord} (answer : Result ℕ WalkRefusal) → OnlyStuck answer → length cs ≤ 65535 → Comes cs todo n r rest → Halted cs Nothing rest (row r) cs₁
    → Sizing entry root cs todo.value todo.rest count → Sizes entry root answer cs₁
sizing_halted {entry} {cs} {cs₁} {root} {n = n} answer stuck small f halted z =
    let a = added_same halted.added in
    let m = roams_next small f z.roams in
    let long = a.0 ∙ z.long in
    let same = respared_more z.same a.1 in
    record {
      long = long;
      live = respared_count entry cs₁ long same;
      same = same;
      stuck = stuck;
      far = halted_untouched halted m.fields m.after;
      counts = λ t m₀ k. let d = z.counted t m₀ (out_from_keeps m₀ entry (root ∷ []) (more t none) k) in absurd (walk_halted cs cs cs₁ m₀ d.done (n ∷ d.done) f refl halted d.ahead);
    }

pub sizing_end : {entry cs : Cells} {root : Value} (todo : Todo) (count : ℕ) → open_value todo ≡ false → Sizing entry root cs todo.value todo.rest count → Sizes entry root (Ok count) cs
sizing_end {entry} {cs} {root} todo count shut z = record {
  long = z.long;
  live = respared_count entry cs z.long z.same;
  same = z.same;
  stuck = tt;
  far = roams_untouched z.roams;
  counts = λ t m₀ k.
      let o = out_from_keeps m₀ entry (root ∷ []) (more t none) k in
      let d = z.counted t m₀ o in
      let e = walk_done (less d.done cs) todo d.left m₀ shut d.ahead in
      let n : count ≡ size t = omega (arith, e.1, d.counts) in
      (ap Ok n, keeps_from_out m₀ cs (root ∷ []) (more t none) (d.stands (root ∷ []) (more t none) o));
}
