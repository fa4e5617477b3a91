-- A drop under way.
use Rattle.std.proofs.Common.{◌≡◌, ℕ, ◌+◌, ◌≤◌, false, [], ◌∷◌, length, None, Ok, Result, refl, ap, ◌∙◌, arith}
use Rattle.cells.specs.declared.values.Value.{Value}
use Rattle.cells.specs.declared.values.Value.TheVariants.{Unit as Nothing}
use Rattle.cells.specs.declared.records.CellRecord.{CellRecord}
use Rattle.cells.specs.Records.{row}
use Rattle.cells.specs.Meaning.{Cells, count_live, Changed}
use Rattle.cells.proofs.Calls.{changed_capacity, given_count}
use Rattle.data.specs.declared.refusals.WalkRefusal.{WalkRefusal}
use Rattle.data.specs.declared.todo.Todo.{Todo}
use Rattle.data.specs.Trees.{Tree, none, more, size}
use Rattle.data.specs.Taking.{Out}
use Rattle.data.specs.Alike.{Respared, Kept}
use Rattle.data.specs.Refusals.{OnlyStuck}
use Rattle.data.specs.Walks.{Drops}
use Rattle.data.specs.WorkLists.{open_value, Roams}
use Rattle.data.specs.Steps.{RowAdded, Halted}
use Rattle.data.proofs.Keeping.{out_from_keeps}
use Rattle.data.proofs.Spares.{respared_count, kept_none, kept_more, respared_kept, freed_kept}
use Rattle.data.proofs.Roaming.{roams_start, roams_untouched, roams_give, roams_next, added_roams, added_same, halted_untouched}
use Rattle.data.proofs.Walking.{Ahead, Comes, walk_start, walk_turn, walk_halted, walk_done}

-- a walk that has given back some of the k cells
pub record Freed (current : Cells) (v : Value) (head count k : ℕ) (after : Cells) : Type 0 where
  pub left : ℕ
  pub ahead : Ahead current (v ∷ []) head left after
  pub counts : count + left ≡ k

-- a drop that began in the store entry at root, with the value v at hand and the work list from head
pub record Dropping (entry : Cells) (root : Value) (current : Cells) (v : Value) (head count : ℕ) : Type 0 where
  pub long : length current ≡ length entry
  pub live : count + count_live current ≡ count_live entry
  pub roams : Roams entry root current v head
  pub left : Kept current entry
  pub freed : (t : Tree) (m₀ : Cells) → Out entry (root ∷ []) (more t none) m₀ → Freed current v head count (size t) m₀

pub dropping_start : (entry : Cells) (root : Value) → Dropping entry root entry root 65535 0
dropping_start entry root = record {
  long = refl;
  live = omega arith;
  roams = roams_start entry root;
  left = kept_none entry;
  freed = λ t m₀ o. record { left = size t; ahead = walk_start root t o; counts = omega arith };
}

-- one cell is given back, and the spare numbers of others change
still_kept : {entry cs cs₁ cs₂ : Cells} {n : ℕ} → Respared cs₁ cs₂ → Changed cs n None cs₁ → Kept cs entry → Kept cs₂ entry
still_kept {cs = cs} {n = n} same gave k = kept_more (respared_kept same) (kept_more (rw gave.after (freed_kept cs n)) k)

pub dropping_turn : {entry cs cs₁ cs₂ : Cells} {root w : Value} {todo : Todo} {n rest top count next k : ℕ} {r : CellRecord} → next ≡ count + 1 → length cs ≤ 65535 → Comes cs todo n r rest → k ≡ n → Changed cs k None cs₁ → RowAdded cs₁ Nothing rest (row r) w top cs₂
    → Dropping entry root cs todo.value todo.rest count → Dropping entry root cs₂ w top next
dropping_turn {cs = cs} {cs₁} {cs₂} {n = n} one_more small f same gave₀ does z =
    let gave : Changed cs n None cs₁ = rw same at gave₀ in
    let a = added_same does in
    let m = roams_next small f z.roams in
    record {
      long = a.0 ∙ (changed_capacity gave ∙ z.long);
      live = omega (arith, one_more, respared_count cs₁ cs₂ a.0 a.1, given_count gave, z.live);
      roams = added_roams does m.fields (roams_give cs₁ n m.here gave.after m.after);
      left = still_kept a.1 gave z.left;
      freed = λ t m₀ o.
          let d = z.freed t m₀ o in
          let u = walk_turn cs cs₁ cs₂ m₀ [] [] f gave.after does d.ahead in
          record { left = u.left; ahead = u.onward.ahead; counts = omega (arith, one_more, d.counts, u.counts) };
    }

-- refused: then the value stands for no tree
pub dropping_refused : {entry cs : Cells} {root v : Value} {head count : ℕ} (r : Result ℕ WalkRefusal) → OnlyStuck r → Dropping entry root cs v head count
    → ((k : ℕ) (m₀ : Cells) → Ahead cs (v ∷ []) head k m₀ → ⊥) → Drops entry root r cs
dropping_refused {entry} {cs} {root} r stuck z never = record {
  long = z.long;
  stuck = stuck;
  far = roams_untouched z.roams;
  left = z.left;
  frees = λ t m₀ k. let d = z.freed t m₀ (out_from_keeps m₀ entry (root ∷ []) (more t none) k) in absurd (never d.left m₀ d.ahead);
}

pub dropping_halted : {entry cs cs₁ cs₂ : Cells} {root : Value} {todo : Todo} {n rest count k : ℕ} {r : CellRecord} (answer : Result ℕ WalkRefusal) → OnlyStuck answer → length cs ≤ 65535 → Comes cs todo n r rest → k ≡ n → Changed cs k None cs₁
    → Halted cs₁ Nothing rest (row r) cs₂ → Dropping entry root cs todo.value todo.rest count → Drops entry root answer cs₂
dropping_halted {entry} {cs} {cs₁} {cs₂} {root} {n = n} answer stuck small f same gave₀ halted z =
    let gave : Changed cs n None cs₁ = rw same at gave₀ in
    let a = added_same halted.added in
    let m = roams_next small f z.roams in
    record {
      long = a.0 ∙ (changed_capacity gave ∙ z.long);
      stuck = stuck;
      far = halted_untouched halted m.fields (roams_give cs₁ n m.here gave.after m.after);
      left = still_kept a.1 gave z.left;
      frees = λ t m₀ k. let d = z.freed t m₀ (out_from_keeps m₀ entry (root ∷ []) (more t none) k) in absurd (walk_halted cs cs₁ cs₂ m₀ [] [] f gave.after halted d.ahead);
    }

pub dropping_end : {entry cs : Cells} {root : Value} (todo : Todo) (count : ℕ) → open_value todo ≡ false → Dropping entry root cs todo.value todo.rest count → Drops entry root (Ok count) cs
dropping_end {entry} {cs} {root} todo count shut z = record {
  long = z.long;
  stuck = tt;
  far = roams_untouched z.roams;
  left = z.left;
  frees = λ t m₀ k.
      let d = z.freed t m₀ (out_from_keeps m₀ entry (root ∷ []) (more t none) k) in
      let e = walk_done cs todo d.left m₀ shut d.ahead in
      let n : count ≡ size t = omega (arith, e.1, d.counts) in
      (ap Ok n, e.0);
}
