-- A local name's value is read, or copied.
use Rattle.std.proofs.Common.{◌≡◌, ℕ, ◌+◌, ◌-◌, ◌<◌, ◌≤◌, List, [], ◌∷◌, ◌++◌, map, set, min, Some, Ok, Err, sym, refl, ap, ◌∙◌, subst, arith}
use Rattle.std.specs.List.{slice_get}
use Rattle.cells.specs.Meaning.{Cells, count_live}
use Rattle.cells.specs.declared.values.Value.{Value}
use Rattle.data.proofs.Moves.{copy_held, alone}
use Rattle.data.proofs.Outs.{joined, out_count}
use Rattle.data.specs.Taking.{Out}
use Rattle.data.specs.Trees.{Tree, none, more, size}
use Rattle.cell_data.specs.Copying.{CleanCopies}
use Rattle.data.specs.declared.refusals.WalkRefusal.{WalkRefusal}
use Rattle.data.specs.declared.refusals.WalkRefusal.TheVariants.{NoFreeCell}
use Rattle.machine.proofs.Cells.{live_cells, capped_add}
use Rattle.machine.proofs.Names.{found, left_names, front_get, front_set}
use Rattle.machine.proofs.Resting.{changed, renewed, reslotted}
use Rattle.machine.proofs.Rows.{used, focus}
use Rattle.machine.specs.Holding.{values_in, is_full, holds, trees_in, names, kept, slot_left, full_value}
use Rattle.machine.specs.Mirrors.{Rests}
use Rattle.machine.specs.declared.machine.Machine.{Machine}
use Rattle.machine.specs.Holding.{Slot}
use Rattle.program.specs.Programs.{Program, Name}
use Rattle.program.specs.Scopes.{distance}
use Rattle.rules.specs.States.{full, Environment, Frame, Account, takes, environment_size, saved_size}
use Rattle.rules.specs.Steps.{Sizes, got, left, look}
use Rattle.stack.specs.Items.{tops, room_of}
use Rattle.stack.specs.declared.Stack.{Stack}

module _ {P : Program} {Z : Sizes} {m₀ m : Cells} {K : List Frame} {env : Environment} {a : Account} {r : Machine} (R : Rests P Z m₀ K env a [] none r m) where
  -- the value comes to the front, and its slot is left
  pub record Read (w : Name) (v : Value) (ss : Stack Slot) : Type 0 where
    pub tree : Tree
    pub after : Environment
    pub is : look w env ≡ got tree after
    pub rests : Rests P Z m₀ K after a (v ∷ []) (more tree none) (changed r r.frames ss r.control r.taken r.given) m

  pub read : (w : Name) (d : ℕ) (v : Value) (ss : Stack Slot) → distance w (names env) ≡ Some d → full_value (slice_get (tops r.slots) d) ≡ Some v
      → room_of ss ≡ room_of r.slots → tops ss ≡ set (tops r.slots) d (slot_left v) → Read w v ss
  read w d v ss e h room put =
      let f = found w (tops r.slots) env (kept K) d R.full e h in
      let x = left f.name f.tree in
      let u = used d (tops r.slots) (env ++ kept K) f.slot (front_get env (kept K) d (full f.name f.tree) f.entry) R.full R.data_held in
      let entries : set (env ++ kept K) d x ≡ set env d x ++ kept K = front_set env (kept K) d x (full f.name f.tree) f.entry in
      record {
        tree = f.tree;
        after = set env d x;
        is = f.is;
        rests = reslotted R ss room (left_names env d f.name f.tree f.entry) (ap (map is_full) put ∙ u.full ∙ ap (map holds) entries)
            (subst (λ q. Out m (v ∷ values_in q) (more f.tree (trees_in (set env d x ++ kept K))) m₀) (sym put) (subst (λ q. Out m (v ∷ values_in (set (tops r.slots) d (slot_left v))) (more f.tree (trees_in q)) m₀) entries u.data_held));
      }

  -- a copy of the value comes to the front
  pub record Dupped (w : Name) (copy : Value) (taken : ℕ) (m' : Cells) : Type 0 where
    pub tree : Tree
    pub after : Environment
    pub is : look w env ≡ got tree after
    pub fits : size tree + (saved_size K + environment_size env) ≤ Z.cells
    pub rests : Rests P Z m₀ K env (takes (size tree) a) (copy ∷ []) (more tree none) (changed r r.frames r.slots r.control taken r.given) m'

  pub dupped : (w : Name) (d : ℕ) (v copy : Value) (m' : Cells) (taken : ℕ) → distance w (names env) ≡ Some d → full_value (slice_get (tops r.slots) d) ≡ Some v
      → CleanCopies m v (Ok copy) m' → taken ≡ min (r.taken + (count_live m' - count_live m)) 18446744073709551615 → Dupped w copy taken m'
  dupped w d v copy m' taken e h does count =
      let f = found w (tops r.slots) env (kept K) d R.full e h in
      let k = focus d (tops r.slots) (env ++ kept K) f.slot (front_get env (kept K) d (full f.name f.tree) f.entry) R.data_held in
      let c = copy_held (Ok copy) does.copy k.front in
      let b = alone c.1 in
      let o : Out m' (copy ∷ values_in (tops r.slots)) (more f.tree (trees_in (env ++ kept K))) m₀ = joined b.first (k.back b.mid b.second) in
      let grown : count_live m' - count_live m ≡ size f.tree = omega (arith, out_count o, out_count R.data_held) in
      record {
        tree = f.tree;
        after = set env d (left f.name f.tree);
        is = f.is;
        fits = omega (arith, c.0, live_cells R);
        rests = renewed R r.frames r.slots taken r.given refl refl R.frames R.full o R.input
            (count ∙ ap (λ n. min (r.taken + n) 18446744073709551615) grown ∙ ap (λ n. min (n + size f.tree) 18446744073709551615) R.taken ∙ capped_add a.taken (size f.tree)) R.given;
      }

  -- too few cells are free for a copy: all stands as before
  pub record Undupped (w : Name) (m' : Cells) : Type 0 where
    pub tree : Tree
    pub after : Environment
    pub is : look w env ≡ got tree after
    pub lacks : Z.cells < size tree + (saved_size K + environment_size env)
    pub rests : Rests P Z m₀ K env a [] none r m'

  pub undupped : (w : Name) (d : ℕ) (v : Value) (e : WalkRefusal) (m' : Cells) → distance w (names env) ≡ Some d → full_value (slice_get (tops r.slots) d) ≡ Some v
      → CleanCopies m v (Err e) m' → (e ≡ NoFreeCell) × Undupped w m'
  undupped w d v refusal m' e h does =
      let f = found w (tops r.slots) env (kept K) d R.full e h in
      let k = focus d (tops r.slots) (env ++ kept K) f.slot (front_get env (kept K) d (full f.name f.tree) f.entry) R.data_held in
      let c = copy_held (Err refusal) does.copy k.front in (
        c.0,
        record {
          tree = f.tree;
          after = set env d (left f.name f.tree);
          is = f.is;
          lacks = omega (arith, c.1, live_cells R);
          rests = renewed R r.frames r.slots r.taken r.given refl refl R.frames R.full (k.back m' c.2) R.input R.taken R.given;
        },
      )
