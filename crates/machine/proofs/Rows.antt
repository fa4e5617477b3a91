-- Rows of slots and entries, and the data that they hold.
use Rattle.std.proofs.Common.{◌≡◌, ℕ, zero, suc, true, false, List, [], ◌∷◌, map, set, Some, sym, refl, ap, ◌∙◌, subst}
use Rattle.std.specs.List.{slice_get}
use Rattle.cells.specs.Meaning.{Cells}
use Rattle.cells.specs.declared.values.Value.{Value}
use Rattle.data.proofs.Moves.{pull, alone}
use Rattle.data.proofs.Outs.{joined}
use Rattle.data.specs.Standing.{Plain, plain_int, plain_bool, plain_symbol, plain_unit, plain_function}
use Rattle.data.specs.Taking.{Out, out_plain, out_cell}
use Rattle.data.specs.Trees.{Tree, Trees, none, more}
use Rattle.machine.specs.Holding.{value_in, is_full, values_in, tree_in, holds, trees_in, slot_left}
use Rattle.machine.specs.Holding.{Slot}
use Rattle.program.specs.Programs.{Name}
use Rattle.rules.specs.States.{full, Environment}
use Rattle.rules.specs.Steps.{left}

-- two values in the other order
pub swap : {m m₀ : Cells} {v w : Value} {vs : List Value} {t u : Tree} {ts : Trees} → Out m (v ∷ w ∷ vs) (more t (more u ts)) m₀ → Out m (w ∷ v ∷ vs) (more u (more t ts)) m₀
swap {v = v} {w = w} {vs = vs} {t = t} {u = u} {ts = ts} o = pull (v ∷ []) (w ∷ []) vs (more t none) (more u none) ts refl refl o

-- A name's value is read: it comes to the front, and data leaves the name empty.
pub record Used (ss : List Slot) (es : Environment) (d : ℕ) (v : Value) (x : Name) (t : Tree) (m m₀ : Cells) : Type 0 where
  pub full : map is_full (set ss d (slot_left v)) ≡ map holds (set es d (left x t))
  pub data_held : Out m (v ∷ values_in (set ss d (slot_left v))) (more t (trees_in (set es d (left x t)))) m₀

used_plain : {v : Value} {t : Tree} (x : Name) → Plain v t → (slot_left v ≡ Some v) × (left x t ≡ full x t)
used_plain x plain_int = (refl, refl)
used_plain x plain_bool = (refl, refl)
used_plain x plain_symbol = (refl, refl)
used_plain x plain_unit = (refl, refl)
used_plain x plain_function = (refl, refl)

used_first : (ss : List Slot) (es : Environment) {v : Value} (x : Name) {t : Tree} {m m₀ : Cells} → map is_full ss ≡ map holds es → Out m (v ∷ values_in ss) (more t (trees_in es)) m₀ → Used (Some v ∷ ss) (full x t ∷ es) 0 v x t m m₀
used_first ss es {v} x {t} {m} {m₀} f (out_plain p o) =
    let e = used_plain x p in
    let e₀ = e.0 in
    let e₁ = e.1 in
    record {
      full = rw (e₀, e₁) (ap (λ q. true ∷ q) f);
      data_held = rw (e₀, e₁) (out_plain p (out_plain p o));
    }
used_first ss es x f (out_cell r e k o) = record { full = ap (λ q. false ∷ q) f; data_held = out_cell r e k (out_plain plain_unit o) }

pub used : (d : ℕ) (ss : List Slot) (es : Environment) {v : Value} {x : Name} {t : Tree} {m m₀ : Cells} → slice_get ss d ≡ Some (Some v) → slice_get es d ≡ Some (full x t)
    → map is_full ss ≡ map holds es → Out m (values_in ss) (trees_in es) m₀ → Used ss es d v x t m m₀
used d [] es g h f o = absurd (cc)
used d (s ∷ ss) [] g h f o = absurd (cc)
used zero (s ∷ ss) (e ∷ es) {v} {x} {t} {m} {m₀} g h f o =
    let slot : Some v ≡ s = cc in
    let entry : full x t ≡ e = cc in
    subst (λ s. Used (s ∷ ss) (e ∷ es) 0 v x t m m₀) slot (subst (λ e. Used (Some v ∷ ss) (e ∷ es) 0 v x t m m₀) entry
    (used_first ss es x (cc) (subst (λ e. Out m (v ∷ values_in ss) (more (tree_in e) (trees_in es)) m₀) (sym entry) (subst (λ s. Out m (value_in s ∷ values_in ss) (more (tree_in e) (trees_in es)) m₀) (sym slot) o))))
used (suc d) (s ∷ ss) (e ∷ es) {v} {x} {t} g h f o =
    let a = alone o in
    let u = used d ss es g h (cc) a.second in
    let first : is_full s ≡ holds e = cc in
    record {
      full = ap (λ q. is_full s ∷ q) u.full ∙ ap (λ b. b ∷ map holds (set es d (left x t))) first;
      data_held = swap (joined a.first u.data_held);
    }

-- One value of a row comes to the front, in any store, and goes back.
pub record Focus (vs : List Value) (ts : Trees) (v : Value) (t : Tree) (m m₀ : Cells) : Type 0 where
  pub others : List Value
  pub trees : Trees
  pub front : Out m (v ∷ others) (more t trees) m₀
  pub back : (m' : Cells) → Out m' (v ∷ others) (more t trees) m₀ → Out m' vs ts m₀

pub focus : (d : ℕ) (ss : List Slot) (es : Environment) {v : Value} {x : Name} {t : Tree} {m m₀ : Cells} → slice_get ss d ≡ Some (Some v) → slice_get es d ≡ Some (full x t)
    → Out m (values_in ss) (trees_in es) m₀ → Focus (values_in ss) (trees_in es) v t m m₀
focus d [] es g h o = absurd (cc)
focus d (s ∷ ss) [] g h o = absurd (cc)
focus zero (s ∷ ss) (e ∷ es) {v} {x} {t} {m} {m₀} g h o =
    let slot : s ≡ Some v = cc in
    let entry : e ≡ full x t = cc in
    let value : value_in s ≡ v = ap value_in slot in
    let tree : tree_in e ≡ t = ap tree_in entry in
    record {
      others = values_in ss;
      trees = trees_in es;
      front = subst (λ v. Out m (v ∷ values_in ss) (more t (trees_in es)) m₀) value (subst (λ t. Out m (value_in s ∷ values_in ss) (more t (trees_in es)) m₀) tree o);
      back = λ m' o. subst (λ v. Out m' (v ∷ values_in ss) (more (tree_in e) (trees_in es)) m₀) (sym value) (subst (λ t. Out m' (v ∷ values_in ss) (more t (trees_in es)) m₀) (sym tree) o);
    }
focus (suc d) (s ∷ ss) (e ∷ es) {v} {x} {t} g h o =
    let a = alone o in
    let f = focus d ss es g h a.second in
    record {
      others = value_in s ∷ f.others;
      trees = more (tree_in e) f.trees;
      front = swap (joined a.first f.front);
      back = λ m' o. let b = alone (swap o) in joined b.first (f.back b.mid b.second);
    }
