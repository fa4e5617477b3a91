-- Laws of a walk: what is ahead of it, and what one turn makes of that.
use Rattle.std.proofs.Common.{◌≡◌, ℕ, ◌+◌, ◌≤◌, true, false, not, ◌||◌, eqb, List, [], ◌∷◌, ◌++◌, set, is_err, Some, None, Ok, Err, Result, sym, refl, ap, ◌∙◌, subst, arith}
use Rattle.std.proofs.lemmas.Bool.{false≢true, eqb-false, eqb-true, or_parts, not-true, not-false}
use Rattle.std.proofs.lemmas.List.{append_assoc, append-nil}
use Rattle.cells.specs.declared.values.Value.{Value}
use Rattle.cells.specs.declared.values.Value.TheVariants.{Unit as Nothing, Cell}
use Rattle.cells.specs.declared.records.CellRecord.{CellRecord}
use Rattle.cells.specs.Values.{is_cell}
use Rattle.cells.specs.Records.{row}
use Rattle.cells.specs.Meaning.{Cells, at}
use Rattle.cells.proofs.Calls.{at_put}
use Rattle.data.specs.declared.refusals.WalkRefusal.{WalkRefusal}
use Rattle.data.specs.declared.refusals.WalkRefusal.TheVariants.{Stuck}
use Rattle.data.specs.declared.todo.Todo.{Todo}
use Rattle.data.specs.Trees.{Tree, Trees, none, more, size, sizes, unit}
use Rattle.data.specs.Standing.{Among, among_first, among_later, plain_unit, less}
use Rattle.data.specs.Taking.{Out, out_plain, out_cell}
use Rattle.data.specs.Reaching.{HasCell, has_first, has_later}
use Rattle.data.specs.Refusals.{OnlyStuck}
use Rattle.data.specs.WorkLists.{open_value, Lost, value_lost, list_lost, Stands}
use Rattle.data.specs.Steps.{Links, links_end, links_on, next_of, rest_of, ValuePushed, push_nothing, push_data, Astray, FieldAdded, add_nothing, add_data, RowAdded, added_none, added_more, Halted}
use Rattle.data.proofs.Stores.{some_none, within, less_live, less_free, less_set}
use Rattle.data.proofs.Links.{links_done, links_first, links_other}
use Rattle.data.proofs.Outs.{not_plain, join, sizes_join, joined, respare, without, inside, out_nothing}

-- the values that name these cells
abbrev pub roots : List ℕ → List Value
roots [] = []
roots (n ∷ ns) = Cell n ∷ roots ns

pub roots_append : (ms ns : List ℕ) → roots (ms ++ ns) ≡ roots ms ++ roots ns
roots_append [] ns = refl
roots_append (m ∷ ms) ns = ap (λ vs. Cell m ∷ vs) (roots_append ms ns)

pub has_root : {n : ℕ} {ns : List ℕ} → Among n ns → HasCell n (roots ns)
has_root {n} (among_first s) = has_first (ap Cell (sym s))
has_root (among_later a) = has_later (has_root a)

-- the values vs, and after them those that the spare numbers link from the head, stand for trees that take k cells in all;
-- after is the store less these
pub record Ahead (cs : Cells) (vs : List Value) (head k : ℕ) (after : Cells) : Type 0 where
  pub ns : List ℕ
  pub ts : Trees
  pub links : Links cs head ns
  pub out : Out cs (vs ++ roots ns) ts after
  pub counts : sizes ts ≡ k

-- what is ahead after a change that left out none of it; done are the cells that the walk has left behind
pub record Onward (done : List ℕ) (entry exit : Cells) (vs : List Value) (head k : ℕ) (after : Cells) : Type 0 where
  pub ahead : Ahead (less done exit) vs head k after
  pub stands : Stands entry exit after

-- a push
pub pushed_ahead : (done : List ℕ) (xs : List Value) {entry exit after : Cells} {v : Value} {head top k : ℕ} → ValuePushed entry v head top exit → Ahead (less done entry) (xs ++ v ∷ []) head k after → Onward done entry exit xs top k after
pushed_ahead done xs {entry} {after = after} {v = v} {top = top} {k = k} (push_nothing p up e) a =
    let w = without xs v p (rw append_assoc at a.out) in
    let still : Ahead (less done entry) xs top k after = record { ns = a.ns; ts = w.trees; links = rw up a.links; out = w.out; counts = w.counts ∙ a.counts } in
    record { ahead = rw e still; stands = λ ws g o. rw e o }
pushed_ahead done xs {entry} {exit} {after} {top = top} {k = k} (push_data r q v_is small h alike link e) a =
    let x = less done entry in
    let o : Out x (xs ++ Cell top ∷ roots a.ns) a.ts after = rw (append_assoc, v_is) at a.out in
    let i = inside xs o in
    let same : i.holds ≡ r = let z = less_live done entry top i.holds i.is in cc in
    let here : at x top ≡ Some r = i.is ∙ ap Some same in
    let new : set x top (Some q) ≡ less done exit = sym (less_set done entry top r (Some q) here) ∙ ap (λ z. less done z) (sym e) in
    let linked : Ahead (set x top (Some q)) xs top k after = record {
      ns = top ∷ a.ns;
      ts = a.ts;
      links = links_on q small (at_put x top (Some q) (within x top r here)) (subst (λ z. Links (set x top (Some q)) z a.ns) (sym link) (links_other top (Some q) (λ m. i.once (has_root m)) a.links));
      out = respare top r q here i.gone alike o;
      counts = a.counts;
    } in
    record { ahead = subst (λ z. Ahead z xs top k after) new linked; stands = λ ws g p. rw e (respare top r q h i.gone alike p) }

-- a field put ahead
field_ahead : (done : List ℕ) (xs : List Value) {entry exit after : Cells} {f v w : Value} {head top k : ℕ} → FieldAdded entry f v head w top exit → Ahead (less done entry) ((xs ++ f ∷ []) ++ v ∷ []) head k after → Onward done entry exit (xs ++ w ∷ []) top k after
field_ahead done xs {entry} {after = after} {f} {v} {w} {top = top} {k = k} (add_nothing p same up e) a =
    let u = without xs f p (rw (append_assoc, append_assoc) at a.out) in
    let still : Ahead (less done entry) (xs ++ w ∷ []) top k after = record { ns = a.ns; ts = u.trees; links = rw up a.links; out = rw (append_assoc, same) u.out; counts = u.counts ∙ a.counts } in
    record { ahead = rw e still; stands = λ ws g o. rw e o }
field_ahead done xs (add_data p same does) a = rw same (pushed_ahead done (xs ++ _ ∷ []) does a)

-- the fields put ahead
pub added_ahead : (done : List ℕ) {entry after : Cells} {v : Value} {head k : ℕ} {fs : List Value} {w : Value} {top : ℕ} {exit : Cells} (xs : List Value) → RowAdded entry v head fs w top exit → Ahead (less done entry) ((xs ++ fs) ++ v ∷ []) head k after → Onward done entry exit (xs ++ w ∷ []) top k after
added_ahead done xs added_none a = record { ahead = rw (append-nil xs) at a; stands = λ ws g o. o }
added_ahead done xs (added_more {f = f} {fs = fs} does last) a =
    let u = added_ahead done (xs ++ f ∷ []) does (rw (append_assoc xs (f ∷ []) fs) a) in
    let w = field_ahead done xs last u.ahead in
    record { ahead = w.ahead; stands = λ ws g o. w.stands ws g (u.stands ws g o) }

-- the value at hand names a live cell
ahead_live : {cs after : Cells} {v : Value} {head k : ℕ} (xs : List Value) → Ahead cs (xs ++ v ∷ []) head k after → (n : ℕ) → v ≡ Cell n → at cs n ≡ None → ⊥
ahead_live {cs} {after} xs a n e z =
    let o : Out cs (xs ++ Cell n ∷ roots a.ns) a.ts after = rw (append_assoc, e) at a.out in
    some_none (inside xs o).is z

-- so all fields are put ahead
pub halted_never : (done : List ℕ) {entry exit after : Cells} {v : Value} {head k : ℕ} {fs : List Value} → Halted entry v head fs exit → Ahead (less done entry) (fs ++ v ∷ []) head k after → ⊥
halted_never done {exit = exit} h a =
    let u = added_ahead done h.before h.added (rw h.whole at a) in
    ahead_live h.before u.ahead h.astray.number h.astray.is (less_free done exit h.astray.number h.astray.dead)

-- the cell that comes next

pub record Next (cs : Cells) (n : ℕ) (v : Value) (rest k : ℕ) (after : Cells) : Type 0 where
  pub ns : List ℕ
  pub ts : Trees
  pub links : (r : CellRecord) → at cs n ≡ Some r → Links cs (rest_of v rest r.spare) ns
  pub out : Out cs (Cell n ∷ roots ns) ts after
  pub counts : sizes ts ≡ k

pub ahead_next : {cs after : Cells} {k : ℕ} (v : Value) (rest : ℕ) → is_cell v || not (eqb rest 65535) ≡ true → Ahead cs (v ∷ []) rest k after → Next cs (next_of v rest) v rest k after
ahead_next (Cell n) rest go a = record { ns = a.ns; ts = a.ts; links = λ r e. a.links; out = a.out; counts = a.counts }
ahead_next {cs} {after} v rest go a =
    let w = without [] v refl a.out in
    let f = links_first (eqb-false rest 65535 (not-true (eqb rest 65535) go)) a.links in
    record {
      ns = f.others;
      ts = w.trees;
      links = λ r e. let same : f.holds ≡ r = let z = f.is in cc in subst (λ (z : CellRecord). Links cs z.spare f.others) same f.behind;
      out = subst (λ z. Out cs (roots z) w.trees after) f.shape w.out;
      counts = w.counts ∙ a.counts;
    }

-- the next cell is left behind: its fields are ahead in its place
record Left (cs : Cells) (n : ℕ) (r : CellRecord) (rest k : ℕ) (after : Cells) : Type 0 where
  left : ℕ
  counts : k ≡ 1 + left
  ahead : Ahead (set cs n None) (row r ++ Nothing ∷ []) rest left after

next_left : {cs after : Cells} {n k : ℕ} {v : Value} {rest : ℕ} (r : CellRecord) → at cs n ≡ Some r → Next cs n v rest k after → Left cs n r (rest_of v rest r.spare) k after
next_left {cs} {after} {n} {k} {v} {rest} r here t = open_cell t.out t.counts
  where
    once : {us : Trees} → Out cs (Cell n ∷ roots t.ns) us after → Among n t.ns → ⊥
    once o m = (inside [] o).once (has_root m)

    open_cell : {us : Trees} → Out cs (Cell n ∷ roots t.ns) us after → sizes us ≡ k → Left cs n r (rest_of v rest r.spare) k after
    open_cell (out_plain p o) e = absurd (not_plain p)
    open_cell (out_cell {mid = mid} {fields = fields} {ts = ts} s h i o) e =
        let same : s ≡ r = cc in
        let inner : Out (set cs n None) (row r) fields mid = subst (λ (z : CellRecord). Out (set cs n None) (row z) fields mid) same i in
        record {
          left = sizes fields + sizes ts;
          counts = omega arith;
          ahead = record {
            ns = t.ns;
            ts = join fields (more unit ts);
            links = links_other n None (once (out_cell s h i o)) (t.links r here);
            out = rw append_assoc (joined inner (out_plain plain_unit o));
            counts = omega (arith, sizes_join fields (more unit ts));
          };
        }

-- one turn of a walk: the next cell is left behind, its fields are put ahead. The cells that the walk has left behind
-- are given back, or they are in the list done.
pub record Turn (done : List ℕ) (entry exit : Cells) (v : Value) (head k : ℕ) (after : Cells) : Type 0 where
  pub left : ℕ
  pub counts : k ≡ 1 + left
  pub onward : Onward done entry exit (v ∷ []) head left after

-- the cell n comes next, its record is r, and the work list behind it begins with rest
pub record Comes (cs : Cells) (todo : Todo) (n : ℕ) (r : CellRecord) (rest : ℕ) : Type 0 where
  pub goes : open_value todo ≡ true
  pub next : n ≡ next_of todo.value todo.rest
  pub here : at cs n ≡ Some r
  pub behind : rest ≡ rest_of todo.value todo.rest r.spare

visit : (cs cs₁ after : Cells) {todo : Todo} {n rest k : ℕ} {r : CellRecord} (done done₁ : List ℕ) → Comes cs todo n r rest → less done₁ cs₁ ≡ set (less done cs) n None → Ahead (less done cs) (todo.value ∷ []) todo.rest k after
    → (left : ℕ) × (k ≡ 1 + left) × Ahead (less done₁ cs₁) (row r ++ Nothing ∷ []) rest left after
visit cs cs₁ after {todo} {n} {rest} {k} {r} done done₁ f e a =
    let t : Next (less done cs) n todo.value todo.rest k after = subst (λ m. Next (less done cs) m todo.value todo.rest k after) (sym f.next) (ahead_next todo.value todo.rest f.goes a) in
    let i = inside [] t.out in
    let same : i.holds ≡ r = let h = f.here in let z = less_live done cs n i.holds i.is in cc in
    let l = next_left r (i.is ∙ ap Some same) t in
    (l.left, l.counts, subst (λ z. Ahead z (row r ++ Nothing ∷ []) rest l.left after) (sym e) (subst (λ z. Ahead (set (less done cs) n None) (row r ++ Nothing ∷ []) z l.left after) (sym f.behind) l.ahead))

pub walk_turn : (cs cs₁ cs₂ after : Cells) {todo : Todo} {n rest top k : ℕ} {r : CellRecord} {w : Value} (done done₁ : List ℕ) → Comes cs todo n r rest → less done₁ cs₁ ≡ set (less done cs) n None → RowAdded cs₁ Nothing rest (row r) w top cs₂
    → Ahead (less done cs) (todo.value ∷ []) todo.rest k after → Turn done₁ cs₁ cs₂ w top k after
walk_turn cs cs₁ cs₂ after done done₁ f e does a = let l = visit cs cs₁ after done done₁ f e a in record { left = l.0; counts = l.1; onward = added_ahead done₁ [] does l.2 }

-- a walk with something ahead does not lose its way
pub walk_halted : (cs cs₁ cs₂ after : Cells) {todo : Todo} {n rest k : ℕ} {r : CellRecord} (done done₁ : List ℕ) → Comes cs todo n r rest → less done₁ cs₁ ≡ set (less done cs) n None → Halted cs₁ Nothing rest (row r) cs₂
    → Ahead (less done cs) (todo.value ∷ []) todo.rest k after → ⊥
walk_halted cs cs₁ cs₂ after done done₁ f e halted a = halted_never done₁ halted (visit cs cs₁ after done done₁ f e a).2

pub never_lost : (cs : Cells) (done : List ℕ) (todo : Todo) (k : ℕ) (after : Cells) → open_value todo ≡ true → at cs (next_of todo.value todo.rest) ≡ None → Ahead (less done cs) (todo.value ∷ []) todo.rest k after → ⊥
never_lost cs done todo k after go z a =
    let i = inside [] (ahead_next todo.value todo.rest go a).out in
    some_none (less_live done cs (next_of todo.value todo.rest) i.holds i.is) z

-- something is ahead of an open walk
pub open_some : (cs : Cells) (todo : Todo) (k : ℕ) (after : Cells) → open_value todo ≡ true → Ahead cs (todo.value ∷ []) todo.rest k after → 1 ≤ k
open_some cs todo k after go a =
    let t = ahead_next todo.value todo.rest go a in
    let i = inside [] t.out in
    omega (arith, (next_left i.holds i.is t).counts)

-- a walk begins with the value at hand
pub walk_start : {cs after : Cells} (v : Value) (t : Tree) → Out cs (v ∷ []) (more t none) after → Ahead cs (v ∷ []) 65535 (size t) after
walk_start v t o = record { ns = []; ts = more t none; links = links_end refl; out = o; counts = omega arith }

-- a walk with nothing ahead has left nothing out
pub walk_done : (cs : Cells) (todo : Todo) (k : ℕ) (after : Cells) → open_value todo ≡ false → Ahead cs (todo.value ∷ []) todo.rest k after → (cs ≡ after) × (k ≡ 0)
walk_done cs todo k after shut a =
    let p = or_parts (is_cell todo.value) (not (eqb todo.rest 65535)) shut in
    let w = without [] todo.value p.0 a.out in
    let e = links_done (eqb-true todo.rest 65535 (not-false (eqb todo.rest 65535) p.1)) a.links in
    let n = out_nothing (subst (λ z. Out cs (roots z) w.trees after) e w.out) in
    (n.0, sym a.counts ∙ (sym w.counts ∙ ap sizes n.1))

-- data put ahead
pub field_put : {entry exit : Cells} {field v w : Value} {head top up : ℕ} → is_cell field ≡ true → w ≡ field → up ≡ top → ValuePushed entry v head top exit → FieldAdded entry field v head w up exit
field_put cell same up does = add_data cell same (rw up does)

-- the fields being put ahead, the last of them first: rest are still to come
pub record Adding (entry : Cells) (v : Value) (head : ℕ) (fields rest : List Value) (w : Value) (top : ℕ) (current : Cells) : Type 0 where
  pub behind : List Value
  pub whole : fields ≡ rest ++ behind
  pub added : RowAdded entry v head behind w top current

pub adding_start : (entry : Cells) (v : Value) (head : ℕ) {fields rest : List Value} → rest ≡ fields → Adding entry v head fields rest v head entry
adding_start entry v head e = record { behind = []; whole = sym (append-nil _ ∙ e); added = added_none }

pub adding_turn : {entry current exit : Cells} {v : Value} {head : ℕ} {fields before rest : List Value} {f w x : Value} {top up : ℕ} → before ≡ rest ++ f ∷ [] → FieldAdded current f w top x up exit → Adding entry v head fields before w top current
    → Adding entry v head fields rest x up exit
adding_turn {rest = rest} {f = f} e does a = record { behind = f ∷ a.behind; whole = a.whole ∙ (ap (λ z. z ++ a.behind) e ∙ append_assoc rest (f ∷ []) a.behind); added = added_more a.added does }

pub adding_end : {entry current : Cells} {v : Value} {head : ℕ} {fields rest : List Value} {w : Value} {top : ℕ} → rest ≡ [] → Adding entry v head fields rest w top current → RowAdded entry v head fields w top current
adding_end {entry} {current} {v} {head} {w = w} {top = top} e a = subst (λ z. RowAdded entry v head z w top current) (sym (a.whole ∙ ap (λ z. z ++ a.behind) e)) a.added

pub adding_halted : {entry current exit : Cells} {v : Value} {head : ℕ} {fields rest : List Value} {w : Value} {top : ℕ} → exit ≡ current → Astray current w → Adding entry v head fields rest w top current → Halted entry v head fields exit
adding_halted {rest = rest} {w = w} {top = top} e lost a = record { before = rest; after = a.behind; w = w; top = top; whole = a.whole; added = rw e a.added; astray = rw e lost }

-- a refusal is to be stuck
pub stuck_answer : {X : Type 0} (r : Result X WalkRefusal) → is_err r ≡ true → OnlyStuck r → r ≡ Err Stuck
stuck_answer (Ok x) e s = absurd (false≢true e)
stuck_answer (Err x) e s = ap Err s

-- the cell that comes next is not live
pub lost_next : {cs : Cells} (todo : Todo) → at cs (next_of todo.value todo.rest) ≡ None → Lost cs todo
lost_next {cs} todo z = of_value todo.value refl z
  where
    of_value : (v : Value) → todo.value ≡ v → at cs (next_of v todo.rest) ≡ None → Lost cs todo
    of_value (Cell n) e z = value_lost n e z
    of_value v e z = list_lost (ap is_cell e) z
