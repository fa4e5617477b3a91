-- A walk on any store touches only what it can reach, and of that only spare numbers.
use Rattle.std.proofs.Common.{◌≡◌, ℕ, ◌≤◌, List, [], ◌∷◌, ◌++◌, length, set, Some, None, sym, refl, ap, ◌∙◌, subst, inl, inr, ⊎_elim, arith}
use Rattle.std.proofs.lemmas.Bool.{cases_eq}
use Rattle.std.proofs.lemmas.List.{length-set}
use Rattle.cells.specs.declared.values.Value.{Value}
use Rattle.cells.specs.declared.values.Value.TheVariants.{Unit as Nothing, Cell}
use Rattle.cells.specs.declared.records.CellRecord.{CellRecord}
use Rattle.cells.specs.Records.{row}
use Rattle.cells.specs.Meaning.{Cells, at}
use Rattle.cells.proofs.Calls.{at_other, at_put}
use Rattle.data.specs.declared.todo.Todo.{Todo}
use Rattle.data.specs.Standing.{Among, among_first, among_later}
use Rattle.data.specs.Alike.{Alike, Respared}
use Rattle.data.specs.Reaching.{HasCell, has_first, has_later, Reached, reached_root, reached_field, Untouched}
use Rattle.data.specs.WorkLists.{On, Roams, CanReach}
use Rattle.data.specs.Steps.{next_of, rest_of, ValuePushed, push_nothing, push_data, add_nothing, add_data, RowAdded, added_none, added_more, Halted}
use Rattle.data.proofs.Stores.{within}
use Rattle.data.proofs.Outs.{alike_row}
use Rattle.data.proofs.Keeping.{cleared_within}
use Rattle.data.proofs.Walking.{Comes}
use Rattle.data.proofs.Spares.{respared_none, respared_more, respared_set}

nowhere : {i : ℕ} → Among i [] → ⊥
nowhere a = elim a [ ]

pub roams_start : (m : Cells) (root : Value) → Roams m root m root 65535
roams_start m root = record {
  far = λ i d. refl;
  kin = λ i r e. (r, e, refl);
  list = [];
  listed = λ i a. absurd (nowhere a);
  links = λ i r a e. absurd (nowhere a);
  start = inl refl;
  hand = λ n e. reached_root e;
}

pub roams_untouched : {m cs : Cells} {root v : Value} {head : ℕ} → Roams m root cs v head → Untouched m root cs
roams_untouched w = record { each = w.far }

-- another value at hand
pub roams_hand : {m cs : Cells} {root v : Value} {head : ℕ} (u : Value) → ((n : ℕ) → u ≡ Cell n → Reached m root n) → Roams m root cs v head → Roams m root cs u head
roams_hand u h w = record { far = w.far; kin = w.kin; list = w.list; listed = w.listed; links = w.links; start = w.start; hand = h }

on_more : {list : List ℕ} {head : ℕ} (n : ℕ) → On list head → On (n ∷ list) head
on_more n o = ⊎_elim inl (λ a. inr (among_later a)) o

-- a cell at hand is linked
pub roams_push : {m entry : Cells} {root : Value} {head : ℕ} (exit : Cells) (n : ℕ) (r q : CellRecord) → at entry n ≡ Some r → Alike r q → q.spare ≡ head → exit ≡ set entry n (Some q)
    → Roams m root entry (Cell n) head → Roams m root exit (Cell n) n
roams_push {m} {entry} {root} {head} exit n r q h alike link e w =
    let here : Reached m root n = w.hand n refl in
    let put : at exit n ≡ Some q = ap (λ z. at z n) e ∙ at_put entry n (Some q) (within entry n r h) in
    let other : (i : ℕ) → (i ≡ n → ⊥) → at exit i ≡ at entry i = λ i d. ap (λ z. at z i) e ∙ at_other entry n i (Some q) d in
    let was_q : (i : ℕ) (s : CellRecord) → i ≡ n → at exit i ≡ Some s → s ≡ q = λ i s same k. same_record s (sym (subst (λ j. at exit j ≡ Some s) same k) ∙ put) in
    record {
      far = λ i d. other i (λ s. d (subst (λ j. Reached m root j) (sym s) here)) ∙ w.far i d;
      kin = λ i s k.
          ⊎_elim
          (λ same.
          let old = w.kin n r h in
          (old.0, subst (λ j. at m j ≡ Some old.0) (sym same) old.1, ap row (was_q i s same k) ∙ (alike_row alike ∙ old.2)))
          (λ d. w.kin i s (sym (other i d) ∙ k))
          (cases_eq i n);
      list = n ∷ w.list;
      listed = λ i a. in_list i a;
      links = λ i s a k.
          ⊎_elim
          (λ same. subst (λ z. On (n ∷ w.list) z) (sym (ap (λ (z : CellRecord). z.spare) (was_q i s same k) ∙ link)) (on_more n w.start))
          (λ d. on_more n (w.links i s (off i d a) (sym (other i d) ∙ k)))
          (cases_eq i n);
      start = inr (among_first refl);
      hand = w.hand;
    }
  where
    same_record : (s : CellRecord) → Some s ≡ Some q → s ≡ q
    same_record s k = cc

    in_list : (i : ℕ) → Among i (n ∷ w.list) → Reached m root i
    in_list i (among_first s) = subst (λ j. Reached m root j) (sym s) (w.hand n refl)
    in_list i (among_later a) = w.listed i a

    off : (i : ℕ) → (i ≡ n → ⊥) → Among i (n ∷ w.list) → Among i w.list
    off i d (among_first s) = absurd (d s)
    off i d (among_later a) = a

-- a cell that can be reached is given back
pub roams_give : {m cs : Cells} {root v : Value} {head : ℕ} (exit : Cells) (n : ℕ) → Reached m root n → exit ≡ set cs n None → Roams m root cs v head → Roams m root exit v head
roams_give {m} {cs} {root} exit n here e w =
    let back : (i : ℕ) (s : CellRecord) → at exit i ≡ Some s → at cs i ≡ Some s = λ i s k. cleared_within cs n i s (sym (ap (λ z. at z i) e) ∙ k) in
    record {
      far = λ i d. ap (λ z. at z i) e ∙ (at_other cs n i None (λ s. d (subst (λ j. Reached m root j) (sym s) here)) ∙ w.far i d);
      kin = λ i s k. w.kin i s (back i s k);
      list = w.list;
      listed = w.listed;
      links = λ i s a k. w.links i s a (back i s k);
      start = w.start;
      hand = w.hand;
    }

-- the cell that comes next can be reached, and so can its fields
pub record RoamsNext (m : Cells) (root : Value) (cs : Cells) (n : ℕ) (r : CellRecord) (rest : ℕ) : Type 0 where
  pub here : Reached m root n
  pub after : Roams m root cs Nothing rest
  pub fields : CanReach m root (row r)

unit_hand : {m : Cells} {root : Value} (n : ℕ) → Nothing ≡ Cell n → Reached m root n
unit_hand n e = absurd (cc)

reached_row : {m cs : Cells} {root v : Value} {head : ℕ} (n : ℕ) (r : CellRecord) → at cs n ≡ Some r → Roams m root cs v head → Reached m root n → CanReach m root (row r)
reached_row n r e w here = record { each = λ k h. let old = w.kin n r e in reached_field old.0 here old.1 (subst (HasCell k) old.2 h) }

roams_on : {m cs : Cells} {root : Value} (v : Value) (rest : ℕ) (r : CellRecord) → length cs ≤ 65535 → at cs (next_of v rest) ≡ Some r → Roams m root cs v rest → RoamsNext m root cs (next_of v rest) r (rest_of v rest r.spare)
roams_on (Cell n) rest r small e w = let here = w.hand n refl in record { here = here; after = roams_hand Nothing unit_hand w; fields = reached_row n r e w here }
roams_on {cs = cs} v rest r small e w =
    let on : Among rest w.list = ⊎_elim (λ end. absurd (omega (arith, within cs rest r e))) (λ a. a) w.start in
    let here = w.listed rest on in
    record {
      here = here;
      after = record { far = w.far; kin = w.kin; list = w.list; listed = w.listed; links = w.links; start = w.links rest r on e; hand = unit_hand };
      fields = reached_row rest r e w here;
    }

pub roams_next : {m cs : Cells} {root : Value} {todo : Todo} {n rest : ℕ} {r : CellRecord} → length cs ≤ 65535 → Comes cs todo n r rest → Roams m root cs todo.value todo.rest → RoamsNext m root cs n r rest
roams_next {todo = todo} {r = r} small f w = rw (f.next, f.behind) (roams_on todo.value todo.rest r small (rw f.next at f.here) w)

-- putting fields ahead

pub pushed_roams : {m : Cells} {root : Value} {entry exit : Cells} {v : Value} {head top : ℕ} → ValuePushed entry v head top exit → Roams m root entry v head → Roams m root exit v top
pushed_roams (push_nothing p up e) w = rw (e, up) w
pushed_roams {exit = exit} {top = top} (push_data r q v_is small h alike link e) w = rw v_is (roams_push exit top r q h alike link e (rw v_is at w))

can_later : {m : Cells} {root f : Value} {fs : List Value} → CanReach m root (f ∷ fs) → CanReach m root fs
can_later can = record { each = λ n h. can.each n (has_later h) }

pub added_roams : {m : Cells} {root : Value} {entry : Cells} {v : Value} {head : ℕ} {fs : List Value} {w : Value} {top : ℕ} {exit : Cells} → RowAdded entry v head fs w top exit → CanReach m root fs → Roams m root entry v head → Roams m root exit w top
added_roams added_none can w = w
added_roams (added_more does (add_nothing p same up e)) can w = rw (e, same, up) (added_roams does (can_later can) w)
added_roams (added_more {f = f} does (add_data p same push)) can w = rw same (roams_hand f (λ n h. can.each n (has_first h)) (pushed_roams push (added_roams does (can_later can) w)))

pub halted_untouched : {m entry exit : Cells} {root v : Value} {head : ℕ} {fs : List Value} → Halted entry v head fs exit → CanReach m root fs → Roams m root entry v head → Untouched m root exit
halted_untouched h can w = roams_untouched (added_roams h.added (record { each = λ n a. can.each n (rw h.whole (later h.before a)) }) w)
  where
    later : (xs : List Value) {n : ℕ} {ys : List Value} → HasCell n ys → HasCell n (xs ++ ys)
    later [] a = a
    later (x ∷ xs) a = has_later (later xs a)

-- only spare numbers change
pub pushed_same : {entry exit : Cells} {v : Value} {head top : ℕ} → ValuePushed entry v head top exit → (length exit ≡ length entry) × Respared entry exit
pushed_same {entry} (push_nothing p up e) = rw e (refl, respared_none entry)
pushed_same {entry} {top = top} (push_data r q v_is small h alike link e) = rw e (length-set entry top (Some q), respared_set entry top r q h alike)

pub added_same : {entry : Cells} {v : Value} {head : ℕ} {fs : List Value} {w : Value} {top : ℕ} {exit : Cells} → RowAdded entry v head fs w top exit → (length exit ≡ length entry) × Respared entry exit
added_same {entry} added_none = (refl, respared_none entry)
added_same (added_more does (add_nothing p same up e)) = rw e (added_same does)
added_same (added_more does (add_data p same push)) =
    let a = added_same does in
    let b = pushed_same push in
    (b.0 ∙ a.0, respared_more a.1 b.1)
