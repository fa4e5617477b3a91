-- Laws of the work list's functions, from their steps: what they do to a list of roots of trees, and what they touch.
use Rattle.std.proofs.Common.{◌≡◌, ℕ, ◌+◌, ◌<◌, false, List, [], ◌∷◌, ◌++◌, length, set, Some, None, Ok, Err, Result, sym, refl, ap, ◌∙◌, subst, ⊎_elim, arith}
use Rattle.std.proofs.lemmas.Bool.{true≢false}
use Rattle.std.proofs.lemmas.List.{append-nil, append_assoc, set-set}
use Rattle.cells.specs.declared.values.Value.{Value}
use Rattle.cells.specs.declared.values.Value.TheVariants.{Unit as Nothing, Cell}
use Rattle.cells.specs.declared.records.CellRecord.{CellRecord}
use Rattle.cells.specs.Values.{is_cell}
use Rattle.cells.specs.Records.{row}
use Rattle.cells.specs.Meaning.{Cells, at, count_live}
use Rattle.cells.proofs.Calls.{at_cleared, at_put}
use Rattle.data.specs.declared.refusals.WalkRefusal.{WalkRefusal}
use Rattle.data.specs.declared.todo.Todo.{Todo}
use Rattle.data.specs.Trees.{Trees, none, more, sizes, unit}
use Rattle.data.specs.Standing.{plain_unit, less}
use Rattle.data.specs.Taking.{Out, out_none, out_plain, out_cell}
use Rattle.data.specs.Alike.{Alike, Respared}
use Rattle.data.specs.Reaching.{Untouched}
use Rattle.data.specs.Refusals.{Okay}
use Rattle.data.specs.WorkLists.{Work, work_end, work_on, Ahead, Roams, CanReach, Pushed, Pushes, Added, Adds, Listed, AddsAll}
use Rattle.data.specs.Steps.{ValuePushed, push_nothing, push_data, Astray, PushSteps, FieldAdded, add_nothing, add_data, AddSteps, RowAdded, added_none, added_more, RowSteps}
use Rattle.data.proofs.Stores.{some_none, within, cleared_or_same, less_live, less_set}
use Rattle.data.proofs.Spares.{respared_none, respared_count}
use Rattle.data.proofs.Outs.{not_plain, plain_size, join, sizes_join, stays_free, was, frame, parts, out_tally, parts_at, joined, out_nothing, alike_row, respare}
use Rattle.data.proofs.Roaming.{roams_untouched, pushed_roams, added_roams, halted_untouched, pushed_same, added_same}

-- a row of values being put ahead, the last first: so far down to vs, total cells in all
pub record Putting (done : List ℕ) (start current : Cells) (vs : List Value) (todo : Todo) (total : ℕ) (after : Cells) : Type 0 where
  pub trees : Trees
  pub left : ℕ
  pub added : Added done start current vs trees todo.value todo.rest left after
  pub counts : sizes trees + left ≡ total

pub okay_map : {X : Type 0} (r : Result X WalkRefusal) (P Q : X → Type 0) → ((x : X) → P x → Q x) → Okay r P → Okay r Q
okay_map (Ok x) P Q m h = m x h
okay_map (Err e) P Q m h = absurd h

pub work_free : {cs after : Cells} {head k : ℕ} (i : ℕ) → at cs i ≡ None → Work cs head k after → at after i ≡ None
work_free i h (work_end p q) = h
work_free {cs} {head = head} i h (work_on r l e o w q) =
    let z : at (set cs head None) i ≡ None = ⊎_elim (λ a. a) (λ b. b ∙ h) (cleared_or_same cs i head) in
    work_free i (stays_free i z o) w

-- one value that is a cell: its record, and what its fields leave
pub record Root (cs : Cells) (n : ℕ) (ts : Trees) (after : Cells) : Type 0 where
  pub holds : CellRecord
  pub fields : Trees
  pub is : at cs n ≡ Some holds
  pub out : Out (set cs n None) (row holds) fields after
  pub counts : sizes ts ≡ 1 + sizes fields

pub root : {cs after : Cells} {n : ℕ} {ts : Trees} → Out cs (Cell n ∷ []) ts after → Root cs n ts after
root (out_plain p o) = absurd (not_plain p)
root (out_cell {fields = fields} r e k out_none) = record { holds = r; fields = fields; is = e; out = k; counts = omega arith }

-- one value that is plain
pub leaf : {cs after : Cells} {v : Value} {ts : Trees} → is_cell v ≡ false → Out cs (v ∷ []) ts after → (cs ≡ after) × (sizes ts ≡ 0)
leaf p (out_plain q out_none) = (refl, omega (arith, plain_size q))
leaf p (out_cell r e k out_none) = absurd (true≢false p)

-- push

-- nothing is pushed for a plain value
pub push_plain : (entry : Cells) (done : List ℕ) (vs : List Value) (ts us : Trees) (m mid after : Cells) (v : Value) (head k : ℕ) → is_cell v ≡ false
    → Out (less done entry) vs ts m → Out m (v ∷ []) us mid → Work mid head k after → Pushed done entry entry vs ts head (sizes us + k) after
push_plain entry done vs ts us m mid after v head k p a b w =
    let l = leaf p b in
    record {
      mid = m;
      rest = a;
      work = subst (λ z. Work z head (sizes us + k) after) (sym l.0) (subst (λ z. Work mid head z after) (let z = l.1 in omega arith) w);
      stands = λ ws g o. o;
    }

-- the cell of a value that is pushed is live
pub pushed_live : (entry : Cells) (done : List ℕ) {vs : List Value} {ts us : Trees} {m mid : Cells} (n : ℕ)
    → Out (less done entry) vs ts m → Out m (Cell n ∷ []) us mid → (r : CellRecord) × (at entry n ≡ Some r)
pushed_live entry done n a b =
    let t = root b in
    (t.holds, less_live done entry n t.holds (was n t.holds t.is a))

-- a cell is pushed by writing the head into its spare number
pub push_cell : (entry exit : Cells) (done : List ℕ) (vs : List Value) (ts us : Trees) (m mid after : Cells) (n head k : ℕ) (r q : CellRecord)
    → n < 65535 → at entry n ≡ Some r → Alike r q → q.spare ≡ head → exit ≡ set entry n (Some q)
    → Out (less done entry) vs ts m → Out m (Cell n ∷ []) us mid → Work mid head k after → Pushed done entry exit vs ts n (sizes us + k) after
push_cell entry exit done vs ts us m mid after n head k r q small h alike link e a b w =
    let t = root b in
    let s = t.holds in
    let before : at (less done entry) n ≡ Some s = was n s t.is a in
    let same : s ≡ r = let x = less_live done entry n s before in cc in
    let rows : row s ≡ row q = ap row same ∙ sym (alike_row alike) in
    let new : set (less done entry) n (Some q) ≡ less done exit = sym (less_set done entry n s (Some q) before) ∙ ap (λ z. less done z) (sym e) in
    let gone : at after n ≡ None = work_free n (stays_free n (at_cleared m n) t.out) w in
    let there : at (set m n (Some q)) n ≡ Some q = at_put m n (Some q) (within m n s t.is) in
    let fields : Out (set (set m n (Some q)) n None) (row q) t.fields mid =
    subst (λ z. Out z (row q) t.fields mid) (sym (set-set m n (Some q) None)) (subst (λ z. Out (set m n None) z t.fields mid) rows t.out) in
    record {
      mid = set m n (Some q);
      rest = subst (λ z. Out z vs ts (set m n (Some q))) new (frame n (Some q) (t.is ∙ sym before) a);
      work = work_on q small there fields (subst (λ z. Work mid z k after) (sym link) w) (omega (arith, t.counts));
      stands = λ ws g o. subst (λ z. Out z ws g after) (sym e) (respare n r q h gone alike o);
    }

-- one field put ahead

pub add_plain : (entry : Cells) (done : List ℕ) (vs : List Value) (ts us : Trees) (m mid after : Cells) (v : Value) (todo : Todo) (k : ℕ) → is_cell v ≡ false
    → Out (less done entry) vs ts m → Out m (v ∷ []) us mid → Ahead mid todo.value todo.rest k after → Added done entry entry vs ts todo.value todo.rest (sizes us + k) after
add_plain entry done vs ts us m mid after v todo k p a b w =
    let l = leaf p b in
    record {
      mid = m;
      rest = a;
      ahead = subst (λ z. Ahead z todo.value todo.rest (sizes us + k) after) (sym l.0) (subst (λ z. Ahead mid todo.value todo.rest z after) (let z = l.1 in omega arith) w);
      stands = λ ws g o. o;
    }

pub add_cell : (entry exit : Cells) (done : List ℕ) (vs : List Value) (ts us : Trees) (m mid after : Cells) (v : Value) (todo : Todo) (k : ℕ) (r : Result ℕ WalkRefusal)
    → Pushes entry todo.value todo.rest r exit → Out (less done entry) vs ts m → Out m (v ∷ []) us mid → Ahead mid todo.value todo.rest k after
    → Okay r (λ head. Added done entry exit vs ts v head (sizes us + k) after)
add_cell entry exit done vs ts us m mid after v todo k r does a b w =
    okay_map r _ _
    (λ head q.
    let t = parts_at vs (v ∷ []) ts us (out_tally a) q.rest in
    record {
      mid = t.mid;
      rest = t.first;
      ahead = record { trees = us; mid = q.mid; left = sizes w.trees + w.left; first = t.second; work = q.work; counts = omega (arith, w.counts) };
      stands = q.stands;
    })
    (does.puts done (vs ++ v ∷ []) (join ts us) w.trees mid w.mid after w.left (joined a b) w.first w.work)

-- what was at hand is pushed, and the field is at hand
pub added_cell : (entry exit : Cells) (done : List ℕ) (vs : List Value) (ts us : Trees) (m mid after : Cells) (v : Value) (todo new : Todo) (head k : ℕ) → new.value ≡ v → new.rest ≡ head
    → Pushes entry todo.value todo.rest (Ok head) exit → Out (less done entry) vs ts m → Out m (v ∷ []) us mid → Ahead mid todo.value todo.rest k after
    → Added done entry exit vs ts new.value new.rest (sizes us + k) after
added_cell entry exit done vs ts us m mid after v todo new head k v_is head_is does a b w =
    subst (λ x. Added done entry exit vs ts x new.rest (sizes us + k) after) (sym v_is)
    (subst (λ x. Added done entry exit vs ts v x (sizes us + k) after) (sym head_is) (add_cell entry exit done vs ts us m mid after v todo k (Ok head) does a b w))

pub add_start : (entry : Cells) (done : List ℕ) (vs : List Value) (ts : Trees) (mid after : Cells) (todo : Todo) (k : ℕ) → todo.value ≡ Nothing → Out (less done entry) vs ts mid → Work mid todo.rest k after
    → Putting done entry entry vs todo (sizes ts + k) after
add_start entry done vs ts mid after todo k unit_is_it a w = record {
  trees = ts;
  left = k;
  added = record {
    mid = mid;
    rest = a;
    ahead = record { trees = more unit none; mid = mid; left = k; first = subst (λ v. Out mid (v ∷ []) (more unit none) mid) (sym unit_is_it) (out_plain plain_unit out_none); work = w; counts = omega arith };
    stands = λ ws g o. o;
  };
  counts = refl;
}

pub add_turn : (start entry exit : Cells) (done : List ℕ) (all vs : List Value) (v : Value) (todo : Todo) (total : ℕ) (after : Cells) (r : Result Todo WalkRefusal)
    → Adds entry v todo r exit → all ≡ vs ++ v ∷ [] → Putting done start entry all todo total after → Okay r (λ new. Putting done start exit vs new total after)
add_turn start entry exit done all vs v todo total after r does e p =
    let t = parts vs (v ∷ []) (subst (λ z. Out (less done entry) z p.trees p.added.mid) e p.added.rest) in
    okay_map r _ _
    (λ new q. record {
      trees = t.left;
      left = sizes t.right + p.left;
      added = record { mid = q.mid; rest = q.rest; ahead = q.ahead; stands = λ ws g o. q.stands ws g (p.added.stands ws g o) };
      counts = omega (arith, p.counts, ap sizes t.whole, sizes_join t.left t.right);
    })
    (does.puts done vs t.left t.right t.mid p.added.mid after p.left t.first t.second p.added.ahead)

pub add_end : (start exit : Cells) (done : List ℕ) (vs : List Value) (todo : Todo) (total : ℕ) (after : Cells) → vs ≡ [] → Putting done start exit vs todo total after → Listed done start exit todo total after
add_end start exit done vs todo total after e p =
    let n = out_nothing (subst (λ z. Out (less done exit) z p.trees p.added.mid) e p.added.rest) in
    let nought : sizes p.trees ≡ 0 = ap sizes n.1 in
    record {
      ahead = subst (λ z. Ahead z todo.value todo.rest total after) (sym n.0) (subst (λ z. Ahead p.added.mid todo.value todo.rest z after) (omega (arith, nought, p.counts)) p.added.ahead);
      stands = p.added.stands;
    }

-- a push

ok_same : {X : Type 0} {x y : X} → ◌≡◌ {A = Result X WalkRefusal} (Ok x) (Ok y) → x ≡ y
ok_same e = cc

err_ok : {X : Type 0} {x : X} {e : WalkRefusal} → ◌≡◌ {A = Result X WalkRefusal} (Err e) (Ok x) → ⊥
err_ok e = absurd (cc)

pushed_puts : {entry exit : Cells} {v : Value} {head top : ℕ} (done : List ℕ) (vs : List Value) (ts us : Trees) (m mid after : Cells) (k : ℕ) → ValuePushed entry v head top exit
    → Out (less done entry) vs ts m → Out m (v ∷ []) us mid → Work mid head k after → Pushed done entry exit vs ts top (sizes us + k) after
pushed_puts {entry} {v = v} {head} done vs ts us m mid after k (push_nothing p up e) a b w = rw (e, up) (push_plain entry done vs ts us m mid after v head k p a b w)
pushed_puts {entry} {exit} {v} {head} {top} done vs ts us m mid after k (push_data r q is small here alike link e) a b w =
    push_cell entry exit done vs ts us m mid after top head k r q small here alike link e a (subst (λ z. Out m (z ∷ []) us mid) is b) w

-- data that is ahead is live
never_astray : {cs : Cells} {v : Value} (done : List ℕ) {vs : List Value} {ts us : Trees} {m mid : Cells} → Astray cs v → Out (less done cs) vs ts m → Out m (v ∷ []) us mid → ⊥
never_astray {cs} done {us = us} {m} {mid} lost a b = some_none (pushed_live cs done lost.number a (subst (λ z. Out m (z ∷ []) us mid) lost.is b)).1 lost.dead

pub push_law : {entry exit : Cells} {v : Value} {head : ℕ} (r : Result ℕ WalkRefusal) → PushSteps entry v head r exit → Pushes entry v head r exit
push_law (Ok top) does =
    let a = pushed_same does in
    record {
      long = a.0;
      live = respared_count _ _ a.0 a.1;
      same = a.1;
      stuck = tt;
      far = λ m root w. roams_untouched (pushed_roams does w);
      roams = λ m root h e w. rw (← ok_same e) (pushed_roams does w);
      puts = λ done vs ts us m mid after k a b w. pushed_puts done vs ts us m mid after k does a b w;
    }
push_law {entry} {exit} (Err e) does =
    let same : exit ≡ entry = does.1 in
    record {
      long = ap length same;
      live = ap count_live same;
      same = rw same (respared_none entry);
      stuck = does.0;
      far = λ m root w. rw same (roams_untouched w);
      roams = λ m root h q w. absurd (err_ok q);
      puts = λ done vs ts us m mid after k a b w. absurd (never_astray done does.2 a b);
    }

-- a field

field_puts : {entry exit : Cells} {field : Value} {todo new : Todo} (done : List ℕ) (vs : List Value) (ts us : Trees) (m mid after : Cells) (k : ℕ) → FieldAdded entry field todo.value todo.rest new.value new.rest exit
    → Out (less done entry) vs ts m → Out m (field ∷ []) us mid → Ahead mid todo.value todo.rest k after → Added done entry exit vs ts new.value new.rest (sizes us + k) after
field_puts {entry} {field = field} {todo} done vs ts us m mid after k (add_nothing p same up e) a b w = rw (e, same, up) (add_plain entry done vs ts us m mid after field todo k p a b w)
field_puts {entry} {exit} {field} {todo} {new} done vs ts us m mid after k (add_data p same does) a b w =
    added_cell entry exit done vs ts us m mid after field todo new new.rest k same refl (push_law (Ok new.rest) does) a b w

field_same : {entry exit : Cells} {field v w : Value} {head top : ℕ} → FieldAdded entry field v head w top exit → (length exit ≡ length entry) × Respared entry exit
field_same does = added_same (added_more added_none does)

field_roams : {m entry exit : Cells} {root field v w : Value} {head top : ℕ} → FieldAdded entry field v head w top exit → CanReach m root (field ∷ []) → Roams m root entry v head → Roams m root exit w top
field_roams does can w = added_roams (added_more added_none does) can w

-- whatever the field can reach, the value at hand is all that is written
field_untouched : {m entry exit : Cells} {root field v w : Value} {head top : ℕ} → FieldAdded entry field v head w top exit → Roams m root entry v head → Untouched m root exit
field_untouched (add_nothing p same up e) w = rw e (roams_untouched w)
field_untouched (add_data p same does) w = roams_untouched (pushed_roams does w)

pub add_law : {entry exit : Cells} {field : Value} {todo : Todo} (r : Result Todo WalkRefusal) → AddSteps entry field todo.value todo.rest r exit → Adds entry field todo r exit
add_law (Ok new) does =
    let a = field_same does in
    record {
      long = a.0;
      live = respared_count _ _ a.0 a.1;
      same = a.1;
      stuck = tt;
      far = λ m root w. field_untouched does w;
      roams = λ m root h e w can. rw (← ok_same e) (field_roams does can w);
      puts = λ done vs ts us m mid after k a b w. field_puts done vs ts us m mid after k does a b w;
    }
add_law {entry} {exit} {field} {todo} (Err e) does =
    let same : exit ≡ entry = does.1 in
    record {
      long = ap length same;
      live = ap count_live same;
      same = rw same (respared_none entry);
      stuck = does.0;
      far = λ m root w. rw same (roams_untouched w);
      roams = λ m root h q w can. absurd (err_ok q);
      puts = λ done vs ts us m mid after k a b w. absurd (add_cell entry exit done vs ts us m mid after field todo k (Err e) (push_law (Err e) does) a b w);
    }

-- a row of fields

pub putting_row : {start entry after : Cells} {v : Value} {head total : ℕ} {fs : List Value} {w : Value} {top : ℕ} {exit : Cells} (done : List ℕ) (xs : List Value) → RowAdded entry v head fs w top exit → Putting done start entry (xs ++ fs) (record { value = v; rest = head }) total after
    → Putting done start exit xs (record { value = w; rest = top }) total after
putting_row done xs added_none p = rw (append-nil xs) at p
putting_row {start} {after = after} {total = total} {exit = exit} done xs (added_more {f = f} {w = w} {x = x} {fs = fs} {top = top} {up = up} {mid = mid} does last) p =
    let u = putting_row done (xs ++ f ∷ []) does (rw (append_assoc xs (f ∷ []) fs) p) in
    add_turn start mid exit done (xs ++ f ∷ []) xs f (record { value = w; rest = top }) total after (Ok (record { value = x; rest = up })) (add_law (Ok (record { value = x; rest = up })) last) refl u

pub rows_law : {entry exit : Cells} {vs : List Value} {head : ℕ} (r : Result Todo WalkRefusal) → RowSteps entry vs head r exit → AddsAll entry vs head r exit
rows_law {entry} {exit} {vs} {head} (Ok todo) does =
    let a = added_same does in
    record {
      long = a.0;
      live = respared_count _ _ a.0 a.1;
      same = a.1;
      stuck = tt;
      far = λ m root w can. roams_untouched (added_roams does can w);
      roams = λ m root h e w can. rw (← ok_same e) (added_roams does can w);
      puts = λ done ts mid after k a w.
          add_end entry exit done [] todo (sizes ts + k) after refl (putting_row done [] does (add_start entry done vs ts mid after (record { value = Nothing; rest = head }) k refl a w));
    }
rows_law {entry} {exit} {vs} {head} (Err e) does =
    let h = does.1 in
    let a = added_same h.added in
    record {
      long = a.0;
      live = respared_count _ _ a.0 a.1;
      same = a.1;
      stuck = does.0;
      far = λ m root w can. halted_untouched h can w;
      roams = λ m root x q w can. absurd (err_ok q);
      puts = λ done ts mid after k a w.
          let p = putting_row done h.before h.added (subst (λ z. Putting done entry entry z (record { value = Nothing; rest = head }) (sizes ts + k) after) h.whole (add_start entry done vs ts mid after (record { value = Nothing; rest = head }) k refl a w)) in
          absurd (never_astray done h.astray p.added.rest p.added.ahead.first);
    }
