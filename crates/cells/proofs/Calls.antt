-- One call, for clients: what it does to every other cell, to the count of live cells and to the capacity.
use Rattle.std.proofs.Common.{◌≡◌, ℕ, zero, suc, ◌+◌, ◌<◌, ◌≤◌, true, false, ◌≢◌, [], ◌∷◌, length, set, is_some, is_ok, Some, None, Ok, Err, Option, Result, refl, ap, ◌∙◌, arith}
use Rattle.std.specs.Option.{ok_or}
use Rattle.std.proofs.lemmas.List.{length-set, get_or-set_same, get_or-set_other}
use Rattle.std.proofs.lemmas.Bool.{false≢true, true≢false, both_ways}
use Rattle.cells.specs.declared.refusals.StoreRefusal.{StoreRefusal}
use Rattle.cells.specs.declared.refusals.StoreRefusal.TheVariants.{DeadCell}
use Rattle.cells.specs.declared.records.CellRecord.{CellRecord}
use Rattle.cells.specs.Meaning.{Cells, at, is_live, one, count_live, record_at, TakenAt, Full, Taken, Changed, Dead, Written, GivenBack}
use Rattle.cells.proofs.CellLaws.{count_set, count_le, live_one, live_within, full_count}

-- cells, and one of them put in

pub at_other : (cs : Cells) (i k : ℕ) (c : Option CellRecord) → k ≢ i → at (set cs i c) k ≡ at cs k
at_other cs i k c ne = get_or-set_other cs i k c None ne

pub at_put : (cs : Cells) (i : ℕ) (c : Option CellRecord) → i < length cs → at (set cs i c) i ≡ c
at_put cs i c h = get_or-set_same cs i c None h

-- a cell that is cleared is free, within the capacity or past it
pub at_cleared : (cs : Cells) (i : ℕ) → at (set cs i None) i ≡ None
at_cleared [] i = refl
at_cleared (x ∷ xs) zero = refl
at_cleared (x ∷ xs) (suc i) = at_cleared xs i

-- a live cell and a free one are two
pub live_free_apart : (cs : Cells) (k i : ℕ) → is_live cs k ≡ true → at cs i ≡ None → k ≢ i
live_free_apart cs k i live free same = both_ways (is_live cs k) (ap is_some (ap (at cs) same ∙ free)) live

-- take

pub taken_not_live : {old new : Cells} {r : CellRecord} {i : ℕ} → TakenAt old r i new → is_live old i ≡ false
taken_not_live t = ap is_some t.free

pub taken_live : {old new : Cells} {r : CellRecord} {i : ℕ} → TakenAt old r i new → at new i ≡ Some r
taken_live {old} {r = r} {i = i} t = ap (λ cs. at cs i) t.after ∙ at_put old i (Some r) t.within

-- a cell that was live before is not the cell taken
pub taken_apart : {old new : Cells} {r : CellRecord} {i : ℕ} (k : ℕ) → is_live old k ≡ true → TakenAt old r i new → k ≢ i
taken_apart {old} {i = i} k live t = live_free_apart old k i live t.free

pub taken_other : {old new : Cells} {r : CellRecord} {i : ℕ} (k : ℕ) → k ≢ i → TakenAt old r i new → at new k ≡ at old k
taken_other {old} {r = r} {i = i} k ne t = ap (λ cs. at cs k) t.after ∙ at_other old i k (Some r) ne

pub taken_count : {old new : Cells} {r : CellRecord} {i : ℕ} → TakenAt old r i new → count_live new ≡ count_live old + 1
taken_count {old} {r = r} {i = i} t = ap count_live t.after ∙ omega (arith, count_set old i (Some r) t.within, ap one t.free)

-- one live cell more is no more than a store has cells
pub taken_room : {old new : Cells} {r : CellRecord} {i : ℕ} → TakenAt old r i new → length new ≤ 65535 → count_live old + 1 ≤ 65535
taken_room {new = new} t small = omega (arith, taken_count t, count_le new, small)

pub taken_capacity : {old new : Cells} {r : CellRecord} {i : ℕ} → TakenAt old r i new → length new ≡ length old
taken_capacity {old} {r = r} {i = i} t = ap length t.after ∙ length-set old i (Some r)

-- refused, every cell counts
pub full_counted : {old new : Cells} {e : StoreRefusal} → Full old e new → count_live old ≡ length old
full_counted {old} f = full_count old f.full

-- where fewer cells are live than there are, take does not refuse
pub taken_ok : (old : Cells) (r : CellRecord) (answer : Result ℕ StoreRefusal) (new : Cells) → count_live old < length old → Taken old r answer new → is_ok answer ≡ true
taken_ok old r (Ok i) new room t = refl
taken_ok old r (Err e) new room f = absurd (omega (arith, full_counted f))

-- where every cell is live, take refuses
pub taken_refused : (old : Cells) (r : CellRecord) (answer : Result ℕ StoreRefusal) (new : Cells) → count_live old ≡ length old → Taken old r answer new → is_ok answer ≡ false
taken_refused old r (Ok i) new full t =
    absurd (omega (arith, full, count_set old i (Some r) t.within, ap one t.free, count_le (set old i (Some r)), length-set old i (Some r)))
taken_refused old r (Err e) new full f = refl

-- write and give back

pub changed_at : {old new : Cells} {i : ℕ} {c : Option CellRecord} → Changed old i c new → at new i ≡ c
changed_at {old} {i = i} {c = c} h = ap (λ cs. at cs i) h.after ∙ at_put old i c (live_within old i h.live)

pub changed_other : {old new : Cells} {i : ℕ} {c : Option CellRecord} (k : ℕ) → k ≢ i → Changed old i c new → at new k ≡ at old k
changed_other {old} {i = i} {c = c} k ne h = ap (λ cs. at cs k) h.after ∙ at_other old i k c ne

pub changed_capacity : {old new : Cells} {i : ℕ} {c : Option CellRecord} → Changed old i c new → length new ≡ length old
changed_capacity {old} {i = i} {c = c} h = ap length h.after ∙ length-set old i c

pub written_count : {old new : Cells} {i : ℕ} {r : CellRecord} → Changed old i (Some r) new → count_live new ≡ count_live old
written_count {old} {i = i} {r = r} h =
    ap count_live h.after ∙ omega (arith, count_set old i (Some r) (live_within old i h.live), live_one (at old i) h.live)

pub given_count : {old new : Cells} {i : ℕ} → Changed old i None new → count_live new + 1 ≡ count_live old
given_count {old} {i = i} h =
    ap (λ cs. count_live cs + 1) h.after ∙ omega (arith, count_set old i None (live_within old i h.live), live_one (at old i) h.live)

-- a write, by its answer
pub written_live : {U : Type 0} (old : Cells) (i : ℕ) (r : CellRecord) (answer : Result U StoreRefusal) (new : Cells) → Written old i r answer new → count_live new ≡ count_live old
written_live old i r (Ok u) new h = written_count h
written_live old i r (Err e) new h = ap count_live h.same

-- on a live cell they do not refuse, on any other number they do
pub written_ok : {U : Type 0} (old : Cells) (i : ℕ) (r : CellRecord) (answer : Result U StoreRefusal) (new : Cells) → is_live old i ≡ true → Written old i r answer new → Changed old i (Some r) new
written_ok old i r (Ok u) new live h = h
written_ok old i r (Err e) new live h = absurd (both_ways (is_live old i) (ap is_some h.dead) live)

pub given_ok : {U : Type 0} (old : Cells) (i : ℕ) (answer : Result U StoreRefusal) (new : Cells) → is_live old i ≡ true → GivenBack old i answer new → Changed old i None new
given_ok old i (Ok u) new live h = h
given_ok old i (Err e) new live h = absurd (both_ways (is_live old i) (ap is_some h.dead) live)

-- any call, by its answer: the capacity stays, and a cell that I hold and did not name is untouched

pub take_keeps : (old : Cells) (r : CellRecord) (answer : Result ℕ StoreRefusal) (new : Cells) (k : ℕ) → is_live old k ≡ true → Taken old r answer new → at new k ≡ at old k
take_keeps old r (Ok i) new k live t = taken_other k (taken_apart k live t) t
take_keeps old r (Err e) new k live f = ap (λ cs. at cs k) f.same

pub write_keeps : {U : Type 0} (old : Cells) (i : ℕ) (r : CellRecord) (answer : Result U StoreRefusal) (new : Cells) (k : ℕ) → k ≢ i → Written old i r answer new → at new k ≡ at old k
write_keeps old i r (Ok u) new k ne h = changed_other k ne h
write_keeps old i r (Err e) new k ne h = ap (λ cs. at cs k) h.same

pub give_back_keeps : {U : Type 0} (old : Cells) (i : ℕ) (answer : Result U StoreRefusal) (new : Cells) (k : ℕ) → k ≢ i → GivenBack old i answer new → at new k ≡ at old k
give_back_keeps old i (Ok u) new k ne h = changed_other k ne h
give_back_keeps old i (Err e) new k ne h = ap (λ cs. at cs k) h.same

pub take_capacity : (old : Cells) (r : CellRecord) (answer : Result ℕ StoreRefusal) (new : Cells) → Taken old r answer new → length new ≡ length old
take_capacity old r (Ok i) new t = taken_capacity t
take_capacity old r (Err e) new f = ap length f.same

pub write_capacity : {U : Type 0} (old : Cells) (i : ℕ) (r : CellRecord) (answer : Result U StoreRefusal) (new : Cells) → Written old i r answer new → length new ≡ length old
write_capacity old i r (Ok u) new h = changed_capacity h
write_capacity old i r (Err e) new h = ap length h.same

pub give_back_capacity : {U : Type 0} (old : Cells) (i : ℕ) (answer : Result U StoreRefusal) (new : Cells) → GivenBack old i answer new → length new ≡ length old
give_back_capacity old i (Ok u) new h = changed_capacity h
give_back_capacity old i (Err e) new h = ap length h.same

-- read, by its answer

pub read_some : (cs : Cells) (i : ℕ) (r : CellRecord) → record_at cs i ≡ Ok r → at cs i ≡ Some r
read_some cs i r h = got (at cs i) h
  where
    got : (c : Option CellRecord) → ok_or c DeadCell ≡ Ok r → c ≡ Some r
    got None h = absurd (false≢true (ap is_ok h))
    got (Some q) h = cc

pub read_none : (cs : Cells) (i : ℕ) (e : StoreRefusal) → record_at cs i ≡ Err e → Dead cs i e cs
read_none cs i e h = let p = got (at cs i) h in record { number = p.0; dead = p.1; same = refl }
  where
    got : (c : Option CellRecord) → ok_or c DeadCell ≡ Err e → (e ≡ DeadCell) × (c ≡ None)
    got None h = (cc, refl)
    got (Some q) h = absurd (true≢false (ap is_ok h))

pub read_live : (cs : Cells) (i : ℕ) → is_ok (record_at cs i) ≡ is_live cs i
read_live cs i = same (at cs i)
  where
    same : (c : Option CellRecord) → is_ok (ok_or c DeadCell) ≡ is_some c
    same None = refl
    same (Some q) = refl
