-- Two calls one after the other, for clients: on different cells they commute, on one cell the later one counts.
use Rattle.std.proofs.Common.{◌≡◌, ℕ, ◌≢◌, set, is_some, Some, None, Option, sym, refl, ap, ◌∙◌}
use Rattle.std.proofs.lemmas.List.{length-set, set_comm, set-set, set-get_or}
use Rattle.cells.specs.declared.records.CellRecord.{CellRecord}
use Rattle.cells.specs.Meaning.{Cells, at, TakenAt, Changed}
use Rattle.cells.proofs.Calls.{at_other, taken_apart, taken_live, taken_other, changed_other}

-- two writes, two givings back, or one of each
pub changes_commute : {old mid new : Cells} {i j : ℕ} {c d : Option CellRecord} → i ≢ j → Changed old i c mid → Changed mid j d new → Changed old j d (set old j d) × Changed (set old j d) i c new
changes_commute {old} {i = i} {j = j} {c = c} {d = d} ne h k = (
  record { live = ap is_some (sym (changed_other j (λ e. ne (sym e)) h)) ∙ k.live; after = refl },
  record {
    live = ap is_some (at_other old j i d ne) ∙ h.live;
    after = k.after ∙ ap (λ cs. set cs j d) h.after ∙ set_comm old i j c d ne;
  },
)

-- a take, and a change of another cell
pub take_commutes : {old mid new : Cells} {i j : ℕ} {r : CellRecord} {d : Option CellRecord} → i ≢ j → TakenAt old r i mid → Changed mid j d new → Changed old j d (set old j d) × TakenAt (set old j d) r i new
take_commutes {old} {i = i} {j = j} {r = r} {d = d} ne t k = (
  record { live = ap is_some (sym (taken_other j (λ e. ne (sym e)) t)) ∙ k.live; after = refl },
  record {
    within = rw (length-set old j d) t.within;
    free = at_other old j i d ne ∙ t.free;
    after = k.after ∙ ap (λ cs. set cs j d) t.after ∙ set_comm old i j (Some r) d ne;
  },
)

-- two cells taken one after the other are two
pub takes_apart : {old mid new : Cells} {i j : ℕ} {r q : CellRecord} → TakenAt old r i mid → TakenAt mid q j new → i ≢ j
takes_apart {i = i} t u = taken_apart i (ap is_some (taken_live t)) u

pub changed_twice : {old mid new : Cells} {i : ℕ} {c d : Option CellRecord} → Changed old i c mid → Changed mid i d new → new ≡ set old i d
changed_twice {old} {i = i} {c = c} {d = d} h k = k.after ∙ ap (λ cs. set cs i d) h.after ∙ set-set old i c d

-- a cell changed and written back is as it was
pub changed_back : {old mid new : Cells} {i : ℕ} {c : Option CellRecord} → Changed old i c mid → Changed mid i (at old i) new → new ≡ old
changed_back {old} {i = i} h k = changed_twice h k ∙ set-get_or old i None

-- a cell taken and given back leaves the store as it was
pub taken_given : {old mid new : Cells} {i : ℕ} {r : CellRecord} → TakenAt old r i mid → Changed mid i None new → new ≡ old
taken_given {old} {i = i} {r = r} t k =
    k.after ∙ ap (λ cs. set cs i None) t.after ∙ set-set old i (Some r) None ∙ ap (λ c. set old i c) (sym t.free) ∙ set-get_or old i None
