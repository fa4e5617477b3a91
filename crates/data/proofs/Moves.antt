-- How a row of held values changes with the steps of a run: a value is moved, built, taken apart, copied, dropped or let go.
-- In each law m₀ is what the store holds beside the row.
use Rattle.std.proofs.Common.{◌≡◌, ℕ, ◌+◌, ◌<◌, ◌≤◌, List, [], ◌∷◌, ◌++◌, length, set, Some, None, Ok, Err, Result, sym, refl, ap, ◌∙◌, subst}
use Rattle.std.proofs.lemmas.List.{set-set}
use Rattle.cells.specs.declared.values.Value.{Value}
use Rattle.cells.specs.declared.values.Value.TheVariants.{Cell}
use Rattle.cells.specs.declared.records.CellRecord.{CellRecord}
use Rattle.cells.specs.Records.{row}
use Rattle.cells.specs.Meaning.{Cells, at, count_live, TakenAt}
use Rattle.cells.proofs.Calls.{taken_live}
use Rattle.data.specs.declared.refusals.WalkRefusal.{WalkRefusal}
use Rattle.data.specs.declared.refusals.WalkRefusal.TheVariants.{NoFreeCell}
use Rattle.data.specs.Trees.{Tree, Trees, built, none, more, size}
use Rattle.data.specs.Standing.{Plain}
use Rattle.data.specs.Taking.{Out, out_none, out_plain, out_cell}
use Rattle.data.specs.Walks.{Sizes, Drops, Copies}
use Rattle.data.proofs.Stores.{set_back}
use Rattle.data.proofs.Outs.{not_plain, plain_once, join, tally, Two, parts_at, exchange, joined, headed}
use Rattle.data.proofs.Keeping.{keeps_from_out, out_from_keeps}

-- a part of a row moved to its front
pub pull : (xs ys zs : List Value) (ts us ws : Trees) {cs m₀ : Cells} → tally ts ≡ length xs → tally us ≡ length ys → Out cs (xs ++ (ys ++ zs)) (join ts (join us ws)) m₀ → Out cs (ys ++ (xs ++ zs)) (join us (join ts ws)) m₀
pull xs ys zs ts us ws p q o =
    let a = parts_at xs (ys ++ zs) ts (join us ws) p o in
    let b = parts_at ys zs us ws q a.second in
    let x = exchange a.first b.first in
    joined x.first (joined x.second b.second)

-- a constructor applied: its arguments, first in the row, become the fields of a cell that was free
pub build : (m m' m₀ : Cells) (n : ℕ) (r : CellRecord) (vs : List Value) (fields ts : Trees) → TakenAt m r n m' → tally fields ≡ length (row r)
    → Out m (row r ++ vs) (join fields ts) m₀ → Out m' (Cell n ∷ vs) (more (built r.constructor fields) ts) m₀
build m m' m₀ n r vs fields ts took e o =
    let u = parts_at (row r) vs fields ts e o in
    let back : m ≡ set m' n None = sym (ap (λ z. set z n None) took.after ∙ (set-set m n (Some r) None ∙ set_back m n None took.free)) in
    out_cell r (taken_live took) (subst (λ z. Out z (row r) fields u.mid) back u.first) u.second

-- a cell opened and given back: its fields come first in the row
pub unbuild : (m m₀ : Cells) (n : ℕ) (r : CellRecord) (vs : List Value) (c : ℕ) (fields ts : Trees) → at m n ≡ Some r
    → Out m (Cell n ∷ vs) (more (built c fields) ts) m₀ → (c ≡ r.constructor) × Out (set m n None) (row r ++ vs) (join fields ts) m₀
unbuild m m₀ n r vs c fields ts e o =
    let h = headed o in
    let shape = h.shape in
    let is = h.is in
    let same : h.holds ≡ r = cc in
    let e₂ : h.fields ≡ fields = cc in
    let e₃ : h.others ≡ ts = cc in
    let a : Out (set m n None) (row r) fields h.mid = subst (λ (z : CellRecord). Out (set m n None) (row z) fields h.mid) same (subst (λ z. Out (set m n None) (row h.holds) z h.mid) e₂ h.out) in
    (cc, joined a (subst (λ z. Out h.mid vs z m₀) e₃ h.then))

plain_not_built : {v : Value} {c : ℕ} {fields : Trees} → Plain v (built c fields) → ⊥
plain_not_built p = elim p [ ]

-- a value that stands for data is a live cell with its constructor
pub built_live : (m m₀ : Cells) (v : Value) (vs : List Value) (c : ℕ) (fields ts : Trees) → Out m (v ∷ vs) (more (built c fields) ts) m₀ → (n : ℕ) × (r : CellRecord) × (v ≡ Cell n) × (at m n ≡ Some r) × (r.constructor ≡ c)
built_live m m₀ v vs c fields ts (out_plain p o) = absurd (plain_not_built p)
built_live m m₀ v vs c fields ts (out_cell {n = n} r e k o) = (n, r, refl, e, refl)

-- a plain value at the front comes and goes
pub plain_out : {m m₀ : Cells} {v : Value} {vs : List Value} {t u : Tree} {ts : Trees} → Plain v u → Out m (v ∷ vs) (more t ts) m₀ → (t ≡ u) × Out m vs ts m₀
plain_out p (out_plain q o) = (plain_once q p, o)
plain_out p (out_cell r e k o) = absurd (not_plain p)

-- values stand for one row of trees only, and leave one store only
pub one_reading : {cs a b : Cells} {vs : List Value} {ts us : Trees} → Out cs vs ts a → Out cs vs us b → (ts ≡ us) × (a ≡ b)
one_reading out_none out_none = (refl, refl)
one_reading (out_plain {t = t} p o) (out_plain {t = u} q k) = let w = one_reading o k in let e = plain_once p q in let f = w.0 in (cc, w.1)
one_reading (out_plain p o) (out_cell r e k u) = absurd (not_plain p)
one_reading (out_cell r e k u) (out_plain p o) = absurd (not_plain p)
one_reading {cs} {b = b} (out_cell {mid = mid} {n = n} {vs = vs} {fields = fields} {ts = ts} r e k o) (out_cell {mid = mid'} {fields = fields'} {ts = us} s h l u) =
    let same : s ≡ r = cc in
    let t = one_reading k (subst (λ (z : CellRecord). Out (set cs n None) (row z) fields' mid') same l) in
    let w = one_reading o (subst (λ z. Out z vs us b) (sym t.1) u) in
    let e₁ = t.0 in
    let e₂ = w.0 in
    (cc, w.1)

-- the first value of a row apart from the others
pub alone : {cs m₀ : Cells} {v : Value} {vs : List Value} {t : Tree} {ts : Trees} → Out cs (v ∷ vs) (more t ts) m₀ → Two cs (v ∷ []) (more t none) vs ts m₀
alone {v = v} {vs = vs} {t = t} {ts = ts} o = parts_at (v ∷ []) vs (more t none) ts refl o

-- the walks, with other values after the one that is walked

pub size_held : {entry exit m₀ : Cells} {v : Value} {r : Result ℕ WalkRefusal} {vs : List Value} {t : Tree} {ts : Trees} → Sizes entry v r exit → Out entry (v ∷ vs) (more t ts) m₀ → (r ≡ Ok (size t)) × Out exit (v ∷ vs) (more t ts) m₀
size_held {exit = exit} {v = v} {t = t} does o =
    let a = alone o in
    let z = does.counts t a.mid (keeps_from_out a.mid _ _ _ a.first) in
    (z.0, joined (out_from_keeps a.mid exit (v ∷ []) (more t none) z.1) a.second)

pub drop_held : {entry exit m₀ : Cells} {v : Value} {r : Result ℕ WalkRefusal} {vs : List Value} {t : Tree} {ts : Trees} → Drops entry v r exit → Out entry (v ∷ vs) (more t ts) m₀ → (r ≡ Ok (size t)) × Out exit vs ts m₀
drop_held {m₀ = m₀} {vs = vs} {t = t} {ts = ts} does o =
    let a = alone o in
    let z = does.frees t a.mid (keeps_from_out a.mid _ _ _ a.first) in
    (z.0, subst (λ x. Out x vs ts m₀) (sym z.1) a.second)

-- a copy goes before the value; refused, the row stands as before
abbrev pub CopyHeld : Cells → Value → List Value → Tree → Trees → Cells → Result Value WalkRefusal → Cells → Type 0
CopyHeld entry v vs t ts m₀ (Ok w) exit = (count_live entry + size t ≤ length entry) × Out exit (w ∷ v ∷ vs) (more t (more t ts)) m₀
CopyHeld entry v vs t ts m₀ (Err e) exit = (e ≡ NoFreeCell) × (length entry < count_live entry + size t) × Out exit (v ∷ vs) (more t ts) m₀

pub copy_held : {entry exit m₀ : Cells} {v : Value} (r : Result Value WalkRefusal) {vs : List Value} {t : Tree} {ts : Trees} → Copies entry v r exit → Out entry (v ∷ vs) (more t ts) m₀ → CopyHeld entry v vs t ts m₀ r exit
copy_held {exit = exit} {v = v} (Ok w) {t = t} does o =
    let a = alone o in
    let z = does.copies t a.mid (keeps_from_out a.mid _ _ _ a.first) in
    (z.room, joined (out_from_keeps a.mid exit (w ∷ v ∷ []) (more t (more t none)) z.both) a.second)
copy_held {exit = exit} {v = v} (Err e) {t = t} does o =
    let a = alone o in
    let z = does.copies t a.mid (keeps_from_out a.mid _ _ _ a.first) in
    (z.number, z.short, joined (out_from_keeps a.mid exit (v ∷ []) (more t none) z.still) a.second)
