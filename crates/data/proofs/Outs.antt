-- Laws of taking data out of a store.
use Rattle.std.proofs.Common.{◌≡◌, ℕ, ◌+◌, ◌⊎◌, false, List, [], ◌∷◌, ◌++◌, length, set, Some, None, Option, sym, refl, ap, ◌∙◌, subst, inl, inr, ⊎_elim, arith}
use Rattle.std.proofs.lemmas.Bool.{cases_eq, true≢false}
use Rattle.std.proofs.lemmas.List.{set_comm, set-set, length-set}
use Rattle.cells.specs.declared.values.Value.{Value}
use Rattle.cells.specs.declared.values.Value.TheVariants.{Cell}
use Rattle.cells.specs.declared.records.CellRecord.{CellRecord}
use Rattle.cells.specs.Values.{is_cell}
use Rattle.cells.specs.Records.{row}
use Rattle.cells.specs.Meaning.{Cells, at, count_live, one}
use Rattle.cells.proofs.CellLaws.{count_set}
use Rattle.cells.proofs.Calls.{at_other, at_put, at_cleared}
use Rattle.data.specs.Trees.{Tree, Trees, built, none, more, size, sizes}
use Rattle.data.specs.Standing.{Plain, plain_int, plain_bool, plain_symbol, plain_unit, plain_function}
use Rattle.data.specs.Taking.{Out, out_none, out_plain, out_cell}
use Rattle.data.specs.Alike.{Alike}
use Rattle.data.specs.Reaching.{HasCell, has_first, has_later}
use Rattle.data.proofs.Stores.{some_none, within, cleared_or_same}

-- plain values

pub not_plain : {n : ℕ} {t : Tree} → Plain (Cell n) t → ⊥
not_plain p = elim p [ ]

pub plain_size : {v : Value} {t : Tree} → Plain v t → size t ≡ 0
plain_size plain_int = refl
plain_size plain_bool = refl
plain_size plain_symbol = refl
plain_size plain_unit = refl
plain_size plain_function = refl

pub plain_once : {v : Value} {t u : Tree} → Plain v t → Plain v u → t ≡ u
plain_once plain_int plain_int = refl
plain_once plain_bool plain_bool = refl
plain_once plain_symbol plain_symbol = refl
plain_once plain_unit plain_unit = refl
plain_once plain_function plain_function = refl

-- rows of trees

-- two rows after one another
abbrev pub join : Trees → Trees → Trees
join none us = us
join (more t ts) us = more t (join ts us)

pub join_join : (a b c : Trees) → join (join a b) c ≡ join a (join b c)
join_join none b c = refl
join_join (more t a) b c = ap (λ z. more t z) (join_join a b c)

pub join_none : (a : Trees) → join a none ≡ a
join_none none = refl
join_none (more t a) = ap (λ z. more t z) (join_none a)

pub sizes_join : (a b : Trees) → sizes (join a b) ≡ sizes a + sizes b
sizes_join none b = omega arith
sizes_join (more t a) b = omega (arith, sizes_join a b)

-- a free cell stays free
pub stays_free : {cs after : Cells} {vs : List Value} {ts : Trees} (i : ℕ) → at cs i ≡ None → Out cs vs ts after → at after i ≡ None
stays_free i h out_none = h
stays_free i h (out_plain p o) = stays_free i h o
stays_free {cs} i h (out_cell {n = n} r e k o) =
    let z : at (set cs n None) i ≡ None = ⊎_elim (λ a. a) (λ b. b ∙ h) (cleared_or_same cs i n) in
    stays_free i (stays_free i z k) o

-- a cell is taken out or stays as it is
pub kept_or_free : {cs after : Cells} {vs : List Value} {ts : Trees} (i : ℕ) → Out cs vs ts after → (at after i ≡ None) ⊎ (at after i ≡ at cs i)
kept_or_free i out_none = inr refl
kept_or_free i (out_plain p o) = kept_or_free i o
kept_or_free {cs} i (out_cell {n = n} r e k o) =
    ⊎_elim inl (λ a. ⊎_elim (λ b. inl (a ∙ b)) (λ b. ⊎_elim (λ c. inl (a ∙ b ∙ c)) (λ c. inr (a ∙ b ∙ c)) (cleared_or_same cs i n)) (kept_or_free i k)) (kept_or_free i o)

-- a live cell of what is left was the same before
pub was : {cs after : Cells} {vs : List Value} {ts : Trees} (i : ℕ) (r : CellRecord) → at after i ≡ Some r → Out cs vs ts after → at cs i ≡ Some r
was i r e o = ⊎_elim (λ z. absurd (some_none e z)) (λ s. sym s ∙ e) (kept_or_free i o)

-- a cell that is not taken out may hold anything
pub frame : {cs after : Cells} {vs : List Value} {ts : Trees} (c : ℕ) (x : Option CellRecord) → at after c ≡ at cs c → Out cs vs ts after → Out (set cs c x) vs ts (set after c x)
frame c x h out_none = out_none
frame c x h (out_plain p o) = out_plain p (frame c x h o)
frame {cs} {after} c x h (out_cell {mid = mid} {n = n} {fields = fields} r e k o) =
    let gone : at after n ≡ None = stays_free n (stays_free n (at_cleared cs n) k) o in
    let apart : n ≡ c → ⊥ = λ s. some_none e (subst (λ i. at cs i ≡ None) (sym s) (sym h ∙ subst (λ i. at after i ≡ None) s gone)) in
    let same : at (set cs n None) c ≡ at cs c = at_other cs n c None (λ s. apart (sym s)) in
    let m : at mid c ≡ at cs c = ⊎_elim (λ z. stays_free c (same ∙ (sym h ∙ z)) k ∙ sym (sym h ∙ z)) (λ s. sym s ∙ h) (kept_or_free c o) in
    out_cell r (at_other cs c n x apart ∙ e) (subst (λ z. Out z (row r) fields (set mid c x)) (set_comm cs n c None x apart) (frame c x (m ∙ sym same) k)) (frame c x (h ∙ sym m) o)

-- two rows in the other order
pub record Exchanged (cs : Cells) (xs : List Value) (ts : Trees) (ys : List Value) (us : Trees) (after : Cells) : Type 0 where
  pub mid : Cells
  pub first : Out cs ys us mid
  pub second : Out mid xs ts after

pub exchange : {mid after : Cells} {xs ys : List Value} {ts us : Trees} {cs : Cells} → Out cs xs ts mid → Out mid ys us after → Exchanged cs xs ts ys us after
exchange {cs = cs} a out_none = record { mid = cs; first = out_none; second = a }
exchange a (out_plain p o) = let x = exchange a o in record { mid = x.mid; first = out_plain p x.first; second = x.second }
exchange {cs = cs} a (out_cell {n = n} r e k o) =
    let e' : at cs n ≡ Some r = was n r e a in
    let x = exchange {cs = set cs n None} (frame n None (e ∙ sym e') a) k in
    let y = exchange {cs = x.mid} x.second o in
    record { mid = y.mid; first = out_cell r e' x.first y.first; second = y.second }

-- a row in two parts
pub record Parts (cs : Cells) (xs ys : List Value) (ts : Trees) (after : Cells) : Type 0 where
  pub mid : Cells
  pub left : Trees
  pub right : Trees
  pub first : Out cs xs left mid
  pub second : Out mid ys right after
  pub whole : ts ≡ join left right

pub parts : (xs ys : List Value) {cs after : Cells} {ts : Trees} → Out cs (xs ++ ys) ts after → Parts cs xs ys ts after
parts [] ys {cs} {ts = ts} o = record { mid = cs; left = none; right = ts; first = out_none; second = o; whole = refl }
parts (x ∷ xs) ys (out_plain {t = t} p o) = let u = parts xs ys o in record { mid = u.mid; left = more t u.left; right = u.right; first = out_plain p u.first; second = u.second; whole = ap (λ z. more t z) u.whole }
parts (x ∷ xs) ys (out_cell {fields = fields} r e k o) =
    let u = parts xs ys o in
    record { mid = u.mid; left = more (built r.constructor fields) u.left; right = u.right; first = out_cell r e k u.first; second = u.second; whole = ap (λ z. more (built r.constructor fields) z) u.whole }

pub joined : {cs mid after : Cells} {xs ys : List Value} {ts us : Trees} → Out cs xs ts mid → Out mid ys us after → Out cs (xs ++ ys) (join ts us) after
joined out_none b = b
joined (out_plain p o) b = out_plain p (joined o b)
joined (out_cell r e k o) b = out_cell r e k (joined o b)

-- how many trees a row has
abbrev pub tally : Trees → ℕ
tally none = 0
tally (more t ts) = 1 + tally ts

pub out_tally : {cs after : Cells} {vs : List Value} {ts : Trees} → Out cs vs ts after → tally ts ≡ length vs
out_tally out_none = refl
out_tally (out_plain p o) = omega (arith, out_tally o)
out_tally (out_cell r e k o) = omega (arith, out_tally o)

-- a row in two given parts
pub record Two (cs : Cells) (xs : List Value) (ts : Trees) (ys : List Value) (us : Trees) (after : Cells) : Type 0 where
  pub mid : Cells
  pub first : Out cs xs ts mid
  pub second : Out mid ys us after

pub parts_at : (xs ys : List Value) (ts us : Trees) {cs after : Cells} → tally ts ≡ length xs → Out cs (xs ++ ys) (join ts us) after → Two cs xs ts ys us after
parts_at [] ys none us {cs} e o = record { mid = cs; first = out_none; second = o }
parts_at [] ys (more t ts) us e o = absurd (omega arith)
parts_at (x ∷ xs) ys none us e o = absurd (omega arith)
parts_at (x ∷ xs) ys (more t ts) us e (out_plain p o) = let u = parts_at xs ys ts us (omega arith) o in record { mid = u.mid; first = out_plain p u.first; second = u.second }
parts_at (x ∷ xs) ys (more t ts) us e (out_cell r h k o) = let u = parts_at xs ys ts us (omega arith) o in record { mid = u.mid; first = out_cell r h k u.first; second = u.second }

-- nothing taken out
pub out_nothing : {cs after : Cells} {ts : Trees} → Out cs [] ts after → (cs ≡ after) × (ts ≡ none)
out_nothing out_none = (refl, refl)

pub alike_row : {r q : CellRecord} → Alike r q → row q ≡ row r
alike_row a = let u = a.used_is in let f = a.fields_are in cc

-- the spare numbers of data are free
pub respare : {cs after : Cells} {vs : List Value} {ts : Trees} (c : ℕ) (r q : CellRecord) → at cs c ≡ Some r → at after c ≡ None → Alike r q → Out cs vs ts after → Out (set cs c (Some q)) vs ts after
respare c r q h z a out_none = absurd (some_none h z)
respare c r q h z a (out_plain p o) = out_plain p (respare c r q h z a o)
respare {cs} {after} c r q h z a (out_cell {mid = mid} {n = n} {vs = vs} {fields = fields} {ts = ts} b e k o) =
    ⊎_elim
    (λ s.
    let same : b ≡ r = let e' : at cs c ≡ Some b = subst (λ i. at cs i ≡ Some b) (sym s) e in cc in
    let rows : row b ≡ row q = ap row same ∙ sym (alike_row a) in
    let heads : q.constructor ≡ b.constructor = a.constructor_is ∙ sym (ap (λ (w : CellRecord). w.constructor) same) in
    let there : at (set cs c (Some q)) n ≡ Some q = subst (λ i. at (set cs c (Some q)) i ≡ Some q) s (at_put cs c (Some q) (within cs c r h)) in
    let back : set cs n None ≡ set (set cs c (Some q)) n None = subst (λ i. set cs i None ≡ set (set cs c (Some q)) i None) s (sym (set-set cs c (Some q) None)) in
    subst (λ t. Out (set cs c (Some q)) (Cell n ∷ vs) (more (built t fields) ts) after) heads
    (out_cell q there (subst (λ m. Out m (row q) fields mid) back (subst (λ t. Out (set cs n None) t fields mid) rows k)) o))
    (λ apart.
    let there : at (set cs c (Some q)) n ≡ Some b = at_other cs c n (Some q) (λ s. apart (sym s)) ∙ e in
    let here : at (set cs n None) c ≡ Some r = at_other cs n c None apart ∙ h in
    let swap : set (set cs n None) c (Some q) ≡ set (set cs c (Some q)) n None = set_comm cs n c None (Some q) (λ s. apart (sym s)) in
    ⊎_elim
    (λ gone. out_cell b there (subst (λ m. Out m (row b) fields mid) swap (respare c r q here gone a k)) o)
    (λ left. out_cell b there (subst (λ m. Out m (row b) fields (set mid c (Some q))) swap (frame c (Some q) left k)) (respare c r q (left ∙ here) z a o))
    (kept_or_free c k))
    (cases_eq c n)

pub out_long : {cs after : Cells} {vs : List Value} {ts : Trees} → Out cs vs ts after → length after ≡ length cs
out_long out_none = refl
out_long (out_plain p o) = out_long o
out_long {cs} (out_cell {n = n} r e k o) = out_long o ∙ (out_long k ∙ length-set cs n None)

-- one live cell for each constructor
pub out_count : {cs after : Cells} {vs : List Value} {ts : Trees} → Out cs vs ts after → count_live cs ≡ count_live after + sizes ts
out_count out_none = omega arith
out_count (out_plain p o) = omega (arith, plain_size p, out_count o)
out_count {cs} (out_cell {n = n} r e k o) =
    omega (arith, count_set cs n None (within cs n r e), ap one e, out_count k, out_count o)

-- one value of a row

-- a plain one may be left out
pub record Without (cs : Cells) (xs ys : List Value) (ts : Trees) (after : Cells) : Type 0 where
  pub trees : Trees
  pub out : Out cs (xs ++ ys) trees after
  pub counts : sizes trees ≡ sizes ts

pub without : (xs : List Value) (v : Value) {ys : List Value} {ts : Trees} {cs after : Cells} → is_cell v ≡ false → Out cs (xs ++ v ∷ ys) ts after → Without cs xs ys ts after
without [] v p (out_plain {ts = ts} q o) = record { trees = ts; out = o; counts = omega (arith, plain_size q) }
without [] v p (out_cell r e k o) = absurd (true≢false p)
without (x ∷ xs) v p (out_plain {t = t} q o) = let u = without xs v p o in record { trees = more t u.trees; out = out_plain q u.out; counts = omega (arith, u.counts) }
without (x ∷ xs) v p (out_cell {fields = fields} r e k o) = let u = without xs v p o in record { trees = more (built r.constructor fields) u.trees; out = out_cell r e k u.out; counts = omega (arith, u.counts) }

-- each that is data names a live cell
pub has_live : {cs after : Cells} {vs : List Value} {ts : Trees} {n : ℕ} → Out cs vs ts after → HasCell n vs → at cs n ≡ None → ⊥
has_live out_none a z = elim a [ ]
has_live (out_plain {t = t} p o) (has_first s) z = not_plain (subst (λ v. Plain v t) s p)
has_live (out_plain p o) (has_later a) z = has_live o a z
has_live {cs} {n = n} (out_cell {n = m} r e k o) (has_first s) z = let same : m ≡ n = cc in some_none e (subst (λ i. at cs i ≡ None) (sym same) z)
has_live {cs} {n = n} (out_cell {n = m} r e k o) (has_later a) z = has_live o a (stays_free n (⊎_elim (λ y. y) (λ s. s ∙ z) (cleared_or_same cs n m)) k)

-- it is live, it is taken out, and none that comes later names it
pub record Inside (cs : Cells) (n : ℕ) (ys : List Value) (after : Cells) : Type 0 where
  pub holds : CellRecord
  pub is : at cs n ≡ Some holds
  pub gone : at after n ≡ None
  pub once : HasCell n ys → ⊥

pub inside : (xs : List Value) {n : ℕ} {ys : List Value} {ts : Trees} {cs after : Cells} → Out cs (xs ++ Cell n ∷ ys) ts after → Inside cs n ys after
inside xs {n} {ys} o =
    let u = parts xs (Cell n ∷ ys) o in
    let i = first_inside u.second in
    record { holds = i.holds; is = was n i.holds i.is u.first; gone = i.gone; once = i.once }
  where
    first_inside : {mid to : Cells} {us : Trees} → Out mid (Cell n ∷ ys) us to → Inside mid n ys to
    first_inside (out_plain p k) = absurd (not_plain p)
    first_inside {mid} (out_cell r e k t) =
        let free = stays_free n (at_cleared mid n) k in
        record { holds = r; is = e; gone = stays_free n free t; once = λ a. has_live t a free }

-- data at the head of a row
pub record Headed (y : Cells) (n : ℕ) (vs : List Value) (ts : Trees) (after : Cells) : Type 0 where
  pub holds : CellRecord
  pub fields : Trees
  pub others : Trees
  pub mid : Cells
  pub is : at y n ≡ Some holds
  pub out : Out (set y n None) (row holds) fields mid
  pub then : Out mid vs others after
  pub shape : ts ≡ more (built holds.constructor fields) others

pub headed : {y after : Cells} {n : ℕ} {vs : List Value} {ts : Trees} → Out y (Cell n ∷ vs) ts after → Headed y n vs ts after
headed (out_plain q o) = absurd (not_plain q)
headed (out_cell {mid = mid} {fields = fields} {ts = ts} r e k o) = record { holds = r; fields = fields; others = ts; mid = mid; is = e; out = k; then = o; shape = refl }
