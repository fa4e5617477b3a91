-- Laws of a copy under way.
use Rattle.std.proofs.Common.{◌≡◌, ℕ, ◌+◌, ◌-◌, ◌<◌, ◌≤◌, false, List, [], ◌∷◌, ◌++◌, length, get_or, take, drop, set, is_ok, Some, None, Ok, Err, Option, Result, sym, refl, ap, ◌∙◌, subst, ⊎_elim, arith}
use Rattle.std.specs.Result.{MatchResult}
use Rattle.std.proofs.lemmas.Bool.{true≢false}
use Rattle.std.proofs.lemmas.List.{get_or-set_other, take-append-drop, set-set}
use Rattle.cells.specs.declared.values.Value.{Value}
use Rattle.cells.specs.declared.values.Value.TheVariants.{Cell}
use Rattle.cells.specs.declared.records.CellRecord.{CellRecord}
use Rattle.cells.specs.Values.{is_cell}
use Rattle.cells.specs.Records.{row, FieldPut}
use Rattle.cells.specs.Meaning.{Cells, at, count_live}
use Rattle.cells.proofs.CellLaws.{full_count}
use Rattle.cells.proofs.Calls.{at_other, at_put, at_cleared, taken_live, taken_count}
use Rattle.data.specs.declared.unfinished.Unfinished.{Unfinished}
use Rattle.data.specs.Trees.{Tree, Trees, built, none, more, size, sizes}
use Rattle.data.specs.Standing.{Among, among_first, among_later, less}
use Rattle.data.specs.Taking.{Out, out_none, out_plain, out_cell}
use Rattle.data.specs.Steps.{Links, links_end, links_on}
use Rattle.data.specs.Copying.{Within, NoCopy, CellCopied, CopiesCell, RowCopied, row_none, row_plain, row_data, FieldsCopied, copied_whole, copied_part, Turned, LeftBy, CopiesCells, Rooms}
use Rattle.data.specs.declared.refusals.WalkRefusal.{WalkRefusal}
use Rattle.data.specs.declared.refusals.WalkRefusal.TheVariants.{NoFreeCell, Stuck}
use Rattle.data.specs.Refusals.{Okay}
use Rattle.data.specs.Alike.{Respared, Kept}
use Rattle.data.specs.Reaching.{Reached, Untouched}
use Rattle.data.specs.Walks.{CopySays, Copies}
use Rattle.data.proofs.Spares.{respared_live}
use Rattle.data.proofs.Stores.{some_none, within, kept_live, set_back, less_live, less_clear, less_swap, less_append, less_free, less_other_cell}
use Rattle.data.proofs.Links.{links_done, links_first, links_free, links_other, links_live, links_once, links_count}
use Rattle.data.proofs.Outs.{not_plain, plain_size, join, tally, sizes_join, was, alike_row, parts, parts_at, headed, joined}
use Rattle.data.proofs.Keeping.{keeps_from_out, out_from_keeps, among_either, less_long, less_gone, less_other, cleared_within}
use Rattle.data.proofs.Walking.{roots, roots_append}
use Rattle.data.proofs.Rows.{row_end, row_all, row_back, row_put}

-- a row of fields being copied, the last first: those before i are still to be copied
pub record Fielding (entry : Cells) (old : CellRecord) (head : ℕ) (new : CellRecord) (current : Cells) (top i : ℕ) : Type 0 where
  pub used_is : new.used ≡ old.used
  pub heads : new.constructor ≡ old.constructor
  pub before : (j : ℕ) (d : Value) → j < i → get_or new.fields j d ≡ get_or old.fields j d
  pub ms : List ℕ
  pub copied : RowCopied entry head (drop i (row old)) (drop i (row new)) ms top current

pub fielding_start : (entry : Cells) (old : CellRecord) (head : ℕ) → Fielding entry old head old entry head old.used
fielding_start entry old head = record {
  used_is = refl;
  heads = refl;
  before = λ j d l. refl;
  ms = [];
  copied = rw (row_end old old.used (omega arith)) row_none;
}

pub fielding_plain : {entry current : Cells} {old new : CellRecord} {head top i : ℕ} (d : Value) → 0 < i → i ≤ old.used → is_cell (get_or new.fields (i - 1) d) ≡ false → Fielding entry old head new current top i → Fielding entry old head new current top (i - 1)
fielding_plain {entry} {current} {old} {new} {head} {top} {i} d p l plain f = record {
  used_is = f.used_is;
  heads = f.heads;
  before = λ j e h. f.before j e (omega arith);
  ms = f.ms;
  copied = rw (row_back old i d p l, row_back new i d p (omega (arith, f.used_is)), ← f.before (i - 1) d (omega arith)) (row_plain plain f.copied);
}

pub fielding_data : {entry current exit : Cells} {old new put : CellRecord} {head top i n m : ℕ} (d x : Value) → 0 < i → i ≤ old.used → get_or new.fields (i - 1) d ≡ Cell n → CellCopied current n top m exit → FieldPut new (i - 1) x put → x ≡ Cell m
    → Fielding entry old head new current top i → Fielding entry old head put exit m (i - 1)
fielding_data {entry} {current} {exit} {old} {new} {put} {head} {top} {i} {n} {m} d x p l is does placed₀ same f =
    let placed : FieldPut new (i - 1) (Cell m) put = rw same at placed₀ in
    record {
      used_is = placed.used_is ∙ f.used_is;
      heads = placed.constructor_is ∙ f.heads;
      before = λ j e h. ap (λ vs. get_or vs j e) placed.fields_are ∙ (get_or-set_other new.fields (i - 1) j (Cell m) e (omega arith) ∙ f.before j e (omega arith));
      ms = m ∷ f.ms;
      copied = rw (row_back old i d p l, ← f.before (i - 1) d (omega arith), is, row_put new put i (Cell m) placed p (omega (arith, f.used_is))) (row_data f.copied does);
    }

pub fielding_end : {entry current : Cells} {old new : CellRecord} {head top i : ℕ} → i ≤ 0 → Fielding entry old head new current top i → FieldsCopied entry old head new current (Ok top)
fielding_end {old = old} {new = new} {i = i} z f = copied_whole f.heads (rw (row_all old i z, row_all new i z) at f.copied)

-- a field that cannot be copied
pub fielding_stopped : {entry current exit : Cells} {old new : CellRecord} {head top i n : ℕ} (d : Value) → 0 < i → i ≤ old.used → get_or new.fields (i - 1) d ≡ Cell n → exit ≡ current → NoCopy current n
    → Fielding entry old head new current top i → FieldsCopied entry old head new exit (Err top)
fielding_stopped {entry} {old = old} {new = new} {head = head} {top = top} {i = i} {n = n} d p l is same why f =
    let whole : take (i - 1) (row old) ++ (Cell n ∷ drop i (row old)) ≡ row old = rw (← is, f.before (i - 1) d (omega arith), ← row_back old i d p l) (take-append-drop (i - 1) (row old)) in
    copied_part (take (i - 1) (row old)) n (drop i (row old)) (sym whole) (subst (λ z. RowCopied entry head (drop i (row old)) (drop i (row new)) f.ms top z) (sym same) f.copied) (rw same why)

-- a cell whose copy may be refused, with an error of another sort then

pub cell_copied : {E : Type 0} {entry exit : Cells} (n head : ℕ) {m : ℕ} (e : E) (q : Result ℕ WalkRefusal) (r : Result ℕ E) → MatchResult q (λ k. r ≡ Ok k) (λ _. r ≡ Err e) → r ≡ Ok m → CopiesCell entry n head q exit → CellCopied entry n head m exit
cell_copied {entry = entry} {exit = exit} n head {m} e (Ok k) r told is does =
    let same : k ≡ m = cc in
    subst (λ z. CellCopied entry n head z exit) same does
cell_copied n head e (Err w) r told is does = absurd (true≢false (sym (ap is_ok (sym told ∙ is))))

pub cell_refused : {E : Type 0} {entry exit : Cells} (n head : ℕ) (e : E) {f : E} (q : Result ℕ WalkRefusal) (r : Result ℕ E) → MatchResult q (λ k. r ≡ Ok k) (λ _. r ≡ Err e) → r ≡ Err f → CopiesCell entry n head q exit → (f ≡ e) × (exit ≡ entry) × NoCopy entry n
cell_refused n head e (Ok k) r told is does = absurd (true≢false (ap is_ok (sym told ∙ is)))
cell_refused n head e (Err w) r told is does = (cc, does.1, does.2)

pub not_cell : (v : Value) → ((n : ℕ) → v ≡ Cell n → ⊥) → is_cell v ≡ false
not_cell (Cell n) h = absurd (h n refl)
not_cell v h = refl

-- a row of copies, on any store

-- less the new cells the store is as it was
row_less : {cs : Cells} {head : ℕ} {vs ws : List Value} {ms : List ℕ} {top : ℕ} {mid : Cells} → RowCopied cs head vs ws ms top mid → less ms mid ≡ cs
row_less row_none = refl
row_less (row_plain p c) = row_less c
row_less {mid = mid} (row_data {m = m} {ms = ms} {mid = under} c k) =
    sym (less_clear ms mid m) ∙ (ap (less ms) (ap (λ z. set z m None) k.took.after ∙ (set-set under m (Some k.new) None ∙ set_back under m None k.took.free)) ∙ row_less c)

-- so they were free, and what was live is as it was
row_fresh : {cs : Cells} {head : ℕ} {vs ws : List Value} {ms : List ℕ} {top : ℕ} {mid : Cells} (i : ℕ) → RowCopied cs head vs ws ms top mid → Among i ms → at cs i ≡ None
row_fresh {ms = ms} {mid = mid} i c a = rw (← row_less c) (less_gone ms mid i a)

pub row_within : {cs : Cells} {head : ℕ} {vs ws : List Value} {ms : List ℕ} {top : ℕ} {mid : Cells} → RowCopied cs head vs ws ms top mid → Within cs mid
row_within {ms = ms} {mid = mid} c i r h = less_live ms mid i r (rw (row_less c) h)

row_long : {cs : Cells} {head : ℕ} {vs ws : List Value} {ms : List ℕ} {top : ℕ} {mid : Cells} → RowCopied cs head vs ws ms top mid → length mid ≡ length cs
row_long {ms = ms} {mid = mid} c = sym (less_long ms mid) ∙ ap length (row_less c)

row_count : {cs : Cells} {head : ℕ} {vs ws : List Value} {ms : List ℕ} {top : ℕ} {mid : Cells} → RowCopied cs head vs ws ms top mid → count_live mid ≡ count_live cs + length ms
row_count row_none = omega arith
row_count (row_plain p c) = row_count c
row_count (row_data c k) = omega (arith, taken_count k.took, row_count c)

-- they wait before those that waited
row_links : {cs : Cells} {head : ℕ} {vs ws : List Value} {ms : List ℕ} {top : ℕ} {mid : Cells} {ns : List ℕ} → length cs ≤ 65535 → Links cs head ns → RowCopied cs head vs ws ms top mid → Links mid top (ms ++ ns)
row_links small l row_none = l
row_links small l (row_plain p c) = row_links small l c
row_links {ns = ns} small l (row_data {m = m} {ms = ms} {mid = under} c k) =
    let behind = row_links small l c in
    let free = links_free m (Some k.new) k.took.free behind in
    links_on k.new (omega (arith, k.took.within, row_long c)) (taken_live k.took) (subst (λ z. Links _ z (ms ++ ns)) (sym k.link) (rw k.took.after free))

pub fields_within : {entry mid : Cells} {old new : CellRecord} {head : ℕ} {turn : Result ℕ ℕ} → FieldsCopied entry old head new mid turn → Within entry mid
fields_within (copied_whole heads c) = row_within c
fields_within (copied_part before n vs whole c why) = row_within c

-- where what is copied is a tree

-- the values stand for the trees in a part of the old store
pub record Reads (old : Cells) (vs : List Value) (ts : Trees) : Type 0 where
  pub part : Cells
  pub after : Cells
  pub inside : Within part old
  pub out : Out part vs ts after

-- the new cells ns wait for the trees: their fields still name data of the old store
pub data Drafts (old cs : Cells) : List ℕ → Trees → Type 0 where
  drafts_none : Drafts old cs [] none
  drafts_more : {n : ℕ} {ns : List ℕ} {fields ts : Trees} (r : CellRecord) → at cs n ≡ Some r → Reads old (row r) fields → Drafts old cs ns ts → Drafts old cs (n ∷ ns) (more (built r.constructor fields) ts)

drafts_within : {old a b : Cells} {ns : List ℕ} {ts : Trees} → Within a b → Drafts old a ns ts → Drafts old b ns ts
drafts_within w drafts_none = drafts_none
drafts_within w (drafts_more {n = n} r e k d) = drafts_more r (w n r e) k (drafts_within w d)

drafts_other : {old cs : Cells} {ns : List ℕ} {ts : Trees} (n : ℕ) (x : Option CellRecord) → (Among n ns → ⊥) → Drafts old cs ns ts → Drafts old (set cs n x) ns ts
drafts_other n x a drafts_none = drafts_none
drafts_other {cs = cs} n x a (drafts_more {n = m} r e k d) = drafts_more r (at_other cs n m x (λ s. a (among_first (sym s))) ∙ e) k (drafts_other n x (λ b. a (among_later b)) d)

drafts_join : {old cs : Cells} {ms ns : List ℕ} {us ts : Trees} → Drafts old cs ms us → Drafts old cs ns ts → Drafts old cs (ms ++ ns) (join us ts)
drafts_join drafts_none d = d
drafts_join (drafts_more r e k c) d = drafts_more r e k (drafts_join c d)

drafts_live : {old cs : Cells} {ns : List ℕ} {ts : Trees} {n : ℕ} → Drafts old cs ns ts → Among n ns → at cs n ≡ None → ⊥
drafts_live drafts_none a z = elim a [ ]
drafts_live {cs = cs} (drafts_more r e k d) (among_first s) z = some_none e (subst (λ j. at cs j ≡ None) s z)
drafts_live (drafts_more r e k d) (among_later a) z = drafts_live d a z

drafts_tally : {old cs : Cells} {ns : List ℕ} {ts : Trees} → Drafts old cs ns ts → tally ts ≡ length (roots ns)
drafts_tally drafts_none = refl
drafts_tally (drafts_more r e k d) = omega (arith, drafts_tally d)

drafts_size : {old cs : Cells} {ns : List ℕ} {ts : Trees} → Drafts old cs ns ts → length ns ≤ sizes ts
drafts_size drafts_none = omega arith
drafts_size (drafts_more r e k d) = omega (arith, drafts_size d)

-- a row of copies: once what waits is complete in any store, the copies stand there for the trees
record RowDrafts (old mid : Cells) (ws : List Value) (ms : List ℕ) (ts : Trees) : Type 0 where
  us : Trees
  drafts : Drafts old mid ms us
  builds : (y after : Cells) → Out y (roots ms) us after → Out y ws ts after
  counts : sizes us ≡ sizes ts

-- data before others, which stand for other trees
front : {y z : Cells} {m c : ℕ} {xs ws : List Value} {fields us ts : Trees} → Out y (Cell m ∷ xs) (more (built c fields) us) z → ((mid : Cells) → Out mid xs us z → Out mid ws ts z) → Out y (Cell m ∷ ws) (more (built c fields) ts) z
front (out_plain p o) f = absurd (not_plain p)
front (out_cell {mid = mid} r e k o) f = out_cell r e k (f mid o)

row_drafts : (old : Cells) {cs : Cells} {head : ℕ} (part after : Cells) {vs ws : List Value} {ms : List ℕ} {top : ℕ} {mid : Cells} {ts : Trees} → Within part old → Within old cs → RowCopied cs head vs ws ms top mid → Out part vs ts after → RowDrafts old mid ws ms ts
row_drafts old part after inside kept row_none out_none = record { us = none; drafts = drafts_none; builds = λ y z o. o; counts = refl }
row_drafts old part after inside kept (row_plain p c) (out_cell r e k o) = absurd (true≢false p)
row_drafts old part after inside kept (row_plain p c) (out_plain q o) =
    let d = row_drafts old part after inside kept c o in
    record { us = d.us; drafts = d.drafts; builds = λ y z b. out_plain q (d.builds y z b); counts = omega (arith, d.counts, plain_size q) }
row_drafts old part after inside kept (row_data c k) (out_plain q o) = absurd (not_plain q)
row_drafts old part after inside kept (row_data {m = m} {vs = vs} {ws = ws} {ms = ms} {mid = under} {exit = exit} c k) (out_cell {mid = mid} {n = n} {fields = fields} {ts = ts} r e i o) =
    let d = row_drafts old mid after (λ j q h. inside j q (cleared_within part n j q (was j q h i))) kept c o in
    let here : at under n ≡ Some r = row_within c n r (kept n r (inside n r e)) in
    let same : k.from ≡ r = let z = k.source in cc in
    let rows : row k.new ≡ row r = alike_row k.alike ∙ ap row same in
    let heads : k.new.constructor ≡ r.constructor = k.alike.constructor_is ∙ ap (λ (z : CellRecord). z.constructor) same in
    let fresh : Drafts old exit ms d.us = subst (λ z. Drafts old z ms d.us) (sym k.took.after) (drafts_other m (Some k.new) (λ a. drafts_live d.drafts a k.took.free) d.drafts) in
    record {
      us = more (built k.new.constructor fields) d.us;
      drafts = drafts_more k.new (taken_live k.took) (record { part = set part n None; after = mid; inside = λ j q h. inside j q (cleared_within part n j q h); out = subst (λ z. Out (set part n None) z fields mid) (sym rows) i }) fresh;
      builds = λ y z b. subst (λ h. Out y (Cell m ∷ ws) (more (built h fields) ts) z) heads (front b (λ x. d.builds x z));
      counts = omega (arith, d.counts);
    }

-- a copy under way on any store: the new cells are those that wait and those that are finished, and less them the store is
-- as it was
pub record Parts (old cs : Cells) (waiting finished count : ℕ) : Type 0 where
  pub ns : List ℕ
  pub ds : List ℕ
  pub wait : Links cs waiting ns
  pub done : Links (less ns cs) finished ds
  pub rest : less ds (less ns cs) ≡ old
  pub many : length ds ≡ count

-- one turn, whether it copied all fields or not: the cell n, which waited first, is finished; the new cells ms wait before the
-- others
record Turning (old cs exit : Cells) (n top : ℕ) (ns others ds ms : List ℕ) (put : CellRecord) : Type 0 where
  shape : ns ≡ n ∷ others
  wait : Links exit top (ms ++ others)
  done : Links (less (ms ++ others) exit) n (n ∷ ds)
  rest : less (n ∷ ds) (less (ms ++ others) exit) ≡ old
  new : Among n ds → ⊥
  apart : Among n (ms ++ others) → ⊥

turning : {old cs mid exit : Cells} {n finished top count : ℕ} {vs ws : List Value} {ms : List ℕ} (r put : CellRecord) → length cs ≤ 65535 → (n ≡ 65535 → ⊥) → at cs n ≡ Some r → RowCopied cs r.spare vs ws ms top mid → exit ≡ set mid n (Some put) → put.spare ≡ finished
    → (p : Parts old cs n finished count) → (others : List ℕ) × Turning old cs exit n top p.ns others p.ds ms put
turning {old} {cs} {mid} {exit} {n} {finished} {top} {ms = ms} r put small waits here c e link p =
    let f = links_first waits p.wait in
    let ns = f.others in
    let ds = p.ds in
    let same : f.holds ≡ r = let z = f.is in cc in
    let behind : Links cs r.spare ns = subst (λ (z : CellRecord). Links cs z.spare ns) same f.behind in
    let once : Among n ns → ⊥ = links_once (subst (Links cs n) f.shape p.wait) in
    let done : Links (less (n ∷ ns) cs) finished ds = subst (λ ns. Links (less ns cs) finished ds) f.shape p.done in
    let rest : less ds (less (n ∷ ns) cs) ≡ old = subst (λ ns. less ds (less ns cs) ≡ old) f.shape p.rest in
    let apart : Among n (ms ++ ns) → ⊥ = λ a. ⊎_elim (λ b. some_none here (row_fresh n c b)) once (among_either ms ns a) in
    let under = less ns cs in
    let left : less (ms ++ ns) mid ≡ under = less_append ms ns mid ∙ (less_swap ms ns mid ∙ ap (less ns) (row_less c)) in
    let now : less (ms ++ ns) exit ≡ set under n (Some put) = ap (less (ms ++ ns)) e ∙ (less_other_cell (ms ++ ns) mid n (Some put) apart ∙ ap (λ z. set z n (Some put)) left) in
    let gone : at (set under n None) n ≡ None = at_cleared under n in
    let back : set (set under n (Some put)) n None ≡ set under n None = set-set under n (Some put) None in
    let again : set (set under n None) n (Some put) ≡ set under n (Some put) = set-set under n None (Some put) in
    let inside : n < length under = omega (arith, within cs n r here, less_long ns cs) in (
      ns,
      record {
        shape = f.shape;
        wait = rw e (links_other n (Some put) apart (row_links small behind c));
        done = rw now (links_on put f.small (at_put under n (Some put) inside) (subst (λ z. Links z put.spare ds) again (links_free n (Some put) gone (subst (λ z. Links (set under n None) z ds) (sym link) done))));
        rest = ap (λ z. less (n ∷ ds) z) now ∙ (sym (less_clear ds (set under n (Some put)) n) ∙ (ap (less ds) back ∙ rest));
        new = λ a. links_live done a gone;
        apart = apart;
      },
    )

pub parts_within : {old cs : Cells} {waiting finished count : ℕ} → Parts old cs waiting finished count → Within old cs
parts_within {cs = cs} p i r h = less_live p.ns cs i r (less_live p.ds (less p.ns cs) i r (rw p.rest h))

pub parts_count : {old cs : Cells} {waiting finished count : ℕ} (p : Parts old cs waiting finished count) → count_live cs ≡ count_live old + length p.ns + count
parts_count p = omega (arith, links_count p.wait, links_count p.done, ap count_live p.rest, p.many)

pub parts_long : {old cs : Cells} {waiting finished count : ℕ} → Parts old cs waiting finished count → length cs ≡ length old
parts_long {cs = cs} p = sym (less_long p.ns cs) ∙ (sym (less_long p.ds (less p.ns cs)) ∙ ap length p.rest)

-- the new cells, as trees with holes: once what waits is complete in any store that has the finished cells, the root stands
-- there for the trees
pub record Drafted (old cs : Cells) (root : ℕ) (ts : Trees) (ns ds : List ℕ) (count : ℕ) : Type 0 where
  pub us : Trees
  pub drafts : Drafts old cs ns us
  pub builds : (x after : Cells) → ((i : ℕ) → Among i ds → at x i ≡ at cs i) → Out (less ds x) (roots ns) us after → Out x (Cell root ∷ []) ts after
  pub counts : count + sizes us ≡ sizes ts

-- the first of those that wait
record FirstDraft (old : Cells) (r : CellRecord) (cs : Cells) (ns : List ℕ) (us : Trees) : Type 0 where
  fields : Trees
  others : Trees
  reads : Reads old (row r) fields
  behind : Drafts old cs ns others
  shape : us ≡ more (built r.constructor fields) others

first_draft : {old cs : Cells} {n : ℕ} {ns : List ℕ} {us : Trees} (r : CellRecord) → at cs n ≡ Some r → Drafts old cs (n ∷ ns) us → FirstDraft old r cs ns us
first_draft {old} {cs} {n} {ns} r here (drafts_more {fields = fields} {ts = ts} q e k d) =
    let same : q ≡ r = cc in
    record { fields = fields; others = ts; reads = subst (λ (z : CellRecord). Reads old (row z) fields) same k; behind = d; shape = ap (λ (z : CellRecord). more (built z.constructor fields) ts) same }

drafted_turn : {old cs mid exit : Cells} {root n top count : ℕ} {ts : Trees} {ns ds ms : List ℕ} {ws : List Value} (r put : CellRecord) → at cs n ≡ Some r → RowCopied cs r.spare (row r) ws ms top mid → exit ≡ set mid n (Some put)
    → put.constructor ≡ r.constructor → row put ≡ ws → Within old cs → ((i : ℕ) → Among i ds → at cs i ≡ None → ⊥) → (Among n ds → ⊥) → (Among n (ms ++ ns) → ⊥) → Drafted old cs root ts (n ∷ ns) ds count
    → Drafted old exit root ts (ms ++ ns) (n ∷ ds) (count + 1)
drafted_turn {old} {cs} {mid} {exit} {root} {n} {ts = ts} {ns} {ds} {ms} {ws} r put here c e heads rows kept live new apart d =
    let f = first_draft r here d.drafts in
    let w = row_drafts old f.reads.part f.reads.after f.reads.inside kept c f.reads.out in
    let put_there : at exit n ≡ Some put = ap (λ z. at z n) e ∙ at_put mid n (Some put) (within mid n r (row_within c n r here)) in
    let still : (i : ℕ) → Among i ds → at exit i ≡ at cs i = λ i a. ap (λ z. at z i) e ∙ (at_other mid n i (Some put) (λ s. new (subst (λ j. Among j ds) s a)) ∙ kept_live cs mid i (row_within c) (live i a)) in
    record {
      us = join w.us f.others;
      drafts = subst (λ z. Drafts old z (ms ++ ns) (join w.us f.others)) (sym e) (drafts_other n (Some put) apart (drafts_join w.drafts (drafts_within (row_within c) f.behind)));
      builds = λ x z same o.
          let x' = less ds x in
          let two = parts_at (roots ms) (roots ns) w.us f.others (drafts_tally w.drafts) (subst (λ vs. Out (set x' n None) vs (join w.us f.others) z) (roots_append ms ns) o) in
          let there : at x' n ≡ Some put = less_other ds x n new ∙ (same n (among_first refl) ∙ put_there) in
          let whole : Out x' (Cell n ∷ roots ns) (more (built put.constructor f.fields) f.others) z = out_cell put there (rw rows (w.builds (set x' n None) two.mid two.first)) two.second in
          d.builds x z (λ i a. same i (among_later a) ∙ still i a) (subst (λ us. Out x' (Cell n ∷ roots ns) us z) (sym f.shape) (subst (λ h. Out x' (Cell n ∷ roots ns) (more (built h f.fields) f.others) z) heads whole));
      counts = omega (arith, d.counts, ap sizes f.shape, w.counts, sizes_join w.us f.others);
    }

-- a copy of the cell number that began in the store old; root is its copy
pub record Copying (old : Cells) (number root : ℕ) (cs : Cells) (waiting finished count : ℕ) : Type 0 where
  pub parts : Parts old cs waiting finished count
  pub trees : (ts : Trees) (m₀ : Cells) → Out old (Cell number ∷ []) ts m₀ → Drafted old cs root ts parts.ns parts.ds count

pub copying_start : {old cs : Cells} {number root : ℕ} → length old ≤ 65535 → CellCopied old number 65535 root cs → Copying old number root cs root 65535 0
copying_start {old} {cs} {number} {root} small k =
    let c : RowCopied old 65535 (Cell number ∷ []) (Cell root ∷ []) (root ∷ []) root cs = row_data row_none k in
    record {
      parts = record { ns = root ∷ []; ds = []; wait = row_links small (links_end refl) c; done = links_end refl; rest = row_less c; many = refl };
      trees = λ ts m₀ o.
          let w = row_drafts old old m₀ (λ i r h. h) (λ i r h. h) c o in
          record { us = w.us; drafts = w.drafts; builds = λ x z same b. w.builds x z b; counts = omega (arith, w.counts) };
    }

abbrev after_turn : {old cs exit : Cells} {n finished top count : ℕ} {others ms : List ℕ} {put : CellRecord} (p : Parts old cs n finished count) → Turning old cs exit n top p.ns others p.ds ms put → Parts old exit top n (count + 1)
after_turn {n = n} {others = others} {ms = ms} p t = record { ns = ms ++ others; ds = n ∷ p.ds; wait = t.wait; done = t.done; rest = t.rest; many = omega (arith, p.many) }

pub copying_turn : {old cs exit : Cells} {number root n finished top count : ℕ} → length cs ≤ 65535 → (n ≡ 65535 → ⊥) → Turned cs n finished (Ok top) exit → Copying old number root cs n finished count → Copying old number root exit top n (count + 1)
copying_turn {old} {cs} {exit} {number} {root} {n} {finished} {top} {count} small waits t g = turn t.fields
  where
    turn : FieldsCopied cs t.old t.old.spare t.new t.mid (Ok top) → Copying old number root exit top n (count + 1)
    turn (copied_whole {ms = ms} heads c) =
        let m = turning t.old t.put small waits t.is c t.after t.link g.parts in
        record {
          parts = after_turn g.parts m.1;
          trees = λ ts m₀ o.
              let d = g.trees ts m₀ o in
              drafted_turn t.old t.put t.is c t.after (t.alike.constructor_is ∙ heads) (alike_row t.alike) (parts_within g.parts) (λ i a z. links_live g.parts.done a (less_free g.parts.ns cs i z)) m.1.new m.1.apart
              (subst (λ ns. Drafted old cs root ts ns g.parts.ds count) m.1.shape d);
        }

-- a turn's answer, told with both lists where it came to a field that cannot be copied
pub data TurnTold (waiting : ℕ) : Result ℕ ℕ → Result ℕ Unfinished → Type 0 where
  turn_ok : {top : ℕ} → TurnTold waiting (Ok top) (Ok top)
  turn_err : {top : ℕ} → TurnTold waiting (Err top) (Err (record { waiting = top; finished = waiting }))

pub turn_told : (waiting : ℕ) (q : Result ℕ ℕ) (r : Result ℕ Unfinished) → MatchResult q (λ top. r ≡ Ok top) (λ top. r ≡ Err (record { waiting = top; finished = waiting })) → TurnTold waiting q r
turn_told waiting (Ok top) r e = rw e turn_ok
turn_told waiting (Err top) r e = rw e turn_err

pub turn_whole : {waiting top : ℕ} {q : Result ℕ ℕ} {r : Result ℕ Unfinished} → TurnTold waiting q r → r ≡ Ok top → q ≡ Ok top
turn_whole turn_ok e = cc
turn_whole turn_err e = absurd (true≢false (sym (ap is_ok e)))

pub turn_stopped : {waiting : ℕ} {u : Unfinished} {q : Result ℕ ℕ} {r : Result ℕ Unfinished} → TurnTold waiting q r → r ≡ Err u → (q ≡ Err u.waiting) × (u.finished ≡ waiting)
turn_stopped turn_ok e = absurd (true≢false (ap is_ok e))
turn_stopped turn_err e = (cc, cc)

-- a turn that came to a field that cannot be copied
pub copying_stopped : {old cs exit : Cells} {number root n finished top count : ℕ} → length cs ≤ 65535 → (n ≡ 65535 → ⊥) → Turned cs n finished (Err top) exit → Copying old number root cs n finished count → Parts old exit top n (count + 1)
copying_stopped {old} {cs} {exit} {number} {root} {n} {finished} {top} {count} small waits t g = turn t.fields
  where
    turn : FieldsCopied cs t.old t.old.spare t.new t.mid (Err top) → Parts old exit top n (count + 1)
    turn (copied_part before m vs whole c why) = after_turn g.parts (turning t.old t.put small waits t.is c t.after t.link g.parts).1

-- that does not happen where it is a tree and enough cells are free
pub never_stopped : {old cs exit : Cells} {number root n finished top count : ℕ} (ts : Trees) (m₀ : Cells) → length cs ≤ 65535 → (n ≡ 65535 → ⊥) → Turned cs n finished (Err top) exit → Copying old number root cs n finished count
    → Out old (Cell number ∷ []) ts m₀ → count_live old + sizes ts ≤ length old → ⊥
never_stopped {old} {cs} {exit} {number} {root} {n} {finished} {top} {count} ts m₀ small waits t g o room = turn t.fields
  where
    turn : FieldsCopied cs t.old t.old.spare t.new t.mid (Err top) → ⊥
    turn (copied_part before m vs whole c why) =
        let w = (turning t.old t.put small waits t.is c t.after t.link g.parts).1 in
        let d = g.trees ts m₀ o in
        let f = first_draft t.old t.is (subst (λ ns. Drafts old cs ns d.us) w.shape d.drafts) in
        let p = parts before (Cell m ∷ vs) (subst (λ z. Out f.reads.part z f.fields f.reads.after) whole f.reads.out) in
        let h = headed p.second in
        let kept = parts_within g.parts in
        let live : at t.mid m ≡ Some h.holds = row_within c m h.holds (kept m h.holds (f.reads.inside m h.holds (was m h.holds h.is p.first))) in
        let after_the_first : Within h.mid old = λ i r e. f.reads.inside i r (was i r (cleared_within p.mid m i r (was i r e h.out)) p.first) in
        let rest = row_drafts old h.mid f.reads.after after_the_first kept c h.then in
        ⊎_elim (λ dead. some_none live dead)
        (λ full. omega (arith, full_count t.mid full, row_count c, row_long c, parts_count g.parts, parts_long g.parts, ap length w.shape, room, d.counts, ap sizes f.shape, ap sizes p.whole, sizes_join p.left p.right, ap sizes h.shape, rest.counts, drafts_size {ts = rest.us} rest.drafts, drafts_size {ts = f.others} f.behind))
        why

-- something waits only while the tree is not whole
pub copying_open : {old cs : Cells} {number root n finished count : ℕ} (ts : Trees) (m₀ : Cells) → (n ≡ 65535 → ⊥) → Copying old number root cs n finished count → Out old (Cell number ∷ []) ts m₀ → count < sizes ts
copying_open ts m₀ waits g o =
    let d = g.trees ts m₀ o in
    let f = links_first waits g.parts.wait in
    omega (arith, d.counts, drafts_size d.drafts, ap length f.shape)

-- nothing waits: the copy is whole
pub copying_end : {old cs : Cells} {number root n finished count : ℕ} (ts : Trees) (m₀ : Cells) → n ≡ 65535 → Copying old number root cs n finished count → Out old (Cell number ∷ []) ts m₀ → Out cs (Cell root ∷ []) ts old
copying_end {old} {cs} ts m₀ e g o =
    let d = g.trees ts m₀ o in
    let none_waits = links_done e g.parts.wait in
    let back : less g.parts.ds cs ≡ old = ap (λ ns. less g.parts.ds (less ns cs)) (sym none_waits) ∙ g.parts.rest in
    let nothing : d.us ≡ none = no_drafts (subst (λ ns. Drafts old cs ns d.us) none_waits d.drafts) in
    d.builds cs old (λ i a. refl) (subst (λ ns. Out (less g.parts.ds cs) (roots ns) d.us old) (sym none_waits) (subst (λ us. Out (less g.parts.ds cs) [] us old) (sym nothing) (subst (λ z. Out z [] none old) (sym back) out_none)))
  where
    no_drafts : {us : Trees} → Drafts old cs [] us → us ≡ none
    no_drafts drafts_none = refl

err_same : {a b : Unfinished} → ◌≡◌ {A = Result Value Unfinished} (Err a) (Err b) → a ≡ b
err_same e = cc

-- a copy that cannot go on
left_by : {entry exit : Cells} {u : Unfinished} {waiting finished count : ℕ} → Parts entry exit waiting finished count → u.waiting ≡ waiting → u.finished ≡ finished → LeftBy u entry exit
left_by {entry} {exit} p waits ends = record { ns = p.ns; ds = p.ds; waiting = rw waits p.wait; finished = rw ends p.done; rest = p.rest }

pub copies_refused : {entry exit : Cells} {v : Value} {u : Unfinished} {waiting finished count : ℕ} → Parts entry exit waiting finished count → u.waiting ≡ waiting → u.finished ≡ finished
    → ((ts : Trees) (m₀ : Cells) → Out entry (v ∷ []) ts m₀ → count_live entry + sizes ts ≤ length entry → ⊥) → CopiesCells entry v (Err u) exit
copies_refused {entry} {exit} p waits ends never = record {
  long = parts_long p;
  keeps = parts_within p;
  left = λ e. subst (λ z. LeftBy z entry exit) (err_same e) (left_by p waits ends);
  copies = λ ts m₀ o room. absurd (never ts m₀ o room);
}

-- nothing is new at the start
pub nothing_new : (entry : Cells) → Parts entry entry 65535 65535 0
nothing_new entry = record { ns = []; ds = []; wait = links_end refl; done = links_end refl; rest = refl; many = refl }

pub root_copied : {entry : Cells} {n : ℕ} (ts : Trees) (m₀ : Cells) → NoCopy entry n → Out entry (Cell n ∷ []) ts m₀ → count_live entry + sizes ts ≤ length entry → ⊥
root_copied {entry} ts m₀ why o room =
    let h = headed o in
    ⊎_elim (λ dead. some_none h.is dead) (λ full. omega (arith, full_count entry full, room, ap sizes h.shape)) why

-- a copy that came to its end
pub copies_whole : {old cs : Cells} {number root n finished count : ℕ} (w : Value) → w ≡ Cell root → n ≡ 65535 → Copying old number root cs n finished count → CopiesCells old (Cell number) (Ok w) cs
copies_whole w same e g = record {
  long = parts_long g.parts;
  keeps = parts_within g.parts;
  left = λ q. absurd (true≢false (ap is_ok q));
  copies = λ ts m₀ o room. rw same (copying_end ts m₀ e g o);
}

-- a plain value is its own copy
plain_again : {entry m₀ : Cells} {v : Value} {ts : Trees} → is_cell v ≡ false → Out entry (v ∷ []) ts m₀ → Out entry (v ∷ []) ts entry
plain_again p (out_plain q out_none) = out_plain q out_none
plain_again p (out_cell r e k o) = absurd (true≢false p)

pub copies_plain : {entry : Cells} {v : Value} → is_cell v ≡ false → CopiesCells entry v (Ok v) entry
copies_plain p = record {
  long = refl;
  keeps = λ i q h. h;
  left = λ q. absurd (true≢false (ap is_ok q));
  copies = λ ts m₀ o room. plain_again p o;
}

-- the records of before, and the cells that cannot be reached, after a count and a copy
pub copy_kept : {entry mid exit : Cells} → Respared entry mid → Within mid exit → Kept entry exit
copy_kept same w = record { each = λ i r h. let q = respared_live same i r h in (q.0, w i q.0 q.1, q.2) }

pub copy_far : {entry mid : Cells} {v : Value} (exit : Cells) → Untouched entry v mid → Within mid exit → (i : ℕ) (q : CellRecord) → at entry i ≡ Some q → (Reached entry v i → ⊥) → at exit i ≡ Some q
copy_far exit u w i q h d = w i q (u.each i d ∙ h)

-- a copy's answer told without its lists
pub data Told : Result Value Unfinished → Result Value WalkRefusal → Type 0 where
  told_ok : {w : Value} → Told (Ok w) (Ok w)
  told_err : {u : Unfinished} → Told (Err u) (Err Stuck)

pub without_list : (q : Result Value Unfinished) (r : Result Value WalkRefusal) → MatchResult q (λ w. r ≡ Ok w) (λ u. r ≡ Err Stuck) → Told q r
without_list (Ok w) r e = rw e told_ok
without_list (Err u) r e = rw e told_err

pub stuck_only : {q : Result Value Unfinished} {r : Result Value WalkRefusal} → Told q r → r ≡ Err NoFreeCell → ⊥
stuck_only told_ok e = absurd (cc)
stuck_only told_err e = absurd (cc)

-- the copy beside the old value
pub copy_says : (entry mid exit m₀ : Cells) (v : Value) (t : Tree) (q : Result Value Unfinished) (r : Result Value WalkRefusal) → Told q r → Okay q (λ w. Out exit (w ∷ []) (more t none) mid) → Out mid (v ∷ []) (more t none) m₀ → Respared entry mid
    → count_live entry + size t ≤ length entry → CopySays entry v t m₀ r exit
copy_says entry mid exit m₀ v t q r (told_ok {w = w}) o b same enough = record {
  room = enough;
  both = keeps_from_out m₀ exit (w ∷ v ∷ []) (more t (more t none)) (joined o b);
}
copy_says entry mid exit m₀ v t q r told_err o b same enough = absurd o

-- a copy that was refused before it began
pub room_lacking : {U : Type 0} {entry mid : Cells} {v : Value} {e : WalkRefusal} → Rooms {U = U} entry v (Err e) mid → Copies entry v (Err e) mid
room_lacking {entry} room = record {
  long = room.long;
  refused = λ q. room.same;
  kept = copy_kept room.same (λ i q h. h);
  far = copy_far _ room.far (λ i q h. h);
  copies = λ t m₀ k. let z = room.tells t m₀ k in record { number = z.0.0; short = z.0.1; still = z.1; same = room.same };
}

-- there is room, and what was copied says the rest
pub room_used : {U : Type 0} {entry mid exit : Cells} {v : Value} {u : U} {q : Result Value Unfinished} {r : Result Value WalkRefusal} → Rooms entry v (Ok u) mid → length exit ≡ length mid → Within mid exit → Told q r
    → ((ts : Trees) (m₀ : Cells) → Out mid (v ∷ []) ts m₀ → count_live mid + sizes ts ≤ length mid → Okay q (λ w. Out exit (w ∷ []) ts mid)) → Copies entry v r exit
room_used {entry} {mid} {exit} {v} room long keeps told does = record {
  long = long ∙ room.long;
  refused = λ e. absurd (stuck_only told e);
  kept = copy_kept room.same keeps;
  far = copy_far _ room.far keeps;
  copies = λ t m₀ k.
      let z = room.tells t m₀ k in
      let o = out_from_keeps m₀ mid _ _ z.1 in
      copy_says entry mid exit m₀ v t _ _ told (does (more t none) m₀ o (omega (arith, z.0, room.long, room.live))) o room.same z.0;
}
