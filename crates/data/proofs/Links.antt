-- Lists of cells threaded through spare numbers: the one argument that the walks share.
use Rattle.std.proofs.Common.{◌≡◌, ℕ, ◌+◌, ◌<◌, ◌≤◌, List, [], ◌∷◌, length, set, Some, None, Option, sym, refl, ap, ◌∙◌, subst, arith}
use Rattle.cells.specs.declared.records.CellRecord.{CellRecord}
use Rattle.cells.specs.Meaning.{Cells, at, one, count_live}
use Rattle.cells.proofs.CellLaws.{count_set}
use Rattle.cells.proofs.Calls.{at_other}
use Rattle.data.specs.Standing.{Among, among_first, among_later, less}
use Rattle.data.specs.Steps.{Links, links_end, links_on}
use Rattle.data.proofs.Stores.{some_none, within}
use Rattle.data.proofs.Keeping.{less_other}

-- the list is empty exactly where the head is the number of no cell
pub links_done : {cs : Cells} {head : ℕ} {ns : List ℕ} → head ≡ 65535 → Links cs head ns → ns ≡ []
links_done e (links_end h) = refl
links_done e (links_on r l h k) = absurd (omega arith)

-- the first cell, and the list behind it
pub record First (cs : Cells) (head : ℕ) (ns : List ℕ) : Type 0 where
  pub holds : CellRecord
  pub others : List ℕ
  pub shape : ns ≡ head ∷ others
  pub small : head < 65535
  pub is : at cs head ≡ Some holds
  pub behind : Links cs holds.spare others

pub links_first : {cs : Cells} {head : ℕ} {ns : List ℕ} → (head ≡ 65535 → ⊥) → Links cs head ns → First cs head ns
links_first d (links_end h) = absurd (d h)
links_first d (links_on {ns = ns} r l h k) = record { holds = r; others = ns; shape = refl; small = l; is = h; behind = k }

-- each of its cells is live
pub links_live : {cs : Cells} {head i : ℕ} {ns : List ℕ} → Links cs head ns → Among i ns → at cs i ≡ None → ⊥
links_live (links_end e) a z = elim a [ ]
links_live {cs} (links_on r l h k) (among_first s) z = some_none h (subst (λ j. at cs j ≡ None) s z)
links_live (links_on r l h k) (among_later a) z = links_live k a z

-- it is the only one from its head
pub links_same : {cs : Cells} {head : ℕ} {ns ms : List ℕ} → Links cs head ns → Links cs head ms → ns ≡ ms
links_same (links_end e) (links_end h) = refl
links_same (links_end e) (links_on r l h k) = absurd (omega arith)
links_same (links_on r l h k) (links_end e) = absurd (omega arith)
links_same {cs} {head} (links_on r l h k) (links_on {ns = ms} q m i j) =
    let same : q ≡ r = cc in
    ap (λ z. head ∷ z) (links_same k (subst (λ (x : CellRecord). Links cs x.spare ms) same j))

-- from one of its cells on it is a list, too
record Tail (cs : Cells) (i : ℕ) (ns : List ℕ) : Type 0 where
  rest : List ℕ
  links : Links cs i rest
  short : length rest ≤ length ns

tail_from : {cs : Cells} {head i : ℕ} {ns : List ℕ} → Links cs head ns → Among i ns → Tail cs i ns
tail_from (links_end e) a = elim a [ ]
tail_from {cs} (links_on {head = head} {ns = ns} r l h k) (among_first s) = record { rest = head ∷ ns; links = subst (λ j. Links cs j (head ∷ ns)) (sym s) (links_on r l h k); short = omega arith }
tail_from (links_on r l h k) (among_later a) = let t = tail_from k a in record { rest = t.rest; links = t.links; short = omega (arith, t.short) }

-- its first cell does not come again
pub links_once : {cs : Cells} {head n : ℕ} {ns : List ℕ} → Links cs head (n ∷ ns) → Among n ns → ⊥
links_once (links_on r l h k) a =
    let t = tail_from k a in
    omega (arith, t.short, ap length (links_same t.links (links_on r l h k)))

-- a change of another cell leaves it
pub links_other : {cs : Cells} {head : ℕ} {ns : List ℕ} (n : ℕ) (x : Option CellRecord) → (Among n ns → ⊥) → Links cs head ns → Links (set cs n x) head ns
links_other n x d (links_end e) = links_end e
links_other {cs} {head} n x d (links_on r l h k) =
    links_on r l (at_other cs n head x (λ s. d (among_first (sym s))) ∙ h) (links_other n x (λ a. d (among_later a)) k)

-- a free cell is not on it, and may hold anything
pub links_free : {cs : Cells} {head : ℕ} {ns : List ℕ} (n : ℕ) (x : Option CellRecord) → at cs n ≡ None → Links cs head ns → Links (set cs n x) head ns
links_free n x z k = links_other n x (λ a. links_live k a z) k

-- less its cells as many fewer are live
pub links_count : {cs : Cells} {head : ℕ} {ns : List ℕ} → Links cs head ns → count_live cs ≡ count_live (less ns cs) + length ns
links_count (links_end e) = omega arith
links_count {cs} (links_on {head = head} {ns = ns} r l h k) =
    let here : at (less ns cs) head ≡ Some r = less_other ns cs head (links_once (links_on r l h k)) ∙ h in
    omega (arith, links_count k, count_set (less ns cs) head None (within (less ns cs) head r here), ap one here)
