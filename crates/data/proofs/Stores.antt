-- Laws of a store's cells that walks need.
use Rattle.std.proofs.Common.{◌≡◌, ℕ, suc, ◌<◌, ◌⊎◌, List, [], ◌∷◌, ◌++◌, length, set, is_some, Some, None, Option, sym, refl, ap, ◌∙◌, subst, inl, inr, ⊎_elim, arith}
use Rattle.std.proofs.lemmas.Bool.{true≢false, cases_eq}
use Rattle.std.proofs.lemmas.List.{set-get_or, set_comm}
use Rattle.cells.specs.declared.records.CellRecord.{CellRecord}
use Rattle.cells.specs.Meaning.{Cells, at}
use Rattle.cells.proofs.CellLaws.{live_within}
use Rattle.cells.proofs.Calls.{at_other, at_cleared}
use Rattle.data.specs.Standing.{Among, among_first, among_later, less}
use Rattle.data.specs.Copying.{Within}

-- a cell is not live and free
pub some_none : {r : CellRecord} {c : Option CellRecord} → c ≡ Some r → c ≡ None → ⊥
some_none a b = true≢false (ap is_some (sym a ∙ b))

pub within : (cs : Cells) (i : ℕ) (r : CellRecord) → at cs i ≡ Some r → i < length cs
within cs i r e = live_within cs i (ap is_some e)

-- where cell j is cleared, a cell is free or as it was
pub cleared_or_same : (cs : Cells) (i j : ℕ) → (at (set cs j None) i ≡ None) ⊎ (at (set cs j None) i ≡ at cs i)
cleared_or_same cs i j = ⊎_elim (λ s. inl (subst (λ n. at (set cs j None) n ≡ None) (sym s) (at_cleared cs j))) (λ d. inr (at_other cs j i None d)) (cases_eq i j)

pub set_back : (cs : Cells) (i : ℕ) (x : Option CellRecord) → at cs i ≡ x → set cs i x ≡ cs
set_back cs i x e = subst (λ y. set cs i y ≡ cs) e (set-get_or cs i None)

-- stores of one capacity with the same cells are the same
pub same_cells : (a b : Cells) → length a ≡ length b → ((i : ℕ) → at a i ≡ at b i) → a ≡ b
same_cells [] [] l h = refl
same_cells [] (y ∷ ys) l h = absurd (omega arith)
same_cells (x ∷ xs) [] l h = absurd (omega arith)
same_cells (x ∷ xs) (y ∷ ys) l h =
    let e : x ≡ y = h 0 in
    let es : xs ≡ ys = same_cells xs ys (omega arith) (λ i. h (suc i)) in
    cc

-- a store less some cells

pub less_live : (ns : List ℕ) (cs : Cells) (c : ℕ) (r : CellRecord) → at (less ns cs) c ≡ Some r → at cs c ≡ Some r
less_live [] cs c r e = e
less_live (n ∷ ns) cs c r e = less_live ns cs c r (⊎_elim (λ z. absurd (some_none e z)) (λ s. sym s ∙ e) (cleared_or_same (less ns cs) c n))

pub less_set : (ns : List ℕ) (cs : Cells) (c : ℕ) (r : CellRecord) (x : Option CellRecord) → at (less ns cs) c ≡ Some r → less ns (set cs c x) ≡ set (less ns cs) c x
less_set [] cs c r x e = refl
less_set (n ∷ ns) cs c r x e =
    let apart : c ≡ n → ⊥ = λ s. some_none e (subst (λ i. at (set (less ns cs) n None) i ≡ None) (sym s) (at_cleared (less ns cs) n)) in
    let below : at (less ns cs) c ≡ Some r = sym (at_other (less ns cs) n c None apart) ∙ e in
    ap (λ m. set m n None) (less_set ns cs c r x below) ∙ set_comm (less ns cs) c n x None apart

pub less_free : (ns : List ℕ) (cs : Cells) (c : ℕ) → at cs c ≡ None → at (less ns cs) c ≡ None
less_free [] cs c e = e
less_free (n ∷ ns) cs c e = ⊎_elim (λ z. z) (λ s. s ∙ less_free ns cs c e) (cleared_or_same (less ns cs) c n)

-- clearing a cell before or after others is the same
pub less_clear : (ns : List ℕ) (cs : Cells) (n : ℕ) → less ns (set cs n None) ≡ set (less ns cs) n None
less_clear [] cs n = refl
less_clear (m ∷ ns) cs n =
    ap (λ z. set z m None) (less_clear ns cs n)
    ∙ ⊎_elim (λ s. subst (λ i. set (set (less ns cs) n None) i None ≡ set (set (less ns cs) i None) n None) s refl) (λ d. set_comm (less ns cs) n m None None d) (cases_eq n m)

pub less_swap : (ms ns : List ℕ) (cs : Cells) → less ms (less ns cs) ≡ less ns (less ms cs)
less_swap [] ns cs = refl
less_swap (m ∷ ms) ns cs = ap (λ z. set z m None) (less_swap ms ns cs) ∙ sym (less_clear ns (less ms cs) m)

pub less_append : (ms ns : List ℕ) (cs : Cells) → less (ms ++ ns) cs ≡ less ms (less ns cs)
less_append [] ns cs = refl
less_append (m ∷ ms) ns cs = ap (λ z. set z m None) (less_append ms ns cs)

pub less_other_cell : (ns : List ℕ) (cs : Cells) (c : ℕ) (x : Option CellRecord) → (Among c ns → ⊥) → less ns (set cs c x) ≡ set (less ns cs) c x
less_other_cell [] cs c x d = refl
less_other_cell (n ∷ ns) cs c x d =
    ap (λ m. set m n None) (less_other_cell ns cs c x (λ a. d (among_later a))) ∙ set_comm (less ns cs) c n x None (λ s. d (among_first s))

pub kept_live : (a b : Cells) (i : ℕ) → Within a b → (at a i ≡ None → ⊥) → at b i ≡ at a i
kept_live a b i w d = by_cases (at a i) refl
  where
    by_cases : (c : Option CellRecord) → at a i ≡ c → at b i ≡ at a i
    by_cases None e = absurd (d e)
    by_cases (Some r) e = w i r e ∙ sym e
