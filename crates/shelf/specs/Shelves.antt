-- A shelf: numbers of cells given back, in sixteen places; a place without a cell has the number 65535, which is that of no cell.
use Rattle.std.specs.Prelude.{◌≡◌, ℕ, ◌≤◌, Bool, true, false, not, ◌&&◌, ◌||◌, List, [], ◌∷◌, length, None, Ok, Err, Result, ◌==◌, slice_set, refl}
use Rattle.std.proofs.Common.{◌∙◌}
use Rattle.std.proofs.lemmas.List.{length-set}
use Rattle.cells.specs.declared.refusals.StoreRefusal.{StoreRefusal}
use Rattle.cells.specs.Meaning.{Cells}

-- the cells below less those on the shelf
abbrev pub less : List ℕ → Cells → Cells
less [] cs = cs
less (k ∷ ks) cs = slice_set (less ks cs) k None

-- whether a number is on the shelf
abbrev pub among : List ℕ → ℕ → Bool
among [] i = false
among (k ∷ ks) i = k == i || among ks i

-- no cell is on the shelf twice
abbrev pub apart : List ℕ → Bool
apart [] = true
apart (k ∷ ks) = (k == 65535 || not (among ks k)) && apart ks

-- a cell handed out was on the shelf
abbrev pub FromShelf : List ℕ → Result ℕ StoreRefusal → Type 0
FromShelf ks (Ok i) = among ks i ≡ true
FromShelf ks (Err e) = ⊥

-- a shelf has the capacity of the store below
pub less_length : (ks : List ℕ) (cs : Cells) → length (less ks cs) ≡ length cs
less_length [] cs = refl
less_length (k ∷ ks) cs = length-set (less ks cs) k None ∙ less_length ks cs

-- and so at most 65535 cells
pub less_small : (ks : List ℕ) (cs : Cells) → length cs ≤ 65535 → length (less ks cs) ≤ 65535
less_small ks cs h = rw (less_length ks cs) h
