-- What users of a stack need beside the contracts.
use Rattle.std.proofs.Common.{◌≡◌, ℕ, suc, ◌≤◌, List, ◌∷◌, ◌++◌, reverse, length, take, drop, Some, sym, ap, ◌∙◌, arith, length-take, drop_at}
use mathlib.Core.List.{reverse-reverse}
use lib.ListN.{length-reverse}
use Rattle.std.specs.List.{slice_get}
use Rattle.stack.specs.declared.Stack.{Stack}
use Rattle.stack.specs.Items.{items, tops, room_of, slice_of}
use Rattle.stack.proofs.Lists.{take_counted}

-- both ways of reading count the same
pub tops_length : {T : Type 0} → (s : Stack T) → length (tops s) ≡ length (items s)
tops_length s = length-reverse (items s)

-- no more is stacked than there is room for
pub tops_within : {T : Type 0} → (s : Stack T) → length (tops s) ≤ room_of s
tops_within s = simp (length-reverse, length-take) (omega arith)

-- either list gives the other
pub items_from_tops : {T : Type 0} → (s : Stack T) → reverse (tops s) ≡ items s
items_from_tops s = reverse-reverse (items s)

-- what was pushed is popped, and what lay below is left
pub pushed_popped : {T : Type 0} → (s t u : Stack T) (x y : T) → tops t ≡ x ∷ tops s → tops t ≡ y ∷ tops u → (y ≡ x) × (tops u ≡ tops s)
pushed_popped s t u x y p q = (cc, cc)

-- depth 0 is the top, and a push puts what lay below one deeper
pub top_pushed : {T : Type 0} → (s t : Stack T) (x : T) → tops t ≡ x ∷ tops s → slice_get (tops t) 0 ≡ Some x
top_pushed s t x p = ap (λ ts. slice_get ts 0) p

pub deeper_pushed : {T : Type 0} → (s t : Stack T) (x : T) (d : ℕ) → tops t ≡ x ∷ tops s → slice_get (tops t) (suc d) ≡ slice_get (tops s) d
deeper_pushed s t x d p = ap (λ ts. slice_get ts (suc d)) p

-- a cut by as many as lie above leaves what lies below
pub cut_above : {T : Type 0} → (s t : Stack T) (k : ℕ) (above below : List T) → tops s ≡ above ++ below → length above ≡ k → tops t ≡ drop k (tops s) → tops t ≡ below
cut_above s t k above below p e q = q ∙ ap (drop k) p ∙ drop_at above below k e

-- the slice that a lender gets back begins with what was stacked
pub items_of_slice : {T : Type 0} → (s : Stack T) (n : ℕ) (ys : List T) → n ≡ length (items s) → slice_of s ≡ ys → take n ys ≡ items s
items_of_slice s n ys e q = ap (take n) (sym q) ∙ sym (take_counted s.len (slice_of s) n e)
