-- Entries leave one by one.
use Rattle.std.proofs.Common.{◌≡◌, ℕ, suc, ◌+◌, ◌<◌, List, [], ◌∷◌, ◌++◌, length, get_or, take, drop, min, sym, refl, ap, ◌∙◌, arith}
use Rattle.std.proofs.Math.Seq.{drop-cons}
use Rattle.std.proofs.lemmas.List.{take_more, drop-drop, length-append}
use Rattle.cells.specs.Meaning.{Cells}
use Rattle.cells.specs.declared.values.Value.{Value}
use Rattle.data.proofs.Moves.{pull}
use Rattle.data.proofs.Outs.{join, tally, sizes_join, out_tally}
use Rattle.data.specs.Taking.{Out}
use Rattle.data.specs.Trees.{Trees, none, more, size, sizes}
use Rattle.machine.proofs.Cells.{row_append}
use Rattle.machine.specs.Holding.{value_in, values_in, tree_in, trees_in, capped}
use Rattle.machine.specs.Holding.{Slot}
use Rattle.rules.specs.States.{Entry, empty, Environment}

-- the first entry of those that are left
pub record First (env : Environment) (i : ℕ) : Type 0 where
  pub entry : Entry
  pub is : drop i env ≡ entry ∷ drop (i + 1) env
  pub grown : sizes (trees_in (take (i + 1) env)) ≡ sizes (trees_in (take i env)) + size (tree_in entry)

pub first_left : (env : Environment) (i : ℕ) → i < length env → First env i
first_left env i l =
    let e = get_or env i (empty []) in
    let one : suc i ≡ i + 1 = omega arith in
    record {
      entry = e;
      is = drop-cons env i (empty []) l ∙ ap (λ k. e ∷ drop k env) one;
      grown = omega (arith, ap (λ q. sizes (trees_in q)) (take_more env i (empty []) l), ap sizes (row_append (take i env) (e ∷ [])), sizes_join (trees_in (take i env)) (more (tree_in e) none));
    }

-- it comes to the front of the row
pub fronted : (vs : List Value) (ts : Trees) (slot : Slot) (rest : List Slot) (e : Entry) (env : Environment) {m m₀ : Cells} → tally ts ≡ length vs
    → Out m (vs ++ values_in (slot ∷ rest)) (join ts (trees_in (e ∷ env))) m₀ → Out m (value_in slot ∷ (vs ++ values_in rest)) (more (tree_in e) (join ts (trees_in env))) m₀
fronted vs ts slot rest e env t o = pull vs (value_in slot ∷ []) (values_in rest) ts (more (tree_in e) none) (trees_in env) t refl o

-- a stack that is popped
pub popped : {T : Type 0} (i : ℕ) (all ss : List T) (x : T) (rest : List T) → ss ≡ drop i all → ss ≡ x ∷ rest → rest ≡ drop (i + 1) all
popped i all ss x rest d p =
    let a : x ∷ rest ≡ drop i all = sym p ∙ d in
    ap (drop 1) a ∙ drop-drop 1 i all

pub capped_more : (a x n : ℕ) → a ≡ capped x → min (a + n) 18446744073709551615 ≡ capped (x + n)
capped_more a x n e = omega arith

pub tally_join : (a b : Trees) → tally (join a b) ≡ tally a + tally b
tally_join none b = omega arith
tally_join (more t a) b = omega (arith, tally_join a b)

-- there is a slot for it
pub not_empty : (vs : List Value) (ts : Trees) (ss : List Slot) (e : Entry) (env : Environment) {m m₀ : Cells} → tally ts ≡ length vs → ss ≡ [] → Out m (vs ++ values_in ss) (join ts (trees_in (e ∷ env))) m₀ → ⊥
not_empty vs ts ss e env t z o = absurd (omega (arith, out_tally o, tally_join ts (trees_in (e ∷ env)), length-append vs (values_in ss), ap (λ q. length (values_in q)) z))
