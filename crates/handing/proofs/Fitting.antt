-- Fields bound one by one.
use Rattle.std.proofs.Common.{◌≡◌, ℕ, suc, ◌+◌, ◌/◌, ◌%◌, ◌<◌, ◌≤◌, true, false, List, [], ◌∷◌, ◌++◌, map, length, get_or, drop, min, Some, Option, pos, ◌==◌, sym, refl, ap, ◌∙◌, subst, arith}
use Rattle.std.proofs.Math.Seq.{drop-cons}
use Rattle.std.proofs.lemmas.Bool.{eqb-true, eqb-false}
use Rattle.std.proofs.lemmas.List.{length-append, length-map, drop_all}
use Rattle.cells.specs.Meaning.{Cells}
use Rattle.cells.specs.declared.values.Value.{Value}
use Rattle.cells.specs.declared.values.Value.TheVariants.{Int}
use Rattle.data.proofs.Moves.{pull}
use Rattle.data.proofs.Outs.{join, tally, out_tally}
use Rattle.data.specs.Taking.{Out}
use Rattle.data.specs.Trees.{Tree, Trees, none, more, size}
use Rattle.grammar.specs.Trees.{PatternPart, bound, skipped}
use Rattle.handing.proofs.Left.{capped_more, tally_join}
use Rattle.handing.proofs.Patterns.{lowest_bound, lowest_skipped}
use Rattle.handing.specs.Binding.{BindsFields}
use Rattle.machine.specs.Holding.{value_in, is_full, values_in, holds, trees_in, capped}
use Rattle.machine.specs.Holding.{Slot}
use Rattle.program.specs.Scopes.{bits, names_inside}
use Rattle.rules.specs.States.{full, Environment}
use Rattle.rules.specs.Steps.{Bound, binds, unfit, giving, bind_parts}

-- These fields are still to be bound, by the names of a pattern as bits; so many cells are given back so far, and n in all.
pub record Fitting (fields : List Value) (mask total room : ℕ) (slots : List Slot) (after : Environment) (n : ℕ) (m m₀ : Cells) : Type 0 where
  pub parts : List PatternPart
  pub trees : Trees
  pub env : Environment
  pub count : ℕ
  pub later : ℕ
  pub total_is : total ≡ capped count
  pub bound_to : bind_parts parts trees env ≡ binds after later
  pub sum : count + later ≡ n
  pub mask_is : mask ≡ bits parts
  pub fits : names_inside parts + length slots ≤ room
  pub full : map is_full slots ≡ map holds env
  pub long : tally trees ≡ length fields
  pub data_held : Out m (fields ++ values_in slots) (join trees (trees_in env)) m₀

-- The first field of those left, by whether it is bound.
pub record Names (v : Value) (fields : List Value) (mask total room : ℕ) (slots : List Slot) (after : Environment) (n : ℕ) (m m₀ : Cells) : Type 0 where
  pub room_for : length slots < room
  pub named : Fitting fields (mask / 2) total room (Some v ∷ slots) after n m m₀

pub record Drops (v : Value) (fields : List Value) (mask total room : ℕ) (slots : List Slot) (after : Environment) (n : ℕ) (m m₀ : Cells) : Type 0 where
  pub tree : Tree
  pub others : Trees
  pub front : Out m (v ∷ (fields ++ values_in slots)) (more tree others) m₀
  pub dropped : (m' : Cells) (k : ℕ) → k ≡ size tree → Out m' (fields ++ values_in slots) others m₀ → Fitting fields (mask / 2) (min (total + k) 18446744073709551615) room slots after n m' m₀

record Gives (n : ℕ) (b : Bound) (after : Environment) (m : ℕ) : Type 0 where
  later : ℕ
  bound_to : b ≡ binds after later
  sum : n + later ≡ m

gives : (n : ℕ) (b : Bound) {after : Environment} {m : ℕ} → giving n b ≡ binds after m → Gives n b after m
gives n (binds env k) e = record { later = k; bound_to = cc; sum = cc }
gives n unfit e = absurd (cc)

module _ {v : Value} {fields : List Value} {total room : ℕ} {slots : List Slot} {after : Environment} {n later mask : ℕ} {m m₀ : Cells} (env : Environment) (count : ℕ) where
  names : (xs : List PatternPart) (ts : Trees) → total ≡ capped count → bind_parts xs ts env ≡ binds after later → count + later ≡ n → mask ≡ bits xs → names_inside xs + length slots ≤ room
      → map is_full slots ≡ map holds env → tally ts ≡ length (v ∷ fields) → Out m ((v ∷ fields) ++ values_in slots) (join ts (trees_in env)) m₀ → mask % 2 ≡ 1 → Names v fields mask total room slots after n m m₀
  names [] none t b s k f h l o q = absurd (omega arith)
  names [] (more t ts) e b s k f h l o q = absurd (cc)
  names (x ∷ xs) none e b s k f h l o q = absurd (cc)
  names (bound x ∷ xs) (more t ts) e b s k f h l o q =
      let low = lowest_bound (bits xs) in
      let long : tally ts ≡ length fields = omega arith in
      record {
        room_for = omega arith;
        named = record {
          parts = xs;
          trees = ts;
          env = full x.bytes t ∷ env;
          count = count;
          later = later;
          total_is = e;
          bound_to = b;
          sum = s;
          mask_is = ap (λ i. i / 2) k ∙ low.1;
          fits = omega arith;
          full = ap (λ bs. true ∷ bs) h;
          long = long;
          data_held = pull (v ∷ []) fields (values_in slots) (more t none) ts (trees_in env) refl long o;
        };
      }
  names (skipped p ∷ xs) (more t ts) e b s k f h l o q = let low = lowest_skipped (bits xs) in absurd (omega (arith, low.0, ap (λ i. i % 2) k))

  drops : (xs : List PatternPart) (ts : Trees) → total ≡ capped count → bind_parts xs ts env ≡ binds after later → count + later ≡ n → mask ≡ bits xs → names_inside xs + length slots ≤ room
      → map is_full slots ≡ map holds env → tally ts ≡ length (v ∷ fields) → Out m ((v ∷ fields) ++ values_in slots) (join ts (trees_in env)) m₀ → (mask % 2 ≡ 1 → ⊥) → Drops v fields mask total room slots after n m m₀
  drops [] none t b s k f h l o q = absurd (omega arith)
  drops [] (more t ts) e b s k f h l o q = absurd (cc)
  drops (x ∷ xs) none e b s k f h l o q = absurd (cc)
  drops (bound x ∷ xs) (more t ts) e b s k f h l o q = let low = lowest_bound (bits xs) in absurd (q (ap (λ i. i % 2) k ∙ low.0))
  drops (skipped p ∷ xs) (more t ts) e b s k f h l o q =
      let low = lowest_skipped (bits xs) in
      let g = gives (size t) (bind_parts xs ts env) b in
      record {
        tree = t;
        others = join ts (trees_in env);
        front = o;
        dropped = λ m' i z o. record {
          parts = xs;
          trees = ts;
          env = env;
          count = count + size t;
          later = g.later;
          total_is = capped_more total count i e ∙ ap (λ i. capped (count + i)) z;
          bound_to = g.bound_to;
          sum = omega (arith, s, g.sum);
          mask_is = ap (λ i. i / 2) k ∙ low.1;
          fits = f;
          full = h;
          long = omega arith;
          data_held = o;
        };
      }

module _ {v : Value} {fields : List Value} {mask total room : ℕ} {slots : List Slot} {after : Environment} {n : ℕ} {m m₀ : Cells} where
  pub first_named_rule : Fitting (v ∷ fields) mask total room slots after n m m₀ → (mask % 2 == 1) ≡ true → Names v fields mask total room slots after n m m₀
  first_named_rule F q = names F.env F.count F.parts F.trees F.total_is F.bound_to F.sum F.mask_is F.fits F.full F.long F.data_held (eqb-true (mask % 2) 1 q)

  pub first_dropped : Fitting (v ∷ fields) mask total room slots after n m m₀ → (mask % 2 == 1) ≡ false → Drops v fields mask total room slots after n m m₀
  first_dropped F q = drops F.env F.count F.parts F.trees F.total_is F.bound_to F.sum F.mask_is F.fits F.full F.long F.data_held (eqb-false (mask % 2) 1 q)

pub row_front : (row : List Value) (i : ℕ) → i < length row → drop i row ≡ get_or row i (Int (pos 0)) ∷ drop (i + 1) row
row_front row i l =
    let one : suc i ≡ i + 1 = omega arith in
    drop-cons row i (Int (pos 0)) l ∙ ap (λ k. get_or row i (Int (pos 0)) ∷ drop k row) one

pub row_all : (row : List Value) (i : ℕ) → length row ≤ i → drop i row ≡ []
row_all row i l = drop_all i row l

-- one turn: the answer is a count, and the others are left
pub record Turned (fields : List Value) (mask total room : ℕ) (slots : List Slot) (after : Environment) (n : ℕ) (m m₀ : Cells) (answer : Option ℕ) : Type 0 where
  pub number : ℕ
  pub is : answer ≡ Some number
  pub left : Fitting fields mask (min (total + number) 18446744073709551615) room slots after n m m₀

more_none : {fields : List Value} {mask total room : ℕ} {slots : List Slot} {after : Environment} {n : ℕ} {m m₀ : Cells} → Fitting fields mask total room slots after n m m₀ → Fitting fields mask (min (total + 0) 18446744073709551615) room slots after n m m₀
more_none {fields} {mask} {total} {room} {slots} {after} {n} {m} {m₀} F =
    let e : total ≡ min (total + 0) 18446744073709551615 = omega (arith, F.total_is) in
    subst (λ t. Fitting fields mask t room slots after n m m₀) e F

pub turned : {v : Value} {fields : List Value} {mask total room room' : ℕ} {slots slots' : List Slot} {after : Environment} {n : ℕ} {m m' m₀ : Cells} {answer : Option ℕ} → room' ≡ room → Fitting (v ∷ fields) mask total room slots after n m m₀
    → ((mask % 2 == 1) ≡ true → length slots < room' → (answer ≡ Some 0) × (slots' ≡ Some v ∷ slots) × (m' ≡ m))
    → ((mask % 2 == 1) ≡ false → (m₀ : Cells) (vs : List Value) (t : Tree) (ts : Trees) → Out m (v ∷ vs) (more t ts) m₀ → (answer ≡ Some (size t)) × (slots' ≡ slots) × Out m' vs ts m₀)
    → Turned fields (mask / 2) total room slots' after n m' m₀ answer
turned {v} {fields} {mask} {total} {room} {room'} {slots} {slots'} {after} {n} {m} {m'} {m₀} {answer} same F named other =
    elim (mask % 2 == 1) as (λ b. (mask % 2 == 1) ≡ b → Turned fields (mask / 2) total room slots' after n m' m₀ answer) [
      | true ↦ λ e.
          let N = first_named_rule F e in
          let h = named e (omega (arith, N.room_for)) in
          record {
            number = 0;
            is = h.0;
            left = subst (λ ss. Fitting fields (mask / 2) (min (total + 0) 18446744073709551615) room ss after n m' m₀) (sym h.1) (subst (λ m. Fitting fields (mask / 2) (min (total + 0) 18446744073709551615) room (Some v ∷ slots) after n m m₀) (sym h.2) (more_none N.named));
          }
      | false ↦ λ e.
          let D = first_dropped F e in
          let h = other e m₀ (fields ++ values_in slots) D.tree D.others D.front in
          record { number = size D.tree; is = h.0; left = subst (λ ss. Fitting fields (mask / 2) (min (total + size D.tree) 18446744073709551615) room ss after n m' m₀) (sym h.1) (D.dropped m' (size D.tree) refl h.2) }
    ] refl

module _ {after : Environment} {n total : ℕ} {slots : List Slot} {m m₀ : Cells} where
  all : (env : Environment) (count later : ℕ) (xs : List PatternPart) (ts : Trees) → total ≡ capped count → bind_parts xs ts env ≡ binds after later → count + later ≡ n → map is_full slots ≡ map holds env → tally ts ≡ 0
      → Out m (values_in slots) (join ts (trees_in env)) m₀ → BindsFields after n (Some total) slots m m₀
  all env count later [] none t b s f l o =
      let e : env ≡ after = cc in
      let z : 0 ≡ later = cc in
      record { given = ap Some (t ∙ ap capped (omega arith)); full = f ∙ ap (map holds) e; data_held = subst (λ e. Out m (values_in slots) (trees_in e) m₀) e o }
  all env count later [] (more t ts) e b s f l o = absurd (omega arith)
  all env count later (x ∷ xs) none e b s f l o = absurd (cc)
  all env count later (x ∷ xs) (more t ts) e b s f l o = absurd (omega arith)

  -- no field is left
  pub all_bound : {mask room : ℕ} → Fitting [] mask total room slots after n m m₀ → BindsFields after n (Some total) slots m m₀
  all_bound F = all F.env F.count F.later F.parts F.trees F.total_is F.bound_to F.sum F.full F.long F.data_held

tally_row : (env : Environment) → tally (trees_in env) ≡ length env
tally_row [] = refl
tally_row (s ∷ env) = omega (arith, tally_row env)

-- all fields are left
pub fitting_first : {fields : List Value} {mask room n : ℕ} {slots : List Slot} (xs : List PatternPart) (vs : Trees) (env : Environment) {after : Environment} {m m₀ : Cells} → mask ≡ bits xs → bind_parts xs vs env ≡ binds after n → names_inside xs + length slots ≤ room
    → map is_full slots ≡ map holds env → Out m (fields ++ values_in slots) (join vs (trees_in env)) m₀ → Fitting fields mask 0 room slots after n m m₀
fitting_first {fields} {n = n} {slots = slots} xs vs env k b f h o = record {
  parts = xs;
  trees = vs;
  env = env;
  count = 0;
  later = n;
  total_is = refl;
  bound_to = b;
  sum = omega arith;
  mask_is = k;
  fits = f;
  full = h;
  long = omega (arith, out_tally o, tally_join vs (trees_in env), tally_row env, length-append fields (values_in slots), length-map slots value_in, length-map slots is_full, ap length h, length-map env holds);
  data_held = o;
}
