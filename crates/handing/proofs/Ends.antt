-- The names of a let, a branch or a function leave.
use Rattle.std.proofs.Common.{◌≡◌, ℕ, zero, suc, ◌+◌, ◌≤◌, ◌⊎◌, inl, inr, List, [], ◌∷◌, ◌++◌, map, length, take, drop, min, Option, sym, refl, ap, ◌∙◌, subst, arith}
use Rattle.std.proofs.Math.Seq.{drop-append_seam, take-append_seam}
use Rattle.std.proofs.lemmas.List.{take-append-le, drop-map}
use Rattle.cells.specs.Meaning.{Cells}
use Rattle.cells.specs.declared.values.Value.{Value}
use Rattle.data.specs.Taking.{Out}
use Rattle.data.specs.Trees.{Tree, none, more, size, sizes}
use Rattle.handing.specs.Leaving.{Leaves}
use Rattle.machine.proofs.Cells.{row_size}
use Rattle.machine.proofs.Resting.{changed}
use Rattle.machine.specs.Holding.{values_in, is_full, trees_in, holds, names, kept, capped}
use Rattle.machine.specs.Mirrors.{Rests}
use Rattle.machine.specs.Waiting.{Waits}
use Rattle.machine.specs.declared.frame.Frame.{Frame as Waiting}
use Rattle.machine.specs.declared.machine.Machine.{Machine}
use Rattle.machine.specs.Holding.{Slot}
use Rattle.program.specs.Programs.{Program}
use Rattle.rules.specs.States.{full, empty, argument, Environment, Frame, Account, body_value, gives, environment_size}
use Rattle.rules.specs.Steps.{Sizes, Bound, binds, unfit, giving, leave_names}
use Rattle.stack.specs.Items.{tops, room_of}
use Rattle.stack.specs.declared.Stack.{Stack}

-- so many names leave, or the newest entries are not that many names
pub record Gone (n : ℕ) (env : Environment) (b : Bound) : Type 0 where
  pub within : n ≤ length env
  pub is : b ≡ binds (drop n env) (sizes (trees_in (take n env)))

gone_full : (x : _) (t : Tree) {n : ℕ} {env : Environment} {b : Bound} → (b ≡ unfit) ⊎ Gone n env b → (giving (size t) b ≡ unfit) ⊎ Gone (suc n) (full x t ∷ env) (giving (size t) b)
gone_full x t (inl e) = inl (ap (giving (size t)) e)
gone_full x t (inr g) = inr (record { within = omega (arith, g.within); is = ap (giving (size t)) g.is })

gone_empty : (x : _) {n : ℕ} {env : Environment} {b : Bound} → (b ≡ unfit) ⊎ Gone n env b → (b ≡ unfit) ⊎ Gone (suc n) (empty x ∷ env) b
gone_empty x (inl e) = inl e
gone_empty x {n} {env} (inr g) = inr (record { within = omega (arith, g.within); is = g.is ∙ ap (binds (drop n env)) (omega arith) })

pub gone : (n : ℕ) (env : Environment) → (leave_names n env ≡ unfit) ⊎ Gone n env (leave_names n env)
gone zero env = inr (record { within = omega arith; is = refl })
gone (suc n) [] = inl refl
gone (suc n) (full x t ∷ env) = gone_full x t (gone n env)
gone (suc n) (empty x ∷ env) = gone_empty x (gone n env)
gone (suc n) (argument t ∷ env) = inl refl

pub names_drop : (n : ℕ) (env : Environment) → names (drop n env) ≡ drop n (names env)
names_drop zero env = refl
names_drop (suc n) [] = refl
names_drop (suc n) (full x t ∷ env) = names_drop n env
names_drop (suc n) (empty x ∷ env) = names_drop n env
names_drop (suc n) (argument t ∷ env) = names_drop n env

pub names_length : (env : Environment) → length (names env) ≡ length env
names_length [] = refl
names_length (full x t ∷ env) = ap suc (names_length env)
names_length (empty x ∷ env) = ap suc (names_length env)
names_length (argument t ∷ env) = ap suc (names_length env)

pub no_names : (env : Environment) → names env ≡ [] → env ≡ []
no_names [] e = refl
no_names (full x t ∷ env) e = absurd (cc)
no_names (empty x ∷ env) e = absurd (cc)
no_names (argument t ∷ env) e = absurd (cc)

drop_front : {X : Type 0} (n : ℕ) (xs ys : List X) → n ≤ length xs → drop n (xs ++ ys) ≡ drop n xs ++ ys
drop_front zero xs ys l = refl
drop_front (suc n) [] ys l = absurd (omega arith)
drop_front (suc n) (x ∷ xs) ys l = drop_front n xs ys (omega arith)

capped_sum : (g a x : ℕ) → g ≡ capped a → min (g + capped x) 18446744073709551615 ≡ capped (a + x)
capped_sum g a x e = omega arith

module _ {P : Program} {Z : Sizes} {m₀ m : Cells} {f : Frame} {K : List Frame} {env : Environment} {a : Account} {v : Value} {t : Tree} {r : Machine} (R : Rests P Z m₀ (f ∷ K) env a (v ∷ []) (more t none) r m) where
  -- the names left, and the frame
  pub left_rests : {answer : Option ℕ} {m' : Cells} (n : ℕ) (left : Environment) (number : ℕ) (fs : Stack Waiting) (ss : Stack Slot) (given : ℕ) → drop n (env ++ kept (f ∷ K)) ≡ left ++ kept K
      → sizes (trees_in (take n (env ++ kept (f ∷ K)))) ≡ number → Leaves n (v ∷ []) (more t none) (env ++ kept (f ∷ K)) (tops r.slots) answer (tops ss) m' m₀ → room_of ss ≡ room_of r.slots
      → room_of fs ≡ room_of r.frames → Waits P r.script.now.code (names left) K (tops fs) → given ≡ min (r.given + capped number) 18446744073709551615
      → Rests P Z m₀ K left (gives number a) (v ∷ []) (more t none) (changed r fs ss r.control r.taken given) m'
  left_rests {m' = m'} n left number fs ss given below size L sroom froom w g = record {
    ready = R.ready;
    frames_room = froom ∙ R.frames_room;
    slots_room = sroom ∙ R.slots_room;
    frames = w;
    full = ap (map is_full) L.slots ∙ (sym (drop-map is_full n (tops r.slots)) ∙ (ap (drop n) R.full ∙ (drop-map holds n (env ++ kept (f ∷ K)) ∙ ap (map holds) below)));
    data_held = subst (λ q. Out m' (v ∷ values_in (tops ss)) (more t (trees_in q)) m₀) below L.data_held;
    cells = R.cells;
    input = R.input;
    taken = R.taken;
    given = g ∙ capped_sum r.given a.given number R.given;
  }

pub scope_left : (n : ℕ) (env : Environment) (K : List Frame) → n ≤ length env → (drop n (env ++ kept K) ≡ drop n env ++ kept K) × (sizes (trees_in (take n (env ++ kept K))) ≡ sizes (trees_in (take n env)))
scope_left n env K l = (drop_front n env (kept K) l, ap (λ q. sizes (trees_in q)) (take-append-le n env (kept K) l))

pub body_left : (n p : ℕ) (env outer : Environment) (K : List Frame) → length env ≡ n
    → (drop n (env ++ kept (body_value p outer ∷ K)) ≡ outer ++ kept K) × (sizes (trees_in (take n (env ++ kept (body_value p outer ∷ K)))) ≡ environment_size env)
body_left n p env outer K e =
    let all = env ++ kept (body_value p outer ∷ K) in (
      ap (λ n. drop n all) (sym e) ∙ drop-append_seam env (kept (body_value p outer ∷ K)),
      ap (λ n. sizes (trees_in (take n all))) (sym e) ∙ (ap (λ q. sizes (trees_in q)) (take-append_seam env (kept (body_value p outer ∷ K))) ∙ row_size env),
    )
