-- An application with all its arguments: what lies below it, and its arguments among the entries.
use Rattle.std.proofs.Common.{◌≡◌, ℕ, suc, ◌+◌, true, List, [], ◌∷◌, ◌++◌, Some, map, drop, sym, refl, ap, ◌∙◌, subst, arith}
use Rattle.basis.specs.Calls.{applied}
use Rattle.basis.specs.declared.function.Basis.{Basis}
use Rattle.calling.proofs.Plains.{Answered}
use Rattle.calling.specs.Applying.{held_count}
use Rattle.calling.specs.Ripe.{Ripe}
use Rattle.cells.specs.Meaning.{Cells}
use Rattle.cells.specs.declared.values.Value.{Value}
use Rattle.cells.specs.declared.values.Value.TheVariants.{Function}
use Rattle.data.proofs.Moves.{plain_out}
use Rattle.data.specs.Standing.{plain_function}
use Rattle.data.specs.Taking.{Out}
use Rattle.data.specs.Trees.{Tree, none, more}
use Rattle.grammar.specs.Trees.{Exprs}
use Rattle.machine.proofs.Resting.{changed}
use Rattle.machine.specs.Holding.{values_in, is_full, trees_in, names, kept}
use Rattle.machine.specs.Mirrors.{Rests, Under}
use Rattle.machine.specs.Waiting.{Waits}
use Rattle.machine.specs.declared.frame.Frame.{Frame as Waiting}
use Rattle.machine.specs.declared.frame.Held.{Held}
use Rattle.machine.specs.declared.machine.Machine.{Machine}
use Rattle.machine.specs.Holding.{Slot}
use Rattle.program.specs.Programs.{Program}
use Rattle.rules.specs.States.{Environment, Frame, Account, head_value, next_argument, argument, Target}
use Rattle.rules.specs.Steps.{Outcome, Sizes, take_arguments, call_basis, call_plain, answer}
use Rattle.stack.specs.Items.{tops, room_of}
use Rattle.stack.specs.declared.Stack.{Stack}

-- without arguments
pub bare_answer : (P : Program) (Z : Sizes) (f : Basis) (K : List Frame) (env : Environment) (a : Account) → call_basis P Z f K a (take_arguments 0 env) ≡ answer P Z f K env a (applied f [])
unfolding call_basis call_plain
bare_answer P Z f K env a = refl

module _ {P : Program} {Z : Sizes} {m₀ m : Cells} {K : List Frame} {env : Environment} {a : Account} {p n : ℕ} {es : Exprs} {t : Tree} {r : Machine} {top : Waiting} {others : List Waiting}
    (R : Rests P Z m₀ (head_value p es ∷ K) env a (Function n ∷ []) (more t none) r m) (stacked : tops r.frames ≡ top ∷ others) (w : Waits P r.script.now.code (names env) K others) where
  pub bare_under : Under P Z m₀ 0 K env a r m
  bare_under = record {
    ready = R.ready;
    frames_room = R.frames_room;
    slots_room = R.slots_room;
    frames = subst (Waits P r.script.now.code (names env) K) (sym (ap (drop 1) stacked)) w;
    full = R.full;
    data_held = (plain_out plain_function R.data_held).1;
    cells = R.cells;
    input = R.input;
    taken = R.taken;
    given = R.given;
  }

  pub bare_ripe : Ripe P Z m₀ 0 K env a r m
  bare_ripe = record {
    ready = R.ready;
    frames_room = R.frames_room;
    slots_room = R.slots_room;
    top = top;
    others = others;
    stacked = stacked;
    frames = w;
    full = R.full;
    data_held = (plain_out plain_function R.data_held).1;
    cells = R.cells;
    input = R.input;
    taken = R.taken;
    given = R.given;
  }

module _ {P : Program} {Z : Sizes} {m₀ m : Cells} {K : List Frame} {env : Environment} {a : Account} {p k : ℕ} {target : Target} {es : Exprs} {v : Value} {t : Tree} {r : Machine} {top : Waiting} {others : List Waiting}
    (R : Rests P Z m₀ (next_argument p target k es ∷ K) env a (v ∷ []) (more t none) r m) (stacked : tops r.frames ≡ top ∷ others) (w : Waits P r.script.now.code (drop k (names env)) K others) where
  -- the arguments are those of a function of the basis, and leave
  pub last_under : {f : Basis} {h : Held} {o : Outcome} (A : Answered P Z f K a h k (tops r.slots) env (kept K) v t m m₀ o) → Under P Z m₀ (held_count h) K A.left a r m
  last_under A = record {
    ready = R.ready;
    frames_room = R.frames_room;
    slots_room = R.slots_room;
    frames = subst (Waits P r.script.now.code (names A.left) K) (sym (ap (drop 1) stacked)) (subst (λ G. Waits P r.script.now.code G K others) (sym A.names_left) w);
    full = A.full;
    data_held = A.data_held;
    cells = R.cells;
    input = R.input;
    taken = R.taken;
    given = R.given;
  }

  -- the last argument is pushed upon the others
  pub last_ripe : (ss : Stack Slot) → room_of ss ≡ room_of r.slots → tops ss ≡ Some v ∷ tops r.slots → Ripe P Z m₀ (k + 1) K (argument t ∷ env) a (changed r r.frames ss r.control r.taken r.given) m
  last_ripe ss room put =
      let more_names : drop k (names env) ≡ drop (k + 1) (names (argument t ∷ env)) = let one : suc k ≡ k + 1 = omega arith in ap (λ n. drop n (names (argument t ∷ env))) one in
      record {
        ready = R.ready;
        frames_room = R.frames_room;
        slots_room = room ∙ R.slots_room;
        top = top;
        others = others;
        stacked = stacked;
        frames = subst (λ G. Waits P r.script.now.code G K others) more_names w;
        full = ap (map is_full) put ∙ ap (λ q. true ∷ q) R.full;
        data_held = subst (λ q. Out m (values_in q) (more t (trees_in (env ++ kept K))) m₀) (sym put) R.data_held;
        cells = R.cells;
        input = R.input;
        taken = R.taken;
        given = R.given;
      }
