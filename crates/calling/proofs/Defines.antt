-- The call of a define.
use Rattle.std.proofs.Common.{◌≡◌, ℕ, ◌⊎◌, inl, inr, List, [], ◌∷◌, ◌++◌, map, set, length, drop, Some, sym, refl, ap, ◌∙◌, subst, arith}
use Rattle.std.specs.List.{slice_get}
use Rattle.calling.specs.Ripe.{Ripe}
use Rattle.cells.specs.Meaning.{Cells}
use Rattle.data.proofs.Outs.{tally}
use Rattle.data.specs.Taking.{Out}
use Rattle.data.specs.Trees.{Trees, none}
use Rattle.grammar.specs.Trees.{bound}
use Rattle.machine.proofs.Arguments.{onto, Takes, takes, takes_short, taken, names_onto, Binds, binds_to, binds_unfit, bound_from_law, length_bound, called_trees, called_holds}
use Rattle.machine.proofs.Resting.{changed}
use Rattle.machine.specs.Holding.{values_in, holds, trees_in, names, kept}
use Rattle.machine.specs.Mirrors.{Rests}
use Rattle.machine.specs.Waiting.{PlacedAt, Waits, waits_body}
use Rattle.machine.specs.declared.frame.Frame.{Frame as Waiting}
use Rattle.machine.specs.declared.frame.Frame.TheVariants.{Body}
use Rattle.machine.specs.declared.machine.Machine.{Machine}
use Rattle.program.specs.Programs.{Program, Define}
use Rattle.program.specs.Scopes.{bind_scope}
use Rattle.program.specs.Standing.{no_function, StandsAt}
use Rattle.program.specs.declared.compiled.FunctionCode.{FunctionCode}
use Rattle.rules.specs.States.{Environment, Frame, Account, st, enter, body_value}
use Rattle.rules.specs.Steps.{Outcome, goes, stuck, Sizes, Taken, took, short, take_arguments, Bound, binds, unfit, bind_parts, enter_body, call_define}
use Rattle.std.specs.Prelude.{slice_index_or}
use Rattle.stack.specs.Items.{tops, room_of}
use Rattle.stack.specs.declared.Stack.{Stack}

module _ {P : Program} {Z : Sizes} {m₀ m : Cells} {k : ℕ} {K : List Frame} {env : Environment} {a : Account} {r : Machine} (R : Ripe P Z m₀ k K env a r m) where
  -- the body is next, its names in the entries of the arguments
  pub record Opened (d : Define) (f : FunctionCode) (fs : Stack Waiting) (o : Outcome) : Type 0 where
    pub waits : List Frame
    pub entries : Environment
    pub is : o ≡ goes [] (st waits entries (enter d.body) a)
    pub rests : Rests P Z m₀ waits entries a [] none (changed r fs r.slots r.control r.taken r.given) m
    pub stands : StandsAt P r.script.now.code (names entries) d.body f.body

  module _ (p i number : ℕ) (d : Define) (f : FunctionCode) (fs : Stack Waiting) (here : PlacedAt P r.script.now.code i p) (is : slice_get P.defines number ≡ Some d)
      (code : f ≡ slice_index_or r.script.now.functions number no_function) (room : room_of fs ≡ room_of r.frames) (put : tops fs ≡ set (tops r.frames) 0 (Body i f.arity)) where
    bound_by : (ts : Trees) (left : Environment) (b : Bound) → env ≡ onto ts left → tally ts ≡ k → Binds d.parameters ts [] [] b
        → (enter_body P Z p d.body K left a b ≡ stuck) ⊎ Opened d f fs (enter_body P Z p d.body K left a b)
    unfolding enter_body
    bound_by ts left (binds after n) e t (binds_to z trees full ns long) =
        let D = R.ready.lays.defines number d is in
        let arity : f.arity ≡ length d.parameters = ap (λ (f : FunctionCode). f.arity) code ∙ D.arity in
        let body : f.body ≡ (slice_index_or r.script.now.functions number no_function).body = ap (λ (f : FunctionCode). f.body) code in
        let below : drop k (names env) ≡ names left = ap (drop k) (ap names e) ∙ (ap (λ n. drop n (names (onto ts left))) (sym t) ∙ names_onto ts left) in
        let count : length (names after) ≡ f.arity = ap length ns ∙ (length_bound d.parameters [] ∙ omega arith) in
        let tops_are : tops fs ≡ Body i f.arity ∷ R.others = put ∙ ap (λ q. set q 0 (Body i f.arity)) R.stacked in
        let same_trees : trees_in (after ++ (left ++ kept K)) ≡ trees_in (env ++ kept K) = called_trees ts after left (kept K) trees ∙ ap (λ q. trees_in (q ++ kept K)) (sym e) in
        let same_full : map holds (after ++ (left ++ kept K)) ≡ map holds (env ++ kept K) = called_holds ts after left (kept K) full ∙ ap (λ q. map holds (q ++ kept K)) (sym e) in
        inr (record {
          waits = body_value p left ∷ K;
          entries = after;
          is = refl;
          rests = record {
            ready = R.ready;
            frames_room = room ∙ R.frames_room;
            slots_room = R.slots_room;
            frames = subst (Waits P r.script.now.code (names after) (body_value p left ∷ K)) (sym tops_are) (waits_body here count (subst (λ G. Waits P r.script.now.code G K R.others) below R.frames));
            full = R.full ∙ sym same_full;
            data_held = subst (λ q. Out m (values_in (tops r.slots)) q m₀) (sym same_trees) R.data_held;
            cells = R.cells;
            input = R.input;
            taken = R.taken;
            given = R.given;
          };
          stands = subst (λ G. StandsAt P r.script.now.code G d.body f.body) (sym ns) (subst (StandsAt P r.script.now.code (bind_scope (map bound d.parameters) []) d.body) (sym body) D.body);
        })
    bound_by ts left unfit e t binds_unfit = inl refl

    taken_by_rule : (t : Taken) → Takes k env t → (call_define P Z p d K a t ≡ stuck) ⊎ Opened d f fs (call_define P Z p d K a t)
    unfolding call_define
    taken_by_rule (took ts left) (takes e t) = bound_by ts left (bind_parts (map bound d.parameters) ts []) e t (bound_from_law d.parameters ts)
    taken_by_rule short takes_short = inl refl

    pub called : (call_define P Z p d K a (take_arguments k env) ≡ stuck) ⊎ Opened d f fs (call_define P Z p d K a (take_arguments k env))
    called = taken_by_rule (take_arguments k env) (taken k env)
