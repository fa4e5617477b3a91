-- How a change of the machine carries what it mirrors.
use Rattle.std.proofs.Common.{◌≡◌, ℕ, suc, ◌+◌, List, [], ◌∷◌, ◌++◌, map, length, None, Result, Err, sym, refl, ap, ◌∙◌, subst, arith}
use Rattle.std.specs.Bool.{⊤}
use Rattle.std.specs.Result.{IsErrAnd}
use Rattle.std.proofs.lemmas.Result.{err_from_is_err_and}
use Rattle.std.proofs.lemmas.List.{length-map, length-append}
use Rattle.cells.specs.Meaning.{Cells}
use Rattle.cells.specs.declared.values.Value.{Value}
use Rattle.data.proofs.Outs.{join}
use Rattle.data.specs.Standing.{Plain}
use Rattle.data.specs.Taking.{Out, out_plain}
use Rattle.data.specs.Trees.{Tree, Trees, none, more}
use Rattle.grammar.specs.Trees.{Expr}
use Rattle.machine.specs.Holding.{values_in, is_full, trees_in, holds, names, kept, capped}
use Rattle.machine.specs.Mirrors.{Rests, Mirrors, mirrors, Moved, moved_on, moved_not, moved_any, Printed, printed_on, printed_not, printed_any, as_printing}
use Rattle.machine.specs.Waiting.{Waits, waits_none, waits_test, waits_arm, waits_part, waits_binding, waits_leaving, waits_tested, waits_head, waits_argument, waits_field, waits_body, waits_main, Next, next_enter, value_in_hand}
use Rattle.machine.specs.declared.control.Control.{Control as Ahead}
use Rattle.machine.specs.declared.control.Control.TheVariants as ahead
use Rattle.machine.specs.declared.frame.Frame.{Frame as Waiting}
use Rattle.machine.specs.declared.machine.Machine.{Machine}
use Rattle.machine.specs.Holding.{Slot}
use Rattle.machine.specs.declared.halt.Halt.{Halt}
use Rattle.rules.specs.declared.fault.FaultKind.{FaultKind}
use Rattle.program.specs.Programs.{Program}
use Rattle.program.specs.Scopes.{Scope}
use Rattle.program.specs.Standing.{StandsAt}
use Rattle.program.specs.declared.code.Code.{Code}
use Rattle.rules.specs.States.{Environment, Frame, Account, State, st, enter, saved, saved_count}
use Rattle.rules.specs.Steps.{Outcome, fails, Sizes}
use Rattle.stack.specs.Items.{tops, room_of}
use Rattle.stack.specs.declared.Stack.{Stack}

-- the machine with other stacks, another control, and other counts
abbrev pub changed : Machine → Stack Waiting → Stack Slot → Ahead → ℕ → ℕ → Machine
changed r fs ss c taken given = record { script = r.script; text = r.text; input = r.input; frames = fs; slots = ss; control = c; taken = taken; given = given }

-- as many wait as there are frames
pub waits_length : {P : Program} {cs : List Code} {G : Scope} {K : List Frame} {fs : List Waiting} → Waits P cs G K fs → length fs ≡ length K
waits_length waits_none = refl
waits_length (waits_test p x y w) = ap suc (waits_length w)
waits_length (waits_arm p w) = ap suc (waits_length w)
waits_length (waits_part p r w) = ap suc (waits_length w)
waits_length (waits_binding m p n b e w) = ap suc (waits_length w)
waits_length (waits_leaving p w) = ap suc (waits_length w)
waits_length (waits_tested p b w) = ap suc (waits_length w)
waits_length (waits_head p a w) = ap suc (waits_length w)
waits_length (waits_argument p h a w) = ap suc (waits_length w)
waits_length (waits_field p o n a w) = ap suc (waits_length w)
waits_length (waits_body p n w) = ap suc (waits_length w)
waits_length (waits_main d p w) = ap suc (waits_length w)

kept_count : (K : List Frame) → length (kept K) ≡ saved_count K
kept_count [] = refl
kept_count (f ∷ K) = omega (arith, length-append (saved f) (kept K), kept_count K)

module _ {P : Program} {Z : Sizes} {m₀ m : Cells} {K : List Frame} {env : Environment} {a : Account} {vs : List Value} {ts : Trees} {r : Machine} (R : Rests P Z m₀ K env a vs ts r m) where
  -- what comes next is not among the rest
  pub then : (c : Ahead) → Rests P Z m₀ K env a vs ts (changed r r.frames r.slots c r.taken r.given) m
  then c = record {
    ready = R.ready;
    frames_room = R.frames_room;
    slots_room = R.slots_room;
    frames = R.frames;
    full = R.full;
    data_held = R.data_held;
    cells = R.cells;
    input = R.input;
    taken = R.taken;
    given = R.given;
  }

  -- all that a step may change
  pub renewed : {K' : List Frame} {env' : Environment} {a' : Account} {vs' : List Value} {ts' : Trees} {m' : Cells} (fs : Stack Waiting) (ss : Stack Slot) (taken given : ℕ)
      → room_of fs ≡ room_of r.frames → room_of ss ≡ room_of r.slots
      → Waits P r.script.now.code (names env') K' (tops fs) → map is_full (tops ss) ≡ map holds (env' ++ kept K')
      → Out m' (vs' ++ values_in (tops ss)) (join ts' (trees_in (env' ++ kept K'))) m₀
      → r.input.now ≡ a'.input → taken ≡ capped a'.taken → given ≡ capped a'.given
      → Rests P Z m₀ K' env' a' vs' ts' (changed r fs ss r.control taken given) m'
  renewed fs ss taken given froom sroom w full o i t g = record {
    ready = R.ready;
    frames_room = froom ∙ R.frames_room;
    slots_room = sroom ∙ R.slots_room;
    frames = w;
    full = full;
    data_held = o;
    cells = R.cells;
    input = i;
    taken = t;
    given = g;
  }

  -- other frames, over the same entries
  pub reframed : {K' : List Frame} {env' : Environment} (fs : Stack Waiting) → room_of fs ≡ room_of r.frames
      → Waits P r.script.now.code (names env') K' (tops fs) → env' ++ kept K' ≡ env ++ kept K
      → Rests P Z m₀ K' env' a vs ts (changed r fs r.slots r.control r.taken r.given) m
  reframed fs room w same = renewed fs r.slots r.taken r.given room refl w (R.full ∙ ap (map holds) (sym same))
      (subst (λ e. Out m (vs ++ values_in (tops r.slots)) (join ts (trees_in e)) m₀) (sym same) R.data_held) R.input R.taken R.given

  -- other slots, for entries of the same names
  pub reslotted : {env' : Environment} {vs' : List Value} {ts' : Trees} {m' : Cells} (ss : Stack Slot) → room_of ss ≡ room_of r.slots
      → names env' ≡ names env → map is_full (tops ss) ≡ map holds (env' ++ kept K)
      → Out m' (vs' ++ values_in (tops ss)) (join ts' (trees_in (env' ++ kept K))) m₀
      → Rests P Z m₀ K env' a vs' ts' (changed r r.frames ss r.control r.taken r.given) m'
  reslotted ss room n full o = renewed r.frames ss r.taken r.given refl room (subst (λ G. Waits P r.script.now.code G K (tops r.frames)) (sym n) R.frames) full o R.input R.taken R.given

  -- stacks that hold the same
  pub restacked : (fs : Stack Waiting) (ss : Stack Slot) → room_of fs ≡ room_of r.frames → tops fs ≡ tops r.frames → room_of ss ≡ room_of r.slots → tops ss ≡ tops r.slots
      → Rests P Z m₀ K env a vs ts (changed r fs ss r.control r.taken r.given) m
  restacked fs ss froom ftops sroom stops = renewed fs ss r.taken r.given froom sroom (subst (Waits P r.script.now.code (names env) K) (sym ftops) R.frames) (ap (map is_full) stops ∙ R.full)
      (subst (λ q. Out m (vs ++ values_in q) (join ts (trees_in (env ++ kept K))) m₀) (sym stops) R.data_held) R.input R.taken R.given

  -- a plain value comes to the front
  pub with_plain : {v : Value} {t : Tree} → Plain v t → Rests P Z m₀ K env a (v ∷ vs) (more t ts) r m
  with_plain p = record {
    ready = R.ready;
    frames_room = R.frames_room;
    slots_room = R.slots_room;
    frames = R.frames;
    full = R.full;
    data_held = out_plain p R.data_held;
    cells = R.cells;
    input = R.input;
    taken = R.taken;
    given = R.given;
  }

  -- as many slots as entries
  pub slots_count : length (tops r.slots) ≡ length env + saved_count K
  slots_count = omega (arith, length-map (tops r.slots) is_full, ap length R.full, length-map (env ++ kept K) holds, length-append env (kept K), kept_count K)

  pub waiting_count : length (tops r.frames) ≡ length K
  waiting_count = waits_length R.frames

-- a machine whose stacks hold the same mirrors the same
pub unmoved : {P : Program} {Z : Sizes} {m₀ m : Cells} {r : Machine} {s : State} → Mirrors P Z m₀ s r m → (fs : Stack Waiting) (ss : Stack Slot)
    → room_of fs ≡ room_of r.frames → tops fs ≡ tops r.frames → room_of ss ≡ room_of r.slots → tops ss ≡ tops r.slots
    → Mirrors P Z m₀ s (changed r fs ss r.control r.taken r.given) m
unmoved (mirrors R N) fs ss froom ftops sroom stops = mirrors (restacked R fs ss froom ftops sroom stops) N

-- what the rules say may be written in another way
pub by_rule : {P : Program} {Z : Sizes} {m₀ m : Cells} {s : State} {o o' : Outcome} {t : Result ⊤ FaultKind} {r : Machine} → o ≡ o' → Moved P Z m₀ s o' t r m → Moved P Z m₀ s o t r m
by_rule {P} {Z} {m₀} {m} {s} {t = t} {r = r} e h = subst (λ o. Moved P Z m₀ s o t r m) (sym e) h

-- where an expression is entered nothing is in hand
nothing_in_hand : {P : Program} {cs : List Code} {G : Scope} {e : Expr} {k : Ahead} → Next P cs G (enter e) k → value_in_hand k ≡ []
nothing_in_hand (next_enter S) = refl

pub entered : {P : Program} {Z : Sizes} {m₀ m : Cells} {K : List Frame} {env : Environment} {e : Expr} {a : Account} {r : Machine} → Mirrors P Z m₀ (st K env (enter e) a) r m → Rests P Z m₀ K env a [] none r m
entered {P} {Z} {m₀} {m} {K} {env} {e} {a} {r} (mirrors R N) = subst (λ vs. Rests P Z m₀ K env a vs none r m) (nothing_in_hand N) R

stands_entered : {P : Program} {cs : List Code} {G : Scope} {e : Expr} {i : ℕ} → Next P cs G (enter e) (ahead.Enter i) → StandsAt P cs G e i
stands_entered (next_enter S) = S

pub entered_at : {P : Program} {Z : Sizes} {m₀ m : Cells} {K : List Frame} {env : Environment} {e : Expr} {a : Account} {r : Machine} {i : ℕ} → r.control ≡ ahead.Enter i
    → Mirrors P Z m₀ (st K env (enter e) a) r m → StandsAt P r.script.now.code (names env) e i
entered_at {P} {env = env} {e = e} {r = r} c (mirrors R N) = stands_entered (subst (Next P r.script.now.code (names env) (enter e)) c N)

-- the store may change where what is held stands as before
pub entered_again : {P : Program} {Z : Sizes} {m₀ m m' : Cells} {K : List Frame} {env : Environment} {e : Expr} {a : Account} {r : Machine} → Mirrors P Z m₀ (st K env (enter e) a) r m
    → Rests P Z m₀ K env a [] none r m' → Mirrors P Z m₀ (st K env (enter e) a) r m'
entered_again {P} {Z} {m₀} {m' = m'} {K = K} {env = env} {a = a} {r = r} (mirrors R N) R' = mirrors (subst (λ vs. Rests P Z m₀ K env a vs none r m') (sym (nothing_in_hand N)) R') N

-- the store is as it was
pub same_store : {P : Program} {Z : Sizes} {m₀ m m' : Cells} {s : State} {r : Machine} → m' ≡ m → Mirrors P Z m₀ s r m → Mirrors P Z m₀ s r m'
same_store {P} {Z} {m₀} {s = s} {r = r} e M = subst (λ m. Mirrors P Z m₀ s r m) (sym e) M

-- a step that faults, from what it answers
pub faulted : {P : Program} {Z : Sizes} {m₀ m : Cells} {s : State} {kind : FaultKind} {r : Machine} (t : Result ⊤ FaultKind) → IsErrAnd t (λ k. k ≡ kind) → Mirrors P Z m₀ s r m → Moved P Z m₀ s (fails kind None) t r m
faulted {P} {Z} {m₀} {m} {s} {kind} {r} t h M =
    let e = err_from_is_err_and t h in
    subst (λ t. Moved P Z m₀ s (fails kind None) t r m) (sym (e.1 ∙ ap Err e.2)) (moved_not M)

pub faulted_as : {P : Program} {Z : Sizes} {m₀ m : Cells} {s : State} {kind found : FaultKind} {r : Machine} (t : Result ⊤ FaultKind) → IsErrAnd t (λ k. k ≡ found) → found ≡ kind → Mirrors P Z m₀ s r m
    → Moved P Z m₀ s (fails kind None) t r m
faulted_as {P} {Z} {m₀} {m} {s} {kind} {found} {r} t h e M = subst (λ k. Moved P Z m₀ s (fails k None) t r m) e (faulted t h M)

unprinted_as : {P : Program} {Z : Sizes} {m₀ m : Cells} {s : State} {o : Outcome} {t : Result ⊤ FaultKind} {r : Machine} {old new : List ℕ} → new ≡ old → Moved P Z m₀ s o t r m → Printed P Z m₀ s old o (as_printing t) r m new
unprinted_as e (moved_on M) = printed_on refl (omega arith) e M
unprinted_as e (moved_not M) = printed_not e M
unprinted_as e moved_any = printed_any

-- a step that prints nothing
pub silent : {P : Program} {Z : Sizes} {m₀ m : Cells} {s : State} {o : Outcome} {t : Result ⊤ FaultKind} {t' : Result ℕ Halt} {r : Machine} {old new : List ℕ} → t' ≡ as_printing t → new ≡ old
    → Moved P Z m₀ s o t r m → Printed P Z m₀ s old o t' r m new
silent {P} {Z} {m₀} {m} {s} {o} {r = r} {old = old} {new = new} is e h = subst (λ t. Printed P Z m₀ s old o t r m new) (sym is) (unprinted_as e h)

-- what the rules say may be written in another way
pub by_printing : {P : Program} {Z : Sizes} {m₀ m : Cells} {s : State} {old new : List ℕ} {o o' : Outcome} {t : Result ℕ Halt} {r : Machine} → o ≡ o' → Printed P Z m₀ s old o' t r m new → Printed P Z m₀ s old o t r m new
by_printing {P} {Z} {m₀} {m} {s} {old} {new} {t = t} {r = r} e h = subst (λ o. Printed P Z m₀ s old o t r m new) (sym e) h

-- the value in hand may be written in another way
pub in_hand_law : {P : Program} {Z : Sizes} {m₀ m : Cells} {K : List Frame} {env : Environment} {a : Account} {u v : Value} {vs : List Value} {ts : Trees} {r : Machine} → v ≡ u
    → Rests P Z m₀ K env a (u ∷ vs) ts r m → Rests P Z m₀ K env a (v ∷ vs) ts r m
in_hand_law {P} {Z} {m₀} {m} {K} {env} {a} {vs = vs} {ts = ts} {r = r} e R = subst (λ v. Rests P Z m₀ K env a (v ∷ vs) ts r m) (sym e) R
