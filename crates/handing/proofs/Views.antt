-- What a frame of a kind waits for.
use Rattle.std.specs.Prelude.{⊤, Result}
use Rattle.std.proofs.Common.{◌≡◌, ℕ, ◌+◌, ◌<◌, ◌≤◌, List, [], ◌∷◌, length, drop, Some, None, refl, subst, arith}
use Rattle.cells.specs.Meaning.{Cells}
use Rattle.cells.specs.declared.values.Value.{Value}
use Rattle.data.specs.Trees.{Tree, none, more}
use Rattle.grammar.specs.Trees.{Ident, Expr, Exprs, no_exprs, and_expr, Bindings, Branches}
use Rattle.machine.specs.Holding.{names}
use Rattle.machine.specs.Mirrors.{Rests, Mirrors, mirrors, Moved, Printed, Hands}
use Rattle.machine.specs.Waiting.{PlacedAt, Waits, waits_test, waits_arm, waits_part, waits_binding, waits_leaving, waits_tested, waits_head, waits_argument, waits_field, waits_body, waits_main, value_in_hand, held_of}
use Rattle.machine.specs.declared.control.Control.TheVariants as ahead
use Rattle.machine.specs.declared.frame.Frame.{Frame as Waiting}
use Rattle.machine.specs.declared.frame.Frame.TheVariants as waiting
use Rattle.machine.specs.declared.frame.Held.{Held}
use Rattle.machine.specs.declared.machine.Machine.{Machine}
use Rattle.machine.specs.declared.halt.Halt.{Halt}
use Rattle.rules.specs.declared.fault.FaultKind.{FaultKind}
use Rattle.program.specs.Compiling.{argument_count, binding_count, let_scope}
use Rattle.program.specs.Programs.{Program, Define}
use Rattle.program.specs.Scopes.{Scope}
use Rattle.program.specs.Standing.{at, past, StandsAt, StandsRow, StandsArguments, StandsBindings, StandsBranches, row_none, row_more, arguments_none, arguments_more}
use Rattle.program.specs.declared.code.Code.{Code}
use Rattle.program.specs.declared.code.Op.TheVariants as op
use Rattle.rules.specs.Runs.{main_of}
use Rattle.rules.specs.States.{Environment, Frame, Account, st, finished, calls, builds, if_test, if_arm, begin_part, let_binding, scope_end, case_test, head_value, next_argument, body_value, main_value}
use Rattle.rules.specs.Steps.{Sizes, hand}

-- what handing a value over is to a machine
abbrev pub HandedBy : Program → Sizes → Cells → List Frame → Environment → Account → Tree → Machine → Cells → Result ⊤ FaultKind → Machine → Cells → Frame → Type 0
HandedBy P Z m₀ K env a t r m turn r' m' f = Mirrors P Z m₀ (st (f ∷ K) env (finished t) a) r m → Moved P Z m₀ (st (f ∷ K) env (finished t) a) (hand P Z f K env a t) turn r' m'

abbrev pub HandedOut : Program → Sizes → Cells → List Frame → Environment → Account → Tree → Machine → Cells → List ℕ → Result ℕ Halt → Machine → Cells → List ℕ → Frame → Type 0
HandedOut P Z m₀ K env a t r m old turn r' m' new f = Mirrors P Z m₀ (st (f ∷ K) env (finished t) a) r m → Printed P Z m₀ (st (f ∷ K) env (finished t) a) old (hand P Z f K env a t) turn r' m' new

module _ {P : Program} {Z : Sizes} {m₀ m : Cells} {f : Frame} {K : List Frame} {env : Environment} {a : Account} {t : Tree} {v : Value} {r : Machine} where
  pub in_hand : r.control ≡ ahead.Finished v → Mirrors P Z m₀ (st (f ∷ K) env (finished t) a) r m → Rests P Z m₀ (f ∷ K) env a (v ∷ []) (more t none) r m
  in_hand e (mirrors R N) = subst (λ k. Rests P Z m₀ (f ∷ K) env a (value_in_hand k) (more t none) r m) e R

  pub waiting_for : {frame : Waiting} (H : Hands P Z m₀ f K env a t frame v r m) → Waits P r.script.now.code (names env) (f ∷ K) (frame ∷ H.others)
  waiting_for H = subst (Waits P r.script.now.code (names env) (f ∷ K)) H.stacked (in_hand H.value H.mirrored).frames

module _ {P : Program} {cs : List Code} where
  pub on_test : {G : Scope} {i : ℕ} {f : Frame} {K : List Frame} {fs : List Waiting} (Q : Frame → Type 0) → Waits P cs G (f ∷ K) (waiting.Test i ∷ fs)
      → ((p : ℕ) (x y : Expr) → PlacedAt P cs i p → StandsAt P cs G x (past P cs (i + 1)) → StandsAt P cs G y (past P cs (past P cs (i + 1))) → Waits P cs G K fs → Q (if_test p x y)) → Q f
  on_test Q (waits_test p x y w) g = g _ _ _ p x y w

  pub on_arm : {G : Scope} {i : ℕ} {f : Frame} {K : List Frame} {fs : List Waiting} (Q : Frame → Type 0) → Waits P cs G (f ∷ K) (waiting.Arm i ∷ fs) → ((p : ℕ) → PlacedAt P cs i p → Waits P cs G K fs → Q (if_arm p)) → Q f
  on_arm Q (waits_arm p w) g = g _ p w

  pub on_part : {G : Scope} {i j : ℕ} {f : Frame} {K : List Frame} {fs : List Waiting} (Q : Frame → Type 0) → Waits P cs G (f ∷ K) (waiting.Part i j ∷ fs)
      → ((p : ℕ) (es : Exprs) → PlacedAt P cs i p → StandsRow P cs G es j (past P cs i) → Waits P cs G K fs → Q (begin_part p es)) → Q f
  on_part Q (waits_part p r w) g = g _ _ p r w

  pub on_binding : {G : Scope} {i j n : ℕ} {f : Frame} {K : List Frame} {fs : List Waiting} (Q : Frame → Type 0) → Waits P cs G (f ∷ K) (waiting.Binding i j n ∷ fs)
      → ((p k m : ℕ) (x : Ident) (bs : Bindings) (e : Expr) → PlacedAt P cs i p → n ≡ m + (1 + binding_count bs) → StandsBindings P cs (Some x.bytes ∷ G) bs j k → StandsAt P cs (let_scope bs (Some x.bytes ∷ G)) e k
      → Waits P cs (drop m G) K fs → Q (let_binding p x bs e n)) → Q f
  on_binding Q (waits_binding m p n b e w) g = g _ _ m _ _ _ p n b e w

  pub on_leaving : {G : Scope} {i n : ℕ} {f : Frame} {K : List Frame} {fs : List Waiting} (Q : Frame → Type 0) → Waits P cs G (f ∷ K) (waiting.Leaving i n ∷ fs) → ((p : ℕ) → PlacedAt P cs i p → Waits P cs (drop n G) K fs → Q (scope_end p n)) → Q f
  on_leaving Q (waits_leaving p w) g = g _ p w

  pub on_tested : {G : Scope} {i : ℕ} {f : Frame} {K : List Frame} {fs : List Waiting} (Q : Frame → Type 0) → Waits P cs G (f ∷ K) (waiting.Tested i ∷ fs)
      → ((p : ℕ) (bs : Branches) → PlacedAt P cs i p → StandsBranches P cs G bs (past P cs (i + 1)) (past P cs i) → Waits P cs G K fs → Q (case_test p bs)) → Q f
  on_tested Q (waits_tested p b w) g = g _ _ p b w

  pub on_head : {G : Scope} {i : ℕ} {f : Frame} {K : List Frame} {fs : List Waiting} (Q : Frame → Type 0) → Waits P cs G (f ∷ K) (waiting.Head i ∷ fs)
      → ((p : ℕ) (es : Exprs) → PlacedAt P cs i p → StandsArguments P cs G es (past P cs (i + 1)) (past P cs i) → Waits P cs G K fs → Q (head_value p es)) → Q f
  on_head Q (waits_head p r w) g = g _ _ p r w

  pub on_argument : {G : Scope} {i j n : ℕ} {h : Held} {f : Frame} {K : List Frame} {fs : List Waiting} (Q : Frame → Type 0) → Waits P cs G (f ∷ K) (waiting.Argument i j h n ∷ fs)
      → ((p k : ℕ) (es : Exprs) → PlacedAt P cs i p → h ≡ held_of k → StandsArguments P cs (None ∷ G) es j (past P cs i) → Waits P cs (drop k G) K fs → Q (next_argument p (calls n) k es)) → Q f
  on_argument Q (waits_argument p h r w) g = g _ _ _ p h r w

  pub on_field : {G : Scope} {i j : ℕ} {f : Frame} {K : List Frame} {fs : List Waiting} (Q : Frame → Type 0) → Waits P cs G (f ∷ K) (waiting.Field i j ∷ fs)
      → ((p c n k : ℕ) (es : Exprs) → PlacedAt P cs i p → (at P cs i).op ≡ op.Build c n → n ≡ k + (1 + argument_count es) → StandsArguments P cs (None ∷ G) es j (past P cs i) → Waits P cs (drop k G) K fs
      → Q (next_argument p (builds c) k es)) → Q f
  on_field Q (waits_field p o n r w) g = g _ _ _ _ _ p o n r w

  pub on_body : {G : Scope} {i n : ℕ} {f : Frame} {K : List Frame} {fs : List Waiting} (Q : Frame → Type 0) → Waits P cs G (f ∷ K) (waiting.Body i n ∷ fs)
      → ((p : ℕ) (env : Environment) → PlacedAt P cs i p → length G ≡ n → Waits P cs (names env) K fs → Q (body_value p env)) → Q f
  on_body Q (waits_body p n w) g = g _ _ p n w

  pub on_main : {G : Scope} {f : Frame} {K : List Frame} {fs : List Waiting} (Q : Frame → Type 0) → Waits P cs G (f ∷ K) (waiting.Main ∷ fs)
      → ((p : ℕ) (d : Define) → main_of P ≡ Some d → p ≡ d.place → G ≡ [] → Waits P cs [] K fs → Q (main_value p)) → Q f
  on_main Q (waits_main d p w) g = g _ _ d p refl w

  pub row_next : {G : Scope} {es : Exprs} {i j : ℕ} (Q : Exprs → Type 0) → StandsRow P cs G es i j → i < j → ((e : Expr) (es : Exprs) → StandsAt P cs G e i → StandsRow P cs G es (past P cs i) j → Q (and_expr e es)) → Q es
  row_next Q (row_none l) h g = absurd (omega arith)
  row_next Q (row_more l e r) h g = g _ _ e r

  pub row_done : {G : Scope} {es : Exprs} {i j : ℕ} (Q : Exprs → Type 0) → StandsRow P cs G es i j → j ≤ i → Q no_exprs → Q es
  row_done Q (row_none l) h q = q
  row_done Q (row_more l e r) h q = absurd (omega arith)

  pub arguments_next : {G : Scope} {es : Exprs} {i j : ℕ} (Q : Exprs → Type 0) → StandsArguments P cs G es i j → i < j
      → ((e : Expr) (es : Exprs) → StandsAt P cs G e i → StandsArguments P cs (None ∷ G) es (past P cs i) j → Q (and_expr e es)) → Q es
  arguments_next Q (arguments_none l) h g = absurd (omega arith)
  arguments_next Q (arguments_more l e r) h g = g _ _ e r

  pub arguments_done : {G : Scope} {es : Exprs} {i j : ℕ} (Q : Exprs → Type 0) → StandsArguments P cs G es i j → j ≤ i → Q no_exprs → Q es
  arguments_done Q (arguments_none l) h q = q
  arguments_done Q (arguments_more l e r) h q = absurd (omega arith)
