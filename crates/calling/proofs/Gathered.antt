-- Gathering arguments, and building data of them.
use Rattle.std.proofs.Common.{◌≡◌, ℕ, suc, ◌+◌, ◌<◌, ◌⊎◌, inl, inr, ⊎_elim, true, List, [], ◌∷◌, ◌++◌, map, length, get_or, reverse, take, drop, min, option_map, Some, None, Option, sym, refl, ap, ◌∙◌, subst, arith}
use Rattle.std.proofs.lemmas.List.{drop-map}
use Rattle.std.proofs.lemmas.Option.{slice_get_within, get_or_from_slice_get, slice_get-map}
use Rattle.std.specs.List.{slice_get}
use Rattle.calling.specs.Gathering.{Misses}
use Rattle.cells.specs.Meaning.{Cells, TakenAt, Full as AllLive}
use Rattle.cells.specs.Records.{Made}
use Rattle.cells.specs.declared.records.CellRecord.{CellRecord}
use Rattle.cells.specs.declared.refusals.StoreRefusal.{StoreRefusal}
use Rattle.cells.specs.declared.values.Value.{Value}
use Rattle.cells.specs.declared.values.Value.TheVariants.{Cell, Unit as Nothing}
use Rattle.data.proofs.Outs.{join, tally}
use Rattle.data.specs.Taking.{Out}
use Rattle.data.specs.Trees.{Tree, Trees, none, more, built}
use Rattle.grammar.specs.Trees.{Exprs}
use Rattle.machine.proofs.Arguments.{onto, onto_append, Takes, takes, takes_short, taken, names_onto, turned, arguments_hold, holds_onto}
use Rattle.machine.proofs.Building.{built_out, cell_free, cells_full}
use Rattle.machine.proofs.Cells.{capped_add}
use Rattle.machine.proofs.Needs.{build_fits, build_lacks}
use Rattle.machine.proofs.Names.{same_full}
use Rattle.machine.proofs.Resting.{changed}
use Rattle.machine.specs.Holding.{values_in, value_in, is_full, holds, trees_in, names, kept, full_value}
use Rattle.machine.specs.Mirrors.{Rests}
use Rattle.machine.specs.Waiting.{Waits}
use Rattle.machine.specs.declared.frame.Frame.{Frame as Waiting}
use Rattle.machine.specs.declared.machine.Machine.{Machine}
use Rattle.machine.specs.Holding.{Slot}
use Rattle.program.specs.Programs.{Program}
use Rattle.rules.specs.declared.fault.FaultKind.TheVariants.{TooFewCells}
use Rattle.rules.specs.States.{Environment, Frame, Account, builds, argument, next_argument, takes as takes_cells, st, finished}
use Rattle.rules.specs.Steps.{goes, fails, stuck, Sizes, Taken, took, short, take_arguments, build, apply}
use Rattle.stack.specs.Items.{tops, room_of}
use Rattle.stack.specs.declared.Stack.{Stack}

full_slot : (o : _) (v : Value) → Some v ≡ full_value o → o ≡ Some (Some v)
full_slot None v e = absurd (cc)
full_slot (Some (Some u)) v e = cc
full_slot (Some None) v e = absurd (cc)

-- the value of a slot is in its row of values
pub slot_value : (ss : List Slot) (d : ℕ) (v : Value) → Some v ≡ full_value (slice_get ss d) → (d < length ss) × (get_or (values_in ss) d Nothing ≡ v)
slot_value ss d v e =
    let at = full_slot (slice_get ss d) v e in
    (slice_get_within ss d (Some v) at, get_or_from_slice_get (values_in ss) d v Nothing (slice_get-map value_in ss d ∙ ap (option_map value_in) at))

module _ {P : Program} {Z : Sizes} {m₀ m : Cells} {K : List Frame} {env : Environment} {a : Account} {p c k : ℕ} {es : Exprs} {v : Value} {t : Tree} {r : Machine} {top : Waiting} {others : List Waiting}
    (R : Rests P Z m₀ (next_argument p (builds c) k es ∷ K) env a (v ∷ []) (more t none) r m) (stacked : tops r.frames ≡ top ∷ others) (w : Waits P r.script.now.code (drop k (names env)) K others) where
  -- a slot that is not full is no argument's
  missing_by : (x : Taken) → Takes (k + 1) (argument t ∷ env) x → Misses k (tops r.slots) → build P Z c K (argument t ∷ env) a x ≡ stuck
  unfolding build
  missing_by short takes_short g = refl
  missing_by (took ts left) (takes e n) g = absurd (no_slot (slice_get (tops r.slots) g.depth) g.lacks
      (same_full (tops r.slots) (env ++ kept K) g.depth R.full ∙ (sym (slice_get-map holds (env ++ kept K) g.depth)
      ∙ (ap (λ q. slice_get (map holds (q ++ kept K)) (suc g.depth)) e ∙ (ap (λ q. slice_get (map holds q) (suc g.depth)) (onto_append ts left (kept K)) ∙ arguments_hold ts (left ++ kept K) (suc g.depth) (omega (arith, g.among, n)))))))
    where
      no_slot : (o : Option Slot) → full_value o ≡ None → option_map is_full o ≡ Some true → ⊥
      no_slot None e h = cc
      no_slot (Some (Some v)) e h = cc
      no_slot (Some None) e h = cc

  pub missing : Misses k (tops r.slots) → apply P Z p (builds c) (k + 1) K (argument t ∷ env) a ≡ stuck
  unfolding apply
  missing = missing_by (take_arguments (k + 1) (argument t ∷ env)) (taken (k + 1) (argument t ∷ env))

  pub record Arguments : Type 0 where
    pub fields : Trees
    pub left : Environment
    pub is : take_arguments (k + 1) (argument t ∷ env) ≡ took fields left
    pub entries : argument t ∷ env ≡ onto fields left
    pub count : tally fields ≡ k + 1

  arguments_by : (x : Taken) → take_arguments (k + 1) (argument t ∷ env) ≡ x → Takes (k + 1) (argument t ∷ env) x → (x ≡ short) ⊎ Arguments
  arguments_by short e takes_short = inl refl
  arguments_by (took ts left) e (takes is n) = inr (record { fields = ts; left = left; is = e; entries = is; count = n })

  by_arguments : (take_arguments (k + 1) (argument t ∷ env) ≡ short) ⊎ Arguments
  by_arguments = arguments_by (take_arguments (k + 1) (argument t ∷ env)) refl (taken (k + 1) (argument t ∷ env))

  shortly : take_arguments (k + 1) (argument t ∷ env) ≡ short → apply P Z p (builds c) (k + 1) K (argument t ∷ env) a ≡ stuck
  unfolding apply build
  shortly e = ap (build P Z c K (argument t ∷ env) a) e

  taken_rule : (A : Arguments) → apply P Z p (builds c) (k + 1) K (argument t ∷ env) a ≡ build P Z c K (argument t ∷ env) a (took A.fields A.left)
  unfolding apply
  taken_rule A = ap (build P Z c K (argument t ∷ env) a) A.is

  built_rests : (A : Arguments) (fs : Stack Waiting) (ss : Stack Slot) (i count : ℕ) (row : List Value) (rec : CellRecord) (m' : Cells) → room_of fs ≡ room_of r.frames → tops fs ≡ drop 1 (tops r.frames)
      → room_of ss ≡ room_of r.slots → tops ss ≡ drop k (tops r.slots) → row ≡ reverse (v ∷ take k (values_in (tops r.slots))) → length row ≡ k + 1 → Made c row rec → TakenAt m rec i m'
      → count ≡ min (r.taken + 1) 18446744073709551615
      → Rests P Z m₀ K A.left (takes_cells 1 a) (Cell i ∷ []) (more (built c A.fields) none) (changed r fs ss r.control count r.given) m'
  built_rests A fs ss i count row rec m' froom ftops sroom stops is long made grab counted =
      let vals = values_in (tops r.slots) in
      let L = A.left ++ kept K in
      let one : suc k ≡ k + 1 = omega arith in
      let entries : (argument t ∷ env) ++ kept K ≡ onto A.fields L = ap (λ q. q ++ kept K) A.entries ∙ onto_append A.fields A.left (kept K) in
      let all : Out m (v ∷ vals) (trees_in (onto A.fields L)) m₀ = subst (λ q. Out m (v ∷ vals) (trees_in q) m₀) entries R.data_held in
      let turn : Out m (reverse (take (suc k) (v ∷ vals)) ++ drop (suc k) (v ∷ vals)) (join A.fields (trees_in L)) m₀ =
      subst (λ n. Out m (reverse (take n (v ∷ vals)) ++ drop n (v ∷ vals)) (join A.fields (trees_in L)) m₀) (A.count ∙ sym one) (turned A.fields (v ∷ vals) L all) in
      let below : drop k vals ≡ values_in (tops ss) = drop-map value_in k (tops r.slots) ∙ ap values_in (sym stops) in
      let rows : Out m (row ++ values_in (tops ss)) (join A.fields (trees_in L)) m₀ =
      subst (λ q. Out m (q ++ values_in (tops ss)) (join A.fields (trees_in L)) m₀) (sym is) (subst (λ q. Out m (reverse (v ∷ take k vals) ++ q) (join A.fields (trees_in L)) m₀) below turn) in
      let ns : drop k (names env) ≡ names A.left =
      ap (λ n. drop n (names (argument t ∷ env))) one ∙ (ap (λ q. drop (k + 1) (names q)) A.entries ∙ (ap (λ n. drop n (names (onto A.fields A.left))) (sym A.count) ∙ names_onto A.fields A.left)) in
      let fulls : map is_full (tops ss) ≡ map holds L =
      ap (map is_full) stops ∙ (sym (drop-map is_full k (tops r.slots)) ∙ (ap (drop k) R.full
      ∙ (ap (λ n. drop n (map holds ((argument t ∷ env) ++ kept K))) one ∙ (ap (λ q. drop (k + 1) (map holds q)) entries ∙ (ap (λ n. drop n (map holds (onto A.fields L))) (sym A.count) ∙ holds_onto A.fields L))))) in
      record {
        ready = R.ready;
        frames_room = froom ∙ R.frames_room;
        slots_room = sroom ∙ R.slots_room;
        frames = subst (Waits P r.script.now.code (names A.left) K) (sym (ftops ∙ ap (drop 1) stacked)) (subst (λ G. Waits P r.script.now.code G K others) ns w);
        full = fulls;
        data_held = built_out made grab (A.count ∙ sym long) rows;
        cells = R.cells;
        input = R.input;
        taken = counted ∙ (ap (λ n. min (n + 1) 18446744073709551615) R.taken ∙ capped_add a.taken 1);
        given = R.given;
      }

  -- data is built, unless there are too few arguments
  pub build_done : (fs : Stack Waiting) (ss : Stack Slot) (i count : ℕ) (row : List Value) (rec : CellRecord) (m' : Cells) → room_of fs ≡ room_of r.frames → tops fs ≡ drop 1 (tops r.frames)
      → room_of ss ≡ room_of r.slots → tops ss ≡ drop k (tops r.slots) → row ≡ reverse (v ∷ take k (values_in (tops r.slots))) → length row ≡ k + 1 → Made c row rec → TakenAt m rec i m'
      → count ≡ min (r.taken + 1) 18446744073709551615
      → (apply P Z p (builds c) (k + 1) K (argument t ∷ env) a ≡ stuck)
      ⊎ ((fields : Trees) × (left : Environment) × (apply P Z p (builds c) (k + 1) K (argument t ∷ env) a ≡ goes [] (st K left (finished (built c fields)) (takes_cells 1 a)))
      × Rests P Z m₀ K left (takes_cells 1 a) (Cell i ∷ []) (more (built c fields) none) (changed r fs ss r.control count r.given) m')
  build_done fs ss i count row rec m' froom ftops sroom stops is long made grab counted =
      ⊎_elim (λ e. inl (shortly e))
      (λ A. inr (A.fields, A.left, taken_rule A ∙ build_fits P Z K (argument t ∷ env) a c A.fields A.left (omega (arith, cell_free R grab)), built_rests A fs ss i count row rec m' froom ftops sroom stops is long made grab counted))
      by_arguments

  -- no cell is free
  pub build_refused : {e : StoreRefusal} {m' : Cells} → AllLive m e m' → (apply P Z p (builds c) (k + 1) K (argument t ∷ env) a ≡ stuck) ⊎ (apply P Z p (builds c) (k + 1) K (argument t ∷ env) a ≡ fails TooFewCells None)
  build_refused full =
      ⊎_elim (λ e. inl (shortly e)) (λ A. inr (taken_rule A ∙ build_lacks P Z K (argument t ∷ env) a c A.fields A.left (omega (arith, cells_full R full)))) by_arguments
