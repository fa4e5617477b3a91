-- The fault for want of cells comes neither early nor late.
use Rattle.std.proofs.Common.{◌≡◌, ℕ, zero, suc, ◌+◌, ◌-◌, ◌<◌, ◌≤◌, List, [], ◌∷◌, ◌++◌, length, None, Option, sym, refl, ap, ◌∙◌, subst, arith}
use Rattle.basis.specs.declared.function.Basis.{Basis}
use Rattle.program.specs.Programs.{Program}
use Rattle.rules.specs.declared.answers.End.{End}
use Rattle.rules.specs.declared.answers.End.TheVariants.{Faulted, Paused}
use Rattle.rules.specs.declared.fault.Fault.{Fault}
use Rattle.rules.specs.declared.fault.FaultKind.{FaultKind}
use Rattle.rules.specs.declared.fault.FaultKind.TheVariants.{TooFewCells, Stuck}
use Rattle.rules.specs.Cells.{needed_cells, free_cells, with_cells}
use Rattle.rules.specs.Histories.{Call, answer, reached}
use Rattle.rules.specs.Laws.{Unhindered, ExactlyShort, ShortOfCells}
use Rattle.rules.specs.Runs.{Run, main_of, opened_run, stepped, fault_there, Turn, ends, moves, turn, next_place, is_over, Answer, stopped, after, advance, account_of}
use Rattle.rules.specs.States.{State, st, opened, enter, finished, over, held}
use Rattle.rules.specs.Steps.{Outcome, goes, fails, stuck, Sizes, step}
use Rattle.rules.proofs.Accounting.{accounts}
use Rattle.rules.proofs.Advances.{Going, going_opened, going_enter, going_finished}
use Rattle.rules.proofs.Shortage.{Other, Exact, exact_calm, exact_goes, exact_short, exact_fails, exact_stuck, step_exact}
use Rattle.rules.proofs.Stopping.{none_ended}
use Rattle.rules.proofs.Turns.{Ready, Seen, seen_fault, seen_over, seen_paused, seen_spent, seen_fails, seen_stuck, seen_full, seen_step, seen, turn_fails}

module _ (P : Program) (Z : Sizes) (allowance : ℕ) where
  -- an advance of a run without a fault stops at a run without one, where a turn says why
  pub record Stopped (k : ℕ) (o : Answer) : Type 0 where
    pub room : ℕ
    pub run : Run
    pub whole : run.fault ≡ None
    pub state : run.state ≡ o.run.state
    pub steps : run.steps ≡ o.run.steps
    pub turn : turn P Z allowance (k - o.steps) room run ≡ ends o.end o.run

  kept_place : (left room : ℕ) (r : Run) {e : End} {n : Run} → Seen P Z allowance left room r (ends e n) → (r.state ≡ n.state) × (r.steps ≡ n.steps)
  kept_place left room r (seen_fault e) = (refl, refl)
  kept_place left room r (seen_over e h) = (refl, refl)
  kept_place left room r (seen_paused h e) = (refl, refl)
  kept_place left room r (seen_spent h l a) = (refl, refl)
  kept_place left room r (seen_fails h e) = (refl, refl)
  kept_place left room r (seen_stuck h e) = (refl, refl)
  kept_place left room r (seen_full h e l) = (refl, refl)

  stopped_ends : (k room : ℕ) (r : Run) (e : End) (n : Run) → r.fault ≡ None → turn P Z allowance k room r ≡ ends e n → Seen P Z allowance k room r (ends e n) → Stopped k (stopped e n)
  stopped_ends k room r e n h t s =
      let same : k ≡ k - 0 = omega arith in
      let q = kept_place k room r s in
      record { room = room; run = r; whole = h; state = q.0; steps = q.1; turn = subst (λ (k : ℕ). turn P Z allowance k room r ≡ ends e n) same t }

  stopped_none : (room : ℕ) (r : Run) (t : Turn) → r.fault ≡ None → turn P Z allowance 0 room r ≡ t → Seen P Z allowance 0 room r t → Stopped 0 (elim t [ ends e n ↦ stopped e n | moves bytes n ↦ stopped Paused r ])
  stopped_none room r (ends e n) h t s = stopped_ends 0 room r e n h t s
  stopped_none room r _ h t (seen_step i e l) = absurd (i.some refl)

  stopped_more : (k room : ℕ) (r : Run) (t : Turn) → r.fault ≡ None → turn P Z allowance (suc k) room r ≡ t → Seen P Z allowance (suc k) room r t
      → ((room : ℕ) (r : Run) → r.fault ≡ None → Stopped k (advance P Z allowance k room r))
      → Stopped (suc k) (elim t [ ends e n ↦ stopped e n | moves bytes n ↦ after bytes (advance P Z allowance k (room - length bytes) n) ])
  stopped_more k room r (ends e n) h t s next = stopped_ends (suc k) room r e n h t s
  stopped_more k room r _ h t (seen_step {bytes = bytes} {s = s} i e l) next =
      let o = advance P Z allowance k (room - length bytes) (stepped s r) in
      let w = next (room - length bytes) (stepped s r) refl in
      let same : k - o.steps ≡ suc k - (1 + o.steps) = omega arith in
      record { room = w.room; run = w.run; whole = w.whole; state = w.state; steps = w.steps; turn = subst (λ (k : ℕ). turn P Z allowance k w.room w.run ≡ ends o.end o.run) same w.turn }

  stopped_at : (k room : ℕ) (r : Run) → r.fault ≡ None → Stopped k (advance P Z allowance k room r)
  unfolding advance
  stopped_at zero room r h = stopped_none room r (turn P Z allowance 0 room r) h refl (seen P Z allowance 0 room r)
  stopped_at (suc k) room r h = stopped_more k room r (turn P Z allowance (suc k) room r) h refl (seen P Z allowance (suc k) room r) (stopped_at k)

  pub over_none : {s : State} → Going s → is_over P Z allowance s ≡ None
  over_none going_opened = refl
  over_none going_enter = refl
  over_none going_finished = refl

  goes_on : (s : State) → is_over P Z allowance s ≡ None → Going s
  goes_on (st K env opened a) e = going_opened
  goes_on (st K env (enter x) a) e = going_enter
  goes_on (st K env (finished v) a) e = going_finished
  goes_on (st K env over a) e = none_ended P Z allowance (sym e)

  abbrev taken_by : Outcome → ℕ
  taken_by (goes bytes s) = (account_of s).taken
  taken_by (fails kind f) = 0
  taken_by stuck = 0

  abbrev end_of : Turn → End
  end_of (ends e n) = e
  end_of (moves bytes n) = Paused

  abbrev kind_of : End → FaultKind
  kind_of (Faulted f) = f.kind
  kind_of _ = Stuck

  -- what the comparison with a step that has cells enough says of a step that faults, and of one that is taken
  short_of : {cells m h t : ℕ} {o o' : Outcome} {f : Option Basis} → Exact cells m h t o o' → o ≡ fails TooFewCells f → (cells < m + h) × (bytes : List ℕ) × (s : State) × (o' ≡ goes bytes s)
  short_of (exact_calm e k) q = let z : ◌≡◌ {A = ℕ} 0 1 = cc in absurd (omega arith)
  short_of (exact_goes l k) q = let z : ◌≡◌ {A = ℕ} 0 1 = cc in absurd (omega arith)
  short_of (exact_short l) q = (l, _, _, refl)
  short_of (exact_fails {kind = kind} k) q = let same : kind ≡ TooFewCells = cc in absurd (subst Other same k)
  short_of exact_stuck q = let z : ◌≡◌ {A = ℕ} 0 1 = cc in absurd (omega arith)

  goes_of : {cells m h t : ℕ} {o o' : Outcome} {bytes : List ℕ} {s : State} → Exact cells m h t o o' → o ≡ goes bytes s → o' ≡ goes bytes s
  goes_of (exact_calm e k) q = q
  goes_of (exact_goes l k) q = q
  goes_of (exact_short l) q = let z : ◌≡◌ {A = ℕ} 0 1 = cc in absurd (omega arith)
  goes_of (exact_fails k) q = q
  goes_of exact_stuck q = q

  taken_of : {cells m h t : ℕ} {o o' : Outcome} {bytes : List ℕ} {s : State} → h ≤ cells → Exact cells m h t o o' → o ≡ goes bytes s → ((account_of s).taken ≡ t + m) × (m ≤ cells - h)
  taken_of {t = t} {s = s} f (exact_calm {s = s'} e k) q = let same : (account_of s').taken ≡ (account_of s).taken = ap taken_by q in (omega arith, omega arith)
  taken_of {t = t} {s = s} f (exact_goes {s = s'} l k) q = let same : (account_of s').taken ≡ (account_of s).taken = ap taken_by q in (omega arith, omega arith)
  taken_of f (exact_short l) q = let z : ◌≡◌ {A = ℕ} 0 1 = cc in absurd (omega arith)
  taken_of f (exact_fails k) q = let z : ◌≡◌ {A = ℕ} 0 1 = cc in absurd (omega arith)
  taken_of f exact_stuck q = let z : ◌≡◌ {A = ℕ} 0 1 = cc in absurd (omega arith)

  -- a step that would go, but for the cells, faults for want of them
  faults_of : {cells m h t : ℕ} {o o' : Outcome} {bytes : List ℕ} {s : State} → cells < m + h → h ≤ cells → Exact cells m h t o o' → o' ≡ goes bytes s → o ≡ fails TooFewCells None
  faults_of l f (exact_calm e k) q = absurd (omega arith)
  faults_of l f (exact_goes e k) q = absurd (omega arith)
  faults_of l f (exact_short e) q = refl
  faults_of l f (exact_fails k) q = let z : ◌≡◌ {A = ℕ} 0 1 = cc in absurd (omega arith)
  faults_of l f exact_stuck q = let z : ◌≡◌ {A = ℕ} 0 1 = cc in absurd (omega arith)

  module _ (s : State) (fits : held s ≤ Z.cells) where
    -- the comparison, over any number of cells
    compared : (n : ℕ) → Exact n (needed_cells P s) (held s) (account_of s).taken (step P (with_cells n Z) (main_of P) s) (step P (with_cells (needed_cells P s + held s) Z) (main_of P) s)
    compared n = step_exact P (with_cells n Z) (main_of P) (needed_cells P s + held s) s refl

    -- what an advance says that stops here
    module _ (left room : ℕ) (r : Run) (here : r.state ≡ s) (whole : r.fault ≡ None) where
      step_here : {o : Outcome} → step P Z (main_of P) r.state ≡ o → step P Z (main_of P) s ≡ o
      step_here e = ap (step P Z (main_of P)) (sym here) ∙ e

      -- it faults for want of cells: nothing else stops the step
      why : {e : End} {n : Run} (f : Fault) → Seen P Z allowance left room r (ends e n) → e ≡ Faulted f → f.kind ≡ TooFewCells
          → (Unhindered P Z allowance left s r.steps) × (free_cells Z s < needed_cells P s)
      why f (seen_fault e) q k = let z : ◌≡◌ {A = ℕ} 0 1 = cc in absurd (omega arith)
      why f (seen_over e h) q k = let z : ◌≡◌ {A = ℕ} 0 1 = cc in absurd (omega arith)
      why f (seen_paused h e) q k = let z : ◌≡◌ {A = ℕ} 0 1 = cc in absurd (omega arith)
      why f (seen_spent h l a) q k = absurd (subst Other (ap kind_of q ∙ k) tt)
      why f (seen_fails {kind = kind} {f = g} h e) q k =
          let same : kind ≡ TooFewCells = ap kind_of q ∙ k in
          let w = short_of (compared Z.cells) (step_here e ∙ ap (λ (k : FaultKind). fails k g) same) in
          (record { going = over_none (subst Going here h.live.going); counted = omega (arith, h.some); allowed = h.allowed; cells = _; bytes = w.1; next = w.2; taken = w.3 }, omega (arith, w.0))
      why f (seen_stuck h e) q k = absurd (subst Other (ap kind_of q ∙ k) tt)
      why f (seen_full h e l) q k = let z : ◌≡◌ {A = ℕ} 0 1 = cc in absurd (omega arith)

      -- the other way round
      must : {e : End} {n : Run} → turn P Z allowance left room r ≡ ends e n → Unhindered P Z allowance left s r.steps → free_cells Z s < needed_cells P s
          → (f : Fault) × (e ≡ Faulted f) × (f.kind ≡ TooFewCells)
      must {e} {n} t u l =
          let ready : Ready P Z allowance left r = record { live = record { whole = whole; going = subst Going (sym here) (goes_on s u.going) }; some = λ z. absurd (omega (arith, u.counted)); allowed = u.allowed } in
          let plenty = goes_of (compared u.cells) u.taken in
          let no = faults_of (omega arith) fits (compared Z.cells) plenty in
          let turned = turn_fails P Z allowance left room r ready (ap (step P Z (main_of P)) here ∙ no) in
          let same : ◌≡◌ {A = Turn} (ends (Faulted (fault_there P (next_place P Z allowance r) TooFewCells None)) _) (ends e n) = sym turned ∙ t in
          (fault_there P (next_place P Z allowance r) TooFewCells None, sym (ap end_of same), refl)

  module _ (k : ℕ) (o : Answer) (w : Stopped k o) (fits : held o.run.state ≤ Z.cells) where
    abbrev Free : ℕ → Type 0
    Free steps = Unhindered P Z allowance (k - o.steps) o.run.state steps

    early : (f : Fault) → o.end ≡ Faulted f → f.kind ≡ TooFewCells → Free o.run.steps × (free_cells Z o.run.state < needed_cells P o.run.state)
    early f e q =
        let h = why o.run.state fits (k - o.steps) w.room w.run w.state w.whole f (subst (Seen P Z allowance (k - o.steps) w.room w.run) w.turn (seen P Z allowance (k - o.steps) w.room w.run)) e q in
        (subst Free w.steps h.0, h.1)

    late : Free o.run.steps → free_cells Z o.run.state < needed_cells P o.run.state → (f : Fault) × (o.end ≡ Faulted f) × (f.kind ≡ TooFewCells)
    late u l = must o.run.state fits (k - o.steps) w.room w.run w.state w.whole w.turn (subst Free (sym w.steps) u) l

  module _ (r : Run) (c : Call) (fits : held r.state ≤ Z.cells) (later : held (answer P Z allowance r c).run.state ≤ Z.cells) where
    taking : (bytes : List ℕ) (s : State) → step P Z (main_of P) r.state ≡ goes bytes s → ((account_of s).taken ≡ (account_of r.state).taken + needed_cells P r.state) × (needed_cells P r.state ≤ free_cells Z r.state)
    taking bytes s e = taken_of fits (compared r.state fits Z.cells) e

    exactly : ExactlyShort P Z allowance r c (answer P Z allowance r c)
    exactly = record {
      hindered = λ f h e k. (early c.count (answer P Z allowance r c) (stopped_at c.count c.room r h) later f e k).0;
      short = λ f h e k. (early c.count (answer P Z allowance r c) (stopped_at c.count c.room r h) later f e k).1;
      faults = λ h u l. late c.count (answer P Z allowance r c) (stopped_at c.count c.room r h) later u l;
      takes = λ bytes s e. (taking bytes s e).0;
      enough = λ bytes s e. (taking bytes s e).1;
    }

-- one more advance at the end of a list
reached_more : (P : Program) (Z : Sizes) (allowance : ℕ) (r : Run) (cs : List Call) (c : Call) → reached P Z allowance r (cs ++ (c ∷ [])) ≡ (answer P Z allowance (reached P Z allowance r cs) c).run
reached_more P Z allowance r [] c = refl
reached_more P Z allowance r (d ∷ cs) c = reached_more P Z allowance (answer P Z allowance r d).run cs c

pub short_of_cells : ShortOfCells
short_of_cells P Z allowance input cs c r e =
    let here = (accounts P Z allowance input cs).within in
    let there = (accounts P Z allowance input (cs ++ (c ∷ []))).within in
    let last = subst (λ (r : Run). held r.state ≤ Z.cells) (reached_more P Z allowance (opened_run input) cs c) there in
    subst (λ (r : Run). ExactlyShort P Z allowance r c (answer P Z allowance r c)) e (exactly P Z allowance (reached P Z allowance (opened_run input) cs) c here last)
