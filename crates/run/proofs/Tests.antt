-- One turn of an advance: what a run in memory tests before a step, and the step, by what the rules say.
use Rattle.std.proofs.Common.{◌≡◌, ℕ, ◌+◌, ◌<◌, ◌≤◌, ◌≢◌, List, ◌++◌, length, drop, Some, None, Ok, Err, Option, Result, sym, refl, ap, ◌∙◌, subst, arith}
use Rattle.basis.specs.declared.function.Basis.{Basis}
use Rattle.cells.specs.Meaning.{Cells}
use Rattle.machine.specs.Mirrors.{Mirrors, mirrors, Printed, printed_on, printed_full, printed_not, printed_any}
use Rattle.machine.specs.Ready.{IsSymbol}
use Rattle.machine.specs.Waiting.{Next, next_opened, next_enter, next_finished, next_over}
use Rattle.machine.specs.declared.control.Control.{Control as Ahead}
use Rattle.machine.specs.declared.control.Control.TheVariants.{Over}
use Rattle.machine.specs.declared.halt.Halt.{Halt}
use Rattle.machine.specs.declared.halt.Halt.TheVariants as halt
use Rattle.machine.specs.declared.machine.Machine.{Machine}
use Rattle.program.specs.Programs.{Program, program}
use Rattle.program.specs.Scopes.{Scope}
use Rattle.program.specs.declared.code.Code.{Code}
use Rattle.rules.specs.declared.answers.End.{End}
use Rattle.rules.specs.declared.answers.End.TheVariants as end
use Rattle.rules.specs.declared.fault.Fault.{Fault}
use Rattle.rules.specs.declared.fault.FaultKind.{FaultKind}
use Rattle.rules.specs.declared.fault.FaultKind.TheVariants.{AllowanceSpent}
use Rattle.rules.specs.Runs as rules
use Rattle.rules.specs.Runs.{main_of, stepped, with_fault, fault_there, next_place, ends, moves, account_of, is_over, allowed}
use Rattle.rules.specs.States.{Environment, Frame, Account, Control, State, st, over}
use Rattle.rules.specs.Steps.{Outcome, goes, fails, Sizes, step, step_place}
use Rattle.rules.proofs.Advances.{Going, going_opened, going_enter, going_finished, OutcomeHas}
use Rattle.rules.proofs.Checked.{types, script_ok, main_ok}
use Rattle.rules.proofs.Shortage.{Exact, exact_calm, exact_goes, exact_short, exact_fails, exact_stuck, step_exact}
use Rattle.rules.proofs.Soundness.{Unstuck, Sound, step_good}
use Rattle.rules.proofs.Turns.{Live, Ready, turn_over, turn_paused, turn_spent, turn_fails, turn_full, turn_steps}
use Rattle.run.specs.Insides.{Inside, Ends, Moves, Turned, turned_ends, turned_moves, Failed}
use Rattle.run.specs.Openings.{Opening, sizes_of, turn_of}
use Rattle.run.specs.declared.runs.Run.{Run}
use Rattle.stepping.proofs.Literals.{literals}
use Rattle.stepping.proofs.Speech.{step_leads, Leads}
use Rattle.typing.specs.Types.{Ty}

-- a step takes no more cells than were free at opening
taken_by : {cells n h t : ℕ} {O O' : Outcome} → Exact cells n h t O O' → (bytes : List ℕ) (s : State) → O ≡ goes bytes s → (account_of s).taken ≤ t + cells
taken_by {t = t} (exact_calm {s = x} m e) bytes s q = let k : x ≡ s = cc in omega (arith, sym e ∙ ap (λ (s : State). (account_of s).taken) k)
taken_by {t = t} (exact_goes {s = x} m e) bytes s q = let k : x ≡ s = cc in omega (arith, m, sym e ∙ ap (λ (s : State). (account_of s).taken) k)
taken_by (exact_short m) bytes s q = absurd (cc)
taken_by (exact_fails k) bytes s q = absurd (cc)
taken_by exact_stuck bytes s q = absurd (cc)

going_by : {P : Program} {cs : List Code} {G : Scope} {K : List Frame} {env : Environment} {a : Account} {c : Control} {k : Ahead} → Next P cs G c k → k ≢ Over → Going (st K env c a)
going_by next_opened n = going_opened
going_by (next_enter s) n = going_enter
going_by next_finished n = going_finished
going_by next_over n = absurd (n refl)

ended_by : {P : Program} {cs : List Code} {G : Scope} {c : Control} {k : Ahead} → Next P cs G c k → k ≡ Over → c ≡ over
ended_by next_opened e = absurd (cc)
ended_by (next_enter s) e = absurd (cc)
ended_by next_finished e = absurd (cc)
ended_by next_over e = refl

going_in : {P : Program} {Z : Sizes} {m₀ m : Cells} {s : State} {M : Machine} → Mirrors P Z m₀ s M m → M.control ≢ Over → Going s
going_in (mirrors R N) n = going_by N n

over_in : {P : Program} {Z : Sizes} {m₀ m : Cells} {s : State} {M : Machine} (Y : Sizes) (allowance : ℕ) → Mirrors P Z m₀ s M m → M.control ≡ Over → is_over P Y allowance s ≡ Some end.Ended
over_in {P} Y allowance (mirrors {K = K} {env = env} {a = a} R N) e = ap (λ c. is_over P Y allowance (st K env c a)) (ended_by N e)

-- no more cells are free than there are
free_within : {P : Program} {Z : Sizes} {m₀ m : Cells} {s : State} {M : Machine} → Mirrors P Z m₀ s M m → length m₀ ≤ 65535 → Z.cells ≤ 65535
free_within (mirrors R N) small = omega (arith, R.cells)

module _ (o : Opening) where
  -- what a step came to
  data Came (s : State) (old : List ℕ) (M : Machine) (m : Cells) (new : List ℕ) : Result ℕ Halt → Type 0 where
    came_on : {bytes : List ℕ} {n : ℕ} {s' : State} → step (program o.script) (sizes_of o) (main_of (program o.script)) s ≡ goes bytes s' → n ≡ length bytes → length bytes ≤ length old
        → new ≡ bytes ++ drop (length bytes) old → Mirrors (program o.script) (sizes_of o) o.cells s' M m → Came s old M m new (Ok n)
    came_full : {bytes : List ℕ} {s' : State} → step (program o.script) (sizes_of o) (main_of (program o.script)) s ≡ goes bytes s' → length old < length bytes → new ≡ old
        → Mirrors (program o.script) (sizes_of o) o.cells s M m → Came s old M m new (Err halt.OutputFull)
    came_not : {kind : FaultKind} {f : Option Basis} → step (program o.script) (sizes_of o) (main_of (program o.script)) s ≡ fails kind f → new ≡ old
        → Mirrors (program o.script) (sizes_of o) o.cells s M m → Came s old M m new (Err (halt.Failed kind f))

  came : {s : State} {old new : List ℕ} {M : Machine} {m : Cells} {t : Result ℕ Halt} (V : List Ty) (O : Outcome) → step (program o.script) (sizes_of o) (main_of (program o.script)) s ≡ O
      → OutcomeHas (Sound (program o.script) V) Unstuck O → Printed (program o.script) (sizes_of o) o.cells s old O t M m new → Came s old M m new t
  came V _ e h (printed_on n f w M) = came_on e n f w M
  came V _ e h (printed_full f w M) = came_full e f w M
  came V _ e h (printed_not w M) = came_not e w M
  came V _ e h printed_any = absurd h

  module _ {r : rules.Run} {run : Run} {m : Cells} (I : Inside o r run m) where
    abbrev P : Program
    P = program o.script

    abbrev Z : Sizes
    Z = sizes_of o

    live : run.fault ≡ None → run.machine.control ≢ Over → Live P Z (allowed o.allowance) r
    live e n = record { whole = sym I.fault ∙ e; going = going_in I.mirrored n }

    good : Going r.state → OutcomeHas (Sound P (types o.script I.lawful)) Unstuck (step P Z (main_of P) r.state)
    good g = step_good P (types o.script I.lawful) (script_ok o.script I.lawful) Z (main_of P) (main_ok o.script I.lawful) r.state g I.sound

    module _ (left : ℕ) (out : List ℕ) where
      pub has_ended : run.fault ≡ None → run.machine.control ≡ Over → Turned o out (turn_of o left (length out) r) (Ends end.Ended) out run m
      has_ended e k = subst (λ t. Turned o out t (Ends end.Ended) out run m) (sym (turn_over P Z (allowed o.allowance) left (length out) r (sym I.fault ∙ e) (over_in Z (allowed o.allowance) I.mirrored k))) (turned_ends refl I)

      pub has_paused : run.fault ≡ None → run.machine.control ≢ Over → left ≡ 0 → Turned o out (turn_of o left (length out) r) (Ends end.Paused) out run m
      has_paused e n z = subst (λ t. Turned o out t (Ends end.Paused) out run m) (sym (turn_paused P Z (allowed o.allowance) left (length out) r (live e n) z)) (turned_ends refl I)

      -- a fault of the next step, over a machine that mirrors the state still
      module _ (kind : FaultKind) (function : Option Basis) {old new : Run} {m' : Cells} {e : End}
          (M : Mirrors P Z o.cells r.state old.machine m') (allowance : old.allowance ≡ run.allowance) (steps : old.steps ≡ run.steps) (F : Failed old kind function e new) where
        abbrev f : Fault
        f = fault_there P (step_place (main_of P) r.state) kind function

        failed_inside : Inside o (with_fault f r) new m'
        failed_inside =
            let is = F.is P Z o.cells m' r.state M in
            subst (λ (n : Run). Inside o (with_fault f r) n m') (sym F.now) (record {
              lawful = I.lawful;
              mirrored = M;
              spoken = I.spoken;
              small = I.small;
              sound = I.sound;
              allowance = allowance ∙ I.allowance;
              steps = steps ∙ I.steps;
              fault = ap (λ (f : Fault). Some f) is;
              within = I.within;
              few = I.few;
            })

        failed_turn : {out' : List ℕ} → out' ≡ out → Turned o out (ends (end.Faulted f) (with_fault f r)) (Ends e) out' new m'
        failed_turn {out'} w =
            subst (λ (e : End). Turned o out (ends (end.Faulted f) (with_fault f r)) (Ends e) out' new m') (sym (F.answer ∙ ap (λ (f : Fault). end.Faulted f) (F.is P Z o.cells m' r.state M))) (turned_ends w failed_inside)

      pub has_spent : {new : Run} {b : End} → run.fault ≡ None → run.machine.control ≢ Over → left ≢ 0 → run.allowance ≤ run.steps → Failed run AllowanceSpent None b new
          → Turned o out (turn_of o left (length out) r) (Ends b) out new m
      has_spent {new} {b} e n l h F =
          subst (λ q. Turned o out q (Ends b) out new m) (sym (turn_spent P Z (allowed o.allowance) left (length out) r (live e n) l (omega (arith, I.allowance, I.steps, h))))
          (failed_turn AllowanceSpent None I.mirrored refl refl F refl)

      -- where a step is due
      module _ (e : run.fault ≡ None) (n : run.machine.control ≢ Over) (l : left ≢ 0) (h : run.steps < run.allowance) where
        due : Ready P Z (allowed o.allowance) left r
        due = record { live = live e n; some = l; allowed = omega (arith, I.allowance, I.steps, h) }

        stepped_inside : {bytes : List ℕ} {s : State} {M : Machine} {m' : Cells} {steps : ℕ} → step P Z (main_of P) r.state ≡ goes bytes s → Mirrors P Z o.cells s M m' → steps ≡ run.steps + 1
            → Inside o (stepped s r) (record { machine = M; allowance = run.allowance; steps = steps; fault = run.fault }) m'
        stepped_inside {bytes} {s} {M} q k c =
            let g = going_in I.mirrored n in
            let sound = subst (OutcomeHas (Sound P (types o.script I.lawful)) Unstuck) q (good g) in
            let spoken = subst (Leads (IsSymbol P)) q (step_leads (IsSymbol P) P Z (main_of P) r.state (literals r.state I.mirrored) I.spoken) in
            let some = taken_by (step_exact P Z (main_of P) _ r.state refl) bytes s q in
            let cells = free_within I.mirrored I.small in
            record {
              lawful = I.lawful;
              mirrored = k;
              spoken = spoken;
              small = I.small;
              sound = sound;
              allowance = I.allowance;
              steps = c ∙ ap (λ n. n + 1) I.steps;
              fault = e;
              within = omega (arith, I.within, I.allowance, I.steps, h);
              few = omega (arith, some, cells, I.few);
            }

        pub has_stepped : {M : Machine} {m' : Cells} {new : List ℕ} {k steps : ℕ} → steps ≡ run.steps + 1 → Printed P Z o.cells r.state out (step P Z (main_of P) r.state) (Ok k) M m' new
            → Turned o out (turn_of o left (length out) r) (Moves k) new (record { machine = M; allowance = run.allowance; steps = steps; fault = run.fault }) m'
        has_stepped {M} {m'} {new} {k} {steps} c p = by (came (types o.script I.lawful) (step P Z (main_of P) r.state) refl (good (going_in I.mirrored n)) p)
          where
            by : Came r.state out M m' new (Ok k) → Turned o out (turn_of o left (length out) r) (Moves k) new (record { machine = M; allowance = run.allowance; steps = steps; fault = run.fault }) m'
            by (came_on q b f w K) =
                subst (λ t. Turned o out t (Moves k) new (record { machine = M; allowance = run.allowance; steps = steps; fault = run.fault }) m') (sym (turn_steps P Z (allowed o.allowance) left (length out) r due q f))
                (turned_moves b f w (stepped_inside q K c))

        pub is_full : {M : Machine} {m' : Cells} {new : List ℕ} {stop : Halt} → stop ≡ halt.OutputFull → Printed P Z o.cells r.state out (step P Z (main_of P) r.state) (Err stop) M m' new
            → Turned o out (turn_of o left (length out) r) (Ends end.OutputFull) new (record { machine = M; allowance = run.allowance; steps = run.steps; fault = run.fault }) m'
        is_full {M} {m'} {new} b p = by (subst (λ x. Came r.state out M m' new (Err x)) b (came (types o.script I.lawful) (step P Z (main_of P) r.state) refl (good (going_in I.mirrored n)) p))
          where
            by : Came r.state out M m' new (Err halt.OutputFull) → Turned o out (turn_of o left (length out) r) (Ends end.OutputFull) new (record { machine = M; allowance = run.allowance; steps = run.steps; fault = run.fault }) m'
            by (came_full q f w K) =
                subst (λ t. Turned o out t (Ends end.OutputFull) new (record { machine = M; allowance = run.allowance; steps = run.steps; fault = run.fault }) m') (sym (turn_full P Z (allowed o.allowance) left (length out) r due q f))
                (turned_ends w (record { lawful = I.lawful; mirrored = K; spoken = I.spoken; small = I.small; sound = I.sound; allowance = I.allowance; steps = I.steps; fault = I.fault; within = I.within; few = I.few }))

        pub has_failed : {M : Machine} {m' : Cells} {new : List ℕ} {kind : FaultKind} {function : Option Basis} {now : Run} {t : End} {stop : Halt} → stop ≡ halt.Failed kind function → Printed P Z o.cells r.state out (step P Z (main_of P) r.state) (Err stop) M m' new
            → Failed (record { machine = M; allowance = run.allowance; steps = run.steps; fault = run.fault }) kind function t now → Turned o out (turn_of o left (length out) r) (Ends t) new now m'
        has_failed {M} {m'} {new} {kind} {function} {now} {t} b p F = by (subst (λ x. Came r.state out M m' new (Err x)) b (came (types o.script I.lawful) (step P Z (main_of P) r.state) refl (good (going_in I.mirrored n)) p))
          where
            by : Came r.state out M m' new (Err (halt.Failed kind function)) → Turned o out (turn_of o left (length out) r) (Ends t) new now m'
            by (came_not q w K) =
                subst (λ q. Turned o out q (Ends t) new now m') (sym (turn_fails P Z (allowed o.allowance) left (length out) r due q)) (failed_turn kind function K refl refl F w)
