-- An advance that took its steps, and then ends.
use Rattle.std.proofs.Common.{◌≡◌, ℕ, ◌+◌, ◌-◌, ◌<◌, ◌≤◌, ◌≢◌, Bool, List, [], ◌∷◌, ◌++◌, length, take, drop, min, Some, None, inl, inr, Option, sym, refl, ap, ◌∙◌, arith}
use Rattle.std.specs.Prelude.{IsTrue}
use Rattle.cells.specs.Meaning.{Cells}
use Rattle.basis.specs.declared.function.Basis.{Basis}
use Rattle.machine.specs.Mirrors as machine
use Rattle.machine.specs.declared.machine.Machine.{Machine}
use Rattle.program.specs.Programs.{program}
use Rattle.rules.specs.declared.answers.End.{End}
use Rattle.rules.specs.declared.answers.End.TheVariants.{Faulted}
use Rattle.rules.specs.declared.fault.Fault.{Fault}
use Rattle.rules.specs.declared.fault.FaultKind.{FaultKind}
use Rattle.rules.specs.Runs.{allowed}
use Rattle.rules.proofs.Cuts.{advance_ends}
use Rattle.rules.proofs.Turns.{turn_faulted}
use Rattle.run.proofs.Advancing.{EndedSo, underway_ends}
use Rattle.run.proofs.Following.{stands_more}
use Rattle.run.proofs.Tests.{has_ended, has_paused, has_spent, is_full, has_failed}
use Rattle.run.specs.Insides.{Inside, run_of, Underway, Stretched, rested, halted, Failed, Steady, Settled, settled_full, settled_failed, settled_over, settled_paused, settled_spent}
use Rattle.run.specs.Openings.{Opening, Made, made, sizes_of, run_after}
use Rattle.run.specs.Stands.{Stands}
use Rattle.run.specs.declared.runs.Run.{Run}
use Rattle.run.specs.declared.stretches.Stop.{Stop}
use Rattle.run.specs.declared.stretches.Stretch.{Stretch}

module _ (o : Opening) (h : List Made) {run : Run} {m₀ : Cells} (S : Stands o h run m₀) (count : ℕ) where
  -- a run that has faulted answers so from then on
  pub stands_faulted : (room : ℕ) (f : Fault) → run.fault ≡ Some f → Stands o (h ++ made count room (record { end = Faulted f; steps = 0; bytes = 0 }) [] ∷ []) run m₀
  stands_faulted room f e =
      stands_more o h count room (record { end = Faulted f; steps = 0; bytes = 0 }) [] (run_after o h) S
      (advance_ends (program o.script) (sizes_of o) (allowed o.allowance) count room (run_after o h) (turn_faulted (program o.script) (sizes_of o) (allowed o.allowance) count room (run_after o h) (sym S.inside.fault ∙ e))) refl S.inside

  -- what takes the steps begins so
  pub inside_at_first : run.fault ≡ None → Inside o (run_after o h) (run_of o (run_after o h) run.machine) m₀
  inside_at_first whole =
      let I = S.inside in
      record {
        lawful = I.lawful;
        mirrored = I.mirrored;
        spoken = I.spoken;
        small = I.small;
        sound = I.sound;
        allowance = refl;
        steps = refl;
        fault = sym whole ∙ I.fault;
        within = I.within;
        few = I.few;
      }

  module _ (whole : run.fault ≡ None) (most n : ℕ) (limit : most ≡ min count (run.allowance - run.steps)) (out : List ℕ) where
    -- the run with its numbers, as it is when the steps are taken
    abbrev counted_run : Machine → Run
    counted_run M = record { machine = M; allowance = run.allowance; steps = n; fault = run.fault }

    module _ (counted : Bool) where
      abbrev Ends : End → Run → Stretch → List ℕ → Cells → Type 0
      Ends e run' s new m = Stands o (h ++ made count (length out) (record { end = e; steps = s.steps; bytes = s.bytes }) (take s.bytes new) ∷ []) run' m

      inside_now : {steps bytes : ℕ} {new : List ℕ} {M : Machine} {m : Cells} (U : Underway o (run_after o h) count (length out) steps bytes new M m) → n ≡ run.steps + steps → Inside o U.here (counted_run M) m
      inside_now U c =
          let I = U.inside in
          record {
            lawful = I.lawful;
            mirrored = I.mirrored;
            spoken = I.spoken;
            small = I.small;
            sound = I.sound;
            allowance = S.inside.allowance;
            steps = omega (arith, c, S.inside.steps, U.counted);
            fault = whole ∙ I.fault;
            within = I.within;
            few = I.few;
          }

      ended : {e : End} {run' : Run} {steps bytes : ℕ} {new new' : List ℕ} {M : Machine} {m m' : Cells} (long : length new ≡ length out) (within : bytes ≤ length new) (U : Underway o (run_after o h) count (length out) steps bytes new M m)
          → EndedSo o (run_after o h) count (length out) steps bytes new long within U m' e new' run' → (written : List ℕ) → take bytes written ≡ U.said
          → Stands o (h ++ made count (length out) (record { end = e; steps = steps; bytes = bytes }) (take bytes written) ∷ []) run' m'
      ended {e} {steps = steps} {bytes = bytes} long within U E written w =
          stands_more o h count (length out) (record { end = e; steps = steps; bytes = bytes }) (take bytes written) E.next S
          (E.answer ∙ ap (λ bs. record { end = e; steps = steps; bytes = bs; run = E.next }) (sym w)) (sym (ap length w ∙ U.long)) E.inside

      pub settled : {e : End} {run' : Run} (s : Stretch) (new : List ℕ) (M : Machine) (m : Cells) → Stretched o (run_after o h) count most out s new M m → n ≡ run.steps + s.steps → (IsTrue counted → s.steps ≡ count) → (s.steps ≡ count → IsTrue counted)
          → Settled (counted_run M) s.stop counted e run' → Ends e run' s new m
      settled _ new M m (rested {steps = steps} {bytes = bytes} U long within why) c t f (settled_over k) =
          ended long within U (underway_ends o (run_after o h) count (length out) steps bytes new long within U m (has_ended o (inside_now U c) (count - steps) (drop bytes new) whole k)) new U.wrote
      settled _ new M m (rested {steps = steps} {bytes = bytes} U long within why) c t f (settled_paused k b) =
          let none : count - steps ≡ 0 = omega (arith, t b) in
          ended long within U (underway_ends o (run_after o h) count (length out) steps bytes new long within U m (has_paused o (inside_now U c) (count - steps) (drop bytes new) whole k none)) new U.wrote
      settled _ new M m (rested {steps = steps} {bytes = bytes} U long within (inl over)) c t f (settled_spent k b F) = absurd (k over)
      settled _ new M m (rested {steps = steps} {bytes = bytes} U long within (inr all)) c t f (settled_spent k b F) =
          let other : steps ≢ count = λ q. b (f q) in
          let left : count - steps ≢ 0 = λ q. other (omega (arith, q, all, limit)) in
          let spent : run.allowance ≤ n = omega (arith, other, all, limit, c) in
          ended long within U (underway_ends o (run_after o h) count (length out) steps bytes new long within U m (has_spent o (inside_now U c) (count - steps) (drop bytes new) whole k left spent F)) new U.wrote
      settled _ new M m (halted {steps = steps} {bytes = bytes} {out = before} {part = part} {m = m₁} U long within some going printed w) c t f settled_full =
          let left : count - steps ≢ 0 = λ q. absurd (omega (arith, q, some, limit)) in
          let due : n < run.allowance = omega (arith, c, some, limit) in
          let E = underway_ends o (run_after o h) count (length out) steps bytes before long within U m (is_full o (inside_now U c) (count - steps) (drop bytes before) whole going left due refl printed) in
          ended long within U E new (ap (take bytes) w ∙ E.wrote)
      settled _ new M m (halted {steps = steps} {bytes = bytes} {out = before} {part = part} {m = m₁} U long within some going printed w) c t f (settled_failed F) =
          let left : count - steps ≢ 0 = λ q. absurd (omega (arith, q, some, limit)) in
          let due : n < run.allowance = omega (arith, c, some, limit) in
          let E = underway_ends o (run_after o h) count (length out) steps bytes before long within U m (has_failed o (inside_now U c) (count - steps) (drop bytes before) whole going left due refl printed F) in
          ended long within U E new (ap (take bytes) w ∙ E.wrote)

-- the end changes no number and no cell
record Unmoved (old new : Run) : Type 0 where
  machine : new.machine ≡ old.machine
  steps : new.steps ≡ old.steps

failed_unmoved : {old new : Run} {kind : FaultKind} {function : Option Basis} {e : End} → Failed old kind function e new → Unmoved old new
failed_unmoved F = record { machine = ap (λ (r : Run). r.machine) F.now; steps = ap (λ (r : Run). r.steps) F.now }

unmoved : {old new : Run} {s : Stop} {counted : Bool} {e : End} → Settled old s counted e new → Unmoved old new
unmoved settled_full = record { machine = refl; steps = refl }
unmoved (settled_failed F) = failed_unmoved F
unmoved (settled_over k) = record { machine = refl; steps = refl }
unmoved (settled_paused k b) = record { machine = refl; steps = refl }
unmoved (settled_spent k b F) = failed_unmoved F

pub steady_settled : {old now new : Run} {s : Stop} {counted : Bool} {e : End} → Settled now s counted e new → old.steps ≤ now.steps → machine.Steady old.machine now.machine → Steady old new
steady_settled S n h =
    let u = unmoved S in
    record { steps = omega (arith, u.steps, n); taken = omega (arith, ap (λ (r : Machine). r.taken) u.machine, h.taken); given = omega (arith, ap (λ (r : Machine). r.given) u.machine, h.given) }
