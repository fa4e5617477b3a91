-- An allowed script never gets stuck.
use Rattle.std.proofs.Common.{◌≡◌, ℕ, zero, suc, ◌≢◌, List, [], ◌∷◌, Some, Option, subst, arith}
use Rattle.std.specs.List.{slice_get}
use Rattle.program.specs.Programs.{program}
use Rattle.rules.specs.declared.answers.End.{End}
use Rattle.rules.specs.declared.answers.End.TheVariants.{Faulted}
use Rattle.rules.specs.declared.fault.Fault.{Fault}
use Rattle.rules.specs.declared.fault.FaultKind.{FaultKind}
use Rattle.rules.specs.declared.fault.FaultKind.TheVariants.{Stuck}
use Rattle.rules.specs.Laws.{NeverStuck}
use Rattle.rules.specs.Runs.{Answer, main_of, opened_run}
use Rattle.rules.proofs.Advances.{RunHas, FaultHas, EndHas, EndsHave, no_ends, and_end, reached_has, answers_have}
use Rattle.rules.proofs.Checked.{types, script_ok, main_ok}
use Rattle.rules.proofs.Soundness.{Unstuck, Sound, sound_opened, step_good}

other : (kind : FaultKind) → Unstuck kind → kind ≢ Stuck
other kind u e = subst Unstuck e u

unstuck_end : (e : End) (f : Fault) → EndHas Unstuck e → e ≡ Faulted f → f.kind ≢ Stuck
unstuck_end e f h k = other f.kind (subst (EndHas Unstuck) k h)

unstuck_fault : (o : Option Fault) (f : Fault) → FaultHas Unstuck o → o ≡ Some f → f.kind ≢ Stuck
unstuck_fault o f h k = other f.kind (subst (FaultHas Unstuck) k h)

unstuck_ends : (os : List Answer) → EndsHave Unstuck os → (i : ℕ) (o : Answer) (f : Fault) → slice_get os i ≡ Some o → o.end ≡ Faulted f → f.kind ≢ Stuck
unstuck_ends [] no_ends i o f h k = let z : ◌≡◌ {A = ℕ} 0 1 = cc in absurd (omega arith)
unstuck_ends (p ∷ os) (and_end e es) zero o f h k =
    let same : p ≡ o = cc in unstuck_end o.end f (subst (λ (o : Answer). EndHas Unstuck o.end) same e) k
unstuck_ends (p ∷ os) (and_end e es) (suc i) o f h k = unstuck_ends os es i o f h k

pub never_stuck : NeverStuck
never_stuck script ok Z allowance input cs =
    let P = program script in
    let V = types script ok in
    let steps = step_good P V (script_ok script ok) Z (main_of P) (main_ok script ok) in
    let start : RunHas (Sound P V) Unstuck (opened_run input) = record { state = sound_opened; fault = tt } in
    record {
      answers = unstuck_ends _ (answers_have P Z allowance (Sound P V) Unstuck tt steps (opened_run input) cs start);
      run = λ f. unstuck_fault _ f (reached_has P Z allowance (Sound P V) Unstuck tt steps (opened_run input) cs start).fault;
    }
