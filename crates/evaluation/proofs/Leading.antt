-- A state leads to another in so many steps, where the course of the run is kept beside it.
use Rattle.std.proofs.Common.{◌≡◌, ℕ, suc, ◌+◌, ◌<◌, ◌≤◌, Bool, true, List, [], ◌∷◌, length, sym, refl, ap, ◌∙◌, subst, arith, append-nil}
use Rattle.std.proofs.lemmas.Bool.{le-leb, lt-ltb}
use Rattle.grammar.specs.Trees.{Expr}
use Rattle.program.specs.Programs.{Program}
use Rattle.rules.specs.declared.fault.FaultKind.{FaultKind}
use Rattle.rules.specs.declared.fault.FaultKind.TheVariants.{StackFull}
use Rattle.rules.specs.Runs.{main_of}
use Rattle.rules.specs.States.{Environment, Frame, enter, Account, State, st, saved_count}
use Rattle.rules.specs.Steps as rule
use Rattle.rules.specs.Steps.{Outcome, goes, fails, stuck, Sizes, needs, rules, waits, has_entries}
use Rattle.rules.proofs.Accounting.{EvenState, EvenOut, step_even}
use Rattle.rules.proofs.Walking.{Walk, go, Ahead, ahead}
use Rattle.evaluation.specs.Evaluation.{Course, step, prints}
use Rattle.evaluation.proofs.Weaving.{Shape, woven, woven_length}

module _ (P : Program) (Z : Sizes) where
  -- from so many steps and this output
  pub record Leads (s : State) (n : ℕ) (o : List ℕ) (t : State) (h' : Course) : Type 0 where
    pub count : ℕ
    pub steps : h'.steps ≡ n + count
    pub walk : Walk P Z count s o t h'.output

  -- a step that is counted already comes to this
  pub record LeadsBy (x : Outcome) (n : ℕ) (o : List ℕ) (t : State) (h' : Course) : Type 0 where
    pub count : ℕ
    pub steps : h'.steps ≡ n + count
    pub ahead : Ahead P Z count x o t h'.output

  pub leads_go : {s t : State} {n : ℕ} {o : List ℕ} {h' : Course} → LeadsBy (rule.step P Z (main_of P) s) (n + 1) o t h' → Leads s n o t h'
  leads_go l = record { count = suc l.count; steps = omega (arith, l.steps); walk = go l.ahead }

  -- where the accounts are even, as they are in every run
  module _ (t : State) (h' : Course) where
    abbrev pub From : State → Course → Type 0
    From s h = EvenState Z.cells s → Leads s h.steps h.output t h'

    abbrev pub Onward : Outcome → Course → Type 0
    Onward x h = EvenOut Z.cells x → LeadsBy x h.steps h.output t h'

    pub on_step_rule : {s : State} (h : Course) → Onward (rule.step P Z (main_of P) s) (step h) → From s h
    on_step_rule {s} h f e = leads_go (f (step_even P Z (main_of P) s e))

    pub on_print : {s : State} (bytes : List ℕ) (h : Course) → From s (prints bytes h) → Onward (goes bytes s) h
    on_print bytes h f e = let l = f e in record { count = l.count; steps = l.steps; ahead = ahead refl l.walk }

    pub on_quiet : {s : State} (h : Course) → From s h → Onward (goes [] s) h
    on_quiet h f e = let l = f e in record { count = l.count; steps = l.steps; ahead = ahead (sym (append-nil h.output)) l.walk }

    needs_met : (kind : FaultKind) (x : Outcome) → needs kind true x ≡ x
    needs_met kind (goes bytes s) = refl
    needs_met kind (fails k f) = refl
    needs_met kind stuck = refl

    pub on_needs : (kind : FaultKind) (b : Bool) (x : Outcome) (h : Course) → b ≡ true → Onward x h → Onward (needs kind b x) h
    on_needs kind b x h e f = subst (λ (x : Outcome). Onward x h) (sym (ap (λ (b : Bool). needs kind b x) e ∙ needs_met kind x)) f

    pub on_waits : (f : Frame) (x : Expr) (K : List Frame) (env : Environment) (a : Account) (h : Course) → length K < Z.frames → From (st (f ∷ K) env (enter x) a) h → Onward (waits P Z f x K env a) h
    unfolding rules
    on_waits f x K env a h l n = on_needs StackFull _ (goes [] (st (f ∷ K) env (enter x) a)) h (lt-ltb (length K) Z.frames l) (on_quiet h n)

    pub has_entries_rule : (n : ℕ) (K : List Frame) (s : Shape) (ρ : Environment) → n + (length s + length ρ + saved_count K) ≤ Z.entries → has_entries P Z n K (woven s ρ) ≡ true
    unfolding rules
    has_entries_rule n K s ρ l = le-leb _ Z.entries (omega (arith, woven_length s ρ))

-- Room for all that an evaluation needs.
pub record Enough (n : ℕ) (Z : Sizes) (K : List Frame) (s : Shape) : Type 0 where
  pub cells : n ≤ Z.cells
  pub frames : n + length K ≤ Z.frames
  pub entries : n + (length s + saved_count K) ≤ Z.entries
