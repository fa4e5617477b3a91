-- Runs and the evaluation agree.
use Rattle.std.proofs.Common.{◌≡◌, ℕ, zero, suc, ◌+◌, ◌-◌, ◌<◌, ◌≤◌, List, [], ◌∷◌, length, Some, None, Option, sym, refl, ap, ◌∙◌, subst, arith, length-append}
use Rattle.data.specs.Trees.{Tree, size}
use Rattle.program.specs.Programs.{Program, Define}
use Rattle.rules.specs.declared.answers.End.{End}
use Rattle.rules.specs.declared.answers.End.TheVariants.{Ended}
use Rattle.rules.specs.Histories.{Call, reached}
use Rattle.rules.specs.Pausing.{written, end_of}
use Rattle.rules.specs.Runs.{Run, main_of, opened_run, stepped, is_over, Answer, advance, account_of}
use Rattle.rules.specs.States.{Environment, Frame, main_value, opened, enter, finished, over, Account, State, st, gives, environment_size, held}
use Rattle.rules.specs.Steps as rules_step
use Rattle.rules.specs.Steps.{Outcome, goes, fails, stuck, Sizes, rules, waits, main_called}
use Rattle.rules.proofs.Advances.{Going, going_opened, going_enter, going_finished}
use Rattle.rules.proofs.Cuts.{advance_ends, advance_moves}
use Rattle.rules.proofs.PausingLaws.{walk_by, stops_by}
use Rattle.rules.proofs.Stopping.{Stops, stops_over, never, stops_one, stops_here, kept_all, kept_opened}
use Rattle.rules.proofs.Turns.{Ready, turn_over, turn_steps}
use Rattle.rules.proofs.Walking.{Walk, stop, go, Ahead, ahead, walk_one, walk_rest}
use Rattle.evaluation.specs.Evaluation.{Course, step, give, Evaluates, Runs, runs}
use Rattle.evaluation.specs.Laws.{Room, Comes, Ends, RunsAgree}
use Rattle.evaluation.proofs.Backward.{next_step, handed, quiet, waited, goes_back}
use Rattle.evaluation.proofs.Forward.{evaluates}
use Rattle.evaluation.proofs.Leading.{Leads, Onward, on_step_rule, on_quiet, on_waits}

-- the course at opening
abbrev start : List ℕ → Course
start input = record { account = record { input = input; taken = 0; given = 0 }; output = []; steps = 0 }

abbrev open' : List ℕ → State
open' input = st [] [] opened (record { input = input; taken = 0; given = 0 })

-- the state of a run that has ended with this account
abbrev close' : Account → State
close' a = st [] [] over a

module _ (P : Program) (main : Define) (input : List ℕ) (here : main_of P ≡ Some main) where
  -- what is derived leads from the opening to the end
  forward : {ρ : Environment} {h : Course} {v : Tree} (d : Evaluates P [] (step (start input)) main.body v ρ h) (Z : Sizes) → Room (1 + (evaluates P d).room) Z
      → Leads P Z (open' input) 0 [] (close' (gives (environment_size ρ + size v) h.account)) (step (give (environment_size ρ + size v) h))
  unfolding rules
  forward {ρ} {h} {v} d Z r =
      let E = evaluates P d in
      let H = step (give (environment_size ρ + size v) h) in
      let T = close' H.account in
      on_step_rule P Z T H (start input)
      (subst (λ (m : Option Define). Onward P Z T H (main_called P Z [] [] (start input).account m) (step (start input))) (sym here)
      (on_waits P Z T H (main_value main.place) main.body [] [] (start input).account (step (start input)) (omega arith)
      (E.leads Z (main_value main.place ∷ []) [] (omega arith) T H
      (on_step_rule P Z T H h (on_quiet P Z T H (step h) (λ even. record { count = 0; steps = omega arith; walk = stop })))))) (omega arith)

-- the bytes printed only grow
mutual
  walk_grows : {P : Program} {Z : Sizes} {k : ℕ} {s t : State} {o o' : List ℕ} → Walk P Z k s o t o' → length o ≤ length o'
  walk_grows stop = omega arith
  walk_grows (go a) = ahead_grows a

  ahead_grows : {P : Program} {Z : Sizes} {k : ℕ} {x : Outcome} {t : State} {o o' : List ℕ} → Ahead P Z k x o t o' → length o ≤ length o'
  ahead_grows (ahead {bytes = bytes} {o = o} {o₁ = o₁} e w) =
      let l : length o₁ ≡ length o + length bytes = ap length e ∙ length-append o bytes in
      omega (arith, walk_grows w)

module _ (P : Program) (Z : Sizes) where
  -- a step that is taken is not one from an end
  goes_from : {k : ℕ} {o o' : List ℕ} {t : State} (s : State) → Ahead P Z k (rules_step.step P Z (main_of P) s) o t o' → Going s
  unfolding rules
  goes_from (st K env opened a) x = going_opened
  goes_from (st K env (enter e) a) x = going_enter
  goes_from (st K env (finished v) a) x = going_finished
  goes_from (st K env over a) x = elim x [ ]

  -- nothing goes on from an end
  over_stays : {k : ℕ} {K : List Frame} {env : Environment} {a : Account} {o : List ℕ} {t : State} {o' : List ℕ} → Walk P Z k (st K env over a) o t o' → (k ≡ 0) × (st K env over a ≡ t) × (o ≡ o')
  unfolding rules
  over_stays stop = (refl, refl, refl)
  over_stays (go a) = elim a [ ]

  module _ (allowance : ℕ) where
    -- one advance that has steps and room enough makes all these steps, and ends
    abbrev Finishes : ℕ → Type 0
    Finishes k = (count room : ℕ) (r : Run) (o O : List ℕ) (T : State) → is_over P Z allowance T ≡ Some Ended → r.fault ≡ None → Walk P Z k r.state o T O → k ≤ count → r.steps + k ≤ allowance → length O ≤ length o + room
        → (advance P Z allowance count room r).end ≡ Ended

    finish_more : (k : ℕ) → Finishes k → (count room : ℕ) (r : Run) (x : Outcome) (o O : List ℕ) (T : State) → is_over P Z allowance T ≡ Some Ended → r.fault ≡ None → Going r.state → rules_step.step P Z (main_of P) r.state ≡ x
        → Ahead P Z k x o T O → suc k ≤ count → r.steps + suc k ≤ allowance → length O ≤ length o + room → (advance P Z allowance count room r).end ≡ Ended
    finish_more k next count room r _ o O T d f g e (ahead {bytes = bytes} {s = s} {o₁ = o₁} q w) l m n =
        let i : length o₁ ≡ length o + length bytes = ap length q ∙ length-append o bytes in
        let j = walk_grows w in
        let ready : Ready P Z allowance count r = record { live = record { whole = f; going = g }; some = λ z. absurd (omega arith); allowed = omega arith } in
        ap (λ (x : Answer). x.end) (advance_moves P Z allowance count (count - 1) room r (omega arith) (turn_steps P Z allowance count room r ready e (omega arith)))
        ∙ next (count - 1) (room - length bytes) (stepped s r) o₁ O T d refl w (omega arith) (omega arith) (omega arith)

    finishes : (k : ℕ) → Finishes k
    finishes zero count room r o O T d f stop l m n = ap (λ (x : Answer). x.end) (advance_ends P Z allowance count room r (turn_over P Z allowance count room r f d))
    finishes (suc k) count room r o O T d f (go a) l m n = finish_more k (finishes k) count room r (rules_step.step P Z (main_of P) r.state) o O T d f (goes_from r.state a) refl a l m n

  -- a run that leads to an end comes to it, however it is advanced
  module _ (allowance : ℕ) (input : List ℕ) (H : Course) (k : ℕ) (count : H.steps ≡ k) (walk : Walk P Z k (open' input) [] (close' H.account) H.output) (enough : H.steps ≤ allowance) where
    one_advance : (n room : ℕ) → H.steps ≤ n → length H.output ≤ room → (advance P Z allowance n room (opened_run input)).end ≡ Ended
    one_advance n room l m = finishes allowance k n room (opened_run input) [] H.output (close' H.account) refl refl walk (omega arith) (omega arith) (omega arith)

    module _ (cs : List Call) where
      abbrev reach : Run
      reach = reached P Z allowance (opened_run input) cs

      abbrev wrote : List ℕ
      wrote = written P Z allowance (opened_run input) cs

      module _ (e : End) (done : end_of P Z allowance reach ≡ Some e) where
        same_count : reach.steps ≡ k
        same_count =
            let w = walk_by P Z allowance input cs in
            let within = (kept_all P Z allowance (opened_run input) cs (kept_opened P Z allowance input)).within in
            let less : ¬ (reach.steps < k) = λ l.
            stops_here P Z allowance {k = k - reach.steps - 1} {j = k - reach.steps} (stops_by P Z allowance input cs e done) (omega arith) (omega arith)
            (walk_rest P Z reach.steps k (k - reach.steps) (open' input) reach.state (close' H.account) [] [] wrote H.output (omega arith) refl w walk) in
            let more : ¬ (k < reach.steps) = λ l.
            let z = (over_stays (walk_rest P Z k reach.steps (reach.steps - k) (open' input) (close' H.account) reach.state [] [] H.output wrote (omega arith) refl walk w)).0 in
            omega arith in
            omega arith

        same_place : (reach.state ≡ close' H.account) × (wrote ≡ H.output)
        same_place =
            walk_one P Z k (open' input) reach.state (close' H.account) [] [] wrote H.output refl
            (subst (λ (n : ℕ). Walk P Z n (open' input) [] reach.state wrote) same_count (walk_by P Z allowance input cs)) walk

        same_end : e ≡ Ended
        same_end =
            stops_one P Z allowance (stops_by P Z allowance input cs e done)
            (subst (λ (s : State). Stops P Z allowance s reach.steps Ended) (sym same_place.0) (stops_over refl))

        comes : Comes reach wrote H
        comes = record {
          steps = omega (arith, same_count);
          bytes = same_place.1;
          taken = ap (λ (s : State). (account_of s).taken) same_place.0;
          given = ap (λ (s : State). (account_of s).given + held s) same_place.0 ∙ (let z : H.account.given + (0 + 0 + 0) ≡ H.account.given = omega arith in z);
        }

module _ (P : Program) (main : Define) (input : List ℕ) (here : main_of P ≡ Some main) where
  -- what is derived, with the room that it wants
  record Led (H : Course) : Type 0 where
    room : ℕ
    leads : (Z : Sizes) → Room room Z → Leads P Z (open' input) 0 [] (close' H.account) H

  led : {H : Course} → Runs P main input H → Led H
  led (runs d) = record { room = 1 + (evaluates P d).room; leads = λ Z r. forward P main input here d Z r }

  ends : (H : Course) (l : Led H) → Ends P input H l.room
  ends H l = record {
    ends = λ Z r allowance count room m n o. let w = l.leads Z r in one_advance P Z allowance input H w.count (omega (arith, w.steps)) w.walk m count room n o;
    end = λ Z r allowance m cs s q e d.
        let w = l.leads Z r in same_end P Z allowance input H w.count (omega (arith, w.steps)) w.walk m cs e (subst (λ (s : Run). end_of P Z allowance s ≡ Some e) (sym q) d);
    comes = λ Z r allowance m cs s q e d.
        let w = l.leads Z r in
        subst (λ (s : Run). Comes s (written P Z allowance (opened_run input) cs) H) q (comes P Z allowance input H w.count (omega (arith, w.steps)) w.walk m cs e (subst (λ (s : Run). end_of P Z allowance s ≡ Some e) (sym q) d));
  }

  -- a run that has ended: main is called first, and its body's value is handed to that call last
  module _ (Z : Sizes) (T : State) (O : List ℕ) (last : Going T → ⊥) where
    record Finds (k : ℕ) : Type 0 where
      course : Course
      derived : Runs P main input course
      state : T ≡ close' course.account
      output : O ≡ course.output
      steps : k ≡ course.steps

    found : (k : ℕ) → Walk P Z k (open' input) [] T O → Finds k
    unfolding rules
    found k w =
        let i = next_step P Z last going_opened w in
        let a = subst (λ (m : Option Define). Ahead P Z i.left (main_called P Z [] [] (start input).account m) [] T O) here i.ahead in
        let b = goes_back P Z T O last i.left i.left (main_value main.place ∷ []) [] [] (step (start input)) main.body (omega arith) (waited P Z T O last (main_value main.place) main.body [] [] (start input).account a) in
        let j = handed P Z T O last b.rest in
        let z = over_stays P Z (quiet P Z T O last j.ahead) in
        record {
          course = step (give (environment_size b.after + size b.value) b.course);
          derived = runs b.derived;
          state = sym z.1;
          output = sym z.2;
          steps = omega (arith, i.more, b.steps, j.more, z.0);
        }

  over_at : (Z : Sizes) (allowance : ℕ) {s : State} {n : ℕ} → Stops P Z allowance s n Ended → is_over P Z allowance s ≡ Some Ended
  over_at Z allowance (stops_over e) = e

  ended : (Z : Sizes) (allowance : ℕ) (cs : List Call) (r : Run) → reached P Z allowance (opened_run input) cs ≡ r → end_of P Z allowance r ≡ Some Ended
      → (h : Course) × Runs P main input h × Comes r (written P Z allowance (opened_run input) cs) h
  ended Z allowance cs r q d =
      let reach = reached P Z allowance (opened_run input) cs in
      let s = stops_by P Z allowance input cs Ended (subst (λ (r : Run). end_of P Z allowance r ≡ Some Ended) (sym q) d) in
      let f = found Z reach.state (written P Z allowance (opened_run input) cs) (λ g. never P Z allowance g (over_at Z allowance s)) reach.steps (walk_by P Z allowance input cs) in (
        f.course,
        f.derived,
        subst (λ (r : Run). Comes r (written P Z allowance (opened_run input) cs) f.course) q
            (record {
              steps = f.steps;
              bytes = f.output;
              taken = ap (λ (s : State). (account_of s).taken) f.state;
              given = ap (λ (s : State). (account_of s).given + held s) f.state ∙ (let z : f.course.account.given + (0 + 0 + 0) ≡ f.course.account.given = omega arith in z);
            }),
      )

  -- one course at most: both are those of one run
  course_same : (g h : Course) → g.account ≡ h.account → g.output ≡ h.output → g.steps ≡ h.steps → g ≡ h
  course_same g h a o n =
      ap (λ (a : Account). record g { account = a }) a
      ∙ (ap (λ (o : List ℕ). record { account = h.account; output = o; steps = g.steps }) o ∙ ap (λ (n : ℕ). record { account = h.account; output = h.output; steps = n }) n)

  both_end : (Z : Sizes) (g h : Course) → Leads P Z (open' input) 0 [] (close' g.account) g → Leads P Z (open' input) 0 [] (close' h.account) h → g ≡ h
  both_end Z g h v w =
      let less : ¬ (v.count < w.count) = λ l.
      let z = (over_stays P Z (walk_rest P Z v.count w.count (w.count - v.count) (open' input) (close' g.account) (close' h.account) [] [] g.output h.output (omega arith) refl v.walk w.walk)).0 in
      omega arith in
      let more : ¬ (w.count < v.count) = λ l.
      let z = (over_stays P Z (walk_rest P Z w.count v.count (v.count - w.count) (open' input) (close' h.account) (close' g.account) [] [] h.output g.output (omega arith) refl w.walk v.walk)).0 in
      omega arith in
      let same : w.count ≡ v.count = omega arith in
      let p = walk_one P Z v.count (open' input) (close' g.account) (close' h.account) [] [] g.output h.output refl v.walk (subst (λ (n : ℕ). Walk P Z n (open' input) [] (close' h.account) h.output) same w.walk) in
      course_same g h (ap account_of p.0) p.1 (omega (arith, v.steps, w.steps))

  one : (g h : Course) → Runs P main input g → Runs P main input h → g ≡ h
  one g h a b =
      let l = led a in
      let m = led b in
      let n = l.room + m.room in
      both_end (record { cells = n; frames = n; entries = n }) g h (l.leads _ (omega arith)) (m.leads _ (omega arith))

pub runs_agree : RunsAgree
runs_agree P main input here =
    record {
      derived = λ h d. ((led P main input here d).room, ends P main input here h (led P main input here d));
      ended = ended P main input here;
      one = one P main input here;
    }
