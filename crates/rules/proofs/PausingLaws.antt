-- Pausing changes nothing.
use Rattle.std.proofs.Common.{◌≡◌, ℕ, zero, suc, ◌+◌, ◌-◌, ◌≤◌, ◌≢◌, ◌<◌, List, [], length, Some, Option, sym, refl, ap, ◌∙◌, subst, arith}
use Rattle.program.specs.Programs.{Program}
use Rattle.rules.specs.declared.answers.End.{End}
use Rattle.rules.specs.declared.answers.End.TheVariants.{Paused, OutputFull}
use Rattle.rules.specs.declared.fault.Fault.{Fault}
use Rattle.rules.specs.Histories.{Call, reached}
use Rattle.rules.specs.Laws.{Cuts, OneCourse, PausingChangesNothing}
use Rattle.rules.specs.Pausing.{joined, written, counted as counted_steps, end_by, end_of}
use Rattle.rules.specs.Runs.{Run, opened_run, Turn, ends, moves, turn, is_over, Answer, stopped, after, advance, account_of, close}
use Rattle.rules.specs.States.{State, held}
use Rattle.rules.specs.Steps.{Sizes}
use Rattle.rules.proofs.Cuts.{settled, cut, cut_full, roomy}
use Rattle.rules.proofs.Stopping.{Stops, Kept, kept_all, kept_opened, stops, stops_one, stops_here}
use Rattle.rules.proofs.Turns.{Seen, seen_fault, seen_over, seen_paused, seen_spent, seen_fails, seen_stuck, seen_full, seen}
use Rattle.rules.proofs.Walking.{Walk, walk_one, walk_rest, walked_all}

module _ (P : Program) (Z : Sizes) (allowance : ℕ) where
  -- an advance that ends otherwise than paused or for want of room leaves a run that has ended or faulted
  abbrev Leaves : Answer → Type 0
  Leaves o = o.end ≢ Paused → o.end ≢ OutputFull → end_of P Z allowance o.run ≡ Some o.end

  leaves_ends : (left room : ℕ) (r : Run) {e : End} {n : Run} → Seen P Z allowance left room r (ends e n) → Leaves (stopped e n)
  leaves_ends left room r (seen_fault e) x y = ap (λ (f : Option Fault). end_by f (is_over P Z allowance r.state)) e
  leaves_ends left room r (seen_over e h) x y = ap (λ (f : Option Fault). end_by f (is_over P Z allowance r.state)) e ∙ h
  leaves_ends left room r (seen_paused h e) x y = absurd (x refl)
  leaves_ends left room r (seen_spent h l a) x y = refl
  leaves_ends left room r (seen_fails h e) x y = refl
  leaves_ends left room r (seen_stuck h e) x y = refl
  leaves_ends left room r (seen_full h e l) x y = absurd (y refl)

  leaves_none : (room : ℕ) (r : Run) (t : Turn) → Seen P Z allowance 0 room r t → Leaves (elim t [ ends e n ↦ stopped e n | moves bytes n ↦ stopped Paused r ])
  leaves_none room r (ends e n) h x y = leaves_ends 0 room r h x y
  leaves_none room r (moves bytes n) h x y = absurd (x refl)

  leaves_more : (k room : ℕ) (r : Run) (t : Turn) → Seen P Z allowance (suc k) room r t → ((room : ℕ) (r : Run) → Leaves (advance P Z allowance k room r))
      → Leaves (elim t [ ends e n ↦ stopped e n | moves bytes n ↦ after bytes (advance P Z allowance k (room - length bytes) n) ])
  leaves_more k room r (ends e n) h next x y = leaves_ends (suc k) room r h x y
  leaves_more k room r (moves bytes n) h next x y = next (room - length bytes) n x y

  leaves : (k room : ℕ) (r : Run) → Leaves (advance P Z allowance k room r)
  unfolding advance
  leaves zero room r = leaves_none room r (turn P Z allowance 0 room r) (seen P Z allowance 0 room r)
  leaves (suc k) room r = leaves_more k room r (turn P Z allowance (suc k) room r) (seen P Z allowance (suc k) room r) (leaves k)

  cuts : (r : Run) → Cuts P Z allowance r
  cuts r = record {
    cut = λ m n room more o e. subst (λ (o : Answer). o.end ≢ OutputFull → advance P Z allowance (m + n) (length o.bytes + more) r ≡ joined o (advance P Z allowance n more o.run)) e (cut P Z allowance n more m room r);
    full = λ m n room more o e. subst (λ (o : Answer). o.end ≡ OutputFull → advance P Z allowance (o.steps + n) (length o.bytes + more) r ≡ joined o (advance P Z allowance n more o.run)) e (cut_full P Z allowance n more m room r);
    roomy = λ m room more o e. subst (λ (o : Answer). o.end ≢ OutputFull → advance P Z allowance m (room + more) r ≡ o) e (roomy P Z allowance more m room r);
    ends = λ m room o e. subst Leaves e (leaves m room r);
    stays = λ m room e h. settled P Z allowance m room r h;
  }

  module _ (input : List ℕ) where
    abbrev run_by : List Call → Run
    run_by xs = reached P Z allowance (opened_run input) xs

    abbrev bytes_by : List Call → List ℕ
    bytes_by xs = written P Z allowance (opened_run input) xs

    pub walk_by : (xs : List Call) → Walk P Z (run_by xs).steps (opened_run input).state [] (run_by xs).state (bytes_by xs)
    walk_by xs =
        let w = walked_all P Z allowance (opened_run input) [] xs in
        let same : counted_steps P Z allowance (opened_run input) xs ≡ (run_by xs).steps = omega (arith, w.steps) in
        subst (λ (n : ℕ). Walk P Z n (opened_run input).state [] (run_by xs).state (bytes_by xs)) same w.walk

    kept_by : (xs : List Call) → Kept P Z allowance (run_by xs)
    kept_by xs = kept_all P Z allowance (opened_run input) xs (kept_opened P Z allowance input)

    pub stops_by : (xs : List Call) (e : End) → end_of P Z allowance (run_by xs) ≡ Some e → Stops P Z allowance (run_by xs).state (run_by xs).steps e
    stops_by xs e h = stops P Z allowance (run_by xs) e (kept_by xs) h

    module _ (cs ds : List Call) where
      same_place : (run_by cs).steps ≡ (run_by ds).steps → ((run_by cs).state ≡ (run_by ds).state) × (bytes_by cs ≡ bytes_by ds)
      same_place e =
          walk_one P Z (run_by cs).steps (opened_run input).state (run_by cs).state (run_by ds).state [] [] (bytes_by cs) (bytes_by ds) refl (walk_by cs)
          (subst (λ (n : ℕ). Walk P Z n (opened_run input).state [] (run_by ds).state (bytes_by ds)) (sym e) (walk_by ds))

      -- a run that has ended or faulted has taken no fewer steps than any other
      no_fewer : (e : End) → end_of P Z allowance (run_by cs) ≡ Some e → (run_by ds).steps ≤ (run_by cs).steps
      no_fewer e h =
          let k = (run_by cs).steps in
          let n = (run_by ds).steps in
          let w = (kept_by ds).within in
          let no : ¬ (k < n) = λ less.
          stops_here P Z allowance {k = n - k - 1} {j = n - k} (stops_by cs e h) (omega arith) (omega arith)
          (walk_rest P Z k n (n - k) (opened_run input).state (run_by cs).state (run_by ds).state [] [] (bytes_by cs) (bytes_by ds) (omega arith) refl (walk_by cs) (walk_by ds)) in
          omega arith

    module _ (cs ds : List Call) where
      same_steps : (e e' : End) → end_of P Z allowance (run_by cs) ≡ Some e → end_of P Z allowance (run_by ds) ≡ Some e' → (run_by cs).steps ≡ (run_by ds).steps
      same_steps e e' h h' = let a = no_fewer cs ds e h in let b = no_fewer ds cs e' h' in omega arith

      same_end : (e e' : End) → end_of P Z allowance (run_by cs) ≡ Some e → end_of P Z allowance (run_by ds) ≡ Some e' → e ≡ e'
      same_end e e' h h' =
          let n = same_steps e e' h h' in
          let s = (same_place cs ds n).0 in
          let t : Stops P Z allowance (run_by ds).state (run_by ds).steps e =
          subst (λ (s : State). Stops P Z allowance s (run_by ds).steps e) s (subst (λ (n : ℕ). Stops P Z allowance (run_by cs).state n e) n (stops_by cs e h)) in
          stops_one P Z allowance t (stops_by ds e' h')

      same_counts : (run_by cs).steps ≡ (run_by ds).steps → close (run_by cs) ≡ close (run_by ds)
      same_counts e =
          ap (λ (t : State). record { steps = (run_by cs).steps; taken = (account_of t).taken; given = (account_of t).given + held t }) (same_place cs ds e).0
          ∙ ap (λ (n : ℕ). record { steps = n; taken = (account_of (run_by ds).state).taken; given = (account_of (run_by ds).state).given + held (run_by ds).state }) e

      one_course : (r s : Run) → run_by cs ≡ r → run_by ds ≡ s → OneCourse P Z allowance input cs ds r s
      one_course r s e f =
          subst (OneCourse P Z allowance input cs ds r) f (subst (λ (r : Run). OneCourse P Z allowance input cs ds r (run_by ds)) e
          (record {
            counted = omega (arith, (walked_all P Z allowance (opened_run input) [] cs).steps);
            bytes = λ e. (same_place cs ds e).1;
            counts = same_counts;
            steps = same_steps;
            end = same_end;
          }))

pub pausing_changes_nothing : PausingChangesNothing
pausing_changes_nothing = record { cuts = cuts; courses = one_course }
