-- An advance by its turns.
use Rattle.std.proofs.Common.{None, ◌≡◌, ℕ, ◌+◌, ◌-◌, ◌<◌, ◌≤◌, List, [], ◌++◌, length, take, drop, sym, refl, ap, ◌∙◌, arith, append_assoc, append-nil, length-append, length-drop, subst}
use Rattle.std.proofs.Math.Seq.{take-append-add, take-append_seam, drop-append-add}
use Rattle.std.proofs.lemmas.List.{take-append-le, drop-append-le, take-append-drop, drop-drop, length-take-le}
use Rattle.std.proofs.lemmas.List.{take_all}
use Rattle.std.proofs.lemmas.Slice.{take-put_mid_below}
use borrow.Rule.Slice.PartMut.{put_mid, same_len_mid}
use Rattle.cells.specs.Meaning.{Cells}
use Rattle.machine.specs.declared.machine.Machine.{Machine}
use Rattle.program.specs.Programs.{program}
use Rattle.rules.specs.declared.answers.End.{End}
use Rattle.rules.specs.Runs as rules
use Rattle.rules.specs.Runs.{Answer, allowed, stopped, after, ends, moves}
use Rattle.rules.proofs.Cuts.{advance_ends, advance_moves}
use Rattle.run.specs.Insides.{Inside, run_of, Ends, Moves, Turned, turned_ends, turned_moves, Underway, before, Spares}
use Rattle.machine.specs.Mirrors.{Steady}
use Rattle.run.specs.Openings.{Opening, sizes_of, turn_of, answer_of}
use Rattle.run.specs.declared.runs.Run.{Run}

-- A part of a slice, k elements from place i on, was written.
module _ (i k : ℕ) (xs ys : List ℕ) (n : ℕ) (within : i + k ≤ length xs) (full : length ys ≡ k) (fits : n ≤ k) where
  here : length (take i xs) ≡ i
  here = length-take-le i xs (omega arith)

  pub front_then : take (i + n) (put_mid i k xs ys) ≡ take i xs ++ take n ys
  front_then =
      ap (λ (m : ℕ). take (m + n) (put_mid i k xs ys)) (sym here) ∙ (take-append-add (take i xs) (ys ++ drop k (drop i xs)) n ∙ ap (λ l. take i xs ++ l) (take-append-le n ys (drop k (drop i xs)) (omega arith)))

  pub back_then : drop n ys ≡ drop n (take k (drop i xs)) → drop (i + n) (put_mid i k xs ys) ≡ drop (i + n) xs
  back_then e =
      let part : length (take k (drop i xs)) ≡ k = length-take-le k (drop i xs) (omega (arith, length-drop i xs)) in
      ap (λ (m : ℕ). drop (m + n) (put_mid i k xs ys)) (sym here) ∙ (drop-append-add (take i xs) (ys ++ drop k (drop i xs)) n
      ∙ (drop-append-le n ys (drop k (drop i xs)) (omega arith) ∙ (ap (λ l. l ++ drop k (drop i xs)) e ∙ (sym (drop-append-le n (take k (drop i xs)) (drop k (drop i xs)) (omega (arith, part)))
      ∙ (ap (drop n) (take-append-drop k (drop i xs)) ∙ drop-drop n i xs)))))

-- a part up to the end
pub up_to_end : (i : ℕ) (xs : List ℕ) → take (length xs - i) (drop i xs) ≡ drop i xs
up_to_end i xs = take_all (length xs - i) (drop i xs) (omega (arith, length-drop i xs))

-- behind what was written to it and to the front of its part a slice is as it was
pub spares_more : (i k n : ℕ) (old xs ys : List ℕ) → i + k ≤ length xs → Spares i old xs → Spares n (take k (drop i xs)) ys → Spares (i + n) old (put_mid i k xs ys)
spares_more i k n old xs ys within a b =
    let part : length (take k (drop i xs)) ≡ k = length-take-le k (drop i xs) (omega (arith, length-drop i xs)) in
    let full : length ys ≡ k = omega (arith, b.long, part) in
    record {
      within = omega (arith, a.long, b.within, part);
      past = back_then i k xs ys n within full (omega (arith, b.within, part)) b.past ∙ (sym (drop-drop n i xs) ∙ (ap (drop n) a.past ∙ drop-drop n i old));
      long = same_len_mid i k xs ys b.long ∙ a.long;
    }

pub steady_then : {a b c : Machine} → Steady a b → Steady b c → Steady a c
steady_then x y = record { taken = omega (arith, x.taken, y.taken); given = omega (arith, x.given, y.given) }

before_none : (o : Answer) → before 0 [] o ≡ o
before_none o = let z : 0 + o.steps ≡ o.steps = omega arith in ap (λ (n : ℕ). record o { steps = n }) z

before_after : (steps : ℕ) (said bytes : List ℕ) (o : Answer) → before steps said (after bytes o) ≡ before (steps + 1) (said ++ bytes) o
before_after steps said bytes o =
    let z : steps + (1 + o.steps) ≡ (steps + 1) + o.steps = omega arith in
    rw (z, sym (append_assoc said bytes o.bytes)) refl

before_stopped : (steps : ℕ) (said : List ℕ) (e : End) (r : rules.Run) → before steps said (stopped e r) ≡ record { end = e; steps = steps; bytes = said; run = r }
before_stopped steps said e r = let z : steps + 0 ≡ steps = omega arith in rw (z, append-nil said) refl

module _ (o : Opening) (r : rules.Run) (count room : ℕ) where
  pub underway_none : {out : List ℕ} {M : Machine} {m : Cells} → Inside o r (run_of o r M) m → Underway o r count room 0 0 out M m
  underway_none I =
      let a : count - 0 ≡ count = omega arith in
      let b : room - 0 ≡ room = omega arith in
      record {
        here = r;
        said = [];
        same = sym (ap (λ (n : ℕ). before 0 [] (answer_of o r n (room - 0))) a ∙ (ap (λ (n : ℕ). before 0 [] (answer_of o r count n)) b ∙ before_none (answer_of o r count room)));
        long = refl;
        wrote = refl;
        counted = omega arith;
        inside = I;
      }

  left_room : (bytes : ℕ) (out : List ℕ) → length out ≡ room → length (drop bytes out) ≡ room - bytes
  left_room bytes out long = omega (arith, length-drop bytes out)

  module _ (steps bytes : ℕ) (out : List ℕ) (long : length out ≡ room) (within : bytes ≤ length out) {M : Machine} {m : Cells} (U : Underway o r count room steps bytes out M m) (m' : Cells) where
    -- a step more
    pub underway_more : {n : ℕ} {new : List ℕ} (M' : Machine) → steps < count → length new ≡ length (drop bytes out) → n ≤ length new
        → Turned o (drop bytes out) (turn_of o (count - steps) (length (drop bytes out)) U.here) (Moves n) new (record { machine = M'; allowance = allowed o.allowance; steps = U.here.steps + 1; fault = None }) m'
        → Underway o r count room (steps + 1) (bytes + n) (put_mid bytes (length out - bytes) out new) M' m'
    underway_more {n} {new} M' some same_long fits T = by (turn_of o (count - steps) (length (drop bytes out)) U.here) refl T
      where
        by : (t : rules.Turn) → turn_of o (count - steps) (length (drop bytes out)) U.here ≡ t → Turned o (drop bytes out) t (Moves n) new (record { machine = M'; allowance = allowed o.allowance; steps = U.here.steps + 1; fault = None }) m'
            → Underway o r count room (steps + 1) (bytes + n) (put_mid bytes (length out - bytes) out new) M' m'
        by _ e (turned_moves {bytes = bs} {r = next} k f w I) =
            let one = advance_moves (program o.script) (sizes_of o) (allowed o.allowance) (count - steps) (count - (steps + 1)) (length (drop bytes out)) U.here (omega arith) e in
            let left : length (drop bytes out) - length bs ≡ room - (bytes + n) = omega (arith, (left_room bytes out long)) in
            let printed : take n new ≡ bs = ap (take n) w ∙ (ap (λ (k : ℕ). take k (bs ++ drop (length bs) (drop bytes out))) k ∙ take-append_seam bs _) in
            record {
              here = next;
              said = U.said ++ bs;
              same =
                  U.same ∙ (ap (λ (n : ℕ). before steps U.said (answer_of o U.here (count - steps) n)) (sym (left_room bytes out long)) ∙ (ap (before steps U.said) one
                  ∙ (before_after steps U.said bs (answer_of o next (count - (steps + 1)) (length (drop bytes out) - length bs))
                  ∙ ap (λ (n : ℕ). before (steps + 1) (U.said ++ bs) (answer_of o next (count - (steps + 1)) n)) left)));
              long = omega (arith, length-append U.said bs, U.long);
              wrote = front_then bytes (length out - bytes) out new n (omega arith) (omega (arith, same_long, length-drop bytes out)) (omega (arith, same_long, fits, length-drop bytes out)) ∙ (ap (λ l. l ++ take n new) U.wrote ∙ ap (λ l. U.said ++ l) printed);
              counted = omega (arith, I.steps, U.counted);
              inside = subst (λ (n : ℕ). Inside o next (record { machine = M'; allowance = allowed o.allowance; steps = n; fault = None }) m') I.steps I;
            }

    -- the end
    pub record EndedSo (e : End) (out' : List ℕ) (run' : Run) : Type 0 where
      pub next : rules.Run
      pub answer : answer_of o r count room ≡ record { end = e; steps = steps; bytes = U.said; run = next }
      pub wrote : take bytes out' ≡ U.said
      pub inside : Inside o next run' m'

    pub underway_ends : {e : End} {new : List ℕ} {run' : Run} → Turned o (drop bytes out) (turn_of o (count - steps) (length (drop bytes out)) U.here) (Ends e) new run' m'
        → EndedSo e (put_mid bytes (length out - bytes) out new) run'
    underway_ends {e} {new} {run'} T = by (turn_of o (count - steps) (length (drop bytes out)) U.here) refl T
      where
        by : (t : rules.Turn) → turn_of o (count - steps) (length (drop bytes out)) U.here ≡ t → Turned o (drop bytes out) t (Ends e) new run' m' → EndedSo e (put_mid bytes (length out - bytes) out new) run'
        by _ q (turned_ends {r = next} w I) =
            let one = advance_ends (program o.script) (sizes_of o) (allowed o.allowance) (count - steps) (length (drop bytes out)) U.here q in
            record {
              next = next;
              answer = U.same ∙ (ap (λ (n : ℕ). before steps U.said (answer_of o U.here (count - steps) n)) (sym (left_room bytes out long)) ∙ (ap (before steps U.said) one ∙ before_stopped steps U.said e next));
              wrote = take-put_mid_below bytes (length out - bytes) out new bytes (omega arith) within ∙ U.wrote;
              inside = I;
            }
