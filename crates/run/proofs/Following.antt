-- What a run stands for after a history of advances, from its answers and its inside.
use Rattle.std.proofs.Common.{◌≡◌, ℕ, ◌≢◌, List, [], ◌∷◌, ◌++◌, map, length, sym, refl, ap, ◌∙◌, subst, arith}
use Rattle.std.proofs.lemmas.List.{map-append}
use Rattle.cells.specs.Meaning.{Cells}
use Rattle.data.proofs.Keeping.{keeps_from_out}
use Rattle.data.proofs.Outs.{out_long}
use Rattle.data.specs.Standing.{Keeps}
use Rattle.machine.proofs.Cells.{live_cells}
use Rattle.machine.specs.Mirrors.{Mirrors, mirrors}
use Rattle.machine.specs.declared.machine.Machine.{Machine}
use Rattle.program.specs.Programs.{program}
use Rattle.rules.specs.declared.answers.Advanced.{Advanced}
use Rattle.rules.specs.declared.answers.End.TheVariants.{Faulted}
use Rattle.rules.specs.declared.fault.Fault.{Fault}
use Rattle.rules.specs.declared.fault.FaultKind.TheVariants.{Stuck}
use Rattle.rules.specs.Cells.{free_cells}
use Rattle.rules.specs.Histories.{Call, answer, answers, reached}
use Rattle.rules.specs.Laws.{ExactlyShort}
use Rattle.rules.specs.Runs as rules
use Rattle.rules.specs.Runs.{Answer, allowed, opened_run}
use Rattle.rules.specs.States.{State}
use Rattle.rules.proofs.CellsLaw.{short_of_cells}
use Rattle.rules.proofs.NeverStuck.{never_stuck}
use Rattle.rules.proofs.OrderLaw.{tests_in_order}
use Rattle.run.proofs.Dropping.{handed_size}
use Rattle.run.specs.Insides.{Inside}
use Rattle.run.specs.Openings.{Opening, free, Made, made, asked, sizes_of, answer_of, answers_of, run_after}
use Rattle.run.specs.Stands.{values_of, data_held, Said, said, told, as_answer, Stands}
use Rattle.run.specs.declared.runs.Run.{Run}

module _ (o : Opening) where
  abbrev next : rules.Run → Call → Answer
  next r c = answer (program o.script) (sizes_of o) (allowed o.allowance) r c

  abbrev all : rules.Run → List Call → List Answer
  all r cs = answers (program o.script) (sizes_of o) (allowed o.allowance) r cs

  abbrev after_all : rules.Run → List Call → rules.Run
  after_all r cs = reached (program o.script) (sizes_of o) (allowed o.allowance) r cs

  -- one advance more
  reached_more : (r : rules.Run) (cs : List Call) (c : Call) → after_all r (cs ++ c ∷ []) ≡ (next (after_all r cs) c).run
  reached_more r [] c = refl
  reached_more r (d ∷ cs) c = reached_more (next r d).run cs c

  answers_more : (r : rules.Run) (cs : List Call) (c : Call) → all r (cs ++ c ∷ []) ≡ all r cs ++ next (after_all r cs) c ∷ []
  answers_more r [] c = refl
  answers_more r (d ∷ cs) c = ap (λ l. next r d ∷ l) (answers_more (next r d).run cs c)

  -- an answer among others
  told_at : (r : rules.Run) (before after : List Made) (c : Made) → map told (before ++ c ∷ after) ≡ map said (all r (map asked (before ++ c ∷ after))) → told c ≡ said (next (after_all r (map asked before)) (asked c))
  told_at r [] after c e = cc
  told_at r (b ∷ before) after c e = told_at (next r (asked b)).run before after c (cc)

  answered_as : (c : Made) (a : Answer) (r : rules.Run) → told c ≡ said a → r ≡ a.run → as_answer c r ≡ a
  answered_as c a r e k =
      let end : c.answer.end ≡ a.end = ap (λ (s : Said). s.end) e in
      let steps : c.answer.steps ≡ a.steps = ap (λ (s : Said). s.steps) e in
      let bytes : c.bytes ≡ a.bytes = ap (λ (s : Said). s.bytes) e in
      rw (end, steps, bytes, k) refl

  -- the run that is reached by one advance more
  pub after_more : (h : List Made) (c : Made) → run_after o (h ++ c ∷ []) ≡ (next (run_after o h) (asked c)).run
  after_more h c = ap (λ l. after_all (opened_run o.input) l) (map-append asked h (c ∷ [])) ∙ reached_more (opened_run o.input) (map asked h) (asked c)

  module _ (h : List Made) (same : map told h ≡ map said (answers_of o h)) where
    answered_at : (before after : List Made) (c : Made) → h ≡ before ++ c ∷ after → as_answer c (run_after o (before ++ c ∷ [])) ≡ next (run_after o before) (asked c)
    answered_at before after c e =
        answered_as c (next (run_after o before) (asked c)) (run_after o (before ++ c ∷ []))
        (told_at (opened_run o.input) before after c (subst (λ h. map told h ≡ map said (answers_of o h)) e same)) (after_more before c)

    short_at : (before after : List Made) (c : Made) → h ≡ before ++ c ∷ after
        → ExactlyShort (program o.script) (sizes_of o) (allowed o.allowance) (run_after o before) (asked c) (as_answer c (run_after o (before ++ c ∷ [])))
    short_at before after c e =
        subst (ExactlyShort (program o.script) (sizes_of o) (allowed o.allowance) (run_after o before) (asked c)) (sym (answered_at before after c e))
        (short_of_cells (program o.script) (sizes_of o) (allowed o.allowance) o.input (map asked before) (asked c) (run_after o before) refl)

    sound_at : {run : Run} {m : Cells} → Inside o (run_after o h) run m → (before after : List Made) (c : Made) (f : Fault) → h ≡ before ++ c ∷ after → c.answer.end ≡ Faulted f → f.kind ≢ Stuck
    sound_at I before after c f e k =
        let P = program o.script in
        let A = allowed o.allowance in
        let here = answered_at before after c e in
        let end : (next (run_after o before) (asked c)).end ≡ Faulted f = sym (ap (λ (a : Answer). a.end) here) ∙ k in
        let fault = (tests_in_order P (sizes_of o) A (run_after o before) (asked c)).fault f end in
        (never_stuck o.script I.lawful (sizes_of o) A o.input (map asked (before ++ c ∷ []))).run f (ap (λ (r : rules.Run). r.fault) (after_more before c) ∙ fault)

  keeps_in : {s : State} {M : Machine} {m : Cells} → Mirrors (program o.script) (sizes_of o) o.cells s M m → Keeps o.cells m (values_of M) (data_held s)
  keeps_in {m = m} (mirrors R N) = keeps_from_out o.cells m _ _ R.data_held

  free_in : {s : State} {M : Machine} {m : Cells} → Mirrors (program o.script) (sizes_of o) o.cells s M m → free m ≡ free_cells (sizes_of o) s
  free_in (mirrors {K = K} {env = env} {c = c} R N) = omega (arith, live_cells R, out_long R.data_held, R.cells, handed_size c)

  -- a run whose answers are the rules', and that stands inside for the rules' run, stands for it
  pub stands_by : (h : List Made) {run : Run} {m : Cells} → map told h ≡ map said (answers_of o h) → Inside o (run_after o h) run m → Stands o h run m
  stands_by h {run} {m} e I = record {
    cells = keeps_in I.mirrored;
    free_is = free_in I.mirrored;
    answers = e;
    sound = sound_at h e I;
    short = short_at h e;
    inside = I;
  }

  -- one advance more
  pub stands_more : (h : List Made) {run run' : Run} {m m' : Cells} (count room : ℕ) (answer : Advanced) (bytes : List ℕ) (r : rules.Run) → Stands o h run m
      → answer_of o (run_after o h) count room ≡ record { end = answer.end; steps = answer.steps; bytes = bytes; run = r } → answer.bytes ≡ length bytes → Inside o r run' m'
      → Stands o (h ++ made count room answer bytes ∷ []) run' m'
  stands_more h {run' = run'} {m' = m'} count room answer bytes r S e long I =
      let c = made count room answer bytes in
      let same : map told (h ++ c ∷ []) ≡ map said (answers_of o (h ++ c ∷ [])) =
      map-append told h (c ∷ []) ∙ (ap (λ l. l ++ told c ∷ []) S.answers ∙ sym (ap (λ l. map said (all (opened_run o.input) l)) (map-append asked h (c ∷ []))
      ∙ (ap (map said) (answers_more (opened_run o.input) (map asked h) (asked c)) ∙ (map-append said (answers_of o h) (next (run_after o h) (asked c) ∷ [])
      ∙ ap (λ x. map said (answers_of o h) ++ x ∷ []) (told_so c e long))))) in
      stands_by (h ++ c ∷ []) same (subst (λ r. Inside o r run' m') (sym (after_more h c ∙ ap (λ (a : Answer). a.run) e)) I)
    where
      told_so : (c : Made) → answer_of o (run_after o h) c.count c.room ≡ record { end = c.answer.end; steps = c.answer.steps; bytes = c.bytes; run = r } → c.answer.bytes ≡ length c.bytes → said (next (run_after o h) (asked c)) ≡ told c
      told_so c e long = ap said e ∙ ap (λ (n : ℕ). record { end = c.answer.end; steps = c.answer.steps; written = n; bytes = c.bytes }) (sym long)

  -- at opening
  pub stands_none : {run : Run} {m : Cells} → Inside o (opened_run o.input) run m → Stands o [] run m
  stands_none I = stands_by [] refl I
