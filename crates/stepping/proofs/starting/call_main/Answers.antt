use Rattle.std.proofs.Common.{◌≡◌, ◌∷◌, [], map, None, Some, refl, sym, ap, ◌∙◌, subst, slice_index_or}
use Rattle.grammar.specs.Trees.{bound}
use Rattle.machine.specs.Holding.{names}
use Rattle.machine.specs.Mirrors.{Moved, moved_any}
use Rattle.machine.specs.Waiting.{Waits, waits_main}
use Rattle.machine.specs.declared.frame.Frame.TheVariants.{Main}
use Rattle.program.specs.Scopes.{bind_scope}
use Rattle.program.specs.Standing.{no_function, StandsAt}
use Rattle.program.specs.declared.compiled.FunctionCode.{FunctionCode}
use Rattle.rules.specs.Runs.{main_of}
use Rattle.rules.specs.States.{st, opened, main_value}
use Rattle.rules.specs.Steps.{main_called}
use Rattle.stepping.proofs.Turning.{no_entries, rests}
use Rattle.stepping.proofs.starting.call_main.Goals as goal

pub returns-clause-law : goal.returns-clause-law
unfolding main_called
returns-clause-law c = λ P Z m₀ m K env a M.
    let r = c.args.machine.now in
    let cs = r.script.now.code in
    let R = rests M in
    let none = no_entries M in
    elim (main_of P) as (λ d. main_of P ≡ d → Moved P Z m₀ (st K env opened a) (main_called P Z K env a d) c.wait.result c.wait.new.self m) [
      | None ↦ λ e. moved_any
      | Some d ↦ λ e.
          let D = R.ready.lays.defines r.script.now.main d (R.ready.lays.main d e) in
          c.wait.ensures.law P Z m₀ m (st K env opened a) K env env a (main_value d.place) d.body M R (record {
            stands = subst (λ i. StandsAt P cs (names env) d.body i) (ap (λ (f : FunctionCode). f.body) (sym c.function_at-main.ensures))
                (subst (λ G. StandsAt P cs G d.body (slice_index_or r.script.now.functions r.script.now.main no_function).body) (ap (λ xs. bind_scope (map bound xs) []) (R.ready.bare d e) ∙ sym none) D.body);
            waits = λ fs w. subst (λ G. Waits P cs G (main_value d.place ∷ K) (Main ∷ fs)) (sym none) (waits_main e refl (subst (λ G. Waits P cs G K fs) none w));
            same = refl;
          })
    ] refl
