-- The places of what waits and of what comes next.
use Rattle.std.proofs.Common.{◌≡◌, ℕ, List, ◌∷◌, Some, sym, ap, ◌∙◌}
use Rattle.grammar.specs.Trees.{Expr, place_of}
use Rattle.machine.specs.Waiting.{Waits, waits_test, waits_arm, waits_part, waits_binding, waits_leaving, waits_tested, waits_head, waits_argument, waits_field, waits_body, waits_main}
use Rattle.machine.specs.declared.frame.Frame.{Frame as Waiting}
use Rattle.program.specs.Programs.{Program}
use Rattle.program.specs.Scopes.{Scope}
use Rattle.program.specs.Standing as stands
use Rattle.program.specs.Standing.{at, Stands, Lays}
use Rattle.program.specs.declared.code.Code.{Code}
use Rattle.program.specs.declared.code.Op.{Op}
use Rattle.rules.specs.States.{Frame}
use Rattle.rules.specs.Steps.{place_of_frame}
use Rattle.run.specs.Places.{node_meant}

module _ {P : Program} {cs : List Code} where
  -- a node has the place of what waits there
  pub waiting_place : {G : Scope} {f : Frame} {K : List Frame} {frame : Waiting} {fs : List Waiting} (i : ℕ) → Waits P cs G (f ∷ K) (frame ∷ fs) → node_meant frame ≡ Some i → (at P cs i).place ≡ place_of_frame f
  waiting_place i (waits_test {i = k} p x y w) e = let same : k ≡ i = cc in ap (λ i. (at P cs i).place) (sym same) ∙ p
  waiting_place i (waits_arm {i = k} p w) e = let same : k ≡ i = cc in ap (λ i. (at P cs i).place) (sym same) ∙ p
  waiting_place i (waits_part {i = k} p r w) e = let same : k ≡ i = cc in ap (λ i. (at P cs i).place) (sym same) ∙ p
  waiting_place i (waits_binding {i = k} m p n b y w) e = let same : k ≡ i = cc in ap (λ i. (at P cs i).place) (sym same) ∙ p
  waiting_place i (waits_leaving {i = k} p w) e = let same : k ≡ i = cc in ap (λ i. (at P cs i).place) (sym same) ∙ p
  waiting_place i (waits_tested {i = k} p b w) e = let same : k ≡ i = cc in ap (λ i. (at P cs i).place) (sym same) ∙ p
  waiting_place i (waits_head {i = k} p r w) e = let same : k ≡ i = cc in ap (λ i. (at P cs i).place) (sym same) ∙ p
  waiting_place i (waits_argument {i = k} p h r w) e = let same : k ≡ i = cc in ap (λ i. (at P cs i).place) (sym same) ∙ p
  waiting_place i (waits_field {i = k} p o n r w) e = let same : k ≡ i = cc in ap (λ i. (at P cs i).place) (sym same) ∙ p
  waiting_place i (waits_body {i = k} p n w) e = let same : k ≡ i = cc in ap (λ i. (at P cs i).place) (sym same) ∙ p
  waiting_place i (waits_main m p w) e = absurd (cc)

  pub standing_place : {G : Scope} {o : Op} {e : Expr} {i : ℕ} → Stands P cs G o e i → (at P cs i).place ≡ place_of e
  standing_place (stands.integer p) = p
  standing_place (stands.symbol p n) = p
  standing_place (stands.boolean p) = p
  standing_place (stands.unit_literal p) = p
  standing_place (stands.local_name p d) = p
  standing_place (stands.function_name p d g) = p
  standing_place (stands.val_name p d g) = p
  standing_place (stands.dup_expression p d) = p
  standing_place (stands.if_expression p x y z) = p
  standing_place (stands.begin_expression p x r) = p
  standing_place (stands.let_expression p n b x) = p
  standing_place (stands.case_expression p x b) = p
  standing_place (stands.call_expression p x r) = p
  standing_place (stands.build_expression p d g n r) = p
