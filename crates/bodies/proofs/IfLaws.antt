-- An if.
use Rattle.std.proofs.Common.{◌≡◌, ℕ, ◌+◌, ◌≤◌, Bool, true, false, ◌||◌, List, ◌++◌, Ok, Err, Result, slice_set, sym, refl, ap, ◌∙◌, subst, arith}
use Rattle.std.specs.Prelude.{slice_index_or}
use Rattle.bodies.proofs.DeskLaws.{marked_as, kept_ready, kept_lying, kept_self, kept_marked, names_again, names_joined}
use Rattle.bodies.proofs.JudgeLaws.{if_test_refused, if_test_other, if_first_refused, if_second_refused, if_unlike, if_judged}
use Rattle.bodies.proofs.NodeLaws.{Behind, coded_low, coded_after, coded_at}
use Rattle.bodies.proofs.PutLaws.{puts_two}
use Rattle.bodies.proofs.SizeLaws.{code_size}
use Rattle.bodies.specs.Parts.{OnExpr, number_of}
use Rattle.forms.specs.Progress.{puts}
use Rattle.grammar.specs.Limits.{expr_nodes}
use Rattle.grammar.specs.Trees.{Expr, if_expr, Script}
use Rattle.layout.specs.Decoding.{node_found, c_if}
use Rattle.layout.specs.declared.node.Node.{Node}
use Rattle.layout.specs.declared.node.NodeForm.TheVariants as form
use Rattle.naming.specs.Judges.{Desk, Kept, Setting, Ready, Lying, Coded, Answers, ExprAnswers, names, meant, vals_of, rows_of, text_of}
use Rattle.naming.specs.declared.world.World.{World}
use Rattle.program.proofs.CodeLaws.{code_length}
use Rattle.program.specs.Compiling.{code, compile}
use Rattle.program.specs.Programs.{program}
use Rattle.program.specs.Scopes as placed
use Rattle.program.specs.declared.code.Code.{Code}
use Rattle.program.specs.declared.code.Op.TheVariants as op
use Rattle.script_refusals.specs.Refusals.{refused_at}
use Rattle.script_refusals.specs.declared.refusal.Refusal.TheVariants.{Mismatch}
use Rattle.script_refusals.specs.declared.refusal.Refused.{Refused}
use Rattle.type_rows.specs.Rows.{IsKind}
use Rattle.type_rows.specs.declared.value_type.ValueType.{ValueType}
use Rattle.type_rows.specs.declared.value_type.ValueType.TheVariants as value
use Rattle.typing.specs.Judging.{Judged, refused, judged, judge}
use Rattle.typing.specs.Types.{Ty, same_type, bool}

module _ (world : World) (script : Script) (set : Setting world script) (i height : ℕ) (node : Node) (is : node ≡ node_found world.nodes.now i) (d0 : Desk) (ready : Ready world script d0) (codes1 : List Code) where
  abbrev ns : List Node
  ns = world.nodes.now

  abbrev judgement : Expr → Desk → Judged Ty
  judgement e d = judge (program script) (vals_of world script) e (names world script d)

  -- the test
  module _ (d1 : Desk) (codes2 : List Code) where
    pub test_refused : {e : Expr} (r : Refused) → Coded world script form.If e i → OnExpr world (i + 1) height d0 codes1 (Err r) d1 codes2 → judgement e d0 ≡ refused r
    test_refused r (c_if {p = p} {a = a} {b = b} {c = c} place ka kb kc last) t = if_test_refused (program script) (vals_of world script) p a b c (names world script d0) r (t script a set ready ka)

    pub test_other : {e : Expr} (kind : ValueType) (r : Refused) → Coded world script form.If e i → OnExpr world (i + 1) height d0 codes1 (Ok kind) d1 codes2
        → (kind ≡ value.Bool → ⊥) → r ≡ refused_at Mismatch node.place → judgement e d0 ≡ refused r
    test_other kind r (c_if {p = p} {a = a} {b = b} {c = c} place ka kb kc last) t other e =
        let y = t script a set ready ka in
        if_test_other (program script) (vals_of world script) p a b c (names world script d0) (meant world script kind) (names world script d1) y.type (not_bool kind y.valid other)
        ∙ ap (λ p. refused (refused_at Mismatch p)) (sym place ∙ sym (ap (λ (n : Node). n.place) is)) ∙ ap refused (sym e)
      where
        not_bool : (kind : ValueType) → IsKind (rows_of world script) kind → (kind ≡ value.Bool → ⊥) → same_type (meant world script kind) bool ≡ false
        not_bool value.Int valid other = refl
        not_bool value.Bool valid other = absurd (other refl)
        not_bool value.Sym valid other = refl
        not_bool value.Unit valid other = refl
        not_bool (value.Datatype d) valid other = refl
        not_bool (value.Function k) valid other = let f = set.known.mean k valid.0 valid.1 in rw f.meant refl

    -- the arms, behind a test of booleans
    module _ (test : OnExpr world (i + 1) height d0 codes1 (Ok value.Bool) d1 codes2) (k1 : Kept d0 d1) (first : ℕ) (at_first : Behind ns first (i + 1)) (d2 : Desk) (codes3 : List Code) where
      pub first_refused : {e : Expr} (r : Refused) → Coded world script form.If e i → OnExpr world first height d1 codes2 (Err r) d2 codes3 → judgement e d0 ≡ refused r
      first_refused r (c_if {p = p} {a = a} {b = b} {c = c} place ka kb kc last) arm =
          let y = test script a set ready ka in
          let low = coded_low world script a (i + 1) ka in
          let few = set.few in
          let f = coded_after world script _ a (i + 1) first ka at_first (omega arith) in
          if_first_refused (program script) (vals_of world script) p a b c (names world script d0) (names world script d1) y.type r
          (arm script b set (kept_ready world script d0 d1 k1 ready) (coded_at world script b first _ f.0 kb))

      module _ (kind : ValueType) (arm : OnExpr world first height d1 codes2 (Ok kind) d2 codes3) (k2 : Kept d1 d2) (second : ℕ) (at_second : Behind ns second first) (d3 : Desk) (codes4 : List Code) where
        abbrev d1_again : Desk
        d1_again = marked_as d2 d1.marks

        -- what the parts gave
        record Arms (p : ℕ) (a b c : Expr) (result : Result ValueType Refused) : Type 0 where
          pub tested : judgement a d0 ≡ judged bool (names world script d1)
          pub taken : judgement b d1 ≡ judged (meant world script kind) (names world script d2)
          pub valid : IsKind (rows_of world script) kind
          pub other : Answers world script (judgement c d1) (λ G. compile (program script) G second c) second height d1_again codes3 result d3 codes4
          pub place : node.place ≡ p
          pub past : node.past ≡ i + expr_nodes (if_expr p a b c)
          pub first_at : first ≡ i + 1 + expr_nodes a
          pub second_at : second ≡ first + expr_nodes b
          pub low : second ≤ 4096
          pub first_noted : (G : placed.Scope) → Lying world script d0 G height i → codes2 ≡ puts codes1 (i + 1) (compile (program script) G (i + 1) a)
          pub second_noted : (G : placed.Scope) → Lying world script d1 G height first → codes3 ≡ puts codes2 first (compile (program script) G first b)

        arms : {e : Expr} (result : Result ValueType Refused) → Coded world script form.If e i → OnExpr world second height d1_again codes3 result d3 codes4
            → (p : ℕ) × (a : Expr) × (b : Expr) × (c : Expr) × (e ≡ if_expr p a b c) × Arms p a b c result
        arms result (c_if {p = p} {a = a} {b = b} {c = c} place ka kb kc last) other =
            let whole : Coded world script form.If (if_expr p a b c) i = c_if place ka kb kc last in
            let y = test script a set ready ka in
            let low = coded_low world script a (i + 1) ka in
            let few = set.few in
            let f = coded_after world script _ a (i + 1) first ka at_first (omega arith) in
            let r1 = kept_ready world script d0 d1 k1 ready in
            let kb' = coded_at world script b first _ f.0 kb in
            let z = arm script b set r1 kb' in
            let low_b = coded_low world script b first kb' in
            let s = coded_after world script _ b first second kb' at_second (omega arith) in
            let again : names world script d1_again ≡ names world script d1 = names_again world script d1 d2 k2 in
            let at : second ≡ (node_found ns (node_found ns (i + 1)).past).past = s.0 ∙ ap (λ j. (node_found ns j).past) f.0 in
            let kc' = coded_at world script c second _ at kc in
            let low_c = coded_low world script c second kc' in
            let r2 : Ready world script d1_again = kept_ready world script d1 d1_again (kept_marked d1 d2 d1.marks (sym k2.long) k2) r1 in (
              p,
              a,
              b,
              c,
              refl,
              record {
                tested = y.type;
                taken = z.type;
                valid = z.valid;
                other = subst (λ Γ. Answers world script (judge (program script) (vals_of world script) c Γ) (λ G. compile (program script) G second c) second height d1_again codes3 result d3 codes4) again (other script c set r2 kc');
                place = ap (λ (n : Node). n.place) is ∙ place;
                past = ap (λ (n : Node). n.past) is ∙ code_size (text_of world script) (number_of world script) ns whole;
                first_at = f.1;
                second_at = s.1;
                low = omega arith;
                first_noted = λ G lying. y.noted G (kept_lying world script d0 d0 (kept_self d0) G height i (i + 1) (omega arith) (omega arith) lying);
                second_noted = λ G lying. z.noted G lying;
              },
            )

        pub second_refused : {e : Expr} (r : Refused) → Coded world script form.If e i → OnExpr world second height d1_again codes3 (Err r) d3 codes4 → judgement e d0 ≡ refused r
        second_refused r stands other =
            let x = arms (Err r) stands other in
            let y = x.5 in
            ap (λ e. judgement e d0) x.4 ∙ if_second_refused (program script) (vals_of world script) x.0 x.1 x.2 x.3 (names world script d0) (names world script d1) y.tested (meant world script kind) (names world script d2) y.taken r y.other

        module _ (rho : ValueType) (k3 : Kept d1_again d3) where
          pub arms_unlike : {e : Expr} (r : Refused) → Coded world script form.If e i → OnExpr world second height d1_again codes3 (Ok rho) d3 codes4
              → (IsKind (rows_of world script) kind → IsKind (rows_of world script) rho → false ≡ same_type (meant world script kind) (meant world script rho)) → r ≡ refused_at Mismatch node.place → judgement e d0 ≡ refused r
          arms_unlike r stands other same e =
              let x = arms (Ok rho) stands other in
              let y = x.5 in
              ap (λ e. judgement e d0) x.4
              ∙ if_unlike (program script) (vals_of world script) x.0 x.1 x.2 x.3 (names world script d0) (names world script d1) y.tested (meant world script kind) (names world script d2) y.taken (meant world script rho) (names world script d3) y.other.type (sym (same y.valid y.other.valid))
              ∙ ap (λ p. refused (refused_at Mismatch p)) (sym y.place) ∙ ap refused (sym e)

          pub arms_judged : {e : Expr} (codes : List Code) (marks : List Bool) → Coded world script form.If e i → OnExpr world second height d1_again codes3 (Ok rho) d3 codes4
              → codes1 ≡ slice_set codes i (code op.If node.place node.past)
              → (IsKind (rows_of world script) kind → IsKind (rows_of world script) rho → true ≡ same_type (meant world script kind) (meant world script rho))
              → ((k : ℕ) → slice_index_or marks k false ≡ (slice_index_or d3.marks k false || slice_index_or d2.marks k false))
              → ExprAnswers world script e i height d0 codes (Ok kind) (marked_as d3 marks) codes4
          arms_judged {e = e} codes marks stands other begun same either =
              let x = arms (Ok rho) stands other in
              let p = x.0 in
              let a = x.1 in
              let b = x.2 in
              let c = x.3 in
              let y = x.5 in
              let k13 : Kept d2 d3 = record { depth = k3.depth; same = k3.same; room = k3.room; long = k3.long ∙ sym k2.long } in
              subst (λ e. ExprAnswers world script e i height d0 codes (Ok kind) (marked_as d3 marks) codes4) (sym x.4) (record {
                type = if_judged (program script) (vals_of world script) p a b c (names world script d0) (names world script d1) y.tested (meant world script kind) (names world script d2) y.taken
                    (meant world script rho) (names world script d3) y.other.type (sym (same y.valid y.other.valid)) ∙ ap (judged (meant world script kind)) (sym (names_joined world script d2 d3 marks k13 either));
                valid = y.valid;
                noted = λ G lying.
                    let low = y.low in
                    let at1 = y.first_at in
                    let at2 = y.second_at in
                    let l1 = kept_lying world script d0 d1 k1 G height i first (omega arith) (omega arith) lying in
                    let l2 = kept_lying world script d1 d1_again (kept_marked d1 d2 d1.marks (sym k2.long) k2) G height first second (omega arith) (omega arith) l1 in
                    let la = code_length (program script) a G (i + 1) in
                    let lb = code_length (program script) b G first in
                    let A = compile (program script) G (i + 1) a in
                    let B = compile (program script) G first b in
                    let C = compile (program script) G second c in
                    let h1 = y.first_noted G lying in
                    let h2 = puts_two codes2 codes3 codes4 first second B C (y.second_noted G l1) (y.other.noted G l2) (omega arith) in
                    let h3 = puts_two codes1 codes2 codes4 (i + 1) first A (B ++ C) h1 h2 (omega arith) in
                    let eb : B ≡ compile (program script) G (i + 1 + expr_nodes a) b = ap (λ j. compile (program script) G j b) at1 in
                    let ec : C ≡ compile (program script) G (i + 1 + expr_nodes a + expr_nodes b) c = ap (λ j. compile (program script) G j c) (omega arith) in
                    let e0 : code op.If node.place node.past ≡ code op.If p (i + expr_nodes (if_expr p a b c)) = cc (y.place, y.past) in
                    h3 ∙ ap (λ s. puts s (i + 1) (A ++ (B ++ C))) (begun ∙ ap (slice_set codes i) e0) ∙ ap (λ bs. puts (slice_set codes i (code op.If p (i + expr_nodes (if_expr p a b c)))) (i + 1) (A ++ bs)) (cc (eb, ec));
              })
