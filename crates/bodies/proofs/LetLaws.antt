-- A let, and its bindings.
use Rattle.std.proofs.Common.{◌≡◌, ℕ, ◌+◌, ◌-◌, ◌<◌, ◌≤◌, List, ◌∷◌, ◌++◌, length, Some, Ok, Err, Result, slice_set, sym, refl, ap, ◌∙◌, subst, arith}
use Rattle.bodies.proofs.DeskLaws.{kept_ready, kept_lying, kept_self}
use Rattle.bodies.proofs.JudgeLaws.{let_refused, let_body_refused, let_judged, binding_refused, binding_goes}
use Rattle.bodies.proofs.NodeLaws.{Behind, coded_low, bindable_low}
use Rattle.bodies.proofs.PutLaws.{puts_two, set_puts}
use Rattle.bodies.proofs.SizeLaws.{code_size}
use Rattle.bodies.specs.Parts.{OnExpr, OnBindings, Bindable, BindingsAnswers, LetBound, number_of}
use Rattle.forms.specs.Progress.{puts}
use Rattle.globals.specs.Known.{meaning_in}
use Rattle.grammar.specs.Limits.{expr_nodes}
use Rattle.grammar.specs.Trees.{Expr, let_expr, Bindings, and_binding, Script}
use Rattle.layout.specs.Decoding as lies
use Rattle.layout.specs.Decoding.{node_found, c_let, c_body, c_binding}
use Rattle.layout.specs.declared.node.Node.{Node}
use Rattle.layout.specs.declared.node.NodeForm.{NodeForm}
use Rattle.layout.specs.declared.node.NodeForm.TheVariants as form
use Rattle.layout.specs.declared.word.Word.{Word}
use Rattle.naming.specs.Binding.{OnName}
use Rattle.naming.specs.Judges.{Desk, Kept, Setting, Ready, Lying, Coded, ExprAnswers, names, meant, vals_of, text_of}
use Rattle.naming.specs.declared.world.World.{World}
use Rattle.program.proofs.CodeLaws.{code_length, bindings_length}
use Rattle.program.specs.Compiling.{code, compile, compile_bindings, binding_count, let_scope}
use Rattle.program.specs.Programs.{program}
use Rattle.program.specs.Scopes as placed
use Rattle.program.specs.declared.code.Code.{Code}
use Rattle.program.specs.declared.code.Op.TheVariants as op
use Rattle.scopes.proofs.ContextLaws.{context_cut}
use Rattle.script_refusals.specs.declared.refusal.Refused.{Refused}
use Rattle.type_rows.specs.declared.value_type.ValueType.{ValueType}
use Rattle.typing.specs.Judging.{refused, judged, judge, judge_bindings}

module _ (world : World) (script : Script) (set : Setting world script) where
  abbrev ns : List Node
  ns = world.nodes.now

  -- a form that is not a binding's is the body's
  pub body_found : (i j height : ℕ) (old : Desk) (codes : List Code) (bs : Bindings) (e : Expr) → Ready world script old → Bindable world script bs e i j
      → ((w : Word) → (node_found ns i).form ≡ form.Binding w → ⊥) → BindingsAnswers world script bs e i j height old codes (Ok i) old codes
  body_found i j height old codes bs e ready b other = go (node_found ns i).form refl bs e b
    where
      go : (f : NodeForm) → (node_found ns i).form ≡ f → (bs : Bindings) (e : Expr) → lies.Binds (text_of world script) (number_of world script) ns f bs e i j → BindingsAnswers world script bs e i j height old codes (Ok i) old codes
      go f is _ e (c_body ce last) = record {
        type = refl;
        ready = ready;
        depth = omega arith;
        body = subst (λ f. Coded world script f e i) (sym is) ce;
        past = last;
        at = omega arith;
        lying = λ G lying. record { among = lying.among; size = omega (arith, lying.size); few = omega (arith, lying.few); low = lying.low };
        noted = λ G lying. refl;
      }
      go f is _ e (c_binding {w = w} place spells cd last rest) = absurd (other w is)

  -- The binding at node i, and those behind it.
  module _ (i j height : ℕ) (node : Node) (is : node ≡ node_found ns i) (w : Word) (binds : node.form ≡ form.Binding w) (d0 : Desk) (ready : Ready world script d0) (codes1 : List Code) where
    abbrev BindsHere : Bindings → Expr → Type 0
    BindsHere bs e = lies.Binds (text_of world script) (number_of world script) ns (form.Binding w) bs e i j

    pub here : (bs : Bindings) (e : Expr) → Bindable world script bs e i j → BindsHere bs e
    here bs e b = subst (λ f. lies.Binds (text_of world script) (number_of world script) ns f bs e i j) (sym (ap (λ (n : Node). n.form) is) ∙ binds) b

    pub bound_stopped : {bs : Bindings} {e : Expr} (r : Refused) (d1 : Desk) (codes2 : List Code) → BindsHere bs e → OnExpr world (i + 1) height d0 codes1 (Err r) d1 codes2
        → judge_bindings (program script) (vals_of world script) bs (names world script d0) ≡ refused r
    bound_stopped r d1 codes2 (c_body ce last) part = elim ce [ ]
    bound_stopped r d1 codes2 (c_binding {p = p} {x = x} {d = d} {e = e} {bs = bs} place spells cd last rest) part = binding_refused (program script) (vals_of world script) p x d bs (names world script d0) r (part script d set ready cd)

    module _ (kind : ValueType) (d1 : Desk) (codes2 : List Code) (part : OnExpr world (i + 1) height d0 codes1 (Ok kind) d1 codes2) (k : Kept d0 d1) (d2 : Desk) where
      pub name_refused : {bs : Bindings} {e : Expr} (r : Refused) → BindsHere bs e → OnName world w kind height d1 (Err r) d2 → judge_bindings (program script) (vals_of world script) bs (names world script d0) ≡ refused r
      name_refused r (c_body ce last) name = elim ce [ ]
      name_refused r (c_binding {p = p} {x = x} {d = d} {e = e} {bs = bs} place spells cd last rest) name =
          let y = part script d set ready cd in
          let r1 = kept_ready world script d0 d1 k ready in
          binding_goes (program script) (vals_of world script) p x d bs (names world script d0) (names world script d1) (meant world script kind) y.type
          ∙ name script x set r1 y.valid spells (judge_bindings (program script) (vals_of world script) bs)

      pub name_went : {bs : Bindings} {e : Expr} (codes codes3 : List Code) (next high : ℕ) (result : Result ℕ Refused) (d3 : Desk) → BindsHere bs e → OnName world w kind height d1 (Ok tt) d2
          → codes1 ≡ slice_set codes i (code op.Binding node.place node.past) → Behind ns next i → (height ≤ 131072 → high ≡ height + 1) → OnBindings world next high d2 codes2 result d3 codes3
          → BindingsAnswers world script bs e i j height d0 codes result d3 codes3
      name_went codes codes3 next high result d3 (c_body ce last) name begun at up more = elim ce [ ]
      name_went codes codes3 next high result d3 (c_binding {p = p} {x = x} {d = d} {e = e} {bs = bs} place spells cd last rest) name begun at up more =
          let few = set.few in
          let y = part script d set ready cd in
          let r1 = kept_ready world script d0 d1 k ready in
          let one = name script x set r1 y.valid spells in
          let inside = coded_low world script d (i + 1) cd in
          let size = code_size (text_of world script) (number_of world script) ns cd in
          let past_is : (node_found ns i).past ≡ i + 1 + expr_nodes d = sym last ∙ size in
          let a = at in
          let next_is : next ≡ (node_found ns i).past = omega arith in
          let all = more script bs e j set one.ready (subst (λ n. Bindable world script bs e n j) (sym next_is) rest) in
          go result y.type (λ G. y.noted G) all next_is past_is few inside
        where
          go : (result : Result ℕ Refused) → judge (program script) (vals_of world script) d (names world script d0) ≡ judged (meant world script kind) (names world script d1)
              → ((G : placed.Scope) → Lying world script d0 G height (i + 1) → codes2 ≡ puts codes1 (i + 1) (compile (program script) G (i + 1) d))
              → BindingsAnswers world script bs e next j high d2 codes2 result d3 codes3 → next ≡ (node_found ns i).past → (node_found ns i).past ≡ i + 1 + expr_nodes d → length ns ≤ 4096 → i + 1 < length ns
              → BindingsAnswers world script (and_binding p x d bs) e i j height d0 codes result d3 codes3
          go (Err r) type noted all next_is past_is few inside =
              let r1 = kept_ready world script d0 d1 k ready in
              let one = name script x set r1 (part script d set ready cd).valid spells in
              binding_goes (program script) (vals_of world script) p x d bs (names world script d0) (names world script d1) (meant world script kind) type
              ∙ one.type (judge_bindings (program script) (vals_of world script) bs) ∙ all
          go (Ok b) type noted all next_is past_is few inside =
              let r1 = kept_ready world script d0 d1 k ready in
              let one = name script x set r1 (part script d set ready cd).valid spells in
              let depth1 = one.depth in
              let depth2 = all.depth in
              let depth0 = k.depth in
              record {
                type = binding_goes (program script) (vals_of world script) p x d bs (names world script d0) (names world script d1) (meant world script kind) type
                    ∙ one.type (judge_bindings (program script) (vals_of world script) bs) ∙ all.type;
                ready = all.ready;
                depth = omega arith;
                body = all.body;
                past = all.past;
                at = let at = all.at in omega arith;
                lying = λ G lying.
                    let l = under G lying in
                    subst (λ h. Lying world script d3 (let_scope bs (Some x.bytes ∷ G)) h b) (omega (arith, high_is G lying)) (all.lying (Some x.bytes ∷ G) l);
                noted = λ G lying.
                    let l0 = kept_lying world script d0 d0 (kept_self d0) G height i (i + 1) (omega arith) (omega arith) lying in
                    let length_d = code_length (program script) d G (i + 1) in
                    let D = compile (program script) G (i + 1) d in
                    let rest_codes = compile_bindings (program script) (Some x.bytes ∷ G) next bs in
                    let ep : node.place ≡ p = ap (λ (n : Node). n.place) is ∙ place in
                    let eq : node.past ≡ i + (1 + expr_nodes d) = ap (λ (n : Node). n.past) is ∙ omega arith in
                    let e0 : code op.Binding node.place node.past ≡ code op.Binding p (i + (1 + expr_nodes d)) = cc (ep, eq) in
                    let en : next ≡ i + (1 + expr_nodes d) = omega arith in
                    let h = puts_two codes1 codes2 codes3 (i + 1) next D rest_codes (noted G l0) (all.noted (Some x.bytes ∷ G) (under G lying)) (omega arith) in
                    h ∙ ap (λ s. puts s (i + 1) (D ++ rest_codes)) (begun ∙ ap (slice_set codes i) e0)
                    ∙ ap (λ n. puts (slice_set codes i (code op.Binding p (i + (1 + expr_nodes d)))) (i + 1) (D ++ compile_bindings (program script) (Some x.bytes ∷ G) n bs)) en;
              }
            where
              high_is : (G : placed.Scope) → Lying world script d0 G height i → high ≡ height + 1
              high_is G lying = let few = lying.few in let low = lying.low in let small = ready.few in up (omega arith)

              under : (G : placed.Scope) → Lying world script d0 G height i → Lying world script d2 (Some x.bytes ∷ G) high next
              under G lying =
                  let few = set.few in
                  let behind = bindable_low world script bs e next j (subst (λ n. Bindable world script bs e n j) (sym next_is) rest) in
                  let l1 = kept_lying world script d0 d1 k G height i next (omega arith) (omega arith) lying in
                  let r1 = kept_ready world script d0 d1 k ready in
                  let one = name script x set r1 (part script d set ready cd).valid spells in
                  subst (λ h. Lying world script d2 (Some x.bytes ∷ G) h next) (sym (high_is G lying)) (one.lying G next next (omega arith) (omega arith) l1)

  -- A let at node i.
  module _ (i height : ℕ) (node : Node) (is : node ≡ node_found ns i) (d0 : Desk) (ready : Ready world script d0) (codes : List Code) where
    pub let_stopped : {e : Expr} (r : Refused) (d1 : Desk) (codes1 : List Code) → Coded world script form.Let e i → OnBindings world (i + 1) height d0 codes (Err r) d1 codes1
        → judge (program script) (vals_of world script) e (names world script d0) ≡ refused r
    let_stopped r d1 codes1 (c_let {p = p} {bs = bs} {e = e} place binds) part = let_refused (program script) (vals_of world script) p bs e (names world script d0) r (part script bs e (node_found ns i).past set ready binds)

    pub let_went : {e : Expr} (b bound high : ℕ) (d1 d2 : Desk) (codes1 codes2 codes3 : List Code) (result : Result ValueType Refused) → Coded world script form.Let e i → OnBindings world (i + 1) height d0 codes (Ok b) d1 codes1
        → bound ≡ d1.depth - d0.depth → (height ≤ 131072 → bound ≤ 64 → high ≡ height + bound) → (n : ℕ) → (bound ≤ 64 → n ≡ bound) → codes2 ≡ slice_set codes1 i (code (op.Let n) node.place node.past)
        → OnExpr world b high d1 codes2 result d2 codes3 → Kept d1 d2 → ExprAnswers world script e i height d0 codes result (record d2 { depth = d0.depth }) codes3
    let_went b bound high d1 d2 codes1 codes2 codes3 result (c_let {p = p} {bs = bs} {e = e} place binds) part bound_is up n cast begun body k =
        let y = part script bs e (node_found ns i).past set ready binds in
        let z = body script e set y.ready y.body in
        let whole : Coded world script form.Let (let_expr p bs e) i = c_let place binds in
        go result y z (ap (λ (n : Node). n.place) is ∙ place) (ap (λ (n : Node). n.past) is ∙ code_size (text_of world script) (number_of world script) ns whole)
      where
        go : (result : Result ValueType Refused) → LetBound world script bs e (i + 1) (node_found ns i).past height d0 codes b d1 codes1 → ExprAnswers world script e b high d1 codes2 result d2 codes3
            → node.place ≡ p → node.past ≡ i + expr_nodes (let_expr p bs e) → ExprAnswers world script (let_expr p bs e) i height d0 codes result (record d2 { depth = d0.depth }) codes3
        go (Err r) y z ep eq = let_body_refused (program script) (vals_of world script) p bs e (names world script d0) (names world script d1) y.type r z
        go (Ok kind) y z ep eq =
            let few = set.few in
            let depth1 = y.depth in
            let depth2 = k.depth in
            let count_is : bound ≡ binding_count bs = omega arith in
            let body_low = coded_low world script e b y.body in
            let small = y.ready.few in
            record {
              type = let_judged (program script) (vals_of world script) p bs e (names world script d0) (names world script d1) y.type (meant world script kind) (names world script d2) z.type
                  ∙ ap (judged (meant world script kind)) (context_cut (text_of world script) (meaning_in script) d2.locals d2.marks (binding_count bs) d0.depth d2.depth (omega arith));
              valid = z.valid;
              noted = λ G lying.
                  let l0 = kept_lying world script d0 d0 (kept_self d0) G height i (i + 1) (omega arith) (let at = y.at in omega arith) lying in
                  let l1 = y.lying G l0 in
                  let height_few = lying.few in
                  let low = lying.low in
                  let small0 = ready.few in
                  let high_is : high ≡ height + binding_count bs = up (omega arith) (omega arith) ∙ ap (λ c. height + c) count_is in
                  let l2 = subst (λ h. Lying world script d1 (let_scope bs G) h b) (sym high_is) l1 in
                  let size = bindings_length (program script) bs G (i + 1) in
                  let BS = compile_bindings (program script) G (i + 1) bs in
                  let E = compile (program script) (let_scope bs G) b e in
                  let e0 : code (op.Let n) node.place node.past ≡ code (op.Let (binding_count bs)) p (i + expr_nodes (let_expr p bs e)) = let en : n ≡ binding_count bs = cast (omega arith) ∙ count_is in cc (en, ep, eq) in
                  let c0 = code (op.Let (binding_count bs)) p (i + expr_nodes (let_expr p bs e)) in
                  let h1 : codes2 ≡ puts (slice_set codes i c0) (i + 1) BS = begun ∙ ap (slice_set codes1 i) e0 ∙ ap (λ cs. slice_set cs i c0) (y.noted G l0) ∙ set_puts codes i (i + 1) c0 BS (omega arith) in
                  let at = y.at in
                  puts_two (slice_set codes i c0) codes2 codes3 (i + 1) b BS E h1 (z.noted (let_scope bs G) l2) (omega arith)
                  ∙ ap (λ n. puts (slice_set codes i c0) (i + 1) (BS ++ compile (program script) (let_scope bs G) n e)) at;
            }
